use Rattle.meaning.specs.Base.{bytes}
use Rattle.replay.proofs.Fronts.{start_fits, comma_fits, end_fits, last_fits, second_wrote}
use Rattle.replay.proofs.put_second.Goals as goal

pub put_decimal-comma-requires : goal.put_decimal-comma-requires
unfolding bytes
put_decimal-comma-requires c =
    start_fits c.args.out.now c.args.at c.args.start c.args.end c.requires c.put-first.ensures.buf_after c.put-first.ensures.value

pub put-second-requires : goal.put-second-requires
unfolding bytes
put-second-requires c =
    comma_fits c.args.out.now c.args.at c.args.start c.args.end c.requires c.put-first.ensures.buf_after c.put-first.ensures.value c.put_decimal-comma.ensures.buf_after c.put_decimal-comma.ensures.value

pub put_decimal-last-requires : goal.put_decimal-last-requires
unfolding bytes
put_decimal-last-requires c =
    end_fits c.args.out.now c.args.at c.args.start c.args.end c.requires c.put-first.ensures.buf_after c.put-first.ensures.value c.put_decimal-comma.ensures.buf_after c.put_decimal-comma.ensures.value c.put-second.ensures.buf_after c.put-second.ensures.value

pub put-requires : goal.put-requires
unfolding bytes
put-requires c =
    last_fits c.args.out.now c.args.at c.args.start c.args.end c.requires c.put-first.ensures.buf_after c.put-first.ensures.value c.put_decimal-comma.ensures.buf_after c.put_decimal-comma.ensures.value c.put-second.ensures.buf_after c.put-second.ensures.value c.put_decimal-last.ensures.buf_after c.put_decimal-last.ensures.value

pub returns : goal.returns
unfolding bytes
returns c =
    second_wrote c.args.out.now c.args.at c.args.start c.args.end c.requires c.put-first.ensures.buf_after c.put-first.ensures.value c.put_decimal-comma.ensures.buf_after c.put_decimal-comma.ensures.value c.put-second.ensures.buf_after c.put-second.ensures.value c.put_decimal-last.ensures.buf_after c.put_decimal-last.ensures.value c.put.ensures.buf_after c.put.ensures.value
