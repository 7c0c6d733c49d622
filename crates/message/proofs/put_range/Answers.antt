use Rattle.meaning.specs.Base.{bytes, decimal}
use Rattle.message.proofs.Writing.{left_front, left_last}
use Rattle.message.proofs.Filling.{range_room, range_first, range_second}
use Rattle.message.proofs.put_range.Goals as goal

pub put_decimal-dash-requires : goal.put_decimal-dash-requires
put_decimal-dash-requires c =
    range_room c.args.out.now _ _ _ c.requires

pub put-second-requires : goal.put-second-requires
unfolding bytes
put-second-requires c =
    left_front (bytes "-") (decimal c.args.q) (range_first _ _ _ _ c.requires c.put_decimal-dash.ensures.buf_after c.put_decimal-dash.ensures.value)

pub put_decimal-requires : goal.put_decimal-requires
unfolding bytes
put_decimal-requires c =
    (range_second _ _ _ _ c.requires c.put_decimal-dash.ensures.buf_after c.put_decimal-dash.ensures.value c.put-second.ensures.buf_after c.put-second.ensures.value).fits

pub returns-clause-out_after : goal.returns-clause-out_after
unfolding bytes
returns-clause-out_after c =
    (left_last _ (range_second _ _ _ _ c.requires c.put_decimal-dash.ensures.buf_after c.put_decimal-dash.ensures.value c.put-second.ensures.buf_after c.put-second.ensures.value) c.put_decimal.ensures.buf_after c.put_decimal.ensures.value).0

pub returns-clause-value : goal.returns-clause-value
unfolding bytes
returns-clause-value c =
    (left_last _ (range_second _ _ _ _ c.requires c.put_decimal-dash.ensures.buf_after c.put_decimal-dash.ensures.value c.put-second.ensures.buf_after c.put-second.ensures.value) c.put_decimal.ensures.buf_after c.put_decimal.ensures.value).1
