use Rattle.meaning.specs.Base.{bytes}
use Rattle.line.proofs.Pieces.{number_fits, number_wrote, number_ends}
use native.Mathlib.Omega.{arith}
use Rattle.line.proofs.put_spaced.Goals as goal

pub put-number-requires : goal.put-number-requires
unfolding bytes
put-number-requires c =
    omega (arith, c.requires)

pub put_decimal-requires : goal.put_decimal-requires
unfolding bytes
put_decimal-requires c =
    number_fits c.args.out.now c.args.at _ c.requires c.put-number.ensures.buf_after c.put-number.ensures.value

pub returns-clause-wrote : goal.returns-clause-wrote
unfolding bytes
returns-clause-wrote c =
    number_wrote _ _ _ c.requires c.put-number.ensures.buf_after c.put-number.ensures.value c.put_decimal.ensures.buf_after c.put_decimal.ensures.value

pub returns-clause-upper_bound : goal.returns-clause-upper_bound
unfolding bytes
returns-clause-upper_bound c =
    number_ends c.args.out.now c.args.at _ c.requires c.put-number.ensures.buf_after c.put-number.ensures.value c.put_decimal.ensures.value
