use Rattle.std.proofs.Common.{arith}
use Rattle.words.proofs.Steps.{decimal_long}
use Rattle.words.proofs.decimal_length.Goals as goal

pub returns-clause-value : goal.returns-clause-value
returns-clause-value c =
    let low = rw c.max.ensures at c.ilog10.ensures.power_le in
    let high = rw c.max.ensures at c.ilog10.ensures.next_power_gt in
    decimal_long c.args.n c.ilog10.result (omega arith) low high
