use Rattle.sheet.proofs.Typing.{loop_first, loop_typing, loop_small, loop_next, loop_end}
use mathlib.Core.Path.{refl, ◌∙◌}
use native.Mathlib.Omega.{arith}
use Rattle.sheet.proofs.reader.read_types.Goals as goal

pub loop-k-init : goal.loop-k-init
loop-k-init c =
    (loop_first c.args.sheet.now.headed.bounds c.requires.wf c.requires.most_numbers_bound (omega arith) c.args.sheet.now.headed.types_is, refl)

pub read_type-requires : goal.read_type-requires
read_type-requires c =
    loop_typing c.loop-k.invariant.0 (omega arith)

pub overflow_cast-numbers : goal.overflow_cast-numbers
overflow_cast-numbers c =
    omega (arith, loop_small c.loop-k.invariant.0 c.in_ok-r.ensures)

pub loop-k-preserved : goal.loop-k-preserved
loop-k-preserved c =
    (loop_next c.loop-k.invariant.0 (omega arith) c.in_ok-r.ensures, c.read_type.auto.table ∙ c.loop-k.invariant.1)

pub returns : goal.returns
returns c =
    loop_end c.loop-k.invariant.0 (λ h. absurd (omega arith))
