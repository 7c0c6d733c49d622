use Rattle.sheet.proofs.Reading.{told_yes, told_not}
use Rattle.sheet.proofs.Naming.{names_first, names_next, names_end}
use native.Mathlib.Omega.{arith}
use Rattle.sheet.proofs.reader.read_names.Goals as goal

pub loop-k-init : goal.loop-k-init
loop-k-init c =
    names_first

pub returns-then-not-read_name : goal.returns-then-not-read_name
returns-then-not-read_name c =
    told_not c.read_name.ensures c.if-not-read_name.true

pub loop-k-preserved : goal.loop-k-preserved
loop-k-preserved c =
    names_next c.loop-k.invariant (c.read_name.ensures.yes c.if-not-read_name.false)

pub returns : goal.returns
returns c =
    told_yes (names_end c.loop-k.invariant (omega arith) (λ h. absurd (omega arith)))
