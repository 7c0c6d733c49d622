use mathlib.Core.Path.{◌≡◌, refl}
use mathlib.Core.Bool.{Bool, true, false, not}
use borrow.Author.Tests.{lt-ltb, le-ltb}
use Rattle.meaning.specs.Base.{test◌then◌else◌}
use Rattle.frames.specs.Env.{tells_cell}
use Rattle.frames.proofs.tells.Goals as goal

unlike : (q : Bool) → not q ≡ (test q then false else true)
unfolding test◌then◌else◌
unlike true = refl
unlike false = refl

pub returns-then-v-gt-UNKNOWN : goal.returns-then-v-gt-UNKNOWN
unfolding tells_cell test◌then◌else◌
returns-then-v-gt-UNKNOWN c =
    rw (lt-ltb _ _ c.if-v-gt-UNKNOWN.true) (unlike _)

pub returns-else-v-gt-UNKNOWN : goal.returns-else-v-gt-UNKNOWN
unfolding tells_cell test◌then◌else◌
returns-else-v-gt-UNKNOWN c =
    rw (le-ltb _ _ c.if-v-gt-UNKNOWN.false)
