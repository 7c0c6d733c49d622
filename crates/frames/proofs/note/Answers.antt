use mathlib.Core.Path.{sym, ◌∙◌}
use borrow.Author.Tests.{eq-eqb, ne_eqb}
use Rattle.meaning.specs.Base.{test◌then◌else◌}
use Rattle.frames.specs.Env.{note_cell}
use Rattle.frames.proofs.note.Goals as goal
use Rattle.frames.proofs.note.Goals.{else-tells-via-then-tells+else-m-eq-ABSENT, else-tells-via-else-tells}

pub returns-then-m-eq-ABSENT : goal.returns-then-m-eq-ABSENT
unfolding note_cell test◌then◌else◌
returns-then-m-eq-ABSENT c =
    rw (sym c.tells.ensures ∙ c.if-tells.true, eq-eqb _ _ c.if-m-eq-ABSENT.true)

pub returns-else-tells : goal.returns-else-tells
unfolding note_cell test◌then◌else◌
returns-else-tells c =
    elim c.else-tells.branch [
      | else-tells-via-then-tells+else-m-eq-ABSENT w ↦ rw (sym c.tells.ensures ∙ w.if-tells.true, ne_eqb _ _ w.if-m-eq-ABSENT.false)
      | else-tells-via-else-tells w ↦ rw (sym c.tells.ensures ∙ w.if-tells.false)
    ]
