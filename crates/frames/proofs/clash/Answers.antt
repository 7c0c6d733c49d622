use mathlib.Core.Path.{◌≡◌, refl, sym, ◌∙◌}
use mathlib.Core.Bool.{Bool, true, false, not, ◌&&◌}
use Prim.Native.Nat.{ℕ}
use lib.Dec.{eqb}
use Rattle.meaning.specs.Base.{test◌then◌else◌}
use Rattle.frames.specs.Env.{type_in, tells_cell, clash_cell}
use Rattle.frames.proofs.clash.Goals as goal
use Rattle.frames.proofs.clash.Goals.{then-tells, else-tells}

-- as the code tests it
clash_before : (b v m : ℕ) → true ≡ clash_cell b v m true
unfolding clash_cell test◌then◌else◌
clash_before b v m = by (tells_cell b v) (eqb (type_in m) 0) (eqb (type_in m) (type_in v))
  where
    by : (p q r : Bool) → true ≡ (test p then (test q then true else test r then true else true) else true)
    by false q r = refl
    by true true r = refl
    by true false true = refl
    by true false false = refl

clash_now : (b v m : ℕ) → clash_cell b v m false ≡ (tells_cell b v && not (eqb (type_in m) 0) && not (eqb (type_in m) (type_in v)))
unfolding clash_cell test◌then◌else◌
clash_now b v m = by (tells_cell b v) (eqb (type_in m) 0) (eqb (type_in m) (type_in v))
  where
    by : (p q r : Bool) → (test p then (test q then false else test r then false else true) else false) ≡ (p && not q && not r)
    by false q r = refl
    by true true r = refl
    by true false true = refl
    by true false false = refl

pub returns-then-c : goal.returns-then-c
returns-then-c c =
    rw c.if-c.true (clash_before _ _ _)

pub returns-then-m-ne-ABSENT : goal.returns-then-m-ne-ABSENT
returns-then-m-ne-ABSENT c =
    rw (c.if-c.false, clash_now, ← c.tells.ensures) (elim c.if-tells.branch [
      | then-tells w ↦ let v = sym w.value-is ∙ c.if-m-ne-ABSENT.true in rw (w.if-tells.true, v)
      | else-tells w ↦ cc
    ])

pub returns-else-m-ne-ABSENT : goal.returns-else-m-ne-ABSENT
returns-else-m-ne-ABSENT c =
    rw (c.if-c.false, clash_now, ← c.tells.ensures) (elim c.if-tells.branch [
      | then-tells w ↦ let v = sym w.value-is ∙ c.if-m-ne-ABSENT.false in rw (w.if-tells.true, v) c.if-m-ne-ABSENT.false
      | else-tells w ↦ rw w.if-tells.false c.if-m-ne-ABSENT.false
    ])
