-- The types that a table holds: no two are equal, with each type stand its parts, and their Tuples have no more elements together than
-- are in use.
use mathlib.Core.Path.{◌≡◌, ap, ◌∙◌}
use mathlib.Core.List.{map}
use Prim.Native.Nat.{ℕ, zero, suc, ◌+◌, ◌-◌, ◌≤◌, ◌<◌}
use native.Mathlib.Omega.{arith}
use native.Mathlib.Decide.{ℕ_discrete}
use borrow.Author.Tests.{ne_eqb}
use lib.Dec.{eqb}
use lib.ListN.{length, length-append}
use Rattle.meaning.specs.Base.{count, test◌then◌else◌}
use Rattle.meaning.specs.Sheet.{elements_in, elements_of}
use Rattle.types.specs.Table.{Tab, kind_at, second_at, tupled, denote, Wf}
use Rattle.types.proofs.Laws.{kind_of, parts_many}

module _ {t : Tab} (w : Wf t) where
  own_elements : (i : ℕ) → i < t.n → length (elements_in (denote t i)) ≡ (test eqb (kind_at t i) 10 then second_at t i else 0)
  unfolding elements_in test◌then◌else◌
  own_elements i h = rw (kind_of w i h) (elim (ℕ_discrete (kind_at t i) 10) [
    | yes e ↦ rw e (parts_many w i h e)
    | no n ↦ rw (ne_eqb (kind_at t i) 10 n)
  ])

  elements_from : (i k : ℕ) → i + k ≤ t.n → length (elements_of (map (denote t) (count i k))) + tupled t.cells i ≡ tupled t.cells (i + k)
  unfolding count elements_of tupled
  elements_from i zero h = let e : i + 0 ≡ i = omega arith in omega (arith, ap (tupled t.cells) e)
  elements_from i (suc k) h =
      let e : suc i + k ≡ i + suc k = omega arith in
      let r : length (elements_of (map (denote t) (count (suc i) k))) + tupled t.cells (suc i) ≡ tupled t.cells (i + suc k) =
      elements_from (suc i) k (omega arith) ∙ ap (tupled t.cells) e in
      omega (arith, length-append (elements_in (denote t i)) (elements_of (map (denote t) (count (suc i) k))), own_elements i (omega arith), r)

  -- of the structured types alone
  pub elements_few : length (elements_of (map (denote t) (count 8 (t.n - 8)))) ≤ t.m
  elements_few =
      let e : 8 + (t.n - 8) ≡ t.n = omega (arith, w.base) in
      omega (arith, elements_from 8 (t.n - 8) (omega (arith, w.base)), ap (tupled t.cells) e, w.apart)
