-- What a turn of a loop over texts does: a text, or two, from a place on. Assumes nothing.
use mathlib.Core.Bool.{Bool, true, false}
use mathlib.Core.List.{List, []}
use mathlib.Core.Path.{◌≡◌, refl}
use Prim.Native.Nat.{ℕ, ◌+◌, ◌<◌, ◌≤◌}
use native.Mathlib.Numerals.{add-one}
use lib.Dec.{ltb}
use lib.ListN.{length, get_or, drop, drop_of_length-le}
use lib.Seq.{drop-cons}
use borrow.Author.Tests.{eq-eqb, ne_eqb, ltb-true, ltb-false}
use Rattle.meaning.specs.Base.{◌and◌, test◌then◌else◌, all, before}

module _ (a b : List ℕ) (i : ℕ) where
  pub before_short : length b ≤ i → before (drop i a) (drop i b) ≡ false
  unfolding before
  before_short hb = rw (drop_of_length-le b hb)

  pub before_end : length a ≤ i → before (drop i a) (drop i b) ≡ ltb i (length b)
  unfolding before
  before_end ha = rw (drop_of_length-le a ha) (by (ltb i (length b)) refl)
    where
      by : (t : Bool) → ltb i (length b) ≡ t → before [] (drop i b) ≡ ltb i (length b)
      by true e = rw (e, drop-cons b i 0 (ltb-true _ _ e))
      by false e = rw (e, drop_of_length-le b (ltb-false _ _ e))

  module _ (ha : i < length a) (hb : i < length b) where
    pub before_differ : (get_or a i 0 ≡ get_or b i 0 → ⊥) → before (drop i a) (drop i b) ≡ ltb (get_or a i 0) (get_or b i 0)
    unfolding before test◌then◌else◌
    before_differ n = rw (drop-cons a i 0 ha, drop-cons b i 0 hb, ne_eqb _ _ n)

    pub before_agree : get_or a i 0 ≡ get_or b i 0 → before (drop i a) (drop i b) ≡ before (drop (i + 1) a) (drop (i + 1) b)
    unfolding before test◌then◌else◌
    before_agree e = rw (drop-cons a i 0 ha, drop-cons b i 0 hb, eq-eqb _ _ e, add-one)

-- ---- a test of each element

module _ (f : ℕ → Bool) (s : List ℕ) (i : ℕ) where
  pub all_end : length s ≤ i → all f (drop i s) ≡ true
  unfolding all
  all_end h = rw (drop_of_length-le s h)

  pub all_fails : i < length s → f (get_or s i 0) ≡ false → all f (drop i s) ≡ false
  unfolding all ◌and◌
  all_fails h e = rw (drop-cons s i 0 h, e)

  pub all_next : i < length s → f (get_or s i 0) ≡ true → all f (drop i s) ≡ all f (drop (i + 1) s)
  unfolding all ◌and◌
  all_next h e = rw (drop-cons s i 0 h, e, add-one)
