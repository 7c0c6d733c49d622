-- A turn of the converter's loop: the first n nodes of the copy are converted. Assumes nothing.
use mathlib.Core.Path.{◌≡◌, refl, ◌∙◌, ap, sym}
use mathlib.Core.Bool.{true, false}
use mathlib.Core.List.{List, [], ◌∷◌}
use Prim.Native.Nat.{ℕ, ◌+◌, ◌*◌, ◌≤◌, ◌<◌}
use native.Mathlib.Numerals.{add-one}
use native.Mathlib.Omega.{arith}
use lib.ListN.{length, get_or, set, drop, length-append, length-set, get_or-append}
use lib.Seq.{get_or-set_other, set-append_left, set-get_or, drop_at}
use Rattle.meaning.specs.Base.{test◌then◌else◌, words}
use Rattle.meaning.specs.Image.{node_count, nodes_from, nodes_of, node_of, is_tree_set}
use Rattle.meaning.specs.Answer.{overlaid}
use Rattle.meaning.specs.Convert.{kind_from, converted_to, converted}
use Rattle.meaning.proofs.Faults.{Headed}
use Rattle.meaning.proofs.Converted.{length_to, record_to, tree_set_word}
use Rattle.words.specs.Words.{put_at}
use Rattle.words.proofs.Steps.{put_four}
use Rattle.words.proofs.Laws.{put_overlaid}
use Rattle.image.proofs.Records.{node_inside}

-- the word 29 over three bytes of 0 is its first byte
put_set : (d : List ℕ) (at : ℕ) → at + 4 ≤ length d → get_or d (at + 1) 0 ≡ 0 → get_or d (at + 2) 0 ≡ 0 → get_or d (at + 3) 0 ≡ 0
    → put_at d at (words (29 ∷ [])) ≡ set d at 29
unfolding words
put_set d at h p q r =
    let e : List ℕ = set d at 29 in
    let other : (k : ℕ) → (k ≡ at → ⊥) → get_or d k 0 ≡ 0 → set e k 0 ≡ e =
    λ k n z. ap (λ v. set e k v) (sym (get_or-set_other d at k 29 0 n ∙ z)) ∙ set-get_or e k 0 in
    sym (put_four d at 29 0 0 0 h)
    ∙ rw (other (at + 1) (λ z. omega arith) p, other (at + 2) (λ z. omega arith) q, other (at + 3) (λ z. omega arith) r)

-- of two texts of one length that are written over a third, the later is left
over_again : (xs ys old : List ℕ) → length xs ≡ length ys → overlaid xs (overlaid ys old) ≡ overlaid xs old
unfolding overlaid
over_again xs ys old e = rw (e, drop_at ys (drop (length ys) old) (length ys) refl)

module _ (bs old : List ℕ) where
  -- the copy before the first turn
  pub turned_none : put_at old 0 bs ≡ overlaid (converted_to bs 0) (put_at old 0 bs)
  unfolding converted_to
  turned_none = rw (put_overlaid old bs) (sym (over_again bs bs old refl))

  -- and after the last: what was written over the copy stands over what was there before it
  pub turned_all : (new : List ℕ) (n : ℕ) → n ≡ node_count bs → new ≡ overlaid (converted_to bs n) (put_at old 0 bs) → new ≡ overlaid (converted bs) old
  unfolding converted
  turned_all new n e p = p ∙ rw (e, put_overlaid old bs) (over_again (converted_to bs (node_count bs)) bs old (length_to bs (node_count bs)))

  module _ (i : ℕ) where
    pub turned_other : is_tree_set (node_of (nodes_of bs) i) ≡ false → overlaid (converted_to bs i) old ≡ overlaid (converted_to bs (i + 1)) old
    unfolding converted_to test◌then◌else◌
    turned_other e = rw (add-one, e)

    module _ (h : Headed bs) (l : i < node_count bs) where
      inside : kind_from bs i + 24 ≤ length (converted_to bs i)
      unfolding kind_from
      inside = rw (length_to bs i) (node_inside h i l)

      byte_is : (k : ℕ) → k < 4 → get_or (overlaid (converted_to bs i) old) (kind_from bs i + k) 0 ≡ get_or bs (kind_from bs i + k) 0
      unfolding overlaid
      byte_is k m = get_or-append (converted_to bs i) _ 0 (kind_from bs i + k) (omega (arith, inside)) ∙ record_to bs i k

      pub turned_tree_set : is_tree_set (node_of (nodes_of bs) i) ≡ true
          → put_at (overlaid (converted_to bs i) old) (nodes_from bs + 24 * i) (words (29 ∷ [])) ≡ overlaid (converted_to bs (i + 1)) old
      unfolding kind_from converted_to test◌then◌else◌ overlaid
      turned_tree_set e =
          let xs : List ℕ = converted_to bs i in
          let at : ℕ = kind_from bs i in
          let w = tree_set_word bs i l e in
          let long : at + 4 ≤ length (overlaid xs old) = rw length-append (omega (arith, inside)) in
          put_set (overlaid xs old) at long (byte_is 1 (omega arith) ∙ omega arith) (byte_is 2 (omega arith) ∙ omega arith) (byte_is 3 (omega arith) ∙ omega arith)
          ∙ set-append_left xs (drop (length xs) old) at 29 (omega (arith, inside))
          ∙ rw (add-one, e, length-set)
