-- Where a record's words stand in the image. Assumes nothing.
use mathlib.Core.Path.{◌≡◌, ◌∙◌, sym}
use mathlib.Core.List.{List}
use Prim.Native.Nat.{ℕ, zero, suc, ◌+◌, ◌*◌, ◌<◌}
use native.Mathlib.Nat.{add-zero, add_assoc, mul-zero, mul-suc, not-suc-le-zero, le_of_suc-le-suc}
use native.Mathlib.Omega.{arith}
use lib.ListN.{get_or, drop}
use lib.Seq.{drop-drop, get_or-drop, ext_get_or}
use Rattle.meaning.specs.Base.{word, records}
use Rattle.meaning.specs.Image.{name_record, node, nodes_of, node_of, node_count, nodes_from}
use Rattle.meaning.proofs.Choices.{records_many}

-- record i of those that stand one after the other from a place on
pub record_at : {A : Type 0} (read : List ℕ → A) (size n from : ℕ) (bs : List ℕ) (i : ℕ) (d : A) → i < n
    → get_or (records read size n (drop from bs)) i d ≡ read (drop (from + size * i) bs)
unfolding records
record_at read size zero from bs i d h = absurd (not-suc-le-zero h)
record_at read size (suc n) from bs zero d h = rw (mul-zero, add-zero)
record_at read size (suc n) from bs (suc i) d h =
    let further : from + size * suc i ≡ from + size + size * i = omega (arith, mul-suc size i) in
    rw (further, drop-drop) (record_at read size n (from + size) bs i d (le_of_suc-le-suc h))

-- two byte strings whose records are alike one by one
pub records_alike : {A : Type 0} (read : List ℕ → A) (size n from : ℕ) (bs cs : List ℕ) (d : A)
    → ((i : ℕ) → i < n → read (drop (from + size * i) bs) ≡ read (drop (from + size * i) cs))
    → records read size n (drop from bs) ≡ records read size n (drop from cs)
records_alike read size n from bs cs d h =
    ext_get_or d _ _ (records_many read size n _ ∙ sym (records_many read size n _))
    (λ i l. let m : i < n = rw (records_many read size n (drop from bs)) at l in
    record_at read size n from bs i d m ∙ h i m ∙ sym (record_at read size n from cs i d m))

-- a word of what is left from a place on
pub word_drop : (bs : List ℕ) (at k : ℕ) → word (drop at bs) k ≡ word bs (at + k)
word_drop bs at k = simp (get_or-drop, add_assoc)

pub first_word : (bs : List ℕ) (at : ℕ) → word (drop at bs) 0 ≡ word bs at
first_word bs at = simp (get_or-drop, add-zero)

pub name_words : (bs : List ℕ) (at : ℕ) → name_record (drop at bs) ≡ record {
  start = word bs at;
  size = word bs (at + 4);
  role = word bs (at + 8);
  p = word bs (at + 12);
  q = word bs (at + 16);
}
unfolding name_record
name_words bs at =
    rw (first_word bs at, word_drop bs at 4, word_drop bs at 8, word_drop bs at 12, word_drop bs at 16)

pub node_words : (bs : List ℕ) (at : ℕ) → node (drop at bs) ≡ record {
  kind = word bs at;
  arg = word bs (at + 4);
  children = word bs (at + 8);
  stop = word bs (at + 12);
  span_start = word bs (at + 16);
  span_end = word bs (at + 20);
}
unfolding node
node_words bs at =
    rw (first_word bs at, word_drop bs at 4, word_drop bs at 8, word_drop bs at 12, word_drop bs at 16, word_drop bs at 20)

pub node_at : (bs : List ℕ) (i : ℕ) → i < node_count bs → node_of (nodes_of bs) i ≡ node (drop (nodes_from bs + 24 * i) bs)
unfolding node_of nodes_of
node_at bs i h = record_at node 24 (node_count bs) (nodes_from bs) bs i _ h
