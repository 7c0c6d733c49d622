-- Where a record's words stand in the image. Assumes nothing.
use mathlib.Core.Path.{◌≡◌}
use mathlib.Core.Bool.{true}
use mathlib.Core.Option.{none}
use mathlib.Core.List.{List, []}
use Prim.Native.Nat.{ℕ, ◌+◌, ◌*◌, ◌<◌, ◌≤◌}
use native.Mathlib.Omega.{arith}
use lib.ListN.{length, take, drop, get_or-map, length-drop}
use lib.Seq.{drop-drop, take_all}
use borrow.Author.Tests.{leb-true}
use Rattle.meaning.specs.Base.{choose, test◌then◌else◌}
use Rattle.meaning.specs.Image.{name_record, name_records, texts_of, name_from, role_of, names_of, name_of, name_count, node_count, text_count, names_from, nodes_from, texts_from, total, head_stands, broken_name}
use Rattle.meaning.specs.Image.{Name}
use Rattle.meaning.proofs.Choices.{and_left}
use Rattle.meaning.proofs.Faults.{Headed, sizes}
use Rattle.meaning.proofs.Nesting.{records_count}
use Rattle.meaning.proofs.Records.{record_at}
use Rattle.image.specs.declared.NameAt.{NameAt}
use Rattle.image.specs.Parts.{record_of, name_means}
use Rattle.image.proofs.Searches.{names_fit}

-- ---- names

pub record_of_lem : (bs : List ℕ) (k : ℕ) → k < name_count bs → record_of (name_records bs) k ≡ name_record (drop (32 + 20 * k) bs)
unfolding record_of name_records
record_of_lem bs k h = record_at name_record 20 (name_count bs) names_from bs k _ h

-- a name is what its record says, whatever its number
pub name_of_lem : (bs : List ℕ) (k : ℕ) → name_of (names_of bs) k ≡ name_from (texts_of bs) (record_of (name_records bs) k)
unfolding name_of names_of record_of name_from role_of choose test◌then◌else◌
name_of_lem bs k = get_or-map (name_from (texts_of bs)) (name_records bs) k _

-- ---- what the header gives

pub head_length : (bs : List ℕ) → head_stands bs ≡ true → 32 ≤ length bs
unfolding head_stands
head_length bs e = leb-true 32 _ (and_left _ _ e)

pub head_long : {bs : List ℕ} → Headed bs → 32 ≤ length bs
head_long {bs} h = head_length bs h.head

pub node_inside : {bs : List ℕ} → Headed bs → (i : ℕ) → i < node_count bs → nodes_from bs + 24 * i + 24 ≤ length bs
unfolding total texts_from
node_inside h i l = omega (arith, sizes h)

pub name_inside : {bs : List ℕ} → Headed bs → (k : ℕ) → k < name_count bs → 32 + 20 * k + 20 ≤ length bs
unfolding total texts_from nodes_from
name_inside h k l = omega (arith, sizes h)

pub text_inside : {bs : List ℕ} → Headed bs → texts_from bs + text_count bs ≡ length bs
unfolding total
text_inside h = omega (arith, sizes h)

-- ---- a name's text and role

texts_all : {bs : List ℕ} → Headed bs → texts_of bs ≡ drop (texts_from bs) bs
unfolding texts_of
texts_all {bs} h = take_all (text_count bs) _ (rw length-drop (omega (arith, text_inside h)))

pub texts_count : {bs : List ℕ} → Headed bs → length (texts_of bs) ≡ text_count bs
texts_count {bs} h = rw (texts_all h, length-drop) (omega (arith, text_inside h))

module _ {bs : List ℕ} (h : Headed bs) (stand : broken_name bs ≡ none) (k : ℕ) (l : k < name_count bs) where
  pub text_fits : (record_of (name_records bs) k).start + (record_of (name_records bs) k).size ≤ text_count bs
  unfolding broken_name
  text_fits = rw (texts_count h) at (names_fit (texts_of bs) 0 0 [] (name_records bs) stand k (rw records_count l))

pub text_of : {bs : List ℕ} → Headed bs → (k : ℕ)
    → (name_of (names_of bs) k).spelling
    ≡ take (record_of (name_records bs) k).size (drop (texts_from bs + (record_of (name_records bs) k).start) bs)
unfolding name_from
text_of {bs} h k = rw (name_of_lem bs k, texts_all h, drop-drop)

module _ (bs : List ℕ) (k : ℕ) {r : NameAt} (e : name_means r ≡ record_of (name_records bs) k) where
  pub role_of_lem : role_of (name_means r) ≡ (name_of (names_of bs) k).role
  unfolding name_from
  role_of_lem = rw (e, name_of_lem bs k)

  pub name_is : {t : List ℕ} → t ≡ (name_of (names_of bs) k).spelling → ◌≡◌ {A = Name} (record { spelling = t; role = role_of (name_means r) }) (name_of (names_of bs) k)
  name_is p = rw (p, role_of_lem)
