-- Each area of the sheet: what a turn of its loop writes, and that what is left to write makes the whole.
use mathlib.Core.Path.{◌≡◌, refl, sym, ap, ◌∙◌, subst}
use mathlib.Core.List.{List, [], ◌∷◌, ◌++◌, map, map-append, Memᴰ}
use Prim.Native.Nat.{ℕ, zero, suc, ◌+◌, ◌*◌, ◌≤◌, ◌<◌}
use native.Mathlib.Numerals.{add-one}
use native.Mathlib.Omega.{arith}
use native.Mathlib.Decide.{dec_lt, ℕ_discrete}
use borrow.Author.Tests.{eq-eqb, ne_eqb}
use lib.ListN.{length, get_or, take, drop, drop_of_length-le, length-append, length-drop, length-map, get_or-map}
use lib.Seq.{drop-cons, length-take-le}
use Rattle.meaning.specs.Limits.{longest_name}
use Rattle.meaning.specs.Base.{test◌then◌else◌, words}
use Rattle.meaning.specs.Types.{Ty, unknown, kind, parts, part}
use Rattle.meaning.specs.Sheet.{Triple, laid, number, elements_in, elements_of, type_record, type_records}
use Rattle.meaning.proofs.SheetWords.{words_length, laid_length}
use Rattle.meaning.proofs.SheetTypes.{Known, number_plain, number_le}
use Rattle.words.specs.Words.{put_at}
use Rattle.words.proofs.Laws.{put_nil, put_put, put_length, words_append}
use Rattle.types.specs.declared.Kind.{Kind}
use Rattle.types.specs.declared.Kind.TheVariants as the_kind
use Rattle.types.specs.Kinds.{kind_number}
use Rattle.types.specs.Table.{Tab, most_numbers, capacity, denote}
use Rattle.types.specs.Reading.{KindOf, PartOf, PartsOf, HasPart, PartAt}
use Rattle.types.proofs.OfKind.{same_kind}
use Rattle.types.proofs.Parts.{kind_most, parts_few}
use Rattle.types.proofs.Readers.{in_room, has_part}
use Rattle.sheet.specs.declared.writer.Marks.{Marks}
use Rattle.sheet.specs.declared.list.ListedName.{ListedName}
use Rattle.sheet.specs.Listing.{start_at, length_at, type_at}
use Rattle.sheet.specs.Counting.{most_written}
use Rattle.sheet.specs.Marks.{type_met, tab_of, types_in, Marked}
use Rattle.sheet.specs.Writing.{listed_size, listed_records, listed_texts, ElementsIn, NumberOf, Put, Met, record_bytes, element_bytes, types_bytes, elements_bytes, names_bytes, Named, NamesFit, NamesPut, TextsFit}
use Rattle.sheet.proofs.Meeting.{parts_stand}
use Rattle.sheet.proofs.Marking.{types_length, type_at_lem}
use Rattle.sheet.proofs.Names.{size_step, records_step, texts_step, none_left}
use Rattle.sheet.proofs.Sizes.{elements_tuple, elements_none, elements_step}

-- ---- writes

pub put_then : {d e f : List ℕ} {at p : ℕ} {s r : List ℕ} → at ≤ length d → Put d e at s → p ≡ at + length s → Put e f p r → Put d f at (s ++ r)
put_then {d} {e} {f} {at} {p} {s} {r} h a q b = record {
  is = b.is ∙ rw (q, a.is) (put_put d at s h r);
  long = b.long ∙ a.long;
}

-- what is left to write after one write
left_next : {d e : List ℕ} {at p : ℕ} {s : List ℕ} (r : List ℕ) → at ≤ length d → Put d e at s → p ≡ at + length s → put_at e p r ≡ put_at d at (s ++ r)
left_next {d} {e} {at} {p} {s} r h a q = rw (q, a.is) (put_put d at s h r)

pub put_three_words : {d e f g : List ℕ} (at a b c : ℕ) → at + 12 ≤ length d → Put d e at (words (a ∷ [])) → Put e f (at + 4) (words (b ∷ [])) → Put f g (at + 8) (words (c ∷ []))
    → Put d g at (words (a ∷ b ∷ c ∷ []))
unfolding words
put_three_words at a b c h x y z =
    put_then (omega arith) (put_then (omega arith) x refl y) (omega arith) z

-- ---- the parts of a type of the sheet

in_list : (xs : List Ty) (j : ℕ) → j < length xs → Memᴰ (get_or xs j unknown) xs
in_list [] j h = absurd (omega arith)
in_list (x ∷ xs) zero h = Memᴰ.head refl
in_list (x ∷ xs) (suc j) h = Memᴰ.tail (in_list xs j (omega arith))

beyond : (xs : List Ty) (j : ℕ) → length xs ≤ j → get_or xs j unknown ≡ unknown
beyond [] j h = refl
beyond (x ∷ xs) zero h = absurd (omega arith)
beyond (x ∷ xs) (suc j) h = beyond xs j (omega arith)

part_known : (us : List Ty) (ty : Ty) (j : ℕ) → Known us (parts ty) → 8 ≤ kind (part j ty) → Memᴰ (part j ty) us
unfolding part kind
part_known us ty j k h = elim (dec_lt j (length (parts ty))) [
  | yes a ↦ k _ (in_list (parts ty) j a) h
  | no a ↦ absurd (omega (arith, ap kind (beyond (parts ty) j (omega arith))))
]

module _ {cs : List ℕ} {ms : Marks} {i : ℕ} (m : Met cs ms i) where
  abbrev tt₀ : Tab
  tt₀ = tab_of cs ms

  parts_known : Known (types_in tt₀ ms) (parts (denote tt₀ i))
  parts_known = parts_stand [] (types_in tt₀ ms) m.marked.ordered (denote tt₀ i) m.member

  number_small : (ty : Ty) → number (types_in tt₀ ms) ty < 4294967296
  number_small ty = omega (arith, number_le (types_in tt₀ ms) ty, types_length m.marked, m.marked.few)

  pub met_small : i < most_numbers
  met_small = omega (arith, m.below, m.marked.wf.room, m.marked.wf.most)

  pub met_room : i < capacity cs
  met_room = in_room m.marked.wf i m.below

  -- the part r of type i is written by its number
  part_number : {r w : ℕ} (j : ℕ) → r < tt₀.n → denote tt₀ r ≡ part j (denote tt₀ i) → NumberOf ms r w → w ≡ number (types_in tt₀ ms) (part j (denote tt₀ i))
  part_number {r} j b e n =
      n.says tt₀ m.marked b (λ h. rw e (part_known _ (denote tt₀ i) j parts_known (rw e at h)))
      ∙ ap (number (types_in tt₀ ms)) e

  -- ---- its record

  pub record_tuple : {k : Kind} {q : ℕ} (from : ℕ) → KindOf cs i k → k ≡ the_kind.Tuple → PartsOf cs i q → record_bytes tt₀ ms from i ≡ words (kind_number k ∷ from ∷ q ∷ [])
  unfolding type_record test◌then◌else◌ laid
  record_tuple from told h many =
      let e : kind (denote tt₀ i) ≡ 10 = sym (told.says tt₀ refl m.marked.wf m.below) ∙ ap kind_number h in
      rw (h, eq-eqb _ _ e, many.says tt₀ refl m.marked.wf m.below)

  plain_zero : number (types_in tt₀ ms) unknown ≡ 0
  unfolding kind
  plain_zero = number_plain (types_in tt₀ ms) unknown (omega arith)

  piece : (j : ℕ) → get_or (map (number (types_in tt₀ ms)) (parts (denote tt₀ i))) j 0 ≡ number (types_in tt₀ ms) (part j (denote tt₀ i))
  unfolding part
  piece j =
      ap (get_or (map (number (types_in tt₀ ms)) (parts (denote tt₀ i))) j) (sym plain_zero)
      ∙ get_or-map (number (types_in tt₀ ms)) (parts (denote tt₀ i)) j unknown

  module _ {k : Kind} (told : KindOf cs i k) where
    own_kind : kind_number k ≡ kind (denote tt₀ i)
    own_kind = told.says tt₀ refl m.marked.wf m.below

    pub kind_small : kind_number k < 4294967296
    kind_small = omega (arith, own_kind, kind_most m.marked.wf i m.below)

    module _ (n : k ≡ the_kind.Tuple → ⊥) where
      not_tuple : kind (denote tt₀ i) ≡ 10 → ⊥
      not_tuple z = n (same_kind k the_kind.Tuple (own_kind ∙ z))

      pub record_other : {r s p q : ℕ} (from : ℕ) → PartOf cs 0 i r → NumberOf ms r p → PartOf cs 1 i s → NumberOf ms s q
          → record_bytes tt₀ ms from i ≡ words (kind_number k ∷ p ∷ q ∷ [])
      unfolding type_record test◌then◌else◌ laid
      record_other from a x b y =
          let ma = a.says tt₀ refl m.marked.wf m.below not_tuple in
          let mb = b.says tt₀ refl m.marked.wf m.below not_tuple in
          rw (ne_eqb _ _ not_tuple, piece 0, piece 1, own_kind, part_number 0 ma.below ma.means x, part_number 1 mb.below mb.means y)

      pub part_small : {r s : ℕ} → PartOf cs s i r → r < length ms.numbers.now
      part_small a = omega (arith, (a.says tt₀ refl m.marked.wf m.below not_tuple).below, m.marked.wf.room, m.marked.wf.most, m.marked.numbers_long)

  pub count_small : {q : ℕ} → PartsOf cs i q → q < 4294967296
  count_small p = omega (arith, p.says tt₀ refl m.marked.wf m.below, parts_few m.marked.wf i m.below)

pub put_as : {d e : List ℕ} {at : ℕ} {s r : List ℕ} → r ≡ s → Put d e at s → Put d e at r
put_as e p = rw e p

pub put_one : {d e : List ℕ} {at : ℕ} {s : List ℕ} → (e ≡ put_at d at s) × (length e ≡ length d) → Put d e at s
put_one h = record { is = h.0; long = h.1 }

-- ---- the type records

laid_cons : (x : Triple) (xs : List Triple) → words (laid (x ∷ xs)) ≡ words (laid (x ∷ [])) ++ words (laid xs)
unfolding words laid
laid_cons x xs = refl

pub record TypesLoop (t : Tab) (ms : Marks) (old : List ℕ) (n k from : ℕ) (out : List ℕ) : Type 0 where
  pub marked : Marked t ms
  pub many : n ≡ ms.met
  pub passed : k ≤ n
  pub small : from ≤ most_numbers * k
  pub room : 40 + 12 * n ≤ length old
  pub long : length out ≡ length old
  pub left : put_at out (40 + 12 * k) (words (laid (type_records (types_in t ms) from (drop k (types_in t ms))))) ≡ put_at old 40 (types_bytes t ms)

pub types_first : {t : Tab} {ms : Marks} {out : List ℕ} {n : ℕ} → Marked t ms → 40 + 12 * ms.met ≤ length out → n ≡ ms.met → TypesLoop t ms out n 0 0 out
types_first m h e = record { marked = m; many = e; passed = omega arith; small = omega arith; room = omega arith; long = refl; left = refl }

-- the type at place k of the sheet
module _ {cs : List ℕ} {ms : Marks} {k i : ℕ} (m : Marked (tab_of cs ms) ms) (h : k < ms.met) (e : i ≡ type_met ms k) where
  pub met_at : Met cs ms i
  met_at = record {
    marked = m;
    high = omega (arith, (m.within k h).0);
    below = omega (arith, (m.within k h).1, m.types);
    member = subst (λ u. Memᴰ u (types_in (tab_of cs ms) ms)) (type_at_lem m k h ∙ ap (denote (tab_of cs ms)) (sym e)) (in_list (types_in (tab_of cs ms) ms) k (omega (arith, types_length m)));
  }

  types_split : drop k (types_in (tab_of cs ms) ms) ≡ denote (tab_of cs ms) i ∷ drop (k + 1) (types_in (tab_of cs ms) ms)
  types_split =
      let inside : k < length (types_in (tab_of cs ms) ms) = omega (arith, types_length m) in
      rw (drop-cons (types_in (tab_of cs ms) ms) k unknown inside, type_at_lem m k h, add-one k, e)

module _ {cs : List ℕ} {ms : Marks} {old : List ℕ} {n k from : ℕ} {out : List ℕ} (l : TypesLoop (tab_of cs ms) ms old n k from out) where
  pub types_met : {i : ℕ} → k < n → i ≡ type_met ms k → Met cs ms i
  types_met h e = met_at l.marked (omega (arith, l.many)) e

  pub types_room : k < n → (from ≤ most_written) × (40 + 12 * k + 12 ≤ length out)
  types_room h = (omega (arith, l.small, l.many, l.marked.few), omega (arith, l.room, l.long))

  pub types_next : {i r : ℕ} {new : List ℕ} → k < n → i ≡ type_met ms k → Put out new (40 + 12 * k) (record_bytes (tab_of cs ms) ms from i) → ElementsIn cs i r
      → TypesLoop (tab_of cs ms) ms old n (k + 1) (from + r) new
  unfolding type_records
  types_next {i} {r} {new} h e p s =
      let t = tab_of cs ms in
      let us = types_in t ms in
      let m = types_met h e in
      let er : r ≡ length (elements_in (denote t i)) = s.says t refl l.marked.wf m.below in
      let rest = words (laid (type_records us (from + r) (drop (k + 1) us))) in
      let split : words (laid (type_records us from (drop k us))) ≡ record_bytes t ms from i ++ rest =
      rw (types_split l.marked (omega (arith, l.many)) e, er) (laid_cons (type_record us from (denote t i)) (type_records us (from + length (elements_in (denote t i))) (drop (k + 1) us))) in
      let place : 40 + 12 * (k + 1) ≡ 40 + 12 * k + length (record_bytes t ms from i) = omega (arith, laid_length (type_record us from (denote t i) ∷ [])) in
      record {
        marked = l.marked;
        many = l.many;
        passed = omega arith;
        small = omega (arith, l.small, s.small t refl l.marked.wf m.below);
        room = l.room;
        long = p.long ∙ l.long;
        left = left_next rest (omega (arith, (types_room h).1)) p place ∙ ap (put_at out (40 + 12 * k)) (sym split) ∙ l.left;
      }

  pub types_sum : {i r : ℕ} → k < n → i ≡ type_met ms k → ElementsIn cs i r → from + r ≤ 4212744
  types_sum h e s = omega (arith, (types_room h).0, s.small (tab_of cs ms) refl l.marked.wf (types_met h e).below)

  pub types_end : (k < n → ⊥) → Put old out 40 (types_bytes (tab_of cs ms) ms)
  unfolding type_records laid words
  types_end h =
      let short : length (types_in (tab_of cs ms) ms) ≤ k = omega (arith, types_length l.marked, l.many) in
      record {
        is = sym (put_nil out (40 + 12 * k)) ∙ ap (λ (us : List Ty). put_at out (40 + 12 * k) (words (laid (type_records (types_in (tab_of cs ms) ms) from us)))) (sym (drop_of_length-le (types_in (tab_of cs ms) ms) short)) ∙ l.left;
        long = l.long;
      }

-- ---- the elements of one type

pub record PartsLoop (cs : List ℕ) (ms : Marks) (i : ℕ) (old : List ℕ) (at n j : ℕ) (out : List ℕ) : Type 0 where
  pub met : Met cs ms i
  pub many : n ≡ length (elements_in (denote (tab_of cs ms) i))
  pub passed : j ≤ n
  pub room : at + 4 * n ≤ length old
  pub long : length out ≡ length old
  pub left : put_at out (at + 4 * j) (words (map (number (types_in (tab_of cs ms) ms)) (drop j (elements_in (denote (tab_of cs ms) i))))) ≡ put_at old at (element_bytes (tab_of cs ms) ms i)

pub parts_first : {cs : List ℕ} {ms : Marks} {i : ℕ} {out : List ℕ} {at n : ℕ} → Met cs ms i → at + 4 * length (elements_in (denote (tab_of cs ms) i)) ≤ length out → ElementsIn cs i n → PartsLoop cs ms i out at n 0 out
parts_first {cs} {ms} {at = at} m h s =
    let e = s.says (tab_of cs ms) refl m.marked.wf m.below in
    let z : at + 4 * 0 ≡ at = omega arith in
    record { met = m; many = e; passed = omega arith; room = omega arith; long = refl; left = rw z }

module _ {cs : List ℕ} {ms : Marks} {i : ℕ} {old : List ℕ} {at n j : ℕ} {out : List ℕ} (l : PartsLoop cs ms i old at n j out) where
  abbrev t₁ : Tab
  t₁ = tab_of cs ms

  is_tuple : j < n → kind (denote t₁ i) ≡ 10
  is_tuple h = elim (ℕ_discrete (kind (denote t₁ i)) 10) [
    | yes a ↦ a
    | no a ↦ absurd (omega (arith, l.many, ap length (elements_none (denote t₁ i) a)))
  ]

  within_parts : j < n → j < length (parts (denote t₁ i))
  within_parts h = omega (arith, l.many, ap length (elements_tuple (denote t₁ i) (is_tuple h)))

  pub parts_place : j < n → HasPart cs i j
  parts_place h = has_part l.met.marked.wf i l.met.below (within_parts h)

  pub parts_small : {r : ℕ} → j < n → PartAt cs i j r → r < length ms.numbers.now
  parts_small h p = omega (arith, p.lower t₁ refl l.met.marked.wf l.met.below (within_parts h), met_small l.met, l.met.marked.numbers_long)

  pub parts_room : j < n → at + 4 * j + 4 ≤ length out
  parts_room h = omega (arith, l.room, l.long)

  pub parts_next : {r w : ℕ} {new : List ℕ} → j < n → PartAt cs i j r → NumberOf ms r w → Put out new (at + 4 * j) (words (w ∷ [])) → PartsLoop cs ms i old at n (j + 1) new
  unfolding words part
  parts_next {r} {w} {new} h p q x =
      let us = types_in t₁ ms in
      let es = elements_in (denote t₁ i) in
      let inside : j < length es = omega (arith, l.many) in
      let below : r < t₁.n = omega (arith, p.lower t₁ refl l.met.marked.wf l.met.below (within_parts h), l.met.below) in
      let means : denote t₁ r ≡ get_or (parts (denote t₁ i)) j unknown = (p.says t₁ refl l.met.marked.wf l.met.below (within_parts h)).means in
      let same_list : es ≡ parts (denote t₁ i) = elements_tuple (denote t₁ i) (is_tuple h) in
      let number_is : w ≡ number us (get_or es j unknown) = part_number l.met j below means q ∙ ap (λ (xs : List Ty). number us (get_or xs j unknown)) (sym same_list) in
      let rest = words (map (number us) (drop (j + 1) es)) in
      let split : words (map (number us) (drop j es)) ≡ words (w ∷ []) ++ rest = rw (drop-cons es j unknown inside, number_is, add-one j) in
      let place : at + 4 * (j + 1) ≡ at + 4 * j + 4 = omega arith in
      record {
        met = l.met;
        many = l.many;
        passed = omega arith;
        room = l.room;
        long = x.long ∙ l.long;
        left = left_next rest (omega (arith, parts_room h)) x place ∙ ap (put_at out (at + 4 * j)) (sym split) ∙ l.left;
      }

  pub parts_end : (j < n → ⊥) → Put old out at (element_bytes t₁ ms i)
  unfolding words
  parts_end h =
      let short : length (elements_in (denote t₁ i)) ≤ j = omega (arith, l.many) in
      record {
        is = sym (put_nil out (at + 4 * j)) ∙ ap (λ (xs : List Ty). put_at out (at + 4 * j) (words (map (number (types_in t₁ ms)) xs))) (sym (drop_of_length-le (elements_in (denote t₁ i)) short)) ∙ l.left;
        long = l.long;
      }

-- ---- the elements of all types

pub record ElementsLoop (t : Tab) (ms : Marks) (old : List ℕ) (from n k at : ℕ) (out : List ℕ) : Type 0 where
  pub marked : Marked t ms
  pub many : n ≡ ms.met
  pub passed : k ≤ n
  pub room : at + 4 * length (elements_of (drop k (types_in t ms))) ≤ length old
  pub long : length out ≡ length old
  pub left : put_at out at (words (map (number (types_in t ms)) (elements_of (drop k (types_in t ms))))) ≡ put_at old from (elements_bytes t ms)

pub elements_first : {t : Tab} {ms : Marks} {out : List ℕ} {from n : ℕ} → Marked t ms → from + 4 * length (elements_of (types_in t ms)) ≤ length out → n ≡ ms.met → ElementsLoop t ms out from n 0 from out
elements_first m h e = record { marked = m; many = e; passed = omega arith; room = h; long = refl; left = refl }

module _ {cs : List ℕ} {ms : Marks} {old : List ℕ} {from n k at : ℕ} {out : List ℕ} (l : ElementsLoop (tab_of cs ms) ms old from n k at out) where
  pub elements_met : {i : ℕ} → k < n → i ≡ type_met ms k → Met cs ms i
  elements_met h e = met_at l.marked (omega (arith, l.many)) e

  elements_split : {i : ℕ} → k < n → i ≡ type_met ms k → elements_of (drop k (types_in (tab_of cs ms) ms)) ≡ elements_in (denote (tab_of cs ms) i) ++ elements_of (drop (k + 1) (types_in (tab_of cs ms) ms))
  elements_split h e = rw e (elements_step l.marked k (omega (arith, l.many)))

  pub elements_room : {i : ℕ} → k < n → i ≡ type_met ms k → at + 4 * length (elements_in (denote (tab_of cs ms) i)) ≤ length out
  elements_room {i} h e =
      let t = tab_of cs ms in
      omega (arith, l.room, l.long, ap length (elements_split h e), length-append (elements_in (denote t i)) (elements_of (drop (k + 1) (types_in t ms))))

  pub elements_next : {i r : ℕ} {new : List ℕ} → k < n → i ≡ type_met ms k → Put out new at (element_bytes (tab_of cs ms) ms i) → r ≡ at + 4 * length (elements_in (denote (tab_of cs ms) i))
      → ElementsLoop (tab_of cs ms) ms old from n (k + 1) r new
  elements_next {i} {r} {new} h e p er =
      let t = tab_of cs ms in
      let us = types_in t ms in
      let here = elements_in (denote t i) in
      let later = elements_of (drop (k + 1) us) in
      let split : words (map (number us) (elements_of (drop k us))) ≡ element_bytes t ms i ++ words (map (number us) later) =
      ap (λ (xs : List Ty). words (map (number us) xs)) (elements_split h e) ∙ ap words (map-append (number us) here later) ∙ words_append (map (number us) here) (map (number us) later) in
      let place : r ≡ at + length (element_bytes t ms i) = omega (arith, words_length (map (number us) here), length-map here (number us)) in
      record {
        marked = l.marked;
        many = l.many;
        passed = omega arith;
        room = omega (arith, l.room, ap length (elements_split h e), length-append here later);
        long = p.long ∙ l.long;
        left = left_next (words (map (number us) later)) (omega (arith, elements_room h e)) p place ∙ ap (put_at out at) (sym split) ∙ l.left;
      }

  pub elements_end : (k < n → ⊥) → Put old out from (elements_bytes (tab_of cs ms) ms)
  unfolding elements_of words
  elements_end h =
      let t = tab_of cs ms in
      let short : length (types_in t ms) ≤ k = omega (arith, types_length l.marked, l.many) in
      record {
        is = sym (put_nil out at) ∙ ap (λ (us : List Ty). put_at out at (words (map (number (types_in t ms)) (elements_of us)))) (sym (drop_of_length-le (types_in t ms) short)) ∙ l.left;
        long = l.long;
      }

-- ---- the name records

pub record NamesLoop (ms : Marks) (ns : List ListedName) (old : List ℕ) (at k from : ℕ) (out : List ℕ) : Type 0 where
  pub fit : NamesFit ms ns old at
  pub small : from ≤ longest_name * k
  pub long : length out ≡ length old
  pub left : (t : Tab) → Named t ms ns → put_at out (at + 12 * k) (words (laid (listed_records (types_in t ms) t (drop k ns) from))) ≡ put_at old at (names_bytes t ms ns)

pub names_first : {ms : Marks} {ns : List ListedName} {out : List ℕ} {at : ℕ} → NamesFit ms ns out at → NamesLoop ms ns out at 0 0 out
names_first {at = at} f =
    let z : at + 12 * 0 ≡ at = omega arith in
    record { fit = f; small = omega arith; long = refl; left = λ t m. rw z }

module _ {ms : Marks} {ns : List ListedName} {old : List ℕ} {at k from : ℕ} {out : List ℕ} (l : NamesLoop ms ns old at k from out) (h : k < length ns) where
  pub names_room : at + 12 * k + 12 ≤ length out
  names_room = omega (arith, l.fit.room, l.long)

  pub names_next : {w : ℕ} {new : List ℕ} → NumberOf ms (type_at ns k) w → Put out new (at + 12 * k) (words (from ∷ length_at ns k ∷ w ∷ []))
      → NamesLoop ms ns old at (k + 1) (from + length_at ns k) new
  unfolding words laid
  names_next {w} {new} q p = record {
    fit = l.fit;
    small = omega (arith, l.small, l.fit.short.short k h);
    long = p.long ∙ l.long;
    left = λ t m.
        let us = types_in t ms in
        let len = length_at ns k in
        let number_is : w ≡ number us (denote t (type_at ns k)) = q.says t m.marked (m.known k h) (m.member k h) in
        let rest = words (laid (listed_records us t (drop (k + 1) ns) (from + len))) in
        let split : words (laid (listed_records us t (drop k ns) from)) ≡ words (from ∷ len ∷ w ∷ []) ++ rest = rw (records_step ns k h us t from, number_is) in
        let place : at + 12 * (k + 1) ≡ at + 12 * k + 12 = omega arith in
        left_next rest (omega (arith, names_room)) p place ∙ ap (put_at out (at + 12 * k)) (sym split) ∙ l.left t m;
  }

pub names_end : {ms : Marks} {ns : List ListedName} {old : List ℕ} {at k from : ℕ} {out : List ℕ} → NamesLoop ms ns old at k from out → (k < length ns → ⊥) → NamesPut ms ns old out at
unfolding listed_records laid words
names_end {ms} {ns} {at = at} {k} {from} {out} l h = record {
  is = λ t m. sym (put_nil out (at + 12 * k)) ∙ ap (λ (rs : List ListedName). put_at out (at + 12 * k) (words (laid (listed_records (types_in t ms) t rs from)))) (sym (none_left ns k h)) ∙ l.left t m;
  long = l.long;
}

-- ---- the texts

pub record TextsLoop (source : List ℕ) (ns : List ListedName) (old : List ℕ) (from k at : ℕ) (out : List ℕ) : Type 0 where
  pub fit : TextsFit source ns old from
  pub room : at + listed_size (drop k ns) ≤ length old
  pub long : length out ≡ length old
  pub left : put_at out at (listed_texts source (drop k ns)) ≡ put_at old from (listed_texts source ns)

module _ {source : List ℕ} {ns : List ListedName} {old : List ℕ} {from k at : ℕ} {out : List ℕ} (l : TextsLoop source ns old from k at out) (h : k < length ns) where
  text_length : length (take (length_at ns k) (drop (start_at ns k) source)) ≡ length_at ns k
  text_length = length-take-le (length_at ns k) (drop (start_at ns k) source) (omega (arith, length-drop (start_at ns k) source, l.fit.inside k h))

  pub texts_room : {s : List ℕ} → s ≡ take (length_at ns k) (drop (start_at ns k) source) → at + length s ≤ length out
  texts_room e = omega (arith, l.room, l.long, size_step ns k h, ap length e, text_length)

  pub texts_next : {r : ℕ} {s new : List ℕ} → s ≡ take (length_at ns k) (drop (start_at ns k) source) → new ≡ put_at out at s → r ≡ at + length s
      → TextsLoop source ns old from (k + 1) r new
  texts_next {r} {s} {new} e en er =
      let fits = texts_room e in
      let p : Put out new at s = record { is = en; long = rw en (put_length out at s fits) } in
      let rest = listed_texts source (drop (k + 1) ns) in
      let split : listed_texts source (drop k ns) ≡ s ++ rest = rw e (texts_step ns k h source) in
      record {
        fit = l.fit;
        room = omega (arith, l.room, size_step ns k h, ap length e, text_length);
        long = p.long ∙ l.long;
        left = left_next rest (omega arith) p er ∙ ap (put_at out at) (sym split) ∙ l.left;
      }

pub texts_end : {source : List ℕ} {ns : List ListedName} {old : List ℕ} {from k at : ℕ} {out : List ℕ} → TextsLoop source ns old from k at out → (k < length ns → ⊥) → Put old out from (listed_texts source ns)
unfolding listed_texts
texts_end {source} {ns} {k = k} {at} {out} l h = record {
  is = sym (put_nil out at) ∙ ap (λ (rs : List ListedName). put_at out at (listed_texts source rs)) (sym (none_left ns k h)) ∙ l.left;
  long = l.long;
}
