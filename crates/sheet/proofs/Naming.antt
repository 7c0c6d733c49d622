-- The name records of a byte string, one after the other, and what they are in a sheet.
use mathlib.Core.Path.{◌≡◌, refl, sym, ap, ◌∙◌, subst}
use mathlib.Core.Bool.{true}
use mathlib.Core.List.{List, [], ◌∷◌, map}
use Prim.Native.Nat.{ℕ, zero, suc, ◌+◌, ◌*◌, ◌≤◌, ◌<◌}
use native.Mathlib.Omega.{arith}
use borrow.Author.Count.{below_more}
use borrow.Author.Tests.{leb-true}
use lib.ListN.{length, get_or, take, drop, length-append}
use lib.Seq.{drop-drop}
use Rattle.meaning.specs.Limits.{longest_name}
use Rattle.meaning.specs.Base.{word, records, count}
use Rattle.meaning.specs.Types.{Ty}
use Rattle.meaning.specs.Image.{text_stands}
use Rattle.meaning.specs.Sheet.{Entry, Triple, types_of, spellings, name_records, texts_stand, within_limits}
use Rattle.meaning.specs.Read.{triple, numbered, types_from, entries_from, entries_in, is_sheet}
use Rattle.meaning.proofs.Choices.{and_left, and_right}
use Rattle.meaning.proofs.SheetForm.{sheet_is, sheet_size}
use Rattle.meaning.specs.Limits.{longest_name}
use Rattle.types.specs.Table.{Tab, denote}
use Rattle.sheet.specs.declared.layout.Areas.{Areas}
use Rattle.sheet.specs.declared.list.ListedName.{ListedName}
use Rattle.sheet.specs.Listing.{PutName, start_at, length_at, type_at, entry_at, listed_from, listed, Listing}
use Rattle.sheet.specs.Reading.{names_at, texts_at, words_at, triples_at, Bounds, number_in, TypesRead, NameRead, NameStep, NamesRead, Headed}
use Rattle.sheet.specs.Reading.{elements_in as elements_read}
use Rattle.sheet.proofs.Reading.{sheet_head, number_means, number_below}
use Rattle.sheet.proofs.Typing.{triple_at, triples_get, areas_of}

-- ---- the names of a sheet

name_inside : (us : List Ty) (from : ℕ) (es : List Entry) (k : ℕ) → k < length es
    → (get_or (name_records us from es) k (0, 0, 0)).0 + (get_or (name_records us from es) k (0, 0, 0)).1 ≤ from + length (spellings es)
unfolding name_records spellings
name_inside us from [] k h = absurd (omega arith)
name_inside us from (e ∷ es) zero h = omega (arith, length-append e.0 (spellings es))
name_inside us from (e ∷ es) (suc k) h =
    omega (arith, name_inside us (from + length e.0) es k (omega arith), length-append e.0 (spellings es))

name_short : (us : List Ty) (from : ℕ) (last : List ℕ) (es : List Entry) (k : ℕ) → texts_stand last es ≡ true → k < length es
    → (get_or (name_records us from es) k (0, 0, 0)).1 ≤ longest_name
unfolding name_records texts_stand text_stands
name_short us from last [] k s h = absurd (omega arith)
name_short us from last (e ∷ es) zero s h = leb-true (length e.0) longest_name (and_right _ _ (and_left _ _ (and_left _ _ (and_left _ _ s))))
name_short us from last (e ∷ es) (suc k) s h = name_short us (from + length e.0) e.0 es k (and_right _ _ s) (omega arith)

pub texts_of : (es : List Entry) → within_limits es ≡ true → texts_stand [] es ≡ true
unfolding within_limits
texts_of es w = and_left _ _ (and_left _ _ (and_left _ _ w))

module _ (bs : List ℕ) (h : is_sheet bs ≡ true) where
  abbrev es : List Entry
  es = entries_in bs

  abbrev us : List Ty
  us = types_of es []

  sheet_names : triples_at bs (names_at bs) (word bs 20) ≡ name_records us 0 es
  unfolding triples_at
  sheet_names =
      let d = sheet_head bs h in
      rw (d.names_count, d.types_count, d.elements_count) (areas_of bs h).names

  sheet_name : (k : ℕ) {a b c : ℕ} → k < word bs 20 → triple (drop (names_at bs + 12 * k) bs) ≡ (a, b, c) → (b ≤ longest_name) × (texts_at bs + a + b ≤ length bs)
  sheet_name k {a} {b} {c} l e =
      let d = sheet_head bs h in
      let s = sheet_is bs h in
      let r : get_or (name_records us 0 es) k (0, 0, 0) ≡ (a, b, c) = ap (λ (rs : List Triple). get_or rs k (0, 0, 0)) (sym sheet_names) ∙ triples_get bs (names_at bs) (word bs 20) k l ∙ e in
      let inside : k < length es = omega (arith, d.names_count) in
      let i = name_inside us 0 es k inside in
      let j = name_short us 0 [] es k (texts_of es s.limits) inside in
      let r₀ = ap (λ (x : Triple). x.0) r in
      let r₁ = ap (λ (x : Triple). x.1) r in
      (omega (arith, j, r₁), omega (arith, i, r₀, r₁, ap length s.written, sheet_size es, d.types_count, d.elements_count, d.names_count))

-- ---- one name

module _ {bs : List ℕ} {a : Areas} (d : Headed bs a) {k : ℕ} (here : k < a.names) {A s l : ℕ} (e_a : A ≡ 40 + 12 * a.types + 4 * a.elements)
    (e_s : s ≡ word bs (A + 12 * k)) (el : l ≡ word bs (A + 12 * k + 4)) where
  from_is : A ≡ names_at bs
  from_is = rw (e_a, d.types_is, d.elements_is)

  start_word : s ≡ word bs (names_at bs + 12 * k)
  start_word = e_s ∙ ap (λ x. word bs (x + 12 * k)) from_is

  length_word : l ≡ word bs (names_at bs + 12 * k + 4)
  length_word = el ∙ ap (λ x. word bs (x + 12 * k + 4)) from_is

  named : is_sheet bs ≡ true → (l ≤ longest_name) × (texts_at bs + s + l ≤ length bs)
  named i = sheet_name bs i k (omega (arith, d.names_is)) (triple_at bs (names_at bs + 12 * k) start_word length_word refl)

  pub refuse_long : longest_name < l → is_sheet bs ≡ true → ⊥
  refuse_long h i = absurd (omega (arith, (named i).0))

  module _ {X : ℕ} (e_x : X ≡ 40 + 12 * a.types + 4 * a.elements + 12 * a.names) where
    texts_is : X ≡ texts_at bs
    texts_is = rw (e_x, d.types_is, d.elements_is, d.names_is)

    pub refuse_outside : length bs < X + s + l → is_sheet bs ≡ true → ⊥
    refuse_outside h i = absurd (omega (arith, (named i).1, texts_is))

    pub name_step : {w ty : ℕ} {xs : List ℕ} {cells new : List ListedName} → w ≡ word bs (A + 12 * k + 8) → ty ≡ number_in xs w → l ≤ longest_name
        → X + s + l ≤ length bs → PutName cells new k (X + s) l ty → NameStep bs xs cells new k
    name_step {w} {ty} {xs} ew ety short inside p = record {
      name = record {
        start_is = p.start_is ∙ ap (λ x. x + s) texts_is ∙ ap (λ x. texts_at bs + x) start_word;
        length_is = p.length_is ∙ length_word;
        type_is = p.type_is ∙ ety ∙ ap (number_in xs) (ew ∙ ap (λ x. word bs (x + 12 * k + 8)) from_is);
        short = omega (arith, p.length_is);
        inside = omega (arith, p.start_is, p.length_is);
      };
      before = p.before;
    }

-- ---- all names

pub names_first : {bs xs : List ℕ} {cells : List ListedName} → NamesRead bs xs cells 0
names_first = record { each = λ k h. absurd (omega arith) }

pub names_next : {bs xs : List ℕ} {cells new : List ListedName} {k : ℕ} → NamesRead bs xs cells k → NameStep bs xs cells new k → NamesRead bs xs new (k + 1)
names_next {bs} {xs} {cells} {new} {k} r s = record {
  each = below_more (NameRead bs xs new) k (λ j b. kept j b (r.each j b)) s.name;
}
  where
    kept : (j : ℕ) → j < k → NameRead bs xs cells j → NameRead bs xs new j
    kept j b q = record {
      start_is = (s.before j b).start ∙ q.start_is;
      length_is = (s.before j b).size ∙ q.length_is;
      type_is = (s.before j b).type ∙ q.type_is;
      short = omega (arith, (s.before j b).size, q.short);
      inside = omega (arith, (s.before j b).start, (s.before j b).size, q.inside);
    }

pub names_end : {bs xs : List ℕ} {cells : List ListedName} {k n : ℕ} → NamesRead bs xs cells k → k ≤ n → (k < n → ⊥) → NamesRead bs xs cells n
names_end {bs} {xs} {cells} r p h = subst (NamesRead bs xs cells) (omega arith) r

-- ---- they are the entries of the byte string

module _ {bs xs : List ℕ} {cells : List ListedName} {t : Tab} (ty : TypesRead bs xs t) (nr : NamesRead bs xs cells (word bs 20)) where
  abbrev vs : List Ty
  vs = types_from (elements_read bs) [] (triples_at bs 40 (word bs 4))

  abbrev entry : Triple → Entry
  entry r = (take r.1 (drop r.0 (drop (texts_at bs) bs)), numbered vs r.2)

  entry_is : (k : ℕ) → k < word bs 20 → entry_at bs t cells k ≡ entry (triple (drop (names_at bs + 12 * k) bs))
  unfolding entry_at
  entry_is k h =
      let r = nr.each k h in
      let e : triple (drop (names_at bs + 12 * k) bs) ≡ (word bs (names_at bs + 12 * k), word bs (names_at bs + 12 * k + 4), word bs (names_at bs + 12 * k + 8)) = triple_at bs (names_at bs + 12 * k) refl refl refl in
      let means : denote t (type_at cells k) ≡ numbered vs (word bs (names_at bs + 12 * k + 8)) =
      ap (denote t) r.type_is ∙ number_means ty.below (word bs (names_at bs + 12 * k + 8)) ∙ ap (λ (us : List Ty). numbered us (word bs (names_at bs + 12 * k + 8))) ty.are in
      let text : take (length_at cells k) (drop (start_at cells k) bs) ≡ take (word bs (names_at bs + 12 * k + 4)) (drop (word bs (names_at bs + 12 * k)) (drop (texts_at bs) bs)) =
      ap (λ x. take x (drop (start_at cells k) bs)) r.length_is ∙ ap (take (word bs (names_at bs + 12 * k + 4))) (ap (λ x. drop x bs) r.start_is ∙ sym (drop-drop (word bs (names_at bs + 12 * k)) (texts_at bs) bs)) in
      rw (text, means) (ap entry (sym e))

  listed_read : (k n : ℕ) → k + n ≡ word bs 20 → listed_from bs t cells k n ≡ map entry (records triple 12 n (drop (names_at bs + 12 * k) bs))
  unfolding listed_from count records
  listed_read k zero h = refl
  listed_read k (suc n) h =
      let further : names_at bs + 12 * suc k ≡ names_at bs + 12 * k + 12 = omega arith in
      let here : entry_at bs t cells k ≡ entry (triple (drop (names_at bs + 12 * k) bs)) = entry_is k (omega arith) in
      let ih : listed_from bs t cells (suc k) n ≡ map entry (records triple 12 n (drop 12 (drop (names_at bs + 12 * k) bs))) =
      listed_read (suc k) n (omega arith) ∙ ap (λ (d : List ℕ). map entry (records triple 12 n d)) (ap (λ x. drop x bs) further ∙ sym (drop-drop 12 (names_at bs + 12 * k) bs)) in
      ap (λ e. e ∷ listed_from bs t cells (suc k) n) here ∙ ap (λ es. entry (triple (drop (names_at bs + 12 * k) bs)) ∷ es) ih

  pub entries_are : listed bs t cells (word bs 20) ≡ entries_in bs
  unfolding listed entries_in entries_from elements_read words_at triples_at
  entries_are =
      let z : names_at bs + 12 * 0 ≡ names_at bs = omega arith in
      listed_read 0 (word bs 20) (omega arith) ∙ ap (λ x. map entry (records triple 12 (word bs 20) (drop x bs))) z

  pub entries_listing : Bounds bs → Listing bs t cells (word bs 20)
  entries_listing b = record {
    wf = ty.below.wf;
    few = b.names;
    inside = λ k h. (nr.each k h).inside;
    short = λ k h. (nr.each k h).short;
    known = λ k h. rw (nr.each k h).type_is (number_below ty.below (word bs (names_at bs + 12 * k + 8)));
  }
