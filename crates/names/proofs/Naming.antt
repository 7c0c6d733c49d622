-- The turns of the walk over the names: what is listed so far and what is left come to all that the sheet lists. Assumes nothing.
use mathlib.Core.Path.{◌≡◌, refl, sym, ap, ◌∙◌, subst}
use mathlib.Core.Bool.{Bool, true, false}
use mathlib.Core.List.{List, [], ◌∷◌, ◌++◌, map, map-append, append_assoc, append-nil}
use mathlib.Core.Option.{Option, none, some, none-ne-some}
use Prim.Native.Nat.{ℕ, zero, suc, ◌+◌, ◌≤◌, ◌<◌}
use native.Mathlib.Nat.{add-zero, zero-add, not-suc-le-zero, le_of_suc-le-suc}
use native.Mathlib.Numerals.{add-one}
use native.Mathlib.Omega.{arith}
use lib.ListN.{length, get_or, take, drop, drop_of_length-le}
use lib.Seq.{drop-cons}
use borrow.Author.Count.{below_more}
use borrow.Author.Tests.{eqb-true, leb-true}
use Rattle.meaning.specs.Base.{if_some, or_else, is_in, count}
use Rattle.meaning.specs.Limits.{most_names, longest_name}
use Rattle.meaning.specs.Types.{Ty, unknown}
use Rattle.meaning.specs.Image.{Name, NameRecord, name_records, name_count, texts_from, texts_of, names_of, nodes_of, name_of, plain, text_stands, wrong_name, broken_name}
use Rattle.meaning.specs.Frames.{Binding, Frame, newest, slot_in}
use Rattle.meaning.specs.Bound.{may_bind}
use Rattle.meaning.specs.Decode.{tree_of}
use Rattle.meaning.specs.Sheet.{Entry, entries, listed_slot, listed_frame, listing}
use Rattle.meaning.proofs.Choices.{and_left, and_right, if_none}
use Rattle.meaning.proofs.Faults.{Sound, sizes}
use Rattle.meaning.proofs.Listed.{frame_slot, frame_long}
use Rattle.types.specs.Table.{Tab, Wf, denote}
use Rattle.types.proofs.Laws.{unknown_number}
use Rattle.std.specs.Prelude.{Some, None}
use Rattle.std.specs.Option.{option_or}
use Rattle.frames.specs.Env.{Rows, Held, frames_of, slot_type, held_type, HeldBelow, Fit, Holds}
use Rattle.image.specs.Parts.{record_of, name_stands}
use Rattle.meaning.proofs.Nesting.{records_count, names_many}
use Rattle.image.proofs.Records.{text_inside, text_fits, text_of}
use Rattle.sheet.specs.declared.list.ListedName.{ListedName}
use Rattle.sheet.specs.Listing.{start_at, length_at, type_at, SameName, PutName, entry_at, listed_from, listed}
use Rattle.bound.specs.Marks.{marks_of}
use Rattle.bound.proofs.Marking.{marks_at}
use Rattle.names.specs.Names.{ToldOf, Names}

-- ---- a text that stands is no longer than a name may be

name_short : (texts : List ℕ) (from : ℕ) (last : List ℕ) (r : NameRecord) → name_stands texts from last r ≡ true → r.size ≤ longest_name
unfolding name_stands text_stands
name_short texts from last r e =
    let s = take r.size (drop from texts) in
    let whole : length s ≡ r.size = eqb-true _ _ (and_right _ _ (and_left _ _ (and_left _ _ e))) in
    let few : length s ≤ longest_name = leb-true (length s) longest_name (and_right _ _ (and_left _ _ (and_left _ _ (and_right _ _ (and_left _ _ e))))) in
    omega arith

names_short : (texts : List ℕ) (i from : ℕ) (last : List ℕ) (rs : List NameRecord) → wrong_name texts i from last rs ≡ none
    → (k : ℕ) → k < length rs → (record_of rs k).size ≤ longest_name
unfolding wrong_name name_stands record_of
names_short texts i from last [] e k h = absurd (not-suc-le-zero h)
names_short texts i from last (r ∷ rs) e zero h = name_short texts from last r (if_none _ _ _ e).0
names_short texts i from last (r ∷ rs) e (suc k) h =
    names_short texts (suc i) (from + r.size) (take r.size (drop from texts)) rs (if_none _ _ _ e).1 k (le_of_suc-le-suc h)

pub text_short : (bs : List ℕ) → broken_name bs ≡ none → (k : ℕ) → k < name_count bs → (record_of (name_records bs) k).size ≤ longest_name
unfolding broken_name
text_short bs e k h = names_short (texts_of bs) 0 0 [] (name_records bs) e k (rw records_count h)

-- ---- the entries from name k on: a slot's type is all that they take

by_type : (n : List ℕ) (later : List Entry) (o : Option Binding)
    → if_some o (λ b. (n, b.type) ∷ later) later ≡ if_some (slot_type o) (λ y. (n, y) ∷ later) later
unfolding if_some
by_type n later none = refl
by_type n later (some b) = refl

module _ (ws : List Name) (f : Frame) (k : ℕ) (hw : k < length ws) (hf : k < length f) where
  entries_by : entries (drop k ws) (drop k f)
      ≡ if_some (slot_type (get_or f k none)) (λ y. ((name_of ws k).spelling, y) ∷ entries (drop (k + 1) ws) (drop (k + 1) f)) (entries (drop (k + 1) ws) (drop (k + 1) f))
  unfolding entries name_of
  entries_by = rw (drop-cons ws k (record { spelling = []; role = plain }) hw, drop-cons f k none hf, add-one) (by_type _ _ (get_or f k none))

  entries_skip : slot_type (get_or f k none) ≡ none → entries (drop k ws) (drop k f) ≡ entries (drop (k + 1) ws) (drop (k + 1) f)
  unfolding if_some
  entries_skip e = rw e at entries_by

  entries_more : (y : Ty) → slot_type (get_or f k none) ≡ some y
      → entries (drop k ws) (drop k f) ≡ ((name_of ws k).spelling, y) ∷ entries (drop (k + 1) ws) (drop (k + 1) f)
  unfolding if_some
  entries_more y e = rw e at entries_by

-- ---- what the sheet tells of a name, by what the newest frame holds for it

listed_type : (o : Option Binding) (y : Ty) → slot_type o ≡ some y → slot_type (listed_slot true o) ≡ some y
unfolding listed_slot or_else
listed_type none y e = absurd (none-ne-some y e)
listed_type (some b) y e = e

listed_lacking : (o : Option Binding) → slot_type o ≡ none → slot_type (listed_slot true o) ≡ some unknown
unfolding listed_slot or_else
listed_lacking none e = refl
listed_lacking (some b) e = absurd (none-ne-some b.type (sym e))

pub told_bound : {fs : Rows} {top x : ℕ} {h : Held} → Holds fs top x h → ToldOf fs top x true (option_or h (Some 0))
told_bound {h = None} m = record {
  says = λ t w. rw (unknown_number w) (listed_lacking _ (m.says t));
  known = λ t w f. omega (arith, w.base);
  small = omega arith;
}
told_bound {h = Some r} m = record {
  says = λ t w. listed_type _ _ (m.says t);
  known = λ t w f. m.known t f;
  small = m.small;
}

pub told_held : {fs : Rows} {top x : ℕ} {h : Held} → Holds fs top x h → ToldOf fs top x false h
unfolding listed_slot
told_held m = record { says = λ t w. m.says t; known = λ t w f. m.known t f; small = m.small }

-- ---- the frame that the sheet lists, by the module's own and what the module may bind

abbrev pub bound_in : List ℕ → List ℕ
bound_in bs = may_bind (tree_of (nodes_of bs))

abbrev shown : List ℕ → Tab → Rows → ℕ → Frame
shown bs t fs top = listed_frame (bound_in bs) (newest (frames_of t fs top))

-- what the sheet tells of name k
module _ (bs : List ℕ) {fs : Rows} {top k : ℕ} {marks : List Bool} {h : Held} (l : k < most_names) (b : marks ≡ marks_of (bound_in bs))
    (m : ToldOf fs top k (get_or marks k false) h) where
  told_slot : (t : Tab) → Wf t → slot_type (get_or (shown bs t fs top) k none) ≡ held_type t h
  unfolding slot_in
  told_slot t w =
      let e : is_in k (bound_in bs) ≡ get_or marks k false = sym (marks_at (bound_in bs) k l) ∙ ap (λ (ms : List Bool). get_or ms k false) (sym b) in
      ap slot_type (frame_slot (bound_in bs) (newest (frames_of t fs top)) k l) ∙ rw e (m.says t w)

module _ {fs : Rows} {top k : ℕ} {bound : Bool} {h : Held} (m : ToldOf fs top k bound h) where
  told_known : {r : ℕ} → h ≡ Some r → (t : Tab) → Wf t → Fit t fs top → r < t.n
  told_known e t w f = subst (HeldBelow (t.n)) e (m.known t w f)

-- ---- the list of c names, and one more

count_more : (i n : ℕ) → count i (suc n) ≡ count i n ++ ((i + n) ∷ [])
unfolding count
count_more i zero = rw add-zero
count_more i (suc n) =
    let e : suc i + n ≡ i + suc n = omega arith in
    ap (λ l. i ∷ l) (rw e at (count_more (suc i) n))

listed_more : (bs : List ℕ) (t : Tab) (cells : List ListedName) (c : ℕ) → listed bs t cells (suc c) ≡ listed bs t cells c ++ (entry_at bs t cells c ∷ [])
unfolding listed listed_from
listed_more bs t cells c =
    ap (map (entry_at bs t cells)) (rw zero-add at (count_more 0 c)) ∙ map-append (entry_at bs t cells) (count 0 c) (c ∷ [])

listed_none : (bs : List ℕ) (t : Tab) (cells : List ListedName) → listed bs t cells 0 ≡ []
unfolding listed listed_from count
listed_none bs t cells = refl

entry_same : (bs : List ℕ) (t : Tab) (cs ds : List ListedName) (c : ℕ) → SameName cs ds c → entry_at bs t ds c ≡ entry_at bs t cs c
unfolding entry_at
entry_same bs t cs ds c h = rw (h.start, h.size, h.type)

-- names from c on do not matter to the first c
listed_same : (bs : List ℕ) (t : Tab) (cs ds : List ListedName) (c : ℕ) → ((j : ℕ) → j < c → SameName cs ds j) → listed bs t ds c ≡ listed bs t cs c
listed_same bs t cs ds zero h = listed_none bs t ds ∙ sym (listed_none bs t cs)
listed_same bs t cs ds (suc c) h =
    let a : listed bs t ds c ≡ listed bs t cs c = listed_same bs t cs ds c (λ j l. h j (omega arith)) in
    let b : entry_at bs t ds c ≡ entry_at bs t cs c = entry_same bs t cs ds c (h c (omega arith)) in
    listed_more bs t ds c ∙ rw (a, b) (sym (listed_more bs t cs c))

-- ---- after k names, of which c are listed

pub record Naming (bs : List ℕ) (fs : Rows) (top : ℕ) (cells : List ListedName) (k c : ℕ) : Type 0 where
  pub here : k ≤ name_count bs
  pub few : c ≤ k
  pub inside : (j : ℕ) → j < c → start_at cells j + length_at cells j ≤ length bs
  pub short : (j : ℕ) → j < c → length_at cells j ≤ longest_name
  pub known : (t : Tab) → Wf t → Fit t fs top → (j : ℕ) → j < c → type_at cells j < t.n
  pub answer : (t : Tab) → Wf t → Fit t fs top
      → listed bs t cells c ++ entries (drop k (names_of bs)) (drop k (shown bs t fs top)) ≡ entries (names_of bs) (shown bs t fs top)

pub naming_first : (bs : List ℕ) (fs : Rows) (top : ℕ) (cells : List ListedName) → Naming bs fs top cells 0 0
naming_first bs fs top cells = record {
  here = omega arith;
  few = omega arith;
  inside = λ j h. absurd (not-suc-le-zero h);
  short = λ j h. absurd (not-suc-le-zero h);
  known = λ t w f j h. absurd (not-suc-le-zero h);
  answer = λ t w f. rw (listed_none bs t cells);
}

-- name k and its slot are within their lists
module _ {bs : List ℕ} (s : Sound bs) (k : ℕ) (l : k < name_count bs) where
  pub name_low : k < most_names
  name_low = omega (arith, (sizes s.headed).names)

  name_here : k < length (names_of bs)
  name_here = rw (names_many bs) l

  slot_here : (t : Tab) (fs : Rows) (top : ℕ) → k < length (shown bs t fs top)
  slot_here t fs top = omega (arith, name_low, frame_long (bound_in bs) (newest (frames_of t fs top)))

pub naming_skip : {bs : List ℕ} {fs : Rows} {top : ℕ} {cells : List ListedName} {k c : ℕ} → Sound bs → Naming bs fs top cells k c → k < name_count bs
    → {marks : List Bool} → marks ≡ marks_of (bound_in bs) → {h : Held} → ToldOf fs top k (get_or marks k false) h → h ≡ None → Naming bs fs top cells (k + 1) c
naming_skip {bs} {fs} {top} {cells} {k} {c} s n l b m a = record {
  here = omega arith;
  few = omega (arith, n.few);
  inside = n.inside;
  short = n.short;
  known = n.known;
  answer = λ t w f.
      let lacks : slot_type (get_or (shown bs t fs top) k none) ≡ none = told_slot bs (name_low s k l) b m t w ∙ ap (held_type t) a in
      rw (entries_skip (names_of bs) (shown bs t fs top) k (name_here s k l) (slot_here s k l t fs top) lacks) at (n.answer t w f);
}

module _ {bs : List ℕ} (s : Sound bs) {fs : Rows} {top k c : ℕ} {cs ds : List ListedName} {from len ty : ℕ} {marks : List Bool} {h : Held}
    (n : Naming bs fs top cs k c) (l : k < name_count bs) (b : marks ≡ marks_of (bound_in bs)) (m : ToldOf fs top k (get_or marks k false) h) (a : h ≡ Some ty) (p : PutName cs ds c from len ty)
    (ef : from ≡ texts_from bs + (record_of (name_records bs) k).start) (el : len ≡ (record_of (name_records bs) k).size) where
  entry_put : (t : Tab) → entry_at bs t ds c ≡ ((name_of (names_of bs) k).spelling, denote t ty)
  unfolding entry_at
  entry_put t = rw (p.start_is, p.length_is, p.type_is, ef, el, text_of s.headed k)

  answer_put : (t : Tab) → Wf t → Fit t fs top
      → listed bs t ds (c + 1) ++ entries (drop (k + 1) (names_of bs)) (drop (k + 1) (shown bs t fs top)) ≡ entries (names_of bs) (shown bs t fs top)
  answer_put t w f =
      let has : slot_type (get_or (shown bs t fs top) k none) ≡ some (denote t ty) = told_slot bs (name_low s k l) b m t w ∙ ap (held_type t) a in
      let more = entries_more (names_of bs) (shown bs t fs top) k (name_here s k l) (slot_here s k l t fs top) (denote t ty) has in
      let old : listed bs t ds c ≡ listed bs t cs c = listed_same bs t cs ds c p.before in
      let new : listed bs t ds (c + 1) ≡ listed bs t cs c ++ (((name_of (names_of bs) k).spelling, denote t ty) ∷ []) =
      rw (add-one c, ← old, ← entry_put t) (listed_more bs t ds c) in
      rw (new, append_assoc) (rw more at (n.answer t w f))

  pub naming_put : Naming bs fs top ds (k + 1) (c + 1)
  naming_put = record {
    here = omega arith;
    few = omega (arith, n.few);
    inside = below_more (λ j. start_at ds j + length_at ds j ≤ length bs) c
        (λ j h. omega (arith, (p.before j h).start, (p.before j h).size, n.inside j h))
        (omega (arith, p.start_is, p.length_is, text_fits s.headed s.names k l, text_inside s.headed));
    short = below_more (λ j. length_at ds j ≤ longest_name) c
        (λ j h. omega (arith, (p.before j h).size, n.short j h))
        (omega (arith, p.length_is, text_short bs s.names k l));
    known = λ t w f. below_more (λ j. type_at ds j < t.n) c
        (λ j h. omega (arith, (p.before j h).type, n.known t w f j h))
        (omega (arith, p.type_is, told_known m a t w f));
    answer = answer_put;
  }

listed_end : (ws : List Name) (f : Frame) (k : ℕ) (l es : List Entry) → length ws ≤ k → l ++ entries (drop k ws) (drop k f) ≡ es → l ≡ es
unfolding entries
listed_end ws f k l es h a = rw (drop_of_length-le ws h, append-nil) at a

pub naming_end : {bs : List ℕ} {fs : Rows} {top : ℕ} {cells : List ListedName} {k c : ℕ} → Sound bs → Naming bs fs top cells k c → name_count bs ≤ k
    → Names bs fs top cells c
unfolding listing
naming_end {bs} {fs} {top} {cells} {k} {c} s n l =
    let few : c ≤ most_names = omega (arith, n.few, n.here, (sizes s.headed).names) in
    let past : length (names_of bs) ≤ k = rw (names_many bs) l in
    record {
      stands = λ t w f. record { wf = w; few = few; inside = n.inside; short = n.short; known = n.known t w f };
      listed_is = λ t w f. listed_end (names_of bs) (shown bs t fs top) k (listed bs t cells c) (entries (names_of bs) (shown bs t fs top)) past (n.answer t w f);
    }
