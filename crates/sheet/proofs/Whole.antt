-- The sheet as a whole: the areas end to end are the sheet of the names, and their sizes make its length.
use mathlib.Core.Path.{◌≡◌, refl, sym, ap, ◌∙◌, subst}
use mathlib.Core.Bool.{true, false}
use mathlib.Core.List.Memᴰ
use mathlib.Core.List.{List, [], ◌∷◌, ◌++◌, map, Memᴰ}
use Prim.Native.Nat.{ℕ, zero, suc, ◌+◌, ◌*◌, ◌≤◌, ◌<◌}
use native.Mathlib.Omega.{arith}
use borrow.Author.Tests.{le-leb, lt-leb}
use lib.Dec.{leb}
use Rattle.std.specs.Prelude.{Some, None}
use lib.ListN.{length, get_or, take, drop, replicate, length-append, length-drop, length-map, length-replicate, get_or-replicate}
use lib.Seq.{drop-cons, length-take-le, get_or-take}
use Rattle.std.proofs.lemmas.List.Sums.{sum_by-drop_more}
use Rattle.sheet.proofs.Names.{size_small}
use Rattle.meaning.specs.Limits.{most_names, longest_name, most_types}
use Rattle.meaning.specs.Base.{test◌then◌else◌, words, count}
use Rattle.meaning.specs.Types.{Ty}
use Rattle.meaning.specs.Sheet.{Entry, types_of, number, elements_of, type_records, spellings, name_records, sheet_of}
use Rattle.meaning.specs.Answer.{written}
use Rattle.meaning.proofs.SheetWords.{words_length, laid_length}
use Rattle.meaning.proofs.SheetTypes.{types_met}
use Rattle.meaning.proofs.SheetRead.{types_many, names_many}
use Rattle.meaning.proofs.SheetForm.{sheet_size}
use Rattle.meaning.proofs.Answers.{overlaid_none}
use Rattle.words.specs.Words.{put_at}
use Rattle.words.proofs.Laws.{put_overlaid}
use Rattle.types.specs.Table.{Tab, tab, most_numbers, denote, Wf}
use Rattle.types.specs.declared.Counts.{Counts}
use Rattle.sheet.specs.declared.layout.Areas.{Areas}
use Rattle.sheet.specs.declared.writer.Marks.{Marks}
use Rattle.sheet.specs.declared.list.ListedName.{ListedName}
use Rattle.sheet.specs.Listing.{no_name, start_at, length_at, type_at, entry_of, entry_at, listed_from, listed, Listing, Wrote}
use Rattle.sheet.specs.Counting.{most_written}
use Rattle.sheet.specs.Marks.{number_at, tab_of, types_in, Marked, met_each}
use Rattle.sheet.specs.Writing.{listed_types, listed_size, listed_records, listed_texts, Meeting, MetAll, Short, Put, types_bytes, elements_bytes, names_bytes, Named, NamesPut, header_bytes, Filling}
use Rattle.sheet.proofs.Marking.{own_tab, types_length}
use Rattle.sheet.proofs.Areas.{put_then, put_as}

-- ---- the names alone are the names

-- the first n elements by their places
counted : {A B : Type 0} (f : A → B) (d : A) (xs : List A) (k n : ℕ) → k + n ≤ length xs → map (λ i. f (get_or xs i d)) (count k n) ≡ map f (take n (drop k xs))
unfolding count
counted f d xs k zero h = refl
counted f d xs k (suc n) h =
    rw (drop-cons xs k d (omega arith)) (ap (λ ys. f (get_or xs k d) ∷ ys) (counted f d xs (suc k) n (omega arith)))

module _ (source : List ℕ) (t : Tab) where
  -- the first n of a list of names
  pub listed_first : (cells : List ListedName) (n : ℕ) → n ≤ length cells → listed source t cells n ≡ map (entry_of source t) (take n cells)
  unfolding listed listed_from entry_at
  listed_first cells n h = counted (entry_of source t) no_name cells 0 n (omega arith)

  types_listed : (ns : List ListedName) (us : List Ty) → met_each (listed_types t ns) us ≡ types_of (map (entry_of source t) ns) us
  unfolding met_each types_of
  types_listed [] us = refl
  types_listed (r ∷ rs) us = types_listed rs _

  texts_listed : (ns : List ListedName) → listed_texts source ns ≡ spellings (map (entry_of source t) ns)
  unfolding listed_texts spellings
  texts_listed [] = refl
  texts_listed (r ∷ rs) = ap (λ (s : List ℕ). take r.len (drop r.start source) ++ s) (texts_listed rs)

  member_listed : (ns : List ListedName) (j : ℕ) → j < length ns → Memᴰ (denote t (type_at ns j)) (map (λ e. e.1) (map (entry_of source t) ns))
  member_listed [] j h = absurd (omega arith)
  member_listed (r ∷ rs) zero h = Memᴰ.head refl
  member_listed (r ∷ rs) (suc j) h = Memᴰ.tail (member_listed rs j (omega arith))

  text_long : (r : ListedName) → r.start + r.len ≤ length source → length (take r.len (drop r.start source)) ≡ r.len
  text_long r h = length-take-le r.len (drop r.start source) (omega (arith, length-drop r.start source))

  size_listed : (ns : List ListedName) → ((j : ℕ) → j < length ns → start_at ns j + length_at ns j ≤ length source) → listed_size ns ≡ length (spellings (map (entry_of source t) ns))
  unfolding spellings
  size_listed [] h = refl
  size_listed (r ∷ rs) h =
      let ih = size_listed rs (λ j b. h (suc j) (omega arith)) in
      omega (arith, ih, sum_by-drop_more (λ (q : ListedName). q.len) (r ∷ rs) 0 r (omega arith), text_long r (h 0 (omega arith)), length-append (take r.len (drop r.start source)) (spellings (map (entry_of source t) rs)))

  records_listed : (us : List Ty) (from : ℕ) (ns : List ListedName) → ((j : ℕ) → j < length ns → start_at ns j + length_at ns j ≤ length source)
      → listed_records us t ns from ≡ name_records us from (map (entry_of source t) ns)
  unfolding listed_records name_records
  records_listed us from [] h = refl
  records_listed us from (r ∷ rs) h =
      let e = text_long r (h 0 (omega arith)) in
      rw e (ap (λ qs. (from, r.len, number us (denote t r.ty)) ∷ qs) (records_listed us (from + r.len) rs (λ j b. h (suc j) (omega arith))))

-- ---- before the walk

-- no type has a number, and the table has the counts n
pub record Unmarked (ms : Marks) (n : Counts) : Type 0 where
  pub numbers : ms.numbers.now ≡ replicate most_numbers 1
  pub order_long : length ms.order.now ≡ most_types
  pub none : ms.met ≡ 0
  pub counts : ms.counts ≡ n

module _ {ms : Marks} {n : Counts} (u : Unmarked ms n) where
  none_met : (t : Tab) → types_in t ms ≡ []
  unfolding types_in
  none_met t = rw u.none

  begun : (cs : List ℕ) → Wf (tab cs n.types n.elements) → Marked (tab cs n.types n.elements) ms
  begun cs w =
      let t = tab cs n.types n.elements in
      let unmet : (i : ℕ) → i < t.n → number_at ms i ≡ 1 = λ i h. rw u.numbers (get_or-replicate most_numbers i 1 0 (omega (arith, w.room, w.most))) in
      record {
        wf = w;
        types = ap (λ (c : Counts). c.types) u.counts;
        elements = ap (λ (c : Counts). c.elements) u.counts;
        numbers_long = ap length u.numbers ∙ length-replicate {A = ℕ} most_numbers 1;
        order_long = u.order_long;
        few = omega (arith, u.none);
        within = λ k h. absurd (omega (arith, u.none));
        ordered = rw (none_met t) tt;
        known = λ i h o. absurd (o (unmet i h));
        number = λ i h o. absurd (o (unmet i h));
        fresh = λ i h z m. Memᴰ.not-nil (rw (none_met t) at m);
      }

-- ---- the areas end to end

pub header_put : {o₀ o₁ o₂ o₃ o₄ : List ℕ} (T E N S : ℕ) → 40 ≤ length o₀
    → Put o₀ o₁ 0 (words (1 ∷ T ∷ 40 ∷ []))
    → Put o₁ o₂ 12 (words (E ∷ (40 + 12 * T) ∷ N ∷ []))
    → Put o₂ o₃ 24 (words ((40 + 12 * T + 4 * E) ∷ S ∷ (40 + 12 * T + 4 * E + 12 * N) ∷ []))
    → Put o₃ o₄ 36 (words ((40 + 12 * T + 4 * E + 12 * N + S) ∷ []))
    → Put o₀ o₄ 0 (header_bytes T E N S)
unfolding header_bytes words
header_put T E N S h a b c d = put_then (omega arith) (put_then (omega arith) (put_then (omega arith) a (omega arith) b) (omega arith) c) (omega arith) d

header_long : (T E N S : ℕ) → length (header_bytes T E N S) ≡ 40
unfolding header_bytes words
header_long T E N S = refl

module _ {source cs : List ℕ} {ms : Marks} {ns : List ListedName} {a : Areas} {S : ℕ} {out : List ℕ} (f : Filling source cs ms ns a S out) where
  abbrev t : Tab
  t = tab_of cs ms

  abbrev us : List Ty
  us = types_in t ms

  abbrev es : List Entry
  es = map (entry_of source t) ns

  pub short : Short ns
  short = record { few = f.listing.few; short = f.listing.short }

  pub named : Named t ms ns
  named = record {
    marked = f.marked;
    known = f.listing.known;
    member = λ k h g. subst (Memᴰ (denote t (type_at ns k))) (sym f.types_are) ((types_met es [] tt).known (denote t (type_at ns k)) (member_listed source t ns k h) g);
  }

  sheet_is : sheet_of es ≡ header_bytes a.types a.elements a.names S ++ types_bytes t ms ++ elements_bytes t ms ++ names_bytes t ms ns ++ listed_texts source ns
  unfolding sheet_of header_bytes
  sheet_is =
      let lu : length us ≡ a.types = types_length f.marked ∙ sym f.type_count in
      let ln : length es ≡ a.names = length-map ns (entry_of source t) ∙ sym f.name_count in
      rw (
        ← f.types_are,
        records_listed source t us 0 ns f.listing.inside,
        texts_listed source t ns,
        ← size_listed source t ns f.listing.inside,
        ← f.size_is,
        ln,
        lu,
        ← f.element_count,
      )

  pub filled : {o₁ o₂ o₃ o₄ o₅ : List ℕ}
      → Put out o₁ 0 (header_bytes a.types a.elements a.names S)
      → Put o₁ o₂ 40 (types_bytes t ms)
      → Put o₂ o₃ (40 + 12 * a.types) (elements_bytes t ms)
      → NamesPut ms ns o₃ o₄ (40 + 12 * a.types + 4 * a.elements)
      → Put o₄ o₅ (40 + 12 * a.types + 4 * a.elements + 12 * a.names) (listed_texts source ns)
      → Put out o₅ 0 (sheet_of es)
  filled p q r d e =
      let A = header_bytes a.types a.elements a.names S in
      let B = types_bytes t ms in
      let C = elements_bytes t ms in
      let D = names_bytes t ms ns in
      let la = header_long a.types a.elements a.names S in
      let lb : length B ≡ 12 * a.types = omega (arith, laid_length (type_records us 0 us), types_many us 0 us, types_length f.marked) in
      let lc : length C ≡ 4 * a.elements = omega (arith, words_length (map (number us) (elements_of us)), length-map (elements_of us) (number us), f.element_count) in
      let ld : length D ≡ 12 * a.names = omega (arith, laid_length (listed_records us t ns 0), ap length (records_listed source t us 0 ns f.listing.inside), names_many us 0 es, length-map ns (entry_of source t)) in
      let names : Put _ _ (40 + 12 * a.types + 4 * a.elements) D = record { is = d.is t named; long = d.long } in
      let ab = put_then (omega arith) p (omega arith) q in
      let lab = length-append A B in
      let abc = put_then (omega arith) ab (omega arith) r in
      let labc = length-append (A ++ B) C in
      let abcd = put_then (omega arith) abc (omega arith) names in
      let labcd = length-append (A ++ B ++ C) D in
      put_as sheet_is (put_then (omega arith) abcd (omega arith) e)

  pub total_is : length (sheet_of es) ≡ 40 + 12 * a.types + 4 * a.elements + 12 * a.names + S
  total_is =
      let e = f.types_are in
      omega (
        arith,
        sheet_size es,
        ap length e,
        ap (λ (xs : List Ty). length (elements_of xs)) e,
        types_length f.marked,
        f.element_count,
        f.size_is,
        size_listed source t ns f.listing.inside,
        length-map ns (entry_of source t),
      )

-- ---- what `write` knows after its walk

-- of the first n names of a list
pub record Walked (source : List ℕ) (t : Tab) (cells : List ListedName) (n : ℕ) (ms : Marks) : Type 0 where
  pub many : length (take n cells) ≡ n
  pub same : listed source t cells n ≡ map (entry_of source t) (take n cells)
  pub listing : Listing source t (take n cells) (length (take n cells))
  pub marked : Marked t ms
  pub types_are : types_in t ms ≡ types_of (map (entry_of source t) (take n cells)) []

module _ {source cs : List ℕ} {cells : List ListedName} {n : ℕ} {m : Counts} (l : Listing source (tab cs m.types m.elements) cells n) (long : length cells ≡ most_names) {first : Marks} (un : Unmarked first m) where
  abbrev firsts : List ListedName
  firsts = take n cells

  many : length firsts ≡ n
  many = length-take-le n cells (omega (arith, l.few))

  first_is : (k : ℕ) → k < length firsts → get_or firsts k no_name ≡ get_or cells k no_name
  first_is k h = get_or-take n cells k no_name (omega (arith, many))

  first_listing : Listing source (tab cs m.types m.elements) firsts (length firsts)
  first_listing = record {
    wf = l.wf;
    few = omega (arith, many, l.few);
    inside = λ k h. subst (λ (r : ListedName). r.start + r.len ≤ length source) (sym (first_is k h)) (l.inside k (omega (arith, many)));
    short = λ k h. subst (λ (r : ListedName). r.len ≤ longest_name) (sym (first_is k h)) (l.short k (omega (arith, many)));
    known = λ k h. subst (λ (r : ListedName). r.ty < m.types) (sym (first_is k h)) (l.known k (omega (arith, many)));
  }

  first_marked : Marked (tab cs m.types m.elements) first
  first_marked = begun un cs l.wf

  pub meeting : Meeting cs first firsts
  meeting = record {
    marked = subst (λ u. Marked u first) (sym (own_tab first_marked)) first_marked;
    known = λ k h. omega (arith, first_listing.known k h, first_marked.types);
  }

  pub walked : {ms : Marks} → MetAll cs first ms firsts → Walked source (tab cs m.types m.elements) cells n ms
  walked {ms} a =
      let t = tab cs m.types m.elements in
      let own : tab_of cs first ≡ t = own_tab first_marked in
      record {
        many = many;
        same = listed_first source t cells n (omega (arith, l.few));
        listing = first_listing;
        marked = subst (λ u. Marked u ms) own a.marked;
        types_are =
            subst (λ u. types_in u ms ≡ met_each (listed_types u firsts) (types_in u first)) own a.met_is
            ∙ ap (met_each (listed_types t firsts)) (none_met un t) ∙ types_listed source t firsts [];
      }

module _ {source cs : List ℕ} {cells : List ListedName} {ms : Marks} {N M n : ℕ} (w : Walked source (tab cs N M) cells n ms) where
  abbrev ns₀ : List ListedName
  ns₀ = take n cells

  pub own_marked : Marked (tab_of cs ms) ms
  own_marked = subst (λ u. Marked u ms) (sym (own_tab w.marked)) w.marked

  pub walked_short : Short ns₀
  walked_short = record { few = w.listing.few; short = w.listing.short }

  pub few_types : ms.met ≤ most_types
  few_types = w.marked.few

  pub filling : {a : Areas} {S : ℕ} {out : List ℕ} → a.types ≡ ms.met → a.elements ≡ length (elements_of (types_in (tab_of cs ms) ms)) → a.names ≡ length ns₀ → S ≡ listed_size ns₀
      → 40 + 12 * a.types + 4 * a.elements + 12 * a.names + S ≤ length out → Filling source cs ms ns₀ a S out
  filling e_t e_e e_n e_s h =
      let own = sym (own_tab w.marked) in
      record {
        listing = subst (λ u. Listing source u ns₀ (length ns₀)) own w.listing;
        marked = own_marked;
        types_are = subst (λ u. types_in u ms ≡ types_of (map (entry_of source u) ns₀) []) own w.types_are;
        type_count = e_t;
        element_count = e_e;
        name_count = e_n;
        size_is = e_s;
        small = omega (arith, e_s, size_small walked_short);
        room = h;
      }

  module _ {E S : ℕ} (e_e : (E ≡ length (elements_of (types_in (tab_of cs ms) ms))) × (E ≤ most_written)) (e_s : S ≡ listed_size ns₀) where
    sheet_long : length (sheet_of (listed source (tab cs N M) cells n)) ≡ 40 + 12 * ms.met + 4 * E + 12 * length ns₀ + S
    sheet_long =
        let total = 40 + 12 * ms.met + 4 * E + 12 * length ns₀ + S in
        let room : List ℕ = replicate total 0 in
        let long : length room ≡ total = length-replicate {A = ℕ} total 0 in
        let a : Areas = record { types = ms.met; elements = E; names = length ns₀; few_types = w.marked.few; few_elements = e_e.1; few_names = w.listing.few } in
        let f = filling {a = a} {out = room} refl e_e.0 refl e_s (omega arith) in
        ap (λ (es : List Entry). length (sheet_of es)) w.same ∙ subst (λ u. length (sheet_of (map (entry_of source u) ns₀)) ≡ total) (own_tab w.marked) (total_is f)

    module _ {total : ℕ} (e : total ≡ 40 + 12 * ms.met + 4 * E + 12 * length ns₀ + S) where
      pub wrote_not : (out : List ℕ) → length out < total → Wrote (listed source (tab cs N M) cells n) None out out
      unfolding written test◌then◌else◌
      wrote_not out h =
          let no : leb (length (sheet_of (listed source (tab cs N M) cells n))) (length out) ≡ false = lt-leb (length (sheet_of (listed source (tab cs N M) cells n))) (length out) (omega (arith, sheet_long)) in
          record {
            fits_is = sym no;
            length_is = rw no;
            out_is = rw no (sym (overlaid_none out));
          }

      pub wrote_all : (out new : List ℕ) → (length out < total → ⊥) → Put out new 0 (sheet_of (map (entry_of source (tab_of cs ms)) ns₀)) → Wrote (listed source (tab cs N M) cells n) (Some total) out new
      unfolding written test◌then◌else◌
      wrote_all out new h p =
          let yes_fits : leb (length (sheet_of (listed source (tab cs N M) cells n))) (length out) ≡ true = le-leb (length (sheet_of (listed source (tab cs N M) cells n))) (length out) (omega (arith, sheet_long)) in
          let put : new ≡ put_at out 0 (sheet_of (listed source (tab cs N M) cells n)) = rw w.same (subst (λ u. new ≡ put_at out 0 (sheet_of (map (entry_of source u) ns₀))) (own_tab w.marked) p.is) in
          record {
            fits_is = sym yes_fits;
            length_is = rw yes_fits (e ∙ sym sheet_long);
            out_is = rw yes_fits (put ∙ put_overlaid out (sheet_of (listed source (tab cs N M) cells n)));
          }
