-- The names by their cells, one after the other, and the walk over their types.
use mathlib.Core.Path.{◌≡◌, refl, sym, ap, ◌∙◌, subst}
use mathlib.Core.List.{List, [], ◌∷◌, ◌++◌}
use Prim.Native.Nat.{ℕ, suc, ◌+◌, ◌≤◌, ◌<◌}
use native.Mathlib.Numerals.{add-one}
use native.Mathlib.Omega.{arith}
use lib.ListN.{length, get_or, take, drop, drop_of_length-le}
use lib.Seq.{drop-cons}
use Rattle.std.specs.Prelude.{All}
use Rattle.std.proofs.lemmas.List.Elements.{All-nil, All-cons}
use Rattle.std.proofs.lemmas.List.Sums.{sum_by-drop_more, sum_by-le}
use Rattle.meaning.specs.Limits.{longest_name, most_text}
use Rattle.meaning.specs.Types.{Ty}
use Rattle.meaning.specs.Sheet.{number, met}
use Rattle.types.specs.Table.{Tab, denote}
use Rattle.sheet.specs.declared.writer.Open.{Open}
use Rattle.sheet.specs.declared.writer.Marks.{Marks}
use Rattle.sheet.specs.declared.list.ListedName.{ListedName}
use Rattle.sheet.specs.Listing.{no_name, start_at, length_at, type_at}
use Rattle.sheet.specs.Marks.{tab_of, types_in, Marked, met_each}
use Rattle.sheet.specs.Opening.{OpenRoom, Visiting, Visited}
use Rattle.sheet.specs.Writing.{listed_types, listed_size, listed_records, listed_texts, Meeting, MetAll, Short}
use Rattle.sheet.proofs.Marking.{own_tab}

-- ---- the next name of those left

module _ (ns : List ListedName) (k : ℕ) (h : k < length ns) where
  pub names_step : drop k ns ≡ get_or ns k no_name ∷ drop (k + 1) ns
  names_step = rw (drop-cons ns k no_name h, add-one k)

  pub size_step : listed_size (drop k ns) ≡ length_at ns k + listed_size (drop (k + 1) ns)
  size_step = sum_by-drop_more (λ (r : ListedName). r.len) ns k no_name h

  pub records_step : (us : List Ty) (t : Tab) (from : ℕ)
      → listed_records us t (drop k ns) from ≡ (from, length_at ns k, number us (denote t (type_at ns k))) ∷ listed_records us t (drop (k + 1) ns) (from + length_at ns k)
  unfolding listed_records
  records_step us t from = rw names_step

  pub texts_step : (source : List ℕ)
      → listed_texts source (drop k ns) ≡ take (length_at ns k) (drop (start_at ns k) source) ++ listed_texts source (drop (k + 1) ns)
  unfolding listed_texts
  texts_step source = rw names_step

pub none_left : (ns : List ListedName) (k : ℕ) → (k < length ns → ⊥) → drop k ns ≡ []
none_left ns k h = drop_of_length-le ns (omega arith)

-- ---- the walk over the types

pub record MeetLoop (cs : List ℕ) (ms : Marks) (ns : List ListedName) (k : ℕ) (new : Marks) : Type 0 where
  pub meeting : Meeting cs ms ns
  pub marked : Marked (tab_of cs ms) new
  pub left : met_each (listed_types (tab_of cs ms) (drop k ns)) (types_in (tab_of cs ms) new) ≡ met_each (listed_types (tab_of cs ms) ns) (types_in (tab_of cs ms) ms)

pub meet_first : {cs : List ℕ} {ms : Marks} {ns : List ListedName} → Meeting cs ms ns → MeetLoop cs ms ns 0 ms
meet_first m = record { meeting = m; marked = m.marked; left = refl }

module _ {cs : List ℕ} {ms : Marks} {ns : List ListedName} {k : ℕ} {new : Marks} (l : MeetLoop cs ms ns k new) where
  abbrev t : Tab
  t = tab_of cs ms

  pub meet_visit : {ops path : List Open} → OpenRoom ms ops → length path ≡ length ops → k < length ns → Visiting cs new path (type_at ns k)
  meet_visit o q h = record {
    marked = subst (λ u. Marked u new) (sym (own_tab l.marked)) l.marked;
    open_room = record { room = omega (arith, o.room, q, l.marked.types) };
    below = omega (arith, l.meeting.known k h, l.marked.types);
  }

  pub meet_next : {os : Marks} → k < length ns → Visited cs new os (type_at ns k) → MeetLoop cs ms ns (k + 1) os
  unfolding met_each
  meet_next {os} h v =
      let e : tab_of cs new ≡ t = own_tab l.marked in
      let met_here : types_in t os ≡ met (denote t (type_at ns k)) (types_in t new) = subst (λ u. types_in u os ≡ met (denote u (type_at ns k)) (types_in u new)) e v.met_is in
      record {
        meeting = l.meeting;
        marked = subst (λ u. Marked u os) e v.marked;
        left = rw met_here (sym (ap (λ (rs : List ListedName). met_each (listed_types t rs) (types_in t new)) (names_step ns k h)) ∙ l.left);
      }

  pub meet_end : (k < length ns → ⊥) → MetAll cs ms new ns
  unfolding met_each
  meet_end h = record { marked = l.marked; met_is = rw (none_left ns k h) at l.left }

-- ---- the size of the texts

abbrev IsShort : ListedName → Type 0
IsShort r = r.len ≤ longest_name

each_short : (ns : List ListedName) → ((k : ℕ) → k < length ns → length_at ns k ≤ longest_name) → All IsShort ns
each_short [] h = All-nil IsShort
each_short (r ∷ rs) h = All-cons IsShort r rs (h 0 (omega arith)) (each_short rs (λ k l. h (suc k) (omega arith)))

pub size_small : {ns : List ListedName} → Short ns → listed_size ns ≤ most_text
size_small {ns} s = omega (arith, sum_by-le (λ (r : ListedName). r.len) longest_name ns (each_short ns s.short), s.few)
