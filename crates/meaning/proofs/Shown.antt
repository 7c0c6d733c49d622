-- What is shown of a sheet: how long a line can be, and examples.
use mathlib.Core.Path.{◌≡◌, refl}
use mathlib.Core.Bool.{Bool, true, false}
use mathlib.Core.List.{List, [], ◌∷◌}
use mathlib.Core.Option.{none, some}
use Prim.Native.Nat.{ℕ, ◌+◌, ◌*◌, ◌<◌, ◌≤◌}
use native.Mathlib.Omega.{arith}
use borrow.Author.Tests.{leb-true}
use lib.Dec.{leb}
use lib.ListN.{length, replicate, length-append}
use Rattle.meaning.specs.Limits.{longest_name, longest_shown, largest_show, largest_changes}
use Rattle.meaning.specs.Base.{test◌then◌else◌, choose, bytes}
use Rattle.meaning.specs.Types.{Ty, unknown, int, bool, string, float, nonetype, range, function, list, dict, tuple, map_iter, filter_iter, tys, kind, text}
use Rattle.meaning.specs.Image.{text_stands}
use Rattle.meaning.specs.Sheet.{Entry, sheet_of, texts_stand, within_limits}
use Rattle.meaning.specs.Answer.{bare, meaning_open}
use Rattle.meaning.specs.Show.{dotted, shown, entry_text, entries_text, Change, came, went, turned, change_text, changes_text, changes, compared, show_open}
use Rattle.meaning.specs.Load.{loads, look, refused, loading, load_open}
use Rattle.meaning.proofs.Choices.{and_left, and_right}
use Rattle.meaning.proofs.Rows.{accepts}
use Rattle.meaning.proofs.SheetForm.{limits}
use Rattle.meaning.proofs.Changed.{Differ, none_left, comes, goes, stays, turns, differ_so, limits_texts}

-- ---- how long a line can be

dotted_short : (t : Ty) → length (dotted (kind t)) ≤ longest_shown
unfolding dotted kind choose test◌then◌else◌ bytes
dotted_short unknown = omega arith
dotted_short int = omega arith
dotted_short bool = omega arith
dotted_short string = omega arith
dotted_short float = omega arith
dotted_short nonetype = omega arith
dotted_short range = omega arith
dotted_short function = omega arith
dotted_short (list t) = omega arith
dotted_short (dict k v) = omega arith
dotted_short (tuple ts) = omega arith
dotted_short (map_iter t) = omega arith
dotted_short (filter_iter t) = omega arith

-- dots stand for a type that has parts: every other text is short enough
pub long_structured : (t : Ty) → longest_shown < length (text t) → 8 ≤ kind t
unfolding kind text bytes
long_structured unknown h = absurd (omega (arith, h))
long_structured int h = absurd (omega (arith, h))
long_structured bool h = absurd (omega (arith, h))
long_structured string h = absurd (omega (arith, h))
long_structured float h = absurd (omega (arith, h))
long_structured nonetype h = absurd (omega (arith, h))
long_structured range h = absurd (omega (arith, h))
long_structured function h = absurd (omega (arith, h))
long_structured (list t) h = omega arith
long_structured (dict k v) h = omega arith
long_structured (tuple ts) h = omega arith
long_structured (map_iter t) h = omega arith
long_structured (filter_iter t) h = omega arith

pub shown_short : (t : Ty) → length (shown t) ≤ longest_shown
unfolding shown test◌then◌else◌
shown_short t = by (leb (length (text t)) longest_shown) refl
  where
    by : (b : Bool) → leb (length (text t)) longest_shown ≡ b → length (test b then text t else dotted (kind t)) ≤ longest_shown
    by true e = leb-true (length (text t)) longest_shown e
    by false e = dotted_short t

-- a name of a sheet has at most 64 bytes, so its line at most 267, and 473 where it tells of a change
pub entry_short : (e : Entry) → length e.0 ≤ longest_name → length (entry_text e) ≤ 266
unfolding entry_text bytes
entry_short e h = simp length-append (omega (arith, shown_short e.1))

pub came_short : (e : Entry) → length e.0 ≤ longest_name → length (change_text (came e)) ≤ 268
unfolding change_text bytes
came_short e h = simp length-append (omega (arith, entry_short e h))

pub went_short : (e : Entry) → length e.0 ≤ longest_name → length (change_text (went e)) ≤ 268
unfolding change_text bytes
went_short e h = simp length-append (omega (arith, entry_short e h))

pub turned_short : (s : List ℕ) (t u : Ty) → length s ≤ longest_name → length (change_text (turned s t u)) ≤ 472
unfolding change_text bytes
turned_short s t u h = simp length-append (omega (arith, entry_short (s, t) h, shown_short u))

-- ---- how long the whole can be: 34,176 bytes for entries, 68,864 for changes

ShortNames : List Entry → Type 0
ShortNames [] = Unit {0}
ShortNames (e ∷ es) = (length e.0 ≤ longest_name) × ShortNames es

names_short : (last : List ℕ) (es : List Entry) → texts_stand last es ≡ true → ShortNames es
unfolding ShortNames texts_stand text_stands
names_short last [] h = tt
names_short last (e ∷ es) h =
    (leb-true (length e.0) longest_name (and_right _ _ (and_left _ _ (and_left _ _ (and_left _ _ h)))), names_short e.0 es (and_right _ _ h))

entries_long : (es : List Entry) → ShortNames es → length (entries_text es) ≤ 267 * length es
unfolding ShortNames entries_text bytes
entries_long [] h = omega arith
entries_long (e ∷ es) h = simp length-append (omega (arith, entry_short e h.0, entries_long es h.1))

changes_long : {es fs : List Entry} {cs : List Change} → Differ es fs cs → ShortNames es → ShortNames fs
    → length (changes_text cs) ≤ 269 * (length es + length fs)
unfolding ShortNames changes_text bytes
changes_long none_left h k = omega arith
changes_long (comes {n = n} a d) h k = simp length-append (omega (arith, came_short n k.0, changes_long d h k.1))
changes_long (goes {o = o} a d) h k = simp length-append (omega (arith, went_short o h.0, changes_long d h.1 k))
changes_long (stays e a b d) h k = omega (arith, changes_long d h.1 k.1)
changes_long (turns {o = o} {n = n} e a d) h k =
    simp length-append (omega (arith, turned_short o.0 o.1 n.1 h.0, changes_long d h.1 k.1))

pub entries_size : (es : List Entry) → within_limits es ≡ true → length (entries_text es) ≤ largest_show
entries_size es w = omega (arith, (limits es w).names, entries_long es (names_short [] es (limits_texts es w)))

pub changes_size : (es fs : List Entry) → within_limits es ≡ true → within_limits fs ≡ true → length (changes_text (changes es fs)) ≤ largest_changes
changes_size es fs v w =
    let h = limits_texts es v in
    let k = limits_texts fs w in
    omega (arith, (limits es v).names, (limits fs w).names, changes_long (differ_so es fs h k) (names_short [] es h) (names_short [] fs k))

-- ---- examples

abbrev long : ℕ → Ty
long n = tuple (tys (replicate n int))

abbrev olds : List Entry
olds = (bytes "laps", list int) ∷ (bytes "pit", unknown) ∷ (bytes "step", int) ∷ []

abbrev news : List Entry
news = (bytes "mode", string) ∷ (bytes "pit", unknown) ∷ (bytes "step", float) ∷ []

pub shown_so : (entries_text olds ≡ bytes "laps: List(Int)\npit: Unknown\nstep: Int\n")
    × (changes_text (changes olds news) ≡ bytes "- laps: List(Int)\n+ mode: String\n~ step: Int -> Float\n")
    × (changes_text (changes olds []) ≡ bytes "- laps: List(Int)\n- pit: Unknown\n- step: Int\n")
    × (changes_text (changes [] news) ≡ bytes "+ mode: String\n+ pit: Unknown\n+ step: Float\n")
    × (changes olds olds ≡ [])
unfolding meaning_open show_open
shown_so = (refl, refl, refl, refl, refl)

-- 200 bytes are shown and 201 are not
pub shown_to_200 : (length (shown (list (list (list (long 35))))) ≡ 200)
    × (length (text (list (list (list (list (long 34)))))) ≡ 201)
    × (shown (list (list (list (list (long 34))))) ≡ bytes "List(..)")
    × (change_text (turned (bytes "t") (long 39) (long 40)) ≡ bytes "~ t: Tuple(..) -> Tuple(..)")
unfolding meaning_open show_open
shown_to_200 = (refl, refl, refl, refl)

pub compared_so : (compared (sheet_of olds) (sheet_of olds) ≡ some [])
    × (compared (sheet_of olds) (sheet_of news) ≡ some (went (bytes "laps", list int) ∷ came (bytes "mode", string) ∷ turned (bytes "step") int float ∷ []))
    × (compared [] (sheet_of news) ≡ none)
unfolding meaning_open show_open
compared_so = (refl, refl, refl)

pub loading_so : (loading (accepts (sheet_of olds)) (sheet_of olds) ≡ loads)
    × (loading (accepts (sheet_of news)) (sheet_of olds) ≡ look)
    × (loading (accepts (sheet_of olds)) [] ≡ look)
    × (loading (bare 10 0) [] ≡ refused)
unfolding meaning_open show_open load_open
loading_so = (refl, refl, refl, refl)
