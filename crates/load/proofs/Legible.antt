-- Each byte of a text that `show` or `changes` hands out is 32 to 126, or the 10 that ends a line: so it can be printed as it is, and is UTF-8.
-- (False of a program that tells the length of the buffer, or puts a 0 behind the text.)
use mathlib.Core.Path.{◌≡◌, refl}
use mathlib.Core.Bool.{Bool, true}
use mathlib.Core.List.{List, [], ◌∷◌, ◌++◌}
use Prim.Native.Nat.{ℕ}
use Prim.Native.String.{String}
use lib.Dec.{eqb, leb}
use lib.ListN.{length, take}
use Rattle.meaning.specs.Limits.{longest_shown}
use Rattle.meaning.specs.Base.{◌and◌, ◌or◌, all, bytes}
use Rattle.meaning.specs.Types.{Ty, kind, text}
use Rattle.meaning.specs.Image.{text_stands}
use Rattle.meaning.specs.Sheet.{Entry, texts_stand}
use Rattle.meaning.specs.Read.{entries_in, is_sheet}
use Rattle.meaning.specs.Show.{dotted, shown, entry_text, entries_text, Change, came, went, turned, change_text, changes_text, show_answer, changes_answer}
use Rattle.meaning.proofs.Choices.{and_left, and_right, both}
use Rattle.meaning.proofs.SheetForm.{sheet_is}
use Rattle.meaning.proofs.Changed.{about, Differ, none_left, comes, goes, stays, turns, differ_so, limits_texts}
use Rattle.checker.specs.Answers.{readable}
use Rattle.checker.proofs.Readable.{if_passes, choose_passes, Legible, join, amid, text_legible, printable_legible}
use Rattle.show.specs.Words.{Tells}
use Rattle.show.proofs.Runs.{shown_sheet, shown_text, both_sheets, told_text}

-- ---- what is said of one name

shown_legible : (t : Ty) → Legible (shown t)
unfolding shown dotted bytes all readable ◌and◌
shown_legible t =
    if_passes (all readable) (leb (length (text t)) longest_shown) (text t) (dotted (kind t)) (text_legible t)
    (choose_passes (λ (s : String). all readable (bytes s)) (kind t) "" ((8, "List(..)") ∷ (9, "Dict(..)") ∷ (10, "Tuple(..)") ∷ (11, "MapIter(..)") ∷ (12, "FilterIter(..)") ∷ []) refl refl)

entry_legible : (e : Entry) → Legible e.0 → Legible (entry_text e)
unfolding entry_text bytes all readable ◌and◌
entry_legible e h = amid e.0 (bytes ": ") (shown e.1) h refl (shown_legible e.1)

change_legible : (c : Change) → Legible (about c) → Legible (change_text c)
unfolding change_text about bytes all readable ◌and◌
change_legible (came e) h = join (bytes "+ ") (entry_text e) refl (entry_legible e h)
change_legible (went e) h = join (bytes "- ") (entry_text e) refl (entry_legible e h)
change_legible (turned s t u) h =
    amid (bytes "~ " ++ entry_text (s, t)) (bytes " -> ") (shown u) (join (bytes "~ ") (entry_text (s, t)) refl (entry_legible (s, t) h)) refl (shown_legible u)

-- ---- lines

unfoldable pub in_line : ℕ → Bool
in_line b = readable b or eqb b 10

abbrev pub Lines : List ℕ → Type 0
Lines s = all in_line s ≡ true

readable_in_line : (b : ℕ) → readable b ≡ true → in_line b ≡ true
unfolding in_line ◌or◌
readable_in_line b h = rw h

end_in_line : in_line 10 ≡ true
unfolding in_line readable ◌and◌ ◌or◌
end_in_line = refl

one_more : (s rest : List ℕ) → Legible s → Lines rest → Lines (s ++ bytes "\n" ++ rest)
unfolding all bytes
one_more [] rest h l = both _ _ end_in_line l
one_more (b ∷ s) rest h l = both _ _ (readable_in_line b (and_left _ _ h)) (one_more s rest (and_right _ _ h) l)

LegibleNames : List Entry → Type 0
LegibleNames [] = Unit {0}
LegibleNames (e ∷ es) = Legible e.0 × LegibleNames es

names_legible : (last : List ℕ) (es : List Entry) → texts_stand last es ≡ true → LegibleNames es
unfolding LegibleNames texts_stand text_stands
names_legible last [] h = tt
names_legible last (e ∷ es) h = (printable_legible e.0 (and_right _ _ (and_left _ _ (and_left _ _ h))), names_legible e.0 es (and_right _ _ h))

entries_lines : (es : List Entry) → LegibleNames es → Lines (entries_text es)
unfolding LegibleNames entries_text all
entries_lines [] h = refl
entries_lines (e ∷ es) h = one_more (entry_text e) (entries_text es) (entry_legible e h.0) (entries_lines es h.1)

changes_lines : {es fs : List Entry} {cs : List Change} → Differ es fs cs → LegibleNames es → LegibleNames fs → Lines (changes_text cs)
unfolding LegibleNames changes_text about all
changes_lines none_left h k = refl
changes_lines (comes {n = n} a d) h k = one_more (change_text (came n)) _ (change_legible (came n) k.0) (changes_lines d h k.1)
changes_lines (goes {o = o} a d) h k = one_more (change_text (went o)) _ (change_legible (went o) h.0) (changes_lines d h.1 k)
changes_lines (stays e a b d) h k = changes_lines d h.1 k.1
changes_lines (turns {o = o} {n = n} e a d) h k =
    one_more (change_text (turned o.0 o.1 n.1)) _ (change_legible (turned o.0 o.1 n.1) h.0) (changes_lines d h.1 k.1)

-- ---- of runs

sheet_texts : (bs : List ℕ) → is_sheet bs ≡ true → texts_stand [] (entries_in bs) ≡ true
sheet_texts bs y = limits_texts (entries_in bs) (sheet_is bs y).limits

sheet_names : (bs : List ℕ) → is_sheet bs ≡ true → LegibleNames (entries_in bs)
sheet_names bs y = names_legible [] (entries_in bs) (sheet_texts bs y)

pub shown_readable : (bs : List ℕ) (room : ℕ) {out new : List ℕ} {size : ℕ} → Tells (show_answer bs room) 0 size out new → Lines (take size new)
shown_readable bs room x =
    rw (shown_text bs room x refl) (entries_lines (entries_in bs) (sheet_names bs (shown_sheet bs room x refl)))

pub told_readable : (old new : List ℕ) (room : ℕ) {out after : List ℕ} {size : ℕ} → Tells (changes_answer old new room) 0 size out after → Lines (take size after)
told_readable old new room x =
    let y = both_sheets old new room x refl in
    rw (told_text old new room x refl)
    (changes_lines (differ_so (entries_in old) (entries_in new) (sheet_texts old y.0) (sheet_texts new y.1)) (sheet_names old y.0) (sheet_names new y.1))
