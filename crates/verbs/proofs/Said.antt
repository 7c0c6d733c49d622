-- What is said, from what the crates below left. Assumes nothing.
use mathlib.Core.Path.{◌≡◌, refl, sym, ap, ◌∙◌, subst}
use mathlib.Core.Bool.{true}
use mathlib.Core.Logic.{◌⊎◌, inl, inr}
use mathlib.Core.List.{List, [], ◌∷◌, ◌++◌}
use mathlib.Core.Option.{Option, none, some}
use Prim.Native.Nat.{ℕ, ◌≤◌, ◌<◌}
use native.Mathlib.Nat.{zero-add}
use native.Mathlib.Decide.{dec_lt}
use native.Mathlib.Omega.{arith}
use borrow.Author.Tests.{eq-eqb, ne_eqb}
use lib.ListN.{length, take}
use lib.Seq.{length-take-le}
use Rattle.meaning.specs.Limits.{sheet_buffer, message_buffer, largest_show, largest_changes}
use Rattle.meaning.specs.Base.{◌or◌, test◌then◌else◌, if_some, bytes}
use Rattle.meaning.specs.Sheet.{Entry}
use Rattle.meaning.specs.Read.{entries_in, is_sheet, read_sheet}
use Rattle.meaning.specs.Answer.{Answer, bare, answer, read_answer, overlaid, meaning_open}
use Rattle.meaning.specs.Convert.{Conversion, convert_answer}
use Rattle.meaning.specs.Line.{spaced, refused_line, line_of}
use Rattle.meaning.specs.Show.{entries_text, Change, changes_text, changes, InWords, show_answer, changes_answer}
use Rattle.meaning.specs.Image.{Fault, image_fault}
use Rattle.meaning.specs.Known.{Steadiness, def_in_if, steadiness}
use Rattle.meaning.specs.Load.{Loading, loading}
use Rattle.meaning.proofs.Faults.{sound}
use Rattle.meaning.proofs.Converted.{convert_refused, convert_short, convert_done}
use Rattle.meaning.proofs.SheetForm.{read_yes}
use Rattle.meaning.proofs.Changed.{no_words}
use Rattle.meaning.proofs.InWords.{show_none, show_whole, compared_none, compared_both, changes_none, changes_whole}
use Rattle.meaning.proofs.Loads.{number_loads, number_look, number_refused, look_exactly}
use Rattle.meaning.proofs.Answers.{overlaid_front}
use Rattle.words.specs.Words.{Wrote}
use Rattle.words.proofs.Laws.{put_nil, put_overlaid, wrote, and_then}
use Rattle.checker.specs.Answers.{Numbers, numbers_in, reading_numbers}
use Rattle.checker.proofs.Places.{fault_near}
use Rattle.convert.specs.Outcome.{Hands}
use Rattle.convert.specs.Outcome.{Numbers as Converting}
use Rattle.std.specs.Prelude.{Ok, Err}
use Rattle.std.specs.Result.{result_unwrap_or}
use Rattle.checker.specs.declared.NoSheet.{NoSheet as NoReading}
use Rattle.line.specs.Printing.{Fronted, Lined, SecondTold}
use Rattle.line.proofs.Answered.{fronted}
use Rattle.show.specs.Words.{Telling, telling_code, telling_length, Tells}
use Rattle.show.specs.declared.Untold.{Untold}
use Rattle.show.specs.declared.Untold.TheVariants.{NoRoom, NoSheet}
use Rattle.load.specs.Rule.{Decides}
use Rattle.load.proofs.Cases.{sheet_there}
use Rattle.verbs.specs.Said.{status_of, Said, Says, span_text, first_text, told_text, check_said, known_text, known_said, refusal_of, Writes, unconverted_text, Renews, no_sheet_said, show_said, changed_if, changes_said, compared_as, names_in, look_text, load_said_by, load_said}
use Rattle.verbs.specs.declared.Status.{Status}
use Rattle.verbs.specs.declared.Status.TheVariants.{Fine, Changed, Refused}

-- ---- the status

pub status_fine : {c : ℕ} → c ≡ 0 → Fine ≡ status_of c
unfolding status_of test◌then◌else◌
status_fine {c} e = rw (eq-eqb c 0 e)

pub status_refused : {c : ℕ} → (c ≡ 0 → ⊥) → Refused ≡ status_of c
unfolding status_of test◌then◌else◌
status_refused {c} n = rw (ne_eqb c 0 n)

-- a text written at the front of a buffer
front_of : {d e : List ℕ} {r : ℕ} (s : List ℕ) → Wrote d 0 s e r → Fronted s d e r
front_of {d} s a = record { line = a.same ∙ put_overlaid d s; ends = a.ends ∙ zero-add _; long = a.long; inside = a.inside }

-- ---- a span, and the line of the first place

pub span_wrote : (start end : ℕ) {d e f g : List ℕ} {at i j k : ℕ} → Wrote d at (spaced (start ∷ [])) e i → Wrote e i (spaced (end ∷ [])) f j
    → Wrote f j (bytes "\n") g k → Wrote d at (span_text start end) g k
unfolding span_text
span_wrote start end a b n = and_then (and_then a b) n

pub first_wrote : (code start end : ℕ) {d e f : List ℕ} {at i j : ℕ} → (code ≡ 23) ⊎ (code ≡ 25) → Wrote d at (bytes "first set here") e i
    → Wrote e i (span_text start end) f j → Wrote d at (first_text code start end) f j
unfolding first_text ◌or◌ test◌then◌else◌
first_wrote code start end (inl z) a b = rw z (and_then a b)
first_wrote code start end (inr z) a b = rw z (and_then a b)

pub first_none : (code start end : ℕ) {d : List ℕ} {at : ℕ} → ((code ≡ 23) ⊎ (code ≡ 25) → ⊥) → at ≤ length d → Wrote d at (first_text code start end) d at
unfolding first_text ◌or◌ test◌then◌else◌
first_none code start end {d} {at} n h = rw (ne_eqb code 23 (λ e. n (inl e)), ne_eqb code 25 (λ e. n (inr e))) (wrote [] (omega (arith, h)) (sym (put_nil d at)) (omega arith))

-- behind the answer's own line
front_wrote : (w old : List ℕ) {new : List ℕ} {r : ℕ} → Fronted w old new r → Wrote old 0 w new r
front_wrote w old f = record { same = f.line ∙ sym (put_overlaid old w); ends = f.ends ∙ sym (zero-add _); long = f.long; inside = f.inside }

pub told_front : (a : Answer) {old mid new : List ℕ} {code start end size r : ℕ} → Fronted (line_of a) old mid size → code ≡ a.code → SecondTold a start end
    → Wrote mid size (first_text code start end) new r → Fronted (told_text a) old new r
unfolding told_text
told_front a {old} {mid} {new} {size = size} {r} l c t w =
    front_of (line_of a ++ first_text a.code a.second_start a.second_end)
    (and_then (front_wrote (line_of a) old l) (rw (← c, ← t.from, ← t.to) w))

-- ---- `check`

pub says_check : {a : Answer} {old mid new s s₁ m m₁ : List ℕ} {size code count start end r : ℕ} {t : Status} → Lined a old mid s s₁ m m₁ size code count
    → SecondTold a start end → Wrote mid size (first_text code start end) new r → t ≡ status_of code
    → Says (check_said a) old new (record { length = r; status = t })
unfolding check_said
says_check {a} l q w e = record { front = told_front a l.front l.told q w; status = e ∙ ap status_of l.told }

-- ---- `check --known`

pub known_changes : (setting n start end : ℕ) {d e f : List ℕ} {at i r : ℕ} → (setting ≡ 1 → ⊥) → Wrote d at (bytes "known may change: def inside an if") e i
    → Wrote e i (span_text start end) f r → Wrote d at (known_text setting (def_in_if n start end)) f r
unfolding known_text test◌then◌else◌
known_changes setting n start end s w v = rw (ne_eqb setting 1 s) (and_then w v)

pub says_known : (setting : ℕ) (bs : List ℕ) {old mid new : List ℕ} {at r : ℕ} {t : Status} {s : Steadiness}
    → Says (check_said (answer setting bs sheet_buffer message_buffer)) old mid (record { length = at; status = t }) → s ≡ steadiness bs
    → Wrote mid at (known_text setting s) new r → Says (known_said setting bs) old new (record { length = r; status = t }) × (r ≤ length new)
unfolding known_said check_said
says_known setting bs {old} x e w =
    let f = front_of _ (and_then (front_wrote _ old x.front) (rw e at w)) in
    (record { front = f; status = x.status }, f.inside)

-- ---- `sheet`

no_refusal : (a : Answer) → a.code ≡ 0 → [] ≡ refusal_of a
unfolding refusal_of test◌then◌else◌
no_refusal a e = rw (eq-eqb a.code 0 e)

a_refusal : (a : Answer) → (a.code ≡ 0 → ⊥) → told_text a ≡ refusal_of a
unfolding refusal_of test◌then◌else◌
a_refusal a n = rw (ne_eqb a.code 0 n)

module _ {a : Answer} {old mid new s s₁ m m₁ : List ℕ} {size code count start end r : ℕ} (l : Lined a old mid s s₁ m m₁ size code count) (q : SecondTold a start end)
    (w : Wrote mid size (first_text code start end) new r) (kept : length s₁ ≡ length s) where
  in_front : Fronted a.sheet s s₁ count
  in_front = fronted s a.sheet l.sheet l.counted kept

  told : Fronted (told_text a) old new r
  told = told_front a l.front l.told q w

  pub writes_fine : code ≡ 0 → Writes a s s₁ old new (record { length = count; line = 0; status = Fine }) × ((count ≤ length s₁) × (0 ≤ length new))
  writes_fine z =
      let e : a.code ≡ 0 = sym l.told ∙ z in
      (record { sheet = in_front; line = told.line; told = ap length (no_refusal a e); status = status_fine e }, (in_front.inside, omega arith))

  pub writes_refused : (code ≡ 0 → ⊥) → Writes a s s₁ old new (record { length = count; line = r; status = Refused }) × ((count ≤ length s₁) × (r ≤ length new))
  writes_refused z =
      let n : a.code ≡ 0 → ⊥ = λ e. z (l.told ∙ e) in
      (record { sheet = in_front; line = told.line; told = told.ends ∙ ap length (a_refusal a n); status = status_refused n }, (in_front.inside, told.inside))

-- ---- `convert`

near_by : (bs : List ℕ) (room : ℕ) (o : Option Fault) → image_fault bs ≡ o → (convert_answer bs room).place < 4294967296
near_by bs room (some f) e = rw (convert_refused bs room f e) (fault_near bs f e)
near_by bs room none e = elim (dec_lt room (length bs)) [
  | yes l ↦ rw (convert_short bs room ((sound bs).0 e) l) (omega arith)
  | no l ↦ rw (convert_done bs room ((sound bs).0 e) (omega arith)) (omega arith)
]

-- its place is a word
pub convert_near : (bs : List ℕ) (room : ℕ) {n : Converting} {old new : List ℕ} → Hands (convert_answer bs room) n old new → n.place < 4294967296
convert_near bs room x = omega (arith, near_by bs room (image_fault bs) refl, ap (λ (k : Converting). k.place) x.numbers)

module _ {a : Conversion} {n : Converting} {s s₁ : List ℕ} (x : Hands a n s s₁) (kept : length s₁ ≡ length s) where
  image_front : Fronted a.image s s₁ n.length
  image_front = fronted s a.image x.out (ap (λ (k : Converting). k.length) x.numbers) kept

  code_same : n.code ≡ a.code
  code_same = ap (λ (k : Converting). k.code) x.numbers

  no_text : a.code ≡ 0 → [] ≡ unconverted_text a
  unfolding unconverted_text test◌then◌else◌
  no_text e = rw (eq-eqb a.code 0 e)

  a_text : (a.code ≡ 0 → ⊥) → refused_line (bare a.code a.place) ≡ unconverted_text a
  unfolding unconverted_text test◌then◌else◌
  a_text z = rw (ne_eqb a.code 0 z)

  pub renews_fine : (old : List ℕ) → n.code ≡ 0
      → Renews a s s₁ old old (record { length = n.length; line = 0; status = Fine }) × ((n.length ≤ length s₁) × (0 ≤ length old))
  renews_fine old z =
      let e : a.code ≡ 0 = sym code_same ∙ z in
      let w : Fronted (unconverted_text a) old old 0 =
      subst (λ (t : List ℕ). Fronted t old old 0) (no_text e) (front_of [] (wrote [] (omega arith) (sym (put_nil old 0)) (omega arith))) in
      (record { image = image_front; line = w; status = status_fine e }, (image_front.inside, omega arith))

  pub renews_refused : {old new : List ℕ} {r : ℕ} (place : ℕ) → (n.code ≡ 0 → ⊥) → place ≡ n.place → Wrote old 0 (refused_line (bare n.code place)) new r
      → Renews a s s₁ old new (record { length = n.length; line = r; status = Refused }) × ((n.length ≤ length s₁) × (r ≤ length new))
  renews_refused {old} {new} {r} place z p w =
      let c : a.code ≡ 0 → ⊥ = λ e. z (code_same ∙ e) in
      let q : place ≡ a.place = p ∙ ap (λ (k : Converting). k.place) x.numbers in
      let f : Fronted (unconverted_text a) old new r =
      subst (λ (t : List ℕ). Fronted t old new r) (ap (λ (i : ℕ). refused_line (bare i place)) code_same ∙ ap (λ (i : ℕ). refused_line (bare a.code i)) q ∙ a_text c)
      (front_of _ w) in
      (record { image = image_front; line = f; status = status_refused c }, (image_front.inside, f.inside))

-- ---- a sheet in words: the room is always enough

-- where nothing is told the code is not 0
pub code_above : (e : Untold) → telling_code (Err e) ≡ 0 → ⊥
code_above NoRoom z = omega (arith, z)
code_above NoSheet z = omega (arith, z)

-- how much was told
pub told_size : (t : Telling) → telling_length t ≡ result_unwrap_or t 0
told_size (Ok n) = refl
told_size (Err e) = refl

-- what was told is what is to be said
tells_said : {a b : InWords} {s r : Said} {code size : ℕ} (old : List ℕ) {new : List ℕ} {t : Status} → Tells a code size old new → length new ≡ length old → a ≡ b → r ≡ s
    → b.text ≡ r.text → t ≡ r.status → Says s old new (record { length = size; status = t }) × (size ≤ length new)
tells_said {s = s} old x kept e f p q =
    let w = ap (λ (i : InWords). i.text) e ∙ p ∙ ap (λ (i : Said). i.text) f in
    let h = fronted old s.text (x.out_is ∙ ap (λ (i : List ℕ). overlaid i old) w) (x.length_is ∙ ap length w) kept in
    (record { front = h; status = q ∙ ap (λ (i : Said). i.status) f }, h.inside)

-- the code of what was told
code_of : {a b : InWords} {code size : ℕ} {old new : List ℕ} → Tells a code size old new → a ≡ b → code ≡ b.code
code_of x e = x.code_is ∙ ap (λ (i : InWords). i.code) e

module _ (bs : List ℕ) where
  said_none : read_sheet bs ≡ none → no_sheet_said ≡ show_said bs
  unfolding show_said if_some
  said_none e = rw e

  said_some : (es : List Entry) → read_sheet bs ≡ some es → record { text = entries_text es; status = Fine } ≡ show_said bs
  unfolding show_said if_some
  said_some es e = rw e

  module _ (old : List ℕ) {new : List ℕ} {code size : ℕ} {t : Status} (room : largest_show ≤ length old) (x : Tells (show_answer bs (length old)) code size old new)
      (kept : length new ≡ length old) (p : t ≡ status_of code) where
    pub says_show : Says (show_said bs) old new (record { length = size; status = t }) × (size ≤ length new)
    says_show = by (read_sheet bs) refl
      where
        by : (o : Option (List Entry)) → read_sheet bs ≡ o → Says (show_said bs) old new (record { length = size; status = t }) × (size ≤ length new)
        by none e =
            let a = show_none bs (length old) e in
            tells_said old x kept a (said_none e) refl (p ∙ sym (status_refused (λ z. omega (arith, code_of x a, z))))
        by (some es) e =
            let a = show_whole bs (length old) e room in
            tells_said old x kept a (said_some es e) refl (p ∙ sym (status_fine (code_of x a)))

-- ---- two sheets

module _ {c : ℕ} (n : ℕ) where
  pub compared_refused : (c ≡ 0 → ⊥) → Refused ≡ compared_as c n
  unfolding compared_as test◌then◌else◌
  compared_refused z = rw (ne_eqb c 0 z)

  pub compared_equal : c ≡ 0 → n ≡ 0 → Fine ≡ compared_as c n
  unfolding compared_as test◌then◌else◌
  compared_equal z e = rw (eq-eqb c 0 z, eq-eqb n 0 e)

  pub compared_changed : c ≡ 0 → (n ≡ 0 → ⊥) → Changed ≡ compared_as c n
  unfolding compared_as test◌then◌else◌
  compared_changed z e = rw (eq-eqb c 0 z, ne_eqb n 0 e)

-- a change has a line
changed_so : (cs : List Change) {c n : ℕ} → c ≡ 0 → n ≡ length (changes_text cs) → compared_as c n ≡ changed_if cs
unfolding changed_if
changed_so [] {c} {n} z e = sym (compared_equal n z (e ∙ (no_words []).1 refl))
changed_so (d ∷ cs) {c} {n} z e = sym (compared_changed n z (λ o. some_change ((no_words (d ∷ cs)).0 (sym e ∙ o))))
  where
    some_change : (d ∷ cs ≡ []) → ⊥
    some_change p = let q = ap length p in omega (arith, q)

module _ (old new : List ℕ) where
  pub none_said : (read_sheet old ≡ none) ⊎ (read_sheet new ≡ none) → no_sheet_said ≡ changes_said old new
  unfolding changes_said if_some
  none_said h = rw (compared_none old new h)

  pub both_said : (es fs : List Entry) → read_sheet old ≡ some es → read_sheet new ≡ some fs
      → record { text = changes_text (changes es fs); status = changed_if (changes es fs) } ≡ changes_said old new
  unfolding changes_said if_some
  both_said es fs e f = rw (compared_both old new e f)

  module _ (out : List ℕ) {after : List ℕ} {code size : ℕ} {t : Status} (room : largest_changes ≤ length out)
      (x : Tells (changes_answer old new (length out)) code size out after) (kept : length after ≡ length out) (p : t ≡ compared_as code size) where
    says_none : (read_sheet old ≡ none) ⊎ (read_sheet new ≡ none) → Says (changes_said old new) out after (record { length = size; status = t }) × (size ≤ length after)
    says_none h =
        let a = changes_none old new (length out) h in
        tells_said out x kept a (none_said h) refl (p ∙ sym (compared_refused size (λ z. omega (arith, code_of x a, z))))

    pub says_changes : Says (changes_said old new) out after (record { length = size; status = t }) × (size ≤ length after)
    says_changes = by (read_sheet old) refl (read_sheet new) refl
      where
        by : (o : Option (List Entry)) → read_sheet old ≡ o → (q : Option (List Entry)) → read_sheet new ≡ q
            → Says (changes_said old new) out after (record { length = size; status = t }) × (size ≤ length after)
        by none e q f = says_none (inl e)
        by (some es) e none f = says_none (inr f)
        by (some es) e (some fs) f =
            let a = changes_whole old new (length out) e f room in
            tells_said out x kept a (both_said es fs e f) refl
            (p ∙ changed_so (changes es fs) (code_of x a) (x.length_is ∙ ap (λ (w : InWords). length w.text) a))

-- ---- the load rule

names_none : (bs : List ℕ) → read_sheet bs ≡ none → [] ≡ names_in bs
unfolding names_in if_some
names_none bs e = rw e

names_some : (bs : List ℕ) (es : List Entry) → read_sheet bs ≡ some es → es ≡ names_in bs
unfolding names_in if_some
names_some bs es e = rw e

pub not_twelve : (bs : List ℕ) → read_sheet bs ≡ none → (read_answer bs).code ≡ 0 → ⊥
unfolding read_answer if_some
not_twelve bs e z = omega (arith, rw e at z)

pub read_is : (bs : List ℕ) (es : List Entry) → read_sheet bs ≡ some es → (read_answer bs).code ≡ 0
unfolding read_answer if_some
read_is bs es e = rw e

-- the reader's code says whether a sheet is read
read_zero : (bs : List ℕ) → (read_answer bs).code ≡ 0 → read_sheet bs ≡ some (names_in bs)
read_zero bs z = by (read_sheet bs) refl
  where
    by : (o : Option (List Entry)) → read_sheet bs ≡ o → read_sheet bs ≡ some (names_in bs)
    by none e = absurd (not_twelve bs e z)
    by (some es) e = e ∙ ap some (names_some bs es e)

read_other : (bs : List ℕ) → ((read_answer bs).code ≡ 0 → ⊥) → read_sheet bs ≡ none
read_other bs n = by (read_sheet bs) refl
  where
    by : (o : Option (List Entry)) → read_sheet bs ≡ o → read_sheet bs ≡ none
    by none e = e
    by (some es) e = absurd (n (read_is bs es e))

sheet_read : (bs : List ℕ) → is_sheet bs ≡ true → read_sheet bs ≡ some (names_in bs)
sheet_read bs y = let e = read_yes bs y in e ∙ ap some (names_some bs (entries_in bs) e)

-- the sheet of no names, byte for byte
abbrev no_names : List ℕ
no_names = 1 ∷ 0 ∷ 0 ∷ 0 ∷ 0 ∷ 0 ∷ 0 ∷ 0 ∷ 40 ∷ 0 ∷ 0 ∷ 0 ∷ 0 ∷ 0 ∷ 0 ∷ 0 ∷ 40 ∷ 0 ∷ 0 ∷ 0 ∷ 0 ∷ 0 ∷ 0 ∷ 0 ∷ 40 ∷ 0 ∷ 0 ∷ 0 ∷ 0 ∷ 0 ∷ 0 ∷ 0 ∷ 40 ∷ 0 ∷ 0 ∷ 0 ∷ 40 ∷ 0 ∷ 0 ∷ 0 ∷ []

no_names_read : read_sheet no_names ≡ some []
unfolding meaning_open
no_names_read = refl

-- what the reader said of the approved bytes
pub approved_read : (bs : List ℕ) → reading_numbers (Ok tt) ≡ numbers_in (read_answer bs) → read_sheet bs ≡ some (names_in bs)
approved_read bs e = read_zero bs (sym (ap (λ (n : Numbers). n.code) e))

pub approved_none : (bs : List ℕ) {x : NoReading} → reading_numbers (Err x) ≡ numbers_in (read_answer bs) → [] ≡ names_in bs
approved_none bs e = let c = sym (ap (λ (n : Numbers). n.code) e) in names_none bs (read_other bs (λ z. omega (arith, z, c)))

-- the changes from an old sheet, whose names are those of the approved bytes
module _ (approved sheet out : List ℕ) {after : List ℕ} {code size : ℕ} (y : is_sheet sheet ≡ true) (room : largest_changes ≤ length out)
    (kept : length after ≡ length out) where
  changed_front : (es : List Entry) (old : List ℕ) → read_sheet old ≡ some es → es ≡ names_in approved → Tells (changes_answer old sheet (length out)) code size out after
      → Fronted (changes_text (changes (names_in approved) (names_in sheet))) out after size
  changed_front es old e p x =
      let a = changes_whole old sheet (length out) e (sheet_read sheet y) room in
      let w = ap (λ (i : InWords). i.text) a ∙ ap (λ (i : List Entry). changes_text (changes i (names_in sheet))) p in
      fronted out _ (x.out_is ∙ ap (λ (i : List ℕ). overlaid i out) w) (x.length_is ∙ ap length w) kept

  pub changed_known : read_sheet approved ≡ some (names_in approved) → Tells (changes_answer approved sheet (length out)) code size out after
      → Fronted (changes_text (changes (names_in approved) (names_in sheet))) out after size
  changed_known e x = changed_front (names_in approved) approved e refl x

  pub changed_all : [] ≡ names_in approved → Tells (changes_answer no_names sheet (length out)) code size out after
      → Fronted (changes_text (changes (names_in approved) (names_in sheet))) out after size
  changed_all e x = changed_front [] no_names no_names_read e x

-- what stands at the front
front_part : {w old new : List ℕ} {size : ℕ} → Fronted w old new size → take size new ≡ w
front_part {w} {old} f = rw (f.ends, f.line) (overlaid_front w old)

module _ {w old new part : List ℕ} {size : ℕ} (f : Fronted w old new size) (p : part ≡ take size new) where
  pub part_short : length part ≤ length old
  part_short = omega (arith, ap length p ∙ length-take-le size new f.inside, f.inside, f.long)

  pub look_front : {out mid after : List ℕ} {at r : ℕ} → Wrote out 0 (bytes "look\n") mid at → Wrote mid at part after r → Fronted (bytes "look\n" ++ w) out after r
  look_front {out} {mid} {after} {at} {r} a b = front_of (bytes "look\n" ++ w) (and_then a (subst (λ (s : List ℕ). Wrote mid at s after r) (p ∙ front_part f) b))

pub looks : (approved sheet : List ℕ) {out after : List ℕ} {r : ℕ} → Fronted (bytes "look\n" ++ changes_text (changes (names_in approved) (names_in sheet))) out after r
    → Fronted (look_text approved sheet) out after r
unfolding look_text
looks approved sheet f = f

module _ {a : Answer} (approved : List ℕ) {k : ℕ} {n : Numbers} {s s₁ m m₁ : List ℕ} (x : Decides a approved k n s s₁ m m₁) where
  kind_said : {kind : Loading} → loading a approved ≡ kind → load_said_by kind a approved ≡ load_said a approved
  unfolding load_said
  kind_said e = rw e

  says_kind : {kind : Loading} {out after : List ℕ} {r : ℕ} → loading a approved ≡ kind → Fronted (load_said_by kind a approved).text out after r
      → Says (load_said a approved) out after (record { length = r; status = (load_said_by kind a approved).status }) × (r ≤ length after)
  says_kind {kind} {out} {after} {r} e f =
      subst (λ (q : Said). Says q out after (record { length = r; status = (load_said_by kind a approved).status }) × (r ≤ length after)) (kind_said e)
      (record { front = f; status = refl }, f.inside)

  pub says_loads : {out after : List ℕ} {r : ℕ} → k ≡ 0 → Wrote out 0 (bytes "loads\n") after r
      → Says (load_said a approved) out after (record { length = r; status = Fine }) × (r ≤ length after)
  unfolding load_said_by
  says_loads z w = says_kind (number_loads (loading a approved) (sym x.rule ∙ z)) (front_of (bytes "loads\n") w)

  module _ {part : List ℕ} (p : part ≡ take n.sheet s₁) where
    part_sheet : part ≡ a.sheet
    part_sheet = p ∙ sheet_there x.replies

    -- what someone must look at is a sheet
    pub look_sheet : k ≡ 1 → is_sheet part ≡ true
    look_sheet z =
        let c = ((look_exactly a approved).0 (number_look (loading a approved) (sym x.rule ∙ z))).0 in
        rw part_sheet (x.replies.form c)

    pub says_look : {out after : List ℕ} {r : ℕ} → k ≡ 1 → Fronted (look_text approved part) out after r
        → Says (load_said a approved) out after (record { length = r; status = Changed }) × (r ≤ length after)
    unfolding load_said_by
    says_look {out} {after} {r} z f =
        says_kind (number_look (loading a approved) (sym x.rule ∙ z)) (subst (λ (i : List ℕ). Fronted (look_text approved i) out after r) part_sheet f)

  pub says_refused : {out mid after s₂ m₂ : List ℕ} {size code count start end r : ℕ} → (k ≡ 0 → ⊥) → (k ≡ 1 → ⊥) → Lined a out mid s s₂ m m₂ size code count
      → SecondTold a start end → Wrote mid size (first_text code start end) after r
      → Says (load_said a approved) out after (record { length = r; status = Refused }) × (r ≤ length after)
  unfolding load_said_by
  says_refused y z l q w =
      says_kind (number_refused (loading a approved) (λ e. y (x.rule ∙ e)) (λ e. z (x.rule ∙ e))) (told_front a l.front l.told q w)
