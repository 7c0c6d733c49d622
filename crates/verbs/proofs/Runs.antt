-- About what is said: it is one; what the statuses say; and a file that is longer than what is read of it. Assumes nothing.
use mathlib.Core.Path.{◌≡◌, refl, sym, ap, ◌∙◌}
use mathlib.Core.Bool.{Bool, true, false}
use mathlib.Core.Logic.{◌↔◌, inl, inr}
use mathlib.Core.List.{List, [], ◌∷◌}
use mathlib.Core.Option.{Option, none, some}
use Prim.Native.Nat.{ℕ, ◌≤◌, ◌<◌}
use native.Mathlib.Decide.{dec_lt}
use native.Mathlib.Omega.{arith}
use lib.Dec.{eqb}
use lib.ListN.{length, get_or, take}
use lib.Seq.{length-take-le, take_all}
use Rattle.meaning.specs.Limits.{largest_sheet, sheet_buffer, message_buffer, read_at_most}
use Rattle.meaning.specs.Base.{test◌then◌else◌, bytes, same_text}
use Rattle.meaning.specs.Image.{nodes_of}
use Rattle.meaning.specs.Decode.{tree_of}
use Rattle.meaning.specs.Sheet.{Entry}
use Rattle.meaning.specs.Read.{read_sheet}
use Rattle.meaning.specs.Answer.{Answer, answer, read_answer, overlaid}
use Rattle.meaning.specs.Convert.{Conversion, convert_answer}
use Rattle.meaning.specs.Show.{Change, changes, compared}
use Rattle.meaning.specs.Known.{NoDefInIf, Steadiness, steady, def_in_if, faulty, steadiness}
use Rattle.meaning.specs.Load.{Loading, loads, look, refused, loading, loading_number}
use Rattle.meaning.proofs.Choices.{not_so, same_text_lem}
use Rattle.meaning.proofs.Faults.{Sound}
use Rattle.meaning.proofs.Converted.{convert_roomy}
use Rattle.meaning.proofs.SheetForm.{read_some}
use Rattle.meaning.proofs.Changed.{sheets_unchanged}
use Rattle.meaning.proofs.Answers.{answered, overlaid_front}
use Rattle.meaning.proofs.Cut.{answer_cut, convert_cut, steady_cut, read_sheet_cut}
use Rattle.steady.proofs.Whole.{steadiness_exactly}
use Rattle.verbs.specs.Said.{status_number, Said, Says, told_text, check_said, known_text, known_said, refusal_of, Writes, Renews, show_said, changed_if, changes_said, names_in, look_text, load_said_by, load_said}
use Rattle.verbs.specs.declared.Done.{Done}
use Rattle.verbs.specs.declared.Written.{Written}
use Rattle.verbs.specs.declared.Status.{Status}
use Rattle.verbs.specs.declared.Status.TheVariants.{Fine, Refused}
use Rattle.verbs.proofs.Said.{none_said, both_said, not_twelve, read_is}

-- ---- no second outcome fits: the length, the status and every byte of the buffer

pub one_said : {s : Said} {old new new₂ : List ℕ} (d e : Done) → Says s old new d → Says s old new₂ e → (d ≡ e) × (new ≡ new₂)
one_said d e x y = (
  ap (λ (n : ℕ). record { length = n; status = d.status }) (x.front.ends ∙ sym y.front.ends)
      ∙ ap (λ (t : Status). record { length = e.length; status = t }) (x.status ∙ sym y.status),
  x.front.line ∙ sym y.front.line,
)

-- (false of a promise that leaves open what a refusal leaves of the sheet's buffer)
pub one_written : {a : Answer} {s s₁ s₂ o o₁ o₂ : List ℕ} (w v : Written) → Writes a s s₁ o o₁ w → Writes a s s₂ o o₂ v → (w ≡ v) × (s₁ ≡ s₂) × (o₁ ≡ o₂)
one_written w v x y = (
  ap (λ (n : ℕ). record { length = n; line = w.line; status = w.status }) (x.sheet.ends ∙ sym y.sheet.ends)
      ∙ ap (λ (n : ℕ). record { length = v.length; line = n; status = w.status }) (x.told ∙ sym y.told)
      ∙ ap (λ (t : Status). record { length = v.length; line = v.line; status = t }) (x.status ∙ sym y.status),
  x.sheet.line ∙ sym y.sheet.line,
  x.line ∙ sym y.line,
)

-- (false of a promise that leaves open what `convert` leaves behind the image)
pub one_renewed : {a : Conversion} {s s₁ s₂ o o₁ o₂ : List ℕ} (w v : Written) → Renews a s s₁ o o₁ w → Renews a s s₂ o o₂ v → (w ≡ v) × (s₁ ≡ s₂) × (o₁ ≡ o₂)
one_renewed w v x y = (
  ap (λ (n : ℕ). record { length = n; line = w.line; status = w.status }) (x.image.ends ∙ sym y.image.ends)
      ∙ ap (λ (n : ℕ). record { length = v.length; line = n; status = w.status }) (x.line.ends ∙ sym y.line.ends)
      ∙ ap (λ (t : Status). record { length = v.length; line = v.line; status = t }) (x.status ∙ sym y.status),
  x.image.line ∙ sym y.image.line,
  x.line.line ∙ sym y.line.line,
)

-- what `sheet` tells of the line is a refusal's, all of it, and of an accepted script nothing: (false of a program that prints `accepted ..` beside
-- the sheet)
pub refusal_told : {a : Answer} {s s₁ o o₁ : List ℕ} (w : Written) → Writes a s s₁ o o₁ w → take w.line o₁ ≡ refusal_of a
unfolding refusal_of test◌then◌else◌
refusal_told {a} {o = o} w x = rw (x.told, x.line) (by (eqb a.code 0))
  where
    by : (b : Bool) → take (length (test b then [] else told_text a)) (overlaid (told_text a) o) ≡ (test b then [] else told_text a)
    by true = refl
    by false = overlaid_front (told_text a) o

-- ---- the statuses

-- "0 loads, 1 look, 2 refused": (false of a program that ends with 0 where someone must look)
pub load_status : (a : Answer) (approved : List ℕ) → status_number (load_said a approved).status ≡ loading_number (loading a approved)
unfolding load_said load_said_by
load_status a approved = by (loading a approved)
  where
    by : (k : Loading) → status_number (load_said_by k a approved).status ≡ loading_number k
    by loads = refl
    by look = refl
    by refused = refl

not_fine : {s : Said} → record { text = []; status = Refused } ≡ s → s.status ≡ Fine → ⊥
not_fine e p = let q = ap (λ (x : Said). status_number x.status) e ∙ ap status_number p in omega (arith, q)

no_change : (cs : List Change) → (changed_if cs ≡ Fine) ↔ (cs ≡ [])
unfolding changed_if
no_change [] = (λ e. refl, λ e. refl)
no_change (c ∷ cs) = (λ e. absurd (let q = ap status_number e in omega (arith, q)), λ e. absurd (let q = ap length e in omega (arith, q)))

-- `changes` ends with 0 exactly when the two files are one sheet: (false of a program that compares what is shown of two long types)
pub changes_fine : (old new : List ℕ) → ((changes_said old new).status ≡ Fine) ↔ (((read_answer old).code ≡ 0) × (old ≡ new))
changes_fine old new = by (read_sheet old) refl (read_sheet new) refl
  where
    by : (o : Option (List Entry)) → read_sheet old ≡ o → (q : Option (List Entry)) → read_sheet new ≡ q
        → ((changes_said old new).status ≡ Fine) ↔ (((read_answer old).code ≡ 0) × (old ≡ new))
    by none e q f = (λ p. absurd (not_fine (none_said old new (inl e)) p), λ p. absurd (not_twelve old e p.0))
    by (some es) e none f = (
      λ p. absurd (not_fine (none_said old new (inr f)) p),
      λ p. absurd (not_twelve new f (ap (λ (x : List ℕ). (read_answer x).code) (sym p.1) ∙ p.0)),
    )
    by (some es) e (some fs) f =
        let s = ap (λ (x : Said). x.status) (both_said old new es fs e f) in
        let u = sheets_unchanged ((read_some old es).0 e) ((read_some new fs).0 f) in
        let n = no_change (changes es fs) in (
          λ p. (read_is old es e, u.0 (n.0 (s ∙ p))),
          λ p. sym s ∙ n.1 (u.1 p.1),
        )

-- ---- whether known stays known

-- byte 6 of the line: s of `stays`, m of `may`
stays_alone : (k : Steadiness) → known_text 0 k ≡ known_text 0 steady → k ≡ steady
unfolding known_text bytes test◌then◌else◌
stays_alone steady e = refl
stays_alone (def_in_if n start end) e = absurd (let q = ap (λ (w : List ℕ). get_or w 6 0) e in omega (arith, q))
stays_alone (faulty f) e = absurd (let q = ap length e in omega (arith, q))

-- In plain the line says that it does exactly for an image with no Def anywhere inside an If. (False of a program that says so of run 11, or of
-- what is no image.)
pub stays_told : (bs : List ℕ) → (known_text 0 (steadiness bs) ≡ known_text 0 steady) ↔ (Sound bs × NoDefInIf (tree_of (nodes_of bs)))
stays_told bs = (λ e. (steadiness_exactly bs).0 (stays_alone (steadiness bs) e), λ h. ap (known_text 0) ((steadiness_exactly bs).1 h))

-- ---- a long file: what is said of the first 59,937 bytes is said of the whole. (False of a program that reads one byte less.)

pub check_cut : (setting : ℕ) (image : List ℕ) (x y : ℕ) → check_said (answer setting (take read_at_most image) x y) ≡ check_said (answer setting image x y)
check_cut setting image x y = ap check_said (answer_cut image setting x y)

pub known_cut : (setting : ℕ) (image : List ℕ) → known_said setting (take read_at_most image) ≡ known_said setting image
unfolding known_said
known_cut setting image = rw (answer_cut image setting sheet_buffer message_buffer, steady_cut image) refl

pub renewed_cut : (image : List ℕ) (room : ℕ) → convert_answer (take read_at_most image) room ≡ convert_answer image room
renewed_cut image room = convert_cut image room

pub show_cut : (bs : List ℕ) → show_said (take read_at_most bs) ≡ show_said bs
unfolding show_said
show_cut bs = rw (read_sheet_cut bs) refl

pub changes_cut : (old new : List ℕ) → changes_said (take read_at_most old) (take read_at_most new) ≡ changes_said old new
unfolding changes_said compared
changes_cut old new = rw (read_sheet_cut old, read_sheet_cut new) refl

-- other bytes than a sheet of an answer has are none of its length
other : (s bs : List ℕ) → length s < length bs → same_text s bs ≡ false
other s bs l = not_so (same_text s bs) (λ e. let q = ap length (same_text_lem s bs e) in omega (arith, q, l))

same_cut : (s bs : List ℕ) → length s ≤ largest_sheet → same_text s (take read_at_most bs) ≡ same_text s bs
same_cut s bs h =
    elim (dec_lt read_at_most (length bs)) [
      | yes m ↦
          let n = length-take-le read_at_most bs (omega (arith, m)) in
          other s (take read_at_most bs) (omega (arith, n, h)) ∙ sym (other s bs (omega (arith, m, h)))
      | no m ↦ ap (same_text s) (take_all read_at_most bs (omega (arith, m)))
    ]

loading_cut : (a : Answer) (approved : List ℕ) → length a.sheet ≤ largest_sheet → loading a (take read_at_most approved) ≡ loading a approved
unfolding loading
loading_cut a approved h = rw (same_cut a.sheet approved h) refl

names_cut : (bs : List ℕ) → names_in (take read_at_most bs) ≡ names_in bs
unfolding names_in
names_cut bs = rw (read_sheet_cut bs) refl

by_cut : (k : Loading) (a : Answer) (approved : List ℕ) → load_said_by k a (take read_at_most approved) ≡ load_said_by k a approved
unfolding load_said_by look_text
by_cut loads a approved = refl
by_cut look a approved = rw (names_cut approved) refl
by_cut refused a approved = refl

-- in the program's own rooms, where no sheet is longer than 42,532 bytes
pub load_cut : (setting : ℕ) (image approved : List ℕ) → load_said (answer setting (take read_at_most image) sheet_buffer message_buffer) (take read_at_most approved)
    ≡ load_said (answer setting image sheet_buffer message_buffer) approved
unfolding load_said
load_cut setting image approved =
    let a = answer setting image sheet_buffer message_buffer in
    ap (λ (b : Answer). load_said b (take read_at_most approved)) (answer_cut image setting sheet_buffer message_buffer)
    ∙ ap (λ (k : Loading). load_said_by k a (take read_at_most approved)) (loading_cut a approved (answered sheet_buffer message_buffer setting image).sheet_fits)
    ∙ by_cut (loading a approved) a approved

-- ---- `convert`: in the program's own room 15 never comes. (False of a program with room for 59,935 bytes.)

pub never_short : (image : List ℕ) → (convert_answer image read_at_most).code ≡ 15 → ⊥
never_short image = convert_roomy image read_at_most (omega arith)
