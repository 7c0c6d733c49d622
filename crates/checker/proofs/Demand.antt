-- Demand 3, of two runs of `check` or of its C twin, each under either setting: two sheets are equal exactly when both programs list the
-- same names with the same types. Document 02: "Demand 3 speaks of listed names from here."
use mathlib.Core.Path.{◌≡◌, refl, sym, ap, ◌∙◌, subst}
use mathlib.Core.Logic.{◌↔◌, inl}
use mathlib.Core.Option.{none}
use mathlib.Core.List.{List, [], ◌∷◌}
use Prim.Native.Nat.{ℕ, ◌≤◌, ◌<◌}
use native.Mathlib.Omega.{arith}
use native.Mathlib.Decide.{ℕ_discrete}
use lib.ListN.{length, drop}
use lib.Seq.{take-append_seam}
use Rattle.meaning.specs.Limits.{largest_sheet}
use Rattle.meaning.specs.Image.{first_tree_set, names_of, nodes_of}
use Rattle.meaning.specs.Decode.{tree_of}
use Rattle.meaning.specs.Frames.{Frame, Frames, newest}
use Rattle.meaning.specs.Walk.{Setting, plain, State, End, done}
use Rattle.meaning.specs.Sheet.{Entry, sheet_of}
use Rattle.meaning.specs.Read.{entries_in}
use Rattle.meaning.specs.Answer.{Answer as Meant, written, ended, walked, walk_answer, answer_under, answer, overlaid}
use Rattle.meaning.proofs.Faults.{Sound}
use Rattle.meaning.proofs.Answers.{answered, plain_is, no_setting, walk_last, accepted_last}
use Rattle.meaning.proofs.Strict.{plain_accepts}
use Rattle.meaning.proofs.Kept.{accepted_one_frame}
use Rattle.meaning.proofs.SheetForm.{sheet_is, sheet_length, short_trip, short_injective}
use Rattle.meaning.proofs.Listed.{listing_of, same_list, list_same}
use Rattle.checker.specs.Answers.{Numbers, Replies}
use Rattle.checker.specs.Module.{frames_at, lowest, module_frame, SameNames, sheet_in}
use Rattle.checker.proofs.Written.{written_sheet}

-- ---- an accepted program: its image is sound, and its sheet is that of what it lists

-- the listed names with their types, in byte order
abbrev pub listed_by : List ℕ → List Entry
listed_by image = listing_of image (module_frame image)

pub record Concluded (image : List ℕ) (a : Meant) : Type 0 where
  pub sound : Sound image
  pub unretired : first_tree_set image ≡ none
  pub ends : State
  pub well : walked plain image ≡ done ends
  pub sheet : a.sheet ≡ sheet_of (listed_by image)

only_frame : (fs : Frames) → length fs ≡ 1 → newest fs ≡ lowest [] fs
unfolding newest lowest
only_frame [] e = refl
only_frame (f ∷ []) e = refl
only_frame (f ∷ g ∷ fs) e = absurd (omega arith)

module _ (image : List ℕ) (room told : ℕ) where
  -- the module frame of a program that ended well is its only frame
  pub one_frame : (s : State) → walked plain image ≡ done s → newest s.frames ≡ module_frame image
  unfolding walked module_frame frames_at
  one_frame s e =
      only_frame s.frames (accepted_one_frame (names_of image) plain (tree_of (nodes_of image)) s e) ∙ ap (λ (x : End). lowest [] (frames_at x)) (sym e)

  -- what is accepted has a sound image with no TreeSet, and its walk ends well
  pub ends_well : (setting : Setting) → (answer_under setting image room told).code ≡ 0
      → Sound image × (first_tree_set image ≡ none) × ((s : State) × (walked setting image ≡ done s))
  ends_well setting c = accepted_last image room told setting (inl c)

  plain_concluded : (answer_under plain image room told).code ≡ 0 → Concluded image (answer_under plain image room told)
  unfolding walk_answer ended
  plain_concluded c =
      let h = ends_well plain c in
      let s = h.2.0 in
      let is : answer_under plain image room told ≡ written room (sheet_of (listed_by image)) =
      walk_last plain image room told h.0 h.1 ∙ ap (λ (e : End). ended (names_of image) (nodes_of image) room told e) h.2.1 ∙ ap (λ (f : Frame). written room (sheet_of (listing_of image f))) (one_frame s h.2.1) in
      record { sound = h.0; unretired = h.1; ends = s; well = h.2.1; sheet = ap (λ (x : Meant). x.sheet) is ∙ written_sheet room _ (ap (λ (x : Meant). x.code) (sym is) ∙ c) }

  -- what is accepted under any setting, plain accepts alike
  as_plain : (n : ℕ) → (answer n image room told).code ≡ 0 → answer_under plain image room told ≡ answer n image room told
  as_plain n c = elim (ℕ_discrete n 0) [
    | yes e ↦ sym (plain_is image room told) ∙ ap (λ k. answer k image room told) (sym e)
    | no z ↦ elim (ℕ_discrete n 1) [
      | yes e ↦
          let one : answer n image room told ≡ answer 1 image room told = ap (λ k. answer k image room told) e in
          sym (plain_is image room told) ∙ plain_accepts image room told (ap (λ (x : Meant). x.code) (sym one) ∙ c) ∙ sym one
      | no o ↦ absurd (omega (arith, ap (λ (x : Meant). x.code) (no_setting image room told n (omega (arith, z, o))), c))
    ]
  ]

  pub accepted : (n : ℕ) → (answer n image room told).code ≡ 0 → Concluded image (answer n image room told)
  accepted n c =
      let e = as_plain n c in
      subst (Concluded image) e (plain_concluded (ap (λ (x : Meant). x.code) e ∙ c))

-- ---- one run

module _ (setting : ℕ) (image : List ℕ) (room told : ℕ) {n : Numbers} {old new old_message new_message : List ℕ}
    (x : Replies (answer setting image room told) n old new old_message new_message) where
  -- no answer has a sheet of more than 42,532 bytes
  pub reply_most : length (answer setting image room told).sheet ≤ largest_sheet
  reply_most = elim (ℕ_discrete (answer setting image room told).code 0) [
    | yes e ↦ let s = sheet_is _ (x.form e) in omega (arith, ap length s.written, sheet_length _ s.limits)
    | no z ↦ omega (arith, ap length ((answered room told setting image).sheet (omega (arith, z))))
  ]

  pub reply_short : length (answer setting image room told).sheet < 4294967296
  reply_short = omega (arith, reply_most)

  pub sheet_there : sheet_in n new ≡ (answer setting image room told).sheet
  unfolding overlaid
  sheet_there =
      let e : n.sheet ≡ length (answer setting image room told).sheet = ap (λ (k : Numbers). k.sheet) x.numbers in
      rw (e, x.sheet) (take-append_seam (answer setting image room told).sheet (drop (length (answer setting image room told).sheet) old))

  module _ (c : n.code ≡ 0) where
    pub own : Concluded image (answer setting image room told)
    own = accepted image room told setting (sym (ap (λ (k : Numbers). k.code) x.numbers) ∙ c)

    -- the sheet is that of what is listed
    pub sheet_of_listed : sheet_in n new ≡ sheet_of (listed_by image)
    sheet_of_listed = sheet_there ∙ own.sheet

    listed_short : length (sheet_of (listed_by image)) < 4294967296
    listed_short = rw (← own.sheet) reply_short

    -- and says it: reading gives the listed names with their types
    pub sheet_tells_listed : entries_in (sheet_in n new) ≡ listed_by image
    sheet_tells_listed = ap entries_in sheet_of_listed ∙ short_trip (listed_by image) listed_short

-- ---- two runs

module _ (setting setting₂ : ℕ) (a b : List ℕ) (room told room₂ told₂ : ℕ) {n k : Numbers} {s s₁ m m₁ t t₁ l l₁ : List ℕ}
    (x : Replies (answer setting a room told) n s s₁ m m₁) (y : Replies (answer setting₂ b room₂ told₂) k t t₁ l l₁)
    (c : n.code ≡ 0) (d : k.code ≡ 0) where
  pub same_sheet_same_list : (sheet_in n s₁ ≡ sheet_in k t₁) ↔ (listed_by a ≡ listed_by b)
  same_sheet_same_list =
      let i = short_injective (listed_by a) (listed_by b) (listed_short setting a room told x c) (listed_short setting₂ b room₂ told₂ y d) in
      let u = sheet_of_listed setting a room told x c in
      let v = sheet_of_listed setting₂ b room₂ told₂ y d in
      (λ e. i.0 (sym u ∙ e ∙ v), λ e. u ∙ i.1 e ∙ sym v)

  -- "Two sheets are equal exactly when both" list the same names with the same types. (False of the sheets before document 02: `x = 1` and
  -- `x = 1`, `for i in [1]: pass` had one.)
  pub same_sheet_same_names : (sheet_in n s₁ ≡ sheet_in k t₁) ↔ SameNames a b
  same_sheet_same_names =
      let u = (own setting a room told x c).sound in
      let v = (own setting₂ b room₂ told₂ y d).sound in (
        λ e. list_same u v (module_frame a) (module_frame b) (same_sheet_same_list.0 e),
        λ e. same_sheet_same_list.1 (same_list u v (module_frame a) (module_frame b) e),
      )
