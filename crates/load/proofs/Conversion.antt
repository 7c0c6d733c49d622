-- About runs of `cablebirch_convert`, from its promise: no second outcome fits, and the check of what it wrote says what it said of the old
-- image before TreeSets were retired. Assumes nothing.
use mathlib.Core.Path.{◌≡◌, refl, sym, ap, ◌∙◌}
use mathlib.Core.List.{List}
use mathlib.Core.Option.{Option, none, some}
use Prim.Native.Nat.{ℕ, ◌≤◌}
use native.Mathlib.Decide.{dec_lt}
use native.Mathlib.Omega.{arith}
use lib.ListN.{length, take}
use Rattle.meaning.specs.Limits.{largest_image}
use Rattle.meaning.specs.Image.{Fault, image_fault, first_tree_set}
use Rattle.meaning.specs.Answer.{answer, former_answer}
use Rattle.meaning.specs.Convert.{converted, convert_answer}
use Rattle.meaning.specs.Convert.{Conversion as Meant}
use Rattle.meaning.proofs.Faults.{Sound, sound, fault_told}
use Rattle.meaning.proofs.Answers.{overlaid_front}
use Rattle.meaning.proofs.Converted.{converted_answer, never_14, unchanged, convert_refused, convert_short, convert_done, convert_roomy}
use Rattle.convert.specs.Outcome.{Numbers, Hands}
use Rattle.convert.proofs.Outcomes.{one_handed}
use Rattle.load.specs.Conversion.{converted_means}
use Rattle.load.specs.declared.Converted.{Converted}

abbrev converted_from : Numbers → Converted
converted_from n = record { code = n.code; place = n.place; length = n.length }

-- Two outcomes that both meet the promise of `cablebirch_convert` are equal, every field and every byte. (False of a promise that leaves open
-- what stands behind the image in the buffer.)
pub one_converted : (a : Meant) (r q : Converted) {old new new₂ : List ℕ} → Hands a (converted_means r) old new → Hands a (converted_means q) old new₂
    → (r ≡ q) × (new ≡ new₂)
one_converted a r q x y = let o = one_handed a x y in (ap converted_from o.0, o.1)

-- ---- what a run wrote

-- the bytes that a run wrote, at the front of the buffer
abbrev pub image_in : Numbers → List ℕ → List ℕ
image_in n buffer = take n.length buffer

module _ (image : List ℕ) {n : Numbers} {old new : List ℕ} (x : Hands (convert_answer image (length old)) n old new) where
  code_is : n.code ≡ (convert_answer image (length old)).code
  code_is = ap (λ (k : Numbers). k.code) x.numbers

  -- in 59,936 bytes 15 does not come
  pub never_fifteen : largest_image ≤ length old → n.code ≡ 15 → ⊥
  never_fifteen h e = convert_roomy image (length old) h (sym code_is ∙ e)

  by_fault : n.code ≡ 0 → (o : Option Fault) → image_fault image ≡ o → Sound image
  by_fault c none e = (sound image).0 e
  by_fault c (some f) e =
      absurd (omega (arith, (fault_told image f e).above, c, code_is, ap (λ (m : Meant). m.code) (convert_refused image (length old) f e)))

  module _ (c : n.code ≡ 0) where
    -- code 0 is for well-formed images alone, in buffers that are long enough
    pub was_sound : Sound image
    was_sound = by_fault c (image_fault image) refl

    pub was_room : length image ≤ length old
    was_room = elim (dec_lt (length old) (length image)) [
      | yes l ↦ absurd (omega (arith, c, code_is, ap (λ (m : Meant). m.code) (convert_short image (length old) was_sound l)))
      | no l ↦ omega arith
    ]

    pub wrote_converted : image_in n new ≡ converted image
    wrote_converted =
        let is : (convert_answer image (length old)).image ≡ converted image = ap (λ (m : Meant). m.image) (convert_done image (length old) was_sound was_room) in
        let long : n.length ≡ length (converted image) = ap (λ (k : Numbers). k.length) x.numbers ∙ ap length is in
        rw (long, x.out, is) (overlaid_front (converted image) old)

    -- "the converted image gets the answer the old one got before the retirement", of every later check of what was written
    pub checked_as_before : (setting room told : ℕ) → answer setting (image_in n new) room told ≡ former_answer setting image room told
    checked_as_before setting room told = ap (λ bs. answer setting bs room told) wrote_converted ∙ converted_answer image room told setting

    pub never_retired : (setting room told : ℕ) → (answer setting (image_in n new) room told).code ≡ 14 → ⊥
    never_retired setting room told e = never_14 image room told setting (ap (λ bs. (answer setting bs room told).code) (sym wrote_converted) ∙ e)

    -- "Other images come out unchanged."
    pub others_unchanged : first_tree_set image ≡ none → image_in n new ≡ image
    others_unchanged t = wrote_converted ∙ unchanged image t
