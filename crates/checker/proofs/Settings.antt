-- Two runs of `check` or of its C twin on one image, a strict one and a plain one. Document 02: "what strict accepts, plain accepts with the same sheet".
use mathlib.Core.Path.{◌≡◌, sym, ap, ◌∙◌, subst}
use mathlib.Core.List.{List}
use Prim.Native.Nat.{ℕ, ◌≤◌, ◌<◌}
use native.Mathlib.Omega.{arith}
use lib.ListN.{length}
use Rattle.meaning.specs.Image.{names_of, nodes_of}
use Rattle.meaning.specs.Frames.{Frame}
use Rattle.meaning.specs.Walk.{plain, End}
use Rattle.meaning.specs.Sheet.{sheet_of}
use Rattle.meaning.specs.Answer.{Answer as Meant, written, ended, walk_answer, answer}
use Rattle.meaning.proofs.Listed.{listing_of}
use Rattle.meaning.proofs.Answers.{plain_is, walk_last}
use Rattle.meaning.proofs.Strict.{plain_answers}
use Rattle.checker.specs.Answers.{Numbers, Replies}
use Rattle.checker.specs.Module.{sheet_in}
use Rattle.checker.proofs.Written.{written_well}
use Rattle.checker.proofs.Outcomes.{one_told}
use Rattle.checker.proofs.Demand.{listed_by, Concluded, one_frame, own, sheet_of_listed}

-- ---- with the same bytes lent: unless strict gives a typing code, plain's numbers and every byte that it leaves are strict's, and so is the
-- answer itself (`same_answer`, `same_reply` in Outcomes). (False of a strict that counts the frames which a dropped Def leaves, and of a plain
-- that is refused where strict is accepted.)

module _ (image : List ℕ) (room told : ℕ) {n k : Numbers} {s s₁ s₂ m m₁ m₂ : List ℕ}
    (x : Replies (answer 1 image room told) n s s₁ m m₁) (y : Replies (answer 0 image room told) k s s₂ m m₂) where
  pub plain_does_the_same : n.code < 20 → (n ≡ k) × (s₁ ≡ s₂) × (m₁ ≡ m₂)
  plain_does_the_same l =
      let e = plain_answers image room told (rw (ap (λ (j : Numbers). j.code) x.numbers) at l) in
      one_told x (subst (λ (a : Meant). Replies a k s s₂ m m₂) e y)

-- ---- with any other buffers: what strict accepted once, plain accepts wherever the sheet fits, and its sheet is the same

-- plain's answer for an image whose program ends well, in so much room
room_enough : {image : List ℕ} {a : Meant} (c : Concluded image a) (room told : ℕ) → length (sheet_of (listed_by image)) ≤ room
    → (answer 0 image room told).code ≡ 0
unfolding walk_answer ended
room_enough {image} c room told h =
    let f = one_frame image room told c.ends c.well in
    ap (λ (a : Meant). a.code)
    (plain_is image room told ∙ walk_last plain image room told c.sound c.unretired
    ∙ ap (λ (e : End). ended (names_of image) (nodes_of image) room told e) c.well)
    ∙ ap (λ (g : Frame). (written room (sheet_of (listing_of image g))).code) f
    ∙ written_well room (sheet_of (listed_by image)) h

module _ (image : List ℕ) (room told room₂ told₂ : ℕ) {n k : Numbers} {s s₁ m m₁ t t₁ l l₁ : List ℕ}
    (x : Replies (answer 1 image room told) n s s₁ m m₁) (y : Replies (answer 0 image room₂ told₂) k t t₁ l l₁) (c : n.code ≡ 0) where
  pub plain_accepts_too : n.sheet ≤ room₂ → (k.code ≡ 0) × (sheet_in k t₁ ≡ sheet_in n s₁)
  plain_accepts_too h =
      let o = own 1 image room told x c in
      let long : n.sheet ≡ length (sheet_of (listed_by image)) = ap (λ (j : Numbers). j.sheet) x.numbers ∙ ap length o.sheet in
      let d = ap (λ (j : Numbers). j.code) y.numbers ∙ room_enough o room₂ told₂ (omega (arith, long, h)) in
      (d, sheet_of_listed 0 image room₂ told₂ y d ∙ sym (sheet_of_listed 1 image room told x c))
