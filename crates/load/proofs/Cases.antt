-- What each case of `load` leaves, from what `check` left. Assumes nothing.
use mathlib.Core.Path.{◌≡◌, sym, ap, ◌∙◌, subst}
use mathlib.Core.Bool.{true, false, false≢true}
use mathlib.Core.List.{List}
use Prim.Native.Nat.{ℕ, ◌≤◌}
use native.Mathlib.Omega.{arith}
use lib.ListN.{length, take}
use Rattle.meaning.specs.Base.{same_text}
use Rattle.meaning.specs.Answer.{Answer as Meant, answer}
use Rattle.meaning.specs.Load.{loading_number}
use Rattle.meaning.proofs.Choices.{same_text_lem, text_same}
use Rattle.meaning.proofs.Loads.{loads_exactly, look_exactly, refused_exactly}
use Rattle.meaning.proofs.Answers.{overlaid_length, overlaid_front}
use Rattle.meaning.proofs.Answers.{answered as bounds}
use Rattle.std.specs.Prelude.{Ok, Err}
use Rattle.image.specs.declared.Fault.TheVariants.{BadHead, BadCount, BadOffset, BadName, UnsafeName, BadNode, BadNesting, TooDeep}
use Rattle.checker.specs.Answers.{Numbers, numbers_of, Stands, Replies, Answers}
use Rattle.checker.specs.declared.Refused.{Refused}
use Rattle.checker.specs.declared.Refused.TheVariants.{Faulty, NinthFrame, ShortBuffer, NoSetting, Retired, Typing}
use Rattle.load.specs.Rule.{Decision, kind_of, numbers_told, Decides, Decided}
use Rattle.load.specs.declared.Loading.TheVariants.{Loads, Look}

-- a refusal has another code than 0
pub refuses : (r : Refused) → Stands (Err r) → (numbers_of (Err r)).code ≡ 0 → ⊥
refuses (Faulty BadHead) s e = omega (arith, e)
refuses (Faulty BadCount) s e = omega (arith, e)
refuses (Faulty BadOffset) s e = omega (arith, e)
refuses (Faulty (BadName i)) s e = omega (arith, e)
refuses (Faulty (UnsafeName i)) s e = omega (arith, e)
refuses (Faulty (BadNode i)) s e = omega (arith, e)
refuses (Faulty (BadNesting i)) s e = omega (arith, e)
refuses (Faulty (TooDeep i)) s e = omega (arith, e)
refuses (NinthFrame i) s e = omega (arith, e)
refuses ShortBuffer s e = omega (arith, e)
refuses NoSetting s e = omega (arith, e)
refuses (Retired i) s e = omega (arith, e)
refuses (Typing r) s e = omega (arith, e, s.0)

-- ---- the three cases

-- the sheet lies in its buffer
pub sheet_in : (setting : ℕ) (image : List ℕ) {n : Numbers} (s : List ℕ) {s₁ : List ℕ} (m : List ℕ) {m₁ : List ℕ}
    → Replies (answer setting image (length s) (length m)) n s s₁ m m₁ → n.sheet ≤ length s₁
sheet_in setting image s m x =
    let size = ap (λ (k : Numbers). k.sheet) x.numbers in
    let fits = (bounds (length s) (length m) setting image).sheet_fits in
    omega (arith, size, fits, ap length x.sheet ∙ overlaid_length _ s fits)

-- and is what stands at its front
pub sheet_there : {a : Meant} {n : Numbers} {s s₁ m m₁ : List ℕ} → Replies a n s s₁ m m₁ → take n.sheet s₁ ≡ a.sheet
sheet_there {a} {s = s} x = rw (ap (λ (k : Numbers). k.sheet) x.numbers, x.sheet) (overlaid_front a.sheet s)

module _ {a : Meant} (approved : List ℕ) {s s₁ m m₁ : List ℕ} where
  pub refused_told : (r : Refused) → Answers a (Err r) s s₁ m m₁ → Decided a approved (Err r) s s₁ m m₁
  refused_told r x =
      let code = ap (λ (k : Numbers). k.code) x.replies.numbers in
      record {
        decides = record {
          rule = ap loading_number (sym ((refused_exactly a approved).1 (λ e. refuses r x.stands (code ∙ e))));
          replies = x.replies;
        };
        stands = x.stands;
      }

  module _ {n : ℕ} (x : Answers a (Ok n) s s₁ m m₁) where
    accepts : a.code ≡ 0
    accepts = sym (ap (λ (k : Numbers). k.code) x.replies.numbers)

    -- what is compared is the sheet that was written
    sheet_part : take n s₁ ≡ a.sheet
    sheet_part = sheet_there x.replies

    pub loads_told : same_text (take n s₁) approved ≡ true → Decided a approved (Ok (Loads n)) s s₁ m m₁
    loads_told h = record {
      decides = record {
        rule = ap loading_number (sym ((loads_exactly a approved).1 (accepts, sym sheet_part ∙ same_text_lem (take n s₁) approved h)));
        replies = x.replies;
      };
      stands = tt;
    }

    differs : same_text (take n s₁) approved ≡ false → a.sheet ≡ approved → ⊥
    differs h o = false≢true (sym h ∙ subst (λ (y : List ℕ). same_text (take n s₁) y ≡ true) (sheet_part ∙ o) (text_same (take n s₁)))

    pub look_told : same_text (take n s₁) approved ≡ false → Decided a approved (Ok (Look n)) s s₁ m m₁
    look_told h = record {
      decides = record {
        rule = ap loading_number (sym ((look_exactly a approved).1 (accepts, differs h)));
        replies = x.replies;
      };
      stands = tt;
    }

-- ---- by numbers

pub decides_as : {a : Meant} {approved : List ℕ} {r : Decision} {k : ℕ} {n : Numbers} {s s₁ m m₁ : List ℕ} → Decided a approved r s s₁ m m₁ → k ≡ loading_number (kind_of r)
    → n ≡ numbers_told r → Decides a approved k n s s₁ m m₁
decides_as {a} {s = s} {s₁ = s₁} {m = m} {m₁ = m₁} x e f = record {
  rule = e ∙ x.decides.rule;
  replies = subst (λ (y : Numbers). Replies a y s s₁ m m₁) (sym f) x.decides.replies;
}
