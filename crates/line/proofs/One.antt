-- What the line of an image leaves: the parts of the lent bytes, and that it is one. Assumes nothing.
use mathlib.Core.Path.{◌≡◌, sym, ap, ◌∙◌}
use mathlib.Core.List.{List}
use Prim.Native.Nat.{ℕ, ◌≤◌}
use native.Mathlib.Omega.{arith}
use lib.ListN.{length, take}
use Rattle.meaning.specs.Answer.{Answer, answer}
use Rattle.meaning.proofs.Answers.{overlaid_length, overlaid_front}
use Rattle.meaning.proofs.Answers.{answered as bounds}
use Rattle.line.specs.Printing.{Fronted, Lined}

-- ---- the sheet, for whoever goes on with it

pub sheet_is : {a : Answer} {old new s s₁ m m₁ : List ℕ} {size code count : ℕ} → Lined a old new s s₁ m m₁ size code count → take count s₁ ≡ a.sheet
sheet_is {s = s} l = rw (l.counted, l.sheet) (overlaid_front _ s)

module _ (setting : ℕ) (bs : List ℕ) {old new s s₁ m m₁ : List ℕ} {size code count : ℕ} where
  pub sheet_inside : Lined (answer setting bs (length s) (length m)) old new s s₁ m m₁ size code count → count ≤ length s₁
  sheet_inside l =
      let fits = (bounds (length s) (length m) setting bs).sheet_fits in
      omega (arith, l.counted, fits, ap length l.sheet ∙ overlaid_length _ s fits)

-- ---- one outcome

-- two lines of one length over one buffer are one, byte for byte, the bytes behind them too
pub one_front : {w old new new' : List ℕ} {size size' : ℕ} → Fronted w old new size → Fronted w old new' size' → (new ≡ new') × (size ≡ size')
one_front x y = (x.line ∙ sym y.line, x.ends ∙ sym y.ends)

-- Two outcomes for one answer over the same buffers are equal: the three numbers, and every lent byte. Ruled out: a check that clears a buffer
-- before it writes, or that leaves the part of a sheet for which there was room beside a 10.
module _ {a : Answer} {old new new' s s₁ s₁' m m₁ m₁' : List ℕ} {size size' code code' count count' : ℕ} where
  pub one_line : Lined a old new s s₁ m m₁ size code count → Lined a old new' s s₁' m m₁' size' code' count'
      → ((size ≡ size') × (code ≡ code') × (count ≡ count')) × ((new ≡ new') × (s₁ ≡ s₁') × (m₁ ≡ m₁'))
  one_line x y =
      let f = one_front x.front y.front in (
        (f.1, x.told ∙ sym y.told, x.counted ∙ sym y.counted),
        (f.0, x.sheet ∙ sym y.sheet, x.message ∙ sym y.message),
      )
