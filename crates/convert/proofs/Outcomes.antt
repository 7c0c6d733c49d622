-- What `convert` promises, from the ends of its parts; and that no second outcome fits. Assumes nothing.
use mathlib.Core.Path.{◌≡◌, refl, ◌∙◌, ap, sym}
use mathlib.Core.List.{List, [], ◌∷◌}
use mathlib.Core.Option.{some}
use Prim.Native.Nat.{ℕ, ◌≤◌, ◌<◌}
use lib.ListN.{length}
use Rattle.std.specs.Prelude.{Result, Ok, Err}
use Rattle.meaning.specs.Base.{choose, test◌then◌else◌}
use Rattle.meaning.specs.Image.{image_fault}
use Rattle.meaning.specs.Answer.{overlaid}
use Rattle.meaning.specs.Convert.{Conversion, converted, convert_answer}
use Rattle.meaning.proofs.Faults.{Sound}
use Rattle.meaning.proofs.Answers.{overlaid_none}
use Rattle.meaning.proofs.Converted.{convert_refused, convert_short, convert_done, converted_length}
use Rattle.image.specs.Outcome.{fault_in}
use Rattle.image.specs.declared.Fault.{Fault}
use Rattle.image.specs.declared.Fault.TheVariants.{BadHead, BadCount, BadOffset, BadName, UnsafeName, BadNode, BadNesting, TooDeep}
use Rattle.convert.specs.declared.Unconverted.{Unconverted}
use Rattle.convert.specs.declared.Unconverted.TheVariants.{Faulty, ShortOutput}
use Rattle.convert.specs.Outcome.{Numbers, numbers_in, numbers_of, Hands, Converts}

-- ---- the three cases

pub faulty : (bs old : List ℕ) (f : Fault) → some (fault_in f) ≡ image_fault bs → Converts (convert_answer bs (length old)) (Err (Faulty f)) old old
faulty bs old f e =
    rw (convert_refused bs (length old) (fault_in f) (sym e)) record { numbers = refl; out = sym (overlaid_none old) }

pub short : (bs old : List ℕ) → Sound bs → length old < length bs → Converts (convert_answer bs (length old)) (Err ShortOutput) old old
short bs old s h = rw (convert_short bs (length old) s h) record { numbers = refl; out = sym (overlaid_none old) }

pub done : (bs old new : List ℕ) → Sound bs → length bs ≤ length old → new ≡ overlaid (converted bs) old
    → Converts (convert_answer bs (length old)) (Ok (length bs)) old new
done bs old new s h e = rw (convert_done bs (length old) s h) record { numbers = rw (converted_length bs); out = e }

-- ---- no second outcome fits

-- the answer that has these numbers
unfoldable answer_from : Numbers → Result ℕ Unconverted
answer_from n =
    choose n.code (Ok n.length)
    ((15, Err ShortOutput) ∷ (1, Err (Faulty BadHead)) ∷ (2, Err (Faulty BadCount)) ∷ (3, Err (Faulty BadOffset)) ∷ (4, Err (Faulty (BadName n.place)))
    ∷ (5, Err (Faulty (UnsafeName n.place))) ∷ (6, Err (Faulty (BadNode n.place))) ∷ (7, Err (Faulty (BadNesting n.place)))
    ∷ (8, Err (Faulty (TooDeep n.place))) ∷ [])

answer_back : (r : Result ℕ Unconverted) → answer_from (numbers_of r) ≡ r
unfolding answer_from choose test◌then◌else◌
answer_back (Ok k) = refl
answer_back (Err ShortOutput) = refl
answer_back (Err (Faulty BadHead)) = refl
answer_back (Err (Faulty BadCount)) = refl
answer_back (Err (Faulty BadOffset)) = refl
answer_back (Err (Faulty (BadName i))) = refl
answer_back (Err (Faulty (UnsafeName i))) = refl
answer_back (Err (Faulty (BadNode i))) = refl
answer_back (Err (Faulty (BadNesting i))) = refl
answer_back (Err (Faulty (TooDeep i))) = refl

-- two outcomes that both meet the promise of `convert` are equal, answer and bytes
pub one_outcome : (a : Conversion) {r q : Result ℕ Unconverted} {old new new₂ : List ℕ} → Converts a r old new → Converts a q old new₂ → (r ≡ q) × (new ≡ new₂)
one_outcome a {r} {q} x y =
    (sym (answer_back r) ∙ ap answer_from (x.numbers ∙ sym y.numbers) ∙ answer_back q, x.out ∙ sym y.out)

-- and so are the numbers and bytes of its twin for C
pub one_handed : (a : Conversion) {n k : Numbers} {old new new₂ : List ℕ} → Hands a n old new → Hands a k old new₂ → (n ≡ k) × (new ≡ new₂)
one_handed a x y = (x.numbers ∙ sym y.numbers, x.out ∙ sym y.out)

-- ---- for other languages

pub hands : {a : Conversion} {r : Result ℕ Unconverted} {n : Numbers} {old new : List ℕ} → Converts a r old new → numbers_of r ≡ n → Hands a n old new
hands x e = record { numbers = sym e ∙ x.numbers; out = x.out }
