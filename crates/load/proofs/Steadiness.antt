-- About runs of `cablebirch_steady`, from its promise: no second outcome fits, and when a program has no Def inside an If. Assumes nothing.
use mathlib.Core.Path.{◌≡◌, refl, sym, ap, ◌∙◌}
use mathlib.Core.Logic.{◌↔◌}
use mathlib.Core.List.{List}
use Prim.Native.Nat.{ℕ}
use native.Mathlib.Omega.{arith}
use Rattle.meaning.specs.Image.{nodes_of}
use Rattle.meaning.specs.Decode.{tree_of}
use Rattle.meaning.specs.Walk.{plain}
use Rattle.meaning.specs.Read.{entries_in}
use Rattle.meaning.specs.Answer.{answer}
use Rattle.meaning.specs.Known.{NoDefInIf, steady, def_in_if, faulty, steadiness}
use Rattle.meaning.specs.Known.{Steadiness as Meant}
use Rattle.meaning.proofs.Faults.{Sound}
use Rattle.steady.proofs.Whole.{steadiness_exactly}
use Rattle.checker.specs.Answers.{Numbers, Replies}
use Rattle.checker.specs.Module.{sheet_in}
use Rattle.checker.proofs.Known.{Steadily, plain_steadily}
use Rattle.load.specs.Steadiness.{SteadyNumbers, steady_numbers, steady_means}
use Rattle.load.specs.declared.Steady.{Steady}

-- ---- no second outcome fits

abbrev steady_from : SteadyNumbers → Steady
steady_from n = record { steady = n.steady; code = n.code; span_start = n.span_start; span_end = n.span_end; place = n.place }

-- Two outcomes that both meet the promise of `cablebirch_steady` are equal, every field. (False of a promise that leaves open which of two Defs
-- is told, or what the span is where there is none.)
pub one_in_numbers : (image : List ℕ) (r q : Steady) → steady_means r ≡ steady_numbers (steadiness image)
    → steady_means q ≡ steady_numbers (steadiness image) → r ≡ q
one_in_numbers image r q x y = ap steady_from (x ∙ sym y)

-- ---- when a program is told as steady

is_steady : (m : Meant) → (steady_numbers m).steady ≡ 1 → m ≡ steady
is_steady steady e = refl
is_steady (def_in_if n b f) e = absurd (omega (arith, e))
is_steady (faulty f) e = absurd (omega (arith, e))

-- `steady` is 1 exactly when the bytes are a well-formed image with no Def anywhere inside an If. (False of a program that forgets the outer
-- If behind an inner one, or that looks for Defs through If Blocks alone and not through the loops in them.)
pub steady_exactly : (image : List ℕ) (r : Steady) → steady_means r ≡ steady_numbers (steadiness image)
    → (r.steady ≡ 1) ↔ (Sound image × NoDefInIf (tree_of (nodes_of image)))
steady_exactly image r p =
    let told = ap (λ (n : SteadyNumbers). n.steady) p in (
      λ e. (steadiness_exactly image).0 (is_steady (steadiness image) (sym told ∙ e)),
      λ h. told ∙ ap (λ (m : Meant). (steady_numbers m).steady) ((steadiness_exactly image).1 h),
    )

-- Which guarantee holds: where `steady` is 1, known stays known in what a plain check accepts, and is so in its sheet. (False of a program that
-- answers 1 for run 11.)
pub steady_steadily : (image : List ℕ) (r : Steady) → steady_means r ≡ steady_numbers (steadiness image) → r.steady ≡ 1 → (room told : ℕ)
    {n : Numbers} {old new old_message new_message : List ℕ} → Replies (answer 0 image room told) n old new old_message new_message → n.code ≡ 0
    → Steadily image plain (entries_in (sheet_in n new))
steady_steadily image r p e room told x c = plain_steadily image room told x c ((steady_exactly image r p).0 e).1
