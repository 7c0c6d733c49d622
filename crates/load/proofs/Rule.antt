-- About runs of `load` and of its C twin, from their promises: no second outcome fits, and when a script loads. Assumes nothing.
use mathlib.Core.Path.{◌≡◌, refl, sym, ap, ◌∙◌}
use mathlib.Core.Bool.{false, false≢true}
use mathlib.Core.Logic.{◌↔◌}
use mathlib.Core.List.{List}
use Prim.Native.Nat.{ℕ}
use native.Mathlib.Omega.{arith}
use Rattle.meaning.specs.Read.{is_sheet}
use Rattle.meaning.specs.Answer.{Answer as Meant, answer}
use Rattle.meaning.specs.Load.{loading, loading_number}
use Rattle.meaning.proofs.Loads.{number_loads, number_look, look_exactly}
use Rattle.meaning.proofs.Loads.{loads_exactly as rule-loads}
use Rattle.checker.specs.Answers.{Numbers, Replies}
use Rattle.checker.specs.Module.{SameNames, sheet_in}
use Rattle.checker.proofs.Outcomes.{same_answer, one_told}
use Rattle.checker.proofs.Demand.{same_sheet_same_names}
use Rattle.meaning.specs.Show.{InWords, changes_answer}
use Rattle.show.specs.Words.{Tells}
use Rattle.show.proofs.Runs.{nothing_exactly}
use Rattle.load.specs.declared.Words.{Words}
use Rattle.std.specs.Prelude.{Ok, Err}
use Rattle.load.specs.Rule.{Decision, kind_of, numbers_told, StandsTold, Decides, Decided, verdict_means}
use Rattle.load.specs.declared.Verdict.{Verdict}
use Rattle.load.specs.declared.Loading.TheVariants.{Loads, Look}
use Rattle.load.proofs.Cases.{sheet_there}

-- ---- no second outcome fits

same_loading : (r q : Decision) → StandsTold r → StandsTold q → loading_number (kind_of r) ≡ loading_number (kind_of q) → numbers_told r ≡ numbers_told q → r ≡ q
same_loading (Ok (Loads n)) (Ok (Loads k)) s t h e = let z = same_answer (Ok n) (Ok k) s t e in cc
same_loading (Ok (Loads n)) (Ok (Look k)) s t h e = absurd (omega (arith, h))
same_loading (Ok (Loads n)) (Err b) s t h e = absurd (omega (arith, h))
same_loading (Ok (Look n)) (Ok (Loads k)) s t h e = absurd (omega (arith, h))
same_loading (Ok (Look n)) (Ok (Look k)) s t h e = let z = same_answer (Ok n) (Ok k) s t e in cc
same_loading (Ok (Look n)) (Err b) s t h e = absurd (omega (arith, h))
same_loading (Err a) (Ok (Loads k)) s t h e = absurd (omega (arith, h))
same_loading (Err a) (Ok (Look k)) s t h e = absurd (omega (arith, h))
same_loading (Err a) (Err b) s t h e = let z = same_answer (Err a) (Err b) s t e in cc

-- Two outcomes that both meet the promise of `load` are equal, the case with its numbers and both buffers. (False of a promise that lets `load`
-- say either of Loads and Look where nothing is approved, or that leaves open what stands in the sheet's buffer where someone must look.)
pub one_loading : (a : Meant) (approved : List ℕ) {r q : Decision} {s s₁ s₂ m m₁ m₂ : List ℕ} → Decided a approved r s s₁ m m₁ → Decided a approved q s s₂ m m₂
    → (r ≡ q) × (s₁ ≡ s₂) × (m₁ ≡ m₂)
one_loading a approved {r} {q} x y =
    let o = one_told x.decides.replies y.decides.replies in
    (same_loading r q x.stands y.stands (x.decides.rule ∙ sym y.decides.rule) o.0, o.1, o.2)

abbrev verdict_from : ℕ → Numbers → Verdict
verdict_from k n =
    record {
      loading = k;
      code = n.code;
      span_start = n.span_start;
      span_end = n.span_end;
      second_start = n.second_start;
      second_end = n.second_end;
      place = n.place;
      sheet_length = n.sheet;
      message_length = n.message;
    }

-- The same of `cablebirch_load`: every field and every byte.
pub one_verdict : (a : Meant) (approved : List ℕ) (r q : Verdict) {s s₁ s₂ m m₁ m₂ : List ℕ} → Decides a approved r.loading (verdict_means r) s s₁ m m₁
    → Decides a approved q.loading (verdict_means q) s s₂ m m₂ → (r ≡ q) × (s₁ ≡ s₂) × (m₁ ≡ m₂)
one_verdict a approved r q x y =
    let o = one_told x.replies y.replies in
    let k = ap (λ (i : ℕ). verdict_from i (verdict_means r)) (x.rule ∙ sym y.rule) in
    (k ∙ ap (verdict_from q.loading) o.0, o.1, o.2)

abbrev words_from : ℕ → ℕ → Words
words_from c n = record { code = c; length = n }

-- And of `cablebirch_show` and `cablebirch_changes`.
pub one_in_words : (a : InWords) (r q : Words) {old new new₂ : List ℕ} → Tells a r.code r.length old new → Tells a q.code q.length old new₂
    → (r ≡ q) × (new ≡ new₂)
one_in_words a r q x y =
    let c = x.code_is ∙ sym y.code_is in
    let l = x.length_is ∙ sym y.length_is in
    (ap (λ (k : ℕ). words_from k r.length) c ∙ ap (words_from q.code) l, x.out_is ∙ sym y.out_is)

-- ---- when a script loads

-- the case's number says which case it is
pub is_loads : (r : Decision) → (loading_number (kind_of r) ≡ 0) ↔ (r ≡ Ok (Loads (numbers_told r).sheet))
is_loads (Ok (Loads n)) = (λ e. refl, λ e. refl)
is_loads (Ok (Look n)) = (λ e. absurd (omega (arith, e)), λ e. absurd (omega (arith, ap (λ (q : Decision). loading_number (kind_of q)) e)))
is_loads (Err r) = (λ e. absurd (omega (arith, e)), λ e. absurd (omega (arith, ap (λ (q : Decision). loading_number (kind_of q)) e)))

module _ {a : Meant} (approved : List ℕ) {k : ℕ} {n : Numbers} {s s₁ m m₁ : List ℕ} (x : Decides a approved k n s s₁ m m₁) where
  -- It loads exactly when the check accepts and the sheet that stands at the front of the buffer, as long as told, is the approved bytes,
  -- whatever these are. (False of a program that compares only the lengths, as for `step = 1` approved and `step = 1.5`; of one that takes a
  -- sheet that is a front of the approved one; of one that loads a refused script beside an empty approved file, whose sheet is empty too;
  -- and of one that writes the sheet elsewhere than it compares it.)
  pub loads_exactly : (k ≡ 0) ↔ ((a.code ≡ 0) × (sheet_in n s₁ ≡ approved))
  loads_exactly =
      let r = rule-loads a approved in
      let there = sheet_there x.replies in (
        λ e. let p = r.0 (number_loads (loading a approved) (sym x.rule ∙ e)) in (p.0, there ∙ p.1),
        λ p. x.rule ∙ ap loading_number (r.1 (p.0, sym there ∙ p.1)),
      )

  -- What is no sheet is never loaded by: no bytes at all, where nothing was approved yet; a text; a sheet that was cut. (False of a program that takes
  -- a missing approved sheet for "nothing to compare".)
  pub none_approved : is_sheet approved ≡ false → k ≡ 0 → ⊥
  none_approved none z =
      let h = loads_exactly.0 z in
      let e : approved ≡ a.sheet = sym h.1 ∙ sheet_there x.replies in
      false≢true (sym none ∙ ap is_sheet e ∙ x.replies.form h.0)

-- `approved` is the sheet that an accepted run of the check wrote for another script: the new one loads exactly when it is accepted and both list
-- the same names with the same types. (False of a checker whose sheet leaves out a loop's name, or writes one list of names in two ways.)
module _ (setting setting₂ : ℕ) (image other approved : List ℕ) (room told room₂ told₂ : ℕ) {k : ℕ} {n p : Numbers} {s s₁ m m₁ t t₁ l l₁ : List ℕ}
    (x : Decides (answer setting image room told) approved k n s s₁ m m₁) (y : Replies (answer setting₂ other room₂ told₂) p t t₁ l l₁)
    (d : p.code ≡ 0) (e : approved ≡ sheet_in p t₁) where
  pub loads_same_names : (k ≡ 0) ↔ (((answer setting image room told).code ≡ 0) × SameNames image other)
  loads_same_names =
      let q = loads_exactly approved x in
      let same : ((answer setting image room told).code ≡ 0) → (sheet_in n s₁ ≡ sheet_in p t₁) ↔ SameNames image other =
      λ c. same_sheet_same_names setting setting₂ image other room told room₂ told₂ x.replies y (ap (λ (i : Numbers). i.code) x.replies.numbers ∙ c) d in (
        λ z. let h = q.0 z in (h.0, (same h.0).0 (h.1 ∙ e)),
        λ h. q.1 (h.0, (same h.0).1 h.1 ∙ sym e),
      )

-- Whoever must look sees at least one line: where the approved bytes are a sheet, what `changes` tells of it and the new sheet is not nothing.
-- (False of a `changes` that compares the shown texts, for which two long Tuples are one.)
module _ {a : Meant} (approved : List ℕ) {k : ℕ} {n : Numbers} {s s₁ m m₁ : List ℕ} (x : Decides a approved k n s s₁ m m₁)
    (room : ℕ) {size : ℕ} {out after : List ℕ} (y : Tells (changes_answer approved (sheet_in n s₁) room) 0 size out after) where
  pub look_tells : k ≡ 1 → size ≡ 0 → ⊥
  look_tells l z =
      let there = sheet_there x.replies in
      let same = (nothing_exactly approved (sheet_in n s₁) room y refl).0 z in
      let accepted = (look_exactly a approved).0 (number_look (loading a approved) (sym x.rule ∙ l)) in
      accepted.1 (sym there ∙ sym same)
