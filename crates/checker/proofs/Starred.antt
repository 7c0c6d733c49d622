-- Document 01's runs with known ends, of `check` and its C twin: they are proved of `answer` in `meaning`, each table as one statement, and
-- whatever a run leaves is what `answer` says.
use mathlib.Core.Path.{◌≡◌, refl, ap, subst}
use mathlib.Core.Logic.{⊎_elim}
use mathlib.Core.List.Memᴰ
use mathlib.Core.List.{List, [], ◌∷◌, map, Memᴰ, head-eq_of_cons-eq, tail-eq_of_cons-eq}
use Prim.Native.Nat.{ℕ}
use lib.ListN.{get_or}
use Rattle.meaning.specs.Base.{bytes, words}
use Rattle.meaning.specs.Limits.{sheet_buffer, message_buffer}
use Rattle.meaning.specs.Answer.{answer}
use Rattle.meaning.specs.Answer.{Answer as Meant}
use Rattle.meaning.proofs.Rows.{Run}
use Rattle.meaning.proofs.Runs.{no_names, runs, runs_end, also, also_end}
use Rattle.checker.specs.Answers.{Numbers, Replies}

each : {A B : Type 0} (f g : A → B) (xs : List A) → map f xs ≡ map g xs → (x : A) → Memᴰ x xs → f x ≡ g x
each f g [] e x m = absurd (Memᴰ.not-nil m)
each f g (y ∷ xs) e x m =
    ⊎_elim (λ p. rw p (head-eq_of_cons-eq e)) (λ r. each f g xs (tail-eq_of_cons-eq e) x r) (Memᴰ.cases_cons m)

-- whatever is left of a run's image in plain, with the buffers of `typecheck`, is what the table tells: its numbers, and every byte
pub record Ends (run : Run) : Type 0 where
  pub leaves : {n : Numbers} {s s₁ m m₁ : List ℕ} → Replies (answer 0 run.0 sheet_buffer message_buffer) n s s₁ m m₁ → Replies run.1 n s s₁ m m₁

module _ (table : List Run) (e : map (λ r. answer 0 r.0 sheet_buffer message_buffer) table ≡ map (λ r. r.1) table) where
  all_end : (run : Run) → Memᴰ run table → Ends run
  all_end run i =
      record { leaves = λ {n} {s} {s₁} {m} {m₁} x. subst (λ (a : Meant). Replies a n s s₁ m m₁) (each (λ r. answer 0 r.0 sheet_buffer message_buffer) (λ r. r.1) table e run i) x }

-- "Runs with known ends (starred: proved, as one table)"
pub starred_end : (run : Run) → Memᴰ run runs → Ends run
starred_end = all_end runs runs_end

-- "Also: .."
pub others_end : (run : Run) → Memᴰ run also → Ends run
others_end = all_end also also_end

-- Run 2, `x = 1`, read off the table: accepted, 53 bytes.
pub second_end : {n : Numbers} {s s₁ m m₁ : List ℕ} → Replies (answer 0 (get_or runs 1 ([], no_names)).0 sheet_buffer message_buffer) n s s₁ m m₁
    → (n.code ≡ 0) × (n.sheet ≡ 53)
unfolding bytes words
second_end x =
    let a = (starred_end (get_or runs 1 ([], no_names)) (Memᴰ.tail (Memᴰ.head refl))).leaves x in
    (ap (λ (k : Numbers). k.code) a.numbers, ap (λ (k : Numbers). k.sheet) a.numbers)
