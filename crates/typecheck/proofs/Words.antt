-- The setting that the words tell, case by case, as the code reads the bytes of the first.
use mathlib.Core.Path.{◌≡◌, refl}
use mathlib.Core.List.{List, [], ◌∷◌}
use Prim.Native.Nat.{ℕ, ◌<◌}
use native.Mathlib.Omega.{arith}
use borrow.Author.Rules.{rules}
use lib.Chars.{codes}
use lib.ListN.{length}
use Rattle.std.proofs.lemmas.Slice.Eq.{HasBytesAt, text_from_reads}
use Rattle.meaning.specs.Base.{◌and◌, test◌then◌else◌, bytes, same_text}
use Rattle.meaning.specs.Line.{setting_told}
use Rattle.meaning.proofs.Choices.{not_so, same_text_lem}
use Rattle.typecheck.specs.Words.{Told}

-- s has the bytes of p, as the code reads them
abbrev pub Reads : List ℕ → List ℕ → Type 0
Reads s p = (length s ≡ length p) × HasBytesAt s 0 p

-- the setting of one word is the setting of all
one_word : (w : List ℕ) {n k : ℕ} → n ≡ 2 → k ≡ setting_told (w ∷ []) → Told n w k
one_word w h e = record { none = λ l. absurd (omega arith); one = λ l. e; more = λ l. absurd (omega arith) }

module _ (n : ℕ) (w : List ℕ) where
  pub no_word : n < 2 → Told n w 0
  unfolding setting_told
  no_word h = record { none = λ l. refl; one = λ e. absurd (omega arith); more = λ l. absurd (omega arith) }

  pub more_words : (n ≡ 0 → ⊥) → (n ≡ 1 → ⊥) → (n ≡ 2 → ⊥) → Told n w 2
  unfolding setting_told
  more_words a b c = record { none = λ l. absurd (omega arith); one = λ e. absurd (c e); more = λ l v vs. refl }

  pub is_plain : n ≡ 2 → Reads w (codes "plain") → Told n w 0
  unfolding setting_told bytes same_text test◌then◌else◌ ◌and◌
  is_plain h r = one_word w h (rw (text_from_reads w (codes "plain") r.0 r.1))

  pub is_strict : n ≡ 2 → Reads w (codes "strict") → Told n w 1
  unfolding setting_told bytes same_text test◌then◌else◌ ◌and◌
  is_strict h r = one_word w h (rw (text_from_reads w (codes "strict") r.0 r.1))

  pub is_neither : n ≡ 2 → (Reads w (codes "plain") → ⊥) → (Reads w (codes "strict") → ⊥) → Told n w 2
  unfolding setting_told bytes test◌then◌else◌
  is_neither h a b =
      one_word w h (rw (
        not_so (same_text w (codes "plain")) (λ e. a (rw (same_text_lem w _ e) (search rules))),
        not_so (same_text w (codes "strict")) (λ e. b (rw (same_text_lem w _ e) (search rules))),
      ) refl)

-- for setting_told
pub ruleset settings = (no_word, more_words, is_plain, is_strict, is_neither)
