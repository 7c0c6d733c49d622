-- The verb of a word and its kind, as the code reads the word's bytes. Assumes nothing.
use mathlib.Core.Path.{◌≡◌, refl}
use mathlib.Core.List.{List, [], ◌∷◌}
use Prim.Native.Nat.{ℕ, ◌≤◌}
use borrow.Author.Rules.{rules}
use lib.Chars.{codes}
use lib.Dec.{eqb}
use lib.ListN.{length, get_or}
use borrow.Author.Tests.{eq-eqb, eqb-true}
use native.Mathlib.Omega.{arith}
use Rattle.std.proofs.lemmas.Slice.Eq.{HasBytesAt, text_from_reads}
use Rattle.meaning.specs.Base.{◌and◌, test◌then◌else◌, bytes, same_text}
use Rattle.meaning.proofs.Choices.{not_so, same_text_lem}
use Rattle.verbs.specs.Words.{verb_of, kind_of}
use Rattle.verbs.specs.declared.Verb.TheVariants.{Check, Sheet, Show, Changes, Load, Convert, Help, Nothing}
use Rattle.verbs.specs.declared.Kind.TheVariants.{Strict, Known, Input, Name, Unknown}

-- s has the bytes of p, as the code reads them
abbrev pub Reads : List ℕ → List ℕ → Type 0
Reads s p = (length s ≡ length p) × HasBytesAt s 0 p

pub verb_check : (s : List ℕ) → Reads s (codes "check") → Check ≡ verb_of s
unfolding verb_of bytes same_text test◌then◌else◌ ◌and◌
verb_check s r = rw (text_from_reads s (codes "check") r.0 r.1)

pub verb_sheet : (s : List ℕ) → Reads s (codes "sheet") → Sheet ≡ verb_of s
unfolding verb_of bytes same_text test◌then◌else◌ ◌and◌
verb_sheet s r = rw (text_from_reads s (codes "sheet") r.0 r.1)

pub verb_show : (s : List ℕ) → Reads s (codes "show") → Show ≡ verb_of s
unfolding verb_of bytes same_text test◌then◌else◌ ◌and◌
verb_show s r = rw (text_from_reads s (codes "show") r.0 r.1)

pub verb_changes : (s : List ℕ) → Reads s (codes "changes") → Changes ≡ verb_of s
unfolding verb_of bytes same_text test◌then◌else◌ ◌and◌
verb_changes s r = rw (text_from_reads s (codes "changes") r.0 r.1)

pub verb_load : (s : List ℕ) → Reads s (codes "load") → Load ≡ verb_of s
unfolding verb_of bytes same_text test◌then◌else◌ ◌and◌
verb_load s r = rw (text_from_reads s (codes "load") r.0 r.1)

pub verb_convert : (s : List ℕ) → Reads s (codes "convert") → Convert ≡ verb_of s
unfolding verb_of bytes same_text test◌then◌else◌ ◌and◌
verb_convert s r = rw (text_from_reads s (codes "convert") r.0 r.1)

pub verb_help : (s : List ℕ) → Reads s (codes "help") → Help ≡ verb_of s
unfolding verb_of bytes same_text test◌then◌else◌ ◌and◌
verb_help s r = rw (text_from_reads s (codes "help") r.0 r.1)

-- none of the seven
pub verb_nothing : (s : List ℕ)
    → (Reads s (codes "check") → ⊥)
    → (Reads s (codes "sheet") → ⊥)
    → (Reads s (codes "show") → ⊥)
    → (Reads s (codes "changes") → ⊥)
    → (Reads s (codes "load") → ⊥)
    → (Reads s (codes "convert") → ⊥)
    → (Reads s (codes "help") → ⊥)
    → Nothing ≡ verb_of s
unfolding verb_of bytes test◌then◌else◌
verb_nothing s n0 n1 n2 n3 n4 n5 n6 =
    rw (
      not_so (same_text s (codes "check")) (λ e. n0 (rw (same_text_lem s _ e) (search rules))),
      not_so (same_text s (codes "sheet")) (λ e. n1 (rw (same_text_lem s _ e) (search rules))),
      not_so (same_text s (codes "show")) (λ e. n2 (rw (same_text_lem s _ e) (search rules))),
      not_so (same_text s (codes "changes")) (λ e. n3 (rw (same_text_lem s _ e) (search rules))),
      not_so (same_text s (codes "load")) (λ e. n4 (rw (same_text_lem s _ e) (search rules))),
      not_so (same_text s (codes "convert")) (λ e. n5 (rw (same_text_lem s _ e) (search rules))),
      not_so (same_text s (codes "help")) (λ e. n6 (rw (same_text_lem s _ e) (search rules))),
    ) refl

-- for verb_told
pub ruleset verbs = (verb_check, verb_sheet, verb_show, verb_changes, verb_load, verb_convert, verb_help, verb_nothing)

pub kind_strict : (s : List ℕ) → Reads s (codes "--strict") → Strict ≡ kind_of s
unfolding kind_of bytes same_text test◌then◌else◌ ◌and◌
kind_strict s r = rw (text_from_reads s (codes "--strict") r.0 r.1)

pub kind_known : (s : List ℕ) → Reads s (codes "--known") → Known ≡ kind_of s
unfolding kind_of bytes same_text test◌then◌else◌ ◌and◌
kind_known s r = rw (text_from_reads s (codes "--known") r.0 r.1)

pub kind_input : (s : List ℕ) → Reads s (codes "-") → Input ≡ kind_of s
unfolding kind_of bytes same_text test◌then◌else◌ ◌and◌
kind_input s r = rw (text_from_reads s (codes "-") r.0 r.1)

-- none of the three, and it begins with a `-`
pub kind_unknown : (s : List ℕ)
    → (Reads s (codes "--strict") → ⊥)
    → (Reads s (codes "--known") → ⊥)
    → (Reads s (codes "-") → ⊥)
    → get_or s 0 0 ≡ 45
    → Unknown ≡ kind_of s
unfolding kind_of bytes test◌then◌else◌
kind_unknown s n0 n1 n2 e =
    rw (
      not_so (same_text s (codes "--strict")) (λ e. n0 (rw (same_text_lem s _ e) (search rules))),
      not_so (same_text s (codes "--known")) (λ e. n1 (rw (same_text_lem s _ e) (search rules))),
      not_so (same_text s (codes "-")) (λ e. n2 (rw (same_text_lem s _ e) (search rules))),
      eq-eqb (get_or s 0 0) 45 e,
    ) refl

dash_there : (s : List ℕ) → get_or s 0 0 ≡ 45 → 1 ≤ length s
dash_there [] e = absurd (omega (arith, e))
dash_there (x ∷ xs) e = omega arith

pub kind_name : (s : List ℕ)
    → (Reads s (codes "--strict") → ⊥)
    → (Reads s (codes "--known") → ⊥)
    → (Reads s (codes "-") → ⊥)
    → (1 ≤ length s → get_or s 0 0 ≡ 45 → ⊥)
    → Name ≡ kind_of s
unfolding kind_of bytes test◌then◌else◌
kind_name s n0 n1 n2 n3 =
    rw (
      not_so (same_text s (codes "--strict")) (λ e. n0 (rw (same_text_lem s _ e) (search rules))),
      not_so (same_text s (codes "--known")) (λ e. n1 (rw (same_text_lem s _ e) (search rules))),
      not_so (same_text s (codes "-")) (λ e. n2 (rw (same_text_lem s _ e) (search rules))),
      not_so (eqb (get_or s 0 0) 45) (λ e. let q = eqb-true _ _ e in n3 (dash_there s q) q),
    ) refl

-- for kind_of
pub ruleset kinds = (kind_strict, kind_known, kind_input, kind_unknown, kind_name)
