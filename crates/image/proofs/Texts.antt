-- The texts of the builtins that look at arguments, as the code reads a name's bytes. Assumes nothing.
use mathlib.Core.Path.{◌≡◌, refl}
use mathlib.Core.Bool.{true, false}
use mathlib.Core.List.{List}
use Prim.Native.Nat.{ℕ}
use borrow.Author.Rules.{rules}
use lib.Chars.{codes}
use lib.ListN.{length}
use Rattle.std.proofs.lemmas.Slice.Eq.{HasBytesAt, text_from_reads}
use Rattle.meaning.specs.Base.{◌and◌, ◌or◌, bytes, same_text, is_one_of}
use Rattle.meaning.proofs.Choices.{not_so, same_text_lem}
use Rattle.image.specs.Parts.{one_argument, two_arguments}

-- s has the bytes of p, as the code reads them
abbrev pub Reads : List ℕ → List ℕ → Type 0
Reads s p = (length s ≡ length p) × HasBytesAt s 0 p

pub one_int : (s : List ℕ) → Reads s (codes "int") → true ≡ is_one_of s one_argument
unfolding is_one_of bytes same_text ◌or◌ ◌and◌
one_int s r = rw (text_from_reads s (codes "int") r.0 r.1)

pub one_float : (s : List ℕ) → Reads s (codes "float") → true ≡ is_one_of s one_argument
unfolding is_one_of bytes same_text ◌or◌ ◌and◌
one_float s r = rw (text_from_reads s (codes "float") r.0 r.1)

pub one_bool : (s : List ℕ) → Reads s (codes "bool") → true ≡ is_one_of s one_argument
unfolding is_one_of bytes same_text ◌or◌ ◌and◌
one_bool s r = rw (text_from_reads s (codes "bool") r.0 r.1)

pub one_str : (s : List ℕ) → Reads s (codes "str") → true ≡ is_one_of s one_argument
unfolding is_one_of bytes same_text ◌or◌ ◌and◌
one_str s r = rw (text_from_reads s (codes "str") r.0 r.1)

pub one_len : (s : List ℕ) → Reads s (codes "len") → true ≡ is_one_of s one_argument
unfolding is_one_of bytes same_text ◌or◌ ◌and◌
one_len s r = rw (text_from_reads s (codes "len") r.0 r.1)

pub one_assert : (s : List ℕ) → Reads s (codes "assert") → true ≡ is_one_of s one_argument
unfolding is_one_of bytes same_text ◌or◌ ◌and◌
one_assert s r = rw (text_from_reads s (codes "assert") r.0 r.1)

pub one_none : (s : List ℕ)
    → (Reads s (codes "int") → ⊥)
    → (Reads s (codes "float") → ⊥)
    → (Reads s (codes "bool") → ⊥)
    → (Reads s (codes "str") → ⊥)
    → (Reads s (codes "len") → ⊥)
    → (Reads s (codes "assert") → ⊥)
    → false ≡ is_one_of s one_argument
unfolding is_one_of bytes ◌or◌
one_none s n0 n1 n2 n3 n4 n5 =
    rw (
      not_so (same_text s (codes "int")) (λ e. n0 (rw (same_text_lem s _ e) (search rules))),
      not_so (same_text s (codes "float")) (λ e. n1 (rw (same_text_lem s _ e) (search rules))),
      not_so (same_text s (codes "bool")) (λ e. n2 (rw (same_text_lem s _ e) (search rules))),
      not_so (same_text s (codes "str")) (λ e. n3 (rw (same_text_lem s _ e) (search rules))),
      not_so (same_text s (codes "len")) (λ e. n4 (rw (same_text_lem s _ e) (search rules))),
      not_so (same_text s (codes "assert")) (λ e. n5 (rw (same_text_lem s _ e) (search rules))),
    ) refl

-- for needs_one
pub ruleset one = (one_int, one_float, one_bool, one_str, one_len, one_assert, one_none)

pub two_map : (s : List ℕ) → Reads s (codes "map") → true ≡ is_one_of s two_arguments
unfolding is_one_of bytes same_text ◌or◌ ◌and◌
two_map s r = rw (text_from_reads s (codes "map") r.0 r.1)

pub two_filter : (s : List ℕ) → Reads s (codes "filter") → true ≡ is_one_of s two_arguments
unfolding is_one_of bytes same_text ◌or◌ ◌and◌
two_filter s r = rw (text_from_reads s (codes "filter") r.0 r.1)

pub two_none : (s : List ℕ)
    → (Reads s (codes "map") → ⊥)
    → (Reads s (codes "filter") → ⊥)
    → false ≡ is_one_of s two_arguments
unfolding is_one_of bytes ◌or◌
two_none s n0 n1 =
    rw (
      not_so (same_text s (codes "map")) (λ e. n0 (rw (same_text_lem s _ e) (search rules))),
      not_so (same_text s (codes "filter")) (λ e. n1 (rw (same_text_lem s _ e) (search rules))),
    ) refl

-- for needs_two
pub ruleset two = (two_map, two_filter, two_none)
