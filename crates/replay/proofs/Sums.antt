-- The checksum: what a fold over the bytes gives, and sums that are known. Assumes nothing.
use Rattle.std.proofs.Common.{◌≡◌, ℕ, ◌*◌, ◌%◌, ◌^◌, List, [], ◌∷◌, refl, fold}
use lib.Bits.{bit_xor}
use Rattle.replay.specs.Lines.{fnv_start, fnv_prime, fnv_from, fnv_of}

-- "for each byte xor it in, then multiply by the prime modulo 2^64"
abbrev pub step : ℕ → ℕ → ℕ
step h b = bit_xor h b * fnv_prime % 2 ^ 64

folded : (h : ℕ) (s : List ℕ) → fold step h s ≡ fnv_from h s
unfolding fnv_from
folded h [] = refl
folded h (b ∷ s) = folded (step h b) s

pub sum_folded : (s : List ℕ) → fold step fnv_start s ≡ fnv_of s
unfolding fnv_of
sum_folded s = folded fnv_start s

-- those of no byte, of `a` and of `foobar` stand in FNV's own list of test vectors
known : (fnv_of [] ≡ 0xcbf29ce484222325) × (fnv_of (97 ∷ []) ≡ 0xaf63dc4c8601ec8c) × (fnv_of (102 ∷ 111 ∷ 111 ∷ 98 ∷ 97 ∷ 114 ∷ []) ≡ 0x85944171f73967e8)
unfolding fnv_from fnv_of
known = (refl, refl, refl)
