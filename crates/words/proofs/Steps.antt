-- What std's methods tell, in the documents' words, and one digit more. Assumes nothing.
use Rattle.std.proofs.Common.{◌≡◌, refl, sym, ap, ◌∙◌, zero, suc, ◌*◌, ◌^◌, max, Bool, true, false, ◌&&◌, List, [], ◌∷◌, ℕ, ◌+◌, ◌-◌, ◌/◌, ◌%◌, ◌<◌, ◌≤◌, length, drop-drop, append_assoc, nat_eq, nat_le, arith}
use Rattle.std.specs.Cmp.Lexicographic.{pointwise}
use Rattle.std.specs.Char.{is_ascii_graphic}
use Rattle.std.specs.Int.{w32, to_le_bytes}
use borrow.Rule.Slice.PartMut.{put_mid}
use lib.ListN.{set}
use native.Mathlib.Numerals.{add-one, add-two, add-three}
use lib.Seq.{sets-eq}
use native.Mathlib.Nat.{div-div-eq-div-mul, add-sub_cancel_left, one-le-pow, pow-suc}
use Rattle.meaning.specs.Base.{◌and◌, same_text, decimal, words}
use Rattle.meaning.specs.Image.{printable}
use Rattle.meaning.proofs.SheetWords.{Small}
use Rattle.words.specs.Words.{put_at}
use Rattle.words.proofs.Laws.{put_byte, put_length, put_put, decimal_one, decimal_more, decimal_longer}

-- ---- what std tells of two texts, and of each byte of one

and_is : (a b : Bool) → (a && b) ≡ (a and b)
unfolding ◌and◌
and_is true b = refl
and_is false b = refl

pub equal_texts : (xs ys : List ℕ) → pointwise nat_eq xs ys ≡ same_text xs ys
unfolding same_text
equal_texts [] [] = refl
equal_texts [] (y ∷ ys) = refl
equal_texts (x ∷ xs) [] = refl
equal_texts (x ∷ xs) (y ∷ ys) = rw (equal_texts xs ys) (and_is (nat_eq x y) (same_text xs ys))

pub graphic : (b : ℕ) → is_ascii_graphic b ≡ printable b
unfolding printable
graphic b = and_is (nat_le 33 b) (nat_le b 126)

-- a part of d, as long as s, became s
pub put_part_at : (d : List ℕ) (at : ℕ) (s : List ℕ) → put_mid at (at + length s - at) d s ≡ put_at d at s
unfolding put_at
put_part_at d at s = rw (add-sub_cancel_left at (length s), drop-drop (length s) at d, append_assoc)

-- four stores: `convert` writes a word so
pub put_four : (d : List ℕ) (at a b c e : ℕ) → at + 4 ≤ length d → set (set (set (set d at a) (at + 1) b) (at + 2) c) (at + 3) e ≡ put_at d at (a ∷ b ∷ c ∷ e ∷ [])
unfolding put_at
put_four d at a b c e h = rw (add-one, add-two, add-three) (sets-eq (a ∷ b ∷ c ∷ e ∷ []) d at h)

pub four_bytes_of : (w : ℕ) → to_le_bytes w32 w ≡ words (w ∷ [])
unfolding words
four_bytes_of w = rw (div-div-eq-div-mul w 256 256, div-div-eq-div-mul w 65536 256)

-- ---- decimal

-- as many digits as the powers of ten that n reaches, and one more
pub decimal_long : (n k : ℕ) → Small n → 10 ^ k ≤ max n 1 → max n 1 < 10 * 10 ^ k → k + 1 ≡ length (decimal n)
decimal_long n zero small low high = sym (ap length (decimal_one n (omega arith)))
decimal_long n (suc k) small low high =
    let power : 10 ^ suc k ≡ 10 * 10 ^ k = omega (arith, pow-suc 10 k) in
    let one : 1 ≤ 10 ^ k = one-le-pow k 10 (omega arith) in
    let big : 10 ≤ n = omega (arith, power, one, low) in
    omega (arith, decimal_longer n big small, decimal_long (n / 10) k (omega arith) (omega (arith, power, low, one)) (omega (arith, power, high, one)))

pub decimal_first : (d : List ℕ) (at n : ℕ) → n < 10 → at < length d → set d at (48 + n) ≡ put_at d at (decimal n)
decimal_first d at n h fits = rw (decimal_one n h) (put_byte d at (48 + n) fits)

-- one digit more, behind those of n / 10
pub decimal_next : (d e : List ℕ) (at n : ℕ) → 10 ≤ n → Small n → at + length (decimal n) ≤ length d → e ≡ put_at d at (decimal (n / 10))
    → set e (at + length (decimal (n / 10))) (48 + n % 10) ≡ put_at d at (decimal n)
decimal_next d e at n h small fits written =
    let longer : length (decimal n) ≡ length (decimal (n / 10)) + 1 = decimal_longer n h small in
    let kept : length e ≡ length d = ap length written ∙ put_length d at (decimal (n / 10)) (omega arith) in
    rw (put_byte e (at + length (decimal (n / 10))) _ (omega arith), written, decimal_more n h small)
    (put_put d at (decimal (n / 10)) (omega arith) _)
