-- What follows from the definitions alone, for the crates above to cite: what a write leaves, and what a number in decimal is.
-- A write that does not fit makes the list longer, so most laws of `put_at` ask only that its place is within. Assumes nothing.
use mathlib.Core.Path.{◌≡◌, refl, sym, ap, ◌∙◌}
use mathlib.Core.Logic.{◌⊎◌, inl, inr}
use mathlib.Core.List.{List, [], ◌∷◌, ◌++◌, append_assoc}
use Prim.Native.Nat.{ℕ, zero, suc, ◌+◌, ◌-◌, ◌*◌, ◌/◌, ◌%◌, ◌^◌, ◌<◌, ◌≤◌}
use native.Mathlib.Nat.{add_assoc, zero-add, add-zero, pow-suc}
use native.Mathlib.Decide.{dec_lt}
use native.Mathlib.Omega.{arith}
use lib.ListN.{length, get_or, set, take, drop, length-append, length-drop, take-append-drop, get_or-append}
use lib.Seq.{length-take-le, take_at, drop_at, take-append-le, drop-append-le, drop-drop, get_or-drop, get_or-take, get_or-append_seam, split_at, paste-zero, sets-eq}
use borrow.Author.Tests.{lt-ltb, le-ltb}
use Rattle.meaning.specs.Base.{test◌then◌else◌, bytes, same_text, digits, decimal, word, words}
use Rattle.meaning.specs.Answer.{overlaid}
use Rattle.meaning.proofs.SheetWords.{Small, four_bytes, words_length}
use Rattle.words.specs.Words.{put_at, Wrote}

-- ---- what was written

pub put_nil : (d : List ℕ) (at : ℕ) → put_at d at [] ≡ d
unfolding put_at
put_nil d at = sym (paste-zero d at [])

pub put_front : (d s : List ℕ) → put_at d 0 s ≡ s ++ drop (length s) d
unfolding put_at
put_front d s = rw zero-add

pub put_overlaid : (d s : List ℕ) → put_at d 0 s ≡ overlaid s d
unfolding overlaid
put_overlaid d s = put_front d s

module _ (d : List ℕ) (at : ℕ) (s : List ℕ) (within : at ≤ length d) where
  head_length : length (take at d ++ s) ≡ at + length s
  head_length = rw (length-append, length-take-le at d)

  -- it reaches to the end of s at least
  put_reaches : at + length s ≤ length (put_at d at s)
  unfolding put_at
  put_reaches = rw (length-append, head_length) (omega arith)

  -- up to the end of s, from there on, and from its beginning on
  put_head : take (at + length s) (put_at d at s) ≡ take at d ++ s
  unfolding put_at
  put_head = take_at (take at d ++ s) _ (at + length s) head_length

  put_tail : drop (at + length s) (put_at d at s) ≡ drop (at + length s) d
  unfolding put_at
  put_tail = drop_at (take at d ++ s) _ (at + length s) head_length

  put_drop : drop at (put_at d at s) ≡ s ++ drop (at + length s) d
  unfolding put_at
  put_drop = rw append_assoc (drop_at (take at d) _ at (length-take-le at d within))

  pub put_part : take (length s) (drop at (put_at d at s)) ≡ s
  put_part = rw put_drop (take_at s _ (length s) refl)

  -- two writes end to end are one
  pub put_put : (t : List ℕ) → put_at (put_at d at s) (at + length s) t ≡ put_at d at (s ++ t)
  unfolding put_at
  put_put t =
      rw (put_head, ← drop-drop (length t) (at + length s) (put_at d at s), put_tail, drop-drop, append_assoc (take at d) s t, length-append, add_assoc)

pub put_length : (d : List ℕ) (at : ℕ) (s : List ℕ) → at + length s ≤ length d → length (put_at d at s) ≡ length d
unfolding put_at
put_length d at s fits =
    let within : at ≤ length d = omega arith in
    simp (length-append, length-take-le, length-drop) (omega arith)

-- one piece, and two one after the other

pub wrote : {d e : List ℕ} {at end : ℕ} (s : List ℕ) → at + length s ≤ length d → e ≡ put_at d at s → end ≡ at + length s → Wrote d at s e end
wrote {d} {e} {at} {end} s fits w p =
    let kept : length e ≡ length d = ap length w ∙ put_length d at s fits in
    record { same = w; ends = p; long = kept; inside = omega (arith, p) }

pub and_then : {d e f : List ℕ} {at m n : ℕ} {s t : List ℕ} → Wrote d at s e m → Wrote e m t f n → Wrote d at (s ++ t) f n
and_then {d} {e} {f} {at} {m} {n} {s} {t} a b =
    let within : at ≤ length d = omega (arith, a.ends, a.long, a.inside) in
    record {
      same = b.same ∙ rw (a.same, a.ends) (put_put d at s within t);
      ends = rw length-append (omega (arith, a.ends, b.ends));
      long = b.long ∙ a.long;
      inside = b.inside;
    }

-- ---- what lies around it

-- n bytes at k lie wholly before or wholly after m bytes at a place
abbrev pub Apart : ℕ → ℕ → ℕ → ℕ → Type 0
Apart k n at m = (k + n ≤ at) ⊎ (at + m ≤ k)

-- a part of p that stands before y does not see y
part_before : (p y : List ℕ) (k n : ℕ) → k + n ≤ length p → take n (drop k (p ++ y)) ≡ take n (drop k p)
part_before p y k n h =
    let inside : k ≤ length p = omega arith in
    let room : n ≤ length (drop k p) = simp length-drop (omega arith) in
    rw (drop-append-le, take-append-le)

-- lists that agree from m on agree from k on
drop_beyond : (x y : List ℕ) (m k : ℕ) → m ≤ k → drop m x ≡ drop m y → drop k x ≡ drop k y
drop_beyond x y m k h e =
    let far : m + (k - m) ≡ k = omega arith in
    rw (← far, ← drop-drop (k - m) m x, ← drop-drop (k - m) m y, e)

-- a byte and a word are read from a part of their own length
part_at : (x : List ℕ) (k n i : ℕ) → i < n → get_or (take n (drop k x)) i 0 ≡ get_or x (k + i) 0
part_at x k n i h = rw (get_or-take, get_or-drop)

byte_part : (x : List ℕ) (k : ℕ) → get_or x k 0 ≡ get_or (take 1 (drop k x)) 0 0
byte_part x k = rw (part_at x k 1 0 (omega arith), add-zero)

word_part : (x : List ℕ) (k : ℕ) → word x k ≡ word (take 4 (drop k x)) 0
word_part x k =
    rw (part_at x k 4 0 (omega arith), part_at x k 4 1 (omega arith), part_at x k 4 2 (omega arith), part_at x k 4 3 (omega arith), add-zero)

module _ (d : List ℕ) (at : ℕ) (s : List ℕ) (k : ℕ) (within : at ≤ length d) where
  pub put_other_part : (n : ℕ) → Apart k n at (length s) → take n (drop k (put_at d at s)) ≡ take n (drop k d)
  unfolding put_at
  put_other_part n (inl h) =
      let shorter : k + n ≤ length (take at d) = simp length-take-le h in
      rw (append_assoc, part_before (take at d) _ k n shorter)
      (sym (rw take-append-drop at (part_before (take at d) (drop at d) k n shorter)))
  put_other_part n (inr h) = ap (take n) (drop_beyond _ _ _ k h (put_tail d at s within))

  pub put_other_byte : Apart k 1 at (length s) → get_or (put_at d at s) k 0 ≡ get_or d k 0
  put_other_byte h = byte_part _ k ∙ ap (λ (p : List ℕ). get_or p 0 0) (put_other_part 1 h) ∙ sym (byte_part d k)

  pub put_other : Apart k 4 at (length s) → word (put_at d at s) k ≡ word d k
  put_other h = word_part _ k ∙ ap (λ (p : List ℕ). word p 0) (put_other_part 4 h) ∙ sym (word_part d k)

-- one store
pub put_byte : (d : List ℕ) (at b : ℕ) → at < length d → set d at b ≡ put_at d at (b ∷ [])
unfolding put_at
put_byte d at b h = sets-eq (b ∷ []) d at (omega arith)

-- ---- words

pub words_append : (ms ns : List ℕ) → words (ms ++ ns) ≡ words ms ++ words ns
unfolding words
words_append [] ns = refl
words_append (m ∷ ms) ns = rw (words_append ms ns)

pub put_read : (d : List ℕ) (at w : ℕ) (ns : List ℕ) → at ≤ length d → Small w → word (put_at d at (words (w ∷ ns))) at ≡ w
unfolding words
put_read d at w ns within small =
    word_part _ at ∙ ap (λ (p : List ℕ). word (take 4 p) 0) (put_drop d at (words (w ∷ ns)) within) ∙ four_bytes w small

-- the word number k of those written
pub put_read_each : (d : List ℕ) (at : ℕ) (ns : List ℕ) (k : ℕ) → at ≤ length d → k < length ns → Small (get_or ns k 0) → word (put_at d at (words ns)) (at + 4 * k) ≡ get_or ns k 0
put_read_each d at ns k within h small =
    let first = words (take k ns) in
    let later = drop (suc k) ns in
    let inside : k ≤ length ns = omega arith in
    let four : length first ≡ 4 * k = rw (length-take-le k ns) at (words_length (take k ns)) in
    let whole : ns ≡ take k ns ++ (get_or ns k 0 ∷ later) = split_at ns k 0 h in
    let split : words ns ≡ first ++ words (get_or ns k 0 ∷ later) = ap words whole ∙ words_append (take k ns) _ in
    rw (split, ← put_put d at first within (words (get_or ns k 0 ∷ later)), ← four)
    (put_read (put_at d at first) (at + length first) (get_or ns k 0) later (put_reaches d at first within) small)

-- ---- decimal

digits_one : (most n : ℕ) → n < 10 → digits (suc most) n ≡ (48 + n) ∷ []
unfolding digits test◌then◌else◌
digits_one most n h = rw lt-ltb

digits_more : (most n : ℕ) → 10 ≤ n → digits (suc most) n ≡ digits most (n / 10) ++ ((48 + n % 10) ∷ [])
unfolding digits test◌then◌else◌
digits_more most n h = rw le-ltb

-- that more digits were allowed changes nothing
digits_enough : (most n : ℕ) → n < 10 ^ suc most → digits (suc (suc most)) n ≡ digits (suc most) n
digits_enough zero n h = digits_one 1 n h ∙ sym (digits_one 0 n h)
digits_enough (suc most) n h =
    elim (dec_lt n 10) [
      | yes a ↦ digits_one _ n a ∙ sym (digits_one _ n a)
      | no a ↦
          let big : 10 ≤ n = omega arith in
          let fewer : n / 10 < 10 ^ suc most = omega (arith, pow-suc 10 (suc most)) in
          rw (digits_more (suc (suc most)) n big, digits_more (suc most) n big, digits_enough most (n / 10) fewer)
    ]

digits_length : (most n : ℕ) → (0 < most → 0 < length (digits most n)) × (length (digits most n) ≤ most)
unfolding digits
digits_length zero n = (λ h. omega arith, omega arith)
digits_length (suc most) n =
    elim (dec_lt n 10) [
      | yes a ↦ rw (digits_one most n a) (λ h. omega arith, omega arith)
      | no a ↦ rw (digits_more most n (omega arith), length-append) (λ h. omega arith, omega (arith, (digits_length most (n / 10)).1))
    ]

-- each byte is one of '0' to '9'
abbrev Digit : ℕ → Type 0
Digit b = (48 ≤ b) × (b ≤ 57)

digits_snoc : (s : List ℕ) (b : ℕ) → ((k : ℕ) → k < length s → Digit (get_or s k 0)) → Digit b → (k : ℕ) → k < length (s ++ (b ∷ [])) → Digit (get_or (s ++ (b ∷ [])) k 0)
digits_snoc s b each last k h =
    elim (dec_lt k (length s)) [
      | yes a ↦ rw get_or-append (each k a)
      | no a ↦ let e : k ≡ length s = omega (arith, rw length-append at h) in rw (e, get_or-append_seam) last
    ]

digits_byte : (most n k : ℕ) → k < length (digits most n) → Digit (get_or (digits most n) k 0)
unfolding digits
digits_byte zero n k = λ h. absurd (omega arith)
digits_byte (suc most) n k =
    elim (dec_lt n 10) [
      | yes a ↦ rw (digits_one most n a) (digits_snoc [] (48 + n) (λ j h. absurd (omega arith)) (omega arith, omega arith) k)
      | no a ↦ rw (digits_more most n (omega arith)) (digits_snoc (digits most (n / 10)) (48 + n % 10) (λ j. digits_byte most (n / 10) j) (omega arith, omega arith) k)
    ]

pub decimal_length : (n : ℕ) → (1 ≤ length (decimal n)) × (length (decimal n) ≤ 10)
unfolding decimal
decimal_length n = let l = digits_length 10 n in (l.0 (omega arith), l.1)

pub decimal_byte : (n k : ℕ) → k < length (decimal n) → (48 ≤ get_or (decimal n) k 0) × (get_or (decimal n) k 0 ≤ 57)
unfolding decimal
decimal_byte n k h = digits_byte 10 n k h

pub decimal_one : (n : ℕ) → n < 10 → decimal n ≡ (48 + n) ∷ []
unfolding decimal
decimal_one n h = digits_one 9 n h

pub decimal_more : (n : ℕ) → 10 ≤ n → Small n → decimal n ≡ decimal (n / 10) ++ ((48 + n % 10) ∷ [])
unfolding decimal
decimal_more n h small = rw (digits_more 9 n h, digits_enough 8 (n / 10) (omega arith))

pub decimal_longer : (n : ℕ) → 10 ≤ n → Small n → length (decimal n) ≡ length (decimal (n / 10)) + 1
decimal_longer n h small = rw (decimal_more n h small, length-append)

-- ---- texts

-- A byte string of the code, b"print", is the list of its bytes, and so is `bytes "print"`.
same_fixed : (t : List ℕ) → same_text t (112 ∷ 114 ∷ 105 ∷ 110 ∷ 116 ∷ []) ≡ same_text t (bytes "print")
unfolding bytes
same_fixed t = refl
