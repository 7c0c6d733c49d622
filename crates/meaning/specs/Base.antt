-- What every other file uses: choices, texts, and words of four bytes.
use Rattle.std.specs.Prelude.{Bool, true, false, List, [], ◌∷◌, ◌++◌, ℕ, zero, suc, ◌+◌, ◌*◌, ◌/◌, ◌%◌, eqb, ltb, get_or, drop}
use Rattle.std.proofs.Math.Option.{Option, none, some}
use Prim.Native.String.{String}
use Prim.Native.String as S
use Prim.Native.Char.{code}

-- ---- choices

infixl 35 ◌and◌
infixl 30 ◌or◌
unfoldable pub ◌and◌ : Bool → Bool → Bool
true and b = b
false and b = false

unfoldable pub ◌or◌ : Bool → Bool → Bool
true or b = true
false or b = b

-- An argument is computed whether it is needed or not, and a `let` is not: so a branch that recurs is bound by a `let` first.
infix 5 test◌then◌else◌
unfoldable pub test◌then◌else◌ {ℓ} : {A : Type ℓ} → Bool → A → A → A
test◌then◌else◌ true a b = a
test◌then◌else◌ false a b = b

-- the row of k, and d where k has none
unfoldable pub choose {ℓ} : {A : Type ℓ} → ℕ → A → List (ℕ × A) → A
choose k d [] = d
choose k d (r ∷ rs) = let later = choose k d rs in test eqb k r.0 then r.1 else later

-- f of what is there, and b where nothing is
unfoldable pub if_some {ℓ κ} : {A : Type ℓ} {B : Type κ} → Option A → (A → B) → B → B
if_some none f b = b
if_some (some a) f b = f a

unfoldable pub or_else {ℓ} : {A : Type ℓ} → Option A → A → A
or_else none d = d
or_else (some a) d = a

unfoldable pub is_in : ℕ → List ℕ → Bool
is_in k [] = false
is_in k (x ∷ xs) = eqb k x or is_in k xs

unfoldable pub all {ℓ} : {A : Type ℓ} → (A → Bool) → List A → Bool
all f [] = true
all f (x ∷ xs) = let later = all f xs in f x and later

-- from, from + 1, ..: n numbers
unfoldable pub count : ℕ → ℕ → List ℕ
count i zero = []
count i (suc n) = i ∷ count (suc i) n

-- ---- texts are lists of bytes

unfoldable pub bytes : String → List ℕ
bytes S.[] = []
bytes (S.◌∷◌ c s) = code c ∷ bytes s

unfoldable pub same_text : List ℕ → List ℕ → Bool
same_text [] [] = true
same_text [] (y ∷ ys) = false
same_text (x ∷ xs) [] = false
same_text (x ∷ xs) (y ∷ ys) = let later = same_text xs ys in eqb x y and later

unfoldable pub is_one_of : List ℕ → List String → Bool
is_one_of s [] = false
is_one_of s (t ∷ ts) = same_text s (bytes t) or is_one_of s ts

-- the first comes before the second, as byte strings
unfoldable pub before : List ℕ → List ℕ → Bool
before xs [] = false
before [] (y ∷ ys) = true
before (x ∷ xs) (y ∷ ys) = let later = before xs ys in test eqb x y then later else ltb x y

-- at most so many digits
unfoldable pub digits : ℕ → ℕ → List ℕ
digits zero n = []
digits (suc most) n =
    let higher = digits most (n / 10) in test ltb n 10 then (48 + n) ∷ [] else higher ++ ((48 + n % 10) ∷ [])

-- a u32 in decimal: it has no more than ten digits
unfoldable pub decimal : ℕ → List ℕ
decimal n = digits 10 n

-- ---- words: "all numbers are u32, little-endian"

abbrev pub word : List ℕ → ℕ → ℕ
word bs k = get_or bs k 0 + 256 * get_or bs (k + 1) 0 + 65536 * get_or bs (k + 2) 0 + 16777216 * get_or bs (k + 3) 0

unfoldable pub words : List ℕ → List ℕ
words [] = []
words (n ∷ ns) = n % 256 ∷ n / 256 % 256 ∷ n / 256 / 256 % 256 ∷ n / 256 / 256 / 256 % 256 ∷ words ns

-- n records of so many bytes, one after the other
unfoldable pub records {ℓ} : {A : Type ℓ} → (List ℕ → A) → ℕ → ℕ → List ℕ → List A
records read size zero bs = []
records read size (suc n) bs = read bs ∷ records read size n (drop size bs)

-- Each file ends with such a name: to unfold it is to unfold the file.
unfoldable pub base_open : Unit {0}
unfolding ◌and◌ ◌or◌ test◌then◌else◌ choose if_some or_else is_in all count bytes same_text is_one_of before digits decimal words records
base_open = tt
