-- Words and records of words read back.
use mathlib.Core.Path.{◌≡◌, refl}
use mathlib.Core.List.{List, [], ◌∷◌, ◌++◌}
use Prim.Native.Nat.{ℕ, ◌+◌, ◌*◌, ◌/◌, ◌%◌, ◌<◌}
use native.Mathlib.Omega.{arith}
use lib.ListN.{length}
use Rattle.meaning.specs.Base.{word, words, records}
use Rattle.meaning.specs.Sheet.{Triple, laid}
use Rattle.meaning.specs.Read.{triple}

abbrev pub Small : ℕ → Type 0
Small n = n < 4294967296

pub four_bytes : (n : ℕ) → Small n → n % 256 + 256 * (n / 256 % 256) + 65536 * (n / 256 / 256 % 256) + 16777216 * (n / 256 / 256 / 256 % 256) ≡ n
four_bytes n h = omega arith

abbrev pub Smalls : List ℕ → Type 0
Smalls [] = Unit {0}
Smalls (n ∷ ns) = Small n × Smalls ns

abbrev pub Small3s : List Triple → Type 0
Small3s [] = Unit {0}
Small3s (r ∷ rs) = (Small r.0 × Small r.1 × Small r.2) × Small3s rs

pub words_length : (ns : List ℕ) → length (words ns) ≡ 4 * length ns
unfolding words
words_length [] = refl
words_length (n ∷ ns) = omega (arith, words_length ns)

pub laid_many : (rs : List Triple) → length (laid rs) ≡ 3 * length rs
unfolding laid
laid_many [] = refl
laid_many (r ∷ rs) = omega (arith, laid_many rs)

pub laid_length : (rs : List Triple) → length (words (laid rs)) ≡ 12 * length rs
laid_length rs = omega (arith, words_length (laid rs), laid_many rs)

pub words_read : (ns rest : List ℕ) → Smalls ns → records (λ r. word r 0) 4 (length ns) (words ns ++ rest) ≡ ns
unfolding words records
words_read [] rest s = refl
words_read (n ∷ ns) rest s = rw (four_bytes n s.0, words_read ns rest s.1)

pub triples_read : (rs : List Triple) (rest : List ℕ) → Small3s rs → records triple 12 (length rs) (words (laid rs) ++ rest) ≡ rs
unfolding words laid records triple
triples_read [] rest s = refl
triples_read (r ∷ rs) rest s =
    rw (four_bytes r.0 s.0.0, four_bytes r.1 s.0.1, four_bytes r.2 s.0.2, triples_read rs rest s.1)

-- the same, by a count and a place that are known to be the right ones
pub words_at : (n : ℕ) (ns bs rest : List ℕ) → length ns ≡ n → bs ≡ words ns ++ rest → Smalls ns → records (λ r. word r 0) 4 n bs ≡ ns
words_at n ns bs rest e q s = rw (← e, q) (words_read ns rest s)

pub triples_at : (n : ℕ) (rs : List Triple) (bs rest : List ℕ) → length rs ≡ n → bs ≡ words (laid rs) ++ rest → Small3s rs → records triple 12 n bs ≡ rs
triples_at n rs bs rest e q s = rw (← e, q) (triples_read rs rest s)
