-- A type's text by the kind and the parts of its record, and what the functions that measure and write it need.
use Rattle.std.specs.Prelude.{◌≡◌, List, [], ◌∷◌, ◌++◌, ℕ, zero, suc, ◌<◌, ◌≤◌, min, eqb, ltb, length, get_or}
use Rattle.meaning.specs.Base.{bytes, choose, test◌then◌else◌}
use Rattle.meaning.specs.Types.{Ty, text}
use Rattle.types.specs.Table.{most_numbers}
use Rattle.types.specs.Reading.{Known, type_at}

-- ---- a text: what opens it, the parts with commas between them, what closes it

unfoldable pub opening : ℕ → List ℕ
opening k =
    bytes
    (choose k ""
    ((0, "Unknown")
    ∷ (1, "Int")
    ∷ (2, "Bool")
    ∷ (3, "String")
    ∷ (4, "Float")
    ∷ (5, "NoneType")
    ∷ (6, "Range")
    ∷ (7, "Function")
    ∷ (8, "List(")
    ∷ (9, "Dict(")
    ∷ (10, "Tuple([")
    ∷ (11, "MapIter(")
    ∷ (12, "FilterIter(")
    ∷ []))

unfoldable pub closing : ℕ → List ℕ
closing k = test ltb k 8 then [] else test eqb k 10 then bytes "])" else bytes ")"

-- what stands before part j
unfoldable pub comma : ℕ → List ℕ
comma zero = []
comma (suc j) = bytes ", "

-- the parts from j on
unfoldable pub listed : ℕ → List Ty → List ℕ
listed j [] = []
listed j (t ∷ ts) = comma j ++ text t ++ listed (suc j) ts

-- ---- lengths, counted up to a cap

unfoldable pub clipped : ℕ → ℕ → ℕ
clipped cap n = min n cap

-- the text of number i
unfoldable pub size_at : List ℕ → ℕ → ℕ → ℕ
size_at cs cap i = clipped cap (length (text (type_at cs i)))

-- the lengths of the texts of all numbers below n
pub record Sized (cs : List ℕ) (cap : ℕ) (lens : List ℕ) (n : ℕ) : Type 0 where
  pub long : n ≤ length lens
  pub each : (i : ℕ) → i < n → get_or lens i 0 ≡ size_at cs cap i

-- all numbers below n are known
pub record AllKnown (cs : List ℕ) (n : ℕ) : Type 0 where
  pub most : n ≤ most_numbers
  pub each : (i : ℕ) → i < n → Known cs i
