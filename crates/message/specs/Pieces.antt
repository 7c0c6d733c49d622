-- What a message names, as the code holds it, and T's format string with it put in.
use Rattle.std.specs.Prelude.{◌≡◌, List, [], ◌∷◌, ◌++◌, ℕ, ◌+◌, ◌≤◌, ◌<◌, eqb, length, get_or, take, drop}
use Rattle.meaning.specs.Base.{test◌then◌else◌, bytes, decimal}
use Rattle.meaning.specs.Types.{text}
use Rattle.types.specs.Reading.{type_at}
use Rattle.message.specs.Texts.{AllKnown, clipped, Sized}
use Rattle.message.specs.declared.Piece.{Piece}
use Rattle.message.specs.declared.Piece.TheVariants.{Nothing, OfType, OfText, OfNumber, OfRange, OfAny}
use Rattle.message.specs.declared.Message.{Message}

-- ---- one byte of a format string: 95 is `_`

-- what stands for byte c, where s is the next piece
unfoldable pub one : ℕ → List ℕ → List ℕ
one c s = test eqb c 95 then s else c ∷ []

-- ---- one piece: bs is the image, cs are the cells of the table

unfoldable pub meant : List ℕ → List ℕ → Piece → List ℕ
meant bs cs Nothing = []
meant bs cs (OfType i) = text (type_at cs i)
meant bs cs (OfText s l) = take l (drop s bs)
meant bs cs (OfNumber n) = decimal n
meant bs cs (OfRange p q) = decimal p ++ bytes "-" ++ decimal q
meant bs cs OfAny = bytes "any"

-- a type is among the first n numbers, and a text lies within the image
unfoldable pub Stands : List ℕ → ℕ → Piece → Type 0
Stands bs n Nothing = Unit {0}
Stands bs n (OfType i) = i < n
Stands bs n (OfText s l) = s + l ≤ length bs
Stands bs n (OfNumber m) = Unit {0}
Stands bs n (OfRange p q) = Unit {0}
Stands bs n OfAny = Unit {0}

-- a type that is named is one of the n numbers whose lengths there is room for
unfoldable pub Small : ℕ → Piece → Type 0
Small n Nothing = Unit {0}
Small n (OfType i) = i < n
Small n (OfText s l) = Unit {0}
Small n (OfNumber m) = Unit {0}
Small n (OfRange p q) = Unit {0}
Small n OfAny = Unit {0}

-- r counts as the length of s
pub record CountsAs (cap r : ℕ) (s : List ℕ) : Type 0 where
  pub same : clipped cap r ≡ clipped cap (length s)

-- by the lengths of all types that may be named, r counts as the length of the piece
pub record CountsPiece (lens : List ℕ) (p : Piece) (r : ℕ) : Type 0 where
  pub says : (bs cs : List ℕ) (cap n : ℕ) → Stands bs n p → Sized cs cap lens n → CountsAs cap r (meant bs cs p)

-- a piece that names no type, and means s
pub record Says (bs s : List ℕ) (p : Piece) : Type 0 where
  pub stands : (n : ℕ) → Stands bs n p
  pub means : (cs : List ℕ) → meant bs cs p ≡ s

-- ---- all of them

abbrev pub nth : List Piece → ℕ → Piece
nth ps k = get_or ps k Nothing

-- they stand, and the first n numbers, among which are all that they name, are known
pub record Ready (bs cs : List ℕ) (n : ℕ) (ps : List Piece) : Type 0 where
  pub each : (k : ℕ) → Stands bs n (nth ps k)
  pub known : AllKnown cs n

-- ---- a format string with its pieces put in

-- the number of the next piece after byte c
unfoldable pub after : ℕ → ℕ → ℕ
after c k = test eqb c 95 then k + 1 else k

unfoldable pub filled : List ℕ → ℕ → (ℕ → List ℕ) → List ℕ
filled [] k f = []
filled (c ∷ cs) k f = one c (f k) ++ filled cs (after c k) f

unfoldable pub put_in : List ℕ → List ℕ → List Piece → List ℕ → List ℕ
put_in bs cs ps format = filled format 0 (λ k. meant bs cs (nth ps k))

-- how many pieces a format string takes
unfoldable pub gaps : List ℕ → ℕ
gaps [] = 0
gaps (c ∷ cs) = test eqb c 95 then gaps cs + 1 else gaps cs

-- ---- a message

-- its pieces are ready, and as many as its format string takes
pub record IsReady (m : Message) : Type 0 where
  pub ready : Ready m.image.now m.table.now m.types m.pieces.now
  pub many : gaps m.format.now ≡ length m.pieces.now

-- what stands for its piece k
abbrev pub piece_text : Message → ℕ → List ℕ
piece_text m k = meant m.image.now m.table.now (nth m.pieces.now k)

abbrev pub whole_text : Message → List ℕ
whole_text m = put_in m.image.now m.table.now m.pieces.now m.format.now
