-- The types of the check (T's Ty): when two are equal, a type's kind and parts, and its text.
use Rattle.std.specs.Prelude.{Bool, true, false, List, [], ◌∷◌, ◌++◌, ℕ, get_or}
use Rattle.meaning.specs.Base.{◌or◌, test◌then◌else◌, bytes, all}

infixr 60 ◌⊕◌
mutual
  pub data Ty : Type 0 where
    unknown int bool string float nonetype range function : Ty
    list : Ty → Ty
    dict : Ty → Ty → Ty
    tuple : Tys → Ty
    map_iter filter_iter : Ty → Ty
    deriving Discrete as Ty-discrete

  -- a Tuple's elements
  pub data Tys : Type 0 where
    no_types : Tys
    ◌⊕◌ : Ty → Tys → Tys
    deriving Discrete as Tys-discrete

unfoldable pub elements : Tys → List Ty
elements no_types = []
elements (t ⊕ ts) = t ∷ elements ts

unfoldable pub tys : List Ty → Tys
tys [] = no_types
tys (t ∷ ts) = t ⊕ tys ts

-- T's ==
unfoldable pub same : Ty → Ty → Bool
same a b = elim (Ty-discrete a b) [ yes p ↦ true | no q ↦ false ]

-- a is t, or Unknown
unfoldable pub maybe : Ty → Ty → Bool
maybe t a = same a t or same a unknown

-- ---- kinds: "0 Unknown, 1 Int, 2 Bool, 3 String, 4 Float, 5 NoneType, 6 Range, 7 Function", 8 List, 9 Dict, 10 Tuple, 11 MapIter,
-- 12 FilterIter

unfoldable pub kind : Ty → ℕ
kind unknown = 0
kind int = 1
kind bool = 2
kind string = 3
kind float = 4
kind nonetype = 5
kind range = 6
kind function = 7
kind (list t) = 8
kind (dict k v) = 9
kind (tuple ts) = 10
kind (map_iter t) = 11
kind (filter_iter t) = 12

-- the plain types: below 8 the kind is the whole type
unfoldable pub plain : ℕ → Ty
plain k = get_or (unknown ∷ int ∷ bool ∷ string ∷ float ∷ nonetype ∷ range ∷ function ∷ []) k unknown

unfoldable pub parts : Ty → List Ty
parts unknown = []
parts int = []
parts bool = []
parts string = []
parts float = []
parts nonetype = []
parts range = []
parts function = []
parts (list t) = t ∷ []
parts (dict k v) = k ∷ v ∷ []
parts (tuple ts) = elements ts
parts (map_iter t) = t ∷ []
parts (filter_iter t) = t ∷ []

unfoldable pub part : ℕ → Ty → Ty
part i t = get_or (parts t) i unknown

-- the type that all share, or Unknown
unfoldable pub common : List Ty → Ty
common [] = unknown
common (t ∷ ts) = test all (same t) ts then t else unknown

-- ---- "types in Rust's Debug form: `Dict(String, Int)`, `Tuple([])`"

unfoldable mutual
  pub text : Ty → List ℕ
  text unknown = bytes "Unknown"
  text int = bytes "Int"
  text bool = bytes "Bool"
  text string = bytes "String"
  text float = bytes "Float"
  text nonetype = bytes "NoneType"
  text range = bytes "Range"
  text function = bytes "Function"
  text (list t) = bytes "List(" ++ text t ++ bytes ")"
  text (dict k v) = bytes "Dict(" ++ text k ++ bytes ", " ++ text v ++ bytes ")"
  text (tuple ts) = bytes "Tuple([" ++ texts ts ++ bytes "])"
  text (map_iter t) = bytes "MapIter(" ++ text t ++ bytes ")"
  text (filter_iter t) = bytes "FilterIter(" ++ text t ++ bytes ")"

  pub texts : Tys → List ℕ
  texts no_types = []
  texts (t ⊕ ts) = text t ++ others ts

  pub others : Tys → List ℕ
  others no_types = []
  others (t ⊕ ts) = bytes ", " ++ text t ++ others ts

unfoldable pub types_open : Unit {0}
unfolding elements tys same maybe kind plain parts part common text
types_open = tt
