-- About runs of `steady`, from its promise: no second outcome fits, and when a program has no Def inside an If. Assumes nothing.
use mathlib.Core.Path.{◌≡◌, refl, sym, ap, ◌∙◌}
use mathlib.Core.Logic.{◌↔◌}
use mathlib.Core.List.{List, [], ◌∷◌}
use mathlib.Core.Option.{Option, none, some, none-ne-some, some-injective}
use Prim.Native.Nat.{ℕ}
use native.Mathlib.Omega.{arith}
use Rattle.std.specs.Prelude.{Result, Ok, Err}
use Rattle.std.specs.Prelude.{Option as Found, Some, None}
use Rattle.meaning.specs.Base.{if_some}
use Rattle.meaning.specs.Image.{image_fault, nodes_of}
use Rattle.meaning.specs.Image.{Fault as FaultMeant}
use Rattle.meaning.specs.Image.{Node as ImageNode}
use Rattle.meaning.specs.Decode.{tree_of}
use Rattle.meaning.specs.Known.{defs_in_ifs, NoDefInIf, steady, def_in_if, faulty, steady_by, steadiness}
use Rattle.meaning.specs.Known.{Steadiness as Meant}
use Rattle.meaning.proofs.Faults.{Sound, sound}
use Rattle.image.specs.Outcome.{fault_in}
use Rattle.image.specs.declared.Fault.{Fault}
use Rattle.image.proofs.Answers.{fault_in_injective}
use Rattle.steady.specs.declared.Def.{Def}
use Rattle.steady.specs.Told.{told_of, meant}

-- what `steady` hands out
abbrev pub Steadiness : Type 0
Steadiness = Result (Found Def) Fault

-- ---- the steadiness of bytes, by whether they are an image

pub steadiness_sound : {bs : List ℕ} → Sound bs → steadiness bs ≡ steady_by (nodes_of bs) (defs_in_ifs (tree_of (nodes_of bs)))
unfolding steadiness if_some
steadiness_sound {bs} s = rw ((sound bs).1 s)

pub steadiness_faulty : (bs : List ℕ) (f : FaultMeant) → image_fault bs ≡ some f → steadiness bs ≡ faulty f
unfolding steadiness if_some
steadiness_faulty bs f e = rw e

-- ---- no second outcome fits

-- the Def that is told of, and the fault
abbrev def_in : Meant → Found Def
def_in steady = None
def_in (def_in_if n b e) = Some (record { node = n; begins = b; ends = e })
def_in (faulty f) = None

abbrev fault_told : Meant → Option FaultMeant
fault_told steady = none
fault_told (def_in_if n b e) = none
fault_told (faulty f) = some f

def_back : (o : Found Def) → def_in (told_of o) ≡ o
def_back None = refl
def_back (Some d) = refl

no_fault : (o : Found Def) → fault_told (told_of o) ≡ none
no_fault None = refl
no_fault (Some d) = refl

-- answers that mean the same are equal
meant_injective : (r q : Steadiness) → meant r ≡ meant q → r ≡ q
meant_injective (Ok a) (Ok b) e = ap Ok (sym (def_back a) ∙ ap def_in e ∙ def_back b)
meant_injective (Ok a) (Err g) e = absurd (none-ne-some _ (sym (no_fault a) ∙ ap fault_told e))
meant_injective (Err f) (Ok b) e = absurd (none-ne-some _ (sym (no_fault b) ∙ ap fault_told (sym e)))
meant_injective (Err f) (Err g) e = ap Err (fault_in_injective (some-injective _ _ (ap fault_told e)))

-- Two answers that both meet the promise of `steady` are equal. (False of a promise that lets it tell any Def inside an If, and not the first, or
-- that lets it call a well-formed image faulty.)
pub one_steadiness : (bs : List ℕ) (r q : Steadiness) → meant r ≡ steadiness bs → meant q ≡ steadiness bs → r ≡ q
one_steadiness bs r q p s = meant_injective r q (p ∙ sym s)

-- ---- what is told of a program that has none

first_none : (ds : List ImageNode) (ns : List ℕ) → steady_by ds ns ≡ steady → ns ≡ []
unfolding steady_by
first_none ds [] e = refl
first_none ds (n ∷ ns) e = absurd (cc)

pub steadiness_exactly : (bs : List ℕ) → (steadiness bs ≡ steady) ↔ (Sound bs × NoDefInIf (tree_of (nodes_of bs)))
unfolding steady_by
steadiness_exactly bs = (λ e. by e (image_fault bs) refl, λ p. steadiness_sound p.0 ∙ ap (steady_by (nodes_of bs)) p.1)
  where
    by : steadiness bs ≡ steady → (o : Option FaultMeant) → image_fault bs ≡ o → Sound bs × NoDefInIf (tree_of (nodes_of bs))
    by e none h = let s = (sound bs).0 h in (s, first_none (nodes_of bs) _ (sym (steadiness_sound s) ∙ e))
    by e (some f) h = let k = steadiness_faulty bs f h in absurd (cc)

-- `steady` answers Ok(None) exactly for a well-formed image with no Def anywhere inside an If
pub steady_exactly : (bs : List ℕ) (r : Steadiness) → meant r ≡ steadiness bs → (r ≡ Ok None) ↔ (Sound bs × NoDefInIf (tree_of (nodes_of bs)))
steady_exactly bs r p = (
  λ e. (steadiness_exactly bs).0 (sym p ∙ ap meant e),
  λ h. meant_injective r (Ok None) (p ∙ (steadiness_exactly bs).1 h),
)
