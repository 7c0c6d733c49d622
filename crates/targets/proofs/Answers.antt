-- What a target's answer says of the notes.
use mathlib.Core.Path.{refl}
use mathlib.Core.List.{List}
use Prim.Native.Nat.{ℕ}
use native.Mathlib.Decide.{ℕ_discrete}
use Rattle.std.specs.Prelude.{IsErr}
use Rattle.meaning.specs.Types.{Ty}
use Rattle.meaning.specs.Image.{Name}
use Rattle.meaning.specs.Walk.{End}
use Rattle.types.specs.Table.{Tab}
use Rattle.frames.specs.Env.{Rows}
use Rattle.state.specs.declared.Notes.{Notes}
use Rattle.state.specs.Notes.{since_in, places, places_in, first_in, second_in, tab_in, Kept}
use Rattle.state.specs.Answer.{Outcome, code_of, Settled}
use Rattle.state.proofs.Noting.{settled_kept}
use Rattle.targets.specs.Ending.{Assigned}
use Rattle.targets.proofs.Endings.{assigned_well, assigned_noted}

-- a target ended as it was decided
pub settled_ends : {ns ms : Notes} {o : Outcome} {code n a b : ℕ} {ws : List Name} {r : Ty → End} {t : Tab} {cells : List ℕ} {gs : Rows} {top : ℕ} {su : List ℕ} {i e M : ℕ}
    → Settled ns ms o tt code n a b → Assigned ws r t (tab_in cells ns) gs top su i e M code (places n (since_in ms)) a b
    → Assigned ws r t (tab_in cells ms) gs top su i e M (code_of o ms) (places_in ms) (first_in ms) (second_in ms) × Kept ns ms (IsErr o)
settled_ends {code = code} s x = (
  elim (ℕ_discrete code 0) [
    | yes z ↦ rw ((s.well z).0, (s.well z).1) (assigned_well z refl x)
    | no z ↦ rw (s.ill z).0 (assigned_noted x (s.ill z).1)
  ],
  settled_kept s,
)
