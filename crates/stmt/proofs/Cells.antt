-- The notes: what a refusal leaves of them, and ends that are told by them.
use mathlib.Core.Path.{◌≡◌, refl, sym, ◌∙◌}
use mathlib.Core.Bool.{Bool, true, false}
use mathlib.Core.List.{List}
use mathlib.Core.Logic.{◌⊎◌, inl, inr}
use mathlib.Core.Option.{none}
use Prim.Native.Nat.{ℕ}
use native.Mathlib.Omega.{arith}
use native.Mathlib.Decide.{ℕ_discrete}
use Rattle.std.specs.Prelude.{Ok, Err, is_err, IsErr, IsErrAnd}
use Rattle.meaning.specs.Base.{◌or◌, test◌then◌else◌}
use Rattle.meaning.specs.Types.{Ty}
use Rattle.meaning.specs.Image.{Name, nodes_from}
use Rattle.meaning.specs.Operators.{Checked}
use Rattle.meaning.specs.Walk.{Setting, End}
use Rattle.types.specs.Table.{Tab}
use Rattle.frames.specs.Env.{Rows, First, first_node}
use Rattle.state.specs.declared.Noted.{Noted}
use Rattle.state.specs.declared.Notes.{Notes}
use Rattle.state.specs.Notes.{code_in, since_in, Places, places, places_in, first_in, second_in, ret_in, top_in, tab_in, Kept, Refused}
use Rattle.state.specs.Answer.{Typed, Outcome, code_of, number_of, Settled}
use Rattle.state.proofs.Noting.{is_noted, settled_well, settled_ill}
use Rattle.expr.specs.Contract.{Done as Checks}
use Rattle.targets.proofs.Endings.{first_none}
use Rattle.targets.specs.Ending.{first_at, Assigned}
use Rattle.stmt.specs.declared.Stop.{Stop}
use Rattle.stmt.specs.declared.Stop.TheVariants.{Wrong, TooDeep}
use Rattle.stmt.specs.Contract.{state_of, body_at, armed_at, Answer, end_code, Tells, Refuses, Standing, Stmt, Done, Iterated}
use Rattle.stmt.proofs.Laws.{done_any, ready_nodes}

-- ---- the answers

pub end_well : {e : Answer} (code : ℕ) → e ≡ Ok (tt {0}) → end_code e code ≡ 0
end_well code o = rw o

-- it ended well, or with a typing refusal: no Def was too deep
pub end_shallow : {e : Answer} (code : ℕ) → (e ≡ Ok (tt {0})) ⊎ (e ≡ Err Wrong) → Refuses e code → end_code e code ≡ 9 → ⊥
end_shallow code (inl o) k z = let w = rw o at z in absurd (omega arith)
end_shallow code (inr o) k z = k.typing o (rw o at z)

-- what the exit of a `?` returns
pub stopped : (r : Answer) {s : Stop} → IsErrAnd r (λ e. e ≡ s) → r ≡ Err s
stopped (Ok v) h = absurd h
stopped (Err e) h = rw h

-- it stopped, whichever way
pub end_other : {s : Stop} {code : ℕ} → Refuses (Err s) code → end_code (Err s) code ≡ 0 → ⊥
end_other {s = Wrong} k z = k.coded refl z
end_other {s = TooDeep} k z = absurd (omega arith)

-- by whether it is an error
pub end_err : (e : Answer) {code : ℕ} → true ≡ is_err e → Refuses e code → end_code e code ≡ 0 → ⊥
end_err (Ok v) h k z = absurd (cc)
end_err (Err s) h k z = end_other k z

pub end_ok : (e : Answer) (code : ℕ) → false ≡ is_err e → end_code e code ≡ 0
end_ok (Ok v) code h = refl
end_ok (Err s) code h = absurd (cc)

-- what code and noted number tell, the first node's own number tells
pub points_at : (code : ℕ) (m : First) → (code ≡ 23) ⊎ (code ≡ 25) → first_node m ≡ first_at code m
unfolding first_at ◌or◌ test◌then◌else◌
points_at code m (inl z) = rw z
points_at code m (inr z) = rw z

pub points_nowhere : (code : ℕ) (m : First) → ((code ≡ 23) ⊎ (code ≡ 25) → ⊥) → none ≡ first_at code m
points_nowhere code m n = sym (first_none m (λ z. n (inl z), λ z. n (inr z)))

-- ---- what is told

pub tells_ok : {code : ℕ} {E : Type 0} → (E → ⊥) → Tells code E
tells_ok z = record { coded = λ e. absurd (z e); typing = λ e. absurd (z e) }

pub tells_kept : {ns ms : Notes} {D E : Type 0} → D → Kept ns ms D → (code_in ms ≡ 9 → ⊥) → Tells (code_in ms) E
tells_kept d k f = record { coded = λ _. k.coded d; typing = λ _. f }

-- by an answer that cannot need a frame
pub tells_typing : {ns ms : Notes} (o : Outcome) → Kept ns ms (IsErr o) → (code_of o ms ≡ 9 → ⊥) → Tells (code_in ms) (IsErr o)
tells_typing {ms = ms} o k f = record { coded = k.coded; typing = λ e z. f (rw (is_noted o e) z) }

pub tells_refused : {ns ms : Notes} {code place a b : ℕ} {E : Type 0} → (code ≡ 0 → ⊥) → (code ≡ 9 → ⊥) → Refused ns ms code place a b → Tells (code_in ms) E
tells_refused z n f = record { coded = λ e o. z (sym f.coded ∙ o); typing = λ e o. n (sym f.coded ∙ o) }

-- ---- an answer by cases

-- an expression has a type
pub checks_ok : {ws : List Name} {c : Checked} {t u : Tab} {st su : List ℕ} {sp i e M place a b n : ℕ} (ms : Notes) {q : Typed} → q ≡ Ok n
    → Checks ws c t u st su sp i e M (code_of q ms) place (number_of q) a b → Checks ws c t u st su sp i e M 0 place n a b
checks_ok ms o d = rw o at d

pub assigned_ok : {ws : List Name} {r : Ty → End} {t u : Tab} {gs : Rows} {top : ℕ} {su : List ℕ} {i e M : ℕ} {place : Places} {a b : ℕ} (ms : Notes) {o : Outcome} → o ≡ Ok (tt {0})
    → Assigned ws r t u gs top su i e M (code_of o ms) place a b → Assigned ws r t u gs top su i e M 0 place a b
assigned_ok ms o d = rw o at d

pub iterated_ok : {bs : List ℕ} {d : ℕ} {t u : Tab} {fs : Rows} {top : ℕ} {su : List ℕ} {i e M : ℕ} {place : Places} {a b n : ℕ} (ms : Notes) {q : Typed} → q ≡ Ok n
    → Iterated bs d t u fs top su i e M (code_of q ms) place (number_of q) a b → Iterated bs d t u fs top su i e M 0 place n a b
iterated_ok ms o d = rw o at d

-- ---- the same with equal numbers

pub standing_nodes : {bs : List ℕ} {nodes from : ℕ} {fs : Rows} {top : ℕ} {t : Tab} {st : List ℕ} {ret i e : ℕ}
    → from ≡ nodes_from bs → Standing bs nodes fs top t st ret i e → Standing bs from fs top t st ret i e
standing_nodes o r = record { ready = ready_nodes o r.ready; kept = r.kept }

pub refused_from : {ns ms : Notes} {code place a b x : ℕ} → a ≡ x → Refused ns ms code place a b → Refused ns ms code place x b
refused_from e f = rw e at f

pub refused_at : {ns ms : Notes} {code place a b x : ℕ} → place ≡ x → Refused ns ms code place a b → Refused ns ms code x a b
refused_at e f = rw e at f

-- at an equal node
pub stmt_at_lem : {bs : List ℕ} {i j d k : ℕ} → j ≡ i → Stmt bs i d k → Stmt bs j d k
stmt_at_lem o q = rw o q

pub standing_as : {bs : List ℕ} {nodes : ℕ} {fs : Rows} {top w : ℕ} {t : Tab} {st : List ℕ} {ret got i e : ℕ}
    → w ≡ top → got ≡ ret → Standing bs nodes fs top t st ret i e → Standing bs nodes fs w t st got i e
standing_as p q r = rw (p, q) r

-- a body, and a branch, that was walked from an equal state
pub body_from : (bs : List ℕ) (setting : Setting) (loop drops : Bool) (d k : ℕ) {ws : List Name} {t u : Tab} (fs : Rows) {gs : Rows} {top w high ret had got : ℕ} {su : List ℕ} {i e M code : ℕ} {place : Places} {a b : ℕ}
    → w ≡ top → had ≡ ret
    → Done ws (body_at bs setting loop drops d k (state_of t fs w had)) t u gs w high got su i e M code place a b
    → Done ws (body_at bs setting loop drops d k (state_of t fs top ret)) t u gs top high got su i e M code place a b
body_from bs setting loop drops l k fs p q d = rw (← p, ← q) d

pub armed_from : (bs : List ℕ) (setting : Setting) (loop : Bool) (d n i : ℕ) {ws : List Name} {t u : Tab} (fs : Rows) {gs : Rows} {top w high : ℕ} (ret : ℕ) {got : ℕ} {su : List ℕ} {k e M code : ℕ} {place : Places} {a b : ℕ}
    → w ≡ top → Done ws (armed_at bs setting loop d n i (state_of t fs w ret)) t u gs w high got su k e M code place a b
    → Done ws (armed_at bs setting loop d n i (state_of t fs top ret)) t u gs top high got su k e M code place a b
armed_from bs setting loop l n i fs ret o d = rw (← o) d

pub done_ends : {ws : List Name} {r : End} {t u : Tab} {gs : Rows} {top high peak ret got : ℕ} {su : List ℕ} {i e M code : ℕ} {place : Places} {a b : ℕ}
    → peak ≡ high → got ≡ ret → Done ws r t u gs top high ret su i e M code place a b → Done ws r t u gs top peak got su i e M code place a b
done_ends p q d = rw (p, q) d

-- ---- a refusal is noted

module _ {ns ms : Notes} {code n a b : ℕ} (f : Refused ns ms code n a b) where
  -- by an answer that has its own code
  pub done_noted : {ws : List Name} {r : End} {t : Tab} {cells : List ℕ} {gs : Rows} {top : ℕ} {su : List ℕ} {i e M : ℕ}
      → Done ws r t (tab_in cells ns) gs top (top_in ns) (ret_in ns) su i e M code (places n (since_in ms)) a b
      → Done ws r t (tab_in cells ms) gs top (top_in ms) (ret_in ms) su i e M code (places_in ms) (first_in ms) (second_in ms)
  done_noted d = rw (f.counts, f.top, f.ret, f.placed, f.first, f.second) d

  pub done_refused : {ws : List Name} {r : End} {t : Tab} {cells : List ℕ} {gs : Rows} {top : ℕ} {su : List ℕ} {i e M : ℕ}
      → Done ws r t (tab_in cells ns) gs top (top_in ns) (ret_in ns) su i e M code (places n (since_in ms)) a b
      → Done ws r t (tab_in cells ms) gs top (top_in ms) (ret_in ms) su i e M (code_in ms) (places_in ms) (first_in ms) (second_in ms)
  done_refused d = rw f.coded (done_noted d)

  pub iterated_refused : {bs : List ℕ} {d : ℕ} {t : Tab} {cells : List ℕ} {fs : Rows} {top : ℕ} {su : List ℕ} {i e M number : ℕ}
      → Iterated bs d t (tab_in cells ns) fs top su i e M code (places n (since_in ms)) number a b
      → Iterated bs d t (tab_in cells ms) fs top su i e M (code_in ms) (places_in ms) number (first_in ms) (second_in ms)
  iterated_refused d = rw (f.counts, f.coded, f.placed, f.first, f.second) d

-- ---- Break and Continue

pub outside_well : {ns : Notes} (loop : Bool) (code : ℕ) {i : ℕ} → loop ≡ true → Settled ns ns (Ok (tt {0})) (tt {0}) (test loop then 0 else code) i 0 0
unfolding test◌then◌else◌
outside_well loop code e = rw e settled_well

pub outside_ill : {ns ms : Notes} (loop : Bool) {code i : ℕ} {e : Noted} → (code ≡ 0 → ⊥) → loop ≡ false → Refused ns ms code i 0 0
    → Settled ns ms (Err e) (tt {0}) (test loop then 0 else code) i 0 0
unfolding test◌then◌else◌
outside_ill loop z o f = rw o (settled_ill z f)

outside_typing : (loop : Bool) (code : ℕ) → (code ≡ 9 → ⊥) → (test loop then 0 else code) ≡ 9 → ⊥
unfolding test◌then◌else◌
outside_typing true code n z = absurd (omega arith)
outside_typing false code n z = n z

module _ {ns ms : Notes} {o : Outcome} {code place : ℕ} (s : Settled ns ms o (tt {0}) code place 0 0) where
  -- the statement ended as it was decided
  pub done_settled : {ws : List Name} {r : End} {t : Tab} {cells : List ℕ} {gs : Rows} {top : ℕ} {su : List ℕ} {i e M : ℕ}
      → Done ws r t (tab_in cells ns) gs top (top_in ns) (ret_in ns) su i e M code (places place (since_in ms)) 0 0
      → Done ws r t (tab_in cells ms) gs top (top_in ms) (ret_in ms) su i e M (code_of o ms) (places_in ms) (first_in ms) (second_in ms)
  done_settled d = elim (ℕ_discrete code 0) [
    | yes z ↦ rw ((s.well z).0, (s.well z).1) (done_any z refl d)
    | no z ↦ rw (s.ill z).0 (done_refused (s.ill z).1 d)
  ]

  tells_settled : (code ≡ 9 → ⊥) → Tells (code_in ms) (IsErr o)
  tells_settled y = elim (ℕ_discrete code 0) [
    | yes z ↦ rw (s.well z).0 (tells_ok (λ e. cc))
    | no z ↦ tells_refused z y (s.ill z).1
  ]

pub tells_outside : {ns ms : Notes} {o : Outcome} (loop : Bool) (code : ℕ) {place : ℕ} → Settled ns ms o (tt {0}) (test loop then 0 else code) place 0 0
    → (code ≡ 9 → ⊥) → Tells (code_in ms) (IsErr o)
tells_outside loop code s y = tells_settled s (outside_typing loop code y)
