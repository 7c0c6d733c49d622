-- "At most one new type is formed per node, so no more than 8 plus M distinct types ever exist", of the walk that `check` makes. A type
-- gets its number in the walk's table when it is formed, and the table forgets nothing; so the bound holds at the end and before it, in
-- bodies whose errors are dropped, and where a ninth frame ends the walk. (False of a walk that forms a List for each of its elements.)
use mathlib.Core.Path.{◌≡◌, sym, ap, ◌∙◌}
use mathlib.Core.Logic.{⊎_elim}
use mathlib.Core.Option.{some, none-ne-some, some-injective}
use mathlib.Core.List.Memᴰ
use mathlib.Core.List.{List, [], ◌∷◌, map, Memᴰ}
use Prim.Native.Nat.{ℕ, zero, suc, ◌+◌, ◌≤◌}
use native.Mathlib.Omega.{arith}
use native.Mathlib.Decide.{ℕ_discrete}
use lib.ListN.{length, get_or, length-map}
use Rattle.meaning.specs.Base.{count}
use Rattle.meaning.specs.Types.{Ty}
use Rattle.meaning.specs.Image.{node_count, names_of}
use Rattle.meaning.specs.Frames.{Binding, binding, Frame}
use Rattle.meaning.specs.Walk.{Setting}
use Rattle.meaning.specs.Answer.{walked}
use Rattle.meaning.proofs.Choices.{count_long}
use Rattle.types.specs.Table.{Tab, Grown, denote}
use Rattle.frames.specs.Env.{Rows, type_in, node_in, node_from, slot_as, frame_of, below, frames_of, Fit}
use Rattle.state.specs.Notes.{Places}
use Rattle.targets.proofs.Endings.{ended_well, ended_deep, ended_wrong}
use Rattle.stmt.specs.Contract.{Started, Ran}
use Rattle.checker.specs.Module.{frames_at}
use Rattle.checker.proofs.Limited.{in_count}

-- the types that have a number
abbrev pub formed : Tab → List Ty
formed t = map (denote t) (count 0 t.n)

-- ---- a frame's types have numbers

row_formed : (t : Tab) (row : List ℕ) → ((x : ℕ) → type_in (get_or row x 0) ≤ t.n) → (b : Binding) → Memᴰ (some b) (frame_of t row)
    → Memᴰ b.type (formed t)
unfolding frame_of slot_as
row_formed t [] k b m = absurd (Memᴰ.not-nil m)
row_formed t (c ∷ row) k b m =
    ⊎_elim (λ e. here (type_in c) (node_in c) (k 0) e) (λ r. row_formed t row (λ x. k (suc x)) b r) (Memᴰ.cases_cons m)
  where
    here : (h n : ℕ) → h ≤ t.n → some b ≡ slot_as t h n → Memᴰ b.type (formed t)
    here zero n l e = absurd (none-ne-some b (sym e))
    here (suc h) n l e =
        Memᴰ.cast (ap (λ (d : Binding). d.type) (some-injective b (binding (denote t h) (node_from n)) e))
        (Memᴰ.map (denote t) (in_count 0 t.n h (omega arith) (omega arith)))

below_formed : {t : Tab} {fs : Rows} {top : ℕ} → Fit t fs top → (n : ℕ) → n ≤ suc top → (f : Frame) → Memᴰ f (below t fs n) → (ty : Binding) → Memᴰ (some ty) f
    → Memᴰ ty.type (formed t)
unfolding below
below_formed {t} {fs} a zero h f m ty i = absurd (Memᴰ.not-nil m)
below_formed {t} {fs} a (suc n) h f m ty i =
    ⊎_elim (λ e. row_formed t (get_or fs n []) (λ x. a.known n x (omega (arith, a.high))) ty (rw e at i)) (λ r. below_formed a n (omega arith) f r ty i)
    (Memᴰ.cases_cons m)

-- ---- a walk from the plain types on

module _ {bs : List ℕ} {setting : Setting} {fs gs : Rows} {t u : Tab} {top code : ℕ} {place : Places} {a b : ℕ} (s : Started bs fs t)
    (r : Ran bs setting t u gs top code place a b) where
  -- what had a number keeps it
  pub none_forgotten : Grown t u
  none_forgotten = elim (ℕ_discrete code 9) [ yes n ↦ (r.deep n).grown | no n ↦ (r.left n).grown ]

  pub few_types : length (formed u) ≤ 8 + node_count bs
  few_types =
      let l : length (formed u) ≡ u.n = length-map (count 0 u.n) (denote u) ∙ count_long 0 u.n in
      elim (ℕ_discrete code 9) [
        | yes n ↦ omega (arith, l, s.types, (r.deep n).types_spent)
        | no n ↦ omega (arith, l, s.types, (r.left n).types_spent)
      ]

  -- each type of each frame where the walk stood is among them
  pub frames_formed : (f : Frame) → Memᴰ f (frames_at (walked setting bs)) → (ty : Binding) → Memᴰ (some ty) f → Memᴰ ty.type (formed u)
  unfolding frames_at frames_of
  frames_formed f m ty i = elim (ℕ_discrete code 9) [
    | yes n ↦ absurd (Memᴰ.not-nil (rw (r.says, ended_deep (names_of bs) u gs top r.returns code place a b n) at m))
    | no n ↦
        let fit = (r.left n).fit in
        elim (ℕ_discrete code 0) [
          | yes z ↦ below_formed fit (suc top) (omega arith) f (rw (r.says, ended_well (names_of bs) u gs top r.returns code place a b z) at m) ty i
          | no z ↦ below_formed fit (suc top) (omega arith) f (rw (r.says, ended_wrong (names_of bs) u gs top r.returns code place a b z n) at m) ty i
        ]
  ]
