-- How a check ends, given how its parts end.
use mathlib.Core.Path.{◌≡◌, refl, sym, ap, ◌∙◌}
use mathlib.Core.Bool.{Bool, true, false}
use mathlib.Core.List.{List, []}
use mathlib.Core.Logic.{◌⊎◌, inl, inr}
use mathlib.Core.Option.{some, none-ne-some, some-injective}
use Prim.Native.Nat.{ℕ, ◌≤◌, ◌<◌}
use native.Mathlib.Omega.{arith}
use native.Mathlib.Decide.{ℕ_discrete}
use borrow.Author.Tests.{eq-eqb, ne_eqb}
use lib.ListN.{length, get_or}
use Rattle.std.specs.Prelude.{Option, Some, None, Ok, Err, ok_or}
use Rattle.meaning.specs.Base.{test◌then◌else◌, if_some}
use Rattle.meaning.specs.Image.{node_count, nodes_of, node_of, names_of}
use Rattle.meaning.specs.Image.{Node as ImageNode}
use Rattle.meaning.specs.Message.{message, conflict}
use Rattle.meaning.specs.Frames.{newest}
use Rattle.meaning.specs.Sheet.{sheet_of}
use Rattle.meaning.specs.Decode.{tree_of}
use Rattle.meaning.specs.Walk.{Setting, state, wrong}
use Rattle.meaning.specs.Answer.{Answer, bare, written, walked, walk_answer, overlaid}
use Rattle.meaning.specs.Answer.{ended as concluded}
use Rattle.meaning.proofs.Faults.{Sound}
use Rattle.meaning.proofs.Nesting.{nodes_many, sound_nested}
use Rattle.meaning.proofs.Kept.{refused_typing}
use Rattle.meaning.proofs.SecondSpan.{refused_pointed, makes_inside}
use Rattle.meaning.proofs.Listed.{listing_of}
use Rattle.types.specs.Table.{Tab}
use Rattle.frames.specs.Env.{First, Rows, frame_of, frames_of, below, first_node, FirstBelow}
use Rattle.rules.specs.Outcome.{pieces}
use Rattle.state.specs.Notes.{code_in, Places, places_in}
use Rattle.state.specs.declared.Notes.{Notes}
use Rattle.targets.specs.Ending.{first_at, ended}
use Rattle.targets.proofs.Endings.{first_none}
use Rattle.stmt.specs.Contract.{Ran}
use Rattle.message.specs.Told.{told, Tells}
use Rattle.sheet.specs.declared.list.ListedName.{ListedName}
use Rattle.sheet.specs.Listing.{Listing, listed}
use Rattle.sheet.specs.Listing.{Wrote as Laid}
use Rattle.names.specs.Names.{Names}
use Rattle.checker.specs.Answers.{Wrote, Told}
use Rattle.checker.specs.Steps.{Accepting, Refusing, second_place, first_start, first_end, refused_as}
use Rattle.checker.specs.declared.Refusal.{Refusal}
use Rattle.checker.specs.declared.Refused.TheVariants.{ShortBuffer, Typing}

-- ---- an accepted program

pub newest_row : (t : Tab) (fs : Rows) (top : ℕ) → newest (frames_of t fs top) ≡ frame_of t (get_or fs top [])
unfolding newest frames_of below
newest_row t fs top = refl

if_yes : (b : Bool) (x y : Answer) → b ≡ true → (test b then x else y) ≡ x
unfolding test◌then◌else◌
if_yes b x y e = rw e

module _ {bs : List ℕ} {t : Tab} {fs : Rows} {top : ℕ} {cells : List ListedName} {n : ℕ} (a : Accepting bs t fs top) (l : Names bs fs top cells n) where
  pub accept_listing : Listing bs t cells n
  accept_listing = l.stands t a.wf a.fit

  same : listed bs t cells n ≡ listing_of bs (newest (frames_of t fs top))
  same = l.listed_is t a.wf a.fit

  pub accepted : (o : Option ℕ) {old new : List ℕ} → Laid (listed bs t cells n) o old new
      → Wrote (written (length old) (sheet_of (listing_of bs (newest (frames_of t fs top))))) (ok_or o ShortBuffer) old new
  unfolding written test◌then◌else◌
  accepted (Some k) w = record { numbers = rw (← same, w.length_is, sym w.fits_is); stands = tt; sheet = rw (← same) w.out_is }
  accepted None w = record { numbers = rw (← same, sym w.fits_is); stands = tt; sheet = rw (← same) w.out_is }

-- ---- a typing refusal

module _ {bs : List ℕ} {nodes : ℕ} {t : Tab} {ns : Notes} (r : Refusing bs nodes t ns) where
  pub refuse_tells : Tells t (code_in ns) ns.first ns.second
  refuse_tells = record { wf = r.wf; first = r.named.first; second = r.named.second; small = r.named.small }

  pub refuse_there : ns.place < node_count bs
  refuse_there = r.named.placed (λ e. absurd (omega (arith, r.typing.0)))

  pub refused : {node : ImageNode} (first : First) {q : Refusal} {old new : List ℕ} → node ≡ node_of (nodes_of bs) ns.place → first_node first ≡ second_place ns
      → q.code ≡ code_in ns → q.place ≡ ns.place → q.begins ≡ node.span_start → q.ends ≡ node.span_end
      → q.second_begins ≡ first_start (nodes_of bs) (first_node first) → q.second_ends ≡ first_end (nodes_of bs) (first_node first)
      → q.message ≡ length (told bs t (code_in ns) ns.first ns.second (length old))
      → new ≡ overlaid (told bs t (code_in ns) ns.first ns.second (length old)) old → Told (refused_as bs t ns (length old)) (Err (Typing q)) old new
  unfolding refused_as told message
  refused first e g c p s f s₂ f₂ m o = record {
    numbers = rw (c, p, s, f, s₂, f₂, m, g, e);
    stands = rw c r.typing;
    message = o;
  }

-- the span of a first node
pub span_nowhere : (ds : List ImageNode) {first : First} → first ≡ None → (0 ≡ first_start ds (first_node first)) × (0 ≡ first_end ds (first_node first))
unfolding if_some
span_nowhere ds e = rw e (refl, refl)

pub span_at : (ds : List ImageNode) {first : First} {m : ℕ} {node : ImageNode} → first ≡ Some m → node ≡ node_of ds m
    → (node.span_start ≡ first_start ds (first_node first)) × (node.span_end ≡ first_end ds (first_node first))
unfolding if_some
span_at ds e f = rw e (ap (λ (n : ImageNode). n.span_start) f, ap (λ (n : ImageNode). n.span_end) f)

-- a code that points is 23 or 25
points_code : (code : ℕ) (n : First) (m : ℕ) → first_at code n ≡ some m → (code ≡ 23) ⊎ (code ≡ 25)
points_code code n m e = elim (ℕ_discrete code 23) [
  | yes z ↦ inl z
  | no y ↦ elim (ℕ_discrete code 25) [
    | yes z ↦ inr z
    | no z ↦ absurd (none-ne-some m (sym (first_none n (y, z)) ∙ e))
  ]
]

-- ---- the whole

module _ {bs : List ℕ} {setting : Setting} {t u : Tab} {gs : Rows} {top code a b : ℕ} {place : Places} (r : Ran bs setting t u gs top code place a b) where
  pub ran_well : code ≡ 0 → (x y : ℕ) → walk_answer setting bs x y ≡ written x (sheet_of (listing_of bs (newest (frames_of u gs top))))
  unfolding walk_answer concluded ended test◌then◌else◌
  ran_well z x y = rw (r.says, eq-eqb code 0 z)

  pub ran_deep : code ≡ 9 → (x y : ℕ) → walk_answer setting bs x y ≡ bare 9 place.here
  unfolding walk_answer concluded ended test◌then◌else◌
  ran_deep n x y = rw (r.says, ne_eqb code 0 (λ e. absurd (omega arith)), eq-eqb code 9 n)

module _ {bs : List ℕ} {setting : Setting} {t u : Tab} {gs : Rows} {top : ℕ} (ns : Notes) (s : Sound bs)
    (r : Ran bs setting t u gs top (code_in ns) (places_in ns) ns.first ns.second) (z : (code_in ns) ≡ 0 → ⊥) (n : (code_in ns) ≡ 9 → ⊥) where
  wrong_is : walked setting bs
      ≡ wrong (conflict (code_in ns) ns.place (second_place ns) (pieces (names_of bs) u (code_in ns) ns.first ns.second)) (state (frames_of u gs top) r.returns)
  unfolding ended test◌then◌else◌
  wrong_is = r.says ∙ rw (ne_eqb (code_in ns) 0 z, ne_eqb (code_in ns) 9 n)

  -- a refusal of the walk has a typing code
  pub ran_typing : (20 ≤ code_in ns) × (code_in ns ≤ 50)
  unfolding walked
  ran_typing = let t = refused_typing (names_of bs) setting (tree_of (nodes_of bs)) _ _ wrong_is in (t.above, t.below)

  pub ran_ill : (x y : ℕ) → walk_answer setting bs x y ≡ refused_as bs u ns y
  unfolding walk_answer concluded refused_as
  ran_ill x y = rw wrong_is

  -- the first node is one of the image's: "a known type always has a node"
  pub ran_near : (f : First) → first_node f ≡ second_place ns → FirstBelow (node_count bs) f
  ran_near None e = tt
  ran_near (Some m) e =
      let w = refused_pointed setting bs _ _ wrong_is in
      let h = w.there (points_code (code_in ns) ns.since m (sym e)) in
      omega (arith, makes_inside (sound_nested s) h.node h.holds, nodes_many bs, some-injective _ _ (sym h.is ∙ sym e))
