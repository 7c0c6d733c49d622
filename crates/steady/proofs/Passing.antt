-- The turns of the pass: what is left of it gives the first Def inside an If. Assumes nothing.
use mathlib.Core.Path.{◌≡◌, sym, ap, ◌∙◌}
use mathlib.Core.List.{List, [], ◌∷◌, ◌++◌}
use mathlib.Core.Logic.{◌⊎◌, ⊎_elim}
use Prim.Native.Nat.{ℕ, suc, ◌+◌, ◌-◌, ◌≤◌, ◌<◌}
use native.Mathlib.Numerals.{add-one}
use native.Mathlib.Omega.{arith}
use native.Mathlib.Decide.{ℕ_discrete}
use Rattle.meaning.specs.Image.{nodes_of, node_count}
use Rattle.meaning.specs.Image.{Node as ImageNode}
use Rattle.meaning.specs.Decode.{tree_of}
use Rattle.meaning.specs.Known.{defs_in_ifs, steady_by, steady, def_in_if}
use Rattle.meaning.proofs.Faults.{Sound}
use Rattle.meaning.proofs.Nesting.{nodes_many}
use Rattle.meaning.proofs.Inside.{scan_defs, ending_inside, ending_outside, itself_inside, itself_outside, defs_end, defs_if, defs_def, defs_enter, defs_over, Opens, opens_while, opens_for, opens_block, Closed, defs_scanned}
use Rattle.image.specs.declared.Node.{Node}
use Rattle.image.proofs.Here.{Here, many, kind_is, stop_is, stop_up}

-- from node i on
pub record Passing (bs : List ℕ) (i until : ℕ) : Type 0 where
  pub left : ℕ
  pub enough : node_count bs ≤ i + left
  pub answer : scan_defs (nodes_of bs) left i until ≡ defs_in_ifs (tree_of (nodes_of bs))

pub passing_first : {bs : List ℕ} → Sound bs → Passing bs 0 0
passing_first {bs} s = record { left = node_count bs; enough = omega arith; answer = defs_scanned s (node_count bs) (omega arith) }

module _ {bs : List ℕ} {i until : ℕ} {d : Node} (p : Passing bs i until) (h : Here bs i d) where
  some_left : 0 < p.left
  some_left = omega (arith, p.enough, h.inside)

  -- one step of the scan, to node j
  passing_step : (j u : ℕ) → i < j → scan_defs (nodes_of bs) p.left i until ≡ scan_defs (nodes_of bs) (p.left - 1) j u → Passing bs j u
  passing_step j u l e = record { left = p.left - 1; enough = omega (arith, p.enough); answer = sym e ∙ p.answer }

  -- an If inside another, and one inside none
  pub passing_inner : d.kind ≡ 8 → i < until → Passing bs (i + 1) until
  passing_inner q l =
      let e = defs_if (nodes_of bs) p.left i until some_left (many h) (kind_is h ∙ q) in
      passing_step (i + 1) until (omega arith) (rw add-one (rw (ending_inside (nodes_of bs) i until l) at e))

  pub passing_if : d.kind ≡ 8 → until ≤ i → Passing bs (i + 1) d.stop
  passing_if q l =
      let e = defs_if (nodes_of bs) p.left i until some_left (many h) (kind_is h ∙ q) in
      passing_step (i + 1) d.stop (omega arith) (rw add-one (rw (ending_outside (nodes_of bs) i until l, stop_is h) at e))

  -- a Def inside no If
  pub passing_def : d.kind ≡ 11 → until ≤ i → Passing bs (i + 1) until
  passing_def q l =
      let e = defs_def (nodes_of bs) p.left i until some_left (many h) (kind_is h ∙ q) in
      passing_step (i + 1) until (omega arith) (rw add-one (rw (itself_outside i until l) at e))

  passing_enter : {q : ℕ} → Opens q → d.kind ≡ q → Passing bs (i + 1) until
  passing_enter o q = passing_step (i + 1) until (omega arith) (rw add-one (defs_enter (nodes_of bs) p.left i until some_left (many h) o (kind_is h ∙ q)))

  pub passing_block : d.kind ≡ 12 → Passing bs (i + 1) until
  passing_block q = passing_enter opens_block q

  -- a While is 9 and a For 10
  pub passing_loop : 9 ≤ d.kind → d.kind ≤ 10 → Passing bs (i + 1) until
  passing_loop l u = elim (ℕ_discrete d.kind 9) [
    | yes q ↦ passing_enter opens_while q
    | no n ↦ passing_enter opens_for (omega (arith, l, u, n))
  ]

  pub passing_over : (d.kind ≡ 8 → ⊥) → (d.kind ≡ 11 → ⊥) → (d.kind ≡ 12 → ⊥) → (d.kind < 9) ⊎ (10 < d.kind) → Passing bs d.stop until
  passing_over test def block other =
      let closed : Closed d.kind = record {
        no_if = test;
        no_while = λ q. ⊎_elim (λ l. omega (arith, q, l)) (λ l. omega (arith, q, l)) other;
        no_for = λ q. ⊎_elim (λ l. omega (arith, q, l)) (λ l. omega (arith, q, l)) other;
        no_def = def;
        no_block = block;
      } in
      passing_step d.stop until (stop_up h) (rw (← stop_is h) (defs_over (nodes_of bs) p.left i until some_left (many h) (rw (kind_is h) closed)))

  -- a Def inside an If is the first one
  pub passing_found : d.kind ≡ 11 → i < until
      → def_in_if i d.begins d.ends ≡ steady_by (nodes_of bs) (defs_in_ifs (tree_of (nodes_of bs)))
  unfolding steady_by
  passing_found q l =
      let e = defs_def (nodes_of bs) p.left i until some_left (many h) (kind_is h ∙ q) in
      let first : i ∷ scan_defs (nodes_of bs) (p.left - 1) (suc i) until ≡ defs_in_ifs (tree_of (nodes_of bs)) =
      ap (λ (xs : List ℕ). xs ++ scan_defs (nodes_of bs) (p.left - 1) (suc i) until) (sym (itself_inside i until l)) ∙ (sym e ∙ p.answer) in
      ap (λ (n : ImageNode). def_in_if i n.span_start n.span_end) h.means ∙ ap (steady_by (nodes_of bs)) first

-- no Def is left
pub passing_end : {bs : List ℕ} {i until : ℕ} → Passing bs i until → node_count bs ≤ i
    → steady ≡ steady_by (nodes_of bs) (defs_in_ifs (tree_of (nodes_of bs)))
unfolding steady_by
passing_end {bs} {i} {until} p h =
    let none_left : [] ≡ defs_in_ifs (tree_of (nodes_of bs)) = sym (defs_end (nodes_of bs) p.left i until (omega (arith, nodes_many bs))) ∙ p.answer in
    ap (steady_by (nodes_of bs)) none_left
