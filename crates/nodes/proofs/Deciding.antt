-- What a node gives whose children's types stand on the stack.
use mathlib.Core.Path.{◌≡◌, refl, sym, ap, ◌∙◌}
use mathlib.Core.Bool.{Bool, true, false}
use mathlib.Core.List.{List, [], map}
use Prim.Native.Nat.{ℕ, suc, ◌+◌, ◌<◌}
use native.Mathlib.Nat.{add-zero}
use native.Mathlib.Omega.{arith}
use native.Mathlib.Decide.{ℕ_discrete}
use borrow.Author.Tests.{eq-eqb, ne_eqb}
use lib.ListN.{get_or, take, drop}
use Rattle.meaning.specs.Base.{choose, test◌then◌else◌}
use Rattle.meaning.specs.Types.{Ty, unknown, tuple, tys, plain}
use Rattle.meaning.specs.Image.{Name, node_count, nodes_of, names_of}
use Rattle.meaning.specs.Image.{Node as ImageNode}
use Rattle.meaning.specs.Decode.{unary_of, binary_of, stop_of}
use Rattle.meaning.specs.Operators.{Checked, ok, unary_rule, binary_rule}
use Rattle.meaning.specs.Rules.{index_rule, streamed}
use Rattle.meaning.proofs.Codes.{Fair, ok_fair, refused_fair, if_fair, some_fair, unary_fair, binary_fair, index_fair}
use Rattle.types.specs.Table.{Tab, Wf, denote, Made}
use Rattle.rules.specs.Outcome.{Decision, Decides, decision_code, decision_number, decision_first, decision_second}
use Rattle.rules.specs.Leaves.{OfOne, OfTwo, OfNumber, Indexed, index_place, second_code, second_rule, Streams}
use Rattle.rules.proofs.Outcomes.{was_ok}
use Rattle.std.specs.Prelude.{IsErr}
use Rattle.image.specs.declared.Cursor.{Cursor}
use Rattle.state.specs.Giving.{Given}
use Rattle.state.specs.Notes.{place_in, first_in, second_in, tab_in, Kept}
use Rattle.state.specs.Answer.{Typed, code_of, number_of, Settled, Settles}
use Rattle.state.specs.declared.Notes.{Notes}
use Rattle.state.proofs.Noting.{settled_given, settled_kept, settles_settled, kept_trans}
use Rattle.nodes.specs.Operands.{operand_rule, Decidable, Operable, Judges, Streamable}
use Rattle.nodes.specs.Clauses.{Gives}
use Rattle.nodes.proofs.Laws.{decides_given, made_given, means_given, plain_means, types_at, first_type}

-- ---- each kind's rule

module _ (k a n m o : ℕ) (ts : List Ty) where
  unary_rule_lem : (y : Ty) → k ≡ 22 → get_or ts 0 unknown ≡ y → operand_rule k a n m o ts ≡ unary_rule n (unary_of a) y
  unfolding operand_rule choose test◌then◌else◌
  unary_rule_lem y e f = rw (e, f)

  tuple_rule : k ≡ 28 → operand_rule k a n m o ts ≡ ok (tuple (tys ts))
  unfolding operand_rule choose test◌then◌else◌
  tuple_rule e = rw e

  index_rule_lem : (y z : Ty) → k ≡ 31 → get_or ts 0 unknown ≡ y → get_or ts 1 unknown ≡ z → operand_rule k a n m o ts ≡ index_rule m y o z
  unfolding operand_rule choose test◌then◌else◌
  index_rule_lem y z e f g = rw (e, f, g)

  other_rule : (k ≡ 22 → ⊥) → (k ≡ 23 → ⊥) → (k ≡ 28 → ⊥) → (k ≡ 31 → ⊥) → operand_rule k a n m o ts ≡ ok (plain 0)
  unfolding operand_rule choose test◌then◌else◌ plain
  other_rule p q r s = rw (ne_eqb k 22 p, ne_eqb k 23 q, ne_eqb k 28 r, ne_eqb k 31 s)

decides_as : {ws : List Name} {t : Tab} {r s : Checked} {place : ℕ} {d : Decision} → r ≡ s → Decides ws t s place d → Decides ws t r place d
decides_as e d = rw e d

index_place_below : (c m n M : ℕ) → m < M → n < M → index_place c m n < M
unfolding index_place test◌then◌else◌
index_place_below c m n M h l = elim (ℕ_discrete c 50) [ yes e ↦ rw (eq-eqb c 50 e) h | no d ↦ rw (ne_eqb c 50 d) l ]

-- the node was read
pub decidable_as : {bs : List ℕ} {c : Cursor} {t : Tab} {st : List ℕ} {sp : ℕ} {d e : ImageNode} → d ≡ e → Decidable bs c t st sp e
    → Decidable bs c t st sp d
decidable_as p x = rw p x

pub kind_as : {d e : ImageNode} {k : ℕ} → d ≡ e → d.kind ≡ k → e.kind ≡ k
kind_as p h = sym (ap (λ y. y.kind) p) ∙ h

pub given_node : {ws : List Name} {t u : Tab} {M code place number a b : ℕ} (i m o : ℕ) (f : ℕ → Ty) (xs : List ℕ) {d e : ImageNode} → d ≡ e
    → Given ws (operand_rule d.kind d.arg i m o (map f (take d.children xs))) t u d.children M code place number a b
    → Given ws (operand_rule e.kind e.arg i m o (map f (take e.children xs))) t u e.children M code place number a b
given_node i m o f xs p g = rw (← p) g

-- ---- what a rule decides at a node is its answer

module _ {cells : List ℕ} {ns ms : Notes} {r : Typed} {rule : Checked} {place : ℕ} {d : Decision} (w : Wf (tab_in cells ns))
    (x : (ws : List Name) → Decides ws (tab_in cells ns) rule place d) (f : Settles ns ms r place d) where
  settled : Settled ns ms r (decision_number d) (decision_code d) place (decision_first d) (decision_second d)
  settled = settles_settled d f

  pub decided_given : {ws : List Name} (spent M : ℕ) → place < M
      → Given ws rule (tab_in cells ns) (tab_in cells ms) spent M (code_of r ms) (place_in ms) (number_of r) (first_in ms) (second_in ms)
  decided_given {ws} spent M h = settled_given settled (decides_given spent M w h (x ws))

  pub decided_kept : Kept ns ms (IsErr r)
  decided_kept = settled_kept settled

  -- at node n itself
  ruled : Gives cells cells ns ms r place (λ t. rule)
  ruled = (record { says = λ ws M l. decided_given 0 M l }, decided_kept)

-- by two types, by one, and by a type's number alone
pub operated : {cells : List ℕ} {ns ms : Notes} {r : Typed} {left right n arg : ℕ} {d : Decision} → Operable (tab_in cells ns) left right n arg
    → OfTwo cells (λ n. binary_rule n (binary_of arg)) left right d → Settles ns ms r n d
    → Gives cells cells ns ms r n (λ t. binary_rule n (binary_of arg) (denote t left) (denote t right))
operated {cells} {ns} {n = n} x d f = ruled x.wf (λ ws. d.says ws (tab_in cells ns) n refl x.wf x.first x.second) f

pub judged : {cells : List ℕ} {ns ms : Notes} {r : Typed} {rule : ℕ → Ty → Checked} {i n : ℕ} {d : Decision} → Judges (tab_in cells ns) i n
    → OfOne cells rule i d → Settles ns ms r n d → Gives cells cells ns ms r n (λ t. rule n (denote t i))
judged {cells} {ns} {n = n} x d f = ruled x.wf (λ ws. d.says ws (tab_in cells ns) n refl x.wf x.below) f

pub judged_by_number : {cells : List ℕ} {ns ms : Notes} {r : Typed} {rule : ℕ → Ty → Checked} {i n : ℕ} {d : Decision} → Judges (tab_in cells ns) i n
    → OfNumber rule i d → Settles ns ms r n d → Gives cells cells ns ms r n (λ t. rule n (denote t i))
judged_by_number {cells} {ns} {n = n} x d f = ruled x.wf (λ ws. d.says ws (tab_in cells ns) n x.wf x.below) f

-- so that a refusal's code is 29 to 50, by `told_typing`
pub operand_fair : (k a n m o : ℕ) (ts : List Ty) → Fair (operand_rule k a n m o ts)
unfolding operand_rule choose
operand_fair k a n m o ts =
    if_fair _ _ _ (unary_fair n (unary_of a) _)
    (if_fair _ _ _ (binary_fair n (binary_of a) _ _) (if_fair _ _ _ (ok_fair _) (if_fair _ _ _ (index_fair m _ o _) (ok_fair _))))

-- ---- the second argument of map and filter

-- the same of its refusal
pub second_fair : (filters : Bool) (n : ℕ) (t : Ty) → Fair (second_rule filters n t)
unfolding second_code test◌then◌else◌
second_fair true n t = some_fair (streamed t) _ _ (λ u. ok_fair _) (refused_fair 45 n _ (omega arith) (omega arith))
second_fair false n t = some_fair (streamed t) _ _ (λ u. ok_fair _) (refused_fair 43 n _ (omega arith) (omega arith))

streams_given : {ws : List Name} {t u : Tab} {filters : Bool} {i : ℕ} {d : Decision} (M n : ℕ) → n < M → Wf t → Streams t u filters i d
    → Given ws (second_rule filters n (denote t i)) t u 0 M (decision_code d) n (decision_number d) (decision_first d) (decision_second d)
streams_given {ws} {t} {u} {d = d} M n l w m = elim (ℕ_discrete (decision_code d) 0) [
  | yes e ↦ let o = m.says ws n in let g = m.made e in record {
    told = record {
      well = λ z. o.says ∙ was_ok ws u (decision_code d) n (decision_number d) (decision_first d) (decision_second d) e;
      ill = λ z. absurd (z e);
      first = o.first;
      second = o.second;
      small = o.small;
      placed = λ z. l;
    };
    below = o.below;
    grown = g.grown;
    room = g.room;
    space = g.space;
  }
  | no z ↦ let k = m.kept z in let o = m.says ws n in rw k (decides_given 0 M w l (rw k at o))
]

-- os are the notes when the new counts are noted, and nothing else
pub streams_gives : {cs ds : List ℕ} {ns os ms : Notes} {r : Typed} {filters : Bool} {i n : ℕ} {d : Decision} → Streamable (tab_in cs ns) i n
    → Streams (tab_in cs ns) (tab_in ds os) filters i d → Kept ns os ⊥ → Settles os ms r n d
    → Gives cs ds ns ms r n (λ t. second_rule filters n (denote t i))
streams_gives {n = n} {d} s m k f =
    let a = settles_settled d f in (
      record { says = λ ws M l. settled_given a (streams_given M n l s.asks.wf m) },
      kept_trans k (settled_kept a),
    )

-- ---- the node at hand

module _ {bs : List ℕ} {c : Cursor} {t : Tab} {st : List ℕ} {sp : ℕ} {d : ImageNode} (x : Decidable bs c t st sp d) where
  first_known : {v : ℕ} → 0 < d.children → v ≡ get_or st sp 0 → v < t.n
  first_known h e = let k = rw add-zero at (x.listed.known 0 h) in omega arith

  second_known : {v : ℕ} → 1 < d.children → v ≡ get_or st (sp + 1) 0 → v < t.n
  second_known h e = omega (arith, x.listed.known 1 h)

  first_is : {v : ℕ} → 0 < d.children → v ≡ get_or st sp 0 → get_or (map (denote t) (take d.children (drop sp st))) 0 unknown ≡ denote t v
  first_is h e = first_type x.listed h ∙ ap (denote t) (sym e)

  second_is : {v : ℕ} → 1 < d.children → v ≡ get_or st (sp + 1) 0 → get_or (map (denote t) (take d.children (drop sp st))) 1 unknown ≡ denote t v
  second_is h e = types_at x.listed 1 h ∙ ap (denote t) (sym e)

  -- what the node gives
  pub unary_decides : {v : ℕ} {e : Decision} (ws : List Name) → d.kind ≡ 22 → v ≡ get_or st sp 0 → OfOne t.cells (λ n. unary_rule n (unary_of d.arg)) v e
      → Decides ws t (operand_rule d.kind d.arg c.at (suc c.at) (stop_of (nodes_of bs) (suc c.at)) (map (denote t) (take d.children (drop sp st)))) c.at e
  unary_decides ws k e f =
      let h : 0 < d.children = omega (arith, (x.unary k).1) in
      decides_as (unary_rule_lem _ _ _ _ _ _ _ k (first_is h e)) (f.says ws t c.at refl x.listed.wf (first_known h e))

  pub tuple_given : {code number : ℕ} {u : Tab} (place a b : ℕ) → d.kind ≡ 28 → code ≡ 0
      → Made t u number (tuple (tys (map (denote t) (take d.children (drop sp st))))) d.children
      → Given (names_of bs) (operand_rule d.kind d.arg c.at (suc c.at) (stop_of (nodes_of bs) (suc c.at)) (map (denote t) (take d.children (drop sp st)))) t u d.children
      (node_count bs) code place number a b
  tuple_given place a b k e f = made_given (node_count bs) place a b e (tuple_rule _ _ _ _ _ _ k) f

  pub index_decides : {m o v w : ℕ} {e : Decision} (ws : List Name) → d.kind ≡ 31 → v ≡ get_or st sp 0 → w ≡ get_or st (sp + 1) 0 → m ≡ c.at + 1 → o ≡ stop_of (nodes_of bs) m
      → Indexed t.cells v w e
      → Decides ws t (operand_rule d.kind d.arg c.at (suc c.at) (stop_of (nodes_of bs) (suc c.at)) (map (denote t) (take d.children (drop sp st))))
      (index_place (decision_code e) m o) e
  index_decides {m} {o} ws k e g f s q =
      let h : 0 < d.children = omega (arith, (x.index k).0) in
      let l : 1 < d.children = omega (arith, (x.index k).0) in
      let n : m ≡ suc c.at = omega arith in
      let so : o ≡ stop_of (nodes_of bs) (suc c.at) = s ∙ ap (stop_of (nodes_of bs)) n in
      rw (so, n)
      (decides_as (index_rule_lem _ _ _ _ _ _ _ _ k (first_is h e) (second_is l g))
      (q.says ws t (suc c.at) (stop_of (nodes_of bs) (suc c.at)) refl x.listed.wf (first_known h e) (second_known l g)))

  pub index_placed : {m o : ℕ} (code : ℕ) → d.kind ≡ 31 → m ≡ c.at + 1 → o ≡ stop_of (nodes_of bs) m → index_place code m o < node_count bs
  index_placed {m} {o} code k f s =
      let n : m ≡ suc c.at = omega arith in
      let so : o ≡ stop_of (nodes_of bs) (suc c.at) = s ∙ ap (stop_of (nodes_of bs)) n in
      rw (so, n) (index_place_below code _ _ _ (x.index k).1 (x.index k).2)

  pub other_given : {code number : ℕ} (place a b : ℕ) → (d.kind ≡ 22 → ⊥) → (d.kind ≡ 23 → ⊥) → (d.kind ≡ 28 → ⊥) → (d.kind ≡ 31 → ⊥)
      → code ≡ 0 → number ≡ 0
      → Given (names_of bs) (operand_rule d.kind d.arg c.at (suc c.at) (stop_of (nodes_of bs) (suc c.at)) (map (denote t) (take d.children (drop sp st)))) t t d.children
      (node_count bs) code place number a b
  other_given place a b p q r s e z =
      means_given d.children (node_count bs) place a b e (other_rule _ _ _ _ _ _ p q r s) x.listed.wf
      (rw z (plain_means x.listed.wf 0 (omega arith)))
