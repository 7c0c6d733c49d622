-- The turns of the two scans: what is marked and what is left come to all that may be bound. Assumes nothing.
use mathlib.Core.Path.{◌≡◌, refl, sym, ap, ◌∙◌}
use mathlib.Core.Bool.{Bool, true, false}
use mathlib.Core.Logic.{◌⊎◌, ⊎_elim}
use mathlib.Core.List.{List, [], ◌∷◌, ◌++◌}
use Prim.Native.Nat.{ℕ, ◌+◌, ◌-◌, ◌≤◌, ◌<◌}
use native.Mathlib.Nat.{zero-add}
use native.Mathlib.Numerals.{add-one}
use native.Mathlib.Omega.{arith}
use native.Mathlib.Decide.{ℕ_discrete}
use borrow.Author.Tests.{eq-eqb, ne_eqb}
use lib.ListN.{length, get_or, set, replicate, length-set, length-map, length-replicate, get_or-replicate}
use lib.Seq.{get_or-set_same, get_or-set_other, ext_get_or}
use Rattle.meaning.specs.Limits.{most_names}
use Rattle.meaning.specs.Base.{◌or◌, is_in, count}
use Rattle.meaning.specs.Image.{nodes_of, node_count}
use Rattle.meaning.specs.Bound.{may_bind}
use Rattle.meaning.specs.Decode.{tree_of}
use Rattle.meaning.proofs.Choices.{count_long, counted_at}
use Rattle.meaning.proofs.Faults.{Sound, sizes}
use Rattle.meaning.proofs.Nesting.{nodes_many, sound_nested}
use Rattle.meaning.proofs.Scan.{scan_target, scan, target_end, target_variable, target_tuple, target_other, scan_end, scan_assign, scan_for, scan_enter, scan_over, Enters, an_if, a_while, a_block, Jumped, scan_bound, variable_named, for_named, target_inside}
use Rattle.image.specs.declared.Node.{Node}
use Rattle.image.proofs.Here.{Here, many, kind_is, arg_is, stop_is, stop_up, stop_in}
use Rattle.bound.specs.Marks.{marks_of, marked, Targeted, Stepped}

mark_one : (x : ℕ) (xs : List ℕ) (ms : List Bool) → marked (x ∷ xs) ms ≡ marked xs (set ms x true)
unfolding marked
mark_one x xs ms = refl

mark_append : (xs ys : List ℕ) (ms : List Bool) → marked (xs ++ ys) ms ≡ marked ys (marked xs ms)
unfolding marked
mark_append [] ys ms = refl
mark_append (x ∷ xs) ys ms = mark_append xs ys (set ms x true)

mark_none : (ms : List Bool) → marked [] ms ≡ ms
unfolding marked
mark_none ms = refl

-- ---- a node that was read

module _ {bs : List ℕ} {i : ℕ} {d : Node} (h : Here bs i d) where
  pub variable_low : d.kind ≡ 21 → d.arg < most_names
  variable_low q = omega (arith, arg_is h, variable_named (sound_nested h.sound) i (many h) (kind_is h ∙ q), (sizes h.sound.headed).names)

  pub for_low : d.kind ≡ 10 → d.arg < most_names
  for_low q = omega (arith, arg_is h, for_named (sound_nested h.sound) i (many h) (kind_is h ∙ q), (sizes h.sound.headed).names)

  pub target_in : d.kind ≡ 5 → i + 1 < node_count bs
  target_in q = omega (arith, stop_is h, stop_in h, target_inside (sound_nested h.sound) i (many h) (kind_is h ∙ q))

-- ---- a target, from j on

pub record Aiming (bs : List ℕ) (from end : ℕ) (old ms : List Bool) (j : ℕ) : Type 0 where
  pub left : ℕ
  pub enough : end ≤ j + left
  pub answer : marked (scan_target (nodes_of bs) left j end) ms ≡ marked (scan_target (nodes_of bs) (length (nodes_of bs)) from end) old

pub aiming_first : (bs : List ℕ) (from end : ℕ) (ms : List Bool) → end ≤ node_count bs → Aiming bs from end ms ms from
aiming_first bs from end ms h = record { left = length (nodes_of bs); enough = omega (arith, nodes_many bs); answer = refl }

module _ {bs : List ℕ} {from end j : ℕ} {old ms : List Bool} {d : Node} (a : Aiming bs from end old ms j) (h : Here bs j d) (l : j < end) where
  pub aiming_tuple : d.kind ≡ 28 → Aiming bs from end old ms (j + 1)
  aiming_tuple q =
      let e = target_tuple (nodes_of bs) a.left j end (omega (arith, a.enough)) l (kind_is h ∙ q) in
      record { left = a.left - 1; enough = omega (arith, a.enough); answer = rw add-one (rw e at a.answer) }

  pub aiming_variable : d.kind ≡ 21 → Aiming bs from end old (set ms d.arg true) d.stop
  aiming_variable q =
      let e = target_variable (nodes_of bs) a.left j end (omega (arith, a.enough)) l (kind_is h ∙ q) in
      record {
        left = a.left - 1;
        enough = omega (arith, a.enough, stop_up h);
        answer = rw (← arg_is h, ← stop_is h) (sym (mark_one _ _ ms) ∙ rw e at a.answer);
      }

  pub aiming_other : (d.kind ≡ 28 → ⊥) → (d.kind ≡ 21 → ⊥) → Aiming bs from end old ms d.stop
  aiming_other t v =
      let e = target_other (nodes_of bs) a.left j end (omega (arith, a.enough)) l (λ q. v (sym (kind_is h) ∙ q)) (λ q. t (sym (kind_is h) ∙ q)) in
      record { left = a.left - 1; enough = omega (arith, a.enough, stop_up h); answer = rw (← stop_is h) (rw e at a.answer) }

pub aiming_end : {bs : List ℕ} {from end j : ℕ} {old ms : List Bool} → Aiming bs from end old ms j → end ≤ j → Targeted bs from end old ms
aiming_end {bs} {from} {end} {j} {old} {ms} a h =
    record { marks = sym (mark_none ms) ∙ rw (target_end (nodes_of bs) a.left j end h) at a.answer }

-- ---- a node of the module

module _ {bs : List ℕ} {i : ℕ} {d : Node} (h : Here bs i d) (ms : List Bool) where
  pub step_assign : d.kind ≡ 5 → {t : Node} → Here bs (i + 1) t → {new : List Bool} → Targeted bs (i + 1) t.stop ms new → Stepped bs i ms new d.stop
  step_assign q {t} g {new} x =
      record {
        up = stop_up h;
        marks = λ k l.
            let e = scan_assign (nodes_of bs) k i l (many h) (kind_is h ∙ q) in
            rw (e, mark_append, x.marks, ← stop_is h, ← stop_is g, add-one);
      }

  pub step_for : d.kind ≡ 10 → Stepped bs i ms (set ms d.arg true) (i + 1)
  step_for q =
      record {
        up = omega arith;
        marks = λ k l. let e = scan_for (nodes_of bs) k i l (many h) (kind_is h ∙ q) in rw (e, mark_one, ← arg_is h, add-one);
      }

  step_enter : {q : ℕ} → Enters q → d.kind ≡ q → Stepped bs i ms ms (i + 1)
  step_enter n q = record { up = omega arith; marks = λ k l. rw (scan_enter (nodes_of bs) k i l (many h) n (kind_is h ∙ q), add-one) }

  pub step_block : d.kind ≡ 12 → Stepped bs i ms ms (i + 1)
  step_block q = step_enter a_block q

  -- an If is 8 and a While 9
  pub step_branch : 8 ≤ d.kind → d.kind ≤ 9 → Stepped bs i ms ms (i + 1)
  step_branch l u = elim (ℕ_discrete d.kind 8) [
    | yes q ↦ step_enter an_if q
    | no n ↦ step_enter a_while (omega (arith, l, u, n))
  ]

  pub step_over : (d.kind ≡ 5 → ⊥) → (d.kind ≡ 10 → ⊥) → (d.kind ≡ 12 → ⊥) → (d.kind < 8) ⊎ (9 < d.kind) → Stepped bs i ms ms d.stop
  step_over assign for block other =
      let jumped : Jumped d.kind = record {
        no_assign = assign;
        no_if = λ q. ⊎_elim (λ l. omega (arith, q, l)) (λ l. omega (arith, q, l)) other;
        no_while = λ q. ⊎_elim (λ l. omega (arith, q, l)) (λ l. omega (arith, q, l)) other;
        no_for = for;
        no_block = block;
      } in
      record {
        up = stop_up h;
        marks = λ k l. rw (scan_over (nodes_of bs) k i l (many h) (rw (kind_is h) jumped), ← stop_is h);
      }

-- ---- the module, from node i on

pub record Marking (bs : List ℕ) (old ms : List Bool) (i : ℕ) : Type 0 where
  pub left : ℕ
  pub enough : node_count bs ≤ i + left
  pub answer : marked (scan (nodes_of bs) left i) ms ≡ marked (may_bind (tree_of (nodes_of bs))) old

pub marking_first : {bs : List ℕ} → Sound bs → (ms : List Bool) → Marking bs ms ms 0
marking_first {bs} s ms =
    record { left = node_count bs; enough = omega arith; answer = ap (λ xs. marked xs ms) (scan_bound s (node_count bs) (omega arith)) }

pub marking_next : {bs : List ℕ} {old ms new : List Bool} {i r : ℕ} → Marking bs old ms i → i < node_count bs → Stepped bs i ms new r → Marking bs old new r
marking_next {bs} m l s =
    record {
      left = m.left - 1;
      enough = omega (arith, m.enough, s.up);
      answer = sym (s.marks m.left (omega (arith, m.enough))) ∙ m.answer;
    }

marking_done : {bs : List ℕ} {old ms : List Bool} {i : ℕ} → Marking bs old ms i → node_count bs ≤ i → ms ≡ marked (may_bind (tree_of (nodes_of bs))) old
marking_done {bs} {old} {ms} {i} m h = sym (mark_none ms) ∙ rw (scan_end (nodes_of bs) m.left i (omega (arith, nodes_many bs))) at m.answer

-- ---- from no marks on, a name is marked exactly when it is one of those

marked_long : (xs : List ℕ) (ms : List Bool) → length (marked xs ms) ≡ length ms
unfolding marked
marked_long [] ms = refl
marked_long (x ∷ xs) ms = marked_long xs (set ms x true) ∙ length-set ms x true

or_true : (b : Bool) → (b or true) ≡ true
unfolding ◌or◌
or_true true = refl
or_true false = refl

or_false : (b : Bool) → (b or false) ≡ b
unfolding ◌or◌
or_false true = refl
or_false false = refl

marked_at : (xs : List ℕ) (ms : List Bool) (y : ℕ) → y < length ms → get_or (marked xs ms) y false ≡ (is_in y xs or get_or ms y false)
unfolding marked is_in ◌or◌
marked_at [] ms y h = refl
marked_at (x ∷ xs) ms y h =
    let later = marked_at xs (set ms x true) y (rw (length-set ms x true) h) in
    elim (ℕ_discrete y x) [
      | yes e ↦ rw (eq-eqb y x e) (later ∙ ap (λ b. is_in y xs or b) (rw e (get_or-set_same ms x true false (rw e at h))) ∙ or_true (is_in y xs))
      | no n ↦ rw (ne_eqb y x n) (later ∙ ap (λ b. is_in y xs or b) (get_or-set_other ms x y true false n))
    ]

pub marks_at : (xs : List ℕ) (x : ℕ) → x < most_names → get_or (marks_of xs) x false ≡ is_in x xs
unfolding marks_of
marks_at xs x h = rw zero-add at (counted_at (λ x. is_in x xs) false 0 most_names x h)

marks_long : (xs : List ℕ) → length (marks_of xs) ≡ most_names
unfolding marks_of
marks_long xs = length-map (count 0 most_names) _ ∙ count_long 0 most_names

marked_all : (xs : List ℕ) → marked xs (replicate most_names false) ≡ marks_of xs
marked_all xs =
    let old : List Bool = replicate most_names false in
    let short : length old ≡ most_names = length-replicate most_names false in
    let long : length (marked xs old) ≡ most_names = marked_long xs old ∙ short in
    ext_get_or false (marked xs old) (marks_of xs) (long ∙ sym (marks_long xs))
    (λ k h.
    let low : k < most_names = omega (arith, long) in
    marked_at xs old k (omega (arith, short)) ∙ rw (get_or-replicate most_names k false false low) (or_false (is_in k xs)) ∙ sym (marks_at xs k low))

pub marking_end : {bs : List ℕ} {ms : List Bool} {i : ℕ} → Marking bs (replicate most_names false) ms i → node_count bs ≤ i
    → ms ≡ marks_of (may_bind (tree_of (nodes_of bs)))
marking_end {bs} m h = marking_done m h ∙ marked_all (may_bind (tree_of (nodes_of bs)))
