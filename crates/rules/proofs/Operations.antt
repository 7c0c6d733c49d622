-- Operators: what an answer decides.
use mathlib.Core.Path.{◌≡◌, sym, ap, ◌∙◌}
use mathlib.Core.List.{List}
use Prim.Native.Nat.{ℕ, ◌≤◌, ◌<◌}
use native.Mathlib.Omega.{arith}
use native.Mathlib.Decide.{ℕ_discrete}
use borrow.Author.Tests.{eq-eqb, ne_eqb}
use Rattle.meaning.specs.Base.{test◌then◌else◌, base_open}
use Rattle.meaning.specs.Types.{plain}
use Rattle.meaning.specs.Decode.{binary_of, unary_of}
use Rattle.meaning.specs.Operators.{ok, when, operator_answer, unary_answer, binary_rule, unary_rule}
use Rattle.types.specs.Table.{Tab, Wf, denote}
use Rattle.types.specs.declared.Kind.{Kind}
use Rattle.types.specs.Kinds.{kind_number}
use Rattle.types.specs.Reading.{Known, KindOf}
use Rattle.types.proofs.Laws.{plain_number, same_number}
use Rattle.operators.proofs.Laws.{kind_below, BinaryMeans, binary_means, UnaryMeans, unary_means}
use Rattle.std.specs.Prelude.{Ok, Err}
use Rattle.codes.specs.declared.Code.{Code}
use Rattle.codes.specs.Codes.{code_number}
use Rattle.codes.specs.declared.Code.TheVariants.{Equality}
use Rattle.codes.proofs.Laws.{least_code}
use Rattle.rules.specs.Outcome.{types_named, because}
use Rattle.rules.specs.Leaves.{OfOne, OfTwo}
use Rattle.rules.proofs.Outcomes.{accepts, refuses_one, refuses_two}

-- the lookups take every kind that is read
pub read_kind : {cs : List ℕ} {i : ℕ} {k : Kind} → Known cs i → KindOf cs i k → kind_number k < 13
read_kind {cs} {i} d r = omega (arith, r.says d.table d.cells d.wf d.below, kind_below (denote d.table i))

-- ---- one operand

unary_names : (x : ℕ) → 34 ≤ x → x ≤ 35 → types_named x ≡ 1
unfolding types_named base_open
unary_names x l m = elim (ℕ_discrete x 34) [
  | yes e ↦ rw e
  | no n ↦ let e : x ≡ 35 = omega arith in rw e
]

module _ {cs : List ℕ} {i x : ℕ} {k : Kind} (op : ℕ) (kind_is : KindOf cs i k) (answer : x ≡ unary_answer (unary_of op) (kind_number k)) where
  means : (t : Tab) (n : ℕ) → t.cells ≡ cs → Wf t → i < t.n → UnaryMeans n op (denote t i) x
  means t n s w h = unary_means n op (denote t i) (kind_is.says t s w h) answer

  pub unary_gives : x < 8 → OfOne cs (λ n. unary_rule n (unary_of op)) i (Ok x)
  unary_gives l = record {
    says = λ ws t n s w h.
        accepts n x (omega (arith, w.base)) ((means t n s w h).gives l ∙ ap ok (sym (plain_number w x l)));
  }

  pub unary_refuses : {c : Code} → code_number c ≡ x → OfOne cs (λ n. unary_rule n (unary_of op)) i (Err (because c i 0))
  unary_refuses {c} e = record {
    says = λ ws t n s w h.
        let m = means t n s w h in
        let l : 8 ≤ x = omega (arith, least_code c, e) in
        refuses_one n c i 0 (rw e (unary_names x (m.code l).0 (m.code l).1)) h (rw e (m.refuses l));
  }

-- ---- two operands

binary_names : (x : ℕ) → 29 ≤ x → x ≤ 33 → types_named x ≡ 2
unfolding types_named base_open
binary_names x l m = elim (ℕ_discrete x 29) [
  | yes e ↦ rw e
  | no a ↦ elim (ℕ_discrete x 30) [
    | yes e ↦ rw e
    | no b ↦ elim (ℕ_discrete x 31) [
      | yes e ↦ rw e
      | no c ↦ elim (ℕ_discrete x 32) [
        | yes e ↦ rw e
        | no d ↦ let e : x ≡ 33 = omega arith in rw e
      ]
    ]
  ]
]

module _ {cs : List ℕ} {i j x : ℕ} {k l : Kind} (op : ℕ) (left : KindOf cs i k) (right : KindOf cs j l)
    (answer : x ≡ operator_answer (binary_of op) (kind_number k) (kind_number l)) where
  both_mean : (t : Tab) (n : ℕ) → t.cells ≡ cs → Wf t → i < t.n → j < t.n → BinaryMeans n op (denote t i) (denote t j) x
  both_mean t n s w hi hj = binary_means n op (denote t i) (denote t j) (left.says t s w hi) (right.says t s w hj) answer

  pub binary_gives : x < 8 → OfTwo cs (λ n. binary_rule n (binary_of op)) i j (Ok x)
  binary_gives h = record {
    says = λ ws t n s w hi hj.
        accepts n x (omega (arith, w.base)) ((both_mean t n s w hi hj).gives h ∙ ap ok (sym (plain_number w x h)));
  }

  pub binary_refuses : {c : Code} → code_number c ≡ x → OfTwo cs (λ n. binary_rule n (binary_of op)) i j (Err (because c i j))
  binary_refuses {c} e = record {
    says = λ ws t n s w hi hj.
        let m = both_mean t n s w hi hj in
        let h : 8 < x = omega (arith, least_code c, e) in
        refuses_two n c i j (rw e (binary_names x (m.code h).0 (m.code h).1)) hi hj (rw e (m.refuses h));
  }

  pub binary_equal : x ≡ 8 → i ≡ j → OfTwo cs (λ n. binary_rule n (binary_of op)) i j (Ok 2)
  unfolding when test◌then◌else◌ plain
  binary_equal h e = record {
    says = λ ws t n s w hi hj.
        accepts n 2 (omega (arith, w.base))
        ((both_mean t n s w hi hj).compares h ∙ rw (same_number w i j hi hj, eq-eqb i j e) (ap ok (sym (plain_number w 2 (omega arith)))));
  }

  pub binary_differs : x ≡ 8 → (i ≡ j → ⊥) → OfTwo cs (λ n. binary_rule n (binary_of op)) i j (Err (because Equality i j))
  unfolding when test◌then◌else◌
  binary_differs h e = record {
    says = λ ws t n s w hi hj.
        refuses_two n Equality i j (binary_names 32 (omega arith) (omega arith)) hi hj
        ((both_mean t n s w hi hj).compares h ∙ rw (same_number w i j hi hj, ne_eqb i j e));
  }
