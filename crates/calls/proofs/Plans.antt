-- The plan of a call: what a name's role and count admit.
use mathlib.Core.Path.{◌≡◌, refl, sym, ap, ◌∙◌}
use mathlib.Core.Bool.{Bool, true, false}
use mathlib.Core.List.{List, [], ◌∷◌}
use Rattle.std.specs.Prelude.{Ok, Err}
use Prim.Native.Nat.{ℕ, ◌≤◌, ◌<◌}
use native.Mathlib.Omega.{arith}
use native.Mathlib.Decide.{ℕ_discrete}
use borrow.Author.Tests.{eq-eqb, ne_eqb}
use lib.ListN.{length}
use Rattle.meaning.specs.Base.{test◌then◌else◌, choose, base_open}
use Rattle.meaning.specs.Types.{unknown}
use Rattle.meaning.specs.Types.{plain as plain_type}
use Rattle.meaning.specs.Image.{NameRecord, takes, role_of, Name, name_of, names_of, name_records, name_count, allows, safe, unsafe_name}
use Rattle.meaning.specs.Message.{a_text, a_number, refusal}
use Rattle.meaning.specs.Operators.{Checked, refused, ◌>>=◌, when}
use Rattle.meaning.specs.Rules.{Children, each_then, builtin_rule, described, builtin_call, function_call, name_rule}
use Rattle.meaning.proofs.Choices.{all_pass}
use Rattle.meaning.proofs.Faults.{Sound}
use Rattle.types.specs.Table.{Tab}
use Rattle.codes.specs.declared.Code.{Code}
use Rattle.codes.specs.declared.Code.TheVariants.{BuiltinArity, FunctionArity}
use Rattle.codes.specs.Codes.{code_number}
use Rattle.rules.specs.Outcome.{types_named, taken, pieces}
use Rattle.image.specs.Parts.{record_of, name_means}
use Rattle.image.specs.declared.NameAt.{NameAt}
use Rattle.meaning.proofs.Nesting.{names_many}
use Rattle.image.proofs.Records.{role_of_lem}
use Rattle.calls.specs.declared.Rule.{Rule}
use Rattle.calls.specs.declared.Rule.TheVariants.{Each}
use Rattle.calls.specs.Planning.{rule_of, Enough, Chosen, Plan, Planned}

-- ---- the two cases of a plan

pub same_rule : {j k : Rule} → ◌≡◌ {A = Plan} (Ok j) (Ok k) → j ≡ k
same_rule e = cc

pub same_code : {c d : Code} → ◌≡◌ {A = Plan} (Err c) (Err d) → c ≡ d
same_code e = cc

pub by_not_refused : {A : Type 0} {k : Rule} {c : Code} → Ok k ≡ Err c → A
by_not_refused e = absurd (cc)

-- ---- a call's count comes before its rule

module _ (n : ℕ) (w : Name) (cs : Children) where
  builtin_counted : allows w.role (length cs) ≡ true → builtin_call n w cs ≡ builtin_rule n w.spelling cs
  unfolding builtin_call when test◌then◌else◌ ◌>>=◌
  builtin_counted e = rw e

  builtin_miscounted : allows w.role (length cs) ≡ false
      → builtin_call n w cs ≡ refused (refusal 37 n (a_text w.spelling ∷ a_text (described w.role) ∷ a_number (length cs) ∷ []))
  unfolding builtin_call when test◌then◌else◌ ◌>>=◌
  builtin_miscounted e = rw e

  function_counted : (p : ℕ) → length cs ≡ p → function_call n w p cs ≡ each_then unknown cs
  unfolding function_call when test◌then◌else◌ ◌>>=◌
  function_counted p e = rw (eq-eqb (length cs) p e)

  function_miscounted : (p : ℕ) → (length cs ≡ p → ⊥)
      → function_call n w p cs ≡ refused (refusal 38 n (a_text w.spelling ∷ a_number p ∷ a_number (length cs) ∷ []))
  unfolding function_call when test◌then◌else◌ ◌>>=◌
  function_miscounted p d = rw (ne_eqb (length cs) p d)

-- ---- what a role makes of a call

module _ (n : ℕ) (w : Name) (cs : Children) (r : NameRecord) where
  role_builtin : 1 ≤ r.role → r.role ≤ 3 → name_rule n w (role_of r) cs ≡ builtin_call n w cs
  unfolding role_of choose test◌then◌else◌ name_rule
  role_builtin l m = elim (ℕ_discrete r.role 1) [
    | yes e ↦ rw e
    | no a ↦ elim (ℕ_discrete r.role 2) [
      | yes e ↦ rw e
      | no b ↦ let e : r.role ≡ 3 = omega arith in rw e
    ]
  ]

  role_function : r.role ≡ 4 → name_rule n w (role_of r) cs ≡ function_call n w r.p cs
  unfolding role_of choose test◌then◌else◌ name_rule
  role_function e = rw e

  role_none : r.role < 1 → name_rule n w (role_of r) cs ≡ each_then unknown cs
  unfolding role_of choose test◌then◌else◌ name_rule
  role_none l = let e : r.role ≡ 0 = omega arith in rw e

  role_other : 4 < r.role → name_rule n w (role_of r) cs ≡ each_then unknown cs
  unfolding role_of choose test◌then◌else◌ name_rule
  role_other l =
      let a : r.role ≡ 1 → ⊥ = λ e. absurd (omega arith) in
      let b : r.role ≡ 2 → ⊥ = λ e. absurd (omega arith) in
      let c : r.role ≡ 3 → ⊥ = λ e. absurd (omega arith) in
      let d : r.role ≡ 4 → ⊥ = λ e. absurd (omega arith) in
      rw (ne_eqb r.role 1 a, ne_eqb r.role 2 b, ne_eqb r.role 3 c, ne_eqb r.role 4 d)

role_takes : (r : NameRecord) → r.role ≡ 4 → role_of r ≡ takes r.p
unfolding role_of choose test◌then◌else◌
role_takes r e = rw e

each_unknown : (n : ℕ) (cs : Children) → each_then unknown cs ≡ rule_of (Each 0) n cs
unfolding rule_of plain_type
each_unknown n cs = refl

module _ (ws : List Name) (t : Tab) (a b : ℕ) where
  pieces_37 : pieces ws t 37 a b ≡ a_text (name_of ws a).spelling ∷ a_text (described (name_of ws a).role) ∷ a_number b ∷ []
  unfolding pieces types_named base_open
  pieces_37 = refl

  pieces_38 : (p : ℕ) → (name_of ws a).role ≡ takes p → pieces ws t 38 a b ≡ a_text (name_of ws a).spelling ∷ a_number p ∷ a_number b ∷ []
  unfolding pieces types_named taken base_open
  pieces_38 p e = rw e

-- ---- plans

module _ (ws : List Name) (x count : ℕ) where
  planned_by : {k : Rule} → ((n : ℕ) (cs : Children) → length cs ≡ count → name_rule n (name_of ws x) (name_of ws x).role cs ≡ rule_of k n cs)
      → Enough k count → Planned ws x count (Ok k)
  planned_by f h = record {
    well = λ j e n cs l. f n cs l ∙ ap (λ r. rule_of r n cs) (same_rule e);
    enough = λ j e. rw (sym (same_rule e)) h;
    ill = λ c e. by_not_refused e;
    codes = λ c e. by_not_refused e;
  }

  planned_refused : (code : Code) → 37 ≤ code_number code → code_number code ≤ 38
      → ((t : Tab) (n : ℕ) (cs : Children) → length cs ≡ count
      → name_rule n (name_of ws x) (name_of ws x).role cs ≡ refused (refusal (code_number code) n (pieces ws t (code_number code) x count)))
      → Planned ws x count (Err code)
  planned_refused code l m f = record {
    well = λ k e. by_not_refused (sym e);
    enough = λ k e. by_not_refused (sym e);
    ill = λ c e t n cs h. rw (sym (same_code e)) (f t n cs h);
    codes = λ c e. rw (sym (same_code e)) (l, m);
  }

-- ---- the name of a sound image

name_safe : {bs : List ℕ} → Sound bs → (x : ℕ) → x < name_count bs → safe (name_of (names_of bs) x) ≡ true
unfolding name_of unsafe_name
name_safe {bs} s x h = all_pass (λ (i : ℕ) (w : Name). safe w) (names_of bs) _ s.safe x (rw names_many h)

module _ (bs : List ℕ) (x count : ℕ) {r : NameAt} (e : name_means r ≡ record_of (name_records bs) x) where
  own : {z : Checked} (n : ℕ) (cs : Children) → name_rule n (name_of (names_of bs) x) (role_of (name_means r)) cs ≡ z
      → name_rule n (name_of (names_of bs) x) (name_of (names_of bs) x).role cs ≡ z
  own n cs p = ap (λ o. name_rule n (name_of (names_of bs) x) o cs) (sym (role_of_lem bs x e)) ∙ p

  own_allows : {b : Bool} → b ≡ allows (role_of (name_means r)) count → b ≡ allows (name_of (names_of bs) x).role count
  own_allows a = a ∙ ap (λ o. allows o count) (role_of_lem bs x e)

  -- a builtin whose role allows the count
  pub plan_builtin : Sound bs → x < name_count bs → 1 ≤ r.role → r.role ≤ 3
      → {b : Bool} → b ≡ allows (role_of (name_means r)) count → b ≡ true
      → {text : List ℕ} {k : Rule} → text ≡ (name_of (names_of bs) x).spelling → Chosen text k → Planned (names_of bs) x count (Ok k)
  plan_builtin s h l m a y t k =
      let w : Name = name_of (names_of bs) x in
      let allowed : allows w.role count ≡ true = sym (own_allows a) ∙ y in
      planned_by (names_of bs) x count
      (λ n cs q.
      own n cs (role_builtin n w cs (name_means r) l m) ∙ builtin_counted n w cs (ap (allows w.role) q ∙ allowed)
      ∙ ap (λ s. builtin_rule n s cs) (sym t)
      ∙ k.says n cs)
      (k.enough w count (sym t) (name_safe s x h) allowed)

  -- and one whose role does not
  pub plan_37 : 1 ≤ r.role → r.role ≤ 3 → {b : Bool} → b ≡ allows (role_of (name_means r)) count → b ≡ false
      → Planned (names_of bs) x count (Err BuiltinArity)
  plan_37 l m a y =
      let w : Name = name_of (names_of bs) x in
      planned_refused (names_of bs) x count BuiltinArity (omega arith) (omega arith)
      (λ t n cs q.
      own n cs (role_builtin n w cs (name_means r) l m)
      ∙ builtin_miscounted n w cs (ap (allows w.role) q ∙ sym (own_allows a) ∙ y)
      ∙ ap (λ ps. refused (refusal 37 n ps)) (rw q (sym (pieces_37 (names_of bs) t x count))))

  pub plan_function : r.role ≡ 4 → count ≡ r.p → Planned (names_of bs) x count (Ok (Each 0))
  plan_function f c =
      planned_by (names_of bs) x count
      (λ n cs q. own n cs (role_function n _ cs (name_means r) f) ∙ function_counted n _ cs r.p (q ∙ c) ∙ each_unknown n cs)
      (omega arith)

  pub plan_38 : r.role ≡ 4 → (count ≡ r.p → ⊥) → Planned (names_of bs) x count (Err FunctionArity)
  plan_38 f d =
      planned_refused (names_of bs) x count FunctionArity (omega arith) (omega arith)
      (λ t n cs q.
      own n cs (role_function n _ cs (name_means r) f) ∙ function_miscounted n _ cs r.p (λ z. d (sym q ∙ z))
      ∙ ap (λ ps. refused (refusal 38 n ps)) (rw q (sym (pieces_38 (names_of bs) t x count r.p (sym (role_of_lem bs x e) ∙ role_takes (name_means r) f)))))

  -- a name that is neither
  pub plan_none : r.role < 1 → Planned (names_of bs) x count (Ok (Each 0))
  plan_none l =
      planned_by (names_of bs) x count (λ n cs q. own n cs (role_none n _ cs (name_means r) l) ∙ each_unknown n cs) (omega arith)

  pub plan_other : 4 < r.role → Planned (names_of bs) x count (Ok (Each 0))
  plan_other l =
      planned_by (names_of bs) x count (λ n cs q. own n cs (role_other n _ cs (name_means r) l) ∙ each_unknown n cs) (omega arith)
