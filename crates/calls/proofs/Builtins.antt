-- The rule of a builtin's text, row by row, and the arguments that are there for it to look at.
use mathlib.Core.Path.{◌≡◌, refl, sym, ap, ◌∙◌}
use mathlib.Core.Bool.{Bool, true, false, not, false≢true}
use mathlib.Core.List.{List, [], ◌∷◌}
use Prim.Native.Nat.{ℕ, ◌<◌}
use Prim.Native.String.{String}
use native.Mathlib.Omega.{arith}
use borrow.Author.Rules.{rules}
use lib.Chars.{codes}
use lib.ListN.{length}
use Rattle.std.proofs.lemmas.Slice.Eq.{HasBytesAt, text_from_reads}
use native.Mathlib.Decide.{ℕ_discrete}
use Rattle.meaning.specs.Base.{◌and◌, ◌or◌, test◌then◌else◌, bytes, same_text, is_one_of}
use Rattle.meaning.specs.Types.{plain}
use Rattle.meaning.specs.Image.{Name, allows, safe}
use Rattle.meaning.specs.Operators.{Checked}
use Rattle.meaning.specs.Rules.{Children, choose_text, builtin_rule}
use Rattle.meaning.proofs.Choices.{and_left, and_right, both, same_text_lem}
use Rattle.image.specs.Parts.{one_argument, two_arguments}
use Rattle.calls.specs.declared.Rule.{Rule}
use Rattle.calls.specs.declared.Rule.TheVariants.{Each, First, Input, Len, Range, Map, Filter}
use Rattle.calls.specs.Planning.{rule_of, Enough, Chosen}

unfoldable pub builtins : List (List ℕ × Rule)
builtins =
    (bytes "print", Each 5)
    ∷ (bytes "input", Input)
    ∷ (bytes "int", First 1)
    ∷ (bytes "float", First 4)
    ∷ (bytes "bool", First 2)
    ∷ (bytes "str", First 3)
    ∷ (bytes "len", Len)
    ∷ (bytes "range", Range)
    ∷ (bytes "assert", First 5)
    ∷ (bytes "map", Map)
    ∷ (bytes "filter", Filter)
    ∷ []

-- the rule of the row that has the text
unfoldable pub rule_in : List ℕ → List (List ℕ × Rule) → Rule
rule_in s [] = Each 0
rule_in s (r ∷ rs) = let later = rule_in s rs in test same_text s r.0 then r.1 else later

-- ---- each row's rule is what `builtin_rule` has for its text

one_row : (f : Rule → Checked) (s x : List ℕ) (k : Rule) (ks : List (List ℕ × Rule)) (d : Checked) (rs : List (List ℕ × Checked))
    → choose_text s d rs ≡ f (rule_in s ks) → choose_text s d ((x, f k) ∷ rs) ≡ f (rule_in s ((x, k) ∷ ks))
unfolding choose_text rule_in test◌then◌else◌
one_row f s x k ks d rs e = by (same_text s x)
  where
    by : (q : Bool) → (test q then f k else choose_text s d rs) ≡ f (test q then k else rule_in s ks)
    by true = refl
    by false = e

last_row : (f : Rule → Checked) (s : List ℕ) → choose_text s (f (Each 0)) [] ≡ f (rule_in s [])
unfolding choose_text rule_in
last_row f s = refl

builtin_rule_lem : (n : ℕ) (s : List ℕ) (cs : Children) → builtin_rule n s cs ≡ rule_of (rule_in s builtins) n cs
unfolding builtin_rule builtins rule_of plain
builtin_rule_lem n s cs =
    let f : Rule → Checked = λ k. rule_of k n cs in
    one_row f s _ (Each 5) _ _ _
    (one_row f s _ Input _ _ _
    (one_row f s _ (First 1) _ _ _
    (one_row f s _ (First 4) _ _ _
    (one_row f s _ (First 2) _ _ _
    (one_row f s _ (First 3) _ _ _
    (one_row f s _ Len _ _ _
    (one_row f s _ Range _ _ _
    (one_row f s _ (First 5) _ _ _
    (one_row f s _ Map _ _ _
    (one_row f s _ Filter _ _ _ (last_row f s)))))))))))

-- ---- the counts that a sound image allows a builtin

or_left : (a b : Bool) → a ≡ true → (a or b) ≡ true
unfolding ◌or◌
or_left a b e = rw e

or_right : (a b : Bool) → b ≡ true → (a or b) ≡ true
unfolding ◌or◌
or_right true b e = refl
or_right false b e = e

here : (s : List ℕ) (t : String) (ts : List String) → same_text s (bytes t) ≡ true → is_one_of s (t ∷ ts) ≡ true
unfolding is_one_of
here s t ts e = or_left _ _ e

later : (s : List ℕ) (t : String) (ts : List String) → is_one_of s ts ≡ true → is_one_of s (t ∷ ts) ≡ true
unfolding is_one_of
later s t ts e = or_right _ _ e

clash : (b : Bool) → b ≡ true → not b ≡ true → ⊥
clash true e h = false≢true h
clash false e h = false≢true e

-- what holds of a row's rule where the text is the row's, and of the rule of the other rows
by_row : (P : Rule → Type 0) (s x : List ℕ) (k : Rule) (ks : List (List ℕ × Rule)) → (same_text s x ≡ true → P k) → P (rule_in s ks)
    → P (rule_in s ((x, k) ∷ ks))
unfolding rule_in test◌then◌else◌
by_row P s x k ks p q = by (same_text s x) refl
  where
    by : (b : Bool) → same_text s x ≡ b → P (test b then k else rule_in s ks)
    by true e = p e
    by false e = q

by_none : (P : Rule → Type 0) (s : List ℕ) → P (Each 0) → P (rule_in s [])
unfolding rule_in
by_none P s p = p

module _ (w : Name) (c : ℕ) (stands : safe w ≡ true) (allowed : allows w.role c ≡ true) where
  one_needed : is_one_of w.spelling one_argument ≡ true → 0 < c
  unfolding safe
  one_needed e = elim (ℕ_discrete c 0) [
    | yes z ↦ absurd (clash _ (both _ _ e (ap (allows w.role) (sym z) ∙ allowed)) (and_left _ _ stands))
    | no z ↦ omega arith
  ]

  two_needed : is_one_of w.spelling two_arguments ≡ true → 1 < c
  unfolding safe
  two_needed e = elim (ℕ_discrete c 0) [
    | yes z ↦ absurd (clash _ (both _ _ e (or_left _ _ (ap (allows w.role) (sym z) ∙ allowed))) (and_right _ _ stands))
    | no z ↦ elim (ℕ_discrete c 1) [
      | yes y ↦ absurd (clash _ (both _ _ e (or_right _ _ (ap (allows w.role) (sym y) ∙ allowed))) (and_right _ _ stands))
      | no y ↦ omega arith
    ]
  ]

  enough_there : Enough (rule_in w.spelling builtins) c
  unfolding builtins
  enough_there =
      let P : Rule → Type 0 = λ k. Enough k c in
      let s : List ℕ = w.spelling in
      by_row P s _ (Each 5) _ (λ e. omega arith)
      (by_row P s _ Input _ (λ e. tt)
      (by_row P s _ (First 1) _ (λ e. (omega arith, one_needed (here _ _ _ e)))
      (by_row P s _ (First 4) _ (λ e. (omega arith, one_needed (later _ _ _ (here _ _ _ e))))
      (by_row P s _ (First 2) _ (λ e. (omega arith, one_needed (later _ _ _ (later _ _ _ (here _ _ _ e)))))
      (by_row P s _ (First 3) _ (λ e. (omega arith, one_needed (later _ _ _ (later _ _ _ (later _ _ _ (here _ _ _ e))))))
      (by_row P s _ Len _ (λ e. one_needed (later _ _ _ (later _ _ _ (later _ _ _ (later _ _ _ (here _ _ _ e))))))
      (by_row P s _ Range _ (λ e. tt)
      (by_row P s _ (First 5) _ (λ e. (omega arith, one_needed (later _ _ _ (later _ _ _ (later _ _ _ (later _ _ _ (later _ _ _ (here _ _ _ e))))))))
      (by_row P s _ Map _ (λ e. two_needed (here _ _ _ e))
      (by_row P s _ Filter _ (λ e. two_needed (later _ _ _ (here _ _ _ e)))
      (by_none P s (omega arith))))))))))))

-- ---- what a way through the rows gives

pub chosen : {s : List ℕ} {k : Rule} → k ≡ rule_in s builtins → Chosen s k
chosen {s} {k} e = record {
  says = λ n cs. builtin_rule_lem n s cs ∙ ap (λ r. rule_of r n cs) (sym e);
  enough = λ w c h stands allowed. rw (e, sym h) (enough_there w c stands allowed);
}

-- ---- what the code reads, by which a match on the text is proved

-- s has the bytes of p, as the code reads them
abbrev pub Reads : List ℕ → List ℕ → Type 0
Reads s p = (length s ≡ length p) × HasBytesAt s 0 p

pub chosen_print : (s : List ℕ) → Reads s (codes "print") → Chosen s (Each 5)
unfolding builtins rule_in bytes same_text test◌then◌else◌ ◌and◌
chosen_print s r = chosen (rw (text_from_reads s (codes "print") r.0 r.1))

pub chosen_input : (s : List ℕ) → Reads s (codes "input") → Chosen s Input
unfolding builtins rule_in bytes same_text test◌then◌else◌ ◌and◌
chosen_input s r = chosen (rw (text_from_reads s (codes "input") r.0 r.1))

pub chosen_int : (s : List ℕ) → Reads s (codes "int") → Chosen s (First 1)
unfolding builtins rule_in bytes same_text test◌then◌else◌ ◌and◌
chosen_int s r = chosen (rw (text_from_reads s (codes "int") r.0 r.1))

pub chosen_float : (s : List ℕ) → Reads s (codes "float") → Chosen s (First 4)
unfolding builtins rule_in bytes same_text test◌then◌else◌ ◌and◌
chosen_float s r = chosen (rw (text_from_reads s (codes "float") r.0 r.1))

pub chosen_bool : (s : List ℕ) → Reads s (codes "bool") → Chosen s (First 2)
unfolding builtins rule_in bytes same_text test◌then◌else◌ ◌and◌
chosen_bool s r = chosen (rw (text_from_reads s (codes "bool") r.0 r.1))

pub chosen_str : (s : List ℕ) → Reads s (codes "str") → Chosen s (First 3)
unfolding builtins rule_in bytes same_text test◌then◌else◌ ◌and◌
chosen_str s r = chosen (rw (text_from_reads s (codes "str") r.0 r.1))

pub chosen_len : (s : List ℕ) → Reads s (codes "len") → Chosen s Len
unfolding builtins rule_in bytes same_text test◌then◌else◌ ◌and◌
chosen_len s r = chosen (rw (text_from_reads s (codes "len") r.0 r.1))

pub chosen_range : (s : List ℕ) → Reads s (codes "range") → Chosen s Range
unfolding builtins rule_in bytes same_text test◌then◌else◌ ◌and◌
chosen_range s r = chosen (rw (text_from_reads s (codes "range") r.0 r.1))

pub chosen_assert : (s : List ℕ) → Reads s (codes "assert") → Chosen s (First 5)
unfolding builtins rule_in bytes same_text test◌then◌else◌ ◌and◌
chosen_assert s r = chosen (rw (text_from_reads s (codes "assert") r.0 r.1))

pub chosen_map : (s : List ℕ) → Reads s (codes "map") → Chosen s Map
unfolding builtins rule_in bytes same_text test◌then◌else◌ ◌and◌
chosen_map s r = chosen (rw (text_from_reads s (codes "map") r.0 r.1))

pub chosen_filter : (s : List ℕ) → Reads s (codes "filter") → Chosen s Filter
unfolding builtins rule_in bytes same_text test◌then◌else◌ ◌and◌
chosen_filter s r = chosen (rw (text_from_reads s (codes "filter") r.0 r.1))

-- none of the eleven
pub chosen_other : (s : List ℕ)
    → (Reads s (codes "print") → ⊥)
    → (Reads s (codes "input") → ⊥)
    → (Reads s (codes "int") → ⊥)
    → (Reads s (codes "float") → ⊥)
    → (Reads s (codes "bool") → ⊥)
    → (Reads s (codes "str") → ⊥)
    → (Reads s (codes "len") → ⊥)
    → (Reads s (codes "range") → ⊥)
    → (Reads s (codes "assert") → ⊥)
    → (Reads s (codes "map") → ⊥)
    → (Reads s (codes "filter") → ⊥)
    → Chosen s (Each 0)
unfolding builtins bytes
chosen_other s n0 n1 n2 n3 n4 n5 n6 n7 n8 n9 n10 =
    let P : Rule → Type 0 = λ k. Each 0 ≡ k in
    chosen (
    by_row P s _ (Each 5) _ (λ e. absurd (n0 (rw (same_text_lem s _ e) (search rules)))) (
    by_row P s _ Input _ (λ e. absurd (n1 (rw (same_text_lem s _ e) (search rules)))) (
    by_row P s _ (First 1) _ (λ e. absurd (n2 (rw (same_text_lem s _ e) (search rules)))) (
    by_row P s _ (First 4) _ (λ e. absurd (n3 (rw (same_text_lem s _ e) (search rules)))) (
    by_row P s _ (First 2) _ (λ e. absurd (n4 (rw (same_text_lem s _ e) (search rules)))) (
    by_row P s _ (First 3) _ (λ e. absurd (n5 (rw (same_text_lem s _ e) (search rules)))) (
    by_row P s _ Len _ (λ e. absurd (n6 (rw (same_text_lem s _ e) (search rules)))) (
    by_row P s _ Range _ (λ e. absurd (n7 (rw (same_text_lem s _ e) (search rules)))) (
    by_row P s _ (First 5) _ (λ e. absurd (n8 (rw (same_text_lem s _ e) (search rules)))) (
    by_row P s _ Map _ (λ e. absurd (n9 (rw (same_text_lem s _ e) (search rules)))) (
    by_row P s _ Filter _ (λ e. absurd (n10 (rw (same_text_lem s _ e) (search rules)))) (by_none P s refl))))))))))))

-- for builtin_of
pub ruleset texts = (chosen_print, chosen_input, chosen_int, chosen_float, chosen_bool, chosen_str, chosen_len, chosen_range, chosen_assert, chosen_map, chosen_filter, chosen_other)
