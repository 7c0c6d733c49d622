-- Calls of names: by role and count a refusal, or the rule of a builtin's text and what it makes of the arguments.
use Rattle.std.specs.Prelude.{◌≡◌, true, List, Result, Ok, Err, ℕ, ◌<◌, ◌≤◌, length}
use Rattle.meaning.specs.Types.{plain, unknown, map_iter, filter_iter}
use Rattle.meaning.specs.Image.{Name, name_of, allows, safe}
use Rattle.meaning.specs.Message.{refusal}
use Rattle.meaning.specs.Operators.{Checked, refused}
use Rattle.meaning.specs.Rules.{Children, each_then, first_then, input_rule, len_rule, range_rule, stream_rule, builtin_rule, name_rule}
use Rattle.codes.specs.declared.Code.{Code}
use Rattle.codes.specs.Codes.{code_number}
use Rattle.types.specs.Table.{Tab}
use Rattle.rules.specs.Outcome.{pieces}
use Rattle.calls.specs.declared.Rule.{Rule}
use Rattle.calls.specs.declared.Rule.TheVariants.{Each, First, Input, Len, Range, Map, Filter}

-- what a rule makes of a call's arguments, at node n
unfoldable pub rule_of : Rule → ℕ → Children → Checked
rule_of (Each p) n cs = each_then (plain p) cs
rule_of (First p) n cs = first_then (plain p) cs
rule_of Input n cs = input_rule n cs
rule_of Len n cs = len_rule n cs
rule_of Range n cs = range_rule n cs
rule_of Map n cs = stream_rule 42 (λ t. map_iter unknown) cs
rule_of Filter n cs = stream_rule 44 filter_iter cs

-- a rule's plain type is one, and there are as many arguments as it looks at
abbrev pub Enough : Rule → ℕ → Type 0
Enough (Each p) n = p < 8
Enough (First p) n = (p < 8) × (0 < n)
Enough Input n = Unit {0}
Enough Len n = 0 < n
Enough Range n = Unit {0}
Enough Map n = 1 < n
Enough Filter n = 1 < n

-- the rule k is that of the text s: 5 refuses the builtins of this text whose role allows less than k looks at
pub record Chosen (s : List ℕ) (k : Rule) : Type 0 where
  pub says : (n : ℕ) (cs : Children) → builtin_rule n s cs ≡ rule_of k n cs
  pub enough : (w : Name) (count : ℕ) → w.spelling ≡ s → safe w ≡ true → allows w.role count ≡ true → Enough k count

-- a call's rule, or the code that refuses it
abbrev pub Plan : Type 0
Plan = Result Rule Code

-- the call of name x with so many arguments, at whatever node
pub record Planned (ws : List Name) (x count : ℕ) (p : Plan) : Type 0 where
  pub well : (k : Rule) → p ≡ Ok k → (n : ℕ) (cs : Children) → length cs ≡ count
      → name_rule n (name_of ws x) (name_of ws x).role cs ≡ rule_of k n cs
  pub enough : (k : Rule) → p ≡ Ok k → Enough k count
  pub ill : (code : Code) → p ≡ Err code → (t : Tab) (n : ℕ) (cs : Children) → length cs ≡ count
      → name_rule n (name_of ws x) (name_of ws x).role cs ≡ refused (refusal (code_number code) n (pieces ws t (code_number code) x count))
  pub codes : (code : Code) → p ≡ Err code → (37 ≤ code_number code) × (code_number code ≤ 38)
