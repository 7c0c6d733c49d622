-- Frames and the check of an expression, word for word as they stood before request One: a slot is a type. What did not move is used as it
-- stands, so `call_rule` has its argument `ws` here. BeforeWalk goes on from here; AsBefore proves that the nodes can be forgotten.
use mathlib.Core.List.{List, [], ◌∷◌}
use mathlib.Core.Option.{Option, none, some}
use Prim.Native.Nat.{ℕ}
use lib.ListN.{get_or, set, replicate}
use Rattle.meaning.specs.Limits.{most_names}
use Rattle.meaning.specs.Base.{if_some, or_else}
use Rattle.meaning.specs.Types.{Ty, unknown, function, tuple, tys}
use Rattle.meaning.specs.Tree.{Expr, at, Form, literal, variable, unary, binary, call, attribute, list_of, dict_of, tuple_of, set_of, index, lambda, Exprs, no_exprs, ◌also◌, place, called}
use Rattle.meaning.specs.Image.{Name}
use Rattle.meaning.specs.Operators.{Checked, ok, ◌>>=◌, binary_rule, unary_rule}
use Rattle.meaning.specs.Rules.{Children, each, each_then, list_rule, dict_rule, index_rule, call_rule}

-- ---- Frames

-- A frame has a slot for each name that an image can have. Names are numbered in byte order, and so are the slots.
abbrev pub Frame : Type 0
Frame = List (Option Ty)

abbrev pub Frames : Type 0
Frames = List Frame

unfoldable pub empty : Frame
empty = replicate most_names none

unfoldable pub newest : Frames → Frame
newest [] = []
newest (f ∷ fs) = f

-- the newest frame's own slot
unfoldable pub slot_in : Frames → ℕ → Option Ty
slot_in Γ x = get_or (newest Γ) x none

unfoldable pub find : Frames → ℕ → Option Ty
find [] x = none
find (f ∷ fs) x = if_some (get_or f x none) some (find fs x)

unfoldable pub lookup : Frames → ℕ → Ty
lookup Γ x = or_else (find Γ x) unknown

unfoldable pub write : ℕ → Ty → Frames → Frames
write x t [] = []
write x t (f ∷ fs) = set f x (some t) ∷ fs

-- ---- Rules

module _ (ws : List Name) where
  unfoldable mutual
    pub check : Frames → Expr → Checked
    check Γ (at n f) = check_form Γ n f

    pub check_form : Frames → ℕ → Form → Checked
    check_form Γ n (literal t) = ok t
    check_form Γ n (variable x) = ok (lookup Γ x)
    check_form Γ n (unary o e) = do
      t ← check Γ e
      unary_rule n o t
    check_form Γ n (binary o l r) = do
      a ← check Γ l
      b ← check Γ r
      binary_rule n o a b
    check_form Γ n (call f es) = call_rule ws n (called f) (check Γ f) (check_all Γ es)
    check_form Γ n (attribute e) = do
      _ ← check Γ e
      ok unknown
    check_form Γ n (list_of es) = list_rule unknown (check_all Γ es)
    check_form Γ n (dict_of es) = dict_rule unknown unknown (check_all Γ es)
    check_form Γ n (tuple_of es) = each (check_all Γ es) (λ ts. ok (tuple (tys ts))) []
    check_form Γ n (set_of es) = each_then unknown (check_all Γ es)
    check_form Γ n (index o i) = do
      a ← check Γ o
      b ← check Γ i
      index_rule (place o) a (place i) b
    check_form Γ n lambda = ok function

    pub check_all : Frames → Exprs → Children
    check_all Γ no_exprs = []
    check_all Γ (e also es) = (place e, check Γ e) ∷ check_all Γ es
