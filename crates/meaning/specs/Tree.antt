-- The tree of a program (ast.rs). An expression or a statement is its node's number and its form; a name is its record's number.
use Rattle.std.specs.Prelude.{List, ℕ, suc}
use Rattle.std.proofs.Math.Option.{Option, none, some}
use Rattle.meaning.specs.Types.{Ty}

-- ---- operators, "both in ast.rs order"

pub data UnaryOp : Type 0 where
  not_op negate pos : UnaryOp

pub data BinaryOp : Type 0 where
  add subtract multiply divide floor_divide modulo equal not_equal less less_equal greater greater_equal and_op or_op : BinaryOp

-- ---- expressions

infixr 60 ◌also◌
mutual
  pub data Expr : Type 0 where
    at : ℕ → Form → Expr

  -- Set and TreeSet are one form here: T treats them alike
  pub data Form : Type 0 where
    literal : Ty → Form
    variable : ℕ → Form
    unary : UnaryOp → Expr → Form
    binary : BinaryOp → Expr → Expr → Form
    call : Expr → Exprs → Form
    attribute : Expr → Form
    list_of dict_of tuple_of set_of : Exprs → Form
    index : Expr → Expr → Form
    lambda : Form

  pub data Exprs : Type 0 where
    no_exprs : Exprs
    ◌also◌ : Expr → Exprs → Exprs

unfoldable pub place : Expr → ℕ
place (at n f) = n

unfoldable pub size : Exprs → ℕ
size no_exprs = 0
size (e also es) = suc (size es)

unfoldable pub name_in : Form → Option ℕ
name_in (literal t) = none
name_in (variable x) = some x
name_in (unary o e) = none
name_in (binary o l r) = none
name_in (call f es) = none
name_in (attribute e) = none
name_in (list_of es) = none
name_in (dict_of es) = none
name_in (tuple_of es) = none
name_in (set_of es) = none
name_in (index o i) = none
name_in lambda = none

-- the name that an expression is, if it is a Variable
unfoldable pub called : Expr → Option ℕ
called (at n f) = name_in f

-- ---- statements

infixr 60 ◌next◌ ◌else_arms◌
mutual
  pub data Stmt : Type 0 where
    line : ℕ → Act → Stmt

  pub data Act : Type 0 where
    break continue pass class : Act
    assign : Expr → Expr → Act
    expr return : Expr → Act
    if_then : Arms → Act
    while : Expr → Stmts → Act
    for : ℕ → Expr → Stmts → Act
    def : List ℕ → Stmts → Act

  pub data Stmts : Type 0 where
    no_stmts : Stmts
    ◌next◌ : Stmt → Stmts → Stmts

  -- an If's branches
  pub data Arms : Type 0 where
    no_arms : Arms
    ◌else_arms◌ : Arm → Arms → Arms

  -- a branch with its condition; the last may have none
  pub data Arm : Type 0 where
    on : Expr → Stmts → Arm
    otherwise : Stmts → Arm

-- the first condition's node: where an If whose branches disagree is refused
unfoldable pub first_condition : Arms → ℕ
first_condition no_arms = 0
first_condition (on c b else_arms rest) = place c
first_condition (otherwise b else_arms rest) = 0

unfoldable pub tree_open : Unit {0}
unfolding place size name_in called first_condition
tree_open = tt
