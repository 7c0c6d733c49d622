use Rattle.image.proofs.Moving.{stops}
use Rattle.nodes.proofs.Deciding.{decidable_as, decided_given, decided_kept, given_node, index_decides, index_placed, kind_as, other_given, tuple_given, unary_decides}
use mathlib.Core.List.{List}
use mathlib.Core.Path.{refl}
use Rattle.meaning.specs.Image.{Name}
use native.Mathlib.Omega.{arith}
use Rattle.nodes.proofs.decide.Goals as goal

pub returns-in-22 : goal.returns-in-22
returns-in-22 c =
    let x = λ (ws : List Name). unary_decides (decidable_as c.next-read.ensures.node c.requires.decidable) ws c.in-22.is refl c.unary.ensures in (
      given_node _ _ _ _ _ c.next-read.ensures.node (decided_given c.requires.decidable.listed.wf x c.settle.ensures _ _ c.requires.decidable.there),
      decided_kept c.requires.decidable.listed.wf x c.settle.ensures,
    )

pub returns-in-31 : goal.returns-in-31
returns-in-31 c =
    let x = λ (ws : List Name). index_decides (decidable_as c.next-read.ensures.node c.requires.decidable) ws c.in-31.is refl refl c.next-read.ensures.at (stops c.over-passed.ensures) c.index-decision.ensures in
    let f = rw c.index_place.ensures at c.settle-in-31.ensures in (
      given_node _ _ _ _ _ c.next-read.ensures.node
          (decided_given c.requires.decidable.listed.wf x f _ _
          (index_placed (decidable_as c.next-read.ensures.node c.requires.decidable) _ c.in-31.is c.next-read.ensures.at (stops c.over-passed.ensures))),
      decided_kept c.requires.decidable.listed.wf x f,
    )

pub returns-in-28 : goal.returns-in-28
returns-in-28 c = (
  given_node _ _ _ _ _ c.next-read.ensures.node
      (tuple_given (decidable_as c.next-read.ensures.node c.requires.decidable) _ _ _ c.in-28.is refl c.tuple_of.ensures),
  record { ret = refl; top = refl; coded = λ e. cc },
)

pub returns-in_default : goal.returns-in_default
returns-in_default c = (
  given_node _ _ _ _ _ c.next-read.ensures.node
      (other_given (decidable_as c.next-read.ensures.node c.requires.decidable) _ _ _ (omega arith)
      (λ e. c.requires.fact (kind_as c.next-read.ensures.node e)) (omega arith) (omega arith) refl refl),
  record { ret = refl; top = refl; coded = λ e. cc },
)
