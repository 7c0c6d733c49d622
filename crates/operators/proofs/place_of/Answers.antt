use borrow.Author.Rules.{rules}
use Rattle.operators.proofs.Places.{place_turned, place_straight}
use Rattle.operators.proofs.place_of.Goals as goal

pub overflow_add-result : goal.overflow_add-result
overflow_add-result c =
    search (rules, (place_turned c.requires c.if-right-left.true).0, c.pairs_below.ensures)

pub returns-then-right-left : goal.returns-then-right-left
returns-then-right-left c =
    rw c.pairs_below.ensures (place_turned c.requires c.if-right-left.true)

pub overflow_add-result-2 : goal.overflow_add-result-2
overflow_add-result-2 c =
    search (rules, (place_straight c.requires c.if-right-left.false).0, c.pairs_below-2.ensures)

pub returns : goal.returns
returns c =
    rw c.pairs_below-2.ensures (place_straight c.requires c.if-right-left.false)
