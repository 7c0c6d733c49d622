use Rattle.checker.proofs.Ends.{span_nowhere, span_at}
use Rattle.checker.proofs.span_of.Goals as goal

pub returns-in-None : goal.returns-in-None
returns-in-None c =
    span_nowhere _ c.in-None.is

pub returns-in-Some : goal.returns-in-Some
returns-in-Some c =
    span_at _ c.in-Some.is c.node_at-node.ensures
