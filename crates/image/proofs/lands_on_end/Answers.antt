use Rattle.image.proofs.Nesting.{node_stands_lem, lands_past, lands_wrong, lands_next}
use Rattle.image.specs.Parts.{node_means}
use Rattle.meaning.specs.Image.{Node, nodes_of}
use mathlib.Core.Path.{sym, ap, ◌∙◌}
use native.Mathlib.Omega.{arith}
use Rattle.image.proofs.lands_on_end.Goals as goal

pub node_at-child-requires-clause-nodes_value : goal.node_at-child-requires-clause-nodes_value
node_at-child-requires-clause-nodes_value c =
    let stands = node_stands_lem c.args.image.now c.requires.image_value c.args.i c.requires.nodes_value.1 in
    (c.requires.nodes_value.0, omega (arith, rw (← c.node_at-d.ensures) at stands.within))

pub returns-then-d-at : goal.returns-then-d-at
returns-then-d-at c =
    let l = c.loop-j in
    rw (← c.node_at-d.ensures)
    (sym (lands_past (nodes_of c.args.image.now) (node_means c.node_at-d.result) l.at l.j c.loop-j-test.true c.if-d-at.true) ∙ l.invariant)

pub returns-then-not-has_business : goal.returns-then-not-has_business
returns-then-not-has_business c =
    let l = c.loop-j in
    let kind = ap (λ (n : Node). n.kind) c.node_at-child.ensures in
    let wrong = rw kind at (sym c.has_business.ensures ∙ c.if-not-has_business.true) in
    rw (← c.node_at-d.ensures)
    (sym (lands_wrong (nodes_of c.args.image.now) (node_means c.node_at-d.result) l.at l.j c.loop-j-test.true c.if-d-at.false wrong) ∙ l.invariant)

pub loop-j-preserved : goal.loop-j-preserved
loop-j-preserved c =
    let l = c.loop-j in
    let kind = ap (λ (n : Node). n.kind) c.node_at-child.ensures in
    let stop = ap (λ (n : Node). n.stop) c.node_at-child.ensures in
    let right = rw kind at (sym c.has_business.ensures ∙ c.if-not-has_business.false) in
    rw stop
    (sym (lands_next (nodes_of c.args.image.now) (node_means c.node_at-d.result) l.at l.j c.loop-j-test.true c.if-d-at.false right) ∙ l.invariant)
