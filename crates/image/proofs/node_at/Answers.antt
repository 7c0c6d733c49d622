use Rattle.meaning.proofs.Records.{node_at}
use mathlib.Core.Path.{sym, ◌∙◌}
use Rattle.image.proofs.node_at.Goals as goal

pub returns : goal.returns
returns c =
    rw c.requires.nodes_value.0 at c.node_words.ensures ∙ sym (node_at c.args.image.now c.args.i c.requires.nodes_value.1)
