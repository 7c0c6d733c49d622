use mathlib.Core.Path.{◌∙◌}
use Rattle.words.proofs.Steps.{equal_texts}
use Rattle.words.proofs.same.Goals as goal

pub returns : goal.returns
returns c =
    c.eq.ensures ∙ equal_texts c.args.a.now c.args.b.now
