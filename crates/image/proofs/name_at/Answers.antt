use Rattle.image.proofs.Records.{record_of_lem}
use mathlib.Core.Path.{sym, ◌∙◌}
use Rattle.image.proofs.name_at.Goals as goal

pub returns : goal.returns
returns c =
    c.name_words.ensures ∙ sym (record_of_lem c.args.image.now c.args.k c.requires.k_bound)
