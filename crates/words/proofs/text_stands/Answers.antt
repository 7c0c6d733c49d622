use Rattle.std.proofs.Common.{arith}
use Rattle.std.proofs.lemmas.Grind.{common_steps}
use Rattle.meaning.specs.Image.{text_stands}
use Rattle.meaning.specs.Base.{◌and◌}
use Rattle.words.proofs.text_stands.Goals as goal

pub returns-then-all_printable : goal.returns-then-all_printable
unfolding text_stands ◌and◌
returns-then-all_printable c = grind (arith, common_steps)

pub returns-else-all_printable : goal.returns-else-all_printable
unfolding text_stands ◌and◌
returns-else-all_printable c = grind (arith, common_steps)
