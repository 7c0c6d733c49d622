use Rattle.show.proofs.Names.{name_told}
use Rattle.show.proofs.Opened.name.Goals as goal

pub returns : goal.returns
returns c = name_told c.args.self.now c.requires c.text.ensures c.start_of.ensures c.length_of.ensures
