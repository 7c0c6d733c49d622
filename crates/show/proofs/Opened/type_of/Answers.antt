use Rattle.show.proofs.Names.{types_known, type_told}
use Rattle.show.proofs.Opened.type_of.Goals as goal

pub returns : goal.returns
returns c = rw c.type_of.ensures (record { known = types_known c.args.self.now c.requires; means = type_told c.args.self.now c.requires })
