use mathlib.Core.Path.{refl}
use Rattle.show.proofs.Turning.{alone_listing, alone_there, alone_written}
use Rattle.show.proofs.Opened.write_alone.Goals as goal

pub write-requires : goal.write-requires
write-requires c = alone_listing c.args.self.now c.requires.k_bound _ refl

pub unwrap-requires : goal.unwrap-requires
unwrap-requires c = alone_there c.args.self.now c.requires.k_bound _ refl c.requires.out_len c.write.ensures

pub returns : goal.returns
returns c =
    let all = alone_written c.args.self.now c.requires.k_bound _ refl c.requires.out_len (rw c.unwrap.ensures at c.write.ensures) in
    record { out_after = all.0; upper_bound = all.1 }
