use Rattle.sheet.proofs.Ending.{wrote_short, wrote_inside, wrote_compared}
use lib.ListN.{length-replicate}
use Prim.Native.Nat.{ℕ}
use Rattle.meaning.specs.Limits.{largest_sheet}
use Rattle.sheet.proofs.reader.rewrites.Goals as goal

pub write-requires : goal.write-requires
write-requires c =
    c.requires

pub text-requires : goal.text-requires
text-requires c =
    wrote_inside c.in-Some.ensures

pub returns-in-Some : goal.returns-in-Some
returns-in-Some c =
    wrote_compared c.in-Some.ensures (length-replicate {A = ℕ} largest_sheet 0) c.text.ensures c.same.ensures

pub returns-in-None : goal.returns-in-None
returns-in-None c =
    wrote_short c.in-None.ensures (length-replicate {A = ℕ} largest_sheet 0)
