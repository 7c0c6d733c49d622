use Rattle.checker.proofs.Ends.{accept_listing, accepted}
use Rattle.checker.proofs.accept.Goals as goal

pub write-requires : goal.write-requires
write-requires c =
    accept_listing c.requires c.list_names-count.ensures

pub returns : goal.returns
returns c =
    rw c.ok_or.ensures.value (accepted c.requires c.list_names-count.ensures _ c.write.ensures)
