use Rattle.std.proofs.Common.{◌^◌, ◌<◌, arith}
use Rattle.replay.proofs.Fronts.{hex_wrote}
use Rattle.replay.proofs.put_hex.Goals as goal

pub returns-clause-wrote : goal.returns-clause-wrote
returns-clause-wrote c =
    let a = c.args in
    let h : a.n < 2 ^ 64 = omega arith in
    (hex_wrote a.n c.hex-count.result _ h c.hex-count.ensures.len c.hex-count.ensures.in_bounds.1 c.requires c.hex-count.ensures.digits c.put.ensures.buf_after c.put.ensures.value).0
