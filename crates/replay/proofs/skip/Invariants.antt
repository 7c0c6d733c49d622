use Rattle.std.proofs.Common.{◌-◌}
use Rattle.replay.proofs.skip.Given as goal

abbrev pub decreases-loop-at : goal.decreases-loop-at
decreases-loop-at g l = l.length - l.at
