use Rattle.std.proofs.Common.{◌≡◌, ◌+◌, ◌*◌, ◌≤◌}
use Rattle.replay.proofs.replay_all.Given as goal

-- each entry so far agreed or differs, and had a line that fits
abbrev pub invariant-loop-number : goal.invariant-loop-number
invariant-loop-number l = record { counted : l.tally.agreed + l.tally.differ ≡ l.number; within : l.at ≤ 1152 * l.number }
