use mathlib.Core.List.{[]}
use lib.ListN.{get_or}
use Rattle.frames.specs.Env.{Noted}
use Rattle.frames.proofs.note_branch.Given as goal

abbrev pub invariant-loop-x : goal.invariant-loop-x
invariant-loop-x l = Noted (get_or l.base l.top []) (get_or l.branch l.high []) l.initial.merged l.initial.clashes l.merged l.clashes l.x
