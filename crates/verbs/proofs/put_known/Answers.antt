use mathlib.Core.Path.{sym}
use mathlib.Core.List.{[]}
use Rattle.words.proofs.Laws.{put_nil, wrote}
use Rattle.verbs.specs.Said.{known_text}
use native.Mathlib.Omega.{arith}
use Rattle.verbs.proofs.put_known.Goals as goal

pub returns-in-Err : goal.returns-in-Err
unfolding known_text
returns-in-Err c = rw c.in-Err.is (wrote [] (omega arith) (sym (put_nil c.args.out.now c.args.at)) (omega arith))
