use mathlib.Core.Path.{◌≡◌, refl}
use native.Mathlib.Numerals.{add-one}
use lib.ListN.{length, length-set}
use lib.Seq.{paste-zero, paste-suc, take-length}
use Rattle.words.specs.Words.{put_at}
use native.Mathlib.Omega.{arith}
use Rattle.types.proofs.copy.Goals as goal

pub loop-j-init : goal.loop-j-init
loop-j-init c =
    let a = c.args in
    (refl, paste-zero a.table.now a.at a.elements.now)

pub loop-j-preserved : goal.loop-j-preserved
loop-j-preserved c =
    let a = c.args in
    let l = c.loop-j in (
      simp length-set l.invariant.0,
      rw (l.invariant.1, add-one) (paste-suc a.table.now a.at a.elements.now l.j 0 (omega arith) (omega arith)),
    )

pub returns : goal.returns
unfolding put_at
returns c =
    let all : c.loop-j.j ≡ length c.args.elements.now = omega arith in
    rw (all, take-length) at c.loop-j.invariant.1
