use mathlib.Core.Path.{◌≡◌, refl}
use native.Mathlib.Numerals.{add-one}
use lib.ListN.{length, length-set}
use lib.Seq.{paste-zero, paste-suc, take-length}
use Rattle.words.specs.Words.{put_at}
use native.Mathlib.Omega.{arith}
use Rattle.words.proofs.put.Goals as goal

pub loop-j-init : goal.loop-j-init
loop-j-init c =
    let a = c.args in
    (refl, paste-zero a.buf.now a.at a.s.now)

pub loop-j-preserved : goal.loop-j-preserved
loop-j-preserved c =
    let a = c.args in
    let l = c.loop-j in (
      simp length-set l.invariant.0,
      rw (l.invariant.1, add-one) (paste-suc a.buf.now a.at a.s.now l.j 0 (omega arith) (omega arith)),
    )

pub returns-clause-buf_after : goal.returns-clause-buf_after
unfolding put_at
returns-clause-buf_after c =
    let all : c.loop-j.j ≡ length c.args.s.now = omega arith in
    rw (all, take-length) at c.loop-j.invariant.1
