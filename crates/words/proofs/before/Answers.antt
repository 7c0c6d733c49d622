use mathlib.Core.Path.{◌≡◌, sym, ◌∙◌}
use native.Mathlib.Omega.{arith}
use native.Mathlib.Decide.{dec_lt}
use borrow.Author.Tests.{le-ltb}
use lib.ListN.{length}
use Rattle.words.proofs.Turns.{before_short, before_end, before_differ, before_agree}
use Rattle.words.proofs.before.Goals as goal

pub returns-then-a-i : goal.returns-then-a-i
returns-then-a-i c =
    let a = c.args in
    sym (before_differ a.a.now a.b.now c.loop-i.i (omega (arith, c.min-i-end.ensures)) (omega (arith, c.min-i-end.ensures)) c.if-a-i.true) ∙ c.loop-i.invariant

pub loop-i-preserved : goal.loop-i-preserved
loop-i-preserved c =
    let a = c.args in
    sym (before_agree a.a.now a.b.now c.loop-i.i (omega (arith, c.min-i-end.ensures)) (omega (arith, c.min-i-end.ensures)) c.if-a-i.false) ∙ c.loop-i.invariant

pub returns : goal.returns
returns c =
    let a = c.args in
    elim (dec_lt (length a.b.now) (length a.a.now)) [
      | yes h ↦ rw (le-ltb (length a.a.now) (length a.b.now) (omega arith)) (sym (before_short a.a.now a.b.now c.loop-i.i (omega (arith, c.min-i-end.ensures))) ∙ c.loop-i.invariant)
      | no n ↦
          let z : c.loop-i.i ≡ length a.a.now = omega (arith, c.min-i-end.ensures) in
          rw (← z) (sym (before_end a.a.now a.b.now c.loop-i.i (omega arith)) ∙ c.loop-i.invariant)
    ]
