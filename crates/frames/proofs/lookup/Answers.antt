use mathlib.Core.Path.{◌≡◌, refl, sym, ap, ◌∙◌}
use Prim.Native.Nat.{◌+◌, ◌-◌}
use native.Mathlib.Omega.{arith}
use Rattle.frames.specs.Env.{type_in, look, first_number}
use Rattle.frames.proofs.Laws.{look_on, look_here, looked, looked_nowhere}
use Rattle.frames.proofs.lookup.Goals as goal
use Rattle.frames.proofs.lookup.Goals.{else-loop-i-test, then-loop-i-test+in_default+else-i-gt0}

pub loop-i-init : goal.loop-i-init
loop-i-init c =
    refl

pub returns-in-Some : goal.returns-in-Some
returns-in-Some c =
    let e = c.counted.ensures ∙ ap first_number c.in-Some.is in
    looked _ (sym (look_here _ _ _ e) ∙ c.loop-i.invariant) (sym e) c.first_in.ensures.0 c.first_in.ensures.1

pub loop-i-preserved : goal.loop-i-preserved
loop-i-preserved c =
    let z : c.loop-i.i - 1 + 1 ≡ c.loop-i.i = omega arith in
    rw z (sym (look_on _ _ _ (c.counted.ensures ∙ ap first_number c.in_default.is)) ∙ c.loop-i.invariant)

pub returns : goal.returns
unfolding look
returns c =
    elim c.loop-i-test.branch [
      | else-loop-i-test w ↦ absurd (omega arith)
      | then-loop-i-test+in_default+else-i-gt0 w ↦
          let z : c.loop-i.i ≡ 0 = omega arith in
          let e = sym c.loop-i.invariant ∙ look_on c.args.frames.now c.args.name c.loop-i.i (w.counted.ensures ∙ ap first_number w.in_default.is) ∙ ap (λ j. look c.args.frames.now j c.args.name) z in
          looked_nowhere (ap type_in e) c.blank.ensures.0 c.blank.ensures.1
    ]
