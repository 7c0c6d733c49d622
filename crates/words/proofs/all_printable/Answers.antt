use mathlib.Core.Path.{sym, ◌∙◌}
use native.Mathlib.Omega.{arith}
use Rattle.meaning.specs.Image.{printable}
use Rattle.words.proofs.Steps.{graphic}
use Rattle.words.proofs.Turns.{all_end, all_fails, all_next}
use Rattle.words.proofs.all_printable.Goals as goal

pub returns-then-not-is_ascii_graphic : goal.returns-then-not-is_ascii_graphic
returns-then-not-is_ascii_graphic c =
    let s = c.args.s.now in
    sym (all_fails printable s c.loop-i.i (omega arith) (sym (graphic _) ∙ sym c.is_ascii_graphic.ensures.value ∙ c.if-not-is_ascii_graphic.true)) ∙ c.loop-i.invariant

pub loop-i-preserved : goal.loop-i-preserved
loop-i-preserved c =
    let s = c.args.s.now in
    sym (all_next printable s c.loop-i.i (omega arith) (sym (graphic _) ∙ sym c.is_ascii_graphic.ensures.value ∙ c.if-not-is_ascii_graphic.false)) ∙ c.loop-i.invariant

pub returns : goal.returns
returns c =
    sym (all_end printable c.args.s.now c.loop-i.i (omega arith)) ∙ c.loop-i.invariant
