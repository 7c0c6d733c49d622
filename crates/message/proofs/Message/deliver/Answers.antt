use mathlib.Core.Path.{refl, sym, ◌∙◌}
use Rattle.meaning.proofs.Answers.{overlaid_none}
use Rattle.words.proofs.Laws.{put_overlaid}
use Rattle.message.specs.Pieces.{whole_text}
use Rattle.message.proofs.Filling.{too_long, fits_in, fitting_all}
use Rattle.message.proofs.Message.deliver.Goals as goal

pub returns-then-room-measured : goal.returns-then-room-measured
returns-then-room-measured c =
    rw (too_long (whole_text c.args.self.now) c.measured.ensures c.if-room-measured.true)
    (record { value = refl; out_after = sym (overlaid_none c.args.out.now) })

pub fill_in-requires-clause-in_bounds : goal.fill_in-requires-clause-in_bounds
fill_in-requires-clause-in_bounds c = fits_in (whole_text c.args.self.now) c.measured.ensures c.if-room-measured.false

pub returns : goal.returns
returns c =
    let s = whole_text c.args.self.now in
    rw (← fitting_all s (fits_in s c.measured.ensures c.if-room-measured.false))
    (record { value = c.fill_in.ensures.value; out_after = c.fill_in.ensures.out_after ∙ put_overlaid c.args.out.now s })
