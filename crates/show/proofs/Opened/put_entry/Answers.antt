use Rattle.meaning.specs.Base.{bytes}
use Rattle.show.specs.Words.{entry_of}
use Rattle.show.proofs.Lines.{name_fits, colon_fits, type_fits, entry_wrote}
use Rattle.show.proofs.Opened.put_entry.Goals as goal

pub put-colon-requires : goal.put-colon-requires
put-colon-requires c =
    rw c.name.ensures (name_fits c.args.out.now c.args.at (entry_of c.args.self.now.sheet.now c.args.k) c.requires.in_bounds)

pub put-ty-requires : goal.put-ty-requires
unfolding bytes
put-ty-requires c =
    colon_fits c.args.out.now c.args.at (entry_of c.args.self.now.sheet.now c.args.k) c.requires.in_bounds (rw c.name.ensures at c.put-colon.ensures.buf_after)
    (rw c.name.ensures at c.put-colon.ensures.value)

pub put_shown-requires-clause-i_in_bounds : goal.put_shown-requires-clause-i_in_bounds
unfolding bytes
put_shown-requires-clause-i_in_bounds c =
    rw c.type_of.ensures.means
    (type_fits c.args.out.now c.args.at (entry_of c.args.self.now.sheet.now c.args.k) c.requires.in_bounds (rw c.name.ensures at c.put-colon.ensures.buf_after)
    (rw c.name.ensures at c.put-colon.ensures.value) c.put-ty.ensures.buf_after c.put-ty.ensures.value)

pub returns : goal.returns
unfolding bytes
returns c =
    entry_wrote c.args.out.now c.args.at (entry_of c.args.self.now.sheet.now c.args.k) c.requires.in_bounds (rw c.name.ensures at c.put-colon.ensures.buf_after)
    (rw c.name.ensures at c.put-colon.ensures.value) c.put-ty.ensures.buf_after c.put-ty.ensures.value (rw c.type_of.ensures.means at c.put_shown.ensures)
