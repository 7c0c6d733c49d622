use Rattle.meaning.specs.Base.{bytes}
use Rattle.show.specs.Words.{entry_of}
use Rattle.show.proofs.Lines.{tilde_fits, named_fits, arrow_fits, new_type_fits, retold_end_fits, retold_line}
use Rattle.show.proofs.put_turned.Goals as goal

pub put-entry-requires : goal.put-entry-requires
unfolding bytes
put-entry-requires c =
    tilde_fits c.args.out.now c.args.at (entry_of c.args.old.now.sheet.now c.args.i) (entry_of c.args.new.now.sheet.now c.args.j).1 c.requires.in_bounds

pub put_entry-arrow-requires-clause-in_bounds : goal.put_entry-arrow-requires-clause-in_bounds
unfolding bytes
put_entry-arrow-requires-clause-in_bounds c =
    named_fits c.args.out.now c.args.at (entry_of c.args.old.now.sheet.now c.args.i) (entry_of c.args.new.now.sheet.now c.args.j).1 c.requires.in_bounds c.put-entry.ensures.buf_after c.put-entry.ensures.value

pub put-ty-requires : goal.put-ty-requires
unfolding bytes
put-ty-requires c =
    arrow_fits c.args.out.now c.args.at (entry_of c.args.old.now.sheet.now c.args.i) (entry_of c.args.new.now.sheet.now c.args.j).1 c.requires.in_bounds c.put-entry.ensures.buf_after c.put-entry.ensures.value c.put_entry-arrow.ensures

pub put_shown-end-requires-clause-i_in_bounds : goal.put_shown-end-requires-clause-i_in_bounds
unfolding bytes
put_shown-end-requires-clause-i_in_bounds c =
    rw c.type_of.ensures.means (new_type_fits c.args.out.now c.args.at (entry_of c.args.old.now.sheet.now c.args.i) (entry_of c.args.new.now.sheet.now c.args.j).1 c.requires.in_bounds c.put-entry.ensures.buf_after c.put-entry.ensures.value c.put_entry-arrow.ensures c.put-ty.ensures.buf_after c.put-ty.ensures.value)

pub put-requires : goal.put-requires
unfolding bytes
put-requires c =
    retold_end_fits c.args.out.now c.args.at (entry_of c.args.old.now.sheet.now c.args.i) (entry_of c.args.new.now.sheet.now c.args.j).1 c.requires.in_bounds c.put-entry.ensures.buf_after c.put-entry.ensures.value c.put_entry-arrow.ensures c.put-ty.ensures.buf_after c.put-ty.ensures.value (rw c.type_of.ensures.means at c.put_shown-end.ensures)

pub returns : goal.returns
unfolding bytes
returns c =
    retold_line c.args.out.now c.args.at (entry_of c.args.old.now.sheet.now c.args.i) (entry_of c.args.new.now.sheet.now c.args.j).1 c.requires.in_bounds c.put-entry.ensures.buf_after c.put-entry.ensures.value c.put_entry-arrow.ensures c.put-ty.ensures.buf_after c.put-ty.ensures.value (rw c.type_of.ensures.means at c.put_shown-end.ensures) c.put.ensures.buf_after c.put.ensures.value
