use Rattle.meaning.specs.Base.{bytes}
use Rattle.show.specs.Words.{entry_of}
use Rattle.show.proofs.Lines.{sign_fits, signed_fits, signed_end_fits, signed_line}
use Rattle.show.proofs.Opened.put_signed.Goals as goal

pub put-entry-requires : goal.put-entry-requires
unfolding bytes
put-entry-requires c =
    sign_fits c.args.out.now c.args.at c.args.sign.now (entry_of c.args.self.now.sheet.now c.args.k) c.requires.in_bounds

pub put_entry-end-requires-clause-in_bounds : goal.put_entry-end-requires-clause-in_bounds
unfolding bytes
put_entry-end-requires-clause-in_bounds c =
    signed_fits c.args.out.now c.args.at c.args.sign.now (entry_of c.args.self.now.sheet.now c.args.k) c.requires.in_bounds
    c.put-entry.ensures.buf_after c.put-entry.ensures.value

pub put-requires : goal.put-requires
unfolding bytes
put-requires c =
    signed_end_fits c.args.out.now c.args.at c.args.sign.now (entry_of c.args.self.now.sheet.now c.args.k) c.requires.in_bounds
    c.put-entry.ensures.buf_after c.put-entry.ensures.value c.put_entry-end.ensures

pub returns : goal.returns
unfolding bytes
returns c =
    signed_line c.args.out.now c.args.at c.args.sign.now (entry_of c.args.self.now.sheet.now c.args.k) c.requires.in_bounds
    c.put-entry.ensures.buf_after c.put-entry.ensures.value c.put_entry-end.ensures c.put.ensures.buf_after c.put.ensures.value
