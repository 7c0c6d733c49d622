use Rattle.meaning.specs.Base.{bytes}
use Rattle.show.proofs.Names.{names_many}
use Rattle.show.proofs.Lines.{entries_first, entry_fits, line_end_fits, entries_next, entries_end}
use native.Mathlib.Omega.{arith}
use Rattle.show.proofs.Opened.put_entries.Goals as goal

pub loop-k-init : goal.loop-k-init
loop-k-init c = entries_first _ _ c.requires

pub put_entry-end-requires-clause-in_bounds : goal.put_entry-end-requires-clause-in_bounds
put_entry-end-requires-clause-in_bounds c = entry_fits c.loop-k.invariant (rw (names_many c.args.self.now) c.loop-k-test.true)

pub put-at-requires : goal.put-at-requires
unfolding bytes
put-at-requires c = line_end_fits c.loop-k.invariant (rw (names_many c.args.self.now) c.loop-k-test.true) c.put_entry-end.ensures

pub loop-k-preserved : goal.loop-k-preserved
unfolding bytes
loop-k-preserved c =
    entries_next c.loop-k.invariant (rw (names_many c.args.self.now) c.loop-k-test.true) c.put_entry-end.ensures c.put-at.ensures.buf_after
    c.put-at.ensures.value

pub returns : goal.returns
returns c = entries_end c.loop-k.invariant (λ l. omega (arith, l, c.loop-k-test.false, names_many c.args.self.now))
