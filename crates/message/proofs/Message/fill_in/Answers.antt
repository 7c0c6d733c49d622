use Rattle.message.proofs.Filling.{coming_first, piece_left, piece_fits, coming_piece, plain_fits, coming_plain, coming_end}
use Rattle.message.proofs.Message.fill_in.Goals.{then-c-eq-GAP, else-c-eq-GAP}
use Rattle.message.proofs.Message.fill_in.Goals as goal

pub loop-c-init : goal.loop-c-init
loop-c-init c = coming_first _ _ _ _ _ c.requires.ready.many c.requires.in_bounds

pub put_piece-at-requires-clause-k_bound : goal.put_piece-at-requires-clause-k_bound
put_piece-at-requires-clause-k_bound c = piece_left c.loop-c.invariant c.loop-c-test.true c.if-c-eq-GAP.true

pub put_piece-at-requires-clause-in_bounds : goal.put_piece-at-requires-clause-in_bounds
put_piece-at-requires-clause-in_bounds c = piece_fits c.loop-c.invariant c.loop-c-test.true c.if-c-eq-GAP.true

pub bounds-out-at : goal.bounds-out-at
bounds-out-at c = plain_fits c.loop-c.invariant c.loop-c-test.true c.if-c-eq-GAP.false

pub loop-c-preserved : goal.loop-c-preserved
loop-c-preserved c = elim c.if-c-eq-GAP.branch [
  | then-c-eq-GAP w ↦
      rw (w.out-is, w.at-is, w.k-is)
      (coming_piece c.loop-c.invariant c.loop-c-test.true w.if-c-eq-GAP.true w.put_piece-at.ensures.out_after w.put_piece-at.ensures.value)
  | else-c-eq-GAP w ↦ rw (w.out-is, w.at-is, w.k-is) (coming_plain c.loop-c.invariant c.loop-c-test.true w.if-c-eq-GAP.false)
]

pub returns-clause-out_after : goal.returns-clause-out_after
returns-clause-out_after c = (coming_end c.loop-c.invariant c.loop-c-test.false).0

pub returns-clause-value : goal.returns-clause-value
returns-clause-value c = (coming_end c.loop-c.invariant c.loop-c-test.false).1
