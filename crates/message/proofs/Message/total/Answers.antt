use mathlib.Core.Path.{refl}
use Rattle.message.proofs.Filling.{many_le, ready_small, due_first, due_next, due_end}
use Rattle.message.proofs.Message.total.Goals as goal

pub overflow_sub-self : goal.overflow_sub-self
overflow_sub-self c = many_le c.args.self.now.format.now c.requires.ready.many

pub loop-piece-init : goal.loop-piece-init
loop-piece-init c = due_first _ _ _ _ c.requires.ready.many refl c.clip-size.ensures

pub piece_size-requires : goal.piece_size-requires
piece_size-requires c = ready_small c.requires.ready.ready _ c.requires.sized refl

pub loop-piece-preserved : goal.loop-piece-preserved
loop-piece-preserved c =
    due_next _ _ _ c.args.self.now.format.now c.loop-piece.invariant c.loop-piece-test.true c.requires.ready.ready c.requires.sized refl c.piece_size.ensures
    c.clip-size-in-loop-piece.ensures

pub returns : goal.returns
returns c = due_end _ _ _ _ c.loop-piece-test.false c.loop-piece.invariant
