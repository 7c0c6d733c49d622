use Prim.Native.Nat.{◌-◌}
use lib.ListN.{length}
use Rattle.message.specs.Pieces.{piece_text, whole_text}
use Rattle.message.proofs.Writing.{Due}
use Rattle.message.proofs.Filling.{joined}
use Rattle.message.proofs.Message.total.Given as goal

abbrev pub invariant-loop-piece : goal.invariant-loop-piece
invariant-loop-piece l = Due l.cap l.size (joined (piece_text l.self) l.piece-index (length l.self.pieces.now - l.piece-index)) 0 (whole_text l.self)
