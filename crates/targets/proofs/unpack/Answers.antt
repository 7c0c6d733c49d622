use Rattle.state.proofs.Noting.{settled_ill, settled_well}
use Rattle.targets.proofs.Unpacking.{known_count, unpacks_any, unpacks_not, unpacks_other, unpacks_tuple}
use native.Mathlib.Omega.{arith}
use Rattle.targets.proofs.unpack.Goals as goal

pub returns-in-Unknown : goal.returns-in-Unknown
returns-in-Unknown c =
    record { code = 0; a = 0; b = 0; unpacks = unpacks_any _ c.kind_of.ensures c.in-Unknown.is; settled = settled_well }

pub returns-then-n-k : goal.returns-then-n-k
returns-then-n-k c =
    record {
      code = 26;
      a = _;
      b = _;
      unpacks = unpacks_other _ c.kind_of.ensures c.in-Tuple.is c.parts_of-n.ensures (omega arith)
          (known_count c.requires c.parts_of-n.ensures) c.if-n-k.true;
      settled = settled_ill (λ e. absurd (omega arith)) c.refuse.ensures;
    }

pub returns-else-n-k : goal.returns-else-n-k
returns-else-n-k c =
    record { code = 0; a = 0; b = 0; unpacks = unpacks_tuple _ c.kind_of.ensures c.in-Tuple.is c.parts_of-n.ensures c.if-n-k.false; settled = settled_well }

pub returns-in_default : goal.returns-in_default
returns-in_default c =
    record {
      code = 27;
      a = _;
      b = 0;
      unpacks = unpacks_not _ c.kind_of.ensures c.in_default.not-Unknown c.in_default.not-List c.in_default.not-Tuple;
      settled = settled_ill (λ e. absurd (omega arith)) c.refuse-in_default.ensures;
    }
