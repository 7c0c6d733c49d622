use Rattle.state.proofs.Noting.{settled_ill, settled_well}
use Rattle.targets.proofs.Naming.{fits_cell, name_differs, name_written}
use mathlib.Core.Path.{refl}
use native.Mathlib.Omega.{arith}
use Rattle.targets.proofs.assign_name.Goals as goal

pub bind-requires-clause-ty_lt_cell_room : goal.bind-requires-clause-ty_lt_cell_room
bind-requires-clause-ty_lt_cell_room c =
    (rw c.since.ensures.type_is (fits_cell c.lookup-old.ensures.small c.requires.3 c.in-Some.ensures refl), c.since.ensures.near c.lookup-old.ensures.near (omega (arith, c.requires.1)))

pub returns : goal.returns
returns c =
    record { code = 0; a = 0; b = 0; written = name_written _ _ _ c.lookup-old.ensures c.in-Some.ensures c.since.ensures c.bind.ensures refl; settled = settled_well }

pub returns-in_default : goal.returns-in_default
returns-in_default c =
    record {
      code = 25;
      a = _;
      b = _;
      written = name_differs _ _ _ c.lookup-old.ensures c.in_default.ensures refl c.conflict.ensures.since;
      settled = settled_ill (λ e. absurd (omega arith)) c.conflict.ensures.refused;
    }
