-- A walk's start: the lent cells hold the plain types alone, and the rows no name.
use mathlib.Core.Path.{◌≡◌, refl}
use mathlib.Core.List.{List}
use Prim.Native.Nat.{ℕ, ◌+◌}
use native.Mathlib.Omega.{arith}
use lib.ListN.{length, replicate, length-replicate}
use Rattle.meaning.specs.Limits.{most_frames}
use Rattle.types.specs.Table.{tab, capacity, Fresh, Wf}
use Rattle.types.proofs.Room.{capacity_as, fresh_filled}
use Rattle.stmt.specs.Contract.{Started}
use Rattle.frames.specs.Env.{absent_row}
use Rattle.stmt.proofs.Modules.{fresh_fit, fresh_frames}
use Rattle.checker.specs.Steps.{Sized, Lent}

module _ {bs cs : List ℕ} {nodes : ℕ} (l : Lent bs nodes cs) where
  pub lent_started : {ds : List ℕ} → length ds ≡ length cs → Wf (tab ds 8 0)
      → Started bs (replicate most_frames absent_row) (tab ds 8 0)
  lent_started {ds} e w = record {
    sound = l.sound;
    wf = w;
    types = refl;
    elements = refl;
    fit = fresh_fit _;
    module_frame = fresh_frames _;
    room = rw (capacity_as cs ds e) l.room;
  }

-- a filled table
pub lent : {bs : List ℕ} {nodes k : ℕ} → Sized bs nodes k → Lent bs nodes (replicate k 1)
unfolding capacity
lent {k = k} s =
    let long : length (replicate {A = ℕ} k 1) ≡ k = length-replicate k 1 in
    record {
      sound = s.sound;
      nodes_at = s.nodes_at;
      fresh = fresh_filled k 1 (omega (arith, s.room)) (omega (arith, s.most)) (omega arith);
      room = omega (arith, s.room);
    }
