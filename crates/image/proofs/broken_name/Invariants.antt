use Rattle.meaning.specs.Image.{name_records, wrong_name, broken_name}
use lib.ListN.{length, take, drop}
use Prim.Native.Nat.{◌-◌, ◌≤◌}
use mathlib.Core.Path.{◌≡◌}
use Rattle.image.proofs.broken_name.Given as goal

-- the records from i on, with the text before them at last..from, answer what all answer
abbrev pub invariant-loop-i : goal.invariant-loop-i
invariant-loop-i l = (l.last ≤ l.from) × (l.from ≤ length l.texts) × (wrong_name l.texts l.i l.from (take (l.from - l.last) (drop l.last l.texts)) (drop l.i (name_records l.image)) ≡ broken_name l.image)
