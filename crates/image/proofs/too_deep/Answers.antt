use mathlib.Core.Path.{sym}
use Rattle.meaning.proofs.Nesting.{nodes_many}
use Rattle.image.proofs.Depth.{few_shallow}
use native.Mathlib.Omega.{arith}
use Rattle.image.proofs.too_deep.Goals as goal

pub returns-then-l-le-DEEPEST : goal.returns-then-l-le-DEEPEST
returns-then-l-le-DEEPEST c =
    sym (few_shallow _ (rw nodes_many (omega (arith, c.requires.laid.count))))
