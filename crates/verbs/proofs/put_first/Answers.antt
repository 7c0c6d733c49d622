use Rattle.meaning.specs.Base.{bytes}
use Rattle.words.proofs.Laws.{wrote}
use Rattle.verbs.proofs.Said.{first_wrote, first_none}
use native.Mathlib.Omega.{arith}
use Rattle.verbs.proofs.put_first.Goals as goal

pub returns-in-25-clause-wrote : goal.returns-in-25-clause-wrote
unfolding bytes
returns-in-25-clause-wrote c =
    first_wrote _ _ _ c.in-25.is (wrote (bytes "first set here") (omega arith) c.put-words.ensures.buf_after c.put-words.ensures.value) c.put_span.ensures.wrote

pub returns-in_default-clause-wrote : goal.returns-in_default-clause-wrote
returns-in_default-clause-wrote c = first_none _ _ _ (omega arith) (omega arith)
