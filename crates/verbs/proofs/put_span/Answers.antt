use Rattle.meaning.specs.Base.{bytes}
use Rattle.words.proofs.Laws.{wrote}
use Rattle.verbs.proofs.Said.{span_wrote}
use native.Mathlib.Omega.{arith}
use Rattle.verbs.proofs.put_span.Goals as goal

pub returns-clause-wrote : goal.returns-clause-wrote
unfolding bytes
returns-clause-wrote c =
    span_wrote _ _ c.put_spaced-first.ensures.wrote c.put_spaced-second.ensures.wrote
    (wrote (bytes "\n") (omega (arith, c.put_spaced-first.ensures.wrote.long, c.put_spaced-second.ensures.wrote.long)) c.put.ensures.buf_after c.put.ensures.value)
