use Rattle.meaning.specs.Base.{bytes}
use Rattle.words.proofs.Laws.{wrote}
use Rattle.verbs.proofs.Said.{known_changes}
use native.Mathlib.Omega.{arith}
use Rattle.verbs.proofs.put_def.Goals as goal

pub returns : goal.returns
unfolding bytes
returns c =
    known_changes _ _ _ _ c.if-setting-eq-STRICT.false
    (wrote (bytes "known may change: def inside an if") (omega arith) c.put-words.ensures.buf_after c.put-words.ensures.value) c.put_span.ensures.wrote
