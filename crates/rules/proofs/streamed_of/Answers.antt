use Rattle.rules.proofs.Streaming.{stream_none, stream_other}
use Rattle.rules.proofs.streamed_of.Goals as goal

pub returns-in-Dict : goal.returns-in-Dict
returns-in-Dict c =
    stream_none c.kind_of.ensures c.in-Dict.is

pub returns-in_default : goal.returns-in_default
returns-in_default c =
    stream_other c.kind_of.ensures c.in_default.not-Dict c.in_default.not-Tuple c.element_of.ensures
