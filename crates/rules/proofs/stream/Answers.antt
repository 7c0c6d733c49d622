use Rattle.rules.proofs.Streaming.{asks_element, second_gives, second_refuses}
use Rattle.rules.proofs.stream.Goals as goal

pub iterator-formed-requires : goal.iterator-formed-requires
iterator-formed-requires c =
    asks_element c.requires c.streamed_of.ensures c.in-Some.is

pub returns : goal.returns
returns c =
    second_gives _ c.requires c.streamed_of.ensures c.in-Some.is c.iterator-formed.ensures

pub returns-in_default : goal.returns-in_default
returns-in_default c =
    rw c.refused.ensures (second_refuses _ c.requires c.streamed_of.ensures c.second_code.ensures c.in_default.is)
