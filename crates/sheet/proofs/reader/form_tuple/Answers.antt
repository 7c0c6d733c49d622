use Rattle.sheet.proofs.Reading.{tuple_gather, tuple_listed, tuple_made}
use Rattle.sheet.proofs.reader.form_tuple.Goals as goal

pub gather-requires : goal.gather-requires
gather-requires c =
    tuple_gather c.requires

pub tuple_of-requires : goal.tuple_of-requires
tuple_of-requires c =
    tuple_listed c.requires c.gather.ensures

pub returns : goal.returns
returns c =
    tuple_made c.requires c.gather.ensures c.tuple_of.ensures
