use Rattle.meaning.proofs.Faults.{image_length}
use Rattle.image.proofs.Records.{head_long}
use Rattle.message.proofs.Naming.{spelled_fits, spelled_says}
use native.Mathlib.Omega.{arith}
use Rattle.message.proofs.spelled.Goals as goal

pub record_of-r-requires : goal.record_of-r-requires
record_of-r-requires c =
    c.requires.headed

pub areas-texts-requires : goal.areas-texts-requires
areas-texts-requires c =
    head_long c.requires.headed

pub overflow_add-result : goal.overflow_add-result
overflow_add-result c =
    let room = spelled_fits _ _ c.record_of-r.ensures c.requires.headed c.requires.image_value c.areas-texts.ensures.texts in omega (arith, image_length c.requires.headed)

pub returns : goal.returns
returns c =
    spelled_says _ _ c.record_of-r.ensures c.requires.headed c.requires.image_value c.areas-texts.ensures.texts
