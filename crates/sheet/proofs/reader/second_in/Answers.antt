use mathlib.Core.Path.{sym, ap, ◌∙◌}
use Rattle.types.specs.declared.Kind.TheVariants as kind
use Rattle.types.specs.Kinds.{kind_number}
use Rattle.types.proofs.OfKind.{same_kind}
use Rattle.sheet.proofs.Reading.{second_dict, second_other}
use Rattle.sheet.proofs.reader.second_in.Goals as goal

pub returns-in-Dict : goal.returns-in-Dict
returns-in-Dict c =
    c.number_in.ensures.value ∙ sym (second_dict _ _ (ap kind_number c.in-Dict.is))

pub returns-in_default : goal.returns-in_default
returns-in_default c =
    sym (second_other _ _ (λ e. c.in_default.not-Dict (same_kind _ kind.Dict e)))
