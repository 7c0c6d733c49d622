use mathlib.Core.Path.{ap}
use Rattle.types.specs.declared.Kind.TheVariants as kind
use Rattle.types.specs.Kinds.{kind_number}
use Rattle.types.proofs.OfKind.{same_kind}
use Rattle.types.proofs.Readers.{element_there, part_element, part_first, part_second}
use Rattle.types.proofs.part_at.Goals as goal

pub element_at-requires : goal.element_at-requires
element_at-requires c =
    element_there c.kind_of.ensures c.requires (ap kind_number c.in-Tuple.is)

pub returns-in-Tuple : goal.returns-in-Tuple
returns-in-Tuple c =
    part_element c.kind_of.ensures (ap kind_number c.in-Tuple.is) c.element_at.ensures

pub returns-in_default : goal.returns-in_default
returns-in_default c =
    part_first c.kind_of.ensures (λ e. c.in_default.not-Tuple (same_kind _ kind.Tuple e)) c.if-j-eq0.true c.part_of.ensures

pub returns-in_default-2 : goal.returns-in_default-2
returns-in_default-2 c =
    part_second c.kind_of.ensures (λ e. c.in_default.not-Tuple (same_kind _ kind.Tuple e)) c.if-j-eq0.false c.second_of.ensures
