use mathlib.Core.Path.{ap}
use Rattle.types.specs.declared.Kind.TheVariants as kind
use Rattle.types.specs.Kinds.{kind_number}
use Rattle.types.proofs.OfKind.{same_kind}
use Rattle.rules.proofs.Indexing.{known_tuple, index_unknown, index_string, index_list, index_dict, index_tuple, index_other}
use Rattle.rules.proofs.index.Goals as goal

pub common_of-requires : goal.common_of-requires
common_of-requires c =
    known_tuple c.requires c.kind_of.ensures (ap kind_number c.in-Tuple.is)

pub returns-in-Unknown : goal.returns-in-Unknown
returns-in-Unknown c =
    index_unknown c.kind_of.ensures _ (ap kind_number c.in-Unknown.is)

pub returns-in-String : goal.returns-in-String
returns-in-String c =
    index_string c.kind_of.ensures _ (ap kind_number c.in-String.is) c.expect.ensures

pub returns-in-List : goal.returns-in-List
returns-in-List c =
    index_list c.kind_of.ensures _ (ap kind_number c.in-List.is) c.part_of.ensures c.expect-in-List.ensures

pub returns-in-Dict : goal.returns-in-Dict
returns-in-Dict c =
    index_dict c.kind_of.ensures _ (ap kind_number c.in-Dict.is) c.part_of-in-Dict.ensures c.second_of.ensures c.key.ensures

pub returns-in-Tuple : goal.returns-in-Tuple
returns-in-Tuple c =
    index_tuple c.kind_of.ensures _ (ap kind_number c.in-Tuple.is) c.common_of.ensures c.expect-in-Tuple.ensures

pub returns-in_default : goal.returns-in_default
returns-in_default c =
    let d = c.in_default in
    rw c.refused.ensures (index_other c.kind_of.ensures _ (λ e. d.not-Unknown (same_kind _ kind.Unknown e)) (λ e. d.not-String (same_kind _ kind.String e))
    (λ e. d.not-List (same_kind _ kind.List e)) (λ e. d.not-Dict (same_kind _ kind.Dict e)) (λ e. d.not-Tuple (same_kind _ kind.Tuple e)))
