use Rattle.std.proofs.Common.{rules, tests}
use lib.Dec.{eqb}
use Rattle.std.proofs.lemmas.Iterator.{YieldsList-from_slice}
use Rattle.std.proofs.lemmas.Iterator.Search.{all_from_yields_List}
use Rattle.types.proofs.Sharing.{shared_none, shared_all, shared_not}
use Rattle.types.proofs.shared_of.Goals as goal

pub returns-in-len1-up : goal.returns-in-len1-up
returns-in-len1-up c =
    shared_all _ c.in-len1-up.len_at_least
    (all_from_yields_List (eqb _) _ _ _ c.all.ensures.ran (YieldsList-from_slice _ c.iter.ensures.rest) (λ x b q k. search (rules, tests)))
    c.if-all.true c.from.ensures

pub returns-in_default : goal.returns-in_default
returns-in_default c =
    shared_none _ c.in_default.len_below

pub returns-in_default-2 : goal.returns-in_default-2
returns-in_default-2 c =
    shared_not _ c.in-len1-up.len_at_least
    (all_from_yields_List (eqb _) _ _ _ c.all.ensures.ran (YieldsList-from_slice _ c.iter.ensures.rest) (λ x b q k. search (rules, tests)))
    c.if-all.false
