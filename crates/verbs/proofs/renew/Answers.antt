use Rattle.verbs.proofs.Said.{convert_near, renews_fine, renews_refused}
use borrow.Author.Rules.{rules}
use Rattle.verbs.proofs.renew.Goals as goal

pub returns-then-c-eq0 : goal.returns-then-c-eq0
returns-then-c-eq0 c =
    let all = renews_fine c.cablebirch_convert-c.ensures (search rules) c.args.out.now c.if-c-eq0.true in
    record { renews = all.0; image_in_bounds = all.1 }

pub word-requires : goal.word-requires
word-requires c = convert_near _ _ c.cablebirch_convert-c.ensures

pub returns : goal.returns
returns c =
    let all = renews_refused c.cablebirch_convert-c.ensures (search rules) _ c.if-c-eq0.false c.word.ensures c.refused_line.ensures.wrote in
    record { renews = all.0; image_in_bounds = all.1 }
