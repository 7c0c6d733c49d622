use mathlib.Core.Path.{refl}
use Rattle.verbs.proofs.Said.{says_show, status_fine, status_refused, code_above}
use borrow.Author.Rules.{rules}
use Rattle.verbs.proofs.say_show.Goals as goal

pub returns-in-Ok : goal.returns-in-Ok
returns-in-Ok c =
    let all = says_show c.args.sheet.now c.args.out.now c.requires c.in-Ok.ensures (search rules) (status_fine refl) in
    record { says = all.0; length_in_bounds = all.1 }

pub returns-in-Err-clause-says : goal.returns-in-Err-clause-says
returns-in-Err-clause-says c =
    (says_show c.args.sheet.now c.args.out.now c.requires c.in-Err.ensures (search rules) (status_refused (code_above c.in-Err.field-0))).0
