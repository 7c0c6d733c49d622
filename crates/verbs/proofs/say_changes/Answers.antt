use Rattle.verbs.proofs.Said.{says_changes, compared_refused, code_above}
use borrow.Author.Rules.{rules}
use Rattle.verbs.proofs.say_changes.Goals as goal

pub returns-in-Ok : goal.returns-in-Ok
returns-in-Ok c =
    let all = says_changes c.args.old.now c.args.new.now c.args.out.now c.requires c.in-Ok.ensures (search rules) c.changed_by.ensures in
    record { says = all.0; length_in_bounds = all.1 }

pub returns-in-Err-clause-says : goal.returns-in-Err-clause-says
returns-in-Err-clause-says c =
    (says_changes c.args.old.now c.args.new.now c.args.out.now c.requires c.in-Err.ensures (search rules) (compared_refused _ (code_above c.in-Err.field-0))).0
