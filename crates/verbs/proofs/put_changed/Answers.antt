use Rattle.verbs.proofs.Said.{approved_read, approved_none, changed_known, changed_all, told_size}
use borrow.Author.Rules.{rules}
use Rattle.verbs.proofs.put_changed.Goals.{in-Ok, in-Err}
use Rattle.verbs.proofs.put_changed.Goals as goal

pub returns : goal.returns
returns c =
    rw (c.unwrap_or.ensures, ← told_size c.match-read_sheet.told)
    (elim c.match-read_sheet.branch [
      | in-Ok w ↦
          rw (w.out-is, w.told-is)
          (changed_known c.args.approved.now c.args.sheet.now c.args.out.now c.requires.sheet_value c.requires.largest_changes_in_bounds (search rules)
          (approved_read c.args.approved.now w.in-Ok.ensures) w.changes-told.ensures)
      | in-Err w ↦
          rw (w.out-is, w.told-is)
          (changed_all c.args.approved.now c.args.sheet.now c.args.out.now c.requires.sheet_value c.requires.largest_changes_in_bounds (search rules)
          (approved_none c.args.approved.now w.in-Err.ensures) w.changes-told-in-Err.ensures)
    ])
