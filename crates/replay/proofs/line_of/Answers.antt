use Rattle.replay.specs.Lines.{line_for}
use Rattle.replay.proofs.line_of.Goals as goal

pub returns-in-Images-clause-fronted : goal.returns-in-Images-clause-fronted
unfolding line_for
returns-in-Images-clause-fronted c =
    rw c.in-Images.is c.image_line.ensures

pub returns-in-Strict-clause-fronted : goal.returns-in-Strict-clause-fronted
unfolding line_for
returns-in-Strict-clause-fronted c =
    rw c.in-Strict.is c.image_line-in-Strict.ensures

pub returns-in-Tight-clause-fronted : goal.returns-in-Tight-clause-fronted
unfolding line_for
returns-in-Tight-clause-fronted c =
    rw c.in-Tight.is c.image_line-in-Tight.ensures

pub returns-in-Sheets-clause-fronted : goal.returns-in-Sheets-clause-fronted
unfolding line_for
returns-in-Sheets-clause-fronted c =
    rw c.in-Sheets.is c.sheet_line.ensures
