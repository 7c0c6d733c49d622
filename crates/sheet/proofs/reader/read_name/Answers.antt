use Rattle.sheet.proofs.Reading.{told_no, told_yes}
use Rattle.sheet.proofs.Naming.{refuse_long, refuse_outside, name_step}
use native.Mathlib.Omega.{arith}
use Rattle.sheet.proofs.reader.read_name.Goals as goal
use Rattle.sheet.proofs.reader.read_name.Goals.{then-len-gt-LONGEST_NAME-via-then-len-gt-LONGEST_NAME, then-len-gt-LONGEST_NAME-via-else-len-gt-LONGEST_NAME+then-sheet-start}

pub returns-then-len-gt-LONGEST_NAME : goal.returns-then-len-gt-LONGEST_NAME
returns-then-len-gt-LONGEST_NAME c =
    told_no (elim c.then-len-gt-LONGEST_NAME.branch [
      | then-len-gt-LONGEST_NAME-via-then-len-gt-LONGEST_NAME w ↦ refuse_long c.args.sheet.now.headed c.requires c.names_at.ensures c.word_at.ensures.value c.word_at-len.ensures.value w.if-len-gt-LONGEST_NAME.true
      | then-len-gt-LONGEST_NAME-via-else-len-gt-LONGEST_NAME+then-sheet-start w ↦ refuse_outside c.args.sheet.now.headed c.requires c.names_at.ensures c.word_at.ensures.value c.word_at-len.ensures.value c.texts_at.ensures w.if-sheet-start.true
    ])

pub returns : goal.returns
returns c =
    told_yes (name_step c.args.sheet.now.headed c.requires c.names_at.ensures c.word_at.ensures.value c.word_at-len.ensures.value c.texts_at.ensures c.word_at-2.ensures.value c.number_in-ty.ensures.value (omega arith) (omega arith) c.put_name.ensures)
