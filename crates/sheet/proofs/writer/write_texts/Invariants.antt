use Rattle.sheet.proofs.Areas.{TextsLoop}
use Rattle.sheet.proofs.writer.write_texts.Given as goal

abbrev pub invariant-loop-name : goal.invariant-loop-name
invariant-loop-name l = TextsLoop l.source l.names l.initial.out l.from l.name-index l.at l.out
