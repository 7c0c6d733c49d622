use Rattle.sheet.proofs.Typing.{typing_forming, typed_other, refuse_inside, refuse_sum, typing_tupling, typed_tuple, not_lt}
use Rattle.meaning.proofs.Choices.{not_so}
use Rattle.sheet.proofs.reader.read_type.Goals as goal
use Rattle.sheet.proofs.reader.read_type.Goals.{then-sheet-p-via-then-sheet-p, then-sheet-p-via-else-sheet-p+then-sheet-used}

pub form_other-f-requires : goal.form_other-f-requires
form_other-f-requires c =
    typing_forming c.requires c.word_at-kind.ensures.value c.word_at-p.ensures.value c.word_at-q.ensures.value c.if-kind.true

pub returns-then-kind : goal.returns-then-kind
returns-then-kind c =
    typed_other c.requires c.word_at-kind.ensures.value c.word_at-p.ensures.value c.word_at-q.ensures.value c.if-kind.true c.form_other-f.ensures

pub returns-then-sheet-p : goal.returns-then-sheet-p
returns-then-sheet-p c =
    not_so _ (elim c.then-sheet-p.branch [
      | then-sheet-p-via-then-sheet-p w ↦ refuse_inside c.requires c.word_at-kind.ensures.value c.word_at-p.ensures.value c.word_at-q.ensures.value c.if-kind.false c.args.sheet.now.headed.elements_is w.if-sheet-p.true
      | then-sheet-p-via-else-sheet-p+then-sheet-used w ↦ refuse_sum c.requires c.word_at-kind.ensures.value c.word_at-p.ensures.value c.word_at-q.ensures.value c.if-kind.false c.args.sheet.now.headed.elements_is w.if-sheet-used.true
    ])

pub form_tuple-f-requires : goal.form_tuple-f-requires
form_tuple-f-requires c =
    rw c.elements_at.ensures
    (typing_tupling c.requires c.word_at-kind.ensures.value c.word_at-p.ensures.value c.word_at-q.ensures.value c.if-kind.false c.args.sheet.now.headed.elements_is (not_lt c.if-sheet-p.false) (not_lt c.if-sheet-used.false) c.args.sheet.now.headed.types_is)

pub returns : goal.returns
returns c =
    typed_tuple c.requires c.word_at-kind.ensures.value c.word_at-p.ensures.value c.word_at-q.ensures.value c.if-kind.false c.args.sheet.now.headed.elements_is (not_lt c.if-sheet-p.false) (not_lt c.if-sheet-used.false) c.args.sheet.now.headed.types_is (rw c.elements_at.ensures at c.form_tuple-f.ensures)
