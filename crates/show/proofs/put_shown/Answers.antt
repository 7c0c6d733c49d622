use mathlib.Core.Path.{sym, ◌∙◌}
use Rattle.meaning.specs.Show.{dotted}
use Rattle.meaning.specs.Types.{text}
use Rattle.types.specs.Kinds.{kind_number}
use Rattle.types.specs.Reading.{type_at}
use Rattle.types.proofs.Readers.{known_room}
use Rattle.words.proofs.Laws.{wrote}
use Rattle.show.proofs.Lines.{shown_whole, shown_dotted}
use Rattle.message.proofs.Types.{known_kind}
use native.Mathlib.Omega.{arith}
use Rattle.show.proofs.put_shown.Goals as goal

pub is_short-requires : goal.is_short-requires
is_short-requires c =
    c.requires.all_known

pub put_type-requires-clause-known : goal.put_type-requires-clause-known
put_type-requires-clause-known c =
    (c.requires.all_known.each c.args.i (omega arith))

pub put_type-requires-clause-i_in_bounds : goal.put_type-requires-clause-i_in_bounds
put_type-requires-clause-i_in_bounds c =
    rw (shown_whole _ (sym c.is_short.ensures ∙ c.if-is_short.true)) at c.requires.i_in_bounds

pub returns-then-is_short : goal.returns-then-is_short
returns-then-is_short c =
    rw (shown_whole _ (sym c.is_short.ensures ∙ c.if-is_short.true)) (wrote (text (type_at c.args.table.now c.args.i)) (rw (shown_whole _ (sym c.is_short.ensures ∙ c.if-is_short.true)) at c.requires.i_in_bounds) c.put_type.ensures.out_after c.put_type.ensures.value)

pub kind_of-requires : goal.kind_of-requires
kind_of-requires c =
    known_room (c.requires.all_known.each c.args.i (omega arith))

pub put-requires : goal.put-requires
put-requires c =
    rw (c.dotted.ensures, known_kind (c.requires.all_known.each c.args.i (omega arith)) c.kind_of.ensures, ← shown_dotted _ (sym c.is_short.ensures ∙ c.if-is_short.false))
    c.requires.i_in_bounds

pub returns : goal.returns
returns c =
    let it = shown_dotted _ (sym c.is_short.ensures ∙ c.if-is_short.false) in
    let kind = known_kind (c.requires.all_known.each c.args.i (omega arith)) c.kind_of.ensures in
    rw (it, ← kind) (wrote (dotted (kind_number c.kind_of.result)) (rw (kind, ← it) c.requires.i_in_bounds) (rw c.dotted.ensures at c.put.ensures.buf_after) (rw c.dotted.ensures at c.put.ensures.value))
