use Rattle.meaning.specs.Base.{bytes}
use Rattle.words.proofs.Laws.{put_nil}
use Rattle.message.specs.Pieces.{meant}
use Rattle.message.proofs.Filling.{ready_type, ready_text}
use borrow.Author.Rules.{rules}
use Rattle.message.proofs.Message.put_piece.Goals as goal

pub put_type-requires-clause-known : goal.put_type-requires-clause-known
put_type-requires-clause-known c = ready_type c.requires.ready.ready c.args.k c.in-OfType.is

pub put_type-requires-clause-i_in_bounds : goal.put_type-requires-clause-i_in_bounds
unfolding meant
put_type-requires-clause-i_in_bounds c = rw c.in-OfType.is at c.requires.in_bounds

pub text-requires : goal.text-requires
text-requires c = ready_text c.requires.ready.ready c.args.k c.in-OfText.is

pub put-requires : goal.put-requires
unfolding meant
put-requires c = rw c.text.ensures (rw c.in-OfText.is at c.requires.in_bounds)

pub put_decimal-requires : goal.put_decimal-requires
unfolding meant
put_decimal-requires c = rw c.in-OfNumber.is at c.requires.in_bounds

pub put_range-requires : goal.put_range-requires
unfolding meant
put_range-requires c = rw c.in-OfRange.is at c.requires.in_bounds

pub put-requires-in-OfAny : goal.put-requires-in-OfAny
unfolding meant bytes
put-requires-in-OfAny c = rw c.in-OfAny.is at c.requires.in_bounds

pub returns-in-Nothing : goal.returns-in-Nothing
unfolding meant
returns-in-Nothing c = rw (c.in-Nothing.is, put_nil c.args.out.now c.args.at) (search rules)

pub returns-in-OfType : goal.returns-in-OfType
unfolding meant
returns-in-OfType c = rw c.in-OfType.is (record { out_after = c.put_type.ensures.out_after; value = c.put_type.ensures.value })

pub returns-in-OfText : goal.returns-in-OfText
unfolding meant
returns-in-OfText c = rw (c.in-OfText.is, ← c.text.ensures) (record { out_after = c.put.ensures.buf_after; value = c.put.ensures.value })

pub returns-in-OfNumber : goal.returns-in-OfNumber
unfolding meant
returns-in-OfNumber c = rw c.in-OfNumber.is (record { out_after = c.put_decimal.ensures.buf_after; value = c.put_decimal.ensures.value })

pub returns-in-OfRange : goal.returns-in-OfRange
unfolding meant
returns-in-OfRange c = rw c.in-OfRange.is (record { out_after = c.put_range.ensures.out_after; value = c.put_range.ensures.value })

pub returns-in-OfAny : goal.returns-in-OfAny
unfolding meant bytes
returns-in-OfAny c = rw c.in-OfAny.is (record { out_after = c.put-in-OfAny.ensures.buf_after; value = c.put-in-OfAny.ensures.value })
