use Rattle.std.proofs.Common.{arith}
use Rattle.meaning.proofs.SheetWords.{Small}
use Rattle.words.proofs.Laws.{decimal_length, decimal_one, decimal_longer}
use Rattle.words.proofs.Steps.{decimal_first, decimal_next}
use Rattle.words.proofs.+put_decimal.Goals as goal

pub bounds-buf-at : goal.bounds-buf-at
bounds-buf-at t c =
    omega (arith, (decimal_length c.args.n).0)

pub returns-then-n-lt-BASE-clause-buf_after : goal.returns-then-n-lt-BASE-clause-buf_after
returns-then-n-lt-BASE-clause-buf_after t c =
    rw c.digit.ensures (decimal_first c.args.buf.now c.args.at c.args.n c.if-n-lt-BASE.true (omega (arith, (decimal_length c.args.n).0)))

pub returns-then-n-lt-BASE-clause-value : goal.returns-then-n-lt-BASE-clause-value
returns-then-n-lt-BASE-clause-value t c =
    rw (decimal_one c.args.n c.if-n-lt-BASE.true)

pub put_decimal-last-requires : goal.put_decimal-last-requires
put_decimal-last-requires t c =
    let small : Small c.args.n = omega arith in
    (omega arith, omega (arith, decimal_longer c.args.n c.if-n-lt-BASE.false small))

pub bounds-buf-last : goal.bounds-buf-last
bounds-buf-last t c =
    let small : Small c.args.n = omega arith in
    omega (arith, decimal_longer c.args.n c.if-n-lt-BASE.false small)

pub overflow_add-result-2 : goal.overflow_add-result-2
overflow_add-result-2 t c =
    let small : Small c.args.n = omega arith in
    omega (arith, decimal_longer c.args.n c.if-n-lt-BASE.false small)

pub returns-clause-buf_after : goal.returns-clause-buf_after
returns-clause-buf_after t c =
    let small : Small c.args.n = omega arith in
    rw (c.put_decimal-last.ensures.value, c.digit-2.ensures)
    (decimal_next c.args.buf.now c.put_decimal-last.new.buf c.args.at c.args.n c.if-n-lt-BASE.false small c.requires c.put_decimal-last.ensures.buf_after)

pub returns-clause-value : goal.returns-clause-value
returns-clause-value t c =
    let small : Small c.args.n = omega arith in
    omega (arith, decimal_longer c.args.n c.if-n-lt-BASE.false small)
