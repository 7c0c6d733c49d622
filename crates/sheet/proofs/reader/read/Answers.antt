use Rattle.sheet.proofs.Ending.{read_not, read_inside, texts_refused, read_listing, rewrites_not, read_all}
use Rattle.types.proofs.Room.{capacity_as}
use native.Mathlib.Omega.{arith}
use Rattle.sheet.proofs.reader.read.Goals as goal

pub returns-in_err-areas : goal.returns-in_err-areas
returns-in_err-areas c =
    rw c.from_residual.ensures (read_not c.in_err-areas.ensures)

pub start-requires : goal.start-requires
start-requires c =
    c.requires.1

pub read_types-requires-clause-most_numbers_bound : goal.read_types-requires-clause-most_numbers_bound
read_types-requires-clause-most_numbers_bound c =
    omega (arith, c.requires.0, capacity_as c.args.table.now c.start.new.table c.start.auto.table)

pub returns-in_err-counts : goal.returns-in_err-counts
returns-in_err-counts c =
    rw c.from_residual-in_err-counts.ensures (read_not c.in_err-counts.ensures)

pub returns-then-not-read_names : goal.returns-then-not-read_names
returns-then-not-read_names c =
    read_not (c.read_names.ensures.no c.if-not-read_names.true)

pub texts_stand-requires : goal.texts_stand-requires
texts_stand-requires c =
    read_inside c.in_ok-areas.ensures c.in_ok-counts.ensures (c.read_names.ensures.yes c.if-not-read_names.false) (omega arith)

pub returns-then-not-texts_stand : goal.returns-then-not-texts_stand
returns-then-not-texts_stand c =
    read_not (texts_refused c.in_ok-areas.ensures c.in_ok-counts.ensures (c.read_names.ensures.yes c.if-not-read_names.false) (omega arith) c.texts_stand.ensures c.if-not-texts_stand.true)

pub rewrites-requires : goal.rewrites-requires
rewrites-requires c =
    read_listing c.in_ok-areas.ensures c.in_ok-counts.ensures (c.read_names.ensures.yes c.if-not-read_names.false) (omega arith)

pub returns-then-not-rewrites : goal.returns-then-not-rewrites
returns-then-not-rewrites c =
    read_not (rewrites_not c.in_ok-areas.ensures c.in_ok-counts.ensures (c.read_names.ensures.yes c.if-not-read_names.false) (omega arith) c.texts_stand.ensures c.if-not-texts_stand.false c.rewrites.ensures c.if-not-rewrites.true)

pub returns : goal.returns
returns c =
    read_all c.in_ok-areas.ensures c.in_ok-counts.ensures (c.read_names.ensures.yes c.if-not-read_names.false) (omega arith) c.texts_stand.ensures c.if-not-texts_stand.false c.rewrites.ensures c.if-not-rewrites.false
