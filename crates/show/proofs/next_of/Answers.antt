use mathlib.Core.Path.{sym, ◌∙◌}
use Rattle.meaning.specs.Read.{entries_in}
use Rattle.show.proofs.Names.{names_many}
use Rattle.show.proofs.Merging.{comes_last, goes_last, comes_before, goes_before, both_have}
use native.Mathlib.Omega.{arith}
use Rattle.show.proofs.next_of.Goals as goal

pub returns-then-i-old : goal.returns-then-i-old
returns-then-i-old c =
    let olds = names_many c.args.old.now in
    let news = names_many c.args.new.now in
    comes_last (entries_in c.args.old.now.sheet.now) (entries_in c.args.new.now.sheet.now) c.args.i c.args.j (omega arith) (omega arith)

pub returns-then-j-new : goal.returns-then-j-new
returns-then-j-new c =
    let olds = names_many c.args.old.now in
    let news = names_many c.args.new.now in
    goes_last (entries_in c.args.old.now.sheet.now) (entries_in c.args.new.now.sheet.now) c.args.i c.args.j (omega arith) (omega arith)

pub returns-then-before : goal.returns-then-before
returns-then-before c =
    let olds = names_many c.args.old.now in
    let news = names_many c.args.new.now in
    comes_before (entries_in c.args.old.now.sheet.now) (entries_in c.args.new.now.sheet.now) c.args.i c.args.j (omega arith) (omega arith)
    (rw (c.name-was.ensures, c.name-is.ensures) at (sym c.before-2.ensures ∙ c.if-before.true))

pub returns-then-before-2 : goal.returns-then-before-2
returns-then-before-2 c =
    let olds = names_many c.args.old.now in
    let news = names_many c.args.new.now in
    goes_before (entries_in c.args.old.now.sheet.now) (entries_in c.args.new.now.sheet.now) c.args.i c.args.j (omega arith) (omega arith)
    (rw (c.name-was.ensures, c.name-is.ensures) at (sym c.before-2.ensures ∙ c.if-before.false))
    (rw (c.name-was.ensures, c.name-is.ensures) at (sym c.before-3.ensures ∙ c.if-before-2.true))

pub returns : goal.returns
returns c =
    let olds = names_many c.args.old.now in
    let news = names_many c.args.new.now in
    both_have (entries_in c.args.old.now.sheet.now) (entries_in c.args.new.now.sheet.now) c.args.i c.args.j (omega arith) (omega arith)
    (rw (c.name-was.ensures, c.name-is.ensures) at (sym c.before-2.ensures ∙ c.if-before.false))
    (rw (c.name-was.ensures, c.name-is.ensures) at (sym c.before-3.ensures ∙ c.if-before-2.false))
