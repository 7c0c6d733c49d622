use Rattle.show.proofs.Names.{names_many, its_names}
use Rattle.show.proofs.Merging.{changes_first, changes_ahead, changes_next, changes_end}
use native.Mathlib.Omega.{arith}
use Rattle.show.proofs.put_changes.Goals as goal

pub overflow_add-all : goal.overflow_add-all
overflow_add-all c = omega (arith, (its_names c.args.old.now).few, (its_names c.args.new.now).few)

pub loop-place-init : goal.loop-place-init
loop-place-init c = changes_first _ _ _ c.requires

pub overflow_add-place : goal.overflow_add-place
overflow_add-place c =
    let olds = names_many c.args.old.now in
    let news = names_many c.args.new.now in
    omega (arith, (its_names c.args.old.now).few, (its_names c.args.new.now).few)

pub tell_next-place-requires : goal.tell_next-place-requires
tell_next-place-requires c =
    let olds = names_many c.args.old.now in
    let news = names_many c.args.new.now in
    changes_ahead c.loop-place.invariant (omega arith)

pub loop-place-smaller : goal.loop-place-smaller
loop-place-smaller c = omega (arith, c.loop-place-test.true, c.tell_next-place.ensures.on)

pub loop-place-preserved : goal.loop-place-preserved
loop-place-preserved c = changes_next c.loop-place.invariant c.tell_next-place.ensures

pub returns : goal.returns
returns c =
    let olds = names_many c.args.old.now in
    let news = names_many c.args.new.now in
    changes_end c.loop-place.invariant (λ l. omega (arith, l))
