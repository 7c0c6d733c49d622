use mathlib.Core.Path.{sym, ◌∙◌}
use Rattle.meaning.specs.Base.{bytes}
use Rattle.show.proofs.Names.{names_many, its_names}
use Rattle.show.proofs.Merging.{came_fits, came_stepped, went_fits, went_stepped, passed_over, turned_fits, turned_stepped}
use native.Mathlib.Omega.{arith}
use Rattle.show.proofs.tell_next.Goals as goal

pub next_of-requires : goal.next_of-requires
next_of-requires c =
    let olds = names_many c.args.old.now in
    let news = names_many c.args.new.now in
    (omega arith, omega arith, omega arith)

pub overflow_add-result : goal.overflow_add-result
overflow_add-result c =
    let news = names_many c.args.new.now in
    omega (arith, c.in-Came.ensures.0, (its_names c.args.new.now).few)

pub put_signed-requires-clause-k_bound : goal.put_signed-requires-clause-k_bound
put_signed-requires-clause-k_bound c = omega (arith, names_many c.args.new.now, c.in-Came.ensures.0)

pub put_signed-requires-clause-in_bounds : goal.put_signed-requires-clause-in_bounds
unfolding bytes
put_signed-requires-clause-in_bounds c = came_fits c.requires c.in-Came.ensures

pub overflow_add-result-in-Went : goal.overflow_add-result-in-Went
overflow_add-result-in-Went c =
    let olds = names_many c.args.old.now in
    omega (arith, c.in-Went.ensures.0, (its_names c.args.old.now).few)

pub put_signed-requires-in-Went-clause-k_bound : goal.put_signed-requires-in-Went-clause-k_bound
put_signed-requires-in-Went-clause-k_bound c = omega (arith, names_many c.args.old.now, c.in-Went.ensures.0)

pub put_signed-requires-in-Went-clause-in_bounds : goal.put_signed-requires-in-Went-clause-in_bounds
unfolding bytes
put_signed-requires-in-Went-clause-in_bounds c = went_fits c.requires c.in-Went.ensures

pub overflow_add-next : goal.overflow_add-next
overflow_add-next c =
    let olds = names_many c.args.old.now in
    omega (arith, c.in-Both.ensures.0, (its_names c.args.old.now).few)

pub overflow_add-next-in-Both : goal.overflow_add-next-in-Both
overflow_add-next-in-Both c =
    let news = names_many c.args.new.now in
    omega (arith, c.in-Both.ensures.1, (its_names c.args.new.now).few)

pub has_turned-requires-clause-i_bound : goal.has_turned-requires-clause-i_bound
has_turned-requires-clause-i_bound c = omega (arith, names_many c.args.old.now, c.in-Both.ensures.0)

pub has_turned-requires-clause-j_bound : goal.has_turned-requires-clause-j_bound
has_turned-requires-clause-j_bound c = omega (arith, names_many c.args.new.now, c.in-Both.ensures.1)

pub has_turned-requires-clause-one_name : goal.has_turned-requires-clause-one_name
has_turned-requires-clause-one_name c = c.in-Both.ensures.2

pub returns-then-not-has_turned : goal.returns-then-not-has_turned
returns-then-not-has_turned c = passed_over c.requires c.in-Both.ensures (sym c.has_turned.ensures ∙ c.if-not-has_turned.true)

pub put_turned-requires-clause-i_bound : goal.put_turned-requires-clause-i_bound
put_turned-requires-clause-i_bound c = omega (arith, names_many c.args.old.now, c.in-Both.ensures.0)

pub put_turned-requires-clause-j_bound : goal.put_turned-requires-clause-j_bound
put_turned-requires-clause-j_bound c = omega (arith, names_many c.args.new.now, c.in-Both.ensures.1)

pub put_turned-requires-clause-in_bounds : goal.put_turned-requires-clause-in_bounds
put_turned-requires-clause-in_bounds c = turned_fits c.requires c.in-Both.ensures (sym c.has_turned.ensures ∙ c.if-not-has_turned.false)

pub returns-in-Came : goal.returns-in-Came
unfolding bytes
returns-in-Came c = came_stepped c.requires c.in-Came.ensures c.put_signed.ensures

pub returns-in-Went : goal.returns-in-Went
unfolding bytes
returns-in-Went c = went_stepped c.requires c.in-Went.ensures c.put_signed-in-Went.ensures

pub returns-else-not-has_turned : goal.returns-else-not-has_turned
returns-else-not-has_turned c =
    turned_stepped c.requires c.in-Both.ensures (sym c.has_turned.ensures ∙ c.if-not-has_turned.false) c.put_turned.ensures
