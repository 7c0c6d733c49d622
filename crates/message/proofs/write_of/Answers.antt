use mathlib.Core.Path.{ap}
use native.Mathlib.Omega.{arith}
use Rattle.meaning.specs.Base.{◌or◌, is_in, test◌then◌else◌}
use Rattle.codes.specs.Codes.{code_number}
use Rattle.types.specs.Table.{tab}
use Rattle.rules.specs.Outcome.{types_named}
use Rattle.message.proofs.Telling.{form_as, given_many, delivered, given_none, given_one, given_two, given_three, one_given, two_given, says_number}
use Rattle.message.proofs.Codes.{Names, names_one, names_two, says_one, says_two, says_none, says_23, says_26, says_37, says_38}
use Rattle.message.proofs.write_of.Goals as goal

pub tell-requires-clause-ready : goal.tell-requires-clause-ready
tell-requires-clause-ready c =
    (given_one c.spelled.ensures c.args.table.now).ready

pub tell-requires-clause-many : goal.tell-requires-clause-many
tell-requires-clause-many c =
    given_many (form_as (ap code_number c.in-IncompatibleBranches.is) (says_23 c.args.image.now (tab c.args.table.now c.args.counts.types c.args.counts.elements) c.args.a c.args.b)) (given_one c.spelled.ensures c.args.table.now)

pub returns-in-IncompatibleBranches : goal.returns-in-IncompatibleBranches
returns-in-IncompatibleBranches c =
    let all = delivered (form_as (ap code_number c.in-IncompatibleBranches.is) (says_23 c.args.image.now (tab c.args.table.now c.args.counts.types c.args.counts.elements) c.args.a c.args.b)) (given_one c.spelled.ensures c.args.table.now) c.args.out.now c.tell.ensures.value c.tell.ensures.out_after in
    record { value = all.0; out_after = all.1 }

pub overflow_cast-lengths : goal.overflow_cast-lengths
unfolding types_named is_in ◌or◌ test◌then◌else◌
overflow_cast-lengths c =
    let small = c.requires.tells.small (λ e. absurd (omega (arith, ap code_number c.in-UnpackLength.is))) (rw c.in-UnpackLength.is) in
    omega arith

pub overflow_cast-lengths-in-UnpackLength : goal.overflow_cast-lengths-in-UnpackLength
unfolding types_named is_in ◌or◌ test◌then◌else◌
overflow_cast-lengths-in-UnpackLength c =
    let small = c.requires.tells.small (λ e. absurd (omega (arith, ap code_number c.in-UnpackLength.is))) (rw c.in-UnpackLength.is) in
    omega arith

pub tell-requires-in-UnpackLength-clause-ready : goal.tell-requires-in-UnpackLength-clause-ready
tell-requires-in-UnpackLength-clause-ready c =
    (given_two (says_number c.args.image.now c.args.a) c.args.table.now (says_number c.args.image.now c.args.b)).ready

pub tell-requires-in-UnpackLength-clause-many : goal.tell-requires-in-UnpackLength-clause-many
tell-requires-in-UnpackLength-clause-many c =
    given_many (form_as (ap code_number c.in-UnpackLength.is) (says_26 c.args.image.now (tab c.args.table.now c.args.counts.types c.args.counts.elements) c.args.a c.args.b)) (given_two (says_number c.args.image.now c.args.a) c.args.table.now (says_number c.args.image.now c.args.b))

pub returns-in-UnpackLength : goal.returns-in-UnpackLength
returns-in-UnpackLength c =
    let all = delivered (form_as (ap code_number c.in-UnpackLength.is) (says_26 c.args.image.now (tab c.args.table.now c.args.counts.types c.args.counts.elements) c.args.a c.args.b)) (given_two (says_number c.args.image.now c.args.a) c.args.table.now (says_number c.args.image.now c.args.b)) c.args.out.now c.tell-in-UnpackLength.ensures.value c.tell-in-UnpackLength.ensures.out_after in
    record { value = all.0; out_after = all.1 }

pub overflow_cast-given : goal.overflow_cast-given
unfolding types_named is_in ◌or◌ test◌then◌else◌
overflow_cast-given c =
    let small = c.requires.tells.small (λ e. absurd (omega (arith, ap code_number c.in-BuiltinArity.is))) (rw c.in-BuiltinArity.is) in
    omega arith

pub tell-requires-in-BuiltinArity-clause-ready : goal.tell-requires-in-BuiltinArity-clause-ready
tell-requires-in-BuiltinArity-clause-ready c =
    (given_three c.spelled-in-BuiltinArity.ensures c.args.table.now c.arity.ensures (says_number c.args.image.now c.args.b)).ready

pub tell-requires-in-BuiltinArity-clause-many : goal.tell-requires-in-BuiltinArity-clause-many
tell-requires-in-BuiltinArity-clause-many c =
    given_many (form_as (ap code_number c.in-BuiltinArity.is) (says_37 c.args.image.now (tab c.args.table.now c.args.counts.types c.args.counts.elements) c.args.a c.args.b)) (given_three c.spelled-in-BuiltinArity.ensures c.args.table.now c.arity.ensures (says_number c.args.image.now c.args.b))

pub returns-in-BuiltinArity : goal.returns-in-BuiltinArity
returns-in-BuiltinArity c =
    let all = delivered (form_as (ap code_number c.in-BuiltinArity.is) (says_37 c.args.image.now (tab c.args.table.now c.args.counts.types c.args.counts.elements) c.args.a c.args.b)) (given_three c.spelled-in-BuiltinArity.ensures c.args.table.now c.arity.ensures (says_number c.args.image.now c.args.b)) c.args.out.now c.tell-in-BuiltinArity.ensures.value c.tell-in-BuiltinArity.ensures.out_after in
    record { value = all.0; out_after = all.1 }

pub overflow_cast-given-in-FunctionArity : goal.overflow_cast-given-in-FunctionArity
unfolding types_named is_in ◌or◌ test◌then◌else◌
overflow_cast-given-in-FunctionArity c =
    let small = c.requires.tells.small (λ e. absurd (omega (arith, ap code_number c.in-FunctionArity.is))) (rw c.in-FunctionArity.is) in
    omega arith

pub tell-requires-in-FunctionArity-clause-ready : goal.tell-requires-in-FunctionArity-clause-ready
tell-requires-in-FunctionArity-clause-ready c =
    (given_three c.spelled-in-FunctionArity.ensures c.args.table.now c.taken_by.ensures (says_number c.args.image.now c.args.b)).ready

pub tell-requires-in-FunctionArity-clause-many : goal.tell-requires-in-FunctionArity-clause-many
tell-requires-in-FunctionArity-clause-many c =
    given_many (form_as (ap code_number c.in-FunctionArity.is) (says_38 c.args.image.now (tab c.args.table.now c.args.counts.types c.args.counts.elements) c.args.a c.args.b)) (given_three c.spelled-in-FunctionArity.ensures c.args.table.now c.taken_by.ensures (says_number c.args.image.now c.args.b))

pub returns-in-FunctionArity : goal.returns-in-FunctionArity
returns-in-FunctionArity c =
    let all = delivered (form_as (ap code_number c.in-FunctionArity.is) (says_38 c.args.image.now (tab c.args.table.now c.args.counts.types c.args.counts.elements) c.args.a c.args.b)) (given_three c.spelled-in-FunctionArity.ensures c.args.table.now c.taken_by.ensures (says_number c.args.image.now c.args.b)) c.args.out.now c.tell-in-FunctionArity.ensures.value c.tell-in-FunctionArity.ensures.out_after in
    record { value = all.0; out_after = all.1 }

pub tell-requires-in-Break-clause-ready : goal.tell-requires-in-Break-clause-ready
tell-requires-in-Break-clause-ready c =
    (given_none c.args.image.now c.args.table.now).ready

pub tell-requires-in-Break-clause-many : goal.tell-requires-in-Break-clause-many
tell-requires-in-Break-clause-many c =
    given_many (says_none c.args.image.now (tab c.args.table.now c.args.counts.types c.args.counts.elements) c.args.a c.args.b c.in-Break.is) (given_none c.args.image.now c.args.table.now)

pub returns-in-Break : goal.returns-in-Break
returns-in-Break c =
    let all = delivered (says_none c.args.image.now (tab c.args.table.now c.args.counts.types c.args.counts.elements) c.args.a c.args.b c.in-Break.is) (given_none c.args.image.now c.args.table.now) c.args.out.now c.tell-in-Break.ensures.value c.tell-in-Break.ensures.out_after in
    record { value = all.0; out_after = all.1 }

pub overflow_add-a : goal.overflow_add-a
overflow_add-a c =
    let n : Names 1 (code_number c.args.code) = names_one c.in-NotIterable.is in
    omega (arith, c.requires.tells.first (omega (arith, n.types)), c.requires.tells.wf.room, c.requires.tells.wf.most)

pub tell-requires-in-NotIterable-clause-ready : goal.tell-requires-in-NotIterable-clause-ready
tell-requires-in-NotIterable-clause-ready c =
    (one_given c.requires.tells c.args.image.now (names_one c.in-NotIterable.is).types).ready

pub tell-requires-in-NotIterable-clause-many : goal.tell-requires-in-NotIterable-clause-many
tell-requires-in-NotIterable-clause-many c =
    let n : Names 1 (code_number c.args.code) = names_one c.in-NotIterable.is in
    given_many (says_one c.args.image.now (tab c.args.table.now c.args.counts.types c.args.counts.elements) c.args.a c.args.b n) (one_given c.requires.tells c.args.image.now n.types)

pub returns-in-NotIterable : goal.returns-in-NotIterable
returns-in-NotIterable c =
    let n : Names 1 (code_number c.args.code) = names_one c.in-NotIterable.is in
    let all = delivered (says_one c.args.image.now (tab c.args.table.now c.args.counts.types c.args.counts.elements) c.args.a c.args.b n) (one_given c.requires.tells c.args.image.now n.types) c.args.out.now c.tell-in-NotIterable.ensures.value c.tell-in-NotIterable.ensures.out_after in
    record { value = all.0; out_after = all.1 }

pub overflow_add-max : goal.overflow_add-max
overflow_add-max c =
    let n : Names 2 (code_number c.args.code) = names_two c.in-InconsistentReturn.is in
    omega (arith, c.max.ensures, c.requires.tells.first (omega (arith, n.types)), c.requires.tells.second (omega (arith, n.types)), c.requires.tells.wf.room, c.requires.tells.wf.most)

pub tell-requires-in-InconsistentReturn-clause-ready : goal.tell-requires-in-InconsistentReturn-clause-ready
tell-requires-in-InconsistentReturn-clause-ready c =
    rw c.max.ensures (two_given c.requires.tells c.args.image.now (names_two c.in-InconsistentReturn.is).types).ready

pub tell-requires-in-InconsistentReturn-clause-many : goal.tell-requires-in-InconsistentReturn-clause-many
tell-requires-in-InconsistentReturn-clause-many c =
    let n : Names 2 (code_number c.args.code) = names_two c.in-InconsistentReturn.is in
    given_many (says_two c.args.image.now (tab c.args.table.now c.args.counts.types c.args.counts.elements) c.args.a c.args.b n) (two_given c.requires.tells c.args.image.now n.types)

pub returns-in-InconsistentReturn : goal.returns-in-InconsistentReturn
returns-in-InconsistentReturn c =
    let n : Names 2 (code_number c.args.code) = names_two c.in-InconsistentReturn.is in
    let all = delivered (says_two c.args.image.now (tab c.args.table.now c.args.counts.types c.args.counts.elements) c.args.a c.args.b n) (two_given c.requires.tells c.args.image.now n.types) c.args.out.now c.tell-in-InconsistentReturn.ensures.value c.tell-in-InconsistentReturn.ensures.out_after in
    record { value = all.0; out_after = all.1 }
