use Rattle.std.proofs.Common.{◌∙◌, sym}
use Rattle.dx_macros.specs.DictionaryView.{dictionary_of}
use Rattle.dx_macros.specs.MachineView.{stack_now, walk_now, rest, definition_first}
use Rattle.dx_macros.proofs.Pushes.{by_call}
use Rattle.dx_macros.proofs.Steps.{unbound_step, read_again_step, first_read_step}
use Rattle.dx_macros.proofs.jobs.read_name.Goals as goal

pub returns-in-None-clause-continues : goal.returns-in-None-clause-continues
returns-in-None-clause-continues c =
    let d = dictionary_of c.args.d.now in
    let old = c.args.m.now in
    let own = sym c.is_own.ensures ∙ c.if-is_own.false in
    unbound_step d (rest d old) (stack_now old) (walk_now old) c.args.name.now own (sym c.last_before.ensures.last ∙ c.in-None.is)

pub returns-then-is_read-clause-continues : goal.returns-then-is_read-clause-continues
returns-then-is_read-clause-continues c =
    let d = dictionary_of c.args.d.now in
    let old = c.args.m.now in
    let own = sym c.is_own.ensures ∙ c.if-is_own.false in
    let done = sym c.is_read.ensures ∙ c.if-is_read.true in
    read_again_step d (rest d old) (stack_now old) (walk_now old) c.args.name.now c.in-Some.i own (sym c.last_before.ensures.last ∙ c.in-Some.is) done

pub returns-else-is_read-clause-continues : goal.returns-else-is_read-clause-continues
returns-else-is_read-clause-continues c =
    let d = dictionary_of c.args.d.now in
    let old = c.args.m.now in
    let own = sym c.is_own.ensures ∙ c.if-is_own.false in
    let done = sym c.is_read.ensures ∙ c.if-is_read.false in
    by_call c.define.result _ (definition_first d c.in-Some.i old) _ (first_read_step d (rest d old) (stack_now old) (walk_now old) c.args.name.now c.in-Some.i own (sym c.last_before.ensures.last ∙ c.in-Some.is) done) c.define.ensures.continues
