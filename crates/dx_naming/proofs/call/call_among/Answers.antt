use Rattle.std.proofs.Common.{◌∙◌, ◌≤◌, ◌+◌, length, drop, refl, sym, arith}
use Rattle.dx_demand.proofs.Taken.{slot}
use Rattle.dx_looking.specs.Setting.{nodes_in}
use Rattle.dx_naming.proofs.Among.{first_among, first_under, next_among, none_among, found_here, found_later}
use Rattle.dx_naming.proofs.call.call_among.Goals as goal

pub loop-i-init : goal.loop-i-init
loop-i-init c = λ is. refl

pub call_under-requires-clause-valued : goal.call_under-requires-clause-valued
call_under-requires-clause-valued c =
    let inputs = c.args.inputs.now in
    let i = c.loop-i.i-index in
    c.requires.valued i c.i-item.result c.loop-i-test.true (slot inputs inputs i i c.i-item.result refl refl c.loop-i-test.true c.i-item.is)

pub returns-in-Some-clause-first : goal.returns-in-Some-clause-first
returns-in-Some-clause-first c = λ is.
    let setup = c.args.setup.now in
    let at = c.args.at.now in
    let tag = c.args.tag in
    let inputs = c.args.inputs.now in
    let i = c.loop-i.i-index in
    let x = c.i-item.result in
    found_here (nodes_in setup) c.in-Some.m c.in_ok-m.field-0 (first_under setup at tag x) (first_among setup at tag (drop (i + 1) inputs)) c.in-Some.is (c.in_ok-m.ensures.first is)
    ∙ sym (next_among setup at tag inputs i x c.i-item.is c.loop-i-test.true) ∙ c.loop-i.invariant is

pub loop-i-preserved : goal.loop-i-preserved
loop-i-preserved c = λ is.
    let setup = c.args.setup.now in
    let at = c.args.at.now in
    let tag = c.args.tag in
    let inputs = c.args.inputs.now in
    let i = c.loop-i.i-index in
    let x = c.i-item.result in
    found_later (nodes_in setup) c.in_ok-m.field-0 (first_under setup at tag x) (first_among setup at tag (drop (i + 1) inputs)) c.in_default.is (c.in_ok-m.ensures.first is)
    ∙ sym (next_among setup at tag inputs i x c.i-item.is c.loop-i-test.true) ∙ c.loop-i.invariant is

pub returns-clause-first : goal.returns-clause-first
returns-clause-first c = λ is.
    let inputs = c.args.inputs.now in
    let i = c.loop-i.i-index in
    let past : length inputs ≤ i = (let b = c.loop-i-test.false in omega (arith, b)) in
    sym (none_among c.args.setup.now c.args.at.now c.args.tag inputs i past) ∙ c.loop-i.invariant is
