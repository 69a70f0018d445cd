use Rattle.std.proofs.Common.{◌∙◌, sym, refl, arith}
use Rattle.std.specs.Prelude.{Err}
use Rattle.dx_macros.specs.Bound.{bound_of}
use Rattle.dx_macros.specs.DictionaryView.{dictionary_of}
use Rattle.dx_macros.specs.MachineView.{means}
use Rattle.dx_macros.proofs.Doing.{popped, fails}
use Rattle.dx_macros.proofs.Weights.{bounded, popped_weight}
use Rattle.dx_macros.proofs.check.run.Goals as goal

pub loop-m-preserved : goal.loop-m-preserved
loop-m-preserved c =
    let d = dictionary_of c.args.d.now in
    record {
      same = sym (popped d c.loop-m.m c.pop.new.self c.in-Some.job c.in-Some.ensures.items ∙ c.in-Ok.ensures.continues) ∙ c.loop-m.invariant.same;
      fit = (c.in-Ok.ensures.falls (bound_of c.args.d.now) (bounded c.args.d.now) c.loop-m.invariant.fit).1;
    }

pub loop-m-smaller : goal.loop-m-smaller
loop-m-smaller c =
    let popped = popped_weight (bound_of c.args.d.now) c.loop-m.m c.pop.new.self c.in-Some.job c.in-Some.ensures.items in
    let less = (c.in-Ok.ensures.falls (bound_of c.args.d.now) (bounded c.args.d.now) c.loop-m.invariant.fit).0 in
    omega (arith, popped, less)

pub returns-in-Err : goal.returns-in-Err
returns-in-Err c =
    let d = dictionary_of c.args.d.now in
    fails {A = Unit {0}} c.do_job.result (Err c.in-Err.stop) c.in-Err.stop (means d c.args.m) _ _ (sym c.loop-m.invariant.same ∙ popped d c.loop-m.m c.pop.new.self c.in-Some.job c.in-Some.ensures.items) c.do_job.ensures.continues c.in-Err.is refl
