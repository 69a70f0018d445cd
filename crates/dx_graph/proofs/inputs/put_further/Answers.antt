use Rattle.std.proofs.Common.{◌∙◌, length, arith}
use Rattle.dx_graph.specs.Operands.{GivenFits}
use Rattle.dx_graph.specs.Graph.{MayTake}
use Rattle.dx_graph.proofs.Arguments.{all_at}
use Rattle.dx_graph.proofs.Taking.{further_step, all_push, one_longer}
use Rattle.dx_graph.proofs.inputs.put_further.Goals as goal

pub loop-i-preserved : goal.loop-i-preserved
loop-i-preserved c =
    let old = c.loop-i.inputs in
    let x = c.in_ok-input_of.field-0 in
    let g = c.index-given-i.result in
    let pushed = c.in_ok-push.ensures.ok in
    record {
      count = omega (arith, one_longer old c.push.new.self x pushed, c.loop-i.invariant.count);
      within = omega (arith, c.if-i-more.false);
      trees = λ nodes.
          further_step nodes c.args.more c.args.given.now c.loop-i.i g old c.push.new.self x c.loop-i-test.true c.if-i-more.false c.index-given-i.is
          pushed (c.in_ok-input_of.ensures.tree nodes)
          ∙ c.loop-i.invariant.trees nodes;
      fits = λ nodes all before.
          all_push (MayTake nodes (length nodes)) old c.push.new.self x pushed (c.loop-i.invariant.fits nodes all before)
          (c.in_ok-input_of.ensures.fits nodes (all_at (GivenFits nodes) c.args.given.now c.loop-i.i g c.loop-i-test.true c.index-given-i.is all));
    }
