use Rattle.std.proofs.Common.{◌∙◌, length, map, arith}
use Rattle.dx_graph.specs.Operands.{given_of}
use Rattle.dx_graph.specs.Graph.{MayTake}
use Rattle.dx_graph.proofs.Taking.{named_step, all_push, one_longer}
use Rattle.dx_graph.proofs.inputs.named_inputs.Goals as goal

pub loop-i-preserved : goal.loop-i-preserved
loop-i-preserved c =
    let old = c.loop-i.inputs in
    let x = c.in_ok-input_of.field-0 in
    let pushed = c.in_ok-push.ensures.ok in
    record {
      count = omega (arith, one_longer old c.push.new.self x pushed, c.loop-i.invariant.count);
      trees = λ nodes more.
          named_step nodes more c.args.names.now c.loop-i.i _ (map (given_of nodes) c.args.given.now) old c.push.new.self x c.named_operand.result c.loop-i-test.true
          pushed (c.in_ok-input_of.ensures.tree nodes) (c.named_operand.ensures.tree nodes)
          ∙ c.loop-i.invariant.trees nodes more;
      fits = λ nodes all.
          all_push (MayTake nodes (length nodes)) old c.push.new.self x pushed (c.loop-i.invariant.fits nodes all) (c.in_ok-input_of.ensures.fits nodes (c.named_operand.ensures.fits nodes all));
    }
