use Rattle.std.proofs.Common.{◌∙◌, map}
use Rattle.std.proofs.Math.Logic.{∥∥₁_map}
use Rattle.dx_base.specs.NameTable.{under_name}
use Rattle.dx_ast.specs.Lawful.{IsLawfulParam}
use Rattle.dx_graph.specs.Operands.{given_of, scope_with}
use Rattle.dx_graph.proofs.Arguments.{all_at}
use Rattle.dx_texts.proofs.Parts.{holds_param, holds_params}
use Rattle.dx_texts.proofs.Scopes.{scope_put, fits_put, params_step}
use Rattle.dx_texts.proofs.own.bind_params.Goals as goal

pub loop-i-preserved : goal.loop-i-preserved
loop-i-preserved c =
    let old = under_name c.loop-i.own in
    let new = under_name c.put.new.own in
    record {
      scope = λ nodes top.
          params_step c.args.params.now c.loop-i.i c.index-params-i.result c.bytes.result.now (map (given_of nodes) c.args.given.now) (scope_with nodes old top) (scope_with nodes new top)
          c.loop-i-test.true c.index-params-i.is c.bytes.ensures (scope_put nodes old new c.bytes.result.now c.param_operand.result _ top c.in_ok-put.ensures (c.param_operand.ensures.tree nodes))
          ∙ c.loop-i.invariant.scope nodes top;
      own = holds_param old new c.args.params.now c.loop-i.i c.index-params-i.result c.bytes.result.now c.param_operand.result c.loop-i-test.true c.index-params-i.is c.bytes.ensures c.in_ok-put.ensures c.loop-i.invariant.own;
      fits = λ nodes all lawful.
          fits_put nodes old new c.bytes.result.now c.param_operand.result c.in_ok-put.ensures
          (c.param_operand.ensures.fits nodes all (∥∥₁_map lawful (λ ps. all_at IsLawfulParam c.args.params.now c.loop-i.i c.index-params-i.result c.loop-i-test.true c.index-params-i.is ps)))
          (c.loop-i.invariant.fits nodes all lawful);
    }

pub returns-clause-own : goal.returns-clause-own
returns-clause-own c = holds_params (under_name c.loop-i.own) c.args.params.now c.loop-i.i c.loop-i-test.false c.loop-i.invariant.own
