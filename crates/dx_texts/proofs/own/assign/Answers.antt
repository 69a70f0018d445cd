use Rattle.dx_base.specs.NameTable.{under_name}
use Rattle.dx_graph.specs.Operands.{results_trees, scope_with}
use Rattle.std.proofs.Common.{◌∙◌}
use Rattle.dx_texts.proofs.Parts.{holds_more, holds_all}
use Rattle.dx_texts.proofs.Scopes.{scope_put, fits_put, assigned_step}
use Rattle.dx_texts.proofs.own.assign.Goals as goal

pub loop-i-preserved : goal.loop-i-preserved
loop-i-preserved c =
    let old = under_name c.loop-i.own in
    let new = under_name c.put.new.own in
    record {
      scope = λ nodes top.
          assigned_step c.args.targets.now c.loop-i.i c.index-targets-i.result c.bytes.result.now (results_trees nodes c.args.results.now) (scope_with nodes old top) (scope_with nodes new top)
          c.loop-i-test.true c.index-targets-i.is c.bytes.ensures (scope_put nodes old new c.bytes.result.now c.at.result _ top c.in_ok-put.ensures (c.at.ensures.tree nodes))
          ∙ c.loop-i.invariant.scope nodes top;
      own = λ names h. holds_more old new names c.args.targets.now c.loop-i.i c.index-targets-i.result c.bytes.result.now c.at.result c.loop-i-test.true c.index-targets-i.is c.bytes.ensures c.in_ok-put.ensures (c.loop-i.invariant.own names h);
      fits = λ nodes r own. fits_put nodes old new c.bytes.result.now c.at.result c.in_ok-put.ensures (c.at.ensures.fits nodes r) (c.loop-i.invariant.fits nodes r own);
    }

pub returns-clause-own : goal.returns-clause-own
returns-clause-own c = λ names h. holds_all (under_name c.loop-i.own) names c.args.targets.now c.loop-i.i c.loop-i-test.false (c.loop-i.invariant.own names h)
