use Rattle.std.proofs.Common.{◌∙◌, ℕ, map, length, ap, sym, subst, arith, List, All}
use Rattle.dx_ast.specs.Table.{row_of}
use Rattle.dx_macros.specs.Expansion as plain
use Rattle.dx_graph.specs.Operands.{given_of, GivenFits}
use Rattle.dx_graph.specs.declared.given.Given.{Given}
use Rattle.dx_graph.proofs.Taking.{joined, all_dropped}
use Rattle.dx_graph.proofs.inputs.inputs_of.Goals as goal

pub returns-clause-trees : goal.returns-clause-trees
returns-clause-trees c = λ nodes.
    let given = c.args.given.now in
    let names = c.params-names.result.now in
    joined nodes c.more.result names (row_of c.args.f).params _ given c.behind.result.now c.in_ok-inputs.inputs c.put_further.new.inputs
    c.params-names.ensures (omega arith) c.behind.ensures (c.in_ok-inputs.ensures.trees nodes c.more.result) (c.in_ok-put_further.ensures.trees nodes)
    ∙ ap (λ (k : ℕ). plain.inputs (row_of c.args.f).params k 0 (map (given_of nodes) given)) c.more.ensures

pub returns-clause-fits : goal.returns-clause-fits
returns-clause-fits c = λ nodes all.
    c.in_ok-put_further.ensures.fits nodes (subst (λ (gs : List Given). All (GivenFits nodes) gs) (sym c.behind.ensures) (all_dropped (GivenFits nodes) _ c.args.given.now all)) (c.in_ok-inputs.ensures.fits nodes all)
