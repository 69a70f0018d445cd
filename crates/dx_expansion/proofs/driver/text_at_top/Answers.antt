use Rattle.std.proofs.Common.{ap, refl}
use Rattle.dx_macros.specs.Expansion.{Scope, under_top}
use Rattle.dx_graph.specs.Trails.{spot_under}
use Rattle.dx_graph.specs.GraphView.{graph_of, spots_in}
use Rattle.dx_texts.specs.Expanding.{Setting, dictionary_in, top_scope}
use Rattle.dx_expansion.proofs.Driving.{scope_none}
use Rattle.dx_texts.proofs.Parts.{at_top_walked}
use Rattle.dx_expansion.proofs.driver.text_at_top.Goals as goal

pub returns-clause-setting : goal.returns-clause-setting
returns-clause-setting c =
    let w = c.args.w.now in
    let top = top_scope w c.args.position in
    λ g.
    let at : Scope → Setting = λ scope. record { under = under_top 64 (dictionary_in w).macros w.frames top; spot = spot_under (spots_in g) c.args.trail; scope = scope } in
    ap at (scope_none (graph_of g).nodes c.new.result top c.new.ensures.empty)

pub returns-clause-walked : goal.returns-clause-walked
returns-clause-walked c = λ t h. at_top_walked c.args.w.now (record { trail = c.args.trail; left = 64; position = c.args.position; own = c.new.result }) t refl h
