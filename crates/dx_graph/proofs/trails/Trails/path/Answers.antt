use Rattle.std.proofs.Common.{ap, ◌∙◌}
use Rattle.dx_macros.specs.Steps.{plain_step, plain_steps}
use Rattle.dx_graph.proofs.Walking.{map_reverse}
use Rattle.dx_graph.proofs.trails.Trails.path.Goals as goal

pub returns : goal.returns
returns c = ap plain_steps c.reverse.ensures.items ∙ map_reverse plain_step c.in_ok-way.way.steps.items ∙ c.in_ok-way.ensures.path
