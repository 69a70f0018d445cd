use Rattle.std.proofs.Common.{ap, ◌∷◌, ◌++◌, [], ◌∙◌}
use Rattle.dx_objects.proofs.PartsLaws.{range_more}
use Rattle.dx_links.proofs.slots.numbers.Goals as goal

pub loop-n-preserved : goal.loop-n-preserved
loop-n-preserved c = c.in_ok-push.ensures.items ∙ ap (λ ns. ns ++ c.loop-n.n ∷ []) c.loop-n.invariant ∙ range_more c.loop-n.n
