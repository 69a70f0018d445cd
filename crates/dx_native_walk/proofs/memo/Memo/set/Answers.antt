use Rattle.std.proofs.Common.{List, Option, Some, None, ap, ◌∙◌}
use Rattle.std.specs.Prelude.{slice_set}
use Rattle.std.proofs.lemmas.List.{map-set}
use Rattle.dx_base.specs.Object.{Tree}
use Rattle.dx_native_walk.specs.Memo.{Kept, tree_in, with_tree}
use Rattle.dx_native_walk.proofs.Keeping.{keeps}
use Rattle.dx_native_walk.proofs.memo.Memo.set.Goals as goal

pub returns : goal.returns
returns c =
    ap (λ (ts : List (Option Tree)). keeps ts (slice_set c.self.inside.arrays.items c.args.i None)) (map-set tree_in c.self.inside.objects.items c.args.i (Some c.args.object))
    ∙ ap (λ (k : Kept). with_tree k c.args.i c.args.object.value) c.self.view_is
