use Rattle.std.proofs.Common.{◌≡◌, ℕ, List, length, replicate, Option, None, rules, arith, ap, ◌∙◌}
use Rattle.std.proofs.lemmas.Grind.{common_steps}
use Rattle.dx_base.specs.Object.{Tree}
use Rattle.dx_native_walk.specs.Memo.{trees_in}
use Rattle.dx_native_walk.proofs.Keeping.{keeps, none_in}
use Rattle.dx_native_walk.proofs.memo.Memo.new.Goals as goal

pub returns : goal.returns
returns c =
    let many : c.len.result ≡ length c.args.arrays.items = first_of (search rules, grind (arith, common_steps)) in
    ap (λ (ts : List (Option Tree)). keeps ts c.args.arrays.items) (ap trees_in c.in_ok-objects.ensures ∙ none_in c.len.result ∙ ap (λ (n : ℕ). replicate n None) many)
