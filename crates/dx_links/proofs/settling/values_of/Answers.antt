use Rattle.std.proofs.Common.{◌≡◌, suc, ◌+◌, ◌∷◌, ◌++◌, [], Some, take, sym, ap, ap₂, ◌∙◌, arith, rules}
use Rattle.dx_links.specs.Emptied.{values_held}
use Rattle.dx_links.proofs.EmptiedLaws.{values_more}
use Rattle.dx_links.proofs.settling.values_of.Goals as goal

pub loop-k-preserved : goal.loop-k-preserved
loop-k-preserved c =
    let links = c.args.slots.now.links in
    let k = c.loop-k.k in
    let next : suc k ≡ k + 1 = omega arith in
    let same : c.in_ok-value.value.value ≡ c.value.result.now.value = search rules in
    c.in_ok-push.ensures.ok
    ∙ ap₂ (λ vs v. vs ++ v ∷ []) c.loop-k.invariant (ap Some (same ∙ c.value.ensures))
    ∙ sym (values_more links k (c.at.result.0.now, c.at.result.1.now) c.at.ensures.at)
    ∙ ap (λ n. values_held (take n links)) next
