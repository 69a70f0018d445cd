use Rattle.std.proofs.Common.{FitsSigned, w64, ap, ◌∙◌, rules}
use mir.Syntax.{w128}
use Rattle.std.proofs.lemmas.Int.{to_z-of_z}
use Rattle.dx_stats.specs.Statistics.{floor, root_of, mean_by, variance_by}
use Rattle.dx_stats.proofs.Five.{five}
use Rattle.dx_stats.proofs.statistics.results_of.Goals as goal

pub returns : goal.returns
returns c =
    let s = c.args.sums in
    let total : FitsSigned w64 s.total = search rules in
    let low : FitsSigned w64 s.least = search rules in
    let high : FitsSigned w64 s.greatest = search rules in
    let wide = to_z-of_z w128 c.wide.result (record { sfits = c.wide.type_inv }) ∙ c.wide.ensures ∙ to_z-of_z w64 s.total total in
    let variance = to_z-of_z w128 c.variance_of-variance.result (record { sfits = c.variance_of-variance.type_inv }) ∙ c.variance_of-variance.ensures in
    five _ _ _ _ _ (mean_by s.count s.total) (root_of (variance_by s.count s.total s.squares)) (variance_by s.count s.total s.squares) s.least s.greatest _ _ _ _ _ _
    c.new-results.ensures c.in_ok-push_number.ensures c.in_ok-push_number-2.ensures c.in_ok-push_number-3.ensures c.in_ok-push_number-4.ensures c.in_ok-push_number-5.ensures
    (to_z-of_z w128 c.floor.result (record { sfits = c.floor.type_inv }) ∙ c.floor.ensures ∙ ap (λ z. floor z s.count) wide)
    (to_z-of_z w128 c.root.result (record { sfits = c.root.type_inv }) ∙ c.root.ensures ∙ ap root_of variance)
    variance
    (to_z-of_z w128 c.wide-2.result (record { sfits = c.wide-2.type_inv }) ∙ c.wide-2.ensures ∙ to_z-of_z w64 s.least low)
    (to_z-of_z w128 c.wide-3.result (record { sfits = c.wide-3.type_inv }) ∙ c.wide-3.ensures ∙ to_z-of_z w64 s.greatest high)
