use Rattle.std.proofs.Common.{◌≡◌, ap, subst, ◌∙◌, ◌-◌, cond, None, Some, refl, arith}
use Rattle.std.specs.Prelude.{IsSome}
use Rattle.dx_tags.specs.contracts.term.ValueTagPartialEq.TheImpl as tags
use Rattle.dx_getting.specs.Terms.{Table, count_in}
use Rattle.dx_getting.specs.declared.bound.Binding.{Binding}
use Rattle.dx_getting.proofs.BoundValues.{once_each, changed_count, left_value, seen_count}
use Rattle.dx_getting.proofs.bound.Bound.leave.Goals as goal

pub overflow_sub-binding : goal.overflow_sub-binding
overflow_sub-binding c =
    let is = seen_count c.args.tag c.self.inside.table.entries c.args.self.now.counts (Some c.in-Some.binding.now) (ap (λ (t : Table). t.counts) c.self.view_is) c.in-Some.ensures.value in
    let others = c.requires.others in
    omega (arith, is, others)

pub unreachable-requires : goal.unreachable-requires
unreachable-requires c =
    let is = seen_count c.args.tag c.self.inside.table.entries c.args.self.now.counts None (ap (λ (t : Table). t.counts) c.self.view_is) c.in-None.ensures.value in
    let others = c.requires.others in
    omega (arith, is, others)

pub returns-clause-values : goal.returns-clause-values
returns-clause-values c =
    let w : Binding = record { value = c.in-Some.binding.now.value; links = c.in-Some.binding.now.links - 1 } in
    let written = (c.get_mut.follows.holds w).3 (subst IsSome c.in-Some.ensures.value refl) in
    λ t. left_value c.args.tag t c.self.inside.table.entries _ c.in-Some.binding.now w.links _ (ap (λ (t : Table). t.pairs) c.self.view_is) c.in-Some.ensures.value (written.0 t)

pub returns-clause-counts : goal.returns-clause-counts
returns-clause-counts c =
    let w : Binding = record { value = c.in-Some.binding.now.value; links = c.in-Some.binding.now.links - 1 } in
    let written = (c.get_mut.follows.holds w).3 (subst IsSome c.in-Some.ensures.value refl) in
    let is = seen_count c.args.tag c.self.inside.table.entries c.args.self.now.counts (Some c.in-Some.binding.now) (ap (λ (t : Table). t.counts) c.self.view_is) c.in-Some.ensures.value in
    let less : w.links ≡ count_in c.args.tag c.args.self.now.counts - 1 = omega (arith, is) in
    λ t. changed_count t c.self.inside.table.entries _ (Some w) (tags.ghosts.eq c.args.tag t) _ (ap (λ (t : Table). t.counts) c.self.view_is) (written.0 t)
    ∙ ap (λ n. cond (tags.ghosts.eq c.args.tag t) n (count_in t c.args.self.now.counts)) less

pub returns-clause-once : goal.returns-clause-once
returns-clause-once c = once_each _ (c.get_mut.follows.holds (record { value = c.in-Some.binding.now.value; links = c.in-Some.binding.now.links - 1 })).4
