use Rattle.std.proofs.Common.{◌≡◌, ℕ, Bool, true, Some, sym, ap, ◌∙◌, arith}
use Rattle.dx_objects.specs.Runs.{Values}
use Rattle.dx_objects.specs.Values.{value_at}
use Rattle.dx_links.specs.Emptied.{values_held}
use Rattle.dx_links.specs.LinkMap.{LinkMap, Linked}
use Rattle.dx_links.specs.Settled.{held_seen}
use Rattle.dx_links.proofs.EmptiedLaws.{value_here, value_past}
use Rattle.dx_links.proofs.links.Links.value_held.Goals as goal

by_links : (settled : Bool) (links : LinkMap) (held seen : Values) (k : ℕ) → settled ≡ true → held_seen settled links held ≡ seen → value_at seen k ≡ value_at (values_held links) k
by_links settled links held seen k is e = ap (λ vs. value_at vs k) (sym e) ∙ ap (λ b. value_at (held_seen b links held) k) is

pub returns-then-k-len : goal.returns-then-k-len
returns-then-k-len c =
    by_links c.self.inside.settled c.self.inside.slots.links c.self.inside.held _ c.args.k c.if-not-self.false (ap (λ (l : Linked). l.held) c.self.view_is)
    ∙ value_here c.self.inside.slots.links c.args.k (c.at.result.0.now, c.at.result.1.now) c.at.ensures.at
    ∙ ap Some (sym c.value-then-k-len.ensures)

pub returns-else-k-len : goal.returns-else-k-len
returns-else-k-len c =
    let n = c.len.ensures in
    let h = c.if-k-len.false in
    by_links c.self.inside.settled c.self.inside.slots.links c.self.inside.held _ c.args.k c.if-not-self.false (ap (λ (l : Linked). l.held) c.self.view_is)
    ∙ value_past c.self.inside.slots.links c.args.k (omega (arith, n, h))
