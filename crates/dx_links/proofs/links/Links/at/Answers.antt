use Rattle.std.proofs.Common.{◌≡◌, ◌<◌, Some, length, subst, sym, ap, ◌∙◌, arith}
use Rattle.std.specs.Prelude.{slice_get}
use Rattle.dx_links.specs.LinkMap.{held_at, Linked}
use Rattle.dx_links.specs.Settled.{links_seen}
use Rattle.dx_links.proofs.HeldHere.{held_here}
use Rattle.dx_links.proofs.SettledLaws.{seen_at, seen_length, seen_sorted}
use Rattle.dx_links.proofs.links.Links.at.Goals as goal

pub at-requires : goal.at-requires
at-requires c =
    let h = subst (λ (l : Linked). c.args.i < length l.links) (sym c.self.view_is) c.requires.within in
    let n = seen_length c.self.inside.settled c.self.inside.slots.links in
    record { within = omega (arith, h, n) }

at_place : (c : goal.After-value-value) → slice_get (links_seen c.self.inside.settled c.self.inside.slots.links) c.args.i ≡ Some (c.at.result.0.now, record { value = c.value-value.result.now.value; tag = c.tag_of-tag.result })
at_place c =
    let h = subst (λ (l : Linked). c.args.i < length l.links) (sym c.self.view_is) c.requires.within in
    let n = seen_length c.self.inside.settled c.self.inside.slots.links in
    let within : c.args.i < length c.self.inside.slots.links = omega (arith, h, n) in
    seen_at c.self.inside.settled c.self.inside.slots.links c.args.i (c.at.result.0.now, c.at.result.1.now) c.tag_of-tag.result within c.at.ensures.at c.tag_of-tag.ensures
    ∙ ap (λ v. Some (c.at.result.0.now, record { value = v; tag = c.tag_of-tag.result })) (sym c.value-value.ensures)

pub returns-clause-at : goal.returns-clause-at
returns-clause-at c = sym (ap (λ (l : Linked). slice_get l.links c.args.i) c.self.view_is) ∙ at_place c

pub returns-clause-held : goal.returns-clause-held
returns-clause-held c =
    let sorted = seen_sorted c.self.inside.settled c.self.inside.slots.links c.at.ensures.sorted in
    let within : c.args.i < length (links_seen c.self.inside.settled c.self.inside.slots.links) = subst (λ (l : Linked). c.args.i < length l.links) (sym c.self.view_is) c.requires.within in
    subst (λ (l : Linked). held_at c.at.result.0.now l.links ≡ Some (record { value = c.value-value.result.now.value; tag = c.tag_of-tag.result })) c.self.view_is
    (held_here (links_seen c.self.inside.settled c.self.inside.slots.links) c.args.i _ sorted within (at_place c))
