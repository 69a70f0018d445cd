use Rattle.std.proofs.Common.{◌≡◌, ◌<◌, None, length, subst, ap, ◌∙◌, arith}
use Rattle.std.specs.Prelude.{slice_get}
use Rattle.std.specs.Cmp.{tied_back}
use Rattle.std.specs.declared.cmp.Ordering.TheVariants.{Equal}
use Rattle.dx_links.specs.LinkMap.{held_at, key_cmp, Linked}
use Rattle.dx_links.specs.Slots.{no_link}
use Rattle.dx_links.proofs.LinkLaws.{key_cmp_total}
use Rattle.dx_links.proofs.SettledLaws.{held_tied, seen_key, seen_length, seen_none}
use Rattle.dx_links.proofs.links.Links.get.Goals as goal

pub at-requires : goal.at-requires
at-requires c =
    let n = seen_length c.self.inside.settled c.self.inside.slots.links in
    let h = c.in-Some.ensures.within in
    record { within = subst (λ (l : Linked). c.in-Some.i < length l.links) c.self.view_is (omega (arith, h, n)) }

pub returns-in-None : goal.returns-in-None
returns-in-None c = subst (λ (l : Linked). held_at c.args.key.now l.links ≡ None) c.self.view_is (seen_none c.self.inside.settled c.args.key.now c.self.inside.slots.links c.in-None.ensures)

pub returns-in-Some : goal.returns-in-Some
returns-in-Some c =
    let at = ap (λ (l : Linked). slice_get l.links c.in-Some.i) c.self.view_is ∙ c.at.ensures.at in
    let same = seen_key c.self.inside.settled c.self.inside.slots.links c.in-Some.i _ no_link c.in-Some.ensures.within at in
    held_tied c.args.key.now c.at.result.0.now c.args.self.now.links (tied_back key_cmp_total c.at.result.0.now c.args.key.now (subst (λ k. key_cmp k c.args.key.now ≡ Equal) same c.in-Some.ensures.key))
    ∙ c.at.ensures.held
