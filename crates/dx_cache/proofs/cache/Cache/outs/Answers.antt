use Rattle.std.proofs.Common.{◌≡◌, ◌∙◌, length, sym, ap, Some, None, refl, arith}
use Rattle.std.specs.Prelude.{nat_eq}
use Rattle.std.specs.Map.{lookup}
use Rattle.std.proofs.lemmas.Option.{slice_get_read}
use Rattle.dx_cache.proofs.SlotLaws.{within}
use Rattle.dx_cache.specs.declared.slots.Body.{Body}
use Rattle.dx_cache.specs.Cached.{Cached, find}
use Rattle.dx_cache.specs.Tied.{entry_of}
use Rattle.dx_cache.proofs.Tying.{no_tag, kept_found}
use Rattle.dx_cache.proofs.Steps.{at_slot, entry_here, entry_form, tag_at}
use Rattle.dx_cache.proofs.cache.Cache.outs.Goals as goal

pub index-requires : goal.index-requires
index-requires c =
    let i = c.in-Some.field-0.now in
    let found : lookup (nat_eq c.args.tag) c.self.inside.tags.entries ≡ Some c.in-Some.field-0.now = sym c.in-Some.ensures.value in
    let h = c.self.invariant.tied.tagged c.args.tag i found in
    let w = within c.self.inside.slots.items i (Some h.body) h.at in omega (arith, w)

pub unreachable-requires : goal.unreachable-requires
unreachable-requires c =
    let i = c.in-Some.field-0.now in
    let found : lookup (nat_eq c.args.tag) c.self.inside.tags.entries ≡ Some c.in-Some.field-0.now = sym c.in-Some.ensures.value in
    let h = c.self.invariant.tied.tagged c.args.tag i found in
    let w = within c.self.inside.slots.items i (Some h.body) h.at in
    let at = slice_get_read c.self.inside.slots.items (length c.self.inside.slots.items) i c.index.result.now refl w c.index.ensures in
    let no : Some (Some h.body) ≡ Some None = sym h.at ∙ at ∙ ap Some c.in-None-index.is in
    cc

pub returns-in-None : goal.returns-in-None
returns-in-None c =
    let none : lookup (nat_eq c.args.tag) c.self.inside.tags.entries ≡ None = sym c.in-None.ensures.value in
    let absent = no_tag _ _ _ _ _ _ _ _ _ _ c.self.invariant.tied c.args.tag none in
    ap (λ (x : Cached). find c.args.tag x.entries) (sym c.self.view_is) ∙ absent

pub returns-in-Some-index : goal.returns-in-Some-index
returns-in-Some-index c =
    let i = c.in-Some.field-0.now in
    let found : lookup (nat_eq c.args.tag) c.self.inside.tags.entries ≡ Some c.in-Some.field-0.now = sym c.in-Some.ensures.value in
    let h = c.self.invariant.tied.tagged c.args.tag i found in
    let a = at_slot _ _ _ _ _ _ _ _ _ _ c.self.invariant.tied i h.is_in in
    let w = within c.self.inside.slots.items i (Some h.body) h.at in
    let at = slice_get_read c.self.inside.slots.items (length c.self.inside.slots.items) i c.index.result.now refl w c.index.ensures in
    let both : Some (Some a.full.body) ≡ Some (Some c.in-Some-index.body) = sym a.full.at ∙ at ∙ ap Some c.in-Some-index.is in
    let body : a.full.body ≡ c.in-Some-index.body = cc in
    let form = entry_form _ _ _ _ _ _ _ _ _ _ _ a in
    let is_tag : (entry_of a.full.body a.full.site).tag ≡ c.args.tag = tag_at _ _ _ _ _ _ h a.full in
    let here = entry_here _ _ _ _ _ _ _ _ _ _ _ a ∙ ap Some form in
    let got = kept_found _ (length a.left) c.args.tag (entry_of a.full.body a.full.site) c.self.invariant.kept here is_tag in
    (entry_of a.full.body a.full.site, ap (λ (x : Cached). find c.args.tag x.entries) (sym c.self.view_is) ∙ got, ap (λ (x : Body). x.outs) body)
