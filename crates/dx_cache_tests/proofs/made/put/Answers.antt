use Rattle.std.proofs.Common.{◌≡◌, ◌≤◌, ◌+◌, ◌⊎◌, inl, inr, ℕ, sym, subst, true, None}
use Rattle.std.proofs.lemmas.Bool.{le-leb}
use Rattle.dx_cache.specs.Cached.{Cached, find, total, next_place, stays}
use Rattle.dx_cache.proofs.Drops.{room_none, none_fits}
use Rattle.dx_cache_tests.proofs.made.put.Goals as goal

stays_of : (a s b : ℕ) → (a ≡ 1) ⊎ (a ≡ 2) → s ≤ b → stays a s b ≡ true
stays_of a s b (inl e) h = rw e (le-leb s b h)
stays_of a s b (inr e) h = rw e (le-leb s b h)

pub store-requires-clause-absent : goal.store-requires-clause-absent
store-requires-clause-absent c =
    let n = room_none c.args.entry.site c.args.entry.attribute c.args.entry.size c.args.cache.now c.make_room.new.self c.in-None.ensures.drops in
    subst (λ (x : Cached). find c.args.entry.tag x.entries ≡ None) (sym n.1) c.requires.absent

pub store-requires-clause-fits : goal.store-requires-clause-fits
store-requires-clause-fits c =
    let n = room_none c.args.entry.site c.args.entry.attribute c.args.entry.size c.args.cache.now c.make_room.new.self c.in-None.ensures.drops in
    let s = stays_of c.args.entry.attribute c.args.entry.size c.args.cache.now.budget c.requires.kept.attribute c.requires.fits in
    subst (λ (x : Cached). total x.entries + c.args.entry.size ≤ x.budget) (sym n.1) (none_fits c.args.entry.site c.args.entry.attribute c.args.entry.size c.args.cache.now.budget c.args.cache.now.entries n.0 s)

pub store-requires-clause-none_to_drop : goal.store-requires-clause-none_to_drop
store-requires-clause-none_to_drop c =
    let n = room_none c.args.entry.site c.args.entry.attribute c.args.entry.size c.args.cache.now c.make_room.new.self c.in-None.ensures.drops in
    subst (λ (x : Cached). next_place c.args.entry.site c.args.entry.attribute c.args.entry.size x.budget x.entries ≡ None) (sym n.1) n.0
