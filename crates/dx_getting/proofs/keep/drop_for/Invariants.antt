use Rattle.std.proofs.Common.{◌≡◌, ◌≤◌, ◌++◌, map, length}
use Rattle.dx_cache.specs.declared.entry.Entry.{Entry}
use Rattle.dx_cache.specs.Cached as kept
use Rattle.dx_cache.specs.Cached.{IsPartOf}
use Rattle.dx_getting.specs.declared.event.Event.TheVariants as shown
use Rattle.dx_getting.proofs.keep.drop_for.Given as goal

abbrev pub decreases-drops : goal.decreases-drops
decreases-drops l = length l.cache.entries

abbrev pub invariant-drops : goal.invariant-drops
invariant-drops l = record {
  budget : l.cache.budget ≡ l.fn.cache.budget;
  room : l.fn.cache.room ≤ l.cache.room;
  part : IsPartOf l.cache.entries l.fn.cache.entries;
  left : kept.left_for l.site l.attribute l.size l.fn.cache.budget l.cache.entries ≡ kept.left_for l.site l.attribute l.size l.fn.cache.budget l.fn.cache.entries;
  drops : l.events.items ++ map (λ (x : Entry). shown.Drop x.site) (kept.dropped_for l.site l.attribute l.size l.fn.cache.budget l.cache.entries) ≡ l.fn.events.items ++ map (λ (x : Entry). shown.Drop x.site) (kept.dropped_for l.site l.attribute l.size l.fn.cache.budget l.fn.cache.entries);
}
