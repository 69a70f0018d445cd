use Rattle.std.proofs.Common.{◌≡◌, ℕ, length, take, Option, Some, None, List}
use Rattle.std.specs.Prelude.{Ok}
use Rattle.dx_tags.specs.Closed.{heads_of, value_terms}
use Rattle.dx_links.specs.Denotes.{all_denote}
use Rattle.dx_machine.specs.Machine.{State, get_all}
use Rattle.dx_getting.specs.Told.{told}
use Rattle.dx_getting.specs.Stands.{From, WentTo, Stands, setting_of, frame_of, around_of}
use Rattle.dx_getting.specs.Steps.{AreCalls}
use Rattle.dx_getting.proofs.all.get_all.Given as goal

-- the arguments so far are got, and these are their values
abbrev pub invariant-loop-arg : goal.invariant-loop-arg
invariant-loop-arg g l = record {
  same : g.F.Files.content l.files ≡ g.F.Files.content l.fn.files;
  faults : g.F.Files.faults l.files ≡ g.F.Files.faults l.fn.files;
  budget : l.work.cache.budget ≡ l.fn.work.cache.budget;
  calls : AreCalls l.scene.tags.now l.fn.work.cache.entries → AreCalls l.scene.tags.now l.work.cache.entries;
  count : length l.values ≡ l.arg-index;
  so_far : From (setting_of l.scene (g.S.Sites.formed l.sites)) g.L.Library.answer (g.F.Files.content l.fn.files) l.fn.work (told (g.L.Library.done l.fn.lib) (g.F.Files.asked l.fn.files)) (λ world base s. WentTo (setting_of l.scene (g.S.Sites.formed l.sites)) world base (get_all (frame_of (setting_of l.scene (g.S.Sites.formed l.sites)) world l.fn.work.cache.budget) (value_terms (heads_of l.scene.tags.now) (take l.arg-index l.args)) s) l.work (told (g.L.Library.done l.lib) (g.F.Files.asked l.files)) × (all_denote (around_of (setting_of l.scene (g.S.Sites.formed l.sites)) world) (value_terms (heads_of l.scene.tags.now) (take l.arg-index l.args)) ≡ Ok l.values));
}
