use Rattle.std.proofs.Common.{◌≡◌, ◌<◌, ℕ, Option, Some, None, List}
use Rattle.std.specs.Prelude.{slice_get}
use Rattle.dx_tags.specs.Closed.{heads_of}
use Rattle.dx_machine.specs.Machine.{State}
use Rattle.dx_getting.specs.Told.{told}
use Rattle.dx_getting.specs.Stands.{From, Stands, setting_of, frame_of}
use Rattle.dx_getting.specs.Steps.{AreCalls}
use Rattle.dx_getting.specs.Stack.{IsStack, IsAway, AreAway, GoesOn, rest_in, rest_of, left_of, lowest}
use Rattle.dx_getting.proofs.stack.work_off.Given as goal

-- the stack's remaining work is that of the whole term
abbrev pub invariant-stack : goal.invariant-stack
invariant-stack g l = record {
  same : g.F.Files.content l.files ≡ g.F.Files.content l.fn.files;
  faults : g.F.Files.faults l.files ≡ g.F.Files.faults l.fn.files;
  budget : l.work.cache.budget ≡ l.fn.work.cache.budget;
  calls : AreCalls l.scene.tags.now l.fn.work.cache.entries → AreCalls l.scene.tags.now l.work.cache.entries;
  stack : IsStack (setting_of l.scene (g.S.Sites.formed l.sites)) l.below.items l.top;
  away : IsAway l.work l.top.wanted.tag × AreAway l.work l.below.items;
  lowest_is : lowest l.below.items l.top ≡ l.fn.t;
  so_far : From (setting_of l.scene (g.S.Sites.formed l.sites)) g.L.Library.answer (g.F.Files.content l.fn.files) l.fn.work (told (g.L.Library.done l.fn.lib) (g.F.Files.asked l.fn.files)) (λ world base s. GoesOn (setting_of l.scene (g.S.Sites.formed l.sites)) world base l.fn.work.cache.budget (rest_in (frame_of (setting_of l.scene (g.S.Sites.formed l.sites)) world l.fn.work.cache.budget) (heads_of l.scene.tags.now) (slice_get l.scene.tags.now l.fn.t.tag) 0 s) l.below.items l.top l.work (told (g.L.Library.done l.lib) (g.F.Files.asked l.files)));
}

abbrev pub decreases-stack : goal.decreases-stack
decreases-stack g l = left_of l.scene.tags.now l.below.items l.top
