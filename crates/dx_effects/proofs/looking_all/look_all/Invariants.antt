use Rattle.std.proofs.Common.{◌≡◌, drop, length}
use Rattle.dx_tags.specs.Closed.{GoesOn}
use Rattle.dx_getting.specs.Told.{told}
use Rattle.dx_demand.specs.Terms.{AreArguments}
use Rattle.dx_demand.specs.Memo.{answers_of, formed_of}
use Rattle.dx_demand.specs.Calling.{AreValued}
use Rattle.dx_demand.specs.Found.{AllFound}
use Rattle.dx_looking.specs.Looking.{IsLooking, FromHere}
use Rattle.dx_effects.specs.AllLooking.{input_trees}
use Rattle.dx_effects.proofs.SoFar.{SoFar}
use Rattle.dx_effects.proofs.looking_all.look_all.Given as goal

-- those so far have these terms
abbrev pub invariant-loop-i : goal.invariant-loop-i
invariant-loop-i g l = record {
  same : g.F.Files.content l.files ≡ g.F.Files.content l.fn.files;
  faults : g.F.Files.faults l.files ≡ g.F.Files.faults l.fn.files;
  budget : l.at.work.cache.budget ≡ l.fn.at.work.cache.budget;
  looking : IsLooking l.setup l.at;
  goes_on : GoesOn l.fn.at.tags l.at.tags;
  valued : AreValued (answers_of l.at.seen.memo) l.inputs l.i-index;
  count : length l.terms ≡ l.i-index;
  arguments : AreArguments l.at.tags l.terms;
  found : AllFound l.setup.links.now.links l.at.tags (formed_of l.at.seen.memo) l.terms;
  so_far : FromHere l.setup g.L.Library.answer (g.F.Files.content l.fn.files) l.fn.at (told (g.L.Library.done l.fn.lib) (g.F.Files.asked l.fn.files)) (λ x k base s f. SoFar l.setup x k base (input_trees l.setup l.inputs) (input_trees l.setup (drop l.i-index l.inputs)) s f l.terms l.at (told (g.L.Library.done l.lib) (g.F.Files.asked l.files)));
}
