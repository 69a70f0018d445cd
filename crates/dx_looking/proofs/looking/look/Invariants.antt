use Rattle.std.proofs.Common.{◌≡◌, length}
use Rattle.dx_tags.specs.Closed.{GoesOn}
use Rattle.dx_getting.specs.Told.{told}
use Rattle.dx_demand.specs.Memo.{KeepsAnswers, answers_of, formed_of}
use Rattle.dx_demand.specs.Found.{Kept}
use Rattle.dx_looking.specs.Setting.{nodes_in}
use Rattle.dx_looking.specs.Looking.{IsLooking, FromHere, input_tree}
use Rattle.dx_looking.proofs.Counting.{open_selectors}
use Rattle.dx_looking.proofs.Ways.{OnTheWay}
use Rattle.dx_looking.proofs.looking.look.Given as goal

abbrev pub decreases-look : goal.decreases-look
decreases-look g l = open_selectors l.at.seen.memo l.at.told (length (nodes_in l.setup))

-- what fits together, and how far looking is by all values
abbrev pub invariant-look : goal.invariant-look
invariant-look g l = record {
  looking : IsLooking l.setup l.at;
  goes_on : GoesOn l.fn.at.tags l.at.tags;
  answers : KeepsAnswers (answers_of l.fn.at.seen.memo) (answers_of l.at.seen.memo);
  first : Kept (formed_of l.fn.at.seen.memo) (formed_of l.at.seen.memo);
  budget : l.at.work.cache.budget ≡ l.fn.at.work.cache.budget;
  same : g.F.Files.content l.files ≡ g.F.Files.content l.fn.files;
  faults : g.F.Files.faults l.files ≡ g.F.Files.faults l.fn.files;
  way : FromHere l.setup g.L.Library.answer (g.F.Files.content l.fn.files) l.fn.at (told (g.L.Library.done l.fn.lib) (g.F.Files.asked l.fn.files)) (λ x k base s f. OnTheWay l.setup x k base (input_tree l.setup l.i) s f l.at (told (g.L.Library.done l.lib) (g.F.Files.asked l.files)));
}
