use Rattle.std.proofs.Common.{◌≡◌, None, drop, map}
use Rattle.dx_graph.specs.GraphView.{graph_of}
use Rattle.dx_graph.specs.Unfolding.{unfolded, calls_of, call_at}
use Rattle.dx_tags.specs.Closed.{GoesOn}
use Rattle.dx_getting.specs.Told.{told}
use Rattle.dx_looking.specs.Looking.{IsLooking, FromHere}
use Rattle.dx_engine.specs.Gathering.{gathers}
use Rattle.dx_engine.specs.Running.{ChangesFit}
use Rattle.dx_engine.proofs.Coursing.{OnCourse}
use Rattle.dx_engine.proofs.running.run_effects.Given as goal

-- the first effects were performed, and nothing ended the execution
abbrev pub invariant-loop-n : goal.invariant-loop-n
invariant-loop-n g l = record {
  same : g.F.Files.content l.files ≡ g.F.Files.content l.fn.files;
  reads : g.F.Files.faults l.files ≡ g.F.Files.faults l.fn.files;
  writes : g.O.Sink.faults l.out ≡ g.O.Sink.faults l.fn.out;
  budget : l.at.work.cache.budget ≡ l.fn.at.work.cache.budget;
  looking : IsLooking l.setup l.at;
  goes_on : GoesOn l.fn.at.tags l.at.tags;
  fits : ChangesFit l.at.tags l.gathered.changes;
  no_error : l.gathered.error ≡ None;
  course : FromHere l.setup g.L.Library.answer (g.F.Files.content l.fn.files) l.fn.at (told (g.L.Library.done l.fn.lib) (g.F.Files.asked l.fn.files)) (λ x k base s f. OnCourse l.setup x k base (unfolded (graph_of l.setup.graph.now)) (map (call_at (calls_of (graph_of l.setup.graph.now).nodes)) (drop l.n-index (graph_of l.setup.graph.now).effects)) s f (g.O.Sink.written l.fn.out) (gathers l.gathered) l.at (told (g.L.Library.done l.lib) (g.F.Files.asked l.files)) (g.O.Sink.written l.out));
}
