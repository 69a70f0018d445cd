use Rattle.std.proofs.Common.{length}
use Rattle.dx_expansion.specs.Driving.{SameWorld, Rests}
use Rattle.dx_base.specs.Places.{flags}
use Rattle.dx_graph.specs.GraphView.{graph_of}
use Rattle.dx_texts.specs.Expanding.{dictionary_in}
use Rattle.dx_expansion.proofs.Marked.{AreDone}
use Rattle.dx_expansion.proofs.Counted.{AreCounted}
use Rattle.dx_expansion.proofs.driver.define_marked.Given as goal

abbrev pub invariant-loop-position : goal.invariant-loop-position
invariant-loop-position l = record {
  rests : Rests l.w l.graph;
  same : SameWorld l.initial.w l.w;
  done : AreDone l.w.memo l.initial.position-iterator (length l.yielded);
  counted : AreCounted (dictionary_in l.initial.w) (flags l.marks) l.initial.position-iterator (length l.yielded) (length (graph_of l.initial.graph).nodes) (length (graph_of l.graph).nodes);
}
