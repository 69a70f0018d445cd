use Rattle.std.proofs.Common.{◌-◌, sym, subst, arith}
use Rattle.dx_base.specs.NameTable.{under_name}
use Rattle.dx_graph.specs.Graph as plain
use Rattle.dx_graph.specs.GraphView.{graph_of, spots_in}
use Rattle.dx_texts.specs.Expanding.{Remembers}
use Rattle.dx_graph.specs.Operands.{OwnFits}
use Rattle.dx_texts.proofs.LawfulParts.{macro_params}
use Rattle.dx_texts.proofs.Spots.{inner_spot}
use Rattle.dx_graph.proofs.Taking.{one_longer}
use Rattle.dx_texts.proofs.expansion.inner_text.Goals as goal

pub returns-clause-ready : goal.returns-clause-ready
returns-clause-ready c =
    let same = sym c.in_ok-trail.ensures.graph in
    record {
      memo = subst (λ (g : plain.Graph). Remembers g.nodes c.args.w.now) same c.requires.ready.memo;
      own = subst (λ (g : plain.Graph). OwnFits g.nodes (under_name c.in_ok-own.own)) same
          (c.in_ok-own.ensures.fits (graph_of c.args.graph.now).nodes c.requires.given (macro_params c.args.m.now c.as_slice.result.now c.as_slice.ensures c.requires.lawful));
      trail = omega (arith, c.in_ok-trail.ensures.number, one_longer (spots_in c.args.graph.now) (spots_in c.step.new.self) _ c.in_ok-trail.ensures.ok);
      spot = inner_spot (spots_in c.args.graph.now) (spots_in c.step.new.self) c.args.t.now.trail c.in_ok-trail.trail c.args.t.now.left (c.args.t.now.left - 1) c.args.name.now c.args.k
          c.in_ok-trail.ensures.number c.in_ok-trail.ensures.ok (omega (arith, c.requires.left)) c.requires.name (omega (arith, c.ranges.k)) c.requires.ready.spot;
    }
