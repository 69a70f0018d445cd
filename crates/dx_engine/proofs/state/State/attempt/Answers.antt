use Rattle.std.proofs.Common.{refl, ap}
use Rattle.dx_links.specs.LinkMap.{Linked}
use Rattle.dx_getting.specs.Terms.{Table}
use Rattle.dx_graph.specs.GraphView.{graph_of}
use Rattle.dx_graph.specs.Unfolding.{unfolded}
use Rattle.dx_looking.specs.Setting.{fixed}
use Rattle.dx_engine.proofs.CutShort.{cut_at_end, has_put, none_has_put}
use Rattle.dx_engine.proofs.Executed.{short_so, execute_so, fits_behind}
use Rattle.dx_engine.proofs.Finished.{on_cut}
use Rattle.dx_engine.proofs.SoundBehind.{lawful_calls}
use Rattle.dx_engine.proofs.state.State.attempt.Goals as goal

pub returns-in_err-gathered-clause-executes : goal.returns-in_err-gathered-clause-executes
returns-in_err-gathered-clause-executes g c = λ map content sound.
    short_so (fixed g.L.Library.answer map c.args.self.now.at.work.cache.budget) c.args.self.now c.run.new.self (unfolded (graph_of c.args.g.now)) _ _ c.in_err-gathered.field-0.0 c.from_residual.result c.from_residual.ensures.1
    (c.in_err-gathered.ensures.effects map content sound) refl c.run.ensures.written

pub returns-in_err-gathered-clause-written : goal.returns-in_err-gathered-clause-written
returns-in_err-gathered-clause-written g c = none_has_put (g.X.Exports.puts c.args.exports.now) c.args.self.now c.run.new.self c.run.ensures.written

pub returns-in_err-gathered-clause-cut : goal.returns-in_err-gathered-clause-cut
returns-in_err-gathered-clause-cut g c =
    on_cut c.from_residual.result _ (record {
      exact = c.run.ensures.exact;
      goes_on = c.run.ensures.goes_on;
      links = ap (λ (l : Linked). l.links) c.run.ensures.links;
      bound = ap (λ (t : Table). t.pairs) c.run.ensures.bound;
      counts = ap (λ (t : Table). t.counts) c.run.ensures.bound;
      from = ap (λ (t : Table). t.from) c.run.ensures.bound;
      held = ap (λ (l : Linked). l.held) c.run.ensures.links;
      budget = c.run.ensures.budget;
    })

pub returns-clause-written : goal.returns-clause-written
returns-clause-written g c = has_put c.finish.result _ (g.X.Exports.puts c.args.exports.now) (g.X.Exports.puts c.finish.new.exports) c.args.self.now c.run.new.self c.finish.new.self c.run.ensures.written c.finish.ensures.put c.finish.ensures.cut c.finish.ensures.faults

pub returns-clause-cut : goal.returns-clause-cut
returns-clause-cut g c =
    cut_at_end c.finish.result c.args.self.now c.run.new.self c.finish.new.self
    (record {
      exact = c.run.ensures.exact;
      goes_on = c.run.ensures.goes_on;
      links = ap (λ (l : Linked). l.links) c.run.ensures.links;
      bound = ap (λ (t : Table). t.pairs) c.run.ensures.bound;
      counts = ap (λ (t : Table). t.counts) c.run.ensures.bound;
      from = ap (λ (t : Table). t.from) c.run.ensures.bound;
      held = ap (λ (l : Linked). l.held) c.run.ensures.links;
      budget = c.run.ensures.budget;
    })
    c.finish.ensures.links c.finish.ensures.bound c.finish.ensures.same

pub returns-clause-fits : goal.returns-clause-fits
returns-clause-fits g c =
    fits_behind c.args.self.now c.run.new.self c.finish.new.self (graph_of c.args.g.now).nodes c.in_ok-gathered.gathered c.finish.result _ _
    (record { links = c.run.ensures.links; bound = c.run.ensures.bound; written = c.run.ensures.written; budget = c.run.ensures.budget })
    c.in_ok-gathered.ensures.fits c.in_ok-gathered.ensures.gathers c.finish.ensures.left c.finish.ensures.put

pub returns-clause-executes : goal.returns-clause-executes
returns-clause-executes g c = λ map content sound.
    execute_so (fixed g.L.Library.answer map c.args.self.now.at.work.cache.budget) c.args.self.now c.run.new.self c.finish.new.self (unfolded (graph_of c.args.g.now)) (graph_of c.args.g.now).nodes c.in_ok-gathered.gathered _ _
    (c.in_ok-gathered.ensures.effects map content sound) c.requires.fits c.in_ok-gathered.ensures.goes_on (lawful_calls (graph_of c.args.g.now) c.args.g.now.lawful) sound
    (record { links = c.run.ensures.links; bound = c.run.ensures.bound; written = c.run.ensures.written; budget = c.run.ensures.budget })
    c.finish.result c.finish.ensures.left c.finish.ensures.put c.finish.ensures.error c.finish.ensures.cut c.finish.ensures.faults
