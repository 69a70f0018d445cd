use Rattle.std.proofs.Common.{refl, subst}
use Rattle.dx_graph.specs.GraphView.{graph_of}
use Rattle.dx_graph.specs.Unfolding.{unfolded}
use Rattle.dx_tags.specs.Closed.{GoesOn}
use Rattle.dx_getting.specs.Told.{told}
use Rattle.dx_looking.specs.Setting.{fixed}
use Rattle.dx_engine.specs.Beginning.{standing_at}
use Rattle.dx_engine.proofs.Begun.{looking_begun, effects_from, nothing_done, state_fits, gathers_fit}
use Rattle.dx_engine.proofs.state.State.run.Goals as goal

pub returns-in_err-restart-clause-effects : goal.returns-in_err-restart-clause-effects
returns-in_err-restart-clause-effects g c = λ map ec sound. nothing_done (fixed g.L.Library.answer map c.args.self.now.at.work.cache.budget) c.args.self.now (unfolded (graph_of c.args.g.now)) (graph_of c.args.g.now).nodes (told (g.L.Library.done c.args.lib.now) (g.F.Files.asked c.args.files.now)) (g.O.Sink.written c.args.out.now) c.from_residual.result c.from_residual.ensures.0 _

pub run_effects-requires : goal.run_effects-requires
run_effects-requires g c =
    let n = c.in_ok-restart.ensures in
    record {
      looking = looking_begun _ c.args.self.now (record { links = refl; bound = refl; written = refl }) c.restart.new.self c.begin.new.at c.begin.ensures
          c.requires.fits (n.fits c.args.self.now.at.tags) (n.closed _ c.args.self.now.at.tags) (n.right _ c.args.self.now.at.tags) (n.formed _ c.args.self.now.at.tags) (n.met _);
    }

pub returns-clause-goes_on : goal.returns-clause-goes_on
returns-clause-goes_on g c = subst (λ old. GoesOn old c.run_effects.new.at.tags) c.begin.ensures.tags c.run_effects.ensures.goes_on

pub returns-clause-fits : goal.returns-clause-fits
returns-clause-fits g c = state_fits _ c.args.self.now (record { links = refl; bound = refl; written = refl }) c.requires.fits c.run_effects.result c.run_effects.new.at (returns-clause-goes_on g c) c.run_effects.ensures.looking

pub returns-clause-gathers : goal.returns-clause-gathers
returns-clause-gathers g c = gathers_fit _ c.args.self.now c.run_effects.result c.run_effects.new.at c.run_effects.ensures.fits

pub returns-clause-effects : goal.returns-clause-effects
returns-clause-effects g c =
    effects_from _ c.args.self.now (record { links = refl; bound = refl; written = refl }) c.restart.new.self c.begin.new.at c.begin.ensures
    c.in_ok-restart.ensures.uncalled g.L.Library.answer (g.F.Files.content c.args.files.now) (told (g.L.Library.done c.args.lib.now) (g.F.Files.asked c.args.files.now)) (unfolded (graph_of c.args.g.now)) (g.O.Sink.written c.args.out.now) c.run_effects.result c.run_effects.new.at
    (told (g.L.Library.done c.run_effects.new.lib) (g.F.Files.asked c.run_effects.new.files)) (g.O.Sink.written c.run_effects.new.out) c.run_effects.ensures.runs (standing_at c.args.self.now c.run_effects.new.at) refl
