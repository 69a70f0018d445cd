use Rattle.dx_graph.specs.GraphView.{graph_of}
use Rattle.dx_graph.specs.Unfolding.{unfolded}
use Rattle.dx_looking.specs.Setting.{fixed}
use Rattle.dx_engine.proofs.CutShort.{fits_behind_cut, budget_behind, links_behind_cut, none_cached, sound_behind_cut, executes_behind, put_behind}
use Rattle.dx_engine.proofs.state.State.execute.Goals as goal

pub returns-clause-fits : goal.returns-clause-fits
returns-clause-fits g c = fits_behind_cut c.args.self.now c.attempt-ended.new.self c.forget.new.self c.attempt-ended.result c.requires.fits c.attempt-ended.ensures.fits c.attempt-ended.ensures.cut c.forget.ensures.end c.forget.ensures.cut

pub returns-clause-budget : goal.returns-clause-budget
returns-clause-budget g c = budget_behind c.args.self.now c.attempt-ended.new.self c.forget.new.self c.attempt-ended.result c.attempt-ended.ensures.budget c.attempt-ended.ensures.cut c.forget.ensures.end c.forget.ensures.cut

pub returns-clause-links : goal.returns-clause-links
returns-clause-links g c = links_behind_cut c.args.self.now c.attempt-ended.new.self c.forget.new.self c.attempt-ended.result c.attempt-ended.ensures.cut c.forget.ensures.cut

pub returns-clause-forgets : goal.returns-clause-forgets
returns-clause-forgets g c = none_cached c.attempt-ended.new.self c.forget.new.self c.attempt-ended.result c.forget.ensures.cut

pub returns-clause-sound : goal.returns-clause-sound
returns-clause-sound g c = λ map content sound.
    sound_behind_cut (fixed g.L.Library.answer map c.args.self.now.at.work.cache.budget) c.args.self.now c.attempt-ended.new.self c.forget.new.self (unfolded (graph_of c.args.g.now)) _ _ c.attempt-ended.result c.requires.fits sound
    (c.attempt-ended.ensures.executes map content sound) c.attempt-ended.ensures.cut c.forget.ensures.end c.forget.ensures.cut

pub returns-clause-written : goal.returns-clause-written
returns-clause-written g c = put_behind (g.X.Exports.puts c.args.exports.now) (g.X.Exports.puts c.attempt-ended.new.exports) c.args.self.now c.attempt-ended.new.self c.forget.new.self c.attempt-ended.result c.attempt-ended.ensures.written c.forget.ensures.end c.forget.ensures.cut

pub returns-clause-executes : goal.returns-clause-executes
returns-clause-executes g c = λ map content sound.
    executes_behind (fixed g.L.Library.answer map c.args.self.now.at.work.cache.budget) c.args.self.now c.attempt-ended.new.self c.forget.new.self (unfolded (graph_of c.args.g.now)) _ _ c.attempt-ended.result
    (c.attempt-ended.ensures.executes map content sound) c.forget.ensures.end c.forget.ensures.cut
