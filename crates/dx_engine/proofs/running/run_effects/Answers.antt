use Rattle.std.proofs.Common.{◌<◌, ◌≤◌, ◌+◌, ◌∙◌, sym, ap, subst, refl, length, get_or}
use Rattle.dx_graph.specs.GraphView.{graph_of}
use Rattle.dx_graph.specs.Unfolding.{unfolded}
use Rattle.dx_tags.proofs.Growth.{goes_on_same, goes_on_then}
use Rattle.dx_getting.specs.Told.{told}
use Rattle.dx_looking.specs.Setting.{fixed}
use Rattle.dx_engine.specs.Gathering.{Gathering, gathers}
use Rattle.dx_engine.specs.Running.{ChangesFit}
use Rattle.dx_engine.proofs.Faulted.{none_failed}
use Rattle.dx_engine.proofs.Coursing.{OnCourse, IsDone, begun, cut_there, cut_printing, goes_on, done_so, ends_there}
use Rattle.dx_engine.proofs.NextEffect.{effect_node, rest_from, next_effect, no_effect, changes_more, no_error_yet, gathered_fits, runs_cut, are_run, PerformsHere}
use Rattle.dx_effects.proofs.NextInput.{by_budget}
use Rattle.dx_engine.proofs.running.run_effects.Goals as goal

pub loop-n-init : goal.loop-n-init
loop-n-init g c = record {
  same = refl;
  reads = refl;
  writes = refl;
  budget = refl;
  looking = c.requires.looking;
  goes_on = goes_on_same c.args.at.now.tags;
  fits = subst (ChangesFit c.args.at.now.tags) (sym (ap (λ (y : Gathering). y.changes) c.new-gathered.ensures)) tt;
  no_error = ap (λ (y : Gathering). y.error) c.new-gathered.ensures;
  course = λ map ec k right base s f st.
      let setup = c.args.setup.now in
      let x = fixed g.L.Library.answer map c.args.at.now.work.cache.budget in
      let all = unfolded (graph_of setup.graph.now) in
      let now = told (g.L.Library.done c.args.lib.now) (g.F.Files.asked c.args.files.now) in
      subst (λ y. OnCourse setup x k base all all s f (g.O.Sink.written c.args.out.now) y c.args.at.now now (g.O.Sink.written c.args.out.now)) (sym c.new-gathered.ensures)
      (begun setup x k base all s f (g.O.Sink.written c.args.out.now) c.args.at.now now st);
}

pub effect_at-effect-requires : goal.effect_at-effect-requires
effect_at-effect-requires g c =
    let setup = c.args.setup.now in
    effect_node setup c.loop-n.n-index (get_or c.effects-n-items.result.now c.loop-n.n-index 0) (subst (λ xs. c.loop-n.n-index < length xs) c.effects-n-items.ensures c.loop-n-test.true) (ap (λ xs. get_or xs c.loop-n.n-index 0) c.effects-n-items.ensures)

pub returns-in_err-done-clause-runs : goal.returns-in_err-done-clause-runs
returns-in_err-done-clause-runs g c = λ map ec k right base s f st.
    let setup = c.args.setup.now in
    let items = c.effects-n-items.result.now in
    let i = c.loop-n.n-index in
    let n = get_or items i 0 in
    let e = c.effect_at-effect.result in
    let all = unfolded (graph_of setup.graph.now) in
    let rest = rest_from setup (i + 1) in
    let x = fixed g.L.Library.answer map c.args.at.now.work.cache.budget in
    let before = g.O.Sink.written c.args.out.now in
    let at = c.loop-n.at in
    let at' = c.perform.new.at in
    let got = gathers c.loop-n.gathered in
    let now = told (g.L.Library.done c.loop-n.lib) (g.F.Files.asked c.loop-n.files) in
    let now' = told (g.L.Library.done c.perform.new.lib) (g.F.Files.asked c.perform.new.files) in
    let written = g.O.Sink.written c.loop-n.out in
    let lt : i < length (graph_of setup.graph.now).effects = subst (λ xs. i < length xs) c.effects-n-items.ensures c.loop-n-test.true in
    let o = next_effect setup x k base all s f before got at now written i n e lt (ap (λ xs. get_or xs i 0) c.effects-n-items.ensures) c.effect_at-effect.ensures (c.loop-n.invariant.course map ec k right base s f st) in
    let performed = by_budget setup g.L.Library.answer (g.F.Files.content c.loop-n.files) at now (PerformsHere setup n e c.perform.result at' now') c.perform.ensures.performs map (c.loop-n.invariant.same ∙ ec) c.args.at.now.work.cache.budget c.loop-n.invariant.budget k right base o.state o.formed o.stands in
    runs_cut setup x k base all s f before c.from_residual.result c.in_err-done.field-0.0 c.from_residual.ensures.1 at' now' written
    (cut_there setup x k base all rest s f before got at now written n e o now' (subst (λ r. PerformsHere setup n e r at' now' x k base o.state o.formed) c.in_err-done.was performed))

pub returns-in-Err-clause-runs : goal.returns-in-Err-clause-runs
returns-in-Err-clause-runs g c = λ map ec k right base s f st.
    let setup = c.args.setup.now in
    let items = c.effects-n-items.result.now in
    let i = c.loop-n.n-index in
    let n = get_or items i 0 in
    let e = c.effect_at-effect.result in
    let all = unfolded (graph_of setup.graph.now) in
    let rest = rest_from setup (i + 1) in
    let x = fixed g.L.Library.answer map c.args.at.now.work.cache.budget in
    let before = g.O.Sink.written c.args.out.now in
    let at = c.loop-n.at in
    let at' = c.perform.new.at in
    let got = gathers c.loop-n.gathered in
    let now = told (g.L.Library.done c.loop-n.lib) (g.F.Files.asked c.loop-n.files) in
    let now' = told (g.L.Library.done c.perform.new.lib) (g.F.Files.asked c.perform.new.files) in
    let written = g.O.Sink.written c.loop-n.out in
    let lt : i < length (graph_of setup.graph.now).effects = subst (λ xs. i < length xs) c.effects-n-items.ensures c.loop-n-test.true in
    let o = next_effect setup x k base all s f before got at now written i n e lt (ap (λ xs. get_or xs i 0) c.effects-n-items.ensures) c.effect_at-effect.ensures (c.loop-n.invariant.course map ec k right base s f st) in
    let performed = by_budget setup g.L.Library.answer (g.F.Files.content c.loop-n.files) at now (PerformsHere setup n e c.perform.result at' now') c.perform.ensures.performs map (c.loop-n.invariant.same ∙ ec) c.args.at.now.work.cache.budget c.loop-n.invariant.budget k right base o.state o.formed o.stands in
    let so = subst (λ r. PerformsHere setup n e r at' now' x k base o.state o.formed) c.in_ok-done.was performed in
    cut_printing setup x k base all rest s f before got at now written n e o c.in_ok-done.done at' now' so c.in_ok-done.ensures.goes_on c.loop-n.invariant.fits _ (g.O.Sink.written c.take.new.out) c.in-Err.ensures.writes

pub returns-then-ends-clause-fits : goal.returns-then-ends-clause-fits
returns-then-ends-clause-fits g c =
    gathered_fits c.args.setup.now c.loop-n.at c.perform.new.at c.in_ok-done.done c.loop-n.gathered c.take.new.self c.in-Ok.ensures.gathered c.in_ok-done.ensures.goes_on c.in_ok-done.ensures.fits c.loop-n.invariant.fits c.loop-n.invariant.no_error

pub returns-then-ends-clause-runs : goal.returns-then-ends-clause-runs
returns-then-ends-clause-runs g c = λ map ec k right base s f st.
    let setup = c.args.setup.now in
    let items = c.effects-n-items.result.now in
    let i = c.loop-n.n-index in
    let n = get_or items i 0 in
    let e = c.effect_at-effect.result in
    let all = unfolded (graph_of setup.graph.now) in
    let rest = rest_from setup (i + 1) in
    let x = fixed g.L.Library.answer map c.args.at.now.work.cache.budget in
    let before = g.O.Sink.written c.args.out.now in
    let at = c.loop-n.at in
    let at' = c.perform.new.at in
    let got = gathers c.loop-n.gathered in
    let now = told (g.L.Library.done c.loop-n.lib) (g.F.Files.asked c.loop-n.files) in
    let now' = told (g.L.Library.done c.perform.new.lib) (g.F.Files.asked c.perform.new.files) in
    let written = g.O.Sink.written c.loop-n.out in
    let lt : i < length (graph_of setup.graph.now).effects = subst (λ xs. i < length xs) c.effects-n-items.ensures c.loop-n-test.true in
    let o = next_effect setup x k base all s f before got at now written i n e lt (ap (λ xs. get_or xs i 0) c.effects-n-items.ensures) c.effect_at-effect.ensures (c.loop-n.invariant.course map ec k right base s f st) in
    let performed = by_budget setup g.L.Library.answer (g.F.Files.content c.loop-n.files) at now (PerformsHere setup n e c.perform.result at' now') c.perform.ensures.performs map (c.loop-n.invariant.same ∙ ec) c.args.at.now.work.cache.budget c.loop-n.invariant.budget k right base o.state o.formed o.stands in
    let so = subst (λ r. PerformsHere setup n e r at' now' x k base o.state o.formed) c.in_ok-done.was performed in
    are_run setup x k base all s f before c.take.new.self at' now' (g.O.Sink.written c.take.new.out)
    (subst (λ y. IsDone setup x k base all s f before y at' now' (g.O.Sink.written c.take.new.out)) (sym c.in-Ok.ensures.gathered)
    (ends_there setup x k base all rest s f before got at now written n e o at' now' c.in_ok-done.ensures.goes_on c.loop-n.invariant.fits c.in_ok-done.done so (sym c.in-Ok.ensures.ends ∙ c.if-ends.true) (g.O.Sink.written c.take.new.out) c.in-Ok.ensures.writes))

pub returns-clause-runs : goal.returns-clause-runs
returns-clause-runs g c = λ map ec k right base s f st.
    let setup = c.args.setup.now in
    let x = fixed g.L.Library.answer map c.args.at.now.work.cache.budget in
    let all = unfolded (graph_of setup.graph.now) in
    let before = g.O.Sink.written c.args.out.now in
    let now = told (g.L.Library.done c.loop-n.lib) (g.F.Files.asked c.loop-n.files) in
    let written = g.O.Sink.written c.loop-n.out in
    let le : length (graph_of setup.graph.now).effects ≤ c.loop-n.n-index = subst (λ xs. length xs ≤ c.loop-n.n-index) c.effects-n-items.ensures c.loop-n-test.false in
    are_run setup x k base all s f before c.loop-n.gathered c.loop-n.at now written
    (done_so setup x k base all s f before (gathers c.loop-n.gathered) c.loop-n.at now written c.loop-n.invariant.no_error
    (no_effect setup x k base all s f before (gathers c.loop-n.gathered) c.loop-n.at now written c.loop-n.n-index le (c.loop-n.invariant.course map ec k right base s f st)))

pub loop-n-preserved : goal.loop-n-preserved
loop-n-preserved g c =
    record {
      same = c.perform.ensures.same ∙ c.loop-n.invariant.same;
      reads = none_failed _ _ _ c.perform.result c.in_ok-done.done c.in_ok-done.was c.perform.ensures.cause ∙ c.loop-n.invariant.reads;
      writes = none_failed _ _ _ c.take.result c.in-Ok.ends c.in-Ok.is c.take.ensures.cause ∙ c.loop-n.invariant.writes;
      budget = c.perform.ensures.budget ∙ c.loop-n.invariant.budget;
      looking = c.in_ok-done.ensures.looking;
      goes_on = goes_on_then c.args.at.now.tags c.loop-n.at.tags c.perform.new.at.tags c.loop-n.invariant.goes_on c.in_ok-done.ensures.goes_on;
      fits = subst (ChangesFit c.perform.new.at.tags) (sym (ap (λ (y : Gathering). y.changes) c.in-Ok.ensures.gathered)) (changes_more c.args.setup.now c.loop-n.at c.perform.new.at c.in_ok-done.done c.loop-n.gathered.changes c.in_ok-done.ensures.goes_on c.in_ok-done.ensures.fits c.loop-n.invariant.fits);
      no_error = no_error_yet c.loop-n.gathered c.take.new.self c.in_ok-done.done c.in-Ok.ensures.gathered (sym c.in-Ok.ensures.ends ∙ c.if-ends.false) c.loop-n.invariant.no_error;
      course = λ map ec k right base s f st.
          let setup = c.args.setup.now in
          let items = c.effects-n-items.result.now in
          let i = c.loop-n.n-index in
          let n = get_or items i 0 in
          let e = c.effect_at-effect.result in
          let all = unfolded (graph_of setup.graph.now) in
          let rest = rest_from setup (i + 1) in
          let x = fixed g.L.Library.answer map c.args.at.now.work.cache.budget in
          let before = g.O.Sink.written c.args.out.now in
          let at = c.loop-n.at in
          let at' = c.perform.new.at in
          let got = gathers c.loop-n.gathered in
          let now = told (g.L.Library.done c.loop-n.lib) (g.F.Files.asked c.loop-n.files) in
          let now' = told (g.L.Library.done c.perform.new.lib) (g.F.Files.asked c.perform.new.files) in
          let written = g.O.Sink.written c.loop-n.out in
          let lt : i < length (graph_of setup.graph.now).effects = subst (λ xs. i < length xs) c.effects-n-items.ensures c.loop-n-test.true in
          let o = next_effect setup x k base all s f before got at now written i n e lt (ap (λ xs. get_or xs i 0) c.effects-n-items.ensures) c.effect_at-effect.ensures (c.loop-n.invariant.course map ec k right base s f st) in
          let performed = by_budget setup g.L.Library.answer (g.F.Files.content c.loop-n.files) at now (PerformsHere setup n e c.perform.result at' now') c.perform.ensures.performs map (c.loop-n.invariant.same ∙ ec) c.args.at.now.work.cache.budget c.loop-n.invariant.budget k right base o.state o.formed o.stands in
          let so = subst (λ r. PerformsHere setup n e r at' now' x k base o.state o.formed) c.in_ok-done.was performed in
          subst (λ y. OnCourse setup x k base all rest s f before y at' now' (g.O.Sink.written c.take.new.out)) (sym c.in-Ok.ensures.gathered)
          (goes_on setup x k base all rest s f before got at now written n e o c.in_ok-done.done at' now' so c.in_ok-done.ensures.goes_on c.loop-n.invariant.fits (sym c.in-Ok.ensures.ends ∙ c.if-ends.false) (g.O.Sink.written c.take.new.out) c.in-Ok.ensures.writes);
    }

pub returns-in_err-done-clause-goes_on : goal.returns-in_err-done-clause-goes_on
returns-in_err-done-clause-goes_on g c = goes_on_then c.args.at.now.tags c.loop-n.at.tags c.perform.new.at.tags c.loop-n.invariant.goes_on c.perform.ensures.goes_on

pub returns-in-Err-clause-goes_on : goal.returns-in-Err-clause-goes_on
returns-in-Err-clause-goes_on g c = goes_on_then c.args.at.now.tags c.loop-n.at.tags c.perform.new.at.tags c.loop-n.invariant.goes_on c.in_ok-done.ensures.goes_on

pub returns-then-ends-clause-goes_on : goal.returns-then-ends-clause-goes_on
returns-then-ends-clause-goes_on g c = goes_on_then c.args.at.now.tags c.loop-n.at.tags c.perform.new.at.tags c.loop-n.invariant.goes_on c.in_ok-done.ensures.goes_on
