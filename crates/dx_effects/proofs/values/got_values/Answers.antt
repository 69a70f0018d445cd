use Rattle.std.proofs.Common.{◌≡◌, length, sym, ap, ◌∙◌, subst}
use Rattle.std.specs.Prelude.{slice_get, IfOk}
use Rattle.dx_tags.specs.Closed.{heads_of, value_terms}
use Rattle.dx_tags.specs.Whole.{HaveNoFile}
use Rattle.dx_machine.specs.Machine.{get_all}
use Rattle.dx_getting.specs.All.{GetsAll}
use Rattle.dx_getting.specs.Told.{told}
use Rattle.dx_getting.specs.Stands.{frame_of, world}
use Rattle.dx_looking.specs.Setting.{setting_in, fixed}
use Rattle.dx_looking.proofs.Bridge.{links_denote}
use Rattle.dx_effects.specs.Coming.{ArgumentsFit, ArgumentsHalted, TermsSo}
use Rattle.dx_effects.proofs.Settled.{came_halted}
use Rattle.dx_effects.proofs.ValuesCome.{with_work, looking_by, values_come, may_get_at, fit_so, on_any}
use Rattle.dx_effects.proofs.values.got_values.Goals as goal

pub get_all-got-requires : goal.get_all-got-requires
get_all-got-requires g c = record {
  may = λ i arg e. may_get_at c.args.setup.now c.args.at.now c.requires.looking c.args.terms c.requires.arguments c.requires.found i arg (ap (λ xs. slice_get xs i) (sym c.as_slice.ensures) ∙ e);
  plain = subst (HaveNoFile (heads_of c.args.at.now.tags)) (sym c.as_slice.ensures) c.requires.arguments.values;
}

pub returns-clause-looking : goal.returns-clause-looking
returns-clause-looking g c = on_any c.came_of.result (looking_by c.args.setup.now c.args.at.now c.get_all-got.new.work c.requires.looking (c.get_all-got.ensures.calls c.requires.looking.entries))

pub returns-clause-fits : goal.returns-clause-fits
returns-clause-fits g c =
    subst (λ r. IfOk r (λ how. ArgumentsFit c.args.setup.now (length c.args.terms) (with_work c.args.at.now c.get_all-got.new.work) how)) (sym c.came_of.ensures)
    (fit_so c.args.setup.now (with_work c.args.at.now c.get_all-got.new.work) c.args.terms c.requires.arguments c.requires.found c.get_all-got.result
    (subst (λ xs. IfOk c.get_all-got.result (λ values. length values ≡ length xs)) c.as_slice.ensures c.get_all-got.ensures.count))

pub returns-clause-comes : goal.returns-clause-comes
returns-clause-comes g c =
    λ map told_map k right base s f st.
    let setup = c.args.setup.now in
    let at = c.args.at.now in
    let x = fixed g.L.Library.answer map at.work.cache.budget in
    let now = told (g.L.Library.done c.args.lib.now) (g.F.Files.asked c.args.files.now) in
    let now' = told (g.L.Library.done c.get_all-got.new.lib) (g.F.Files.asked c.get_all-got.new.files) in
    let gets = c.get_all-got.ensures.gets map told_map (links_denote setup at c.requires.looking x k st.kept right) base s st.work in
    subst (λ r. TermsSo setup x k base (value_terms (heads_of at.tags) c.args.terms) s f r (with_work at c.get_all-got.new.work) now') (sym c.came_of.ensures)
    (values_come setup x k right base now now' at s f c.requires.looking st c.args.terms c.requires.arguments c.requires.found c.get_all-got.new.work c.get_all-got.result
    (subst (λ ts. GetsAll (setting_in setup at) (world g.L.Library.answer map) base ts c.get_all-got.result (get_all (frame_of (setting_in setup at) (world g.L.Library.answer map) at.work.cache.budget) (value_terms (heads_of at.tags) ts) s) c.get_all-got.new.work now') c.as_slice.ensures gets))

pub returns-clause-looked : goal.returns-clause-looked
returns-clause-looked g c = λ s nodes ts.
    subst (λ r. IfOk r (λ how. ArgumentsHalted s nodes ts how)) (sym c.came_of.ensures) (came_halted s nodes ts c.args.terms c.get_all-got.result)
