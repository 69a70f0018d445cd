use Rattle.std.proofs.Common.{subst}
use Rattle.dx_getting.specs.Told.{told}
use Rattle.dx_looking.specs.Setting.{fixed}
use Rattle.dx_effects.specs.Coming.{ArgumentsSo, node_trees}
use Rattle.dx_engine.proofs.Performs.{performs, cut_arguments}
use Rattle.dx_engine.proofs.performing.perform.Goals as goal

pub returns-in-Ok-clause-performs : goal.returns-in-Ok-clause-performs
returns-in-Ok-clause-performs g c =
    λ map told_map k right base s f st.
    let setup = c.args.setup.now in
    let at = c.arguments_of.new.at in
    let x = fixed g.L.Library.answer map c.args.at.now.work.cache.budget in
    let now = told (g.L.Library.done c.arguments_of.new.lib) (g.F.Files.asked c.arguments_of.new.files) in
    let comes = subst (λ r. ArgumentsSo setup x k base (node_trees setup c.args.n) s f r at now) c.in-Ok.is (c.arguments_of.ensures.comes map told_map k right base s f st) in
    performs setup x k right base c.args.n c.args.effect s f st.sound at now c.in-Ok.ensures.looking c.in-Ok.how (record { valued = c.in-Ok.ensures.valued; halted = c.in-Ok.ensures.halted }) (c.in-Ok.ensures.alike map told_map k right base s f st) comes c.done_by.result c.done_by.ensures.does

pub returns-in-Err-clause-performs : goal.returns-in-Err-clause-performs
returns-in-Err-clause-performs g c =
    λ map told_map k right base s f st.
    let setup = c.args.setup.now in
    let at = c.arguments_of.new.at in
    let x = fixed g.L.Library.answer map c.args.at.now.work.cache.budget in
    let now = told (g.L.Library.done c.arguments_of.new.lib) (g.F.Files.asked c.arguments_of.new.files) in
    cut_arguments setup x k base c.args.n s f at now c.in-Err.cut
    (subst (λ r. ArgumentsSo setup x k base (node_trees setup c.args.n) s f r at now) c.in-Err.is (c.arguments_of.ensures.comes map told_map k right base s f st))
