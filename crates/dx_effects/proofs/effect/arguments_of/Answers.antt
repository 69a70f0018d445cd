use Rattle.std.proofs.Common.{length, All, sym, ap, ◌∙◌, subst}
use Rattle.std.specs.Prelude.{Ok, IfOk}
use Rattle.dx_graph.specs.Graph.{MayTake, node_at}
use Rattle.dx_graph.specs.declared.node.Node.{Node}
use Rattle.dx_macros.specs.Tree.{NoTree}
use Rattle.dx_tags.specs.Closed.{heads_of, value_terms}
use Rattle.dx_getting.specs.Told.{told}
use Rattle.dx_meaning.specs.Forming.{after}
use Rattle.dx_performing.specs.Course.{sight_of, look_at}
use Rattle.dx_looking.specs.Setting.{nodes_in, sight_in, fixed}
use Rattle.dx_effects.specs.AllLooking.{AllLookedFit, AllValued, AllHalted, AllLookSo, AllNeedAlike, input_trees}
use Rattle.dx_effects.specs.Coming.{ArgumentsFit, TermsSo, node_trees}
use Rattle.dx_demand.specs.Memo.{answers_of}
use Rattle.dx_demand.specs.Calling.{AreValued}
use Rattle.dx_demand.specs.declared.seen.Seen.{Seen}
use Rattle.dx_effects.proofs.Settled.{valued_so, got_alike}
use Rattle.dx_effects.proofs.NextInput.{by_budget}
use Rattle.dx_effects.proofs.NodeInputs.{inputs_taken}
use Rattle.dx_effects.proofs.WholeEffect.{cut_looking, off, halt, refused, taken}
use Rattle.dx_effects.proofs.effect.arguments_of.Goals as goal

pub look_all-requires : goal.look_all-requires
look_all-requires g c = record {
  inputs = subst (All (MayTake (nodes_in c.args.setup.now) (length (nodes_in c.args.setup.now)))) (sym (c.as_slice.ensures ∙ ap (λ (y : Node). y.inputs) c.node-node.ensures)) (inputs_taken c.args.setup.now c.args.n c.requires.node);
  looking = c.requires.looking;
}

pub returns-in-Ok-Off-clause-comes : goal.returns-in-Ok-Off-clause-comes
returns-in-Ok-Off-clause-comes g c =
    λ map told_map k right base s f st.
    let setup = c.args.setup.now in
    let at1 = c.look_all.new.at in
    let b = c.args.at.now.work.cache.budget in
    let x = fixed g.L.Library.answer map b in
    let now1 = told (g.L.Library.done c.look_all.new.lib) (g.F.Files.asked c.look_all.new.files) in
    let trees = node_trees setup c.args.n in
    let eq = c.as_slice.ensures ∙ ap (λ (y : Node). y.inputs) c.node-node.ensures in
    let looks = subst (λ r. AllLookSo setup x k base trees s f r at1 now1) (c.in-Ok-Off.is ∙ ap Ok c.in-Ok-Off.field-0-is) (subst (λ xs. AllLookSo setup x k base (input_trees setup xs) s f c.look_all.result at1 now1) eq (c.look_all.ensures.looks map told_map k right base s f st)) in
    off setup x k base (look_at (sight_of x k) trees) s f at1 now1 looks

pub returns-in-Ok-Halt-clause-comes : goal.returns-in-Ok-Halt-clause-comes
returns-in-Ok-Halt-clause-comes g c =
    λ map told_map k right base s f st.
    let setup = c.args.setup.now in
    let at1 = c.look_all.new.at in
    let b = c.args.at.now.work.cache.budget in
    let x = fixed g.L.Library.answer map b in
    let now1 = told (g.L.Library.done c.look_all.new.lib) (g.F.Files.asked c.look_all.new.files) in
    let trees = node_trees setup c.args.n in
    let eq = c.as_slice.ensures ∙ ap (λ (y : Node). y.inputs) c.node-node.ensures in
    let looks = subst (λ r. AllLookSo setup x k base trees s f r at1 now1) (c.in-Ok-Halt.is ∙ ap Ok c.in-Ok-Halt.field-0-is) (subst (λ xs. AllLookSo setup x k base (input_trees setup xs) s f c.look_all.result at1 now1) eq (c.look_all.ensures.looks map told_map k right base s f st)) in
    halt setup x k base (look_at (sight_of x k) trees) s f at1 now1 c.in-Ok-Halt.m c.in-Ok-Halt.code looks

pub returns-in-Ok-Refused-clause-comes : goal.returns-in-Ok-Refused-clause-comes
returns-in-Ok-Refused-clause-comes g c =
    λ map told_map k right base s f st.
    let setup = c.args.setup.now in
    let at1 = c.look_all.new.at in
    let b = c.args.at.now.work.cache.budget in
    let x = fixed g.L.Library.answer map b in
    let now1 = told (g.L.Library.done c.look_all.new.lib) (g.F.Files.asked c.look_all.new.files) in
    let trees = node_trees setup c.args.n in
    let eq = c.as_slice.ensures ∙ ap (λ (y : Node). y.inputs) c.node-node.ensures in
    let looks = subst (λ r. AllLookSo setup x k base trees s f r at1 now1) (c.in-Ok-Refused.is ∙ ap Ok c.in-Ok-Refused.field-0-is) (subst (λ xs. AllLookSo setup x k base (input_trees setup xs) s f c.look_all.result at1 now1) eq (c.look_all.ensures.looks map told_map k right base s f st)) in
    refused setup x k base (look_at (sight_of x k) trees) s f at1 now1 c.in-Ok-Refused.m c.in-Ok-Refused.refusal looks

pub returns-in-Err-clause-comes : goal.returns-in-Err-clause-comes
returns-in-Err-clause-comes g c =
    λ map told_map k right base s f st.
    let setup = c.args.setup.now in
    let at1 = c.look_all.new.at in
    let b = c.args.at.now.work.cache.budget in
    let x = fixed g.L.Library.answer map b in
    let now1 = told (g.L.Library.done c.look_all.new.lib) (g.F.Files.asked c.look_all.new.files) in
    let trees = node_trees setup c.args.n in
    let eq = c.as_slice.ensures ∙ ap (λ (y : Node). y.inputs) c.node-node.ensures in
    let looks = subst (λ r. AllLookSo setup x k base trees s f r at1 now1) c.in-Err.is (subst (λ xs. AllLookSo setup x k base (input_trees setup xs) s f c.look_all.result at1 now1) eq (c.look_all.ensures.looks map told_map k right base s f st)) in
    cut_looking setup x k base (look_at (sight_of x k) trees) s f at1 now1 c.in-Err.cut looks

pub returns-in-Ok-Terms-clause-comes : goal.returns-in-Ok-Terms-clause-comes
returns-in-Ok-Terms-clause-comes g c =
    λ map told_map k right base s f st.
    let setup = c.args.setup.now in
    let at1 = c.look_all.new.at in
    let b = c.args.at.now.work.cache.budget in
    let x = fixed g.L.Library.answer map b in
    let now1 = told (g.L.Library.done c.look_all.new.lib) (g.F.Files.asked c.look_all.new.files) in
    let trees = node_trees setup c.args.n in
    let eq = c.as_slice.ensures ∙ ap (λ (y : Node). y.inputs) c.node-node.ensures in
    let looks = subst (λ r. AllLookSo setup x k base trees s f r at1 now1) (c.in-Ok-Terms.is ∙ ap Ok c.in-Ok-Terms.field-0-is) (subst (λ xs. AllLookSo setup x k base (input_trees setup xs) s f c.look_all.result at1 now1) eq (c.look_all.ensures.looks map told_map k right base s f st)) in
    let now2 = told (g.L.Library.done c.got_values.new.lib) (g.F.Files.asked c.got_values.new.files) in
    let ts = c.in-Ok-Terms.terms in
    taken setup x k base (look_at (sight_of x k) trees) s f at1 now1 ts looks c.got_values.result c.got_values.new.at now2
    (λ s1 st1. by_budget setup g.L.Library.answer (g.F.Files.content c.look_all.new.files) at1 now1 (λ x k base s f. TermsSo setup x k base (value_terms (heads_of at1.tags) ts) s f c.got_values.result c.got_values.new.at now2) c.got_values.ensures.comes map (c.look_all.ensures.same ∙ told_map) b c.look_all.ensures.budget k right base s1 (after (look_at (sight_of x k) trees).forms f) st1)

pub returns-in-Ok-Terms-clause-fits : goal.returns-in-Ok-Terms-clause-fits
returns-in-Ok-Terms-clause-fits g c =
    let setup = c.args.setup.now in
    let eq = c.as_slice.ensures ∙ ap (λ (y : Node). y.inputs) c.node-node.ensures in
    let looked = subst (λ r. IfOk r (λ how. AllLookedFit setup (length c.as_slice.result.now) c.look_all.new.at how)) (c.in-Ok-Terms.is ∙ ap Ok c.in-Ok-Terms.field-0-is) c.look_all.ensures.fits in
    subst (λ count. IfOk c.got_values.result (λ how. ArgumentsFit setup count c.got_values.new.at how)) (looked.0 ∙ ap length eq) c.got_values.ensures.fits

pub returns-in-Ok-Terms-clause-valued : goal.returns-in-Ok-Terms-clause-valued
returns-in-Ok-Terms-clause-valued g c =
    let inputs = (node_at (nodes_in c.args.setup.now) c.args.n).inputs in
    let eq = c.as_slice.ensures ∙ ap (λ (y : Node). y.inputs) c.node-node.ensures in
    let looked = subst (λ r. IfOk r (λ how. AllValued (answers_of c.look_all.new.at.seen.memo) c.as_slice.result.now how)) (c.in-Ok-Terms.is ∙ ap Ok c.in-Ok-Terms.field-0-is) c.look_all.ensures.valued in
    let valued = subst (λ is. AreValued (answers_of c.look_all.new.at.seen.memo) is (length is)) eq looked in
    valued_so (answers_of c.got_values.new.at.seen.memo) inputs (subst (λ (y : Seen). AreValued (answers_of y.memo) inputs (length inputs)) (sym c.got_values.ensures.seen) valued) c.got_values.result

pub returns-in-Ok-Terms-clause-halted : goal.returns-in-Ok-Terms-clause-halted
returns-in-Ok-Terms-clause-halted g c =
    let setup = c.args.setup.now in
    c.got_values.ensures.looked (sight_in setup c.got_values.new.at) (nodes_in setup) (node_trees setup c.args.n)

pub returns-in-Ok-Refused-clause-halted : goal.returns-in-Ok-Refused-clause-halted
returns-in-Ok-Refused-clause-halted g c =
    let setup = c.args.setup.now in
    let at1 = c.look_all.new.at in
    let eq = c.as_slice.ensures ∙ ap (λ (y : Node). y.inputs) c.node-node.ensures in
    let halts = subst (λ xs. IfOk c.look_all.result (λ how. AllHalted (sight_in setup at1) (nodes_in setup) (input_trees setup xs) how)) eq c.look_all.ensures.halted in
    subst (λ r. IfOk r (λ how. AllHalted (sight_in setup at1) (nodes_in setup) (node_trees setup c.args.n) how)) (c.in-Ok-Refused.is ∙ ap Ok c.in-Ok-Refused.field-0-is) halts

pub returns-in-Ok-Off-clause-alike : goal.returns-in-Ok-Off-clause-alike
returns-in-Ok-Off-clause-alike g c = λ map told_map k right base s f st. tt

pub returns-in-Ok-Halt-clause-alike : goal.returns-in-Ok-Halt-clause-alike
returns-in-Ok-Halt-clause-alike g c = λ map told_map k right base s f st. tt

pub returns-in-Err-clause-alike : goal.returns-in-Err-clause-alike
returns-in-Err-clause-alike g c = λ map told_map k right base s f st. tt

pub returns-in-Ok-Refused-clause-alike : goal.returns-in-Ok-Refused-clause-alike
returns-in-Ok-Refused-clause-alike g c =
    λ map told_map k right base s f st.
    let setup = c.args.setup.now in
    let at1 = c.look_all.new.at in
    let x = fixed g.L.Library.answer map c.args.at.now.work.cache.budget in
    let eq = c.as_slice.ensures ∙ ap (λ (y : Node). y.inputs) c.node-node.ensures in
    subst (λ r. AllNeedAlike setup x k (node_trees setup c.args.n) r at1) (c.in-Ok-Refused.is ∙ ap Ok c.in-Ok-Refused.field-0-is) (subst (λ is. AllNeedAlike setup x k (input_trees setup is) c.look_all.result at1) eq (c.look_all.ensures.alike map told_map k right base s f st))

pub returns-in-Ok-Terms-clause-alike : goal.returns-in-Ok-Terms-clause-alike
returns-in-Ok-Terms-clause-alike g c =
    λ map told_map k right base s f st.
    got_alike c.args.setup.now (fixed g.L.Library.answer map c.args.at.now.work.cache.budget) k (node_trees c.args.setup.now c.args.n) c.got_values.new.at c.got_values.result (c.got_values.ensures.looked (sight_in c.args.setup.now c.got_values.new.at) (nodes_in c.args.setup.now) NoTree)
