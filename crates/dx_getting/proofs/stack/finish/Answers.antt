use Rattle.std.proofs.Common.{◌≡◌, ◌∙◌, ◌<◌, ◌≤◌, ◌+◌, ℕ, List, [], ◌∷◌, ◌++◌, length, sym, ap, ap₂, subst, Option, Some, None, refl, arith, is_some, true, false}
use Rattle.std.specs.Prelude.{slice_get, nat_eq, Ok, Err, Result}
use Rattle.std.specs.Option.{option_copied}
use Rattle.std.proofs.lemmas.Result.{err_from_is_err_and}
use Rattle.dx_objects.specs.Values.{value_of}
use Rattle.dx_tags.specs.Closed.{heads_of, value_term, value_terms}
use Rattle.dx_machine.specs.Machine.{State, get, run_call}
use Rattle.dx_getting.specs.declared.fail.GetFail.{GetFail}
use Rattle.dx_getting.specs.declared.fail.GetFail.TheVariants.{Memory}
use Rattle.dx_getting.specs.declared.working.Open.{Open}
use Rattle.dx_getting.specs.Told.{told}
use Rattle.dx_getting.specs.Stands.{setting_of, frame_of, around_of, world, WentTo, FailsAt, GetsCall, IsReady}
use Rattle.dx_getting.specs.Stack.{rest_in, lowest, AreBelow}
use Rattle.dx_getting.proofs.Names.{formed_lawful}
use Rattle.dx_getting.proofs.Getting.{is_called, cut_fails, known_value, went_sound}
use Rattle.dx_getting.proofs.Stacking.{step_run_here, step_run_fails, step_run_cut, step_done, step_under, run_result, stepped_under, run_above, run_calls, below_pop}
use Rattle.dx_getting.proofs.stack.finish.Goals as goal

none_left : (os : List Open) → length os ≡ 0 → os ≡ []
none_left [] h = refl
none_left (o ∷ os) h = absurd (let no : 0 < 0 = omega (arith, h) in omega (arith, no))

pub called_at-requires : goal.called_at-requires
called_at-requires g c =
    record { formed = is_called (setting_of c.args.scene.now (g.S.Sites.formed c.args.sites.now)) c.args.top.now.wanted.tag c.requires.stack.0.may }

pub run_call-requires-clause-attribute : goal.run_call-requires-clause-attribute
run_call-requires-clause-attribute g c =
    (formed_lawful c.args.scene.now.tags.now (g.S.Sites.formed c.args.sites.now) c.requires.stack.0.may.lawful c.args.top.now.wanted.tag c.in_ok-called.called c.in_ok-called.ensures).0

pub run_call-requires-clause-site : goal.run_call-requires-clause-site
run_call-requires-clause-site g c =
    (formed_lawful c.args.scene.now.tags.now (g.S.Sites.formed c.args.sites.now) c.requires.stack.0.may.lawful c.args.top.now.wanted.tag c.in_ok-called.called c.in_ok-called.ensures).1

pub returns-in_err-called-clause-gets : goal.returns-in_err-called-clause-gets
returns-in_err-called-clause-gets g c =
    λ map told_map links base s h i j.
    let p = err_from_is_err_and c.from_residual.result c.from_residual.ensures.1 in
    rw (p.1, p.2) (step_run_here (setting_of c.args.scene.now (g.S.Sites.formed c.args.sites.now)) (world g.L.Library.answer map) base c.args.work.now.cache.budget c.args.below.now.items c.args.top.now c.requires.stack.0 s c.args.module (option_copied c.args.own) c.requires.ready c.args.work.now (told (g.L.Library.done c.args.lib.now) (g.F.Files.asked c.args.files.now)) h)

pub returns-in_err-run_call-clause-gets : goal.returns-in_err-run_call-clause-gets
returns-in_err-run_call-clause-gets g c =
    λ map told_map links base s h i j.
    let p = err_from_is_err_and c.from_residual-in_err-run_call.result c.from_residual-in_err-run_call.ensures.1 in
    let ran = run_result (setting_of c.args.scene.now (g.S.Sites.formed c.args.sites.now)) (world g.L.Library.answer map) base c.args.work.now.cache.budget c.args.below.now.items c.args.top.now c.requires.stack.0 s c.args.module (option_copied c.args.own) c.requires.ready c.run_call.result c.in_ok-called.called c.args.work.now c.run_call.new.work (told (g.L.Library.done c.args.lib.now) (g.F.Files.asked c.args.files.now)) (told (g.L.Library.done c.run_call.new.lib) (g.F.Files.asked c.run_call.new.files)) c.in_ok-called.ensures i h refl (c.run_call.ensures.runs (around_of (setting_of c.args.scene.now (g.S.Sites.formed c.args.sites.now)) (world g.L.Library.answer map)) told_map) in
    let failed : FailsAt (setting_of c.args.scene.now (g.S.Sites.formed c.args.sites.now)) (world g.L.Library.answer map) base c.in_err-run_call.field-0.0 (run_call (frame_of (setting_of c.args.scene.now (g.S.Sites.formed c.args.sites.now)) (world g.L.Library.answer map) c.args.work.now.cache.budget) c.args.module (value_terms (heads_of c.args.scene.now.tags.now) c.requires.ready.args) (Ok c.args.top.now.inputs) s) c.run_call.new.work (told (g.L.Library.done c.run_call.new.lib) (g.F.Files.asked c.run_call.new.files)) = subst (λ r. GetsCall (setting_of c.args.scene.now (g.S.Sites.formed c.args.sites.now)) (world g.L.Library.answer map) base c.args.top.now.wanted.tag r (run_call (frame_of (setting_of c.args.scene.now (g.S.Sites.formed c.args.sites.now)) (world g.L.Library.answer map) c.args.work.now.cache.budget) c.args.module (value_terms (heads_of c.args.scene.now.tags.now) c.requires.ready.args) (Ok c.args.top.now.inputs) s) c.run_call.new.work (told (g.L.Library.done c.run_call.new.lib) (g.F.Files.asked c.run_call.new.files))) c.in_err-run_call.was ran in
    rw (p.1, p.2) (step_run_fails (setting_of c.args.scene.now (g.S.Sites.formed c.args.sites.now)) (world g.L.Library.answer map) base c.args.work.now.cache.budget c.args.below.now.items c.args.top.now c.requires.stack.0 s c.args.module (option_copied c.args.own) c.requires.ready i c.run_call.new.work (told (g.L.Library.done c.run_call.new.lib) (g.F.Files.asked c.run_call.new.files)) c.in_err-run_call.field-0.0 failed)

pub returns-in_err-run_call-clause-above : goal.returns-in_err-run_call-clause-above
returns-in_err-run_call-clause-above g c =
    run_above c.args.top.now.wanted.tag c.args.work.now c.run_call.new.work c.run_call.ensures.stores c.run_call.ensures.learns

pub returns-in_err-run_call-clause-calls : goal.returns-in_err-run_call-clause-calls
returns-in_err-run_call-clause-calls g c =
    run_calls c.args.scene.now.tags.now c.args.top.now.wanted.tag c.args.work.now.cache.entries c.run_call.new.work.cache.entries c.requires.stack.0.may.call c.run_call.ensures.stores

pub returns-in_err-value-in-Some-clause-above : goal.returns-in_err-value-in-Some-clause-above
returns-in_err-value-in-Some-clause-above g c =
    run_above c.args.top.now.wanted.tag c.args.work.now c.run_call.new.work c.run_call.ensures.stores c.run_call.ensures.learns

pub returns-in_err-value-in-Some-clause-calls : goal.returns-in_err-value-in-Some-clause-calls
returns-in_err-value-in-Some-clause-calls g c =
    run_calls c.args.scene.now.tags.now c.args.top.now.wanted.tag c.args.work.now.cache.entries c.run_call.new.work.cache.entries c.requires.stack.0.may.call c.run_call.ensures.stores

pub returns-in_err-push-in-Some-clause-above : goal.returns-in_err-push-in-Some-clause-above
returns-in_err-push-in-Some-clause-above g c =
    run_above c.args.top.now.wanted.tag c.args.work.now c.run_call.new.work c.run_call.ensures.stores c.run_call.ensures.learns

pub returns-in_err-push-in-Some-clause-calls : goal.returns-in_err-push-in-Some-clause-calls
returns-in_err-push-in-Some-clause-calls g c =
    run_calls c.args.scene.now.tags.now c.args.top.now.wanted.tag c.args.work.now.cache.entries c.run_call.new.work.cache.entries c.requires.stack.0.may.call c.run_call.ensures.stores

pub returns-in-None-clause-above : goal.returns-in-None-clause-above
returns-in-None-clause-above g c =
    run_above c.args.top.now.wanted.tag c.args.work.now c.run_call.new.work c.run_call.ensures.stores c.run_call.ensures.learns

pub returns-in-None-clause-calls : goal.returns-in-None-clause-calls
returns-in-None-clause-calls g c =
    run_calls c.args.scene.now.tags.now c.args.top.now.wanted.tag c.args.work.now.cache.entries c.run_call.new.work.cache.entries c.requires.stack.0.may.call c.run_call.ensures.stores

pub returns-in_ok-push-in-Some-clause-above : goal.returns-in_ok-push-in-Some-clause-above
returns-in_ok-push-in-Some-clause-above g c =
    run_above c.args.top.now.wanted.tag c.args.work.now c.run_call.new.work c.run_call.ensures.stores c.run_call.ensures.learns

pub returns-in_ok-push-in-Some-clause-calls : goal.returns-in_ok-push-in-Some-clause-calls
returns-in_ok-push-in-Some-clause-calls g c =
    run_calls c.args.scene.now.tags.now c.args.top.now.wanted.tag c.args.work.now.cache.entries c.run_call.new.work.cache.entries c.requires.stack.0.may.call c.run_call.ensures.stores

pub returns-in_err-value-in-Some-clause-gets : goal.returns-in_err-value-in-Some-clause-gets
returns-in_err-value-in-Some-clause-gets g c =
    λ map told_map links base s h i j.
    let p = err_from_is_err_and c.from_residual-in_err-value-in-Some.result c.from_residual-in_err-value-in-Some.ensures.1 in
    let ran = run_result (setting_of c.args.scene.now (g.S.Sites.formed c.args.sites.now)) (world g.L.Library.answer map) base c.args.work.now.cache.budget c.args.below.now.items c.args.top.now c.requires.stack.0 s c.args.module (option_copied c.args.own) c.requires.ready c.run_call.result c.in_ok-called.called c.args.work.now c.run_call.new.work (told (g.L.Library.done c.args.lib.now) (g.F.Files.asked c.args.files.now)) (told (g.L.Library.done c.run_call.new.lib) (g.F.Files.asked c.run_call.new.files)) c.in_ok-called.ensures i h refl (c.run_call.ensures.runs (around_of (setting_of c.args.scene.now (g.S.Sites.formed c.args.sites.now)) (world g.L.Library.answer map)) told_map) in
    let well : WentTo (setting_of c.args.scene.now (g.S.Sites.formed c.args.sites.now)) (world g.L.Library.answer map) base (run_call (frame_of (setting_of c.args.scene.now (g.S.Sites.formed c.args.sites.now)) (world g.L.Library.answer map) c.args.work.now.cache.budget) c.args.module (value_terms (heads_of c.args.scene.now.tags.now) c.requires.ready.args) (Ok c.args.top.now.inputs) s) c.run_call.new.work (told (g.L.Library.done c.run_call.new.lib) (g.F.Files.asked c.run_call.new.files)) × IsReady c.args.top.now.wanted.tag c.run_call.new.work.known.calls = subst (λ r. GetsCall (setting_of c.args.scene.now (g.S.Sites.formed c.args.sites.now)) (world g.L.Library.answer map) base c.args.top.now.wanted.tag r (run_call (frame_of (setting_of c.args.scene.now (g.S.Sites.formed c.args.sites.now)) (world g.L.Library.answer map) c.args.work.now.cache.budget) c.args.module (value_terms (heads_of c.args.scene.now.tags.now) c.requires.ready.args) (Ok c.args.top.now.inputs) s) c.run_call.new.work (told (g.L.Library.done c.run_call.new.lib) (g.F.Files.asked c.run_call.new.files))) c.in_ok-run_call.was ran in
    rw (p.1, p.2) (step_run_cut (setting_of c.args.scene.now (g.S.Sites.formed c.args.sites.now)) (world g.L.Library.answer map) base c.args.work.now.cache.budget c.args.below.now.items c.args.top.now c.requires.stack.0 s c.args.module (option_copied c.args.own) c.requires.ready i c.run_call.new.work (told (g.L.Library.done c.run_call.new.lib) (g.F.Files.asked c.run_call.new.files)) well.0)

pub returns-in_err-push-in-Some-clause-gets : goal.returns-in_err-push-in-Some-clause-gets
returns-in_err-push-in-Some-clause-gets g c =
    λ map told_map links base s h i j.
    let p = err_from_is_err_and c.from_residual-in_err-push-in-Some.result c.from_residual-in_err-push-in-Some.ensures.1 in
    let ran = run_result (setting_of c.args.scene.now (g.S.Sites.formed c.args.sites.now)) (world g.L.Library.answer map) base c.args.work.now.cache.budget c.args.below.now.items c.args.top.now c.requires.stack.0 s c.args.module (option_copied c.args.own) c.requires.ready c.run_call.result c.in_ok-called.called c.args.work.now c.run_call.new.work (told (g.L.Library.done c.args.lib.now) (g.F.Files.asked c.args.files.now)) (told (g.L.Library.done c.run_call.new.lib) (g.F.Files.asked c.run_call.new.files)) c.in_ok-called.ensures i h refl (c.run_call.ensures.runs (around_of (setting_of c.args.scene.now (g.S.Sites.formed c.args.sites.now)) (world g.L.Library.answer map)) told_map) in
    let well : WentTo (setting_of c.args.scene.now (g.S.Sites.formed c.args.sites.now)) (world g.L.Library.answer map) base (run_call (frame_of (setting_of c.args.scene.now (g.S.Sites.formed c.args.sites.now)) (world g.L.Library.answer map) c.args.work.now.cache.budget) c.args.module (value_terms (heads_of c.args.scene.now.tags.now) c.requires.ready.args) (Ok c.args.top.now.inputs) s) c.run_call.new.work (told (g.L.Library.done c.run_call.new.lib) (g.F.Files.asked c.run_call.new.files)) × IsReady c.args.top.now.wanted.tag c.run_call.new.work.known.calls = subst (λ r. GetsCall (setting_of c.args.scene.now (g.S.Sites.formed c.args.sites.now)) (world g.L.Library.answer map) base c.args.top.now.wanted.tag r (run_call (frame_of (setting_of c.args.scene.now (g.S.Sites.formed c.args.sites.now)) (world g.L.Library.answer map) c.args.work.now.cache.budget) c.args.module (value_terms (heads_of c.args.scene.now.tags.now) c.requires.ready.args) (Ok c.args.top.now.inputs) s) c.run_call.new.work (told (g.L.Library.done c.run_call.new.lib) (g.F.Files.asked c.run_call.new.files))) c.in_ok-run_call.was ran in
    rw (p.1, p.2) (step_run_cut (setting_of c.args.scene.now (g.S.Sites.formed c.args.sites.now)) (world g.L.Library.answer map) base c.args.work.now.cache.budget c.args.below.now.items c.args.top.now c.requires.stack.0 s c.args.module (option_copied c.args.own) c.requires.ready i c.run_call.new.work (told (g.L.Library.done c.run_call.new.lib) (g.F.Files.asked c.run_call.new.files)) well.0)

pub returns-in-None-clause-gets : goal.returns-in-None-clause-gets
returns-in-None-clause-gets g c =
    λ map told_map links base s h i j.
    let ran = run_result (setting_of c.args.scene.now (g.S.Sites.formed c.args.sites.now)) (world g.L.Library.answer map) base c.args.work.now.cache.budget c.args.below.now.items c.args.top.now c.requires.stack.0 s c.args.module (option_copied c.args.own) c.requires.ready c.run_call.result c.in_ok-called.called c.args.work.now c.run_call.new.work (told (g.L.Library.done c.args.lib.now) (g.F.Files.asked c.args.files.now)) (told (g.L.Library.done c.run_call.new.lib) (g.F.Files.asked c.run_call.new.files)) c.in_ok-called.ensures i h refl (c.run_call.ensures.runs (around_of (setting_of c.args.scene.now (g.S.Sites.formed c.args.sites.now)) (world g.L.Library.answer map)) told_map) in
    let well : WentTo (setting_of c.args.scene.now (g.S.Sites.formed c.args.sites.now)) (world g.L.Library.answer map) base (run_call (frame_of (setting_of c.args.scene.now (g.S.Sites.formed c.args.sites.now)) (world g.L.Library.answer map) c.args.work.now.cache.budget) c.args.module (value_terms (heads_of c.args.scene.now.tags.now) c.requires.ready.args) (Ok c.args.top.now.inputs) s) c.run_call.new.work (told (g.L.Library.done c.run_call.new.lib) (g.F.Files.asked c.run_call.new.files)) × IsReady c.args.top.now.wanted.tag c.run_call.new.work.known.calls = subst (λ r. GetsCall (setting_of c.args.scene.now (g.S.Sites.formed c.args.sites.now)) (world g.L.Library.answer map) base c.args.top.now.wanted.tag r (run_call (frame_of (setting_of c.args.scene.now (g.S.Sites.formed c.args.sites.now)) (world g.L.Library.answer map) c.args.work.now.cache.budget) c.args.module (value_terms (heads_of c.args.scene.now.tags.now) c.requires.ready.args) (Ok c.args.top.now.inputs) s) c.run_call.new.work (told (g.L.Library.done c.run_call.new.lib) (g.F.Files.asked c.run_call.new.files))) c.in_ok-run_call.was ran in
    let zero = c.in-None.ensures.cases.0 in
    let none = none_left c.args.below.now.items (omega (arith, zero)) in
    (step_done (setting_of c.args.scene.now (g.S.Sites.formed c.args.sites.now)) (world g.L.Library.answer map) base c.args.work.now.cache.budget c.args.below.now.items c.args.top.now c.requires.stack.0 s c.args.module (option_copied c.args.own) c.requires.ready i c.run_call.new.work (told (g.L.Library.done c.run_call.new.lib) (g.F.Files.asked c.run_call.new.files)) none well.0, subst (λ os. IsReady (lowest os c.args.top.now).tag c.run_call.new.work.known.calls) (sym none) well.1)

pub returns-in_ok-push-in-Some-clause-stepped : goal.returns-in_ok-push-in-Some-clause-stepped
returns-in_ok-push-in-Some-clause-stepped g c =
    rw c.in_ok-push-in-Some.ensures.ok (stepped_under (setting_of c.args.scene.now (g.S.Sites.formed c.args.sites.now)) c.args.work.now c.run_call.new.work c.args.below.now.items c.args.top.now c.requires.stack c.requires.away c.pop.new.self.items c.in-Some.under c.in-Some.ensures.items (value_of c.in_ok-value-in-Some.value) (run_above c.args.top.now.wanted.tag c.args.work.now c.run_call.new.work c.run_call.ensures.stores c.run_call.ensures.learns))

pub returns-in_ok-push-in-Some-clause-gets : goal.returns-in_ok-push-in-Some-clause-gets
returns-in_ok-push-in-Some-clause-gets g c =
    λ map told_map links base s h i j.
    let ran = run_result (setting_of c.args.scene.now (g.S.Sites.formed c.args.sites.now)) (world g.L.Library.answer map) base c.args.work.now.cache.budget c.args.below.now.items c.args.top.now c.requires.stack.0 s c.args.module (option_copied c.args.own) c.requires.ready c.run_call.result c.in_ok-called.called c.args.work.now c.run_call.new.work (told (g.L.Library.done c.args.lib.now) (g.F.Files.asked c.args.files.now)) (told (g.L.Library.done c.run_call.new.lib) (g.F.Files.asked c.run_call.new.files)) c.in_ok-called.ensures i h refl (c.run_call.ensures.runs (around_of (setting_of c.args.scene.now (g.S.Sites.formed c.args.sites.now)) (world g.L.Library.answer map)) told_map) in
    let well : WentTo (setting_of c.args.scene.now (g.S.Sites.formed c.args.sites.now)) (world g.L.Library.answer map) base (run_call (frame_of (setting_of c.args.scene.now (g.S.Sites.formed c.args.sites.now)) (world g.L.Library.answer map) c.args.work.now.cache.budget) c.args.module (value_terms (heads_of c.args.scene.now.tags.now) c.requires.ready.args) (Ok c.args.top.now.inputs) s) c.run_call.new.work (told (g.L.Library.done c.run_call.new.lib) (g.F.Files.asked c.run_call.new.files)) × IsReady c.args.top.now.wanted.tag c.run_call.new.work.known.calls = subst (λ r. GetsCall (setting_of c.args.scene.now (g.S.Sites.formed c.args.sites.now)) (world g.L.Library.answer map) base c.args.top.now.wanted.tag r (run_call (frame_of (setting_of c.args.scene.now (g.S.Sites.formed c.args.sites.now)) (world g.L.Library.answer map) c.args.work.now.cache.budget) c.args.module (value_terms (heads_of c.args.scene.now.tags.now) c.requires.ready.args) (Ok c.args.top.now.inputs) s) c.run_call.new.work (told (g.L.Library.done c.run_call.new.lib) (g.F.Files.asked c.run_call.new.files))) c.in_ok-run_call.was ran in
    let pop = below_pop (setting_of c.args.scene.now (g.S.Sites.formed c.args.sites.now)) c.pop.new.self.items c.in-Some.under c.args.top.now (subst (λ xs. AreBelow (setting_of c.args.scene.now (g.S.Sites.formed c.args.sites.now)) xs c.args.top.now) c.in-Some.ensures.items c.requires.stack.1) in
    let d = known_value (setting_of c.args.scene.now (g.S.Sites.formed c.args.sites.now)) (world g.L.Library.answer map) c.args.top.now.wanted pop.1.to_get c.run_call.new.work.known.calls (went_sound (setting_of c.args.scene.now (g.S.Sites.formed c.args.sites.now)) (world g.L.Library.answer map) base (run_call (frame_of (setting_of c.args.scene.now (g.S.Sites.formed c.args.sites.now)) (world g.L.Library.answer map) c.args.work.now.cache.budget) c.args.module (value_terms (heads_of c.args.scene.now.tags.now) c.requires.ready.args) (Ok c.args.top.now.inputs) s) c.run_call.new.work (told (g.L.Library.done c.run_call.new.lib) (g.F.Files.asked c.run_call.new.files)) well.0).known well.1 c.in_ok-value-in-Some.value c.in_ok-value-in-Some.ensures in
    rw c.in_ok-push-in-Some.ensures.ok (step_under (setting_of c.args.scene.now (g.S.Sites.formed c.args.sites.now)) (world g.L.Library.answer map) base c.args.work.now.cache.budget c.args.below.now.items c.args.top.now c.requires.stack.0 s c.args.module (option_copied c.args.own) c.requires.ready i c.pop.new.self.items c.in-Some.under c.in-Some.ensures.items (value_of c.in_ok-value-in-Some.value) c.run_call.new.work (told (g.L.Library.done c.run_call.new.lib) (g.F.Files.asked c.run_call.new.files)) well.0 c.requires.stack.1 j d)
