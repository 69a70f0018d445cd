use Rattle.std.proofs.Common.{◌≡◌, ◌∙◌, ◌<◌, ◌≤◌, ◌+◌, ℕ, List, [], ◌∷◌, ◌++◌, length, sym, ap, ap₂, subst, Option, Some, None, refl, is_some, true, false}
use Rattle.std.specs.Prelude.{slice_get, nat_eq, Ok, Err, Result}
use Rattle.std.proofs.lemmas.Result.{err_from_is_err_and}
use Rattle.dx_objects.specs.Values.{value_of}
use Rattle.dx_tags.specs.declared.term.ValueTag.{ValueTag}
use Rattle.dx_tags.specs.Closed.{heads_of, value_term, value_terms}
use Rattle.dx_links.specs.Denotes.{denotes}
use Rattle.dx_machine.specs.Machine.{State, get}
use Rattle.dx_getting.specs.declared.fail.GetFail.TheVariants.{Memory}
use Rattle.dx_getting.specs.Told.{told}
use Rattle.dx_getting.specs.Stands.{setting_of, frame_of, around_of, world, Stands, WentTo, FailsAt, GetsCall, IsReady}
use Rattle.dx_getting.specs.Stack.{rest_in, rest_of, lowest, left_of, IsStepped, GoesOn}
use Rattle.dx_getting.proofs.Stacking.{open_of, start_is, no_inputs}
use Rattle.dx_getting.proofs.stack.work_off.Goals as goal

pub stack-init : goal.stack-init
stack-init g c =
    rw (c.new.ensures, c.new-below.ensures.items) (record {
      same = refl;
      faults = refl;
      budget = refl;
      calls = λ h. h;
      stack = (open_of (setting_of c.args.scene.now (g.S.Sites.formed c.args.sites.now)) c.args.t c.requires.may (slice_get c.args.scene.now.tags.now c.args.t.tag) refl, tt);
      away = (c.requires.away, tt);
      lowest_is = refl;
      so_far = λ map told_map links base s h. (s, h, start_is (frame_of (setting_of c.args.scene.now (g.S.Sites.formed c.args.sites.now)) (world g.L.Library.answer map) c.args.work.now.cache.budget) c.args.scene.now.tags.now c.args.t s, no_inputs (setting_of c.args.scene.now (g.S.Sites.formed c.args.sites.now)) (world g.L.Library.answer map) c.args.t, tt);
    })

pub returns-in_err-step-clause-gets : goal.returns-in_err-step-clause-gets
returns-in_err-step-clause-gets g c =
    λ map told_map links base s h.
    let p = err_from_is_err_and c.from_residual.result c.from_residual.ensures.1 in
    let so = c.stack.invariant.so_far map told_map links base s h in
    let failed = subst (λ b. FailsAt (setting_of c.args.scene.now (g.S.Sites.formed c.args.sites.now)) (world g.L.Library.answer map) base c.in_err-step.field-0.0 (rest_of (frame_of (setting_of c.args.scene.now (g.S.Sites.formed c.args.sites.now)) (world g.L.Library.answer map) b) c.args.scene.now.tags.now c.stack.below.items c.stack.top so.0) c.step.new.work (told (g.L.Library.done c.step.new.lib) (g.F.Files.asked c.step.new.files))) c.stack.invariant.budget (c.in_err-step.ensures.gets map (c.stack.invariant.same ∙ told_map) links base so.0 so.1 so.3 so.4) in
    rw (p.1, p.2) (subst (λ x. FailsAt (setting_of c.args.scene.now (g.S.Sites.formed c.args.sites.now)) (world g.L.Library.answer map) base c.in_err-step.field-0.0 x c.step.new.work (told (g.L.Library.done c.step.new.lib) (g.F.Files.asked c.step.new.files))) (sym so.2) failed)

pub returns-then-branch-clause-gets : goal.returns-then-branch-clause-gets
returns-then-branch-clause-gets g c =
    λ map told_map links base s h.
    let so = c.stack.invariant.so_far map told_map links base s h in
    let got : WentTo (setting_of c.args.scene.now (g.S.Sites.formed c.args.sites.now)) (world g.L.Library.answer map) base (rest_of (frame_of (setting_of c.args.scene.now (g.S.Sites.formed c.args.sites.now)) (world g.L.Library.answer map) c.stack.work.cache.budget) c.args.scene.now.tags.now c.stack.below.items c.stack.top so.0) c.step.new.work (told (g.L.Library.done c.step.new.lib) (g.F.Files.asked c.step.new.files)) × IsReady (lowest c.stack.below.items c.stack.top).tag c.step.new.work.known.calls = rw c.if-branch.true at c.in_ok-step.ensures.gets map (c.stack.invariant.same ∙ told_map) links base so.0 so.1 so.3 so.4 in
    let went = subst (λ b. WentTo (setting_of c.args.scene.now (g.S.Sites.formed c.args.sites.now)) (world g.L.Library.answer map) base (rest_of (frame_of (setting_of c.args.scene.now (g.S.Sites.formed c.args.sites.now)) (world g.L.Library.answer map) b) c.args.scene.now.tags.now c.stack.below.items c.stack.top so.0) c.step.new.work (told (g.L.Library.done c.step.new.lib) (g.F.Files.asked c.step.new.files))) c.stack.invariant.budget got.0 in
    (subst (λ x. WentTo (setting_of c.args.scene.now (g.S.Sites.formed c.args.sites.now)) (world g.L.Library.answer map) base x c.step.new.work (told (g.L.Library.done c.step.new.lib) (g.F.Files.asked c.step.new.files))) (sym so.2) went, subst (λ (x : ValueTag). IsReady x.tag c.step.new.work.known.calls) c.stack.invariant.lowest_is got.1)

pub stack-preserved : goal.stack-preserved
stack-preserved g c =
    let sp : IsStepped (setting_of c.args.scene.now (g.S.Sites.formed c.args.sites.now)) c.step.new.work (left_of c.args.scene.now.tags.now c.stack.below.items c.stack.top) (lowest c.stack.below.items c.stack.top) c.step.new.below.items c.step.new.top = rw c.if-branch.false at c.in_ok-step.ensures.stepped in
    record {
      same = c.step.ensures.same ∙ c.stack.invariant.same;
      faults = c.in_ok-step.ensures.cause.otherwise (λ e. absurd cc) ∙ c.stack.invariant.faults;
      budget = c.step.ensures.budget ∙ c.stack.invariant.budget;
      calls = λ h. c.step.ensures.calls (c.stack.invariant.calls h);
      stack = sp.stack;
      away = sp.away;
      lowest_is = sp.same ∙ c.stack.invariant.lowest_is;
      so_far = λ map told_map links base s h.
          let so = c.stack.invariant.so_far map told_map links base s h in
          let got : GoesOn (setting_of c.args.scene.now (g.S.Sites.formed c.args.sites.now)) (world g.L.Library.answer map) base c.stack.work.cache.budget (rest_of (frame_of (setting_of c.args.scene.now (g.S.Sites.formed c.args.sites.now)) (world g.L.Library.answer map) c.stack.work.cache.budget) c.args.scene.now.tags.now c.stack.below.items c.stack.top so.0) c.step.new.below.items c.step.new.top c.step.new.work (told (g.L.Library.done c.step.new.lib) (g.F.Files.asked c.step.new.files)) = rw c.if-branch.false at c.in_ok-step.ensures.gets map (c.stack.invariant.same ∙ told_map) links base so.0 so.1 so.3 so.4 in
          (got.0, got.1, so.2 ∙ subst (λ b. (rest_of (frame_of (setting_of c.args.scene.now (g.S.Sites.formed c.args.sites.now)) (world g.L.Library.answer map) b) c.args.scene.now.tags.now c.stack.below.items c.stack.top so.0) ≡ (rest_of (frame_of (setting_of c.args.scene.now (g.S.Sites.formed c.args.sites.now)) (world g.L.Library.answer map) b) c.args.scene.now.tags.now c.step.new.below.items c.step.new.top got.0)) c.stack.invariant.budget got.2, got.3, got.4);
    }
