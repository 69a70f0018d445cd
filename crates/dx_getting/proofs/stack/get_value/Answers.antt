use Rattle.std.proofs.Common.{◌≡◌, ◌∙◌, ◌<◌, ◌≤◌, ◌+◌, ℕ, List, [], ◌∷◌, ◌++◌, length, sym, ap, ap₂, subst, Option, Some, None, refl, arith, is_some, true, false}
use Rattle.std.specs.Prelude.{slice_get, nat_eq, Ok, Err, Result}
use Rattle.std.proofs.lemmas.Result.{err_from_is_err_and}
use Rattle.dx_objects.specs.Values.{value_of}
use Rattle.dx_tags.specs.declared.term.ValueTag.{ValueTag}
use Rattle.dx_tags.specs.Closed.{heads_of, value_term, value_terms}
use Rattle.dx_links.specs.Denotes.{denotes}
use Rattle.dx_machine.specs.Machine.{State, get}
use Rattle.dx_getting.specs.declared.fail.GetFail.TheVariants.{Memory}
use Rattle.dx_getting.specs.Told.{told}
use Rattle.dx_getting.specs.Stands.{setting_of, frame_of, around_of, world, Stands, WentTo, FailsAt, GetsCall, IsReady}
use Rattle.dx_getting.specs.Stack.{rest_in, rest_of, lowest, left_of, IsStepped, GoesOn}
use Rattle.dx_getting.proofs.Getting.{went_fails, known_value, went_sound}
use Rattle.dx_getting.proofs.stack.get_value.Goals as goal

pub work_off-requires-clause-may : goal.work_off-requires-clause-may
work_off-requires-clause-may g c =
    (c.in_ok-value.ensures.none c.in-None.is).1.may

pub work_off-requires-clause-away : goal.work_off-requires-clause-away
work_off-requires-clause-away g c =
    (c.in_ok-value.ensures.none c.in-None.is).0

pub returns-in_err-value-clause-gets : goal.returns-in_err-value-clause-gets
returns-in_err-value-clause-gets g c =
    λ map told_map links base s h.
    let p = err_from_is_err_and c.from_residual.result c.from_residual.ensures.1 in
    rw (p.1, p.2) (c.in_err-value.ensures.gets (world g.L.Library.answer map) base (told (g.L.Library.done c.args.lib.now) (g.F.Files.asked c.args.files.now)) s links h)

pub returns-in_err-work_off-in-None-clause-gets : goal.returns-in_err-work_off-in-None-clause-gets
returns-in_err-work_off-in-None-clause-gets g c =
    λ map told_map links base s h.
    let p = err_from_is_err_and c.from_residual-in_err-work_off-in-None.result c.from_residual-in_err-work_off-in-None.ensures.1 in
    let hand : (s1 : State) × Stands (setting_of c.args.scene.now (g.S.Sites.formed c.args.sites.now)) (world g.L.Library.answer map) c.at_hand.new.work base (told (g.L.Library.done c.args.lib.now) (g.F.Files.asked c.args.files.now)) s1 × ((get (frame_of (setting_of c.args.scene.now (g.S.Sites.formed c.args.sites.now)) (world g.L.Library.answer map) c.args.work.now.cache.budget) (value_term (heads_of c.args.scene.now.tags.now) c.args.t) s) ≡ (rest_in (frame_of (setting_of c.args.scene.now (g.S.Sites.formed c.args.sites.now)) (world g.L.Library.answer map) c.args.work.now.cache.budget) (heads_of c.args.scene.now.tags.now) (slice_get c.args.scene.now.tags.now c.args.t.tag) 0 s1)) = rw c.in-None.is at c.in_ok-value.ensures.gets (world g.L.Library.answer map) base (told (g.L.Library.done c.args.lib.now) (g.F.Files.asked c.args.files.now)) s links h in
    let failed = subst (λ b. FailsAt (setting_of c.args.scene.now (g.S.Sites.formed c.args.sites.now)) (world g.L.Library.answer map) base c.in_err-work_off-in-None.field-0.0 (rest_in (frame_of (setting_of c.args.scene.now (g.S.Sites.formed c.args.sites.now)) (world g.L.Library.answer map) b) (heads_of c.args.scene.now.tags.now) (slice_get c.args.scene.now.tags.now c.args.t.tag) 0 hand.0) c.work_off.new.work (told (g.L.Library.done c.work_off.new.lib) (g.F.Files.asked c.work_off.new.files))) c.at_hand.ensures.budget (c.in_err-work_off-in-None.ensures.gets map told_map links base hand.0 hand.1) in
    rw (p.1, p.2) (subst (λ x. FailsAt (setting_of c.args.scene.now (g.S.Sites.formed c.args.sites.now)) (world g.L.Library.answer map) base c.in_err-work_off-in-None.field-0.0 x c.work_off.new.work (told (g.L.Library.done c.work_off.new.lib) (g.F.Files.asked c.work_off.new.files))) (sym hand.2) failed)

pub returns-in-Some-clause-gets : goal.returns-in-Some-clause-gets
returns-in-Some-clause-gets g c =
    λ map told_map links base s h.
    let hand : WentTo (setting_of c.args.scene.now (g.S.Sites.formed c.args.sites.now)) (world g.L.Library.answer map) base (get (frame_of (setting_of c.args.scene.now (g.S.Sites.formed c.args.sites.now)) (world g.L.Library.answer map) c.args.work.now.cache.budget) (value_term (heads_of c.args.scene.now.tags.now) c.args.t) s) c.at_hand.new.work (told (g.L.Library.done c.args.lib.now) (g.F.Files.asked c.args.files.now)) × (denotes (around_of (setting_of c.args.scene.now (g.S.Sites.formed c.args.sites.now)) (world g.L.Library.answer map)) (value_term (heads_of c.args.scene.now.tags.now) c.args.t) ≡ Ok (value_of c.in-Some.value)) = rw c.in-Some.is at c.in_ok-value.ensures.gets (world g.L.Library.answer map) base (told (g.L.Library.done c.args.lib.now) (g.F.Files.asked c.args.files.now)) s links h in
    hand

pub returns-in_err-value-in-None-clause-gets : goal.returns-in_err-value-in-None-clause-gets
returns-in_err-value-in-None-clause-gets g c =
    λ map told_map links base s h.
    let p = err_from_is_err_and c.from_residual-in_err-value-in-None.result c.from_residual-in_err-value-in-None.ensures.1 in
    let n = c.in_ok-value.ensures.none c.in-None.is in
    let hand : (s1 : State) × Stands (setting_of c.args.scene.now (g.S.Sites.formed c.args.sites.now)) (world g.L.Library.answer map) c.at_hand.new.work base (told (g.L.Library.done c.args.lib.now) (g.F.Files.asked c.args.files.now)) s1 × ((get (frame_of (setting_of c.args.scene.now (g.S.Sites.formed c.args.sites.now)) (world g.L.Library.answer map) c.args.work.now.cache.budget) (value_term (heads_of c.args.scene.now.tags.now) c.args.t) s) ≡ (rest_in (frame_of (setting_of c.args.scene.now (g.S.Sites.formed c.args.sites.now)) (world g.L.Library.answer map) c.args.work.now.cache.budget) (heads_of c.args.scene.now.tags.now) (slice_get c.args.scene.now.tags.now c.args.t.tag) 0 s1)) = rw c.in-None.is at c.in_ok-value.ensures.gets (world g.L.Library.answer map) base (told (g.L.Library.done c.args.lib.now) (g.F.Files.asked c.args.files.now)) s links h in
    let got = c.in_ok-work_off-in-None.ensures.gets map told_map links base hand.0 hand.1 in
    let went = subst (λ x. WentTo (setting_of c.args.scene.now (g.S.Sites.formed c.args.sites.now)) (world g.L.Library.answer map) base x c.work_off.new.work (told (g.L.Library.done c.work_off.new.lib) (g.F.Files.asked c.work_off.new.files))) (sym hand.2) (subst (λ b. WentTo (setting_of c.args.scene.now (g.S.Sites.formed c.args.sites.now)) (world g.L.Library.answer map) base (rest_in (frame_of (setting_of c.args.scene.now (g.S.Sites.formed c.args.sites.now)) (world g.L.Library.answer map) b) (heads_of c.args.scene.now.tags.now) (slice_get c.args.scene.now.tags.now c.args.t.tag) 0 hand.0) c.work_off.new.work (told (g.L.Library.done c.work_off.new.lib) (g.F.Files.asked c.work_off.new.files))) c.at_hand.ensures.budget got.0) in
    rw (p.1, p.2) (went_fails (setting_of c.args.scene.now (g.S.Sites.formed c.args.sites.now)) (world g.L.Library.answer map) base c.work_off.new.work (told (g.L.Library.done c.work_off.new.lib) (g.F.Files.asked c.work_off.new.files)) Memory (get (frame_of (setting_of c.args.scene.now (g.S.Sites.formed c.args.sites.now)) (world g.L.Library.answer map) c.args.work.now.cache.budget) (value_term (heads_of c.args.scene.now.tags.now) c.args.t) s) went tt)

pub returns-in_ok-value-in-None-clause-gets : goal.returns-in_ok-value-in-None-clause-gets
returns-in_ok-value-in-None-clause-gets g c =
    λ map told_map links base s h.
    let n = c.in_ok-value.ensures.none c.in-None.is in
    let hand : (s1 : State) × Stands (setting_of c.args.scene.now (g.S.Sites.formed c.args.sites.now)) (world g.L.Library.answer map) c.at_hand.new.work base (told (g.L.Library.done c.args.lib.now) (g.F.Files.asked c.args.files.now)) s1 × ((get (frame_of (setting_of c.args.scene.now (g.S.Sites.formed c.args.sites.now)) (world g.L.Library.answer map) c.args.work.now.cache.budget) (value_term (heads_of c.args.scene.now.tags.now) c.args.t) s) ≡ (rest_in (frame_of (setting_of c.args.scene.now (g.S.Sites.formed c.args.sites.now)) (world g.L.Library.answer map) c.args.work.now.cache.budget) (heads_of c.args.scene.now.tags.now) (slice_get c.args.scene.now.tags.now c.args.t.tag) 0 s1)) = rw c.in-None.is at c.in_ok-value.ensures.gets (world g.L.Library.answer map) base (told (g.L.Library.done c.args.lib.now) (g.F.Files.asked c.args.files.now)) s links h in
    let got = c.in_ok-work_off-in-None.ensures.gets map told_map links base hand.0 hand.1 in
    let went = subst (λ x. WentTo (setting_of c.args.scene.now (g.S.Sites.formed c.args.sites.now)) (world g.L.Library.answer map) base x c.work_off.new.work (told (g.L.Library.done c.work_off.new.lib) (g.F.Files.asked c.work_off.new.files))) (sym hand.2) (subst (λ b. WentTo (setting_of c.args.scene.now (g.S.Sites.formed c.args.sites.now)) (world g.L.Library.answer map) base (rest_in (frame_of (setting_of c.args.scene.now (g.S.Sites.formed c.args.sites.now)) (world g.L.Library.answer map) b) (heads_of c.args.scene.now.tags.now) (slice_get c.args.scene.now.tags.now c.args.t.tag) 0 hand.0) c.work_off.new.work (told (g.L.Library.done c.work_off.new.lib) (g.F.Files.asked c.work_off.new.files))) c.at_hand.ensures.budget got.0) in
    (went, known_value (setting_of c.args.scene.now (g.S.Sites.formed c.args.sites.now)) (world g.L.Library.answer map) c.args.t n.1 c.work_off.new.work.known.calls (went_sound (setting_of c.args.scene.now (g.S.Sites.formed c.args.sites.now)) (world g.L.Library.answer map) base (get (frame_of (setting_of c.args.scene.now (g.S.Sites.formed c.args.sites.now)) (world g.L.Library.answer map) c.args.work.now.cache.budget) (value_term (heads_of c.args.scene.now.tags.now) c.args.t) s) c.work_off.new.work (told (g.L.Library.done c.work_off.new.lib) (g.F.Files.asked c.work_off.new.files)) went).known got.1 c.in_ok-value-in-None.value c.in_ok-value-in-None.ensures)
