use Rattle.std.proofs.Common.{◌≡◌, ◌∙◌, ◌<◌, ◌≤◌, ◌+◌, ℕ, List, [], ◌∷◌, ◌++◌, length, sym, ap, ap₂, subst, Option, Some, None, refl, arith, is_some, true, false}
use Rattle.std.specs.Prelude.{slice_get, nat_eq, Ok}
use Rattle.std.proofs.lemmas.Result.{err_from_is_err_and}
use Rattle.dx_objects.specs.Values.{value_of}
use Rattle.dx_tags.specs.declared.term.ValueTag.{ValueTag}
use Rattle.dx_tags.specs.declared.term.Term.TheVariants.{Call}
use Rattle.dx_tags.specs.Closed.{heads_of, value_term}
use Rattle.dx_links.specs.Denotes.{denotes}
use Rattle.dx_machine.specs.Machine.{State, get}
use Rattle.dx_getting.specs.declared.fail.GetFail.TheVariants.{Memory}
use Rattle.dx_getting.specs.Stands.{setting_of, frame_of, around_of, Stands, WentTo}
use Rattle.dx_getting.specs.Stack.{rest_in}
use Rattle.dx_getting.proofs.Getting.{may_get_arg}
use Rattle.dx_getting.proofs.Stacking.{place_of, step_value, step_value_cut, step_hand_fails, step_over, step_over_cut, stepped_value, stepped_over}
use Rattle.dx_getting.proofs.stack.take_argument.Goals as goal

pub at_hand-requires : goal.at_hand-requires
at_hand-requires g c =
    let q = may_get_arg (setting_of c.args.scene.now (g.S.Sites.formed c.args.sites.now)) c.args.top.now.wanted.tag c.requires.stack.0.may (Call c.requires.stack.0.«module» c.requires.stack.0.args) c.requires.stack.0.«module» c.requires.stack.0.args c.requires.stack.0.term refl (length c.args.top.now.inputs) c.args.arg (place_of (setting_of c.args.scene.now (g.S.Sites.formed c.args.sites.now)) c.args.top.now c.requires.stack.0 c.args.arg c.requires.arg.at) in
    record { may = q.1 }

pub returns-in_err-value-clause-above : goal.returns-in_err-value-clause-above
returns-in_err-value-clause-above g c =
    λ u lt a.
    let q = may_get_arg (setting_of c.args.scene.now (g.S.Sites.formed c.args.sites.now)) c.args.top.now.wanted.tag c.requires.stack.0.may (Call c.requires.stack.0.«module» c.requires.stack.0.args) c.requires.stack.0.«module» c.requires.stack.0.args c.requires.stack.0.term refl (length c.args.top.now.inputs) c.args.arg (place_of (setting_of c.args.scene.now (g.S.Sites.formed c.args.sites.now)) c.args.top.now c.requires.stack.0 c.args.arg c.requires.arg.at) in
    let less = q.0 in
    c.at_hand.ensures.above u (omega (arith, lt, less)) a

pub returns-in_err-push-in-Some-clause-above : goal.returns-in_err-push-in-Some-clause-above
returns-in_err-push-in-Some-clause-above g c =
    λ u lt a.
    let q = may_get_arg (setting_of c.args.scene.now (g.S.Sites.formed c.args.sites.now)) c.args.top.now.wanted.tag c.requires.stack.0.may (Call c.requires.stack.0.«module» c.requires.stack.0.args) c.requires.stack.0.«module» c.requires.stack.0.args c.requires.stack.0.term refl (length c.args.top.now.inputs) c.args.arg (place_of (setting_of c.args.scene.now (g.S.Sites.formed c.args.sites.now)) c.args.top.now c.requires.stack.0 c.args.arg c.requires.arg.at) in
    let less = q.0 in
    c.at_hand.ensures.above u (omega (arith, lt, less)) a

pub returns-in_err-put_on-in-None-clause-above : goal.returns-in_err-put_on-in-None-clause-above
returns-in_err-put_on-in-None-clause-above g c =
    λ u lt a.
    let q = may_get_arg (setting_of c.args.scene.now (g.S.Sites.formed c.args.sites.now)) c.args.top.now.wanted.tag c.requires.stack.0.may (Call c.requires.stack.0.«module» c.requires.stack.0.args) c.requires.stack.0.«module» c.requires.stack.0.args c.requires.stack.0.term refl (length c.args.top.now.inputs) c.args.arg (place_of (setting_of c.args.scene.now (g.S.Sites.formed c.args.sites.now)) c.args.top.now c.requires.stack.0 c.args.arg c.requires.arg.at) in
    let less = q.0 in
    c.at_hand.ensures.above u (omega (arith, lt, less)) a

pub returns-in_ok-push-in-Some-clause-above : goal.returns-in_ok-push-in-Some-clause-above
returns-in_ok-push-in-Some-clause-above g c =
    λ u lt a.
    let q = may_get_arg (setting_of c.args.scene.now (g.S.Sites.formed c.args.sites.now)) c.args.top.now.wanted.tag c.requires.stack.0.may (Call c.requires.stack.0.«module» c.requires.stack.0.args) c.requires.stack.0.«module» c.requires.stack.0.args c.requires.stack.0.term refl (length c.args.top.now.inputs) c.args.arg (place_of (setting_of c.args.scene.now (g.S.Sites.formed c.args.sites.now)) c.args.top.now c.requires.stack.0 c.args.arg c.requires.arg.at) in
    let less = q.0 in
    c.at_hand.ensures.above u (omega (arith, lt, less)) a

pub returns-in_ok-put_on-in-None-clause-above : goal.returns-in_ok-put_on-in-None-clause-above
returns-in_ok-put_on-in-None-clause-above g c =
    λ u lt a.
    let q = may_get_arg (setting_of c.args.scene.now (g.S.Sites.formed c.args.sites.now)) c.args.top.now.wanted.tag c.requires.stack.0.may (Call c.requires.stack.0.«module» c.requires.stack.0.args) c.requires.stack.0.«module» c.requires.stack.0.args c.requires.stack.0.term refl (length c.args.top.now.inputs) c.args.arg (place_of (setting_of c.args.scene.now (g.S.Sites.formed c.args.sites.now)) c.args.top.now c.requires.stack.0 c.args.arg c.requires.arg.at) in
    let less = q.0 in
    c.at_hand.ensures.above u (omega (arith, lt, less)) a

pub returns-in_err-value-clause-gets : goal.returns-in_err-value-clause-gets
returns-in_err-value-clause-gets g c =
    λ files base now s links h i j.
    let p = err_from_is_err_and c.from_residual.result c.from_residual.ensures.1 in
    rw p.1 (step_hand_fails (setting_of c.args.scene.now (g.S.Sites.formed c.args.sites.now)) files base c.args.work.now.cache.budget c.args.below.now.items c.args.top.now c.requires.stack.0 s c.args.arg c.requires.arg c.at_hand.new.work now Memory (c.in_err-value.ensures.gets files base now s links h))

pub returns-in_err-push-in-Some-clause-gets : goal.returns-in_err-push-in-Some-clause-gets
returns-in_err-push-in-Some-clause-gets g c =
    λ files base now s links h i j.
    let p = err_from_is_err_and c.from_residual-in_err-push-in-Some.result c.from_residual-in_err-push-in-Some.ensures.1 in
    let hand : WentTo (setting_of c.args.scene.now (g.S.Sites.formed c.args.sites.now)) files base (get (frame_of (setting_of c.args.scene.now (g.S.Sites.formed c.args.sites.now)) files c.args.work.now.cache.budget) (value_term (heads_of c.args.scene.now.tags.now) c.args.arg) s) c.at_hand.new.work now × (denotes (around_of (setting_of c.args.scene.now (g.S.Sites.formed c.args.sites.now)) files) (value_term (heads_of c.args.scene.now.tags.now) c.args.arg) ≡ Ok (value_of c.in-Some.value)) = rw c.in-Some.is at c.in_ok-value.ensures.gets files base now s links h in
    rw p.1 (step_value_cut (setting_of c.args.scene.now (g.S.Sites.formed c.args.sites.now)) files base c.args.work.now.cache.budget c.args.below.now.items c.args.top.now c.requires.stack.0 s c.args.arg c.requires.arg c.at_hand.new.work now hand.0)

pub returns-in_err-put_on-in-None-clause-gets : goal.returns-in_err-put_on-in-None-clause-gets
returns-in_err-put_on-in-None-clause-gets g c =
    λ files base now s links h i j.
    let p = err_from_is_err_and c.from_residual-in_err-put_on-in-None.result c.from_residual-in_err-put_on-in-None.ensures.1 in
    let hand : (s1 : State) × Stands (setting_of c.args.scene.now (g.S.Sites.formed c.args.sites.now)) files c.at_hand.new.work base now s1 × ((get (frame_of (setting_of c.args.scene.now (g.S.Sites.formed c.args.sites.now)) files c.args.work.now.cache.budget) (value_term (heads_of c.args.scene.now.tags.now) c.args.arg) s) ≡ rest_in (frame_of (setting_of c.args.scene.now (g.S.Sites.formed c.args.sites.now)) files c.args.work.now.cache.budget) (heads_of c.args.scene.now.tags.now) (slice_get c.args.scene.now.tags.now c.args.arg.tag) 0 s1) = rw c.in-None.is at c.in_ok-value.ensures.gets files base now s links h in
    rw p.1 (step_over_cut (setting_of c.args.scene.now (g.S.Sites.formed c.args.sites.now)) files base c.args.work.now.cache.budget c.args.below.now.items c.args.top.now c.requires.stack.0 s c.args.arg c.requires.arg c.at_hand.new.work now hand.0 hand.1 hand.2)

pub returns-in_ok-push-in-Some-clause-stepped : goal.returns-in_ok-push-in-Some-clause-stepped
returns-in_ok-push-in-Some-clause-stepped g c =
    rw c.in_ok-push-in-Some.ensures.ok (stepped_value (setting_of c.args.scene.now (g.S.Sites.formed c.args.sites.now)) c.args.work.now c.at_hand.new.work c.args.below.now.items c.args.top.now c.requires.stack c.requires.away c.args.arg c.requires.arg (value_of c.in-Some.value) c.at_hand.ensures.above)

pub returns-in_ok-push-in-Some-clause-gets : goal.returns-in_ok-push-in-Some-clause-gets
returns-in_ok-push-in-Some-clause-gets g c =
    λ files base now s links h i j.
    let hand : WentTo (setting_of c.args.scene.now (g.S.Sites.formed c.args.sites.now)) files base (get (frame_of (setting_of c.args.scene.now (g.S.Sites.formed c.args.sites.now)) files c.args.work.now.cache.budget) (value_term (heads_of c.args.scene.now.tags.now) c.args.arg) s) c.at_hand.new.work now × (denotes (around_of (setting_of c.args.scene.now (g.S.Sites.formed c.args.sites.now)) files) (value_term (heads_of c.args.scene.now.tags.now) c.args.arg) ≡ Ok (value_of c.in-Some.value)) = rw c.in-Some.is at c.in_ok-value.ensures.gets files base now s links h in
    rw c.in_ok-push-in-Some.ensures.ok (step_value (setting_of c.args.scene.now (g.S.Sites.formed c.args.sites.now)) files base c.args.work.now.cache.budget c.args.below.now.items c.args.top.now c.requires.stack.0 s c.args.arg c.requires.arg (value_of c.in-Some.value) c.at_hand.new.work now hand.0 hand.1 i j)

pub returns-in_ok-put_on-in-None-clause-stepped : goal.returns-in_ok-put_on-in-None-clause-stepped
returns-in_ok-put_on-in-None-clause-stepped g c =
    let n = c.in_ok-value.ensures.none c.in-None.is in
    rw (c.in_ok-put_on-in-None.ensures.below, c.in_ok-put_on-in-None.ensures.top) (stepped_over (setting_of c.args.scene.now (g.S.Sites.formed c.args.sites.now)) c.args.work.now c.at_hand.new.work c.args.below.now.items c.args.top.now c.requires.stack c.requires.away c.args.arg c.requires.arg n.1 n.0 c.at_hand.ensures.above)

pub returns-in_ok-put_on-in-None-clause-gets : goal.returns-in_ok-put_on-in-None-clause-gets
returns-in_ok-put_on-in-None-clause-gets g c =
    λ files base now s links h i j.
    let hand : (s1 : State) × Stands (setting_of c.args.scene.now (g.S.Sites.formed c.args.sites.now)) files c.at_hand.new.work base now s1 × ((get (frame_of (setting_of c.args.scene.now (g.S.Sites.formed c.args.sites.now)) files c.args.work.now.cache.budget) (value_term (heads_of c.args.scene.now.tags.now) c.args.arg) s) ≡ rest_in (frame_of (setting_of c.args.scene.now (g.S.Sites.formed c.args.sites.now)) files c.args.work.now.cache.budget) (heads_of c.args.scene.now.tags.now) (slice_get c.args.scene.now.tags.now c.args.arg.tag) 0 s1) = rw c.in-None.is at c.in_ok-value.ensures.gets files base now s links h in
    rw (c.in_ok-put_on-in-None.ensures.below, c.in_ok-put_on-in-None.ensures.top) (step_over (setting_of c.args.scene.now (g.S.Sites.formed c.args.sites.now)) files base c.args.work.now.cache.budget c.args.below.now.items c.args.top.now c.requires.stack.0 s c.args.arg c.requires.arg c.at_hand.new.work now hand.0 hand.1 hand.2 i j)
