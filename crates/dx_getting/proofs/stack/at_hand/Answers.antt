use Rattle.std.proofs.Common.{◌≡◌, ◌∙◌, ◌<◌, ◌≤◌, ◌+◌, ℕ, List, [], ◌∷◌, ◌++◌, length, sym, ap, ap₂, subst, Option, Some, None, refl, arith, is_some, true, false, true≢false}
use Rattle.std.specs.Prelude.{slice_get, nat_eq}
use Rattle.std.specs.Map.{lookup}
use Rattle.std.proofs.lemmas.Result.{err_from_is_err_and}
use Rattle.dx_cache.specs.Cached as kept
use Rattle.dx_tags.specs.declared.term.ValueTag.{ValueTag}
use Rattle.dx_tags.specs.Closed.{heads_of, value_term, head_at}
use Rattle.dx_machine.specs.Machine.{State, get}
use Rattle.dx_machine.proofs.Grows.{get_grows}
use Rattle.dx_getting.specs.declared.value.Given.TheVariants.{Ready, ToGet}
use Rattle.dx_getting.specs.declared.fail.GetFail.TheVariants.{Memory}
use Rattle.dx_getting.specs.Stands.{setting_of, frame_of, around_of}
use Rattle.dx_getting.specs.Steps.{IsHit, GivenBy}
use Rattle.dx_getting.proofs.Getting.{cut_here, went_fails, known_found, is_called, to_get, ready_value, known_value, went_sound}
use Rattle.dx_getting.proofs.Stacking.{known_gets, hit_gets, run_left, is_away, hit_above, hit_calls}
use Rattle.dx_getting.proofs.stack.at_hand.Goals as goal

pub returns-in_err-value-clause-gets : goal.returns-in_err-value-clause-gets
returns-in_err-value-clause-gets g c =
    λ files base now s links h.
    let p = err_from_is_err_and c.from_residual.result c.from_residual.ensures.1 in
    rw p.1 (cut_here (setting_of c.args.scene.now (g.S.Sites.formed c.args.sites.now)) files base c.args.work.now c.args.work.now now s (get (frame_of (setting_of c.args.scene.now (g.S.Sites.formed c.args.sites.now)) files c.args.work.now.cache.budget) (value_term (heads_of c.args.scene.now.tags.now) c.args.t) s) h (record { entries = refl; known = refl; events = refl }) (get_grows (frame_of (setting_of c.args.scene.now (g.S.Sites.formed c.args.sites.now)) files c.args.work.now.cache.budget) (value_term (heads_of c.args.scene.now.tags.now) c.args.t) s))

pub returns-in_err-value-in-ToGet-clause-gets : goal.returns-in_err-value-in-ToGet-clause-gets
returns-in_err-value-in-ToGet-clause-gets g c =
    λ files base now s links h.
    let p = err_from_is_err_and c.from_residual-in_err-value-in-ToGet.result c.from_residual-in_err-value-in-ToGet.ensures.1 in
    let to = to_get (setting_of c.args.scene.now (g.S.Sites.formed c.args.sites.now)) c.args.t c.requires.may (head_at (heads_of c.args.scene.now.tags.now) c.args.t.tag) refl (subst (GivenBy (setting_of c.args.scene.now (g.S.Sites.formed c.args.sites.now)) c.args.t (head_at (heads_of c.args.scene.now.tags.now) c.args.t.tag)) c.in-ToGet.is (c.in_ok-value.ensures (g.S.Sites.formed c.args.sites.now))) in
    let yes : is_some (lookup (nat_eq c.args.t.tag) c.args.work.now.known.calls) ≡ true = sym (known_found c.args.t.tag c.args.work.now.known.calls c.outs.result c.outs.ensures) ∙ sym c.is_some.ensures ∙ c.if-is_some.true in
    let got = known_gets (setting_of c.args.scene.now (g.S.Sites.formed c.args.sites.now)) files base c.args.t to c.args.work.now now s h yes in
    rw p.1 (went_fails (setting_of c.args.scene.now (g.S.Sites.formed c.args.sites.now)) files base c.args.work.now now Memory (get (frame_of (setting_of c.args.scene.now (g.S.Sites.formed c.args.sites.now)) files c.args.work.now.cache.budget) (value_term (heads_of c.args.scene.now.tags.now) c.args.t) s) got.0 tt)

pub returns-then-is_some-clause-gets : goal.returns-then-is_some-clause-gets
returns-then-is_some-clause-gets g c =
    λ files base now s links h.
    let to = to_get (setting_of c.args.scene.now (g.S.Sites.formed c.args.sites.now)) c.args.t c.requires.may (head_at (heads_of c.args.scene.now.tags.now) c.args.t.tag) refl (subst (GivenBy (setting_of c.args.scene.now (g.S.Sites.formed c.args.sites.now)) c.args.t (head_at (heads_of c.args.scene.now.tags.now) c.args.t.tag)) c.in-ToGet.is (c.in_ok-value.ensures (g.S.Sites.formed c.args.sites.now))) in
    let yes : is_some (lookup (nat_eq c.args.t.tag) c.args.work.now.known.calls) ≡ true = sym (known_found c.args.t.tag c.args.work.now.known.calls c.outs.result c.outs.ensures) ∙ sym c.is_some.ensures ∙ c.if-is_some.true in
    let got = known_gets (setting_of c.args.scene.now (g.S.Sites.formed c.args.sites.now)) files base c.args.t to c.args.work.now now s h yes in
    (got.0, known_value (setting_of c.args.scene.now (g.S.Sites.formed c.args.sites.now)) files c.args.t to c.args.work.now.known.calls h.sound.known got.1 c.in_ok-value-in-ToGet.value c.in_ok-value-in-ToGet.ensures)

pub called_at-requires : goal.called_at-requires
called_at-requires g c =
    let to = to_get (setting_of c.args.scene.now (g.S.Sites.formed c.args.sites.now)) c.args.t c.requires.may (head_at (heads_of c.args.scene.now.tags.now) c.args.t.tag) refl (subst (GivenBy (setting_of c.args.scene.now (g.S.Sites.formed c.args.sites.now)) c.args.t (head_at (heads_of c.args.scene.now.tags.now) c.args.t.tag)) c.in-ToGet.is (c.in_ok-value.ensures (g.S.Sites.formed c.args.sites.now))) in
    record { formed = is_called (setting_of c.args.scene.now (g.S.Sites.formed c.args.sites.now)) c.args.t.tag to.may }

pub returns-in_err-called-in-ToGet-clause-gets : goal.returns-in_err-called-in-ToGet-clause-gets
returns-in_err-called-in-ToGet-clause-gets g c =
    λ files base now s links h.
    let p = err_from_is_err_and c.from_residual-in_err-called-in-ToGet.result c.from_residual-in_err-called-in-ToGet.ensures.1 in
    rw p.1 (cut_here (setting_of c.args.scene.now (g.S.Sites.formed c.args.sites.now)) files base c.args.work.now c.args.work.now now s (get (frame_of (setting_of c.args.scene.now (g.S.Sites.formed c.args.sites.now)) files c.args.work.now.cache.budget) (value_term (heads_of c.args.scene.now.tags.now) c.args.t) s) h (record { entries = refl; known = refl; events = refl }) (get_grows (frame_of (setting_of c.args.scene.now (g.S.Sites.formed c.args.sites.now)) files c.args.work.now.cache.budget) (value_term (heads_of c.args.scene.now.tags.now) c.args.t) s))

pub returns-in_err-hit-in-ToGet-clause-gets : goal.returns-in_err-hit-in-ToGet-clause-gets
returns-in_err-hit-in-ToGet-clause-gets g c =
    λ files base now s links h.
    let p = err_from_is_err_and c.from_residual-in_err-hit-in-ToGet.result c.from_residual-in_err-hit-in-ToGet.ensures.1 in
    rw p.1 (cut_here (setting_of c.args.scene.now (g.S.Sites.formed c.args.sites.now)) files base c.args.work.now c.hit.new.work now s (get (frame_of (setting_of c.args.scene.now (g.S.Sites.formed c.args.sites.now)) files c.args.work.now.cache.budget) (value_term (heads_of c.args.scene.now.tags.now) c.args.t) s) h c.in_err-hit-in-ToGet.ensures.hits (get_grows (frame_of (setting_of c.args.scene.now (g.S.Sites.formed c.args.sites.now)) files c.args.work.now.cache.budget) (value_term (heads_of c.args.scene.now.tags.now) c.args.t) s))

pub returns-in_err-value-in-ToGet-2-clause-calls : goal.returns-in_err-value-in-ToGet-2-clause-calls
returns-in_err-value-in-ToGet-2-clause-calls g c =
    let i : IsHit c.args.t.tag c.in_ok-called-in-ToGet.called.site c.args.work.now c.hit.new.work = c.in_ok-hit-in-ToGet.ensures.hits in
    hit_calls c.args.scene.now.tags.now c.args.t.tag c.in_ok-called-in-ToGet.called.site c.args.work.now c.hit.new.work i

pub returns-in_err-value-in-ToGet-2-clause-above : goal.returns-in_err-value-in-ToGet-2-clause-above
returns-in_err-value-in-ToGet-2-clause-above g c =
    let i : IsHit c.args.t.tag c.in_ok-called-in-ToGet.called.site c.args.work.now c.hit.new.work = c.in_ok-hit-in-ToGet.ensures.hits in
    hit_above c.args.t.tag c.in_ok-called-in-ToGet.called.site c.args.work.now c.hit.new.work i

pub returns-then-has-clause-calls : goal.returns-then-has-clause-calls
returns-then-has-clause-calls g c =
    let i : IsHit c.args.t.tag c.in_ok-called-in-ToGet.called.site c.args.work.now c.hit.new.work = c.in_ok-hit-in-ToGet.ensures.hits in
    hit_calls c.args.scene.now.tags.now c.args.t.tag c.in_ok-called-in-ToGet.called.site c.args.work.now c.hit.new.work i

pub returns-then-has-clause-above : goal.returns-then-has-clause-above
returns-then-has-clause-above g c =
    let i : IsHit c.args.t.tag c.in_ok-called-in-ToGet.called.site c.args.work.now c.hit.new.work = c.in_ok-hit-in-ToGet.ensures.hits in
    hit_above c.args.t.tag c.in_ok-called-in-ToGet.called.site c.args.work.now c.hit.new.work i

pub returns-in_err-value-in-ToGet-2-clause-gets : goal.returns-in_err-value-in-ToGet-2-clause-gets
returns-in_err-value-in-ToGet-2-clause-gets g c =
    λ files base now s links h.
    let p = err_from_is_err_and c.from_residual-in_err-value-in-ToGet-2.result c.from_residual-in_err-value-in-ToGet-2.ensures.1 in
    let to = to_get (setting_of c.args.scene.now (g.S.Sites.formed c.args.sites.now)) c.args.t c.requires.may (head_at (heads_of c.args.scene.now.tags.now) c.args.t.tag) refl (subst (GivenBy (setting_of c.args.scene.now (g.S.Sites.formed c.args.sites.now)) c.args.t (head_at (heads_of c.args.scene.now.tags.now) c.args.t.tag)) c.in-ToGet.is (c.in_ok-value.ensures (g.S.Sites.formed c.args.sites.now))) in
    let no : is_some (lookup (nat_eq c.args.t.tag) c.args.work.now.known.calls) ≡ false = sym (known_found c.args.t.tag c.args.work.now.known.calls c.outs.result c.outs.ensures) ∙ sym c.is_some.ensures ∙ c.if-is_some.false in
    let i : IsHit c.args.t.tag c.in_ok-called-in-ToGet.called.site c.args.work.now c.hit.new.work = c.in_ok-hit-in-ToGet.ensures.hits in
    let got = hit_gets (setting_of c.args.scene.now (g.S.Sites.formed c.args.sites.now)) files base c.args.t to c.args.work.now now s h no c.in_ok-called-in-ToGet.called c.in_ok-called-in-ToGet.ensures c.hit.new.work i in
    rw p.1 (went_fails (setting_of c.args.scene.now (g.S.Sites.formed c.args.sites.now)) files base c.hit.new.work now Memory (get (frame_of (setting_of c.args.scene.now (g.S.Sites.formed c.args.sites.now)) files c.args.work.now.cache.budget) (value_term (heads_of c.args.scene.now.tags.now) c.args.t) s) got.0 tt)

pub returns-then-has-clause-gets : goal.returns-then-has-clause-gets
returns-then-has-clause-gets g c =
    λ files base now s links h.
    let to = to_get (setting_of c.args.scene.now (g.S.Sites.formed c.args.sites.now)) c.args.t c.requires.may (head_at (heads_of c.args.scene.now.tags.now) c.args.t.tag) refl (subst (GivenBy (setting_of c.args.scene.now (g.S.Sites.formed c.args.sites.now)) c.args.t (head_at (heads_of c.args.scene.now.tags.now) c.args.t.tag)) c.in-ToGet.is (c.in_ok-value.ensures (g.S.Sites.formed c.args.sites.now))) in
    let no : is_some (lookup (nat_eq c.args.t.tag) c.args.work.now.known.calls) ≡ false = sym (known_found c.args.t.tag c.args.work.now.known.calls c.outs.result c.outs.ensures) ∙ sym c.is_some.ensures ∙ c.if-is_some.false in
    let i : IsHit c.args.t.tag c.in_ok-called-in-ToGet.called.site c.args.work.now c.hit.new.work = c.in_ok-hit-in-ToGet.ensures.hits in
    let got = hit_gets (setting_of c.args.scene.now (g.S.Sites.formed c.args.sites.now)) files base c.args.t to c.args.work.now now s h no c.in_ok-called-in-ToGet.called c.in_ok-called-in-ToGet.ensures c.hit.new.work i in
    (got.0, known_value (setting_of c.args.scene.now (g.S.Sites.formed c.args.sites.now)) files c.args.t to c.hit.new.work.known.calls (went_sound (setting_of c.args.scene.now (g.S.Sites.formed c.args.sites.now)) files base (get (frame_of (setting_of c.args.scene.now (g.S.Sites.formed c.args.sites.now)) files c.args.work.now.cache.budget) (value_term (heads_of c.args.scene.now.tags.now) c.args.t) s) c.hit.new.work now got.0).known got.1 c.in_ok-value-in-ToGet-2.value c.in_ok-value-in-ToGet-2.ensures)

pub returns-in-Ready-clause-gets : goal.returns-in-Ready-clause-gets
returns-in-Ready-clause-gets g c =
    λ files base now s links h.
    ready_value (setting_of c.args.scene.now (g.S.Sites.formed c.args.sites.now)) files base c.args.t c.requires.may links c.in-Ready.value (head_at (heads_of c.args.scene.now.tags.now) c.args.t.tag) refl (subst (GivenBy (setting_of c.args.scene.now (g.S.Sites.formed c.args.sites.now)) c.args.t (head_at (heads_of c.args.scene.now.tags.now) c.args.t.tag)) c.in-Ready.is (c.in_ok-value.ensures (g.S.Sites.formed c.args.sites.now))) c.args.work.now now s h c.args.work.now.cache.budget

pub returns-else-has-clause-none : goal.returns-else-has-clause-none
returns-else-has-clause-none g c =
    λ is_none.
    let no : is_some (lookup (nat_eq c.args.t.tag) c.args.work.now.known.calls) ≡ false = sym (known_found c.args.t.tag c.args.work.now.known.calls c.outs.result c.outs.ensures) ∙ sym c.is_some.ensures ∙ c.if-is_some.false in
    let none : is_some (kept.find c.args.t.tag c.args.work.now.cache.entries) ≡ false = sym c.has.ensures ∙ c.if-has.false in
    (is_away c.args.work.now c.args.t.tag no none, to_get (setting_of c.args.scene.now (g.S.Sites.formed c.args.sites.now)) c.args.t c.requires.may (head_at (heads_of c.args.scene.now.tags.now) c.args.t.tag) refl (subst (GivenBy (setting_of c.args.scene.now (g.S.Sites.formed c.args.sites.now)) c.args.t (head_at (heads_of c.args.scene.now.tags.now) c.args.t.tag)) c.in-ToGet.is (c.in_ok-value.ensures (g.S.Sites.formed c.args.sites.now))))

pub returns-else-has-clause-gets : goal.returns-else-has-clause-gets
returns-else-has-clause-gets g c =
    λ files base now s links h.
    let to = to_get (setting_of c.args.scene.now (g.S.Sites.formed c.args.sites.now)) c.args.t c.requires.may (head_at (heads_of c.args.scene.now.tags.now) c.args.t.tag) refl (subst (GivenBy (setting_of c.args.scene.now (g.S.Sites.formed c.args.sites.now)) c.args.t (head_at (heads_of c.args.scene.now.tags.now) c.args.t.tag)) c.in-ToGet.is (c.in_ok-value.ensures (g.S.Sites.formed c.args.sites.now))) in
    let no : is_some (lookup (nat_eq c.args.t.tag) c.args.work.now.known.calls) ≡ false = sym (known_found c.args.t.tag c.args.work.now.known.calls c.outs.result c.outs.ensures) ∙ sym c.is_some.ensures ∙ c.if-is_some.false in
    let none : is_some (kept.find c.args.t.tag c.args.work.now.cache.entries) ≡ false = sym c.has.ensures ∙ c.if-has.false in
    run_left (setting_of c.args.scene.now (g.S.Sites.formed c.args.sites.now)) files base c.args.t to c.args.work.now now s h no none
