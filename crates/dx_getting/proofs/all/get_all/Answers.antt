use Rattle.std.proofs.Common.{◌≡◌, ◌∙◌, ◌<◌, ◌≤◌, ◌+◌, ℕ, zero, suc, List, [], ◌∷◌, ◌++◌, length, length-append, take, drop, get_or, sym, ap, ap₂, subst, Option, Some, None, refl, arith, true, false}
use Rattle.std.specs.Prelude.{slice_get, Ok}
use Rattle.std.proofs.lemmas.List.{take_all}
use Rattle.std.proofs.lemmas.Option.{slice_get-get_or}
use Rattle.std.proofs.lemmas.Result.{err_from_is_err_and}
use Rattle.dx_objects.specs.Values.{value_of}
use Rattle.dx_tags.specs.declared.term.ValueTag.{ValueTag}
use Rattle.dx_tags.specs.Closed.{Head, heads_of, head_at, value_term, value_terms}
use Rattle.dx_tags.specs.Whole.{is_file, HaveNoFile}
use Rattle.dx_links.specs.Denotes.{all_denote}
use Rattle.dx_machine.specs.Machine.{State, Went, and_then, state_at, get, get_all}
use Rattle.dx_machine.proofs.Grows.{all_grow}
use Rattle.dx_getting.specs.declared.fail.GetFail.TheVariants.{Memory}
use Rattle.dx_getting.specs.Told.{told}
use Rattle.dx_getting.specs.Stands.{setting_of, frame_of, around_of, world, WentTo, FailsAt, IsCut}
use Rattle.dx_getting.proofs.Getting.{get_split, get_more, went_state, went_then, went_cut, fails_on, denote_more}
use Rattle.dx_getting.proofs.NextLaws.{no_file_at}
use Rattle.dx_getting.proofs.all.get_all.Goals as goal

front_plain : (hs : List Head) (xs : List ValueTag) (i : ℕ) → HaveNoFile hs xs → HaveNoFile hs (take i xs)
front_plain hs xs zero h = none xs
  where
    none : (xs : List ValueTag) → HaveNoFile hs (take 0 xs)
    none [] = tt
    none (x ∷ xs) = tt
front_plain hs [] (suc i) h = tt
front_plain hs (x ∷ xs) (suc i) h = (h.0, front_plain hs xs i h.1)

add-one : (i : ℕ) → i + 1 ≡ suc i
add-one i = omega arith

pub get_value-requires : goal.get_value-requires
get_value-requires g c =
    let at : slice_get c.args.args.now c.loop-arg.arg-index ≡ Some (get_or c.args.args.now c.loop-arg.arg-index (record { tag = 0; result = 0 })) = slice_get-get_or c.args.args.now c.loop-arg.arg-index (record { tag = 0; result = 0 }) c.loop-arg-test.true in
    record { may = c.requires.may c.loop-arg.arg-index (get_or c.args.args.now c.loop-arg.arg-index (record { tag = 0; result = 0 })) at }

pub returns-in_err-values-clause-gets : goal.returns-in_err-values-clause-gets
returns-in_err-values-clause-gets g c =
    λ map told_map links base s h.
    let p = err_from_is_err_and c.from_residual.result c.from_residual.ensures.1 in
    rw (p.1, p.2) (went_cut (setting_of c.args.scene.now (g.S.Sites.formed c.args.sites.now)) (world g.L.Library.answer map) base c.args.work.now (told (g.L.Library.done c.args.lib.now) (g.F.Files.asked c.args.files.now)) (Went s) (get_all (frame_of (setting_of c.args.scene.now (g.S.Sites.formed c.args.sites.now)) (world g.L.Library.answer map) c.args.work.now.cache.budget) (value_terms (heads_of c.args.scene.now.tags.now) c.args.args.now)) h (λ s2. all_grow (frame_of (setting_of c.args.scene.now (g.S.Sites.formed c.args.sites.now)) (world g.L.Library.answer map) c.args.work.now.cache.budget) (value_terms (heads_of c.args.scene.now.tags.now) c.args.args.now) s2))

pub returns-in_err-value-clause-gets : goal.returns-in_err-value-clause-gets
returns-in_err-value-clause-gets g c =
    λ map told_map links base s h.
    let p = err_from_is_err_and c.from_residual-in_err-value.result c.from_residual-in_err-value.ensures.1 in
    let at : slice_get c.args.args.now c.loop-arg.arg-index ≡ Some (get_or c.args.args.now c.loop-arg.arg-index (record { tag = 0; result = 0 })) = slice_get-get_or c.args.args.now c.loop-arg.arg-index (record { tag = 0; result = 0 }) c.loop-arg-test.true in
    let so = c.loop-arg.invariant.so_far map told_map links base s h in
    let st = went_state (setting_of c.args.scene.now (g.S.Sites.formed c.args.sites.now)) (world g.L.Library.answer map) base _ c.loop-arg.work (told (g.L.Library.done c.loop-arg.lib) (g.F.Files.asked c.loop-arg.files)) so.0 in
    let whole : get_all (frame_of (setting_of c.args.scene.now (g.S.Sites.formed c.args.sites.now)) (world g.L.Library.answer map) c.args.work.now.cache.budget) (value_terms (heads_of c.args.scene.now.tags.now) c.args.args.now) s ≡ and_then (get (frame_of (setting_of c.args.scene.now (g.S.Sites.formed c.args.sites.now)) (world g.L.Library.answer map) c.args.work.now.cache.budget) (value_term (heads_of c.args.scene.now.tags.now) (get_or c.args.args.now c.loop-arg.arg-index (record { tag = 0; result = 0 }))) st.0) (get_all (frame_of (setting_of c.args.scene.now (g.S.Sites.formed c.args.sites.now)) (world g.L.Library.answer map) c.args.work.now.cache.budget) (value_terms (heads_of c.args.scene.now.tags.now) (drop (suc c.loop-arg.arg-index) c.args.args.now))) = get_split (frame_of (setting_of c.args.scene.now (g.S.Sites.formed c.args.sites.now)) (world g.L.Library.answer map) c.args.work.now.cache.budget) (heads_of c.args.scene.now.tags.now) c.args.args.now c.loop-arg.arg-index (get_or c.args.args.now c.loop-arg.arg-index (record { tag = 0; result = 0 })) at s ∙ ap (λ x. and_then x (λ s1. and_then (get (frame_of (setting_of c.args.scene.now (g.S.Sites.formed c.args.sites.now)) (world g.L.Library.answer map) c.args.work.now.cache.budget) (value_term (heads_of c.args.scene.now.tags.now) (get_or c.args.args.now c.loop-arg.arg-index (record { tag = 0; result = 0 }))) s1) (get_all (frame_of (setting_of c.args.scene.now (g.S.Sites.formed c.args.sites.now)) (world g.L.Library.answer map) c.args.work.now.cache.budget) (value_terms (heads_of c.args.scene.now.tags.now) (drop (suc c.loop-arg.arg-index) c.args.args.now))))) st.1 in
    let failed = subst (λ b. FailsAt (setting_of c.args.scene.now (g.S.Sites.formed c.args.sites.now)) (world g.L.Library.answer map) base c.in_err-value.field-0.0 (get (frame_of (setting_of c.args.scene.now (g.S.Sites.formed c.args.sites.now)) (world g.L.Library.answer map) b) (value_term (heads_of c.args.scene.now.tags.now) (get_or c.args.args.now c.loop-arg.arg-index (record { tag = 0; result = 0 }))) st.0) c.get_value.new.work (told (g.L.Library.done c.get_value.new.lib) (g.F.Files.asked c.get_value.new.files))) c.loop-arg.invariant.budget (c.in_err-value.ensures.gets map (c.loop-arg.invariant.same ∙ told_map) links base st.0 st.2) in
    rw (p.1, p.2) (subst (λ r. FailsAt (setting_of c.args.scene.now (g.S.Sites.formed c.args.sites.now)) (world g.L.Library.answer map) base c.in_err-value.field-0.0 r c.get_value.new.work (told (g.L.Library.done c.get_value.new.lib) (g.F.Files.asked c.get_value.new.files))) (sym whole) (fails_on (setting_of c.args.scene.now (g.S.Sites.formed c.args.sites.now)) (world g.L.Library.answer map) base c.get_value.new.work (told (g.L.Library.done c.get_value.new.lib) (g.F.Files.asked c.get_value.new.files)) c.in_err-value.field-0.0 _ _ failed (λ s2. all_grow (frame_of (setting_of c.args.scene.now (g.S.Sites.formed c.args.sites.now)) (world g.L.Library.answer map) c.args.work.now.cache.budget) (value_terms (heads_of c.args.scene.now.tags.now) (drop (suc c.loop-arg.arg-index) c.args.args.now)) s2)))

pub returns-in_err-push-clause-gets : goal.returns-in_err-push-clause-gets
returns-in_err-push-clause-gets g c =
    λ map told_map links base s h.
    let p = err_from_is_err_and c.from_residual-in_err-push.result c.from_residual-in_err-push.ensures.1 in
    let at : slice_get c.args.args.now c.loop-arg.arg-index ≡ Some (get_or c.args.args.now c.loop-arg.arg-index (record { tag = 0; result = 0 })) = slice_get-get_or c.args.args.now c.loop-arg.arg-index (record { tag = 0; result = 0 }) c.loop-arg-test.true in
    let so = c.loop-arg.invariant.so_far map told_map links base s h in
    let st = went_state (setting_of c.args.scene.now (g.S.Sites.formed c.args.sites.now)) (world g.L.Library.answer map) base _ c.loop-arg.work (told (g.L.Library.done c.loop-arg.lib) (g.F.Files.asked c.loop-arg.files)) so.0 in
    let whole : get_all (frame_of (setting_of c.args.scene.now (g.S.Sites.formed c.args.sites.now)) (world g.L.Library.answer map) c.args.work.now.cache.budget) (value_terms (heads_of c.args.scene.now.tags.now) c.args.args.now) s ≡ and_then (get (frame_of (setting_of c.args.scene.now (g.S.Sites.formed c.args.sites.now)) (world g.L.Library.answer map) c.args.work.now.cache.budget) (value_term (heads_of c.args.scene.now.tags.now) (get_or c.args.args.now c.loop-arg.arg-index (record { tag = 0; result = 0 }))) st.0) (get_all (frame_of (setting_of c.args.scene.now (g.S.Sites.formed c.args.sites.now)) (world g.L.Library.answer map) c.args.work.now.cache.budget) (value_terms (heads_of c.args.scene.now.tags.now) (drop (suc c.loop-arg.arg-index) c.args.args.now))) = get_split (frame_of (setting_of c.args.scene.now (g.S.Sites.formed c.args.sites.now)) (world g.L.Library.answer map) c.args.work.now.cache.budget) (heads_of c.args.scene.now.tags.now) c.args.args.now c.loop-arg.arg-index (get_or c.args.args.now c.loop-arg.arg-index (record { tag = 0; result = 0 })) at s ∙ ap (λ x. and_then x (λ s1. and_then (get (frame_of (setting_of c.args.scene.now (g.S.Sites.formed c.args.sites.now)) (world g.L.Library.answer map) c.args.work.now.cache.budget) (value_term (heads_of c.args.scene.now.tags.now) (get_or c.args.args.now c.loop-arg.arg-index (record { tag = 0; result = 0 }))) s1) (get_all (frame_of (setting_of c.args.scene.now (g.S.Sites.formed c.args.sites.now)) (world g.L.Library.answer map) c.args.work.now.cache.budget) (value_terms (heads_of c.args.scene.now.tags.now) (drop (suc c.loop-arg.arg-index) c.args.args.now))))) st.1 in
    let both = c.in_ok-value.ensures.gets map (c.loop-arg.invariant.same ∙ told_map) links base st.0 st.2 in
    let got = subst (λ b. WentTo (setting_of c.args.scene.now (g.S.Sites.formed c.args.sites.now)) (world g.L.Library.answer map) base (get (frame_of (setting_of c.args.scene.now (g.S.Sites.formed c.args.sites.now)) (world g.L.Library.answer map) b) (value_term (heads_of c.args.scene.now.tags.now) (get_or c.args.args.now c.loop-arg.arg-index (record { tag = 0; result = 0 }))) st.0) c.get_value.new.work (told (g.L.Library.done c.get_value.new.lib) (g.F.Files.asked c.get_value.new.files))) c.loop-arg.invariant.budget both.0 in
    rw (p.1, p.2) (subst (λ r. IsCut (setting_of c.args.scene.now (g.S.Sites.formed c.args.sites.now)) (world g.L.Library.answer map) c.get_value.new.work base (told (g.L.Library.done c.get_value.new.lib) (g.F.Files.asked c.get_value.new.files)) (state_at r)) (sym whole) (went_cut (setting_of c.args.scene.now (g.S.Sites.formed c.args.sites.now)) (world g.L.Library.answer map) base c.get_value.new.work (told (g.L.Library.done c.get_value.new.lib) (g.F.Files.asked c.get_value.new.files)) _ _ got (λ s2. all_grow (frame_of (setting_of c.args.scene.now (g.S.Sites.formed c.args.sites.now)) (world g.L.Library.answer map) c.args.work.now.cache.budget) (value_terms (heads_of c.args.scene.now.tags.now) (drop (suc c.loop-arg.arg-index) c.args.args.now)) s2)))

pub loop-arg-preserved : goal.loop-arg-preserved
loop-arg-preserved g c =
    let at : slice_get c.args.args.now c.loop-arg.arg-index ≡ Some (get_or c.args.args.now c.loop-arg.arg-index (record { tag = 0; result = 0 })) = slice_get-get_or c.args.args.now c.loop-arg.arg-index (record { tag = 0; result = 0 }) c.loop-arg-test.true in
    record {
      same = c.get_value.ensures.same ∙ c.loop-arg.invariant.same;
      faults = c.in_ok-value.ensures.cause.otherwise (λ e. absurd cc) ∙ c.loop-arg.invariant.faults;
      budget = c.get_value.ensures.budget ∙ c.loop-arg.invariant.budget;
      calls = λ h. c.get_value.ensures.calls (c.loop-arg.invariant.calls h);
      count = ap length c.in_ok-push.ensures.ok ∙ length-append c.loop-arg.values _ ∙ ap (λ n. n + 1) c.loop-arg.invariant.count;
      so_far = λ map told_map links base s h.
          let so = c.loop-arg.invariant.so_far map told_map links base s h in
          let st = went_state (setting_of c.args.scene.now (g.S.Sites.formed c.args.sites.now)) (world g.L.Library.answer map) base _ c.loop-arg.work (told (g.L.Library.done c.loop-arg.lib) (g.F.Files.asked c.loop-arg.files)) so.0 in
          let both = c.in_ok-value.ensures.gets map (c.loop-arg.invariant.same ∙ told_map) links base st.0 st.2 in
          let got = subst (λ b. WentTo (setting_of c.args.scene.now (g.S.Sites.formed c.args.sites.now)) (world g.L.Library.answer map) base (get (frame_of (setting_of c.args.scene.now (g.S.Sites.formed c.args.sites.now)) (world g.L.Library.answer map) b) (value_term (heads_of c.args.scene.now.tags.now) (get_or c.args.args.now c.loop-arg.arg-index (record { tag = 0; result = 0 }))) st.0) c.get_value.new.work (told (g.L.Library.done c.get_value.new.lib) (g.F.Files.asked c.get_value.new.files))) c.loop-arg.invariant.budget both.0 in
          rw (add-one c.loop-arg.arg-index) (
            subst (λ r. WentTo (setting_of c.args.scene.now (g.S.Sites.formed c.args.sites.now)) (world g.L.Library.answer map) base r c.get_value.new.work (told (g.L.Library.done c.get_value.new.lib) (g.F.Files.asked c.get_value.new.files))) (sym (get_more (frame_of (setting_of c.args.scene.now (g.S.Sites.formed c.args.sites.now)) (world g.L.Library.answer map) c.args.work.now.cache.budget) (heads_of c.args.scene.now.tags.now) c.args.args.now c.loop-arg.arg-index (get_or c.args.args.now c.loop-arg.arg-index (record { tag = 0; result = 0 })) at s)) (went_then (setting_of c.args.scene.now (g.S.Sites.formed c.args.sites.now)) (world g.L.Library.answer map) base (get_all (frame_of (setting_of c.args.scene.now (g.S.Sites.formed c.args.sites.now)) (world g.L.Library.answer map) c.args.work.now.cache.budget) (value_terms (heads_of c.args.scene.now.tags.now) (take c.loop-arg.arg-index c.args.args.now)) s) c.get_value.new.work (told (g.L.Library.done c.get_value.new.lib) (g.F.Files.asked c.get_value.new.files)) st.0 st.1 (get (frame_of (setting_of c.args.scene.now (g.S.Sites.formed c.args.sites.now)) (world g.L.Library.answer map) c.args.work.now.cache.budget) (value_term (heads_of c.args.scene.now.tags.now) (get_or c.args.args.now c.loop-arg.arg-index (record { tag = 0; result = 0 })))) got),
            denote_more (around_of (setting_of c.args.scene.now (g.S.Sites.formed c.args.sites.now)) (world g.L.Library.answer map)) (heads_of c.args.scene.now.tags.now) c.args.args.now c.loop-arg.arg-index (get_or c.args.args.now c.loop-arg.arg-index (record { tag = 0; result = 0 })) c.loop-arg.values _ at (front_plain (heads_of c.args.scene.now.tags.now) c.args.args.now c.loop-arg.arg-index c.requires.plain) (no_file_at (heads_of c.args.scene.now.tags.now) c.args.args.now c.loop-arg.arg-index (get_or c.args.args.now c.loop-arg.arg-index (record { tag = 0; result = 0 })) c.requires.plain at) so.1 both.1 ∙ ap Ok (sym c.in_ok-push.ensures.ok),
          );
    }

pub returns-clause-gets : goal.returns-clause-gets
returns-clause-gets g c =
    λ map told_map links base s h.
    let so = c.loop-arg.invariant.so_far map told_map links base s h in
    let past : length c.args.args.now ≤ c.loop-arg.arg-index = (let b = c.loop-arg-test.false in omega (arith, b)) in
    let all = take_all c.loop-arg.arg-index c.args.args.now past in
    (subst (λ xs. WentTo (setting_of c.args.scene.now (g.S.Sites.formed c.args.sites.now)) (world g.L.Library.answer map) base (get_all (frame_of (setting_of c.args.scene.now (g.S.Sites.formed c.args.sites.now)) (world g.L.Library.answer map) c.args.work.now.cache.budget) (value_terms (heads_of c.args.scene.now.tags.now) xs) s) c.loop-arg.work (told (g.L.Library.done c.loop-arg.lib) (g.F.Files.asked c.loop-arg.files))) all so.0, ap (λ xs. all_denote (around_of (setting_of c.args.scene.now (g.S.Sites.formed c.args.sites.now)) (world g.L.Library.answer map)) (value_terms (heads_of c.args.scene.now.tags.now) xs)) (sym all) ∙ so.1)

pub returns-clause-count : goal.returns-clause-count
returns-clause-count g c =
    let past = c.loop-arg-test.false in
    let end = c.loop-arg.auto.arg-index-end in
    let count = c.loop-arg.invariant.count in
    omega (arith, past, end, count)
