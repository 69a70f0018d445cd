use Rattle.std.proofs.Common.{refl, ◌≡◌, ◌<◌, ◌∙◌, sym, ap, subst, length}
use Rattle.std.specs.Prelude.{Ok}
use Rattle.std.specs.Map.{lookup}
use Rattle.std.specs.Result.{IsErr}
use Rattle.dx_demand.specs.declared.seen.Seen.{Seen}
use Rattle.dx_tags.specs.declared.term.ValueTag.{ValueTag}
use Rattle.dx_tags.specs.contracts.term.ValueTagPartialEq.TheImpl as tags
use Rattle.dx_tags.specs.Closed.{GoesOn, heads_of, value_term}
use Rattle.dx_meaning.specs.Scan.{Needs, Ends, scan}
use Rattle.dx_tags.proofs.Growth.{goes_on_then}
use Rattle.dx_getting.specs.Told.{told}
use Rattle.dx_demand.specs.Calling.{ResolvedValued}
use Rattle.dx_demand.specs.Memo.{answers_of, formed_of, site_of}
use Rattle.dx_demand.specs.Found.{Kept, ResolvedFound}
use Rattle.dx_demand.specs.Forming.{formings}
use Rattle.dx_demand.specs.Steps.{ResolvedFits, shown_resolved}
use Rattle.dx_meaning.specs.Forming.{forms, after}
use Rattle.dx_looking.specs.Setting.{nodes_in, fixed, sight_in}
use Rattle.dx_looking.specs.Looking.{TellsMore, input_tree}
use Rattle.dx_demand.specs.Halting.{HaltsAt, input_halted, selector_calls}
use Rattle.dx_looking.proofs.Counting.{open_selectors, smaller}
use Rattle.dx_looking.proofs.Resolved.{sight_stays}
use Rattle.dx_looking.proofs.Ways.{resolved_way, use_here, formed_once, ends_with_value, ends_off, ends_halted, ends_cut_by, told_on, refused_at, refused_alike, cut_alike, cut_at_by, TellsHere}
use Rattle.dx_looking.proofs.looking.look.Goals as goal

pub returns-in_err-resolved-clause-looks : goal.returns-in_err-resolved-clause-looks
returns-in_err-resolved-clause-looks g c = λ map ec k right base s f st.
    let x = fixed g.L.Library.answer map c.args.at.now.work.cache.budget in
    ends_cut_by c.args.setup.now x k base (input_tree c.args.setup.now c.args.i.now) s f c.look.at (told (g.L.Library.done c.look.lib) (g.F.Files.asked c.look.files)) (c.look.invariant.way map ec k right base s f st) c.from_residual.result c.from_residual.ensures.0 c.resolve_told.new.at

pub returns-in-Value-clause-looks : goal.returns-in-Value-clause-looks
returns-in-Value-clause-looks g c = λ map ec k right base s f st.
    let setup = c.args.setup.now in
    let at1 = c.resolve_told.new.at in
    let e = c.in_ok-resolved.ensures in
    let t = input_tree setup c.args.i.now in
    let x = fixed g.L.Library.answer map c.args.at.now.work.cache.budget in
    let now = told (g.L.Library.done c.look.lib) (g.F.Files.asked c.look.files) in
    let w = resolved_way setup x k base t s f c.look.at at1 now c.look.invariant.looking e.told e.work e.goes_on e.sight e.forms (c.look.invariant.way map ec k right base s f st) in
    ends_with_value setup x k base t s f at1 now w (subst (λ y. after (forms (sight_in setup at1) t) y ≡ y) w.stands.formings (formed_once (sight_in setup at1) t (formings (nodes_in setup) c.look.at.tags c.look.at.seen.memo) (formings (nodes_in setup) at1.tags at1.seen.memo) e.forms))
    c.in-Value.t (e.right ∙ ap (shown_resolved (nodes_in setup) at1.tags) c.in-Value.is)

pub returns-in-Off-clause-looks : goal.returns-in-Off-clause-looks
returns-in-Off-clause-looks g c = λ map ec k right base s f st.
    let setup = c.args.setup.now in
    let at1 = c.resolve_told.new.at in
    let e = c.in_ok-resolved.ensures in
    let t = input_tree setup c.args.i.now in
    let x = fixed g.L.Library.answer map c.args.at.now.work.cache.budget in
    let now = told (g.L.Library.done c.look.lib) (g.F.Files.asked c.look.files) in
    let w = resolved_way setup x k base t s f c.look.at at1 now c.look.invariant.looking e.told e.work e.goes_on e.sight e.forms (c.look.invariant.way map ec k right base s f st) in
    ends_off setup x k base t s f at1 now w (subst (λ y. after (forms (sight_in setup at1) t) y ≡ y) w.stands.formings (formed_once (sight_in setup at1) t (formings (nodes_in setup) c.look.at.tags c.look.at.seen.memo) (formings (nodes_in setup) at1.tags at1.seen.memo) e.forms))
    (e.right ∙ ap (shown_resolved (nodes_in setup) at1.tags) c.in-Off.is)

pub returns-in-Halt-clause-looks : goal.returns-in-Halt-clause-looks
returns-in-Halt-clause-looks g c = λ map ec k right base s f st.
    let setup = c.args.setup.now in
    let at1 = c.resolve_told.new.at in
    let e = c.in_ok-resolved.ensures in
    let t = input_tree setup c.args.i.now in
    let x = fixed g.L.Library.answer map c.args.at.now.work.cache.budget in
    let now = told (g.L.Library.done c.look.lib) (g.F.Files.asked c.look.files) in
    let w = resolved_way setup x k base t s f c.look.at at1 now c.look.invariant.looking e.told e.work e.goes_on e.sight e.forms (c.look.invariant.way map ec k right base s f st) in
    ends_halted setup x k base t s f at1 now w (subst (λ y. after (forms (sight_in setup at1) t) y ≡ y) w.stands.formings (formed_once (sight_in setup at1) t (formings (nodes_in setup) c.look.at.tags c.look.at.seen.memo) (formings (nodes_in setup) at1.tags at1.seen.memo) e.forms))
    c.in-Halt.n c.in-Halt.code (e.right ∙ ap (shown_resolved (nodes_in setup) at1.tags) c.in-Halt.is)

pub tell_selector-requires-clause-found : goal.tell_selector-requires-clause-found
tell_selector-requires-clause-found g c = subst (ResolvedFound c.args.setup.now.links.now.links c.resolve_told.new.at.tags (formed_of c.resolve_told.new.at.seen.memo)) c.in-Need.is c.in_ok-resolved.ensures.found

pub returns-in_err-refusal-in-Need-clause-looks : goal.returns-in_err-refusal-in-Need-clause-looks
returns-in_err-refusal-in-Need-clause-looks g c = λ map ec k right base s f st.
    let setup = c.args.setup.now in
    let at1 = c.resolve_told.new.at in
    let at2 = c.tell_selector.new.at in
    let e = c.in_ok-resolved.ensures in
    let t = input_tree setup c.args.i.now in
    let x = fixed g.L.Library.answer map c.args.at.now.work.cache.budget in
    let now = told (g.L.Library.done c.look.lib) (g.F.Files.asked c.look.files) in
    let now2 = told (g.L.Library.done c.tell_selector.new.lib) (g.F.Files.asked c.tell_selector.new.files) in
    let w = resolved_way setup x k base t s f c.look.at at1 now c.look.invariant.looking e.told e.work e.goes_on e.sight e.forms (c.look.invariant.way map ec k right base s f st) in
    let fits = subst (ResolvedFits (nodes_in setup) at1.tags (λ (u : ValueTag). lookup (tags.ghosts.eq u) at1.told) at1.seen.memo) c.in-Need.is e.fits in
    let found = subst (ResolvedFound setup.links.now.links at1.tags (formed_of at1.seen.memo)) c.in-Need.is e.found in
    let gets = use_here setup g.L.Library.answer (g.F.Files.content c.look.files) at1 now (TellsHere setup c.in-Need.t at1 c.tell_selector.result at2 now2) c.tell_selector.ensures.gets c.args.at.now.work.cache.budget (ap (λ y. y.cache.budget) e.work ∙ c.look.invariant.budget) map (c.look.invariant.same ∙ ec) k right base w.state w.formed w.stands in
    cut_at_by setup x k base t s f at1 now e.looking w c.in-Need.t fits.1 found c.in-Need.n (e.right ∙ ap (shown_resolved (nodes_in setup) at1.tags) c.in-Need.is) c.from_residual-in_err-refusal-in-Need.result c.from_residual-in_err-refusal-in-Need.ensures.0
    c.tell_selector.result (subst IsErr (sym c.in_err-refusal-in-Need.was) refl) at2 now2 gets

pub returns-in-Some-clause-looks : goal.returns-in-Some-clause-looks
returns-in-Some-clause-looks g c = λ map ec k right base s f st.
    let setup = c.args.setup.now in
    let at1 = c.resolve_told.new.at in
    let at2 = c.tell_selector.new.at in
    let e = c.in_ok-resolved.ensures in
    let t = input_tree setup c.args.i.now in
    let x = fixed g.L.Library.answer map c.args.at.now.work.cache.budget in
    let now = told (g.L.Library.done c.look.lib) (g.F.Files.asked c.look.files) in
    let now2 = told (g.L.Library.done c.tell_selector.new.lib) (g.F.Files.asked c.tell_selector.new.files) in
    let w = resolved_way setup x k base t s f c.look.at at1 now c.look.invariant.looking e.told e.work e.goes_on e.sight e.forms (c.look.invariant.way map ec k right base s f st) in
    let fits = subst (ResolvedFits (nodes_in setup) at1.tags (λ (u : ValueTag). lookup (tags.ghosts.eq u) at1.told) at1.seen.memo) c.in-Need.is e.fits in
    let found = subst (ResolvedFound setup.links.now.links at1.tags (formed_of at1.seen.memo)) c.in-Need.is e.found in
    let gets = use_here setup g.L.Library.answer (g.F.Files.content c.look.files) at1 now (TellsHere setup c.in-Need.t at1 c.tell_selector.result at2 now2) c.tell_selector.ensures.gets c.args.at.now.work.cache.budget (ap (λ y. y.cache.budget) e.work ∙ c.look.invariant.budget) map (c.look.invariant.same ∙ ec) k right base w.state w.formed w.stands in
    refused_at setup x k base t s f at1 now e.looking w c.in-Need.t fits.1 found c.in-Need.n (e.right ∙ ap (shown_resolved (nodes_in setup) at1.tags) c.in-Need.is)
    (subst (λ y. after (forms (sight_in setup at1) t) y ≡ y) w.stands.formings (formed_once (sight_in setup at1) t (formings (nodes_in setup) c.look.at.tags c.look.at.seen.memo) (formings (nodes_in setup) at1.tags at1.seen.memo) e.forms))
    c.in-Some.refusal at2 now2 c.in_ok-refusal-in-Need.ensures.tags
    (subst (λ q. TellsHere setup c.in-Need.t at1 q at2 now2 x k base w.state w.formed) (c.in_ok-refusal-in-Need.was ∙ ap Ok c.in-Some.is) gets)

pub returns-in-Value-clause-answers : goal.returns-in-Value-clause-answers
returns-in-Value-clause-answers g c = λ p a e. c.in_ok-resolved.ensures.answers p a (c.look.invariant.answers p a e)

pub returns-in-Off-clause-answers : goal.returns-in-Off-clause-answers
returns-in-Off-clause-answers g c = λ p a e. c.in_ok-resolved.ensures.answers p a (c.look.invariant.answers p a e)

pub returns-in-Halt-clause-answers : goal.returns-in-Halt-clause-answers
returns-in-Halt-clause-answers g c = λ p a e. c.in_ok-resolved.ensures.answers p a (c.look.invariant.answers p a e)

pub returns-in-Value-clause-valued : goal.returns-in-Value-clause-valued
returns-in-Value-clause-valued g c = subst (ResolvedValued (answers_of c.resolve_told.new.at.seen.memo) c.args.i.now) c.in-Value.is c.in_ok-resolved.ensures.valued

pub returns-in-Some-clause-answers : goal.returns-in-Some-clause-answers
returns-in-Some-clause-answers g c = λ p a e. ap (λ (y : Seen). answers_of y.memo p) c.in_ok-refusal-in-Need.ensures.seen ∙ c.in_ok-resolved.ensures.answers p a (c.look.invariant.answers p a e)

pub returns-in-Value-clause-sees : goal.returns-in-Value-clause-sees
returns-in-Value-clause-sees g c = c.in_ok-resolved.ensures.right ∙ ap (shown_resolved (nodes_in c.args.setup.now) c.resolve_told.new.at.tags) c.in-Value.is

pub returns-in-Off-clause-sees : goal.returns-in-Off-clause-sees
returns-in-Off-clause-sees g c = c.in_ok-resolved.ensures.right ∙ ap (shown_resolved (nodes_in c.args.setup.now) c.resolve_told.new.at.tags) c.in-Off.is

pub returns-in-Halt-clause-sees : goal.returns-in-Halt-clause-sees
returns-in-Halt-clause-sees g c = c.in_ok-resolved.ensures.right ∙ ap (shown_resolved (nodes_in c.args.setup.now) c.resolve_told.new.at.tags) c.in-Halt.is

pub returns-in-Some-clause-sees : goal.returns-in-Some-clause-sees
returns-in-Some-clause-sees g c =
    let setup = c.args.setup.now in
    let at1 = c.resolve_told.new.at in
    let at2 = c.tell_selector.new.at in
    let same = sight_stays setup at1 at2 c.in_ok-refusal-in-Need.ensures.tags (subst (λ o. TellsMore c.in-Need.t at1.told o at2.told) c.in-Some.is c.in_ok-refusal-in-Need.ensures.tells) in
    let term = value_term (heads_of at1.tags) c.in-Need.t in
    (term, subst (λ s. scan s (input_tree setup c.args.i.now) ≡ Ends (Needs (site_of (nodes_in setup) c.in-Need.n) term)) (sym same) (c.in_ok-resolved.ensures.right ∙ ap (shown_resolved (nodes_in setup) at1.tags) c.in-Need.is))

pub returns-in-Some-clause-halted : goal.returns-in-Some-clause-halted
returns-in-Some-clause-halted g c =
    let setup = c.args.setup.now in
    let at1 = c.resolve_told.new.at in
    let at2 = c.tell_selector.new.at in
    let same = sight_stays setup at1 at2 c.in_ok-refusal-in-Need.ensures.tags (subst (λ o. TellsMore c.in-Need.t at1.told o at2.told) c.in-Some.is c.in_ok-refusal-in-Need.ensures.tells) in
    subst (λ s. input_halted s (nodes_in setup) c.args.i.now ≡ selector_calls s (nodes_in setup) c.in-Need.n) (sym same)
    (subst (HaltsAt (sight_in setup at1) (nodes_in setup) c.args.i.now) c.in-Need.is c.in_ok-resolved.ensures.halted)

pub returns-in-Value-clause-first : goal.returns-in-Value-clause-first
returns-in-Value-clause-first g c = λ t n e. c.in_ok-resolved.ensures.first t n (c.look.invariant.first t n e)

pub returns-in-Off-clause-first : goal.returns-in-Off-clause-first
returns-in-Off-clause-first g c = λ t n e. c.in_ok-resolved.ensures.first t n (c.look.invariant.first t n e)

pub returns-in-Halt-clause-first : goal.returns-in-Halt-clause-first
returns-in-Halt-clause-first g c = λ t n e. c.in_ok-resolved.ensures.first t n (c.look.invariant.first t n e)

pub returns-in-Some-clause-first : goal.returns-in-Some-clause-first
returns-in-Some-clause-first g c = subst (λ (y : Seen). Kept (formed_of c.args.at.now.seen.memo) (formed_of y.memo)) (sym c.in_ok-refusal-in-Need.ensures.seen) (λ t n e. c.in_ok-resolved.ensures.first t n (c.look.invariant.first t n e))

pub look-smaller : goal.look-smaller
look-smaller g c =
    let at1 = c.resolve_told.new.at in
    let at2 = c.tell_selector.new.at in
    let e = c.in_ok-resolved.ensures in
    let fits = subst (ResolvedFits (nodes_in c.args.setup.now) at1.tags (λ (u : ValueTag). lookup (tags.ghosts.eq u) at1.told) at1.seen.memo) c.in-Need.is e.fits in
    let more = subst (λ o. TellsMore c.in-Need.t at1.told o at2.told) c.in_default.is c.in_ok-refusal-in-Need.ensures.tells in
    subst (λ (y : Seen). open_selectors y.memo at2.told (length (nodes_in c.args.setup.now)) < open_selectors c.look.at.seen.memo c.look.at.told (length (nodes_in c.args.setup.now))) (sym c.in_ok-refusal-in-Need.ensures.seen)
    (smaller c.look.at.seen.memo at1.seen.memo c.look.at.told at1.told at2.told c.in-Need.t more.0 e.kept e.told more.1 c.in-Need.n fits.3 fits.2 (length (nodes_in c.args.setup.now)) fits.0)

pub look-preserved : goal.look-preserved
look-preserved g c = record {
  looking = c.in_ok-refusal-in-Need.ensures.looking;
  goes_on = subst (GoesOn c.args.at.now.tags) (sym c.in_ok-refusal-in-Need.ensures.tags) (goes_on_then c.args.at.now.tags c.look.at.tags c.resolve_told.new.at.tags c.look.invariant.goes_on c.in_ok-resolved.ensures.goes_on);
  answers = λ p a e. ap (λ (y : Seen). answers_of y.memo p) c.in_ok-refusal-in-Need.ensures.seen ∙ c.in_ok-resolved.ensures.answers p a (c.look.invariant.answers p a e);
  first = subst (λ (y : Seen). Kept (formed_of c.args.at.now.seen.memo) (formed_of y.memo)) (sym c.in_ok-refusal-in-Need.ensures.seen) (λ t n e. c.in_ok-resolved.ensures.first t n (c.look.invariant.first t n e));
  budget = c.in_ok-refusal-in-Need.ensures.budget ∙ ap (λ y. y.cache.budget) c.in_ok-resolved.ensures.work ∙ c.look.invariant.budget;
  same = c.in_ok-refusal-in-Need.ensures.same ∙ c.look.invariant.same;
  faults = c.in_ok-refusal-in-Need.ensures.cause.otherwise (λ e. absurd cc) ∙ c.look.invariant.faults;
  way = λ map ec k right base s f st.
      let setup = c.args.setup.now in
      let at1 = c.resolve_told.new.at in
      let at2 = c.tell_selector.new.at in
      let e = c.in_ok-resolved.ensures in
      let t = input_tree setup c.args.i.now in
      let x = fixed g.L.Library.answer map c.args.at.now.work.cache.budget in
      let now = told (g.L.Library.done c.look.lib) (g.F.Files.asked c.look.files) in
      let now2 = told (g.L.Library.done c.tell_selector.new.lib) (g.F.Files.asked c.tell_selector.new.files) in
      let w = resolved_way setup x k base t s f c.look.at at1 now c.look.invariant.looking e.told e.work e.goes_on e.sight e.forms (c.look.invariant.way map ec k right base s f st) in
      let fits = subst (ResolvedFits (nodes_in setup) at1.tags (λ (u : ValueTag). lookup (tags.ghosts.eq u) at1.told) at1.seen.memo) c.in-Need.is e.fits in
      let found = subst (ResolvedFound setup.links.now.links at1.tags (formed_of at1.seen.memo)) c.in-Need.is e.found in
      let gets = use_here setup g.L.Library.answer (g.F.Files.content c.look.files) at1 now (TellsHere setup c.in-Need.t at1 c.tell_selector.result at2 now2) c.tell_selector.ensures.gets c.args.at.now.work.cache.budget (ap (λ y. y.cache.budget) e.work ∙ c.look.invariant.budget) map (c.look.invariant.same ∙ ec) k right base w.state w.formed w.stands in
      told_on setup x k base t s f at1 now e.looking w c.in-Need.t fits.1 found c.in-Need.n (e.right ∙ ap (shown_resolved (nodes_in setup) at1.tags) c.in-Need.is) at2 now2
      (subst (λ q. TellsHere setup c.in-Need.t at1 q at2 now2 x k base w.state w.formed) (c.in_ok-refusal-in-Need.was ∙ ap Ok c.in_default.is) gets);
}

pub returns-in-Some-clause-alike : goal.returns-in-Some-clause-alike
returns-in-Some-clause-alike g c = λ map ec k right base s f st.
    let setup = c.args.setup.now in
    let at1 = c.resolve_told.new.at in
    let at2 = c.tell_selector.new.at in
    let e = c.in_ok-resolved.ensures in
    let t = input_tree setup c.args.i.now in
    let x = fixed g.L.Library.answer map c.args.at.now.work.cache.budget in
    let now = told (g.L.Library.done c.look.lib) (g.F.Files.asked c.look.files) in
    let now2 = told (g.L.Library.done c.tell_selector.new.lib) (g.F.Files.asked c.tell_selector.new.files) in
    let w = resolved_way setup x k base t s f c.look.at at1 now c.look.invariant.looking e.told e.work e.goes_on e.sight e.forms (c.look.invariant.way map ec k right base s f st) in
    let fits = subst (ResolvedFits (nodes_in setup) at1.tags (λ (u : ValueTag). lookup (tags.ghosts.eq u) at1.told) at1.seen.memo) c.in-Need.is e.fits in
    let found = subst (ResolvedFound setup.links.now.links at1.tags (formed_of at1.seen.memo)) c.in-Need.is e.found in
    let gets = use_here setup g.L.Library.answer (g.F.Files.content c.look.files) at1 now (TellsHere setup c.in-Need.t at1 c.tell_selector.result at2 now2) c.tell_selector.ensures.gets c.args.at.now.work.cache.budget (ap (λ y. y.cache.budget) e.work ∙ c.look.invariant.budget) map (c.look.invariant.same ∙ ec) k right base w.state w.formed w.stands in
    let same = sight_stays setup at1 at2 c.in_ok-refusal-in-Need.ensures.tags (subst (λ o. TellsMore c.in-Need.t at1.told o at2.told) c.in-Some.is c.in_ok-refusal-in-Need.ensures.tells) in
    refused_alike setup x k base t s f at1 now e.looking w c.in-Need.t fits.1 found c.in-Need.n (e.right ∙ ap (shown_resolved (nodes_in setup) at1.tags) c.in-Need.is)
    c.in-Some.refusal at2 now2 c.in_ok-refusal-in-Need.ensures.tags same
    (subst (λ q. TellsHere setup c.in-Need.t at1 q at2 now2 x k base w.state w.formed) (c.in_ok-refusal-in-Need.was ∙ ap Ok c.in-Some.is) gets)

pub returns-in-Value-clause-alike : goal.returns-in-Value-clause-alike
returns-in-Value-clause-alike g c = λ map ec k right base s f st. tt

pub returns-in-Off-clause-alike : goal.returns-in-Off-clause-alike
returns-in-Off-clause-alike g c = λ map ec k right base s f st. tt

pub returns-in-Halt-clause-alike : goal.returns-in-Halt-clause-alike
returns-in-Halt-clause-alike g c = λ map ec k right base s f st. tt

pub returns-in_err-resolved-clause-alike : goal.returns-in_err-resolved-clause-alike
returns-in_err-resolved-clause-alike g c = λ map ec k right base s f st.
    cut_alike c.args.setup.now (fixed g.L.Library.answer map c.args.at.now.work.cache.budget) k (input_tree c.args.setup.now c.args.i.now) c.from_residual.result c.from_residual.ensures.0 c.resolve_told.new.at

pub returns-in_err-refusal-in-Need-clause-alike : goal.returns-in_err-refusal-in-Need-clause-alike
returns-in_err-refusal-in-Need-clause-alike g c = λ map ec k right base s f st.
    cut_alike c.args.setup.now (fixed g.L.Library.answer map c.args.at.now.work.cache.budget) k (input_tree c.args.setup.now c.args.i.now) c.from_residual-in_err-refusal-in-Need.result c.from_residual-in_err-refusal-in-Need.ensures.0 c.tell_selector.new.at

pub returns-in_err-resolved-clause-goes_on : goal.returns-in_err-resolved-clause-goes_on
returns-in_err-resolved-clause-goes_on g c = goes_on_then c.args.at.now.tags c.look.at.tags c.resolve_told.new.at.tags c.look.invariant.goes_on c.resolve_told.ensures.goes_on

pub returns-in-Value-clause-goes_on : goal.returns-in-Value-clause-goes_on
returns-in-Value-clause-goes_on g c = goes_on_then c.args.at.now.tags c.look.at.tags c.resolve_told.new.at.tags c.look.invariant.goes_on c.in_ok-resolved.ensures.goes_on

pub returns-in-Off-clause-goes_on : goal.returns-in-Off-clause-goes_on
returns-in-Off-clause-goes_on g c = goes_on_then c.args.at.now.tags c.look.at.tags c.resolve_told.new.at.tags c.look.invariant.goes_on c.in_ok-resolved.ensures.goes_on

pub returns-in-Halt-clause-goes_on : goal.returns-in-Halt-clause-goes_on
returns-in-Halt-clause-goes_on g c = goes_on_then c.args.at.now.tags c.look.at.tags c.resolve_told.new.at.tags c.look.invariant.goes_on c.in_ok-resolved.ensures.goes_on

pub returns-in_err-refusal-in-Need-clause-goes_on : goal.returns-in_err-refusal-in-Need-clause-goes_on
returns-in_err-refusal-in-Need-clause-goes_on g c = subst (GoesOn c.args.at.now.tags) (sym c.tell_selector.ensures.tags) (goes_on_then c.args.at.now.tags c.look.at.tags c.resolve_told.new.at.tags c.look.invariant.goes_on c.in_ok-resolved.ensures.goes_on)

pub returns-in-Some-clause-goes_on : goal.returns-in-Some-clause-goes_on
returns-in-Some-clause-goes_on g c = subst (GoesOn c.args.at.now.tags) (sym c.in_ok-refusal-in-Need.ensures.tags) (goes_on_then c.args.at.now.tags c.look.at.tags c.resolve_told.new.at.tags c.look.invariant.goes_on c.in_ok-resolved.ensures.goes_on)
