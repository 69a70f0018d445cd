use Rattle.std.proofs.Common.{◌∙◌, ◌≤◌, ◌+◌, [], ◌∷◌, length, length-append, drop, refl, sym, ap, subst, arith}
use Rattle.std.specs.Prelude.{Ok, Err}
use Rattle.std.proofs.lemmas.Result.{err_from_is_err_and}
use Rattle.dx_io.proofs.Faults.{well}
use Rattle.dx_tags.proofs.Growth.{goes_on_same, goes_on_then}
use Rattle.dx_getting.specs.Told.{told}
use Rattle.dx_demand.specs.Terms.{AreArguments}
use Rattle.dx_meaning.specs.Scan.{Needs, scan}
use Rattle.dx_demand.specs.Memo.{answers_of, formed_of, site_of}
use Rattle.dx_demand.proofs.Calls.{none_valued}
use Rattle.dx_demand.proofs.Taken.{slot}
use Rattle.dx_demand.specs.Found.{AllFound}
use Rattle.dx_demand.proofs.Terms.{arguments_on, arguments_push, no_arguments}
use Rattle.dx_demand.proofs.Finding.{all_found_grows, all_found_push}
use Rattle.dx_looking.specs.Setting.{nodes_in, sight_in, fixed}
use Rattle.dx_looking.proofs.Arguments.{are_valued_kept, next_valued, halts_behind}
use Rattle.dx_looking.specs.Looking.{LookedFits, LookedValued, LookedHalted, NeedsAlike, ScansTo, input_tree}
use Rattle.dx_looking.specs.declared.cut.Cut.TheVariants.{Memory}
use Rattle.dx_looking.specs.declared.looked.Looked.TheVariants as one
use Rattle.dx_effects.specs.AllLooking.{input_trees}
use Rattle.dx_effects.proofs.SoFar.{SoFar, begins, done, cut_so_far, cut_next, somewhere, takes, ended_scans, off, halt, refused}
use Rattle.dx_effects.proofs.NextInput.{by_budget, look_by, next, last}
use Rattle.dx_effects.proofs.looking_all.look_all.Goals as goal

pub loop-i-init : goal.loop-i-init
loop-i-init g c = record {
  same = refl;
  faults = refl;
  budget = refl;
  looking = c.requires.looking;
  goes_on = goes_on_same c.args.at.now.tags;
  valued = none_valued (answers_of c.args.at.now.seen.memo) c.args.inputs.now;
  count = ap length c.in_ok-terms.ensures;
  arguments = subst (AreArguments c.args.at.now.tags) (sym c.in_ok-terms.ensures) (no_arguments c.args.at.now.tags);
  found = rw c.in_ok-terms.ensures tt;
  so_far = λ map told_map k links base s f st.
      subst (λ ts. SoFar c.args.setup.now (fixed g.L.Library.answer map c.args.at.now.work.cache.budget) k base (input_trees c.args.setup.now c.args.inputs.now) (input_trees c.args.setup.now c.args.inputs.now) s f ts c.args.at.now (told (g.L.Library.done c.args.lib.now) (g.F.Files.asked c.args.files.now))) (sym c.in_ok-terms.ensures)
      (begins c.args.setup.now (fixed g.L.Library.answer map c.args.at.now.work.cache.budget) k base (input_trees c.args.setup.now c.args.inputs.now) s f c.args.at.now (told (g.L.Library.done c.args.lib.now) (g.F.Files.asked c.args.files.now)) st);
}

pub returns-in_err-terms-clause-goes_on : goal.returns-in_err-terms-clause-goes_on
returns-in_err-terms-clause-goes_on g c = goes_on_same c.args.at.now.tags

pub returns-in_err-terms-clause-exact : goal.returns-in_err-terms-clause-exact
returns-in_err-terms-clause-exact g c = c.requires.looking.exact

pub returns-in_err-terms-clause-looks : goal.returns-in_err-terms-clause-looks
returns-in_err-terms-clause-looks g c =
    λ map told_map k links base s f st.
    let setup = c.args.setup.now in
    let whole = input_trees setup c.args.inputs.now in
    let now = told (g.L.Library.done c.args.lib.now) (g.F.Files.asked c.args.files.now) in
    let x = fixed g.L.Library.answer map c.args.at.now.work.cache.budget in
    let p = err_from_is_err_and c.from_residual.result c.from_residual.ensures.1 in
    rw p.1 (cut_so_far setup x k base whole whole s f [] c.args.at.now now Memory (begins setup x k base whole s f c.args.at.now now st))

pub returns-in_err-terms-clause-alike : goal.returns-in_err-terms-clause-alike
returns-in_err-terms-clause-alike g c =
    λ map told_map k links base s f st.
    let p = err_from_is_err_and c.from_residual.result c.from_residual.ensures.1 in
    rw p.1 tt

pub look-requires-clause-looking : goal.look-requires-clause-looking
look-requires-clause-looking g c = c.loop-i.invariant.looking

pub returns-in_err-t-clause-looks : goal.returns-in_err-t-clause-looks
returns-in_err-t-clause-looks g c =
    λ map told_map k links base s f st.
    let setup = c.args.setup.now in
    let inputs = c.args.inputs.now in
    let i = c.loop-i.i-index in
    let b = c.args.at.now.work.cache.budget in
    let x = fixed g.L.Library.answer map b in
    let now = told (g.L.Library.done c.loop-i.lib) (g.F.Files.asked c.loop-i.files) in
    let now' = told (g.L.Library.done c.look.new.lib) (g.F.Files.asked c.look.new.files) in
    let whole = input_trees setup inputs in
    let rest = input_trees setup (drop (i + 1) inputs) in
    let so = next setup x k base whole inputs i c.i-item.result c.i-item.is c.loop-i-test.true s f c.loop-i.terms c.loop-i.at now (c.loop-i.invariant.so_far map told_map k links base s f st) in
    let p = err_from_is_err_and c.from_residual-in_err-t.result c.from_residual-in_err-t.ensures.1 in
    rw p.1 (cut_next setup x k base whole rest (input_tree setup c.i-item.result) s f c.loop-i.terms c.loop-i.at now so c.look.new.at now' c.in_err-t.field-0.0 (λ s1 st1. look_by setup g.L.Library.answer (g.F.Files.content c.loop-i.files) c.loop-i.at now (input_tree setup c.i-item.result) (Err c.in_err-t.field-0.0) (Err c.in_err-t.field-0.0) refl c.look.new.at now' c.in_err-t.ensures.looks map (c.loop-i.invariant.same ∙ told_map) b c.loop-i.invariant.budget k links base s1 so.formings st1))

pub returns-in_err-push-in-Value-clause-looks : goal.returns-in_err-push-in-Value-clause-looks
returns-in_err-push-in-Value-clause-looks g c =
    λ map told_map k links base s f st.
    let setup = c.args.setup.now in
    let inputs = c.args.inputs.now in
    let i = c.loop-i.i-index in
    let b = c.args.at.now.work.cache.budget in
    let x = fixed g.L.Library.answer map b in
    let now = told (g.L.Library.done c.loop-i.lib) (g.F.Files.asked c.loop-i.files) in
    let now' = told (g.L.Library.done c.look.new.lib) (g.F.Files.asked c.look.new.files) in
    let whole = input_trees setup inputs in
    let rest = input_trees setup (drop (i + 1) inputs) in
    let so = next setup x k base whole inputs i c.i-item.result c.i-item.is c.loop-i-test.true s f c.loop-i.terms c.loop-i.at now (c.loop-i.invariant.so_far map told_map k links base s f st) in
    let p = err_from_is_err_and c.from_residual-in_err-push-in-Value.result c.from_residual-in_err-push-in-Value.ensures.1 in
    let taken = takes setup x k base whole rest (input_tree setup c.i-item.result) s f c.loop-i.terms c.loop-i.at now so c.look.new.at now' c.in-Value.t c.in_ok-t.ensures.goes_on c.loop-i.invariant.arguments.earlier (λ s1 st1. look_by setup g.L.Library.answer (g.F.Files.content c.loop-i.files) c.loop-i.at now (input_tree setup c.i-item.result) (Ok c.in_ok-t.field-0) (Ok (one.Value c.in-Value.t)) (ap Ok c.in-Value.is) c.look.new.at now' c.in_ok-t.ensures.looks map (c.loop-i.invariant.same ∙ told_map) b c.loop-i.invariant.budget k links base s1 so.formings st1) in
    rw p.1 (cut_so_far setup x k base whole rest s f _ c.look.new.at now' Memory taken)

pub returns-in-Off-clause-looks : goal.returns-in-Off-clause-looks
returns-in-Off-clause-looks g c =
    λ map told_map k links base s f st.
    let setup = c.args.setup.now in
    let inputs = c.args.inputs.now in
    let i = c.loop-i.i-index in
    let b = c.args.at.now.work.cache.budget in
    let x = fixed g.L.Library.answer map b in
    let now = told (g.L.Library.done c.loop-i.lib) (g.F.Files.asked c.loop-i.files) in
    let now' = told (g.L.Library.done c.look.new.lib) (g.F.Files.asked c.look.new.files) in
    let whole = input_trees setup inputs in
    let rest = input_trees setup (drop (i + 1) inputs) in
    let so = next setup x k base whole inputs i c.i-item.result c.i-item.is c.loop-i-test.true s f c.loop-i.terms c.loop-i.at now (c.loop-i.invariant.so_far map told_map k links base s f st) in
    off setup x k base whole rest (input_tree setup c.i-item.result) s f c.loop-i.terms c.loop-i.at now so c.look.new.at now' (λ s1 st1. look_by setup g.L.Library.answer (g.F.Files.content c.loop-i.files) c.loop-i.at now (input_tree setup c.i-item.result) (Ok c.in_ok-t.field-0) (Ok one.Off) (ap Ok c.in-Off.is) c.look.new.at now' c.in_ok-t.ensures.looks map (c.loop-i.invariant.same ∙ told_map) b c.loop-i.invariant.budget k links base s1 so.formings st1)

pub returns-in-Halt-clause-looks : goal.returns-in-Halt-clause-looks
returns-in-Halt-clause-looks g c =
    λ map told_map k links base s f st.
    let setup = c.args.setup.now in
    let inputs = c.args.inputs.now in
    let i = c.loop-i.i-index in
    let b = c.args.at.now.work.cache.budget in
    let x = fixed g.L.Library.answer map b in
    let now = told (g.L.Library.done c.loop-i.lib) (g.F.Files.asked c.loop-i.files) in
    let now' = told (g.L.Library.done c.look.new.lib) (g.F.Files.asked c.look.new.files) in
    let whole = input_trees setup inputs in
    let rest = input_trees setup (drop (i + 1) inputs) in
    let so = next setup x k base whole inputs i c.i-item.result c.i-item.is c.loop-i-test.true s f c.loop-i.terms c.loop-i.at now (c.loop-i.invariant.so_far map told_map k links base s f st) in
    halt setup x k base whole rest (input_tree setup c.i-item.result) s f c.loop-i.terms c.loop-i.at now so c.look.new.at now' c.in-Halt.n c.in-Halt.code (λ s1 st1. look_by setup g.L.Library.answer (g.F.Files.content c.loop-i.files) c.loop-i.at now (input_tree setup c.i-item.result) (Ok c.in_ok-t.field-0) (Ok (one.Halt c.in-Halt.n c.in-Halt.code)) (ap Ok c.in-Halt.is) c.look.new.at now' c.in_ok-t.ensures.looks map (c.loop-i.invariant.same ∙ told_map) b c.loop-i.invariant.budget k links base s1 so.formings st1)

pub returns-in-Refused-clause-looks : goal.returns-in-Refused-clause-looks
returns-in-Refused-clause-looks g c =
    λ map told_map k links base s f st.
    let setup = c.args.setup.now in
    let inputs = c.args.inputs.now in
    let i = c.loop-i.i-index in
    let b = c.args.at.now.work.cache.budget in
    let x = fixed g.L.Library.answer map b in
    let now = told (g.L.Library.done c.loop-i.lib) (g.F.Files.asked c.loop-i.files) in
    let now' = told (g.L.Library.done c.look.new.lib) (g.F.Files.asked c.look.new.files) in
    let whole = input_trees setup inputs in
    let rest = input_trees setup (drop (i + 1) inputs) in
    let so = next setup x k base whole inputs i c.i-item.result c.i-item.is c.loop-i-test.true s f c.loop-i.terms c.loop-i.at now (c.loop-i.invariant.so_far map told_map k links base s f st) in
    refused setup x k base whole rest (input_tree setup c.i-item.result) s f c.loop-i.terms c.loop-i.at now so c.look.new.at now' c.in-Refused.n c.in-Refused.refusal (λ s1 st1. look_by setup g.L.Library.answer (g.F.Files.content c.loop-i.files) c.loop-i.at now (input_tree setup c.i-item.result) (Ok c.in_ok-t.field-0) (Ok (one.Refused c.in-Refused.n c.in-Refused.refusal)) (ap Ok c.in-Refused.is) c.look.new.at now' c.in_ok-t.ensures.looks map (c.loop-i.invariant.same ∙ told_map) b c.loop-i.invariant.budget k links base s1 so.formings st1)

pub loop-i-preserved : goal.loop-i-preserved
loop-i-preserved g c =
    let on = c.in_ok-t.ensures.goes_on in
    let fits = subst (LookedFits c.args.setup.now c.look.new.at) c.in-Value.is c.in_ok-t.ensures.fits in
    record {
      same = c.look.ensures.same ∙ c.loop-i.invariant.same;
      faults = well c.in_ok-t.ensures.cause ∙ c.loop-i.invariant.faults;
      budget = c.look.ensures.budget ∙ c.loop-i.invariant.budget;
      looking = c.in_ok-t.ensures.looking;
      goes_on = goes_on_then c.args.at.now.tags c.loop-i.at.tags c.look.new.at.tags c.loop-i.invariant.goes_on on;
      valued =
          let inputs = c.args.inputs.now in
          let i = c.loop-i.i-index in
          let x = c.i-item.result in
          next_valued (answers_of c.loop-i.at.seen.memo) (answers_of c.look.new.at.seen.memo) c.in_ok-t.ensures.answers inputs i x c.loop-i.invariant.valued
          (slot inputs inputs i i x refl refl c.loop-i-test.true c.i-item.is) (subst (LookedValued (answers_of c.look.new.at.seen.memo) x) c.in-Value.is c.in_ok-t.ensures.valued);
      count = ap length c.in_ok-push-in-Value.ensures.ok ∙ length-append c.loop-i.terms (c.in-Value.t ∷ []) ∙ ap (λ n. n + 1) c.loop-i.invariant.count;
      arguments = subst (AreArguments c.look.new.at.tags) (sym c.in_ok-push-in-Value.ensures.ok) (arguments_push c.look.new.at.tags c.loop-i.terms c.in-Value.t (arguments_on c.loop-i.at.tags c.look.new.at.tags on c.loop-i.terms c.loop-i.invariant.arguments) fits.0);
      found = subst (AllFound c.args.setup.now.links.now.links c.look.new.at.tags (formed_of c.look.new.at.seen.memo)) (sym c.in_ok-push-in-Value.ensures.ok) (all_found_push c.args.setup.now.links.now.links c.look.new.at.tags (formed_of c.look.new.at.seen.memo) c.loop-i.terms c.in-Value.t
          (all_found_grows c.loop-i.at.tags c.look.new.at.tags on c.args.setup.now.links.now.links (formed_of c.loop-i.at.seen.memo) (formed_of c.look.new.at.seen.memo) c.in_ok-t.ensures.first c.loop-i.terms c.loop-i.invariant.arguments.earlier c.loop-i.invariant.found)
          fits.1);
      so_far =
          λ map told_map k links base s f st.
          let setup = c.args.setup.now in
          let inputs = c.args.inputs.now in
          let i = c.loop-i.i-index in
          let b = c.args.at.now.work.cache.budget in
          let x = fixed g.L.Library.answer map b in
          let now = told (g.L.Library.done c.loop-i.lib) (g.F.Files.asked c.loop-i.files) in
          let now' = told (g.L.Library.done c.look.new.lib) (g.F.Files.asked c.look.new.files) in
          let whole = input_trees setup inputs in
          let rest = input_trees setup (drop (i + 1) inputs) in
          let so = next setup x k base whole inputs i c.i-item.result c.i-item.is c.loop-i-test.true s f c.loop-i.terms c.loop-i.at now (c.loop-i.invariant.so_far map told_map k links base s f st) in
          subst (λ ts. SoFar setup x k base whole rest s f ts c.look.new.at now') (sym c.in_ok-push-in-Value.ensures.ok)
          (takes setup x k base whole rest (input_tree setup c.i-item.result) s f c.loop-i.terms c.loop-i.at now so c.look.new.at now' c.in-Value.t on c.loop-i.invariant.arguments.earlier (λ s1 st1. look_by setup g.L.Library.answer (g.F.Files.content c.loop-i.files) c.loop-i.at now (input_tree setup c.i-item.result) (Ok c.in_ok-t.field-0) (Ok (one.Value c.in-Value.t)) (ap Ok c.in-Value.is) c.look.new.at now' c.in_ok-t.ensures.looks map (c.loop-i.invariant.same ∙ told_map) b c.loop-i.invariant.budget k links base s1 so.formings st1));
    }

pub returns-clause-fits : goal.returns-clause-fits
returns-clause-fits g c =
    let past = c.loop-i-test.false in
    let end = c.loop-i.auto.i-index-end in
    let count = c.loop-i.invariant.count in
    (omega (arith, past, end, count), c.loop-i.invariant.arguments, c.loop-i.invariant.found)

pub returns-clause-looks : goal.returns-clause-looks
returns-clause-looks g c =
    λ map told_map k links base s f st.
    let past : length c.args.inputs.now ≤ c.loop-i.i-index = (let b = c.loop-i-test.false in omega (arith, b)) in
    let now = told (g.L.Library.done c.loop-i.lib) (g.F.Files.asked c.loop-i.files) in
    let x = fixed g.L.Library.answer map c.args.at.now.work.cache.budget in
    let whole = input_trees c.args.setup.now c.args.inputs.now in
    done c.args.setup.now x k base whole s f c.loop-i.terms c.loop-i.at now
    (last c.args.setup.now x k base whole c.args.inputs.now c.loop-i.i-index past s f c.loop-i.terms c.loop-i.at now (c.loop-i.invariant.so_far map told_map k links base s f st))

pub returns-in-Refused-clause-halted : goal.returns-in-Refused-clause-halted
returns-in-Refused-clause-halted g c =
    let setup = c.args.setup.now in
    let nodes = nodes_in setup in
    let inputs = c.args.inputs.now in
    let i = c.loop-i.i-index in
    let x = c.i-item.result in
    let at1 = c.look.new.at in
    let s = sight_in setup at1 in
    let sees = subst (λ how. ScansTo nodes at1.tags how (scan s (input_tree setup x))) c.in-Refused.is c.in_ok-t.ensures.sees in
    let kept = are_valued_kept (answers_of c.loop-i.at.seen.memo) (answers_of at1.seen.memo) c.in_ok-t.ensures.answers inputs i c.loop-i.invariant.valued in
    let stops = halts_behind s nodes at1.tags at1.seen.memo c.in_ok-t.ensures.looking.right.memo inputs i kept x (Needs (site_of nodes c.in-Refused.n) sees.0) (slot inputs inputs i i x refl refl c.loop-i-test.true c.i-item.is) sees.1 in
    ((sees.0, stops.0), stops.1 ∙ subst (LookedHalted s nodes x) c.in-Refused.is c.in_ok-t.ensures.halted)

pub returns-clause-valued : goal.returns-clause-valued
returns-clause-valued g c = λ k y lt at. c.loop-i.invariant.valued k y (let b = c.loop-i-test.false in omega (arith, b, lt)) at

pub returns-in-Off-clause-alike : goal.returns-in-Off-clause-alike
returns-in-Off-clause-alike g c = λ map told_map k links base s f st. tt

pub returns-in-Halt-clause-alike : goal.returns-in-Halt-clause-alike
returns-in-Halt-clause-alike g c = λ map told_map k links base s f st. tt

pub returns-clause-alike : goal.returns-clause-alike
returns-clause-alike g c = λ map told_map k links base s f st. tt

pub returns-in_err-t-clause-alike : goal.returns-in_err-t-clause-alike
returns-in_err-t-clause-alike g c =
    λ map told_map k links base s f st.
    let p = err_from_is_err_and c.from_residual-in_err-t.result c.from_residual-in_err-t.ensures.1 in
    rw p.1 tt

pub returns-in_err-push-in-Value-clause-alike : goal.returns-in_err-push-in-Value-clause-alike
returns-in_err-push-in-Value-clause-alike g c =
    λ map told_map k links base s f st.
    let p = err_from_is_err_and c.from_residual-in_err-push-in-Value.result c.from_residual-in_err-push-in-Value.ensures.1 in
    rw p.1 tt

pub returns-in-Refused-clause-alike : goal.returns-in-Refused-clause-alike
returns-in-Refused-clause-alike g c =
    λ map told_map k links base s f st.
    let setup = c.args.setup.now in
    let inputs = c.args.inputs.now in
    let i = c.loop-i.i-index in
    let b = c.args.at.now.work.cache.budget in
    let x = fixed g.L.Library.answer map b in
    let at1 = c.loop-i.at in
    let at2 = c.look.new.at in
    let now = told (g.L.Library.done c.loop-i.lib) (g.F.Files.asked c.loop-i.files) in
    let now' = told (g.L.Library.done c.look.new.lib) (g.F.Files.asked c.look.new.files) in
    let whole = input_trees setup inputs in
    let rest = input_trees setup (drop (i + 1) inputs) in
    let tree = input_tree setup c.i-item.result in
    let so = next setup x k base whole inputs i c.i-item.result c.i-item.is c.loop-i-test.true s f c.loop-i.terms at1 now (c.loop-i.invariant.so_far map told_map k links base s f st) in
    let here = somewhere setup x k base whole rest tree s f c.loop-i.terms at1 now so at2 now' in
    let valued = are_valued_kept (answers_of at1.seen.memo) (answers_of at2.seen.memo) c.in_ok-t.ensures.answers inputs i c.loop-i.invariant.valued in
    let sees = subst (λ how. ScansTo (nodes_in setup) at2.tags how (scan (sight_in setup at2) tree)) c.in-Refused.is c.in_ok-t.ensures.sees in
    let alike = subst (λ how. NeedsAlike setup x k tree (Ok how) at2) c.in-Refused.is (by_budget setup g.L.Library.answer (g.F.Files.content c.loop-i.files) at1 now (λ x k base s f. NeedsAlike setup x k tree (Ok c.in_ok-t.field-0) at2) c.in_ok-t.ensures.alike map (c.loop-i.invariant.same ∙ told_map) b c.loop-i.invariant.budget k links base here.0 so.formings here.1) in
    ended_scans setup x k base whole rest tree s f c.loop-i.terms at1 now so at2 now' (Needs (site_of (nodes_in setup) c.in-Refused.n) sees.0) (alike ∙ sees.1)
    ∙ sym (halts_behind (sight_in setup at2) (nodes_in setup) at2.tags at2.seen.memo c.in_ok-t.ensures.looking.right.memo inputs i valued c.i-item.result (Needs (site_of (nodes_in setup) c.in-Refused.n) sees.0) (slot inputs inputs i i c.i-item.result refl refl c.loop-i-test.true c.i-item.is) sees.1).0

pub returns-in_err-t-clause-goes_on : goal.returns-in_err-t-clause-goes_on
returns-in_err-t-clause-goes_on g c = goes_on_then c.args.at.now.tags c.loop-i.at.tags c.look.new.at.tags c.loop-i.invariant.goes_on c.look.ensures.goes_on

pub returns-in_err-push-in-Value-clause-goes_on : goal.returns-in_err-push-in-Value-clause-goes_on
returns-in_err-push-in-Value-clause-goes_on g c = goes_on_then c.args.at.now.tags c.loop-i.at.tags c.look.new.at.tags c.loop-i.invariant.goes_on c.in_ok-t.ensures.goes_on

pub returns-in-Off-clause-goes_on : goal.returns-in-Off-clause-goes_on
returns-in-Off-clause-goes_on g c = goes_on_then c.args.at.now.tags c.loop-i.at.tags c.look.new.at.tags c.loop-i.invariant.goes_on c.in_ok-t.ensures.goes_on

pub returns-in-Halt-clause-goes_on : goal.returns-in-Halt-clause-goes_on
returns-in-Halt-clause-goes_on g c = goes_on_then c.args.at.now.tags c.loop-i.at.tags c.look.new.at.tags c.loop-i.invariant.goes_on c.in_ok-t.ensures.goes_on

pub returns-in-Refused-clause-goes_on : goal.returns-in-Refused-clause-goes_on
returns-in-Refused-clause-goes_on g c = goes_on_then c.args.at.now.tags c.loop-i.at.tags c.look.new.at.tags c.loop-i.invariant.goes_on c.in_ok-t.ensures.goes_on
