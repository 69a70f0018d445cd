use Rattle.std.proofs.Common.{◌≡◌, ◌∙◌, ◌<◌, List, length, get_or, sym, ap, ap₂, subst, Some, refl, false, arith, ℕ}
use Rattle.std.specs.Prelude.{slice_get}
use Rattle.std.proofs.lemmas.Option.{slice_get-get_or}
use Rattle.dx_tags.specs.declared.term.Term.{Term}
use Rattle.dx_tags.specs.declared.term.Term.TheVariants.{Constant, Held, Call, File}
use Rattle.dx_tags.specs.declared.term.ValueTag.{ValueTag}
use Rattle.dx_tags.specs.Closed.{Head, FileHead, head_at, heads_of, head_of}
use Rattle.dx_tags.specs.NamedTerms.{term_named}
use Rattle.dx_tags.specs.Whole.{is_file}
use Rattle.dx_tags.proofs.ClosedTerms.{head_unfolds}
use Rattle.dx_getting.proofs.Getting.{may_get_arg}
use Rattle.dx_getting.proofs.NextLaws.{next_none, next_file, next_argument}
use Rattle.dx_getting.proofs.working.next_of.Goals as goal

at_place : (xs ys : List ValueTag) (i n : _) (a : ValueTag) → xs ≡ ys → i ≡ n → i < length xs → a ≡ get_or xs i a → slice_get ys n ≡ Some a
at_place xs ys i n a e f h g = ap₂ slice_get (sym e) (sym f) ∙ slice_get-get_or xs i a h ∙ ap Some (sym g)

named_so : (terms : List Term) (tag : ℕ) (t u : Term) → slice_get terms tag ≡ Some t → slice_get terms tag ≡ Some u → t ≡ u
named_so terms tag t u e f = let same : Some t ≡ Some u = sym e ∙ f in cc

no_file : (t : Term) (hs : List Head) → ((b : _) → t ≡ File b → ⊥) → is_file (head_of hs t) ≡ false
no_file (Constant c) hs h = refl
no_file (Held n) hs h = refl
no_file (Call m ts) hs h = refl
no_file (File b) hs h = absurd (h b refl)

pub call_in-module-requires : goal.call_in-module-requires
call_in-module-requires c =
    let h = c.requires.call.2 in
    (h.module, h.args, named_so c.args.tags.now c.args.call.now.wanted.tag (term_named c.term.result) (Call h.module h.args) c.term.ensures (subst (λ ts. slice_get ts c.args.call.now.wanted.tag ≡ Some (Call h.module h.args)) c.requires.call.1 h.term))

pub term-requires-in-Some : goal.term-requires-in-Some
term-requires-in-Some c =
    let e = c.requires.call.0 in
    let same = c.requires.call.1 in
    let h = c.requires.call.2 in
    let what = c.call_in-module.result.0 in
    let args = c.call_in-module.result.1.now in
    let t : slice_get e.terms c.args.call.now.wanted.tag ≡ Some (Call what args) = subst (λ ts. slice_get ts c.args.call.now.wanted.tag ≡ Some (Call what args)) (sym same) (c.term.ensures ∙ ap Some c.call_in-module.ensures) in
    let at : slice_get args (length c.args.call.now.inputs) ≡ Some c.in-Some.arg.now = at_place c.as_slice.result.now args c.len.result (length c.args.call.now.inputs) c.in-Some.arg.now c.as_slice.ensures c.len.ensures c.in-Some.ensures.lookup.3.0 c.in-Some.ensures.lookup.1 in
    let w = (may_get_arg e c.args.call.now.wanted.tag h.may (Call what args) what args t refl (length c.args.call.now.inputs) c.in-Some.arg.now at).1.fits.within in
    subst (λ ts. c.in-Some.arg.now.tag < length ts) same w

pub returns-in-None : goal.returns-in-None
returns-in-None c = λ e same h.
    let what = c.call_in-module.result.0 in
    let args = c.call_in-module.result.1.now in
    let t : slice_get e.terms c.args.call.now.wanted.tag ≡ Some (Call what args) = subst (λ ts. slice_get ts c.args.call.now.wanted.tag ≡ Some (Call what args)) (sym same) (c.term.ensures ∙ ap Some c.call_in-module.ensures) in
    let a = ap length c.as_slice.ensures in
    let b = c.len.ensures in
    let d = c.in-None.ensures.lookup.3 in
    next_none e c.args.call.now h what args t (omega (arith, a, b, d))

pub returns-in-Some-file_in : goal.returns-in-Some-file_in
returns-in-Some-file_in c = λ e same h.
    let what = c.call_in-module.result.0 in
    let args = c.call_in-module.result.1.now in
    let content = c.in-Some-file_in.content.now in
    let t : slice_get e.terms c.args.call.now.wanted.tag ≡ Some (Call what args) = subst (λ ts. slice_get ts c.args.call.now.wanted.tag ≡ Some (Call what args)) (sym same) (c.term.ensures ∙ ap Some c.call_in-module.ensures) in
    let at : slice_get args (length c.args.call.now.inputs) ≡ Some c.in-Some.arg.now = at_place c.as_slice.result.now args c.len.result (length c.args.call.now.inputs) c.in-Some.arg.now c.as_slice.ensures c.len.ensures c.in-Some.ensures.lookup.3.0 c.in-Some.ensures.lookup.1 in
    let f : head_at (heads_of e.terms) c.in-Some.arg.now.tag ≡ FileHead content = head_unfolds e.terms h.may.exact.formed c.in-Some.arg.now.tag (File content) (subst (λ ts. slice_get ts c.in-Some.arg.now.tag ≡ Some (File content)) (sym same) (c.term-in-Some.ensures ∙ ap Some c.in-Some-file_in.ensures)) in
    next_file e c.args.call.now h what args t c.in-Some.arg.now at content f

pub returns-in-None-file_in : goal.returns-in-None-file_in
returns-in-None-file_in c = λ e same h.
    let what = c.call_in-module.result.0 in
    let args = c.call_in-module.result.1.now in
    let t : slice_get e.terms c.args.call.now.wanted.tag ≡ Some (Call what args) = subst (λ ts. slice_get ts c.args.call.now.wanted.tag ≡ Some (Call what args)) (sym same) (c.term.ensures ∙ ap Some c.call_in-module.ensures) in
    let at : slice_get args (length c.args.call.now.inputs) ≡ Some c.in-Some.arg.now = at_place c.as_slice.result.now args c.len.result (length c.args.call.now.inputs) c.in-Some.arg.now c.as_slice.ensures c.len.ensures c.in-Some.ensures.lookup.3.0 c.in-Some.ensures.lookup.1 in
    let u = head_unfolds e.terms h.may.exact.formed c.in-Some.arg.now.tag (term_named c.term-in-Some.result) (subst (λ ts. slice_get ts c.in-Some.arg.now.tag ≡ Some (term_named c.term-in-Some.result)) (sym same) c.term-in-Some.ensures) in
    next_argument e c.args.call.now h what args t c.in-Some.arg.now at (ap is_file u ∙ no_file (term_named c.term-in-Some.result) (heads_of e.terms) (λ b q. c.in-None-file_in.ensures b q))
