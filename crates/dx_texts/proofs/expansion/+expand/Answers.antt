use Rattle.std.proofs.Common.{◌≡◌, ◌∙◌, ◌+◌, ◌*◌, ℕ, List, length, refl, sym, ap, subst, arith, All, map}
use Rattle.dx_base.specs.NameTable.{under_name}
use Rattle.dx_ast.specs.declared.expressions.Call.{Call, out-Call}
use Rattle.dx_ast.specs.declared.statements.MacroDef.{out-MacroDef}
use Rattle.dx_ast.specs.Syntax as syntax
use Rattle.dx_ast.specs.Plain.{plain_expr, plain_call, plain_args, plain_macro, plain_stmt}
use Rattle.dx_macros.proofs.Doing.{stmt_call, stmt_assign}
use Rattle.dx_macros.specs.Site.{Nth}
use Rattle.dx_macros.specs.Dictionary.{callee}
use Rattle.dx_signatures.specs.Callees.{CallsFunction, CallsMacro}
use Rattle.dx_graph.specs.Graph.{Graph}
use Rattle.dx_graph.specs.GraphView.{graph_of}
use Rattle.dx_graph.specs.Operands.{given_of, GivenFits}
use Rattle.dx_macros.specs.Expansion.{Expanded}
use Rattle.dx_macros.specs.Weight.{expr_weight, statement_weight}
use Rattle.dx_graph.proofs.Sites.{fewer_left}
use Rattle.dx_ast.specs.Lawful.{IsName, IsLawfulExpr, IsLawfulInBody}
use Rattle.dx_texts.specs.Expanding.{dictionary_in, top_scope, setting, args_in, Expands, ExpandsArgs}
use Rattle.dx_texts.specs.Numbering.{expr_calls}
use Rattle.dx_graph.specs.declared.given.Given.{Given}
use Rattle.dx_texts.proofs.Expansions as expansions
use Rattle.dx_graph.proofs.Growing.{if_ok, on_ok}
use Rattle.dx_texts.proofs.LawfulParts as lawful
use Rattle.dx_texts.proofs.Measures as measures
use Rattle.dx_texts.proofs.Numbering as numbering
use Rattle.dx_texts.proofs.Parts as parts
use Rattle.dx_texts.proofs.Standing.{ready_later, setting_later, grows_on}
use Rattle.dx_texts.proofs.expansion.+expand.Goals as goal

pub apply-call_function-requires-clause-cache : goal.apply-call_function-requires-clause-cache
apply-call_function-requires-clause-cache t c = lawful.call_cache c.args.c.now c.requires.lawful

pub apply-call_function-requires-clause-spot : goal.apply-call_function-requires-clause-spot
apply-call_function-requires-clause-spot t c = fewer_left c.args.t.now.left _ c.requires.ready.spot

pub apply-enter-requires : goal.apply-enter-requires
apply-enter-requires t c =
    let d = c.args.w.now.dictionary.now in
    let same = c.bytes.ensures ∙ sym c.bytes-in-Macro.ensures in
    let known = lawful.known_macro d c.bytes-in-Macro.result.now (plain_macro c.in-Macro.m.now) (ap (λ (n : List ℕ). callee (dictionary_in c.args.w.now).macros n) (sym same) ∙ sym c.in-Macro.ensures) in
    let calls : callee (dictionary_in c.args.w.now).macros (out-Call c.args.c.now).name ≡ CallsMacro (plain_macro c.in-Macro.m.now) = ap (λ (n : List ℕ). callee (dictionary_in c.args.w.now).macros n) (sym c.bytes.ensures) ∙ sym c.in-Macro.ensures in
    let walked = parts.callee_macro c.args.w.now c.args.t.now (out-Call c.args.c.now).name (plain_macro c.in-Macro.m.now) calls c.requires.walked in
    let name : IsName c.bytes-in-Macro.result.now = subst IsName (sym c.bytes-in-Macro.ensures) (lawful.call_name c.args.c.now c.requires.lawful) in
    (omega (arith, c.decreases), (c.requires.ready, (lawful.known_lawful d c.bytes-in-Macro.result.now (plain_macro c.in-Macro.m.now) known, (c.requires.given, (name, (known, (walked, omega (arith, c.requires.few, numbering.macro_makes c.args.w.now c.args.t.now (out-Call c.args.c.now).name (plain_macro c.in-Macro.m.now) calls))))))))

pub apply-returns-in-Function-clause-expands : goal.apply-returns-in-Function-clause-expands
apply-returns-in-Function-clause-expands t c =
    let s = setting c.args.w.now c.args.t.now c.args.graph.now in
    let gs = map (given_of (graph_of c.args.graph.now).nodes) c.args.given.now in
    let calls : callee (dictionary_in c.args.w.now).macros (out-Call c.args.c.now).name ≡ CallsFunction c.in-Function.f = ap (λ (n : List ℕ). callee (dictionary_in c.args.w.now).macros n) (sym c.bytes.ensures) ∙ sym c.in-Function.ensures in
    if_ok c.call_function.result (λ r h. subst (λ (e : Expanded). Expands e c.args.graph.now c.call_function.new.graph r)
    (expansions.applied_function s (out-Call c.args.c.now).name (out-Call c.args.c.now).cache c.args.k gs c.in-Function.f calls) h) c.call_function.ensures.expands

pub enter-expand_body-requires : goal.enter-expand_body-requires
enter-expand_body-requires t c =
    let w = c.args.w.now in
    let inner = c.in_ok-inner.inner in
    let small = measures.in_macro w c.args.name.now c.args.m.now c.as_slice.result.now c.requires.known c.as_slice.ensures in
    let less = measures.one_less c.args.t.now.left inner.left _ w c.in_ok-inner.ensures.left small in
    let results = (out-MacroDef c.args.m.now).results in
    let walked = parts.macro_body w c.args.t.now inner c.args.m.now results c.as_slice.result.now c.in_ok-inner.ensures.left c.in_ok-inner.ensures.position refl c.as_slice.ensures c.in_ok-inner.ensures.own c.requires.walked in
    let nodes = ap (λ (g : Graph). length g.nodes) c.in_ok-inner.ensures.graph in
    let makes = numbering.macro_makes_body w c.args.t.now inner c.args.m.now c.as_slice.result.now c.in_ok-inner.ensures.left c.as_slice.ensures in
    (omega (arith, c.decreases, less), (c.in_ok-inner.ensures.ready, (lawful.macro_body c.args.m.now c.as_slice.result.now c.as_slice.ensures c.requires.lawful, ((results, walked), omega (arith, c.requires.few, nodes, makes)))))

pub enter-results_of-requires : goal.enter-results_of-requires
enter-results_of-requires t c =
    let inner = c.in_ok-inner.inner in
    let walked = parts.macro_body c.args.w.now c.args.t.now inner c.args.m.now c.as_slice-2.result.now c.as_slice.result.now c.in_ok-inner.ensures.left c.in_ok-inner.ensures.position c.as_slice-2.ensures c.as_slice.ensures c.in_ok-inner.ensures.own c.requires.walked in
    record { walked = c.in_ok-expand_body.ensures.walked c.as_slice-2.result.now walked }

pub enter-returns-clause-expands : goal.enter-returns-clause-expands
enter-returns-clause-expands t c =
    let w = c.args.w.now in
    let after = c.in_ok-expand_body.ensures.ready in
    let now = c.expand_body.new.graph in
    expansions.macro_made w c.args.t.now c.in_ok-inner.inner c.expand_body.new.t c.args.graph.now c.inner_text.new.graph now c.args.m.now c.as_slice.result.now c.as_slice-2.result.now (Nth c.args.name.now c.args.k)
    (map (given_of (graph_of c.args.graph.now).nodes) c.args.given.now) c.results_of.result
    c.in_ok-inner.ensures.left c.in_ok-inner.ensures.graph c.in_ok-inner.ensures.setting c.as_slice.ensures c.as_slice-2.ensures c.in_ok-expand_body.ensures.expands
    (c.results_of.ensures.gives (graph_of now).nodes after.memo after.own)

pub enter-returns-clause-adds : goal.enter-returns-clause-adds
enter-returns-clause-adds t c =
    let nodes = ap (λ (g : Graph). length g.nodes) c.in_ok-inner.ensures.graph in
    let makes = numbering.macro_makes_body c.args.w.now c.args.t.now c.in_ok-inner.inner c.args.m.now c.as_slice.result.now c.in_ok-inner.ensures.left c.as_slice.ensures in
    expansions.always c.results_of.result (omega (arith, nodes, makes, c.in_ok-expand_body.ensures.adds))

pub expand_args-expand_expr-requires : goal.expand_args-expand_expr-requires
expand_args-expand_expr-requires t c =
    let less = measures.in_args c.args.args.now c.loop-arg.arg-index c.arg-item.result c.loop-arg-test.true c.arg-item.is in
    let here = ready_later c.args.w.now c.args.t.now c.args.graph.now c.loop-arg.graph c.loop-arg.invariant.grows c.requires.ready in
    let walked = parts.arg_walked c.args.w.now c.args.t.now c.args.args.now c.loop-arg.arg-index c.arg-item.result c.loop-arg-test.true c.arg-item.is c.loop-arg.invariant.walked in
    let makes = numbering.args_make c.args.w.now c.args.t.now c.args.args.now c.loop-arg.arg-index c.arg-item.result c.loop-arg-test.true c.arg-item.is in
    (omega (arith, c.decreases, less), (here, (lawful.arg_lawful c.args.args.now c.loop-arg.arg-index c.arg-item.result c.loop-arg-test.true c.arg-item.is c.requires.lawful, (walked, omega (arith, c.loop-arg.invariant.few, makes)))))

pub expand_args-loop-arg-preserved : goal.expand_args-loop-arg-preserved
expand_args-loop-arg-preserved t c =
    let w = c.args.w.now in
    let text = c.args.t.now in
    let old = c.args.graph.now in
    let mid = c.loop-arg.graph in
    let now = c.expand_expr.new.graph in
    let s = setting w text old in
    let o = c.first_of-operand.result in
    let a = c.arg-item.result in
    let r = c.in_ok-expand_expr.field-0 in
    let ns = (graph_of now).nodes in
    let e = c.in_ok-expand_expr.ensures.expands in
    let fits = c.first_of-operand.ensures.fits ns e.gives.fits in
    let makes = numbering.args_make w text c.args.args.now c.loop-arg.arg-index a c.loop-arg-test.true c.arg-item.is in
    record {
      grows = grows_on old mid now c.loop-arg.invariant.grows c.expand_expr.ensures.grows;
      few = omega (arith, c.loop-arg.invariant.few, makes, c.in_ok-expand_expr.ensures.adds);
      adds = omega (arith, c.loop-arg.invariant.adds, makes, c.in_ok-expand_expr.ensures.adds);
      walked = parts.args_left w text c.args.args.now c.loop-arg.arg-index a c.loop-arg-test.true c.arg-item.is c.loop-arg.invariant.walked;
      so_far = expansions.args_step s (setting w text mid) c.args.before.now c.args.args.now c.loop-arg.arg-index a old mid now c.loop-arg.before c.expand_expr.new.before c.loop-arg.given.items c.put.new.list.items o r
          c.loop-arg-test.true c.arg-item.is (setting_later w text old mid c.loop-arg.invariant.grows c.requires.ready) c.expand_expr.ensures.grows.nodes e c.in_ok-expand_expr.ensures.before
          fits (c.first_of-operand.ensures.tree ns) _ refl fits c.in_ok-put.ensures c.loop-arg.invariant.so_far;
    }

pub expand_args-returns-clause-adds : goal.expand_args-returns-clause-adds
expand_args-returns-clause-adds t c = omega (arith, c.loop-arg.invariant.adds, numbering.no_args_make c.args.w.now c.args.t.now c.args.args.now c.loop-arg.arg-index c.loop-arg-test.false)

pub expand_body-expand_statement-requires : goal.expand_body-expand_statement-requires
expand_body-expand_statement-requires t c =
    let less = measures.in_body c.args.body.now c.loop-s.s-index c.s-item.result c.loop-s-test.true c.s-item.is in
    let same = ap (λ (n : ℕ). n * measures.cap c.args.w.now) c.loop-s.invariant.same.left in
    let left = c.loop-s.invariant.walked c.requires.walked.0 c.requires.walked.1 in
    let walked = parts.statement_walked c.args.w.now c.loop-s.t c.requires.walked.0 c.args.body.now c.loop-s.s-index c.s-item.result c.loop-s-test.true c.s-item.is left in
    let makes = numbering.body_makes c.args.w.now c.args.t.now c.args.body.now c.loop-s.s-index c.s-item.result c.loop-s-test.true c.s-item.is in
    let same_calls = numbering.same_statement c.args.w.now c.args.t.now c.loop-s.t (plain_stmt c.s-item.result) c.loop-s.invariant.same.left in
    (omega (arith, c.decreases, less, same), (c.loop-s.invariant.ready, (lawful.stmt_lawful c.args.body.now c.loop-s.s-index c.s-item.result c.loop-s-test.true c.s-item.is c.requires.lawful, (walked, omega (arith, c.loop-s.invariant.few, makes, same_calls)))))

pub expand_body-returns-in_err-expand_statement-clause-grows : goal.expand_body-returns-in_err-expand_statement-clause-grows
expand_body-returns-in_err-expand_statement-clause-grows t c =
    grows_on c.args.graph.now c.loop-s.graph c.expand_statement.new.graph c.loop-s.invariant.grows c.expand_statement.ensures.grows

pub expand_body-loop-s-preserved : goal.expand_body-loop-s-preserved
expand_body-loop-s-preserved t c =
    let w = c.args.w.now in
    let old = c.args.graph.now in
    let mid = c.loop-s.graph in
    let now = c.expand_statement.new.graph in
    let was = c.loop-s.invariant.same in
    let same = c.expand_statement.ensures.text in
    let makes = numbering.body_makes w c.args.t.now c.args.body.now c.loop-s.s-index c.s-item.result c.loop-s-test.true c.s-item.is in
    let same_calls = numbering.same_statement w c.args.t.now c.loop-s.t (plain_stmt c.s-item.result) was.left in
    record {
      grows = grows_on old mid now c.loop-s.invariant.grows c.expand_statement.ensures.grows;
      same = record { trail = same.trail ∙ was.trail; left = same.left ∙ was.left; position = same.position ∙ was.position };
      ready = c.in_ok-expand_statement.ensures.ready;
      few = omega (arith, c.loop-s.invariant.few, makes, same_calls, c.in_ok-expand_statement.ensures.adds);
      adds = omega (arith, c.loop-s.invariant.adds, makes, same_calls, c.in_ok-expand_statement.ensures.adds);
      walked = λ results h. parts.body_left w c.loop-s.t c.expand_statement.new.t results c.args.body.now c.loop-s.s-index c.s-item.result c.loop-s-test.true c.s-item.is same c.in_ok-expand_statement.ensures.own (c.loop-s.invariant.walked results h);
      so_far = expansions.body_step w (setting w c.args.t.now old) c.args.body.now c.loop-s.s-index c.s-item.result old mid now c.loop-s.t c.expand_statement.new.t c.loop-s.before c.expand_statement.new.before
          c.loop-s-test.true c.s-item.is c.in_ok-expand_statement.ensures.expands c.in_ok-expand_statement.ensures.before same
          (ap (λ s. s.spot) (setting_later w c.loop-s.t mid now c.expand_statement.ensures.grows c.loop-s.invariant.ready)) c.loop-s.invariant.so_far;
    }

pub expand_body-returns-clause-expands : goal.expand_body-returns-clause-expands
expand_body-returns-clause-expands t c =
    expansions.body_end c.args.w.now (setting c.args.w.now c.args.t.now c.args.graph.now) c.args.body.now c.loop-s.s-index c.args.graph.now c.loop-s.graph c.loop-s.t c.loop-s.before c.loop-s-test.false c.loop-s.invariant.so_far

pub expand_body-returns-clause-adds : goal.expand_body-returns-clause-adds
expand_body-returns-clause-adds t c = omega (arith, c.loop-s.invariant.adds, numbering.no_body_makes c.args.w.now c.args.t.now c.args.body.now c.loop-s.s-index c.loop-s-test.false)

pub expand_body-returns-clause-walked : goal.expand_body-returns-clause-walked
expand_body-returns-clause-walked t c = λ results h.
    parts.results_walked c.args.w.now c.loop-s.t results c.args.body.now c.loop-s.s-index c.loop-s-test.false (c.loop-s.invariant.walked results h)

pub expand_call-expand_args-requires : goal.expand_call-expand_args-requires
expand_call-expand_args-requires t c =
    let less = measures.in_call c.args.c.now c.as_slice.result.now c.as_slice.ensures in
    let walked = parts.call_args c.args.w.now c.args.t.now c.args.c.now c.as_slice.result.now c.as_slice.ensures c.requires.walked in
    (omega (arith, c.decreases, less), (c.requires.ready, (lawful.call_args c.args.c.now c.as_slice.result.now c.as_slice.ensures c.requires.lawful, (walked, omega (arith, c.requires.few, numbering.call_makes c.args.w.now c.args.t.now c.args.c.now c.as_slice.result.now c.as_slice.ensures)))))

pub expand_call-apply-requires : goal.expand_call-apply-requires
expand_call-apply-requires t c =
    let some = measures.call_some c.args.c.now in
    let makes = numbering.call_makes c.args.w.now c.args.t.now c.args.c.now c.as_slice.result.now c.as_slice.ensures in
    let here = ready_later c.args.w.now c.args.t.now c.args.graph.now c.expand_args.new.graph c.expand_args.ensures.grows c.requires.ready in (
      omega (arith, c.decreases, some),
      (
        here,
        (
          c.requires.lawful,
          (
            subst (λ (gs : List Given). All (GivenFits (graph_of c.expand_args.new.graph).nodes) gs) (sym c.as_slice-2.ensures.value) c.in_ok-given.ensures.expands.fits,
            (
              parts.call_callee c.args.w.now c.args.t.now c.args.c.now c.requires.walked,
              omega (arith, c.requires.few, makes, c.in_ok-given.ensures.adds),
            ),
          ),
        ),
      ),
    )

pub expand_call-returns-clause-before : goal.expand_call-returns-clause-before
expand_call-returns-clause-before t c =
    expansions.always c.apply.result (expansions.calls_after_call c.args.before.now c.push.new.self c.expand_args.new.before c.args.c.now c.bytes-name.result.now c.as_slice.result.now
    c.bytes-name.ensures c.as_slice.ensures c.in_ok-push.ensures.ok c.in_ok-given.ensures.before)

pub expand_call-returns-clause-adds : goal.expand_call-returns-clause-adds
expand_call-returns-clause-adds t c =
    let makes = numbering.call_makes c.args.w.now c.args.t.now c.args.c.now c.as_slice.result.now c.as_slice.ensures in
    on_ok c.apply.result (λ adds. omega (arith, adds, makes, c.in_ok-given.ensures.adds)) c.apply.ensures.adds

pub expand_call-returns-clause-expands : goal.expand_call-returns-clause-expands
expand_call-returns-clause-expands t c =
    let w = c.args.w.now in
    let text = c.args.t.now in
    let old = c.args.graph.now in
    let mid = c.expand_args.new.graph in
    let s = setting w text old in
    let gs = c.as_slice-2.result.now in
    let given = subst (λ (xs : List Given). ExpandsArgs (args_in s c.push.new.self (plain_args c.as_slice.result.now)) old mid xs) (sym c.as_slice-2.ensures.value) c.in_ok-given.ensures.expands in
    expansions.call_is_made s (setting w text mid) c.args.before.now c.push.new.self c.args.c.now c.bytes-name.result.now c.as_slice.result.now (c.count-k.result + 1) old mid c.apply.new.graph gs c.apply.result
    c.bytes-name.ensures c.as_slice.ensures (omega (arith, c.count-k.ensures.times)) c.in_ok-push.ensures.ok (setting_later w text old mid c.expand_args.ensures.grows c.requires.ready) given c.apply.ensures.expands

pub expand_expr-meaning-requires : goal.expand_expr-meaning-requires
expand_expr-meaning-requires t c =
    let is = ap plain_expr c.in-Name.is ∙ measures.expr_name c.in-Name.n ∙ ap syntax.Name (sym c.bytes.ensures) in
    record { walked = parts.expr_name c.args.w.now c.args.t.now (plain_expr c.args.e.now) c.bytes.result.now is c.requires.walked }

pub expand_expr-expand_call-requires : goal.expand_expr-expand_call-requires
expand_expr-expand_call-requires t c =
    let same = ap (λ (x : Call). syntax.CallOf (plain_call x)) (sym c.get.ensures) in
    let is = ap plain_expr c.in-Call.is ∙ measures.expr_call c.in-Call.c ∙ same in
    let less = ap expr_weight is in
    let calls = ap (expr_calls c.args.w.now c.args.t.now) is in
    let call = subst (λ (e : syntax.Expr). ∥ IsLawfulExpr e ∥₁) is c.requires.lawful in
    (omega (arith, c.decreases, less), (c.requires.ready, (call, (parts.expr_call c.args.w.now c.args.t.now (plain_expr c.args.e.now) (plain_call c.get.result.now) is c.requires.walked, omega (arith, c.requires.few, calls)))))

pub expand_expr-returns-in-Name-clause-expands : goal.expand_expr-returns-in-Name-clause-expands
expand_expr-returns-in-Name-clause-expands t c =
    let w = c.args.w.now in
    let text = c.args.t.now in
    let g = c.args.graph.now in
    let is = ap plain_expr c.in-Name.is ∙ measures.expr_name c.in-Name.n ∙ ap syntax.Name (sym c.bytes.ensures) in
    expansions.name_made w text g c.args.before.now (plain_expr c.args.e.now) c.bytes.result.now c.meaning.result is (c.meaning.ensures (graph_of g).nodes c.requires.ready.memo c.requires.ready.own)

pub expand_statement-expand_call-requires : goal.expand_statement-expand_call-requires
expand_statement-expand_call-requires t c =
    let is = ap plain_stmt c.in-Call.is ∙ stmt_call c.in-Call.c in
    let less = ap statement_weight is in
    let call = subst (λ (s : syntax.Stmt). ∥ IsLawfulInBody s ∥₁) is c.requires.lawful in
    (omega (arith, c.decreases, less), (c.requires.ready, (call, (parts.statement_call c.args.w.now c.args.t.now c.args.s.now c.in-Call.c c.in-Call.is c.requires.walked, omega (arith, c.requires.few, numbering.call_statement_makes c.args.w.now c.args.t.now c.args.s.now c.in-Call.c c.in-Call.is)))))

pub expand_statement-expand_expr-requires : goal.expand_statement-expand_expr-requires
expand_statement-expand_expr-requires t c =
    let less = measures.in_assignment c.args.s.now c.in-Assign.a c.in-Assign.is in
    let walked = parts.statement_value c.args.w.now c.args.t.now c.args.s.now c.in-Assign.a c.in-Assign.is c.requires.walked in
    (omega (arith, c.decreases, less), (c.requires.ready, (lawful.assigned_value c.args.s.now c.in-Assign.a c.in-Assign.is c.requires.lawful, (walked, omega (arith, c.requires.few, numbering.assignment_makes c.args.w.now c.args.t.now c.args.s.now c.in-Assign.a c.in-Assign.is)))))

pub expand_statement-returns-in_ok-expand_call-in-Call-clause-ready : goal.expand_statement-returns-in_ok-expand_call-in-Call-clause-ready
expand_statement-returns-in_ok-expand_call-in-Call-clause-ready t c =
    ready_later c.args.w.now c.args.t.now c.args.graph.now c.expand_call.new.graph c.expand_call.ensures.grows c.requires.ready

pub expand_statement-returns-in_ok-expand_call-in-Call-clause-expands : goal.expand_statement-returns-in_ok-expand_call-in-Call-clause-expands
expand_statement-returns-in_ok-expand_call-in-Call-clause-expands t c =
    expansions.call_statement c.args.w.now c.args.t.now c.args.before.now (plain_stmt c.args.s.now) (plain_call c.in-Call.c) c.args.graph.now c.expand_call.new.graph _
    (ap plain_stmt c.in-Call.is ∙ stmt_call c.in-Call.c) c.expand_call.ensures.grows c.requires.ready.own c.in_ok-expand_call-in-Call.ensures.expands

pub expand_statement-returns-in_ok-results-in-Assign-clause-ready : goal.expand_statement-returns-in_ok-results-in-Assign-clause-ready
expand_statement-returns-in_ok-results-in-Assign-clause-ready t c =
    let later = ready_later c.args.w.now c.args.t.now c.args.graph.now c.expand_expr.new.graph c.expand_expr.ensures.grows c.requires.ready in
    let e = c.in_ok-results-in-Assign.ensures.expands in
    on_ok c.assign.result (λ fits. record {
      memo = later.memo;
      own = fits (graph_of c.expand_expr.new.graph).nodes e.gives.fits later.own;
      trail = later.trail;
      spot = later.spot;
    }) c.assign.ensures.fits

pub expand_statement-returns-in_ok-results-in-Assign-clause-expands : goal.expand_statement-returns-in_ok-results-in-Assign-clause-expands
expand_statement-returns-in_ok-results-in-Assign-clause-expands t c =
    let w = c.args.w.now in
    let text = c.args.t.now in
    let a = c.in-Assign.a in
    let now = c.expand_expr.new.graph in
    on_ok c.assign.result (λ scope. expansions.assign_statement w text c.args.before.now a.targets c.as_slice.result.now (plain_stmt c.args.s.now) (plain_expr a.value) c.args.graph.now now (under_name c.assign.new.own) c.in_ok-results-in-Assign.results
    (ap plain_stmt c.in-Assign.is ∙ stmt_assign a) c.as_slice.ensures c.expand_expr.ensures.grows c.requires.ready.own c.in_ok-results-in-Assign.ensures.expands
    (scope (graph_of now).nodes (top_scope w text.position))) c.assign.ensures.scope
