use Rattle.std.proofs.Common.{◌≡◌, ◌∙◌, ◌+◌, ◌-◌, ℕ, suc, drop, sym, ap, subst, arith}
use Rattle.dx_ast.specs.Plain.{plain_expr, plain_call, plain_args, plain_macro, plain_stmt, plain_stmts}
use Rattle.dx_ast.specs.Syntax as syntax
use Rattle.dx_macros.proofs.Doing.{stmt_call, stmt_assign}
use Rattle.dx_texts.specs.Expanding.{dictionary_in}
use Rattle.dx_expansion.specs.Silence.{IsSilentExpr, AreSilentArgs, IsSilentCallee, IsSilentStatement, IsSilentBody}
use Rattle.dx_texts.proofs.LawfulParts as lawful
use Rattle.dx_texts.proofs.Measures as measures
use Rattle.dx_expansion.proofs.Silence as silence
use Rattle.dx_expansion.proofs.silent.+silent.Goals as goal

pub are_silent_args-is_silent_expr-requires : goal.are_silent_args-is_silent_expr-requires
are_silent_args-is_silent_expr-requires t c =
    let less = measures.in_args c.args.args.now c.loop-arg.arg-index c.arg-item.result c.loop-arg-test.true c.arg-item.is in
    (omega (arith, c.decreases, less), tt)

pub are_silent_args-loop-arg-preserved : goal.are_silent_args-loop-arg-preserved
are_silent_args-loop-arg-preserved t c = λ rest.
    let next : c.loop-arg.arg-index + 1 ≡ suc c.loop-arg.arg-index = omega arith in
    c.loop-arg.invariant (silence.args_more (dictionary_in c.args.w.now).macros c.args.left c.args.args.now c.loop-arg.arg-index c.arg-item.result c.loop-arg-test.true c.arg-item.is
    (c.is_silent_expr.ensures cc) (subst (λ (n : ℕ). AreSilentArgs (dictionary_in c.args.w.now).macros c.args.left (plain_args (drop n c.args.args.now))) next rest))

pub are_silent_args-returns : goal.are_silent_args-returns
are_silent_args-returns t c = λ _. c.loop-arg.invariant (silence.args_done (dictionary_in c.args.w.now).macros c.args.left c.args.args.now c.loop-arg.arg-index (omega (arith, c.loop-arg-test.false)))

pub is_silent_body-is_silent_statement-requires : goal.is_silent_body-is_silent_statement-requires
is_silent_body-is_silent_statement-requires t c =
    let less = measures.in_body c.args.body.now c.loop-s.s-index c.s-item.result c.loop-s-test.true c.s-item.is in
    (omega (arith, c.decreases, less), tt)

pub is_silent_body-loop-s-preserved : goal.is_silent_body-loop-s-preserved
is_silent_body-loop-s-preserved t c = λ rest.
    let next : c.loop-s.s-index + 1 ≡ suc c.loop-s.s-index = omega arith in
    c.loop-s.invariant (silence.stmts_more (dictionary_in c.args.w.now).macros c.args.left c.args.body.now c.loop-s.s-index c.s-item.result c.loop-s-test.true c.s-item.is
    (c.is_silent_statement.ensures cc) (subst (λ (n : ℕ). IsSilentBody (dictionary_in c.args.w.now).macros c.args.left (plain_stmts (drop n c.args.body.now))) next rest))

pub is_silent_body-returns : goal.is_silent_body-returns
is_silent_body-returns t c = λ _. c.loop-s.invariant (silence.stmts_done (dictionary_in c.args.w.now).macros c.args.left c.args.body.now c.loop-s.s-index (omega (arith, c.loop-s-test.false)))

pub is_silent_call-are_silent_args-requires : goal.is_silent_call-are_silent_args-requires
is_silent_call-are_silent_args-requires t c =
    let less = measures.in_call c.args.c.now c.as_slice.result.now c.as_slice.ensures in
    (omega (arith, c.decreases, less), tt)

pub is_silent_call-returns-then-is_silent_callee : goal.is_silent_call-returns-then-is_silent_callee
is_silent_call-returns-then-is_silent_callee t c = λ h.
    silence.call_silent (dictionary_in c.args.w.now).macros c.args.left c.args.c.now c.bytes.result.now c.as_slice.result.now c.bytes.ensures c.as_slice.ensures (c.is_silent_callee.ensures cc) (c.are_silent_args.ensures h)

pub is_silent_callee-is_silent_body-requires : goal.is_silent_callee-is_silent_body-requires
is_silent_callee-is_silent_body-requires t c =
    let w = c.args.w.now in
    let d = w.dictionary.now in
    let known = lawful.known_macro d c.args.name.now (plain_macro c.in-Macro.m.now) (sym c.in-Macro.ensures) in
    let small = measures.in_macro w c.args.name.now c.in-Macro.m.now c.as_slice.result.now known c.as_slice.ensures in
    let less = measures.one_less c.args.left (c.args.left - 1) _ w (omega (arith, c.if-left-eq0.false)) small in
    (omega (arith, c.decreases, less), tt)

pub is_silent_callee-returns-else-left-eq0 : goal.is_silent_callee-returns-else-left-eq0
is_silent_callee-returns-else-left-eq0 t c = λ h.
    let macros = (dictionary_in c.args.w.now).macros in
    subst (IsSilentCallee macros c.args.left) c.in-Macro.ensures
    (silence.macro_silent macros c.args.left (c.args.left - 1) c.in-Macro.m.now c.as_slice.result.now (omega (arith, c.if-left-eq0.false)) c.as_slice.ensures (c.is_silent_body.ensures h))

pub is_silent_expr-returns-in-Call : goal.is_silent_expr-returns-in-Call
is_silent_expr-returns-in-Call t c = λ h.
    subst (IsSilentExpr (dictionary_in c.args.w.now).macros c.args.left) (sym (ap plain_expr c.in-Call.is ∙ measures.expr_call _ ∙ ap (λ x. syntax.CallOf (plain_call x)) (sym c.get.ensures)))
    (c.is_silent_call.ensures h)

pub is_silent_statement-returns-in-Call : goal.is_silent_statement-returns-in-Call
is_silent_statement-returns-in-Call t c = λ h.
    subst (IsSilentStatement (dictionary_in c.args.w.now).macros c.args.left) (sym (ap plain_stmt c.in-Call.is ∙ stmt_call _)) (c.is_silent_call.ensures h)

pub is_silent_statement-returns-in-Assign : goal.is_silent_statement-returns-in-Assign
is_silent_statement-returns-in-Assign t c = λ h.
    subst (IsSilentStatement (dictionary_in c.args.w.now).macros c.args.left) (sym (ap plain_stmt c.in-Assign.is ∙ stmt_assign _)) (c.is_silent_expr.ensures h)
