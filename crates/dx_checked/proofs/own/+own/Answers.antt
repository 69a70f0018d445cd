use Rattle.std.proofs.Common.{◌≡◌, ◌∙◌, ◌+◌, ◌-◌, ℕ, suc, drop, sym, ap, subst, arith}
use Rattle.dx_ast.specs.Plain.{plain_expr, plain_call, plain_args, plain_macro, plain_stmt, plain_stmts}
use Rattle.dx_ast.specs.Syntax as syntax
use Rattle.dx_macros.proofs.Doing.{stmt_call, stmt_assign}
use Rattle.dx_macros.specs.Dictionary.{callee}
use Rattle.dx_macros.specs.DictionaryView.{dictionary_of}
use Rattle.dx_signatures.specs.Callees.{Callee}
use Rattle.dx_signatures.specs.CalleeView.{plain_callee}
use Rattle.dx_signatures.specs.Faults.{arg_names, fault_of_call}
use Rattle.dx_texts.proofs.LawfulParts.{known_macro}
use Rattle.dx_texts.proofs.Measures.{in_args, in_body, in_call, expr_call, expr_name}
use Rattle.dx_checked.specs.Own.{ExprFits, ArgsFit, CalleeFits, StatementFits, BodyFits}
use Rattle.dx_checked.proofs.Measures.{in_macro, one_less}
use Rattle.dx_checked.proofs.Parts as parts
use Rattle.dx_checked.proofs.own.+own.Goals as goal

pub args_calls-expr_calls-requires : goal.args_calls-expr_calls-requires
args_calls-expr_calls-requires t c =
    let less = in_args c.args.args.now c.loop-arg.arg-index c.arg-item.result c.loop-arg-test.true c.arg-item.is in
    (omega (arith, c.decreases, less), c.loop-arg.invariant.bound)

pub args_calls-loop-arg-preserved : goal.args_calls-loop-arg-preserved
args_calls-loop-arg-preserved t c =
    let r = c.in_ok-calls.ensures in
    let i = c.loop-arg.arg-index in
    let macros = (dictionary_of c.args.d.now).macros in
    let next : i + 1 ≡ suc i = omega arith in
    record {
      bound = r.2;
      so_far = λ n rest. (
          let more = parts.args_more macros c.args.left c.args.args.now i c.arg-item.result r.0 n c.loop-arg-test.true c.arg-item.is r.3 (subst (λ (k : ℕ). ArgsFit macros c.args.left (plain_args (drop k c.args.args.now)) n) next rest) in
          let all = c.loop-arg.invariant.so_far (r.0 + n) more in
          (all.0, (let one = all.1 in let two = r.1 in omega (arith, one, two)), all.2));
    }

pub args_calls-returns : goal.args_calls-returns
args_calls-returns t c =
    let macros = (dictionary_of c.args.d.now).macros in
    let all = c.loop-arg.invariant.so_far 0 (parts.args_done macros c.args.left c.args.args.now c.loop-arg.arg-index (omega (arith, c.loop-arg-test.false))) in
    (all.0, (let one = all.1 in omega (arith, one)), c.loop-arg.invariant.bound, all.2)

pub body_calls-statement_calls-requires : goal.body_calls-statement_calls-requires
body_calls-statement_calls-requires t c =
    let less = in_body c.args.body.now c.loop-s.s-index c.s-item.result c.loop-s-test.true c.s-item.is in
    (omega (arith, c.decreases, less), c.loop-s.invariant.bound)

pub body_calls-loop-s-preserved : goal.body_calls-loop-s-preserved
body_calls-loop-s-preserved t c =
    let r = c.in_ok-calls.ensures in
    let i = c.loop-s.s-index in
    let macros = (dictionary_of c.args.d.now).macros in
    let next : i + 1 ≡ suc i = omega arith in
    record {
      bound = r.2;
      so_far = λ n rest. (
          let more = parts.stmts_more macros c.args.left c.args.body.now i c.s-item.result r.0 n c.loop-s-test.true c.s-item.is r.3 (subst (λ (k : ℕ). BodyFits macros c.args.left (plain_stmts (drop k c.args.body.now)) n) next rest) in
          let all = c.loop-s.invariant.so_far (r.0 + n) more in
          (all.0, (let one = all.1 in let two = r.1 in omega (arith, one, two)), all.2));
    }

pub body_calls-returns : goal.body_calls-returns
body_calls-returns t c =
    let macros = (dictionary_of c.args.d.now).macros in
    let all = c.loop-s.invariant.so_far 0 (parts.stmts_done macros c.args.left c.args.body.now c.loop-s.s-index (omega (arith, c.loop-s-test.false))) in
    (all.0, (let one = all.1 in omega (arith, one)), c.loop-s.invariant.bound, all.2)

pub call_calls-args_calls-requires : goal.call_calls-args_calls-requires
call_calls-args_calls-requires t c =
    let less = in_call c.args.c.now c.as_slice-args.result.now c.as_slice-args.ensures in
    let below = c.in-Ok-None.ensures.counted c.in-Ok-None.field-0-is in
    (omega (arith, c.decreases, less), omega (arith, below))

pub call_calls-returns-in_ok-calls-in-Ok-None : goal.call_calls-returns-in_ok-calls-in-Ok-None
call_calls-returns-in_ok-calls-in-Ok-None t c =
    let macros = (dictionary_of c.args.d.now).macros in
    let name = c.bytes-in-Ok-None.result.now in
    let args = c.as_slice-args.result.now in
    let r = c.in_ok-calls-in-Ok-None.ensures in
    let what = c.called-callee.ensures ∙ ap (callee macros) (c.bytes.ensures ∙ sym c.bytes-in-Ok-None.ensures) in
    let sound = parts.call_sound c.args.calls c.args.left c.args.targets (callee macros name) (arg_names (plain_args args)) (ap (λ (x : Callee). fault_of_call c.args.calls x c.args.left (arg_names (plain_args args)) c.args.targets) (sym what) ∙ sym c.in-Ok-None.ensures.fault ∙ c.in-Ok-None.field-0-is) in
    parts.some_map c.callee_calls.result
    (λ n h. (
      1 + (r.0 + h.0),
      (let one = r.1 in let two = h.1 in omega (arith, one, two)),
      h.2,
      parts.call_fits macros c.args.left c.args.targets c.args.c.now name args r.0 h.0 c.bytes-in-Ok-None.ensures c.as_slice-args.ensures sound r.3 h.3,
    ))
    c.callee_calls.ensures

pub callee_calls-body_calls-requires : goal.callee_calls-body_calls-requires
callee_calls-body_calls-requires t c =
    let d = c.args.d.now in
    let known = known_macro d c.args.name.now (plain_macro c.in-Macro.m.now) (sym c.requires.named ∙ ap plain_callee c.in-Macro.is) in
    let small = in_macro d c.args.name.now c.in-Macro.m.now c.as_slice.result.now known c.as_slice.ensures in
    let less = one_less c.args.left (c.args.left - 1) _ d (omega (arith, c.if-left-eq0.false)) small in
    (omega (arith, c.decreases, less), c.requires.bound)

pub callee_calls-returns-in-Function : goal.callee_calls-returns-in-Function
callee_calls-returns-in-Function t c =
    let macros = (dictionary_of c.args.d.now).macros in
    (0, omega arith, c.requires.bound, subst (λ (x : Callee). CalleeFits macros c.args.left x 0) (sym (ap plain_callee c.in-Function.is) ∙ c.requires.named) (parts.function_fits macros c.args.left c.in-Function.field-0))

pub callee_calls-returns-else-left-eq0 : goal.callee_calls-returns-else-left-eq0
callee_calls-returns-else-left-eq0 t c =
    let macros = (dictionary_of c.args.d.now).macros in
    parts.some_map c.body_calls.result
    (λ n h. (
      h.0,
      h.1,
      h.2,
      subst (λ (x : Callee). CalleeFits macros c.args.left x h.0) (sym (ap plain_callee c.in-Macro.is) ∙ c.requires.named) (parts.macro_fits macros c.args.left (c.args.left - 1) h.0 c.in-Macro.m.now c.as_slice.result.now (omega (arith, c.if-left-eq0.false)) c.as_slice.ensures h.3),
    ))
    c.body_calls.ensures

pub expr_calls-returns-in-Call : goal.expr_calls-returns-in-Call
expr_calls-returns-in-Call t c =
    let macros = (dictionary_of c.args.d.now).macros in
    let is = ap plain_expr c.in-Call.is ∙ expr_call _ ∙ ap (λ x. syntax.CallOf (plain_call x)) (sym c.get.ensures) in
    parts.some_map c.call_calls.result
    (λ n h. (h.0, h.1, h.2, subst (λ (x : syntax.Expr). ExprFits macros c.args.left c.args.targets x h.0) (sym is) h.3))
    c.call_calls.ensures

pub expr_calls-returns-in-Name : goal.expr_calls-returns-in-Name
expr_calls-returns-in-Name t c = (0, omega arith, c.requires, parts.name_fits (dictionary_of c.args.d.now).macros c.args.left c.args.targets (plain_expr c.args.e.now) _ (ap plain_expr c.in-Name.is ∙ expr_name _))

pub statement_calls-returns-in-Call : goal.statement_calls-returns-in-Call
statement_calls-returns-in-Call t c =
    let macros = (dictionary_of c.args.d.now).macros in
    parts.some_map c.call_calls.result
    (λ n h. (h.0, h.1, h.2, subst (λ (x : syntax.Stmt). StatementFits macros c.args.left x h.0) (sym (ap plain_stmt c.in-Call.is ∙ stmt_call _)) h.3))
    c.call_calls.ensures

pub statement_calls-returns-in-Assign : goal.statement_calls-returns-in-Assign
statement_calls-returns-in-Assign t c =
    let macros = (dictionary_of c.args.d.now).macros in
    parts.some_map c.expr_calls.result
    (λ n h. (h.0, h.1, h.2, subst (λ (x : syntax.Stmt). StatementFits macros c.args.left x h.0) (sym (ap plain_stmt c.in-Assign.is ∙ stmt_assign _)) (subst (λ (k : ℕ). ExprFits macros c.args.left k (plain_expr c.in-Assign.a.value) h.0) c.len.ensures h.3)))
    c.expr_calls.ensures
