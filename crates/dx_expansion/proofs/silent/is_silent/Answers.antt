use Rattle.std.proofs.Common.{◌∙◌, ap, Option}
use Rattle.dx_ast.specs.Plain.{plain_expr, plain_stmt}
use Rattle.dx_macros.specs.Dictionary.{top_text}
use Rattle.dx_macros.proofs.Doing.{stmt_assign}
use Rattle.dx_definitions.specs.TopTexts.{TopText}
use Rattle.dx_expansion.specs.Driving.{effects_in}
use Rattle.dx_expansion.proofs.Silence.{assignment_silent}
use Rattle.dx_expansion.proofs.silent.is_silent.Goals as goal

pub returns-in-Assign : goal.returns-in-Assign
returns-in-Assign c = λ position h.
    ap (λ (t : Option TopText). effects_in t c.args.w.now position) (ap (λ s. top_text (plain_stmt s)) c.in-Assign.is ∙ ap top_text (stmt_assign _))
    ∙ assignment_silent c.args.w.now position (record { targets = c.in-Assign.a.targets; value = plain_expr c.in-Assign.a.value }) (c.is_silent_expr.ensures h)
