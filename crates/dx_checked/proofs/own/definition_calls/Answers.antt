use Rattle.std.proofs.Common.{ℕ, subst}
use Rattle.dx_ast.specs.Plain.{plain_expr}
use Rattle.dx_macros.specs.DictionaryView.{dictionary_of}
use Rattle.dx_checked.specs.Own.{ExprFits}
use Rattle.dx_checked.proofs.Parts.{some_map}
use Rattle.dx_checked.proofs.own.definition_calls.Goals as goal

pub returns : goal.returns
returns c =
    some_map c.expr_calls.result
    (λ n h. (h.0, h.1, h.2, subst (λ (k : ℕ). ExprFits (dictionary_of c.args.d.now).macros 64 k (plain_expr c.args.a.now.value) h.0) c.len.ensures h.3))
    c.expr_calls.ensures
