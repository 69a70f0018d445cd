use Rattle.std.proofs.Common.{ap, subst}
use Rattle.dx_grammar.specs.FirstError.{FirstError}
use Rattle.dx_expr_parser.specs.Answer.{OnRefused}
use Rattle.dx_expr_grammar.specs.Grammar as grammar
use Rattle.dx_expr_grammar.specs.Tokens.{tokens_of}
use Rattle.dx_expr_grammar.specs.Words.{misfit}
use Rattle.dx_expr_bounds.proofs.Grammar.{text_bounded}
use Rattle.dx_compute_meaning.specs.Expressions.{or_bad}
use Rattle.dx_compute_meaning.proofs.Parsing.{parsed_ok, parsed_err}
use Rattle.dx_compute.proofs.expression.expression_of.Goals as goal

pub returns-in-Ok-clause-answer : goal.returns-in-Ok-clause-answer
returns-in-Ok-clause-answer c = ap or_bad (parsed_ok c.args.text.now c.in-Ok.e c.in-Ok.ensures.found)

pub returns-in-Ok-clause-bounded : goal.returns-in-Ok-clause-bounded
returns-in-Ok-clause-bounded c = text_bounded (tokens_of c.args.text.now) c.in-Ok.e c.in-Ok.ensures.found

pub returns-in-Err-Refused-clause-answer : goal.returns-in-Err-Refused-clause-answer
returns-in-Err-Refused-clause-answer c =
    ap or_bad (parsed_err c.args.text.now c.in-Err-Refused.at (subst (λ f. OnRefused (FirstError misfit grammar.expression (tokens_of c.args.text.now)) f) c.in-Err-Refused.field-0-is c.in-Err-Refused.ensures.refused))
