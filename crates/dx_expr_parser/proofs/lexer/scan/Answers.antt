use Rattle.std.proofs.Common.{sym, ◌∙◌, arith}
use Rattle.dx_expr_laws.proofs.Tokens.{end_next}
use Rattle.dx_expr_parser.proofs.lexer.scan.Goals as goal

pub returns-in-empty-clause-same : goal.returns-in-empty-clause-same
returns-in-empty-clause-same c = sym c.unblanked-at.ensures.same ∙ end_next _ _ (omega arith) ∙ sym (c.end.ensures _)
