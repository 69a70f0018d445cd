use Rattle.dx_expr_grammar.specs.Tokens.{tokens_of}
use Rattle.dx_expr_grammar.specs.Reading.{Reads, expression}
use Rattle.dx_expr_parser.proofs.Answered.{is_found, is_only, is_refused}
use Rattle.dx_expr_parser.proofs.parser.parse_expr.Goals as goal
use Rattle.dx_expr_parser.proofs.parser.parse_expr.Goals.{After-text}

reads : (c : After-text) → Reads (expression (tokens_of c.args.t.now)) c.text.result c.text.new.cursor
reads c = rw (← c.new-cursor.ensures) c.text.ensures

pub returns-clause-found : goal.returns-clause-found
returns-clause-found c = is_found _ _ _ (reads (goal.at.returns-clause-found c).After-text)

pub returns-clause-only : goal.returns-clause-only
returns-clause-only c = is_only _ _ _ (reads (goal.at.returns-clause-only c).After-text)

pub returns-clause-refused : goal.returns-clause-refused
returns-clause-refused c = is_refused _ _ _ (reads (goal.at.returns-clause-refused c).After-text)
