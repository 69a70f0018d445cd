use Rattle.std.proofs.Common.{subst}
use Rattle.dx_ast.specs.Script.{Tokens, tokens_of}
use Rattle.dx_script_grammar.specs.Reading.{script}
use Rattle.dx_cursor.specs.Answers.{Reads}
use Rattle.dx_parser.proofs.Answered.{is_found, is_only, is_error, is_refused, is_lawful}
use Rattle.dx_parser.proofs.script.parse.Goals as goal
use Rattle.dx_parser.proofs.script.parse.Goals.{After-script}

reads : (c : After-script) → Reads (script (tokens_of c.args.text.now)) c.script.result c.script.new.cursor
reads c = subst (λ (s : Tokens). Reads (script s) c.script.result c.script.new.cursor) c.in_ok-cursor.ensures.tokens c.script.ensures

pub returns-clause-found : goal.returns-clause-found
returns-clause-found c = is_found _ _ _ (reads (goal.at.returns-clause-found c).After-script)

pub returns-clause-only : goal.returns-clause-only
returns-clause-only c = is_only _ _ _ (reads (goal.at.returns-clause-only c).After-script)

pub returns-clause-refused : goal.returns-clause-refused
returns-clause-refused c = is_refused _ _ _ (reads (goal.at.returns-clause-refused c).After-script)

pub returns-clause-error : goal.returns-clause-error
returns-clause-error c = is_error _ _ _ (reads (goal.at.returns-clause-error c).After-script)

pub returns-clause-lawful : goal.returns-clause-lawful
returns-clause-lawful c =
    let s = (goal.at.returns-clause-lawful c).After-script in
    is_lawful _ _ (is_found _ _ _ (reads s))
