-- What is read of a text is what the grammar says of it.
use Rattle.std.proofs.Common.{◌≡◌, List, ℕ, Result, Ok, Err, refl, ap}
use Rattle.std.specs.Prelude.{IfOk, IfErr}
use Rattle.dx_base.specs.declared.token.SyntaxError.{SyntaxError}
use Rattle.dx_ast.specs.declared.statements.Stmt.{Stmt}
use Rattle.dx_ast.specs.Script.{tokens_of, IsScript, IsFirstError}
use Rattle.dx_script_grammar.specs.Reading as reading
use Rattle.dx_script_grammar.specs.Reading.{Outcome}
use Rattle.dx_script_laws.proofs.Script as laws
use Rattle.dx_script_laws.proofs.TokensStand.{script_read, is_script, first_error_read, is_first_error}
use Rattle.dx_cursor.specs.declared.fail.ParseFail.{ParseFail}
use Rattle.dx_cursor.specs.declared.fail.ParseFail.TheVariants.{Refused, Memory}
use Rattle.dx_parser.specs.Answers.{OnRefused}
use Rattle.dx_include.specs.Computed.{answer_of, parsed}
use Rattle.dx_include.specs.Answers.{Parses}

pub script_parsed : (text : List ℕ) (statements : List Stmt) → IsScript text statements → parsed text ≡ Ok statements
unfolding parsed
script_parsed text statements d = ap answer_of (laws.only (tokens_of text) statements (script_read text statements d))

error_answer : (text : List ℕ) (f : SyntaxError) → IsFirstError text f → (r : Outcome (List Stmt)) → reading.script (tokens_of text) ≡ r → answer_of r ≡ Err f
error_answer text f d (Ok read) e = absurd ((first_error_read text f d).none read.0 (laws.sound (tokens_of text) read.0 read.1 e))
error_answer text f d (Err wrong) e = ap Err (laws.determined (tokens_of text) wrong.0 f (laws.exact (tokens_of text) wrong.0 wrong.1 e) (first_error_read text f d))

pub error_parsed : (text : List ℕ) (f : SyntaxError) → IsFirstError text f → parsed text ≡ Err f
unfolding parsed
error_parsed text f d = error_answer text f d (reading.script (tokens_of text)) refl

pub parses : (text : List ℕ) (r : Result (List Stmt) ParseFail) → IfOk r (IsScript text) → IfErr r (OnRefused (IsFirstError text)) → Parses (parsed text) r
parses text (Ok statements) found refused = script_parsed text statements found
parses text (Err (Refused f)) found refused = error_parsed text f refused
parses text (Err Memory) found refused = tt

-- what is answered is what the grammar says
abbrev pub Means : List ℕ → Result (List Stmt) SyntaxError → Type 0
Means text (Ok statements) = IsScript text statements
Means text (Err f) = IsFirstError text f

means : (text : List ℕ) (r : Outcome (List Stmt)) → reading.script (tokens_of text) ≡ r → Means text (answer_of r)
means text (Ok read) e = is_script text read.0 (laws.sound (tokens_of text) read.0 read.1 e)
means text (Err wrong) e = is_first_error text wrong.0 (laws.exact (tokens_of text) wrong.0 wrong.1 e)

pub parsed_means : (text : List ℕ) → Means text (parsed text)
unfolding parsed
parsed_means text = means text (reading.script (tokens_of text)) refl
