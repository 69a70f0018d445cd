-- What the reading answers, in the words of the grammar.
use Rattle.std.proofs.Common.{ℕ, ◌≤◌, length, List, Result, Ok, Err, sym, ap, ◌∙◌}
use Rattle.std.specs.Prelude.{IfOk, IfErr}
use Rattle.dx_base.specs.declared.token.SyntaxError.{SyntaxError}
use Rattle.dx_grammar.proofs.Read.{ok_is, not_both}
use Rattle.dx_grammar.proofs.Exact.{emptied}
use Rattle.dx_ast.specs.declared.statements.Stmt.{Stmt}
use Rattle.dx_script_grammar.specs.Reading.{Tokens, script}
use Rattle.dx_ast.specs.Script.{tokens_of, IsScript, IsFirstError}
use Rattle.dx_ast.specs.Plain.{plain_stmts}
use Rattle.dx_ast.specs.Lawful.{AreLawful}
use Rattle.dx_script_laws.proofs.LawfulScripts.{lawful}
use Rattle.dx_script_laws.proofs.Script.{sound, only, exact, determined}
use Rattle.dx_script_laws.proofs.TokensStand.{script_read, is_script, first_error_read, is_first_error}
use Rattle.dx_cursor.specs.declared.fail.ParseFail.{ParseFail}
use Rattle.dx_cursor.specs.declared.fail.ParseFail.TheVariants.{Refused, Memory}
use Rattle.dx_cursor.specs.Answers.{Reads}
use Rattle.dx_parser.specs.Answers.{IsOnly, IsOnlyError, OnRefused}

pub is_found : (text : List ℕ) (left : Tokens) (r : Result (List Stmt) ParseFail) → Reads (script (tokens_of text)) r left → IfOk r (IsScript text)
is_found text left (Ok found) h = is_script text found (sound (tokens_of text) found left h)
is_found text left (Err e) h = tt

pub is_only : (text : List ℕ) (left : Tokens) (r : Result (List Stmt) ParseFail) → Reads (script (tokens_of text)) r left → (statements : List Stmt) → IsScript text statements → IsOnly statements r
is_only text left (Ok found) h v d =
    let s = tokens_of text in
    ap (λ (p : List Stmt × Tokens). p.0) (ok_is {Y = SyntaxError × Tokens} (v, emptied s) (found, left) (sym (only s v (script_read text v d)) ∙ h))
is_only text left (Err (Refused f)) h v d = let s = tokens_of text in not_both (script s) (v, emptied s) (f, left) (only s v (script_read text v d)) h
is_only text left (Err Memory) h v d = tt

pub is_refused : (text : List ℕ) (left : Tokens) (r : Result (List Stmt) ParseFail) → Reads (script (tokens_of text)) r left → IfErr r (OnRefused (IsFirstError text))
is_refused text left (Ok found) h = tt
is_refused text left (Err (Refused f)) h = is_first_error text f (exact (tokens_of text) f left h)
is_refused text left (Err Memory) h = tt

pub is_error : (text : List ℕ) (left : Tokens) (r : Result (List Stmt) ParseFail) → Reads (script (tokens_of text)) r left → (f : SyntaxError) → IsFirstError text f → IsOnlyError f r
is_error text left (Ok found) h f d = (first_error_read text f d).none found (sound (tokens_of text) found left h)
is_error text left (Err (Refused g)) h f d = determined (tokens_of text) f g (first_error_read text f d) (exact (tokens_of text) g left h)
is_error text left (Err Memory) h f d = tt

pub is_lawful : (text : List ℕ) (r : Result (List Stmt) ParseFail) → IfOk r (IsScript text) → length text ≤ 16777216 → IfOk r (λ statements. AreLawful (plain_stmts statements))
is_lawful text (Ok found) h short = lawful text found h short
is_lawful text (Err e) h short = tt
