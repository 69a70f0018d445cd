-- Each text has one script or one first error, and never both.
use Rattle.std.proofs.Common.{◌≡◌, List, ℕ, inl, inr, Ok, Err, refl, sym, ap, ◌∙◌}
use Rattle.dx_base.specs.declared.token.SyntaxError.{SyntaxError}
use Rattle.dx_grammar.proofs.Read.{ok_is}
use Rattle.dx_grammar.proofs.Exact.{emptied}
use Rattle.dx_ast.specs.declared.statements.Stmt.{Stmt}
use Rattle.dx_ast.specs.Script.{Tokens, tokens_of, IsScript, IsFirstError}
use Rattle.dx_script_grammar.specs.Reading as reading
use Rattle.dx_script_grammar.specs.Reading.{Outcome}
use Rattle.dx_script_laws.specs.Meaning.{HasMeaning}
use Rattle.dx_script_laws.proofs.Script as laws
use Rattle.dx_script_laws.proofs.TokensStand.{script_read, is_script, first_error_read, is_first_error}

by_reading : (text : List ℕ) (r : Outcome (List Stmt)) → reading.script (tokens_of text) ≡ r → HasMeaning text
by_reading text (Ok read) e = inl (read.0, is_script text read.0 (laws.sound (tokens_of text) read.0 read.1 e))
by_reading text (Err wrong) e = inr (wrong.0, is_first_error text wrong.0 (laws.exact (tokens_of text) wrong.0 wrong.1 e))

pub has_meaning : (text : List ℕ) → HasMeaning text
has_meaning text = by_reading text (reading.script (tokens_of text)) refl

pub one_script : (text : List ℕ) (a b : List Stmt) → IsScript text a → IsScript text b → a ≡ b
one_script text a b x y =
    let s = tokens_of text in
    ap (λ (p : List Stmt × Tokens). p.0) (ok_is {Y = SyntaxError × Tokens} (a, emptied s) (b, emptied s) (sym (laws.only s a (script_read text a x)) ∙ laws.only s b (script_read text b y)))

pub one_first_error : (text : List ℕ) (f g : SyntaxError) → IsFirstError text f → IsFirstError text g → f ≡ g
one_first_error text f g x y = laws.determined (tokens_of text) f g (first_error_read text f x) (first_error_read text g y)

pub not_both : (text : List ℕ) (a : List Stmt) (f : SyntaxError) → IsScript text a → IsFirstError text f → ⊥
not_both text a f x y = (first_error_read text f y).none a (script_read text a x)
