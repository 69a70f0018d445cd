-- The tokens that stand in a text are those that are read of it, and there are no others.
use Rattle.std.proofs.Common.{◌≡◌, ℕ, zero, suc, ◌-◌, ◌<◌, List, [], ◌∷◌, length, true, Result, Ok, Err, refl, sym, ap, subst, ◌∙◌, arith}
use Rattle.dx_base.specs.declared.token.Place.{Place}
use Rattle.dx_base.specs.declared.token.LexKind.{LexKind}
use Rattle.dx_base.specs.declared.token.LexKind.TheVariants as token
use Rattle.dx_base.specs.declared.token.Lexeme.{Lexeme}
use Rattle.dx_base.specs.declared.token.SyntaxError.{SyntaxError}
use Rattle.dx_base.specs.Tokens.Places.{first}
use Rattle.dx_base.specs.Tokens.Standing.{IsLexeme}
use Rattle.dx_base.specs.Tokens.Reading.{lexeme_at, IsReached, start, behind_token}
use Rattle.dx_base.proofs.Tokens.Reached as reach
use Rattle.dx_base.proofs.Tokens.Reached.{reached_placed}
use Rattle.dx_base.proofs.Tokens.StandingLaw.{lexeme_read, error_read, only_lexeme, only_error}
use Rattle.dx_grammar.specs.FirstError.{IsText, FirstError}
use Rattle.dx_ast.specs.declared.statements.Stmt.{Stmt}
use Rattle.dx_ast.specs.Classes.{misfit}
use Rattle.dx_ast.specs.Grammar.{script}
use Rattle.dx_ast.specs.Script.{Tokens, AreTokens, ends, goes_on, breaks_off, IsScript, IsFirstError, with_token, with_lexeme, tokens_by, tokens_from, tokens_of}
use Rattle.dx_script_laws.proofs.Texts.{tokens_next}

-- ---- what stands is read

at_end : (t : Lexeme) (k : LexKind) (s : Tokens) → k ≡ token.End → with_token t k s ≡ record { tokens = []; stop = misfit t; whole = true }
at_end t token.End s e = refl
at_end t (token.Name n) s e = cc
at_end t (token.Int n) s e = cc
at_end t (token.Text n) s e = cc
at_end t (token.Frame n) s e = cc
at_end t (token.Sign n) s e = cc

before_others : (t : Lexeme) (k : LexKind) (s : Tokens) → (k ≡ token.End → ⊥) → with_token t k s ≡ record s { tokens = t ∷ s.tokens }
before_others t token.End s more = absurd (more refl)
before_others t (token.Name n) s more = refl
before_others t (token.Int n) s more = refl
before_others t (token.Text n) s more = refl
before_others t (token.Frame n) s more = refl
before_others t (token.Sign n) s more = refl

-- the tokens from a place where this is read
tokens_behind : (text : List ℕ) (at : Place) (r : Result Lexeme SyntaxError) → IsReached text at → lexeme_at text at ≡ r → tokens_from text at ≡ with_lexeme r (tokens_from text)
tokens_behind text at r reached e = tokens_next text at reached ∙ ap (λ (x : Result Lexeme SyntaxError). with_lexeme x (tokens_from text)) e

pub are_read : (text : List ℕ) (at : Place) (s : Tokens) → IsReached text at → AreTokens text at s → s ≡ tokens_from text at
are_read text _ _ reached (ends at t is e) = sym (tokens_behind text at (Ok t) reached (lexeme_read text at t is) ∙ at_end t t.kind (tokens_from text t.to) e)
are_read text _ _ reached (goes_on at t behind is more rest) =
    let read = lexeme_read text at t is in
    let same : behind ≡ tokens_from text t.to = are_read text t.to behind (behind_token at t reached read) rest in
    ap (λ (b : Tokens). let s : Tokens = record b { tokens = t ∷ b.tokens } in s) same ∙ sym (tokens_behind text at (Ok t) reached read ∙ before_others t t.kind (tokens_from text t.to) more)
are_read text _ _ reached (breaks_off at f is) = sym (tokens_behind text at (Err f) reached (error_read text at f is))

-- ---- what is read stands

one_stands : (text : List ℕ) (at : Place) (t : Lexeme) (k : LexKind) (s : Tokens) → IsLexeme text at t → t.kind ≡ k → ((k ≡ token.End → ⊥) → AreTokens text t.to s) → AreTokens text at (with_token t k s)
one_stands text at t token.End s is e rest = ends at t is e
one_stands text at t (token.Name n) s is e rest = goes_on at t s is (λ h. absurd cc) (rest (λ h. absurd cc))
one_stands text at t (token.Int n) s is e rest = goes_on at t s is (λ h. absurd cc) (rest (λ h. absurd cc))
one_stands text at t (token.Text n) s is e rest = goes_on at t s is (λ h. absurd cc) (rest (λ h. absurd cc))
one_stands text at t (token.Frame n) s is e rest = goes_on at t s is (λ h. absurd cc) (rest (λ h. absurd cc))
one_stands text at t (token.Sign n) s is e rest = goes_on at t s is (λ h. absurd cc) (rest (λ h. absurd cc))

read_stands : (text : List ℕ) (at : Place) (r : Result Lexeme SyntaxError) (behind : Place → Tokens) → lexeme_at text at ≡ r
    → ((t : Lexeme) → r ≡ Ok t → (t.kind ≡ token.End → ⊥) → AreTokens text t.to (behind t.to)) → AreTokens text at (with_lexeme r behind)
read_stands text at (Ok t) behind e rest = one_stands text at t t.kind (behind t.to) (only_lexeme text at t e).stands refl (rest t refl)
read_stands text at (Err f) behind e rest = breaks_off at f (only_error text at f e).stands

all_stand : (n : ℕ) (text : List ℕ) (at : Place) → IsReached text at → length text - at.offset < n → AreTokens text at (tokens_by n text at)
unfolding tokens_by
all_stand zero text at reached h = absurd (omega arith)
all_stand (suc n) text at reached h = read_stands text at (lexeme_at text at) (tokens_by n text) refl (λ t e more.
    let on : at.offset < t.to.offset = reach.goes_on text at t reached e more in
    let behind : IsReached text t.to = behind_token at t reached e in
    let inside = (reached_placed text t.to behind).offset in
    all_stand n text t.to behind (omega arith))

pub stand : (text : List ℕ) → AreTokens text first (tokens_of text)
unfolding tokens_from
stand text = all_stand (suc (length text - first.offset)) text first start (omega arith)

-- ---- whole texts

pub script_read : (text : List ℕ) (statements : List Stmt) → IsScript text statements → IsText script (tokens_of text) statements
script_read text statements is = subst (λ (s : Tokens). IsText script s statements) (are_read text first is.tokens start is.stand) is.says

pub is_script : (text : List ℕ) (statements : List Stmt) → IsText script (tokens_of text) statements → IsScript text statements
is_script text statements says = record { tokens = tokens_of text; stand = stand text; says = says }

pub first_error_read : (text : List ℕ) (f : SyntaxError) → IsFirstError text f → FirstError misfit script (tokens_of text) f
first_error_read text f is = subst (λ (s : Tokens). FirstError misfit script s f) (are_read text first is.tokens start is.stand) is.fails

pub is_first_error : (text : List ℕ) (f : SyntaxError) → FirstError misfit script (tokens_of text) f → IsFirstError text f
is_first_error text f fails = record { tokens = tokens_of text; stand = stand text; fails = fails }
