-- The tokens of a text one after the other: a token stands before those from its end on.
use Rattle.std.proofs.Common.{◌≡◌, ℕ, zero, suc, ◌-◌, ◌<◌, List, length, Result, Ok, Err, refl, ap, arith}
use Rattle.dx_base.specs.declared.token.Place.{Place}
use Rattle.dx_base.specs.declared.token.LexKind.{LexKind}
use Rattle.dx_base.specs.declared.token.LexKind.TheVariants as token
use Rattle.dx_base.specs.declared.token.Lexeme.{Lexeme}
use Rattle.dx_base.specs.declared.token.SyntaxError.{SyntaxError}
use Rattle.dx_base.specs.Tokens.Reading.{lexeme_at, IsReached, behind_token}
use Rattle.dx_base.proofs.Tokens.Reached.{reached_placed, goes_on}
use Rattle.dx_ast.specs.Script.{Tokens, with_token, with_lexeme, tokens_by, tokens_from}

-- what stands behind the end doesn't matter
same_behind : (t : Lexeme) (k : LexKind) (x y : Tokens) → ((k ≡ token.End → ⊥) → x ≡ y) → with_token t k x ≡ with_token t k y
same_behind t token.End x y same = refl
same_behind t (token.Name n) x y same = ap (with_token t (token.Name n)) (same (λ e. absurd cc))
same_behind t (token.Int n) x y same = ap (with_token t (token.Int n)) (same (λ e. absurd cc))
same_behind t (token.Text n) x y same = ap (with_token t (token.Text n)) (same (λ e. absurd cc))
same_behind t (token.Frame n) x y same = ap (with_token t (token.Frame n)) (same (λ e. absurd cc))
same_behind t (token.Sign n) x y same = ap (with_token t (token.Sign n)) (same (λ e. absurd cc))

same_lexeme : (r : Result Lexeme SyntaxError) (f g : Place → Tokens) → ((t : Lexeme) → r ≡ Ok t → (t.kind ≡ token.End → ⊥) → f t.to ≡ g t.to) → with_lexeme r f ≡ with_lexeme r g
same_lexeme (Ok t) f g same = same_behind t t.kind (f t.to) (g t.to) (λ more. same t refl more)
same_lexeme (Err e) f g same = refl

-- how many are allowed doesn't matter, where there are enough
tokens_same : (n m : ℕ) (text : List ℕ) (at : Place) → IsReached text at → length text - at.offset < n → length text - at.offset < m → tokens_by n text at ≡ tokens_by m text at
unfolding tokens_by
tokens_same zero m text at reached h g = absurd (omega arith)
tokens_same (suc n) zero text at reached h g = absurd (omega arith)
tokens_same (suc n) (suc m) text at reached h g = same_lexeme (lexeme_at text at) (tokens_by n text) (tokens_by m text) (λ t e more.
    let on : at.offset < t.to.offset = goes_on text at t reached e more in
    let behind : IsReached text t.to = behind_token at t reached e in
    let inside = (reached_placed text t.to behind).offset in
    tokens_same n m text t.to behind (omega arith) (omega arith))

pub tokens_next : (text : List ℕ) (at : Place) → IsReached text at → tokens_from text at ≡ with_lexeme (lexeme_at text at) (tokens_from text)
unfolding tokens_from tokens_by
tokens_next text at reached = same_lexeme (lexeme_at text at) (tokens_by (length text - at.offset) text) (tokens_from text) (λ t e more.
    let on : at.offset < t.to.offset = goes_on text at t reached e more in
    let behind : IsReached text t.to = behind_token at t reached e in
    let inside = (reached_placed text t.to behind).offset in
    tokens_same (length text - at.offset) (suc (length text - t.to.offset)) text t.to behind (omega arith) (omega arith))
