-- The classes of tokens: each is read, and what each looks like.
use Rattle.std.proofs.Common.{◌≡◌, ℕ, zero, suc, Bool, true, false, not, ◌&&◌, eqb, List, [], ◌∷◌, Option, Some, None, refl, sym, ap, subst, arith}
use Rattle.std.specs.Prelude.{is_some, nat_lt, if◌then◌else◌}
use Rattle.std.proofs.lemmas.Bool.{eqb-true}
use Rattle.dx_expr_grammar.specs.declared.token.Token.{Token}
use Rattle.dx_expr_grammar.specs.declared.token.TokenKind.{TokenKind}
use Rattle.dx_expr_grammar.specs.declared.token.TokenKind.TheVariants as kind
use Rattle.dx_expr_grammar.specs.declared.token.Sign.{Sign}
use Rattle.dx_expr_grammar.specs.declared.token.Sign.TheVariants as s
use Rattle.dx_grammar.specs.Stream.{looks}
use Rattle.dx_grammar.proofs.Read as read
use Rattle.dx_grammar.proofs.Read.{Any, Opens, Alike}
use Rattle.dx_grammar.proofs.Compose as compose
use Rattle.dx_grammar.proofs.Compose.{opens_one, looks_near}
use Rattle.dx_expr_grammar.specs.Tokens.{Tokens}
use Rattle.dx_expr_grammar.specs.Words.{misfit, code, only_at, is_sign_in, sign_of, digits_in, digits_of, is_digits_in, class_in, class_of}
use Rattle.dx_expr_grammar.specs.Grammar as grammar
use Rattle.dx_expr_grammar.specs.Grammar.{Rule}
use Rattle.dx_expr_grammar.specs.Reading as reading
use Rattle.dx_expr_grammar.specs.Reading.{Parser, sees, sees_digits, sees_class}

abbrev pub Reads : {A : Type 0} → Rule A → Parser A → (Tokens → Type 0) → Type 0
Reads X P Stop = read.Reads misfit X P Stop

-- ---- a test of every sign

abbrev pub signs_by_code : List Sign
signs_by_code =
    s.Question ∷ s.Colon ∷ s.Or ∷ s.And ∷ s.Equal ∷ s.NotEqual ∷ s.Less ∷ s.LessEqual ∷ s.Greater ∷ s.GreaterEqual ∷ s.Plus ∷ s.Minus ∷ s.Times ∷ s.Over
    ∷ s.Percent ∷ s.Not ∷ s.Dot ∷ s.Dollar ∷ s.Open ∷ s.Close ∷ s.OpenVector ∷ s.CloseVector ∷ s.Comma ∷ s.Abs ∷ s.SignOf ∷ s.Min ∷ s.Max ∷ s.DotProduct ∷ []

-- which sign has the code
abbrev at_code : List Sign → ℕ → Option Sign
at_code [] n = None
at_code (x ∷ rest) zero = Some x
at_code (x ∷ rest) (suc n) = at_code rest n

coded : (x : Sign) → at_code signs_by_code (code x) ≡ Some x
coded s.Question = refl
coded s.Colon = refl
coded s.Or = refl
coded s.And = refl
coded s.Equal = refl
coded s.NotEqual = refl
coded s.Less = refl
coded s.LessEqual = refl
coded s.Greater = refl
coded s.GreaterEqual = refl
coded s.Plus = refl
coded s.Minus = refl
coded s.Times = refl
coded s.Over = refl
coded s.Percent = refl
coded s.Not = refl
coded s.Dot = refl
coded s.Dollar = refl
coded s.Open = refl
coded s.Close = refl
coded s.OpenVector = refl
coded s.CloseVector = refl
coded s.Comma = refl
coded s.Abs = refl
coded s.SignOf = refl
coded s.Min = refl
coded s.Max = refl
coded s.DotProduct = refl

abbrev pub every : (Sign → Bool) → List Sign → Bool
every test [] = true
every test (x ∷ rest) = test x && every test rest

first_holds : (a b : Bool) → (a && b) ≡ true → a ≡ true
first_holds true b h = refl
first_holds false b h = absurd cc

rest_holds : (a b : Bool) → (a && b) ≡ true → b ≡ true
rest_holds true b h = h
rest_holds false b h = absurd cc

every_at : (test : Sign → Bool) (l : List Sign) (n : ℕ) (x : Sign) → every test l ≡ true → at_code l n ≡ Some x → test x ≡ true
every_at test [] n x h e = absurd cc
every_at test (y ∷ rest) zero x h e = let same : y ≡ x = cc in subst (λ y. test y ≡ true) same (first_holds (test y) (every test rest) h)
every_at test (y ∷ rest) (suc n) x h e = every_at test rest n x (rest_holds (test y) (every test rest) h) e

-- a test that every sign passes
pub each_sign : (test : Sign → Bool) → every test signs_by_code ≡ true → (x : Sign) → test x ≡ true
each_sign test h x = every_at test signs_by_code (code x) x h (coded x)

-- signs are told apart by their codes
code_same : (x y : Sign) → code x ≡ code y → x ≡ y
code_same x y e = let same : at_code signs_by_code (code x) ≡ at_code signs_by_code (code y) = ap (at_code signs_by_code) e in let a = coded x in let b = coded y in cc

-- where both tests never hold of one sign
pub apart : (a b : Bool) → not (a && b) ≡ true → a ≡ true → b ≡ false
apart true true h e = absurd cc
apart true false h e = refl
apart false b h e = absurd cc

-- ---- looks

abbrev pub Like : (TokenKind → Bool) → Bool → Tokens → Type 0
Like like b u = looks (λ t. like t.kind) u ≡ b

pub sees_near : (x : Sign) (v u : Tokens) → Alike v u → sees x v ≡ sees x u
unfolding sees
sees_near x v u same = looks_near (λ t. is_sign_in x t.kind) v u same

pub digits_near : (v u : Tokens) → Alike v u → sees_digits v ≡ sees_digits u
unfolding sees_digits
digits_near v u same = looks_near (λ t. is_digits_in t.kind) v u same

pub class_near : {A : Type 0} (known : Sign → Option A) (v u : Tokens) → Alike v u → sees_class known v ≡ sees_class known u
unfolding sees_class
class_near known v u same = looks_near (λ t. is_some (class_of known t)) v u same

-- ---- what a token of a class is

sign_is_by : (x : Sign) (k : TokenKind) (b : Bool) (at p : ℕ) → is_sign_in x k ≡ b → only_at at b ≡ Some p → k ≡ kind.Sign x
sign_is_by x (kind.Sign y) true at p e h = ap kind.Sign (code_same y x (eqb-true (code y) (code x) e))
sign_is_by x (kind.Digits n) true at p e h = absurd cc
sign_is_by x k false at p e h = absurd cc

sign_is : (x : Sign) (t : Token) (p : ℕ) → sign_of x t ≡ Some p → t.kind ≡ kind.Sign x
sign_is x t p h = sign_is_by x t.kind (is_sign_in x t.kind) t.at p refl h

digits_is : (most : ℕ) (k : TokenKind) (p : ℕ) → digits_in most k ≡ Some p → (n : ℕ) × (k ≡ kind.Digits n)
digits_is most (kind.Sign x) p h = absurd cc
digits_is most (kind.Digits n) p h = (n, refl)

class_is : {A : Type 0} (known : Sign → Option A) (k : TokenKind) (a : A) → class_in known k ≡ Some a → (x : Sign) × (k ≡ kind.Sign x) × (known x ≡ Some a)
class_is known (kind.Sign x) a h = (x, refl, h)
class_is known (kind.Digits n) a h = absurd cc

pub opens_sign : (x : Sign) (like : TokenKind → Bool) (b : Bool) → like (kind.Sign x) ≡ b → Opens (grammar.sign x) Any (Like like b)
opens_sign x like b h = opens_one (sign_of x) Any (Like like b) (λ t p e u. subst (λ k. like k ≡ b) (sym (sign_is x t p e)) h)

pub opens_digits : (most : ℕ) (like : TokenKind → Bool) (b : Bool) → ((n : ℕ) → like (kind.Digits n) ≡ b) → Opens (grammar.digits most) Any (Like like b)
opens_digits most like b h = opens_one (digits_of most) Any (Like like b) (λ t p e u. let is = digits_is most t.kind p e in subst (λ k. like k ≡ b) (sym is.1) (h is.0))

pub opens_class : {A : Type 0} (known : Sign → Option A) (like : TokenKind → Bool) (b : Bool) → ((x : Sign) (a : A) → known x ≡ Some a → like (kind.Sign x) ≡ b) → Opens (grammar.class known) Any (Like like b)
opens_class known like b h = opens_one (class_of known) Any (Like like b) (λ t a e u. let is = class_is known t.kind a e in subst (λ k. like k ≡ b) (sym is.1) (h is.0 a is.2))

-- ---- what each token looks like

same_code : (n : ℕ) → eqb n n ≡ true
same_code n = search arith

pub sign_has : (x : Sign) → Opens (grammar.sign x) Any (λ u. sees x u ≡ true)
unfolding sees
sign_has x = opens_sign x (is_sign_in x) true (same_code (code x))

pub sign_lacks : (x y : Sign) → eqb (code x) (code y) ≡ false → Opens (grammar.sign x) Any (λ u. sees y u ≡ false)
unfolding sees
sign_lacks x y e = opens_sign x (is_sign_in y) false e

pub digits_lacks : (most : ℕ) (y : Sign) → Opens (grammar.digits most) Any (λ u. sees y u ≡ false)
unfolding sees
digits_lacks most y = opens_digits most (is_sign_in y) false (λ n. refl)

pub class_lacks : {A : Type 0} (known : Sign → Option A) (y : Sign) → every (λ x. not (is_some (known x) && eqb (code x) (code y))) signs_by_code ≡ true → Opens (grammar.class known) Any (λ u. sees y u ≡ false)
unfolding sees
class_lacks known y h = opens_class known (is_sign_in y) false (λ x a e. apart (is_some (known x)) (eqb (code x) (code y)) (each_sign (λ x. not (is_some (known x) && eqb (code x) (code y))) h x) (ap is_some e))

pub digits_digits : (most : ℕ) → Opens (grammar.digits most) Any (λ u. sees_digits u ≡ true)
unfolding sees_digits
digits_digits most = opens_digits most is_digits_in true (λ n. refl)

pub sign_digits : (x : Sign) → Opens (grammar.sign x) Any (λ u. sees_digits u ≡ false)
unfolding sees_digits
sign_digits x = opens_sign x is_digits_in false refl

pub class_digits : {A : Type 0} (known : Sign → Option A) → Opens (grammar.class known) Any (λ u. sees_digits u ≡ false)
unfolding sees_digits
class_digits known = opens_class known is_digits_in false (λ x a e. refl)

abbrev pub in_class : {A : Type 0} → (Sign → Option A) → TokenKind → Bool
in_class known k = is_some (class_in known k)

pub class_has : {A : Type 0} (known : Sign → Option A) → Opens (grammar.class known) Any (λ u. sees_class known u ≡ true)
unfolding sees_class
class_has known = opens_class known (in_class known) true (λ x a e. ap is_some e)

pub sign_unlike : {A : Type 0} (x : Sign) (known : Sign → Option A) → is_some (known x) ≡ false → Opens (grammar.sign x) Any (λ u. sees_class known u ≡ false)
unfolding sees_class
sign_unlike x known h = opens_sign x (in_class known) false h

pub digits_unlike : {A : Type 0} (most : ℕ) (known : Sign → Option A) → Opens (grammar.digits most) Any (λ u. sees_class known u ≡ false)
unfolding sees_class
digits_unlike most known = opens_digits most (in_class known) false (λ n. refl)

pub class_unlike : {A B : Type 0} (known : Sign → Option A) (other : Sign → Option B) → every (λ x. not (is_some (known x) && is_some (other x))) signs_by_code ≡ true → Opens (grammar.class known) Any (λ u. sees_class other u ≡ false)
unfolding sees_class
class_unlike known other h =
    opens_class known (in_class other) false (λ x a e. apart (is_some (known x)) (is_some (other x)) (each_sign (λ x. not (is_some (known x) && is_some (other x))) h x) (ap is_some e))

-- ---- each is read

abbrev token : TokenKind → Token
token k = record { kind = k; at = 0 }

pub sign : (x : Sign) → Reads (grammar.sign x) (reading.sign x) Any
unfolding reading.sign
sign x = compose.reads_one misfit (sign_of x) (token (kind.Sign x)) 0 (ap (only_at 0) (same_code (code x)))

pub digits : (most : ℕ) → Reads (grammar.digits most) (reading.digits most) Any
unfolding reading.digits
digits most = compose.reads_one misfit (digits_of most) (token (kind.Digits 0)) 0 (let e : nat_lt most 0 ≡ false = search arith in ap (λ b. if b then None else Some 0) e)

-- a class of which this sign is one
pub class : {A : Type 0} (known : Sign → Option A) (x : Sign) (a : A) → known x ≡ Some a → Reads (grammar.class known) (reading.class known) Any
unfolding reading.class
class known x a e = compose.reads_one misfit (class_of known) (token (kind.Sign x)) a e
