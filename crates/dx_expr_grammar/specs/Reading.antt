-- How an expression is read, with one token in hand.
use Rattle.std.specs.Prelude.{◌≡◌, ℕ, zero, suc, ◌==◌, Bool, List, [], ◌∷◌, length, Option, Some, None, Result, Ok, Err, is_some, if◌then◌else◌}
use Rattle.dx_expr_grammar.specs.declared.fail.ExprFail.{ExprFail}
use Rattle.dx_expr_grammar.specs.declared.fail.ExprFail.TheVariants as refusal
use Rattle.dx_expr_grammar.specs.declared.token.Token.{Token}
use Rattle.dx_expr_grammar.specs.declared.token.Sign.{Sign}
use Rattle.dx_expr_grammar.specs.declared.token.Sign.TheVariants as s
use Rattle.dx_expr_grammar.specs.declared.tree.Binary.{Binary}
use Rattle.dx_expr_grammar.specs.declared.tree.Level.{Level}
use Rattle.dx_expr_grammar.specs.declared.tree.Level.TheVariants as level
use Rattle.dx_expr_grammar.specs.declared.tree.Expression.{Expression}
use Rattle.dx_expr_grammar.specs.declared.tree.Expression.TheVariants as e
use Rattle.dx_grammar.specs.Stream as stream
use Rattle.dx_grammar.specs.Stream.{◌>>=◌, ◌>>◌, pure, fail, passes, choose, while, looks}
use Rattle.dx_grammar.specs.Rule.{snoc}
use Rattle.dx_expr_grammar.specs.Tokens.{Tokens}
use Rattle.dx_expr_grammar.specs.Words.{misfit, sign_of, digits_of, class_of, operator_at, prefix, one_operand, two_operands, is_sign_in, is_digits_in}
use Rattle.dx_expr_grammar.specs.Grammar.{joined, Part, Whole, Signed}

abbrev pub Parser : Type 0 → Type 0
Parser A = stream.Parser Token ℕ A

abbrev pub Outcome : Type 0 → Type 0
Outcome A = stream.Outcome Token ℕ A

-- What a function that parses ensures: the parser's outcome, unless memory runs out.
abbrev pub Fails : {A : Type 0} → Outcome A → ExprFail → Tokens → Type 0
Fails outcome (refusal.Refused at) new = outcome ≡ Err (at, new)
Fails outcome refusal.Memory new = Unit {0}

abbrev pub Reads : {A : Type 0} → Outcome A → Result A ExprFail → Tokens → Type 0
Reads outcome (Ok a) new = outcome ≡ Ok (a, new)
Reads outcome (Err f) new = Fails outcome f new

-- ---- tokens

unfoldable pub sign : Sign → Parser ℕ
sign x = stream.one misfit (sign_of x)

unfoldable pub digits : ℕ → Parser ℕ
digits most = stream.one misfit (digits_of most)

unfoldable pub class : {A : Type 0} → (Sign → Option A) → Parser A
class known = stream.one misfit (class_of known)

unfoldable pub sees : Sign → Tokens → Bool
sees x = looks (λ t. is_sign_in x t.kind)

unfoldable pub sees_digits : Tokens → Bool
sees_digits = looks (λ t. is_digits_in t.kind)

unfoldable pub sees_class : {A : Type 0} → (Sign → Option A) → Tokens → Bool
sees_class known = looks (λ t. is_some (class_of known t))

-- ---- operators between operands

unfoldable pub right_side : Level → Parser Expression → Parser (Binary × Expression)
right_side l operand = do
  o ← class (operator_at l)
  b ← operand
  pure (o, b)

unfoldable pub chain : Level → Parser Expression → Parser Expression
chain l operand = do
  a ← operand
  while (sees_class (operator_at l)) (λ found. right_side l operand) joined a

unfoldable pub once : Level → Parser Expression → Parser Expression
once l operand = do
  a ← operand
  choose (sees_class (operator_at l)) (do p ← right_side l operand; pure (joined a p)) (pure a)

-- the operands of the operators of a level
abbrev pub operand : Parser Expression → Level → Parser Expression
operand signed level.Product = signed
operand signed level.Sum = chain level.Product signed
operand signed level.Relation = chain level.Sum (chain level.Product signed)
operand signed level.Equality = once level.Relation (chain level.Sum (chain level.Product signed))
operand signed level.And = once level.Equality (once level.Relation (chain level.Sum (chain level.Product signed)))
operand signed level.Or = chain level.And (once level.Equality (once level.Relation (chain level.Sum (chain level.Product signed))))

abbrev pub disjunction : Parser Expression → Parser Expression
disjunction signed = chain level.Or (operand signed level.Or)

-- ---- brackets

unfoldable pub opening : Sign → ℕ → Parser ℕ
opening x zero = sign x >>= λ at. fail at
opening x (suc inner) = sign x >> pure inner

unfoldable pub number : Parser Expression
number = do
  n ← digits 2147483647
  pure (e.Number n)

unfoldable pub input : Parser Expression
input = do
  sign s.Dollar
  k ← digits 20
  pure (e.Input k)

unfoldable pub part : Parser ℕ
part = do
  sign s.Dot
  digits 255

unfoldable pub parts : Expression → Parser Expression
parts a = while (sees s.Dot) (λ found. part) e.Part a

-- over how the parts of the grammar are read
module _ (P : Part → Parser Expression) where
  unfoldable pub group : ℕ → Parser Expression
  group brackets = do
    inner ← opening s.Open brackets
    a ← P (Whole inner)
    sign s.Close
    pure a

  unfoldable pub next_part : ℕ → List Expression → Parser Expression
  next_part brackets found = do
    at ← sign s.Comma
    passes (if length found == 256 then Some at else None) (tt {0})
    P (Whole brackets)

  unfoldable pub vector : ℕ → Parser Expression
  vector brackets = do
    inner ← opening s.OpenVector brackets
    a ← P (Whole inner)
    parts ← while (sees s.Comma) (next_part inner) snoc (a ∷ [])
    sign s.CloseVector
    pure (e.Vector parts)

  unfoldable pub function_of_one : ℕ → Parser Expression
  function_of_one brackets = do
    f ← class one_operand
    inner ← opening s.Open brackets
    a ← P (Whole inner)
    sign s.Close
    pure (e.Unary f a)

  unfoldable pub function_of_two : ℕ → Parser Expression
  function_of_two brackets = do
    f ← class two_operands
    inner ← opening s.Open brackets
    a ← P (Whole inner)
    sign s.Comma
    b ← P (Whole inner)
    sign s.Close
    pure (e.Binary f a b)

  unfoldable pub primary : ℕ → Parser Expression
  primary brackets =
      choose sees_digits number
      (choose (sees s.Dollar) input
      (choose (sees s.Open) (group brackets)
      (choose (sees s.OpenVector) (vector brackets)
      (choose (sees_class one_operand) (function_of_one brackets)
      (function_of_two brackets)))))

  unfoldable pub postfix : ℕ → Parser Expression
  postfix brackets = primary brackets >>= parts

  unfoldable pub signed : ℕ → Parser Expression
  signed brackets = choose (sees_class prefix) (do o ← class prefix; a ← P (Signed brackets); pure (e.Unary o a)) (postfix brackets)

  unfoldable pub branches : ℕ → Expression → Parser Expression
  branches brackets condition = do
    sign s.Question
    a ← P (Whole brackets)
    sign s.Colon
    b ← P (Whole brackets)
    pure (e.Choice condition a b)

  unfoldable pub whole : ℕ → Parser Expression
  whole brackets = do
    condition ← disjunction (signed brackets)
    choose (sees s.Question) (branches brackets condition) (pure condition)

  abbrev pub production : Part → Parser Expression
  production (Whole brackets) = whole brackets
  production (Signed brackets) = signed brackets

unfoldable pub nested : ℕ → Part → Parser Expression
nested zero p = number
nested (suc steps) p = production (nested steps) p

-- each step takes a token, so these are enough
unfoldable pub reading : Part → Parser Expression
reading p s = nested (suc (length s.tokens)) p s

-- a whole text
abbrev pub expression : Parser Expression
expression = stream.text misfit (reading (Whole 64))
