-- The grammar of expressions.
use Rattle.std.specs.Prelude.{ℕ, zero, suc, ◌==◌, List, [], ◌∷◌, length, Option, Some, None, if◌then◌else◌}
use Rattle.dx_expr_grammar.specs.declared.token.Token.{Token}
use Rattle.dx_expr_grammar.specs.declared.token.Sign.{Sign}
use Rattle.dx_expr_grammar.specs.declared.token.Sign.TheVariants as s
use Rattle.dx_expr_grammar.specs.declared.tree.Binary.{Binary}
use Rattle.dx_expr_grammar.specs.declared.tree.Level.{Level}
use Rattle.dx_expr_grammar.specs.declared.tree.Level.TheVariants as level
use Rattle.dx_expr_grammar.specs.declared.tree.Expression.{Expression}
use Rattle.dx_expr_grammar.specs.declared.tree.Expression.TheVariants as e
use Rattle.dx_grammar.specs.Rule as rule
use Rattle.dx_grammar.specs.Rule.{nothing, refused, one, ◌>>=◌, ◌>>◌, ◌∣◌, unless, more, snoc}
use Rattle.dx_expr_grammar.specs.Words.{sign_of, digits_of, class_of, operator_at, prefix, one_operand, two_operands}

abbrev pub Rule : Type 0 → Type 1
Rule A = rule.Rule Token ℕ A

-- ---- tokens

abbrev pub sign : Sign → Rule ℕ
sign x = one (sign_of x)

-- digits of at most this value
abbrev pub digits : ℕ → Rule ℕ
digits most = one (digits_of most)

abbrev pub class : {A : Type 0} → (Sign → Option A) → Rule A
class known = one (class_of known)

abbrev pub operator : Level → Rule Binary
operator l = class (operator_at l)

-- ---- operators between operands

-- what stands around an operator, as one expression
abbrev pub joined : Expression → Binary × Expression → Expression
joined a p = e.Binary p.0 a p.1

-- an operator and its right operand
abbrev pub right_side : Level → Rule Expression → Rule (Binary × Expression)
right_side l operand = do
  o ← operator l
  b ← operand
  nothing (o, b)

-- operand { operator operand }, taken together from the left
abbrev pub chain : Level → Rule Expression → Rule Expression
chain l operand = do
  a ← operand
  more (λ found. right_side l operand) joined a

-- operand [ operator operand ]
abbrev pub once : Level → Rule Expression → Rule Expression
once l operand = do
  a ← operand
  (do p ← right_side l operand; nothing (joined a p)) ∣ nothing a

-- signed { ( '*' | '/' | '%' ) signed }
abbrev pub product : Rule Expression → Rule Expression
product signed = chain level.Product signed

-- product { ( '+' | '-' ) product }
abbrev pub sum : Rule Expression → Rule Expression
sum signed = chain level.Sum (product signed)

-- sum [ ( '<' | '<=' | '>' | '>=' ) sum ]
abbrev pub relation : Rule Expression → Rule Expression
relation signed = once level.Relation (sum signed)

-- relation [ ( '==' | '!=' ) relation ]
abbrev pub equality : Rule Expression → Rule Expression
equality signed = once level.Equality (relation signed)

-- equality { '&&' equality }
abbrev pub conjunction : Rule Expression → Rule Expression
conjunction signed = chain level.And (equality signed)

-- conjunction { '||' conjunction }
abbrev pub disjunction : Rule Expression → Rule Expression
disjunction signed = chain level.Or (conjunction signed)

-- ---- operands

-- a number of the int range
abbrev pub number : Rule Expression
number = do
  n ← digits 2147483647
  nothing (e.Number n)

-- '$' digits, at most 20
abbrev pub input : Rule Expression
input = do
  sign s.Dollar
  k ← digits 20
  nothing (e.Input k)

-- '.' digits, at most 255
abbrev pub part : Rule ℕ
part = do
  sign s.Dot
  digits 255

-- ---- brackets

-- an opening sign where this many brackets may still open, and how many may open within; the sign of one more is refused
unfoldable pub opening : Sign → ℕ → Rule ℕ
opening x zero = sign x >>= λ at. refused at
opening x (suc inner) = sign x >> nothing inner

-- the parts of the grammar that speak of themselves, each where so many brackets may still open:
-- whole expressions, and operands with the signs before them
pub data Part : Type 0 where
  Whole : ℕ → Part
  Signed : ℕ → Part

-- the grammar, over what its parts are
module _ (X : Part → Rule Expression) where
  -- '(' expression ')'
  abbrev pub group : ℕ → Rule Expression
  group brackets = do
    inner ← opening s.Open brackets
    a ← X (Whole inner)
    sign s.Close
    nothing a

  -- ',' expression; the comma before the 257th part is refused
  abbrev pub next_part : ℕ → List Expression → Rule Expression
  next_part brackets found = do
    at ← sign s.Comma
    unless (if length found == 256 then Some at else None) (tt {0})
    X (Whole brackets)

  -- '[' expression { ',' expression } ']'
  abbrev pub vector : ℕ → Rule Expression
  vector brackets = do
    inner ← opening s.OpenVector brackets
    a ← X (Whole inner)
    parts ← more (next_part inner) snoc (a ∷ [])
    sign s.CloseVector
    nothing (e.Vector parts)

  -- ( 'abs' | 'sign' ) '(' expression ')'
  abbrev pub function_of_one : ℕ → Rule Expression
  function_of_one brackets = do
    f ← class one_operand
    inner ← opening s.Open brackets
    a ← X (Whole inner)
    sign s.Close
    nothing (e.Unary f a)

  -- ( 'min' | 'max' | 'dot' ) '(' expression ',' expression ')'
  abbrev pub function_of_two : ℕ → Rule Expression
  function_of_two brackets = do
    f ← class two_operands
    inner ← opening s.Open brackets
    a ← X (Whole inner)
    sign s.Comma
    b ← X (Whole inner)
    sign s.Close
    nothing (e.Binary f a b)

  abbrev pub primary : ℕ → Rule Expression
  primary brackets = number ∣ input ∣ group brackets ∣ vector brackets ∣ function_of_one brackets ∣ function_of_two brackets

  -- primary { part }
  abbrev pub postfix : ℕ → Rule Expression
  postfix brackets = do
    a ← primary brackets
    more (λ found. part) e.Part a

  -- ( '-' | '!' ) signed | postfix
  abbrev pub signed : ℕ → Rule Expression
  signed brackets = (do o ← class prefix; a ← X (Signed brackets); nothing (e.Unary o a)) ∣ postfix brackets

  -- '?' expression ':' expression, behind a condition
  abbrev pub branches : ℕ → Expression → Rule Expression
  branches brackets condition = do
    sign s.Question
    a ← X (Whole brackets)
    sign s.Colon
    b ← X (Whole brackets)
    nothing (e.Choice condition a b)

  -- disjunction [ '?' expression ':' expression ]
  abbrev pub whole : ℕ → Rule Expression
  whole brackets = do
    condition ← disjunction (signed brackets)
    branches brackets condition ∣ nothing condition

  abbrev pub production : Part → Rule Expression
  production (Whole brackets) = whole brackets
  production (Signed brackets) = signed brackets

-- what a part of the grammar is by so many steps of the rules, the first of which makes a number
unfoldable pub nested : ℕ → Part → Rule Expression
nested zero p = number
nested (suc steps) p = production (nested steps) p

-- what is one by some number of steps
abbrev pub in_some_steps : {A : Type 0} → (ℕ → Rule A) → Rule A
in_some_steps {A} X = record {
  is = λ ts a. (steps : ℕ) × (X steps).is ts a;
  forbids = λ ts f. (steps : ℕ) × (X steps).forbids ts f;
}

-- a part of the grammar
abbrev pub grammar : Part → Rule Expression
grammar p = in_some_steps (λ steps. nested steps p)

-- An expression: 64 brackets may be open in it.
abbrev pub expression : Rule Expression
expression = grammar (Whole 64)
