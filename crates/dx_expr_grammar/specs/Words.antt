-- The classes of tokens that the grammar speaks of.
use Rattle.std.specs.Prelude.{ℕ, ◌==◌, nat_lt, Bool, Option, Some, None, if◌then◌else◌}
use Rattle.dx_expr_grammar.specs.declared.token.Token.{Token}
use Rattle.dx_expr_grammar.specs.declared.token.TokenKind.{TokenKind}
use Rattle.dx_expr_grammar.specs.declared.token.TokenKind.TheVariants as kind
use Rattle.dx_expr_grammar.specs.declared.token.Sign.{Sign}
use Rattle.dx_expr_grammar.specs.declared.token.Sign.TheVariants as sign
use Rattle.dx_expr_grammar.specs.declared.tree.Unary.{Unary}
use Rattle.dx_expr_grammar.specs.declared.tree.Unary.TheVariants as unary
use Rattle.dx_expr_grammar.specs.declared.tree.Binary.{Binary}
use Rattle.dx_expr_grammar.specs.declared.tree.Binary.TheVariants as binary
use Rattle.dx_expr_grammar.specs.declared.tree.Level.{Level}
use Rattle.dx_expr_grammar.specs.declared.tree.Level.TheVariants as level

-- a token that doesn't fit is a fault at its offset
abbrev pub misfit : Token → ℕ
misfit t = t.at

-- ---- signs and digits

-- the place of a sign in the list of all, by which signs are told apart
abbrev pub code : Sign → ℕ
code sign.Question = 0
code sign.Colon = 1
code sign.Or = 2
code sign.And = 3
code sign.Equal = 4
code sign.NotEqual = 5
code sign.Less = 6
code sign.LessEqual = 7
code sign.Greater = 8
code sign.GreaterEqual = 9
code sign.Plus = 10
code sign.Minus = 11
code sign.Times = 12
code sign.Over = 13
code sign.Percent = 14
code sign.Not = 15
code sign.Dot = 16
code sign.Dollar = 17
code sign.Open = 18
code sign.Close = 19
code sign.OpenVector = 20
code sign.CloseVector = 21
code sign.Comma = 22
code sign.Abs = 23
code sign.SignOf = 24
code sign.Min = 25
code sign.Max = 26
code sign.DotProduct = 27

abbrev pub only_at : ℕ → Bool → Option ℕ
only_at p found = if found then Some p else None

abbrev pub is_sign_in : Sign → TokenKind → Bool
is_sign_in s (kind.Sign x) = code x == code s
is_sign_in s (kind.Digits n) = Bool.false

-- this sign; its value is its offset
abbrev pub sign_of : Sign → Token → Option ℕ
sign_of s t = only_at t.at (is_sign_in s t.kind)

-- digits of at most this value
abbrev pub digits_in : ℕ → TokenKind → Option ℕ
digits_in most (kind.Sign x) = None
digits_in most (kind.Digits n) = if nat_lt most n then None else Some n

abbrev pub digits_of : ℕ → Token → Option ℕ
digits_of most t = digits_in most t.kind

abbrev pub is_digits_in : TokenKind → Bool
is_digits_in (kind.Sign x) = Bool.false
is_digits_in (kind.Digits n) = Bool.true

-- ---- operators and functions

-- the operators between two operands, each with its level
abbrev pub operator : Sign → Option (Level × Binary)
operator sign.Or = Some (level.Or, binary.Or)
operator sign.And = Some (level.And, binary.And)
operator sign.Equal = Some (level.Equality, binary.Equal)
operator sign.NotEqual = Some (level.Equality, binary.NotEqual)
operator sign.Less = Some (level.Relation, binary.Less)
operator sign.LessEqual = Some (level.Relation, binary.LessEqual)
operator sign.Greater = Some (level.Relation, binary.Greater)
operator sign.GreaterEqual = Some (level.Relation, binary.GreaterEqual)
operator sign.Plus = Some (level.Sum, binary.Add)
operator sign.Minus = Some (level.Sum, binary.Subtract)
operator sign.Times = Some (level.Product, binary.Multiply)
operator sign.Over = Some (level.Product, binary.Divide)
operator sign.Percent = Some (level.Product, binary.Remainder)
operator _ = None

-- the signs before an operand
abbrev pub prefix : Sign → Option Unary
prefix sign.Minus = Some unary.Negate
prefix sign.Not = Some unary.Not
prefix _ = None

-- the functions of one operand
abbrev pub one_operand : Sign → Option Unary
one_operand sign.Abs = Some unary.Absolute
one_operand sign.SignOf = Some unary.Sign
one_operand _ = None

-- the functions of two operands
abbrev pub two_operands : Sign → Option Binary
two_operands sign.Min = Some binary.Minimum
two_operands sign.Max = Some binary.Maximum
two_operands sign.DotProduct = Some binary.Dot
two_operands _ = None

-- a sign of a class
abbrev pub class_in : {A : Type 0} → (Sign → Option A) → TokenKind → Option A
class_in class (kind.Sign x) = class x
class_in class (kind.Digits n) = None

abbrev pub class_of : {A : Type 0} → (Sign → Option A) → Token → Option A
class_of class t = class_in class t.kind

abbrev pub rank : Level → ℕ
rank level.Or = 0
rank level.And = 1
rank level.Equality = 2
rank level.Relation = 3
rank level.Sum = 4
rank level.Product = 5

abbrev pub of_level : Level → Option (Level × Binary) → Option Binary
of_level l None = None
of_level l (Some (m, o)) = if rank m == rank l then Some o else None

-- the operators of a level
abbrev pub operator_at : Level → Sign → Option Binary
operator_at l s = of_level l (operator s)
