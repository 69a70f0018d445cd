-- Where the values of an expression lie, as far as its parts tell.
use Rattle.std.specs.Prelude.{◌≡◌, ◌≤◌, ◌<◌, ℕ, ℤ, pos, negsuc, neg_ℤ, ◌+◌, ◌+ℤ◌, ◌-ℤ◌, ◌*ℤ◌, ◌≤ℤ◌, ◌==◌, int_le, nat_le, nat_lt, Bool, true, false, ◌&&◌, ◌||◌, List, [], ◌∷◌, Option, Some, None, slice_index_or, if◌then◌else◌}
use Rattle.std.specs.Int.{int_min, int_max}
use Rattle.dx_expr_grammar.specs.declared.tree.Unary.{Unary}
use Rattle.dx_expr_grammar.specs.declared.tree.Unary.TheVariants as unary
use Rattle.dx_expr_grammar.specs.declared.tree.Binary.{Binary}
use Rattle.dx_expr_grammar.specs.declared.tree.Binary.TheVariants as binary
use Rattle.dx_expr_grammar.specs.declared.tree.Expression.{Expression}
use Rattle.dx_expr_grammar.specs.declared.tree.Expression.TheOpen.{Expression-F}
use Rattle.dx_expr_grammar.specs.declared.tree.Expression.TheFolds.{fold-Expression}
use Rattle.dx_expr.specs.Value.{Inputs, size, is_int, is_zero}
use Rattle.dx_expr_ranges.specs.declared.range.Range.{Range}

-- ---- values in a range

-- a value lies from one to another, and is zero only where it may be
pub record LiesFrom (least greatest : ℤ) (may_be_zero : Bool) (v : ℤ) : Type 0 where
  pub low : least ≤ℤ v
  pub high : v ≤ℤ greatest
  pub zero : is_zero v ≡ true → may_be_zero ≡ true

abbrev pub IsIn : Range → ℤ → Type 0
IsIn r v = LiesFrom r.low r.high r.zero v

-- the items of input k, from one to before another, have as many values as a range says, and these lie in it
pub record IsWithin (inputs : Inputs) (k from to : ℕ) (r : Range) : Type 0 where
  pub count : size (inputs.shape k) ≡ r.count
  pub values : (item place : ℕ) → from ≤ item → item < to → place < size (inputs.shape k) → IsIn r (inputs.value k item place)

-- the same where a range is known
abbrev pub Keeps : Inputs → ℕ → ℕ → ℕ → Option Range → Type 0
Keeps inputs k from to None = Unit {0}
Keeps inputs k from to (Some r) = IsWithin inputs k from to r

-- the range that is given for an input, if there is one
abbrev pub given_for : List (Option Range) → ℕ → Option Range
given_for ranges k = slice_index_or ranges k None

-- each input keeps to the range that is given for it
abbrev pub AreWithin : Inputs → ℕ → ℕ → List (Option Range) → Type 0
AreWithin inputs from to ranges = (k : ℕ) → Keeps inputs k from to (given_for ranges k)

-- ---- ranges

abbrev pub with_one : {A B : Type 0} → (A → Option B) → Option A → Option B
with_one f None = None
with_one f (Some a) = f a

abbrev pub with_two : (Range → Range → Option Range) → Option Range → Option Range → Option Range
with_two f a b = with_one (λ x. with_one (f x) b) a

abbrev pub int_of : ℤ → Option ℤ
int_of v = if is_int v then Some v else None

-- so many values from one to another, where both are ints
abbrev pub between : ℕ → ℤ → ℤ → Bool → Option Range
between count low high may_be_zero = with_one (λ l. with_one (λ h. Some (record { count = count; low = l; high = h; zero = may_be_zero })) (int_of high)) (int_of low)

-- the same range, where its ends are ints
abbrev pub known : Range → Option Range
known r = between r.count r.low r.high r.zero

-- a value may be zero
abbrev pub has_zero : Range → Bool
has_zero r = r.zero && (int_le r.low (pos 0) && int_le (pos 0) r.high)

-- the truths of so many values
abbrev pub truths : ℕ → Range
truths count = record { count = count; low = pos 0; high = pos 1; zero = true }

abbrev pub number : ℕ → Option Range
number n = between 1 (pos n) (pos n) (n == 0)

-- the values of one side or the other, in so many places
abbrev pub in_either : ℕ → Range → Range → Range
in_either count a b = record { count = count; low = int_min a.low b.low; high = int_max a.high b.high; zero = has_zero a || has_zero b }

abbrev pub either : Range → Range → Option Range
either a b = if a.count == b.count then Some (in_either a.count a b) else None

-- ---- operators

-- how far from zero the values lie at most, and the same below zero
abbrev pub farthest : Range → ℤ
farthest a = int_max (neg_ℤ a.low) a.high

abbrev pub farthest_below : Range → ℤ
farthest_below a = int_min a.low (neg_ℤ a.high)

abbrev pub of_one : Unary → Range → Option Range
of_one unary.Negate a = between a.count (neg_ℤ a.high) (neg_ℤ a.low) a.zero
of_one unary.Not a = Some (truths a.count)
of_one unary.Absolute a = between a.count (int_max (pos 0) a.low) (farthest a) (has_zero a)
of_one unary.Sign a = Some (record { count = a.count; low = negsuc 0; high = pos 1; zero = has_zero a })

-- how many values stand side by side; a single one stands beside each of the other side
abbrev pub places : Range → Range → Option ℕ
places a b =
    if a.count == 1 then Some b.count
    else if b.count == 1 || a.count == b.count then Some a.count
    else None

-- what is made of values side by side lies from one to another
unfoldable pub beside : Range → Range → ℤ → ℤ → Bool → Option Range
beside a b low high may_be_zero = with_one (λ n. between n low high may_be_zero) (places a b)

unfoldable pub lowest_product : Range → Range → ℤ
lowest_product a b = int_min (int_min (a.low *ℤ b.low) (a.low *ℤ b.high)) (int_min (a.high *ℤ b.low) (a.high *ℤ b.high))

unfoldable pub highest_product : Range → Range → ℤ
highest_product a b = int_max (int_max (a.low *ℤ b.low) (a.low *ℤ b.high)) (int_max (a.high *ℤ b.low) (a.high *ℤ b.high))

-- the sums of up to so many values, from none on
abbrev pub sums : Range → Option Range
sums a = between 1 (pos a.count *ℤ int_min (pos 0) a.low) (pos a.count *ℤ int_max (pos 0) a.high) true

abbrev pub dot : Range → Range → Option Range
dot a b = if a.count == b.count then with_one sums (between a.count (lowest_product a b) (highest_product a b) true) else None

-- a quotient lies no further from zero than what is divided
abbrev pub quotient : Range → Range → Option Range
quotient a b = if has_zero b then None else beside a b (farthest_below a) (farthest a) true

-- a remainder lies between zero and what is divided
abbrev pub remainder : Range → Range → Option Range
remainder a b = if has_zero b then None else beside a b (int_min (pos 0) a.low) (int_max (pos 0) a.high) true

abbrev pub sum : Range → Range → Option Range
sum a b = beside a b (a.low +ℤ b.low) (a.high +ℤ b.high) true

abbrev pub difference : Range → Range → Option Range
difference a b = beside a b (a.low -ℤ b.high) (a.high -ℤ b.low) true

abbrev pub minimum : Range → Range → Option Range
minimum a b = beside a b (int_min a.low b.low) (int_min a.high b.high) (has_zero a || has_zero b)

abbrev pub maximum : Range → Range → Option Range
maximum a b = beside a b (int_max a.low b.low) (int_max a.high b.high) (has_zero a || has_zero b)

abbrev pub of_two : Binary → Range → Range → Option Range
of_two binary.Or a b = Some (truths 1)
of_two binary.And a b = Some (truths 1)
of_two binary.Equal a b = beside a b (pos 0) (pos 1) true
of_two binary.NotEqual a b = beside a b (pos 0) (pos 1) true
of_two binary.Less a b = beside a b (pos 0) (pos 1) true
of_two binary.LessEqual a b = beside a b (pos 0) (pos 1) true
of_two binary.Greater a b = beside a b (pos 0) (pos 1) true
of_two binary.GreaterEqual a b = beside a b (pos 0) (pos 1) true
of_two binary.Add a b = sum a b
of_two binary.Subtract a b = difference a b
of_two binary.Multiply a b = beside a b (lowest_product a b) (highest_product a b) true
of_two binary.Divide a b = quotient a b
of_two binary.Remainder a b = remainder a b
of_two binary.Minimum a b = minimum a b
of_two binary.Maximum a b = maximum a b
of_two binary.Dot a b = dot a b

-- ---- expressions

abbrev pub part : ℕ → Range → Option Range
part k a = if nat_lt k a.count then Some (record { count = 1; low = a.low; high = a.high; zero = a.zero }) else None

-- no values
abbrev pub none : Range
none = record { count = 0; low = pos 0; high = pos 0; zero = false }

-- the values of one and of the next behind them, of which an item has at most so many
abbrev pub and_next : Range → Range → Option Range
and_next a b = if nat_le (a.count + b.count) 65536 then Some (in_either (a.count + b.count) a b) else None

-- these values and those of a list
abbrev pub all_of : Range → List (Option Range) → Option Range
all_of a [] = Some a
all_of a (b ∷ rest) = with_one (λ x. with_one (λ y. all_of y rest) (and_next a x)) b

abbrev pub range_step : List (Option Range) → Expression-F (Option Range) → Option Range
range_step ranges (Expression-F.Number n) = number n
range_step ranges (Expression-F.Input k) = with_one known (given_for ranges k)
range_step ranges (Expression-F.Unary o a) = with_one (of_one o) a
range_step ranges (Expression-F.Binary o a b) = with_two (of_two o) a b
range_step ranges (Expression-F.Choice c a b) = with_one (λ x. with_two either a b) c
range_step ranges (Expression-F.Part a k) = with_one (part k) a
range_step ranges (Expression-F.Vector parts) = all_of none parts

-- Where the values of an expression lie, if each input keeps to its range; none where it can't be told.
unfoldable pub range_of : List (Option Range) → Expression → Option Range
range_of ranges = fold-Expression (Option Range) (range_step ranges)
