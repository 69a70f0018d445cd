-- How large an expression is, by which evaluation ends.
use Rattle.std.proofs.Common.{◌≡◌, ℕ, zero, suc, ◌+◌, ◌<◌, ◌≤◌, List, [], ◌∷◌, length, get_or, sym, ap, ◌∙◌, arith}
use Rattle.std.specs.Prelude.{map}
use Rattle.dx_expr_grammar.specs.declared.tree.Unary.{Unary}
use Rattle.dx_expr_grammar.specs.declared.tree.Binary.{Binary}
use Rattle.dx_expr_grammar.specs.declared.tree.Expression.{Expression}
use Rattle.dx_expr_grammar.specs.declared.tree.Expression.TheVariants as e
use Rattle.dx_expr_grammar.specs.declared.tree.Expression.TheVariants.{rolls-Unary, rolls-Binary, rolls-Choice, rolls-Part, rolls-Vector}
use Rattle.dx_expr_grammar.specs.declared.tree.Expression.TheOpen.{Expression-F}
use Rattle.dx_expr_grammar.specs.declared.tree.Expression.TheFolds.{fold-Expression, fold-roll-Expression}

abbrev total : List ℕ → ℕ
total [] = 0
total (n ∷ rest) = n + total rest

abbrev step : Expression-F ℕ → ℕ
step (Expression-F.Number n) = 1
step (Expression-F.Input k) = 1
step (Expression-F.Unary o a) = a + 1
step (Expression-F.Binary o a b) = a + b + 1
step (Expression-F.Choice c a b) = c + a + b + 1
step (Expression-F.Part a k) = a + 1
step (Expression-F.Vector parts) = total parts + 1

-- the nodes of an expression's tree
pub nodes : Expression → ℕ
nodes = fold-Expression ℕ step

pub all_nodes : List Expression → ℕ
all_nodes parts = total (map nodes parts)

pub in_unary : (x : Expression) (o : Unary) (a a' : Expression) → x ≡ e.Unary o a → a' ≡ a → nodes a' < nodes x
unfolding nodes
in_unary x o a a' is same =
    let h : nodes x ≡ nodes a + 1 = ap nodes is ∙ ap nodes (sym (rolls-Unary o a)) ∙ fold-roll-Expression ℕ step (Expression-F.Unary o a) in
    let g : nodes a' ≡ nodes a = ap nodes same in
    omega (arith, h, g)

two_nodes : (o : Binary) (a b : Expression) → nodes (e.Binary o a b) ≡ nodes a + nodes b + 1
unfolding nodes
two_nodes o a b = ap nodes (sym (rolls-Binary o a b)) ∙ fold-roll-Expression ℕ step (Expression-F.Binary o a b)

pub in_left : (x : Expression) (o : Binary) (a b a' : Expression) → x ≡ e.Binary o a b → a' ≡ a → nodes a' < nodes x
in_left x o a b a' is same = omega (arith, ap nodes is, two_nodes o a b, ap nodes same)

pub in_right : (x : Expression) (o : Binary) (a b b' : Expression) → x ≡ e.Binary o a b → b' ≡ b → nodes b' < nodes x
in_right x o a b b' is same = omega (arith, ap nodes is, two_nodes o a b, ap nodes same)

three_nodes : (c a b : Expression) → nodes (e.Choice c a b) ≡ nodes c + nodes a + nodes b + 1
unfolding nodes
three_nodes c a b = ap nodes (sym (rolls-Choice c a b)) ∙ fold-roll-Expression ℕ step (Expression-F.Choice c a b)

pub in_condition : (x : Expression) (c a b c' : Expression) → x ≡ e.Choice c a b → c' ≡ c → nodes c' < nodes x
in_condition x c a b c' is same = omega (arith, ap nodes is, three_nodes c a b, ap nodes same)

pub in_one : (x : Expression) (c a b a' : Expression) → x ≡ e.Choice c a b → a' ≡ a → nodes a' < nodes x
in_one x c a b a' is same = omega (arith, ap nodes is, three_nodes c a b, ap nodes same)

pub in_other : (x : Expression) (c a b b' : Expression) → x ≡ e.Choice c a b → b' ≡ b → nodes b' < nodes x
in_other x c a b b' is same = omega (arith, ap nodes is, three_nodes c a b, ap nodes same)

part_nodes : (a : Expression) (k : ℕ) → nodes (e.Part a k) ≡ nodes a + 1
unfolding nodes
part_nodes a k = ap nodes (sym (rolls-Part a k)) ∙ fold-roll-Expression ℕ step (Expression-F.Part a k)

pub in_part : (x : Expression) (a : Expression) (k : ℕ) (a' : Expression) → x ≡ e.Part a k → a' ≡ a → nodes a' < nodes x
in_part x a k a' is same = omega (arith, ap nodes is, part_nodes a k, ap nodes same)

vector_nodes : (parts : List Expression) → nodes (e.Vector parts) ≡ all_nodes parts + 1
unfolding nodes all_nodes
vector_nodes parts = ap nodes (sym (rolls-Vector parts)) ∙ fold-roll-Expression ℕ step (Expression-F.Vector parts)

pub in_vector : (x : Expression) (parts parts' : List Expression) → x ≡ e.Vector parts → parts' ≡ parts → all_nodes parts' < nodes x
in_vector x parts parts' is same = omega (arith, ap nodes is, vector_nodes parts, ap all_nodes same)

pub in_parts : (parts : List Expression) (i : ℕ) (d a : Expression) → i < length parts → a ≡ get_or parts i d → nodes a ≤ all_nodes parts
unfolding all_nodes
in_parts [] i d a h e = absurd (omega arith)
in_parts (b ∷ parts) zero d a h e = omega (arith, ap nodes e)
in_parts (b ∷ parts) (suc i) d a h e = let g : nodes a ≤ total (map nodes parts) = in_parts parts i d a (omega arith) e in omega (arith, g)
