-- Arguments that are given, one at a time.
use Rattle.std.proofs.Common.{◌≡◌, ℕ, zero, suc, ◌<◌, ◌≤◌, List, [], ◌∷◌, map, length, get_or, None, refl, sym, ap, subst, arith, All}
use Rattle.dx_ast.specs.declared.expressions.Arg.{out-Arg}
use Rattle.dx_macros.specs.Expansion as plain
use Rattle.dx_graph.specs.Graph.{Node}
use Rattle.dx_graph.specs.Operands.{operand_tree, given_of}
use Rattle.dx_graph.specs.declared.given.Given.{Given}

pub by_place_some : (nodes : List Node) (gs : List Given) (i : ℕ) (g : Given) → i < length gs → g ≡ get_or gs i g →
    plain.given_by_place (map (given_of nodes) gs) i ≡ plain.unnamed (out-Arg g.arg.now).name (operand_tree nodes g.operand)
by_place_some nodes [] i g h e = absurd (omega arith)
by_place_some nodes (x ∷ gs) zero g h e = ap (λ (y : Given). plain.unnamed (out-Arg y.arg.now).name (operand_tree nodes y.operand)) (sym e)
by_place_some nodes (x ∷ gs) (suc i) g h e = by_place_some nodes gs i g (omega arith) e

pub by_place_none : (nodes : List Node) (gs : List Given) (i : ℕ) → length gs ≤ i → plain.given_by_place (map (given_of nodes) gs) i ≡ None
by_place_none nodes [] i h = refl
by_place_none nodes (x ∷ gs) zero h = absurd (omega arith)
by_place_none nodes (x ∷ gs) (suc i) h = by_place_none nodes gs i (omega arith)

pub all_at : {X : Type 0} (P : X → Type 0) (xs : List X) (i : ℕ) (x : X) → i < length xs → x ≡ get_or xs i x → All P xs → P x
all_at P xs i x h e all = subst P (sym e) (all i x h)
