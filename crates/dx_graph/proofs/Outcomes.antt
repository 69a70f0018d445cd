-- The results of a macro by the names that it gives them.
use Rattle.std.proofs.Common.{◌≡◌, ℕ, zero, suc, ◌+◌, ◌<◌, ◌≤◌, List, [], ◌∷◌, ◌++◌, length, get_or, take, map, refl, sym, ap, subst, ◌∙◌, arith, All}
use Rattle.std.specs.Prelude.{Vec}
use Rattle.std.specs.declared.alloc.Global.{Global}
use Rattle.std.proofs.lemmas.List.{map-append, take_more}
use Rattle.std.proofs.lemmas.List.Elements.{All-push, All-nil}
use Rattle.dx_ast.specs.Classes.{Text}
use Rattle.dx_macros.specs.Expansion.{Scope, results_in}
use Rattle.dx_macros.specs.Tree.{Tree}
use Rattle.dx_graph.specs.Graph.{Node}
use Rattle.dx_graph.specs.Operands.{operand_tree, OperandFits, Means, Gives}
use Rattle.dx_graph.specs.declared.operand.Operand.{Operand}
use Rattle.dx_graph.specs.declared.operand.Operand.TheVariants as operand
use Rattle.dx_graph.specs.declared.operand.Results.TheVariants as results

-- what a list of operands has so far
pub record Named (nodes : List Node) (scope : Scope) (names : List Text) (os : List Operand) : Type 0 where
  pub fits : All (OperandFits nodes) os
  pub trees : map (operand_tree nodes) os ≡ map scope names

pub one_named : (nodes : List Node) (scope : Scope) (names : List Text) (i : ℕ) (n name : Text) (os new : List Operand) (o : Operand) → i < length names → n ≡ get_or names i n → name ≡ n →
    new ≡ os ++ o ∷ [] → Means nodes o (scope name) → Named nodes scope (take i names) os → Named nodes scope (take (i + 1) names) new
one_named nodes scope names i n name os new o h is same e m so_far = record {
  fits = subst (λ (xs : List Operand). All (OperandFits nodes) xs) (sym e) (All-push (OperandFits nodes) os o so_far.fits m.fits);
  trees = ap (map (operand_tree nodes)) e ∙ map-append (operand_tree nodes) os (o ∷ []) ∙ ap (λ ts. ts ++ operand_tree nodes o ∷ []) so_far.trees
      ∙ ap (λ t. map scope (take i names) ++ t ∷ []) (m.tree ∙ ap scope (same ∙ is))
      ∙ sym (ap (map scope) (take_more names i n h) ∙ map-append scope (take i names) (get_or names i n ∷ []));
}

take_whole : (i : ℕ) (xs : List Text) → length xs ≤ i → take i xs ≡ xs
take_whole zero [] h = refl
take_whole zero (x ∷ xs) h = absurd (omega arith)
take_whole (suc i) [] h = refl
take_whole (suc i) (x ∷ xs) h = ap (λ ys. x ∷ ys) (take_whole i xs (omega (arith, h)))

head_same : (t u : Tree) (ts us : List Tree) → t ∷ ts ≡ u ∷ us → t ≡ u
head_same t u ts us e = cc

tail_same : (t u : Tree) (ts us : List Tree) → t ∷ ts ≡ u ∷ us → ts ≡ us
tail_same t u ts us e = cc

each : (nodes : List Node) (scope : Scope) (names : List Text) (os : List Operand) → map (operand_tree nodes) os ≡ map scope names → (n : ℕ) → operand_tree nodes (get_or os n operand.Null) ≡ results_in names scope n
each nodes scope [] [] e n = refl
each nodes scope [] (o ∷ os) e n = cc
each nodes scope (x ∷ names) [] e n = cc
each nodes scope (x ∷ names) (o ∷ os) e zero = head_same (operand_tree nodes o) (scope x) (map (operand_tree nodes) os) (map scope names) e
each nodes scope (x ∷ names) (o ∷ os) e (suc n) = each nodes scope names os (tail_same (operand_tree nodes o) (scope x) (map (operand_tree nodes) os) (map scope names) e) n

pub all_named : (nodes : List Node) (scope : Scope) (names : List Text) (i : ℕ) (all : Vec Operand Global) → length names ≤ i → Named nodes scope (take i names) all.items → Gives nodes (results.Many all) (results_in names scope)
all_named nodes scope names i all h so_far =
    let trees : map (operand_tree nodes) all.items ≡ map scope names = so_far.trees ∙ ap (map scope) (take_whole i names h) in
    let at : (n : ℕ) → operand_tree nodes (get_or all.items n operand.Null) ≡ results_in names scope n = each nodes scope names all.items trees in
    record { fits = so_far.fits; trees = λ j n. at n j }

pub none_named : (nodes : List Node) (scope : Scope) (names : List Text) (os : List Operand) → os ≡ [] → Named nodes scope (take 0 names) os
none_named nodes scope names os e = record {
  fits = subst (λ (xs : List Operand). All (OperandFits nodes) xs) (sym e) (All-nil (OperandFits nodes));
  trees = ap (map (operand_tree nodes)) e;
}
