-- The inputs of a call, one at a time.
use Rattle.std.proofs.Common.{◌≡◌, ℕ, zero, suc, ◌+◌, ◌-◌, ◌<◌, List, [], ◌∷◌, ◌++◌, length, get_or, drop, map, refl, sym, ap, ap₂, subst, ◌∙◌, arith, length-append, All, Bor}
use Rattle.std.proofs.lemmas.List.{drop_more}
use Rattle.std.proofs.lemmas.List.Elements.{All-push}
use Rattle.dx_ast.specs.Classes.{Text}
use Rattle.dx_macros.specs.Expansion as plain
use Rattle.dx_macros.specs.Tree.{Tree, Trees, NoTree, AndTree}
use Rattle.dx_graph.specs.Graph.{Node}
use Rattle.dx_graph.specs.Unfolding.{calls_of, tree_of, trees_of}
use Rattle.dx_graph.specs.Operands.{operand_tree, given_of, before_trees}
use Rattle.dx_graph.specs.declared.given.Given.{Given}
use Rattle.dx_graph.specs.declared.node.Input.{Input}
use Rattle.dx_graph.specs.declared.operand.Operand.{Operand}

before_push : (nodes : List Node) (is : List Input) (i : Input) (ts : Trees) → before_trees nodes (is ++ i ∷ []) ts ≡ before_trees nodes is (AndTree (tree_of (calls_of nodes) i) ts)
before_push nodes [] i ts = refl
before_push nodes (x ∷ is) i ts = ap (AndTree (tree_of (calls_of nodes) x)) (before_push nodes is i ts)

pub before_none : (nodes : List Node) (is : List Input) → before_trees nodes is NoTree ≡ trees_of (calls_of nodes) is
before_none nodes [] = refl
before_none nodes (x ∷ is) = ap (AndTree (tree_of (calls_of nodes) x)) (before_none nodes is)

pub all_push : {A : Type 0} (P : A → Type 0) (xs new : List A) (x : A) → new ≡ xs ++ x ∷ [] → All P xs → P x → All P new
all_push P xs new x e all h = subst (λ (ys : List _). All P ys) (sym e) (All-push P xs x all h)

pub named_step : (nodes : List Node) (more : ℕ) (names : List (Bor Text)) (i : ℕ) (d : Bor Text) (gs : List plain.Given) (is new : List Input) (x : Input) (o : Operand) → i < length names →
    new ≡ is ++ x ∷ [] → tree_of (calls_of nodes) x ≡ operand_tree nodes o → operand_tree nodes o ≡ plain.or_tree (plain.given_for gs i (get_or names i d).now) plain.null_tree →
    before_trees nodes new (plain.inputs (map (λ p. p.now) (drop (i + 1) names)) more (i + 1) gs) ≡ before_trees nodes is (plain.inputs (map (λ p. p.now) (drop i names)) more i gs)
named_step nodes more names i d gs is new x o h e t u =
    let next : i + 1 ≡ suc i = omega arith in
    let rest : List Text = map (λ p. p.now) (drop (i + 1) names) in
    ap (λ (js : List Input). before_trees nodes js (plain.inputs rest more (i + 1) gs)) e
    ∙ before_push nodes is x (plain.inputs rest more (i + 1) gs)
    ∙ ap₂ (λ (a : Tree) (k : ℕ). before_trees nodes is (AndTree a (plain.inputs rest more k gs))) (t ∙ u) next
    ∙ sym (ap (λ (ns : List (Bor Text)). before_trees nodes is (plain.inputs (map (λ p. p.now) ns) more i gs)) (drop_more names i d h))

pub further_step : (nodes : List Node) (more : ℕ) (gs : List Given) (i : ℕ) (g : Given) (is new : List Input) (x : Input) → i < length gs → i < more → g ≡ get_or gs i g →
    new ≡ is ++ x ∷ [] → tree_of (calls_of nodes) x ≡ operand_tree nodes g.operand →
    before_trees nodes new (plain.further (more - (i + 1)) (map (given_of nodes) (drop (i + 1) gs))) ≡ before_trees nodes is (plain.further (more - i) (map (given_of nodes) (drop i gs)))
further_step nodes more gs i g is new x h m same e t =
    let left : more - i ≡ suc (more - (i + 1)) = omega arith in
    let rest : List plain.Given = map (given_of nodes) (drop (i + 1) gs) in
    ap (λ (js : List Input). before_trees nodes js (plain.further (more - (i + 1)) rest)) e
    ∙ before_push nodes is x (plain.further (more - (i + 1)) rest)
    ∙ ap (λ (a : Tree). before_trees nodes is (AndTree a (plain.further (more - (i + 1)) rest))) t
    ∙ sym (ap₂ (λ (k : ℕ) (ns : List Given). before_trees nodes is (plain.further k (map (given_of nodes) ns))) left (drop_more gs i g h ∙ ap (λ (y : Given). y ∷ drop (i + 1) gs) (sym same)))

no_further : (gs : List plain.Given) → plain.further 0 gs ≡ NoTree
no_further [] = refl
no_further (g ∷ gs) = refl

map_dropped : (nodes : List Node) (n : ℕ) (gs : List Given) → map (given_of nodes) (drop n gs) ≡ drop n (map (given_of nodes) gs)
map_dropped nodes zero gs = refl
map_dropped nodes (suc n) [] = refl
map_dropped nodes (suc n) (g ∷ gs) = map_dropped nodes n gs

-- the named inputs and then the further ones
pub joined : (nodes : List Node) (f_more : ℕ) (names : List (Bor Text)) (ps : List Text) (n : ℕ) (given rest : List Given) (is all : List Input) → map (λ p. p.now) names ≡ ps → n ≡ length names → rest ≡ drop n given →
    before_trees nodes is (plain.further f_more (drop (length names) (map (given_of nodes) given))) ≡ plain.inputs (map (λ p. p.now) names) f_more 0 (map (given_of nodes) given) →
    before_trees nodes all NoTree ≡ before_trees nodes is (plain.further f_more (map (given_of nodes) rest)) →
    trees_of (calls_of nodes) all ≡ plain.inputs ps f_more 0 (map (given_of nodes) given)
joined nodes f_more names ps n given rest is all p c r named more =
    sym (before_none nodes all) ∙ more
    ∙ ap (λ (gs : List Given). before_trees nodes is (plain.further f_more (map (given_of nodes) gs))) r
    ∙ ap (λ (gs : List plain.Given). before_trees nodes is (plain.further f_more gs)) (map_dropped nodes n given ∙ ap (λ (k : ℕ). drop k (map (given_of nodes) given)) c)
    ∙ named
    ∙ ap (λ (ns : List Text). plain.inputs ns f_more 0 (map (given_of nodes) given)) p

pub all_dropped : {A : Type 0} (P : A → Type 0) (n : ℕ) (xs : List A) → All P xs → All P (drop n xs)
all_dropped P zero xs all = all
all_dropped P (suc n) [] all = all
all_dropped P (suc n) (x ∷ xs) all = all_dropped P n xs (λ k d h. all (suc k) d (omega (arith, h)))

pub one_longer : {A : Type 0} (xs new : List A) (x : A) → new ≡ xs ++ x ∷ [] → length new ≡ length xs + 1
one_longer xs new x e = omega (arith, ap length e, length-append xs (x ∷ []))
