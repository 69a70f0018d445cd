-- What an expansion under way has at hand, and what it adds to its graph.
use Rattle.std.specs.Prelude.{◌≡◌, ℕ, suc, ◌<◌, List, [], ◌∷◌, ◌++◌, Some, None, All, length, map, if◌then◌else◌, slice_index_or}
use Rattle.std.specs.Str.{bytes_eq}
use Rattle.dx_base.specs.NameTable.{under_name}
use Rattle.dx_ast.specs.Classes.{Text as Name}
use Rattle.dx_ast.specs.Limits.{max_macro_steps}
use Rattle.dx_ast.specs.Syntax.{Expr, Call, Args, Stmt, Stmts}
use Rattle.dx_base.specs.declared.function.Function.{Function}
use Rattle.dx_base.specs.declared.function.Function.TheVariants as function
use Rattle.dx_ast.specs.declared.statements.Param.{Param}
use Rattle.dx_ast.specs.Table.{row_of}
use Rattle.dx_macros.specs.Site.{Spot, Step, Nth}
use Rattle.dx_macros.specs.Tree.{Tree, CallTree, TreeCall}
use Rattle.dx_macros.specs.Dictionary.{Dictionary, callee}
use Rattle.dx_definitions.specs.TopTexts.{definition}
use Rattle.dx_macros.specs.Expansion as plain
use Rattle.dx_macros.specs.DictionaryView.{dictionary_of}
use Rattle.dx_macros.specs.Expansion.{Scope, Under, Expanded, ArgsExpanded, enter_macro, expand_expr, expand_call, expand_args, expand_statement, expand_body, scope_within, expand_within}
use Rattle.dx_graph.specs.Trails.{spot_under, IsTrail}
use Rattle.dx_graph.specs.Sites.{IsLawfulSpot}
use Rattle.dx_graph.specs.Graph.{Node, node_at}
use Rattle.dx_graph.specs.Unfolding.{unfolded}
use Rattle.dx_graph.specs.GraphView.{graph_of, spots_in}
use Rattle.dx_graph.specs.Operands.{Gives, given_of, GivenFits, scope_with, OwnFits}
use Rattle.dx_graph.specs.declared.graph.Graph.{Graph}
use Rattle.dx_graph.specs.declared.given.Given.{Given}
use Rattle.dx_graph.specs.declared.operand.Results.{Results}
use Rattle.dx_texts.specs.declared.text.World.{World}
use Rattle.dx_texts.specs.declared.text.Text.{Text}

-- ---- the top level

abbrev pub dictionary_in : World → Dictionary
dictionary_in w = dictionary_of w.dictionary.now

-- what a name means at a position
unfoldable pub top_scope : World → ℕ → Scope
top_scope w position = scope_within max_macro_steps (dictionary_in w).macros w.frames (dictionary_in w).definitions position

-- the results of the definition at a position
unfoldable pub top_results : World → ℕ → ℕ → Tree
top_results w i = (expand_within max_macro_steps (dictionary_in w).macros w.frames (top_scope w i) (definition (dictionary_in w).definitions i)).result

-- each definition that was expanded has its results
abbrev pub Remembers : List Node → World → Type 0
Remembers nodes w = (i : ℕ) (r : Results) → slice_index_or w.memo i None ≡ Some r → Gives nodes r (top_results w i)

-- the position of the last target with a name, counted from i; else the one that was found
abbrev pub last_target : List Name → ℕ → ℕ → Name → ℕ
last_target [] i found name = found
last_target (t ∷ rest) i found name = last_target rest (suc i) (if bytes_eq t name then i else found) name

-- ---- a text

abbrev pub scope_of : World → Text → List Node → Scope
scope_of w t nodes = scope_with nodes (under_name t.own) (top_scope w t.position)

-- what the meaning of a text's expressions depends on
pub record Setting : Type 0 where
  pub under : Under
  pub spot : Spot
  pub scope : Scope

abbrev pub under_of : World → Text → Under
under_of w t = record {
  macros = (dictionary_in w).macros;
  frames = w.frames;
  enter = enter_macro (dictionary_in w).macros w.frames (top_scope w t.position) t.left;
}

abbrev pub setting : World → Text → Graph → Setting
setting w t g = record { under = under_of w t; spot = spot_under (spots_in g) t.trail; scope = scope_of w t (graph_of g).nodes }

abbrev pub expr_in : Setting → List Name → Expr → Expanded
expr_in s before e = expand_expr s.under s.spot s.scope before e

abbrev pub call_in : Setting → List Name → Call → Expanded
call_in s before c = expand_call s.under s.spot s.scope before c

abbrev pub args_in : Setting → List Name → Args → ArgsExpanded
args_in s before args = expand_args s.under s.spot s.scope before args

abbrev pub statement_in : Setting → List Name → Stmt → Expanded
statement_in s before x = expand_statement s.under s.spot s.scope before x

abbrev pub body_in : Setting → List Name → List Name → Stmts → Expanded
body_in s results before body = expand_body s.under s.spot results s.scope before body

-- the operands that a text has are fit for the graph, and its sites are those of a lawful script
pub record Ready (w : World) (t : Text) (g : Graph) : Type 0 where
  pub memo : Remembers (graph_of g).nodes w
  pub own : OwnFits (graph_of g).nodes (under_name t.own)
  pub trail : IsTrail (length (spots_in g)) t.trail
  pub spot : ∥ IsLawfulSpot t.left (spot_under (spots_in g) t.trail) ∥₁

-- ---- calls

-- the tree of the k-th call of a function in a text
abbrev pub function_call : Spot → Function → (cache : ℕ) → (k : ℕ) → List plain.Given → CallTree
function_call spot f cache k gs =
    TreeCall f (record { site = spot.base ++ Nth (row_of f).name k ∷ []; path = spot.path; cache = cache }) (plain.inputs (row_of f).params (row_of f).more 0 gs)

abbrev pub function_expanded : Function → CallTree → Expanded
function_expanded f c = record { result = plain.function_result (row_of f).results c; kept = plain.own_kept f c }

-- the call where its function has an effect
abbrev pub own_effect : Function → CallTree → List CallTree
own_effect (function.Effect e) c = c ∷ []
own_effect other c = []

-- what the k-th call of a name comes to, what its arguments keep left out
abbrev pub applied : Setting → Name → (cache : ℕ) → (k : ℕ) → List plain.Given → Expanded
applied s name cache k gs =
    plain.call_expanded s.under s.spot (Nth name k) cache (callee s.under.macros name) (record { given = gs; kept = [] })

-- the setting of a macro's body at a call with this step
abbrev pub inner_setting : Setting → Scope → ℕ → List Param → Step → List plain.Given → Setting
inner_setting s top left params step gs = record {
  under = record { macros = s.under.macros; frames = s.under.frames; enter = enter_macro s.under.macros s.under.frames top left };
  spot = plain.spot_of_call s.spot step;
  scope = plain.with_params params 0 gs top;
}

-- the node with this number is a call of the function
pub record IsCallOf (nodes : List Node) (n : ℕ) (f : Function) : Type 0 where
  pub node : n < length nodes
  pub what : (node_at nodes n).what ≡ f

-- only the meanings of its own names may differ
pub record SameText (old new : Text) : Type 0 where
  pub trail : new.trail ≡ old.trail
  pub left : new.left ≡ old.left
  pub position : new.position ≡ old.position

-- ---- what an expansion adds

abbrev pub Starts : {A : Type 0} → List A → List A → Type 0
Starts {A} xs ys = (more : List A) × (ys ≡ xs ++ more)

-- no node and no trail is taken away
pub record Grows (old new : Graph) : Type 0 where
  pub nodes : Starts (graph_of old).nodes (graph_of new).nodes
  pub spots : Starts (spots_in old) (spots_in new)

-- the effects joined, and the results are these
pub record Expands (e : Expanded) (old new : Graph) (r : Results) : Type 0 where
  pub gives : Gives (graph_of new).nodes r e.result
  pub effects : unfolded (graph_of new) ≡ unfolded (graph_of old) ++ plain.effects_among e.kept

-- the same of arguments
pub record ExpandsArgs (e : ArgsExpanded) (old new : Graph) (gs : List Given) : Type 0 where
  pub fits : All (GivenFits (graph_of new).nodes) gs
  pub given : map (given_of (graph_of new).nodes) gs ≡ e.given
  pub effects : unfolded (graph_of new) ≡ unfolded (graph_of old) ++ plain.effects_among e.kept

-- the effects of a statement joined, and its targets have their meanings
pub record ExpandsStatement (s : Setting) (before : List Name) (x : Stmt) (old new : Graph) (scope : Scope) : Type 0 where
  pub scope_after : scope ≡ plain.scope_after s.scope x (statement_in s before x).result
  pub effects : unfolded (graph_of new) ≡ unfolded (graph_of old) ++ plain.effects_among (statement_in s before x).kept

-- the effects of a body joined, and these are its results
pub record ExpandsBody (e : Expanded) (old new : Graph) (result : ℕ → Tree) : Type 0 where
  pub results : result ≡ e.result
  pub effects : unfolded (graph_of new) ≡ unfolded (graph_of old) ++ plain.effects_among e.kept
