-- What the loops of the parser do in a turn, and that each turn takes a token.
use Rattle.std.proofs.Common.{◌≡◌, ℕ, ℤ, Bool, List, [], ◌∷◌, ◌++◌, refl}
use Rattle.std.specs.Prelude.{codes, is_some}
use Rattle.dx_grammar.specs.Stream.{◌>>=◌, pure, choose}
use Rattle.dx_grammar.specs.Rule.{snoc}
use Rattle.dx_grammar.proofs.Many.{Shrinks}
use Rattle.dx_ast.specs.declared.expressions.Arg.{Arg, out-Arg}
use Rattle.dx_ast.specs.declared.statements.Param.{Param}
use Rattle.dx_ast.specs.declared.statements.Stmt.{Stmt}
use Rattle.dx_ast.specs.Classes.{Text}
use Rattle.dx_ast.specs.Values.{Found, with_element, with_cache, with_statement, ends_named}
use Rattle.dx_script_grammar.specs.Reading.{Tokens, number, numbers, next_element, more_elements, next_attribute, more_attributes, next_arg, more_args, expression, primary, target, targets, next_param, more_params, next_result, more_results, body_item, body_items, item, items, lacks, sees, goes_on}
use Rattle.dx_script_laws.proofs.Tokens.{fills, fills_first, turn, less}
use Rattle.dx_script_laws.proofs.Constants as constants
use Rattle.dx_script_laws.proofs.Calls as calls
use Rattle.dx_script_laws.proofs.Statements as statements
use Rattle.dx_script_laws.proofs.Script as script

-- ---- constants

pub numbers_turn : (found : List ℤ) (s : Tokens) → numbers found s ≡ choose (lacks (codes "]")) (number found >>= λ a. numbers (snoc found a)) (pure found) s
numbers_turn found s = turn snoc (lacks (codes "]")) constants.number constants.number_fills found s

pub number_less : (found : List ℤ) → Shrinks (number found)
number_less found = less (constants.number found) (constants.number_fills found)

pub elements_turn : (found : Found) (s : Tokens) → more_elements found s ≡ choose (lacks (codes "}")) (next_element found >>= λ e. more_elements (with_element found e)) (pure found) s
elements_turn found s = turn with_element (lacks (codes "}")) constants.next_element constants.next_fills found s

pub element_less : (found : Found) → Shrinks (next_element found)
element_less found = less (constants.next_element found) (constants.next_fills found)

-- ---- calls

pub attributes_turn : (found : ℕ) (s : Tokens) → more_attributes found s ≡ choose (sees (codes ",")) (next_attribute >>= λ a. more_attributes (with_cache found a)) (pure found) s
attributes_turn found s = turn {S = ℕ} {P = λ found. next_attribute} with_cache (sees (codes ",")) (λ found. calls.next_attribute) (λ found. fills_first fills) found s

pub attribute_less : Shrinks next_attribute
attribute_less = less calls.next_attribute (fills_first fills)

pub args_turn : (d : ℕ) (found : List Arg) (s : Tokens) → more_args (expression d) (primary d) found s
    ≡ choose (sees (codes ",")) (next_arg (expression d) (primary d) (ends_named found) >>= λ a. more_args (expression d) (primary d) (snoc found a)) (pure found) s
args_turn d found s = turn {P = λ found. next_arg (expression d) (primary d) (ends_named found)} snoc (sees (codes ",")) (λ found. calls.next_arg d (ends_named found)) (λ found. fills_first fills) found s

pub arg_less : (d : ℕ) (is_named : Bool) → Shrinks (next_arg (expression d) (primary d) is_named)
arg_less d is_named = less (calls.next_arg d is_named) (fills_first fills)

pub ends_named-snoc : (found : List Arg) (a : Arg) → ends_named (found ++ a ∷ []) ≡ is_some (out-Arg a).name
unfolding ends_named
ends_named-snoc [] a = refl
ends_named-snoc (b ∷ []) a = refl
ends_named-snoc (b ∷ d ∷ found) a = ends_named-snoc (d ∷ found) a

-- ---- statements

pub targets_turn : (found : List Text) (s : Tokens) → targets found s ≡ choose (sees (codes ",")) (target >>= λ n. targets (snoc found n)) (pure found) s
targets_turn found s = turn {S = List Text} {P = λ found. target} snoc (sees (codes ",")) (λ found. statements.target) (λ found. fills_first fills) found s

pub target_less : Shrinks target
target_less = less statements.target (fills_first fills)

pub params_turn : (found : List Param) (s : Tokens) → more_params found s ≡ choose (sees (codes ",")) (next_param found >>= λ p. more_params (snoc found p)) (pure found) s
params_turn found s = turn snoc (sees (codes ",")) statements.next_param (λ found. fills_first fills) found s

pub param_less : (found : List Param) → Shrinks (next_param found)
param_less found = less (statements.next_param found) (fills_first fills)

pub results_turn : (found : List Text) (s : Tokens) → more_results found s ≡ choose (sees (codes ",")) (next_result found >>= λ n. more_results (snoc found n)) (pure found) s
results_turn found s = turn snoc (sees (codes ",")) statements.next_result (λ found. fills_first fills) found s

pub result_less : (found : List Text) → Shrinks (next_result found)
result_less found = less (statements.next_result found) (fills_first fills)

pub body_turn : (found : List Stmt) (s : Tokens) → body_items found s ≡ choose (lacks (codes "}")) (body_item >>= λ x. body_items (with_statement found x)) (pure found) s
body_turn found s = turn {S = List Stmt} {P = λ found. body_item} with_statement (lacks (codes "}")) (λ found. statements.body_item) (λ found. statements.body_item_fills) found s

pub body_item_less : Shrinks body_item
body_item_less = less statements.body_item statements.body_item_fills

pub items_turn : (found : List Stmt) (s : Tokens) → items found s ≡ choose goes_on (item >>= λ x. items (with_statement found x)) (pure found) s
items_turn found s = turn {S = List Stmt} {P = λ found. item} with_statement goes_on (λ found. script.item) (λ found. script.item_fills) found s

pub item_less : Shrinks item
item_less = less script.item script.item_fills
