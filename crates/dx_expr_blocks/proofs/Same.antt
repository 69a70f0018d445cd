-- What stands at every item of a block.
use Rattle.std.proofs.Common.{◌≡◌, ℕ, ◌<◌, ◌≤◌, ℤ, pos, List, [], length, take, replicate, None, Ok, Err, refl, ap, sym, ◌∙◌, arith}
use Rattle.std.specs.Prelude.{IfSome}
use Rattle.std.specs.Result.{result_ok}
use Rattle.std.proofs.lemmas.List.{length-take-le}
use Rattle.dx_expr_grammar.specs.declared.tree.Expression.{Expression}
use Rattle.dx_expr_grammar.specs.declared.tree.Expression.TheVariants as e
use Rattle.dx_expr.specs.Value.{Inputs, Outcome, checked}
use Rattle.dx_expr_blocks.specs.Block.{Run, block_of, up_to, run_of}
use Rattle.dx_expr_blocks.specs.Items.{all_below}
use Rattle.dx_expr_blocks.proofs.Evaluation.{at_number, at_input, reached_le}
use Rattle.dx_expr_blocks.proofs.Laws.{constant_values, map_constant}
use Rattle.dx_expr_blocks.proofs.Ranges.{map_below}

-- of a value, where there is one
pub of_ok : (P : ℤ → Type 0) (o : Outcome ℤ) → ((v : ℤ) → o ≡ Ok v → P v) → IfSome (result_ok o) P
of_ok P (Ok v) h = h v refl
of_ok P (Err f) h = tt

-- a number
pub same_number : (inputs : Inputs) (x : Expression) (items : List ℕ) (n : ℕ) (v : ℤ) → x ≡ e.Number n → checked (pos n) ≡ Ok v → block_of inputs x items ≡ run_of (replicate (length items) v) None
same_number inputs x items n v is one =
    sym (at_number inputs items x n (length items) is refl) ∙ constant_values (length items) (checked (pos n)) v (replicate (length items) v) one refl

-- an input with one value for all items
pub same_input : (inputs : Inputs) (x : Expression) (items : List ℕ) (k count : ℕ) (w v : ℤ) → x ≡ e.Input k → inputs.shape k ≡ [] → all_below count items → ((i : ℕ) → i < count → inputs.value k i 0 ≡ w) → checked w ≡ Ok v →
    block_of inputs x items ≡ run_of (replicate (length items) v) None
same_input inputs x items k count w v is single below same one =
    sym (at_input inputs items x k is single)
    ∙ ap up_to (map_below (λ i. checked (inputs.value k i 0)) (λ _. checked w) count items below (λ i h. ap checked (same i h)) ∙ map_constant (checked w) items)
    ∙ constant_values (length items) (checked w) v (replicate (length items) v) one refl

-- as many of them as the left side has values
pub beside_left : (inputs : Inputs) (a b : Expression) (items : List ℕ) (left : Run ℤ) (v : ℤ) → block_of inputs a items ≡ left →
    let reached = take (length left.values) items in
    block_of inputs b reached ≡ run_of (replicate (length reached) v) None → block_of inputs b reached ≡ run_of (replicate (length left.values) v) None
beside_left inputs a b items left v found same =
    let few : length left.values ≤ length items = reached_le inputs a items left left.values found refl in
    same ∙ ap (λ n. run_of (replicate n v) None) (length-take-le (length left.values) items (omega (arith, few)))
