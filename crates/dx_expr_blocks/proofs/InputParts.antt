-- What a block gives of a part of an input whose values all lie in the int range.
use Rattle.std.proofs.Common.{◌≡◌, ℕ, zero, suc, ◌+◌, ◌*◌, ◌<◌, Bool, true, false, ℤ, pos, List, [], ◌∷◌, Some, Ok, Err, refl, sym, ap, ◌∙◌, arith}
use Rattle.std.specs.Prelude.{map, slice_index_or, if◌then◌else◌}
use Rattle.std.specs.List.{range_with_len}
use Rattle.std.proofs.lemmas.Bool.{ltb-true}
use Rattle.dx_expr_grammar.specs.declared.tree.Expression.{Expression}
use Rattle.dx_expr_grammar.specs.declared.tree.Expression.TheVariants as e
use Rattle.dx_expr.specs.declared.fault.ItemFault.TheVariants.{Overflow}
use Rattle.dx_expr.specs.Shape.{Shape, shape_of, single_if, has_part, with_one}
use Rattle.dx_expr.specs.Value.{Inputs, Outcome, Values, value_of, size, each, is_int, checked, alone, input_values, ◌>>=◌}
use Rattle.dx_expr.proofs.Equations.{shape_input, shape_part, value_input, value_part}
use Rattle.dx_expr_blocks.specs.Block.{block_of, up_to, single}
use Rattle.dx_expr_blocks.specs.Items.{all_below}
use Rattle.dx_expr_blocks.specs.Sources.{AreInts}
use Rattle.dx_expr_blocks.proofs.Ranges.{map_below}

-- ---- places

below_part : (k : ℕ) (s : Shape) → has_part k s ≡ true → k < size s
below_part k [] h = absurd cc
below_part k (n ∷ []) h = let g : k < n = ltb-true k n h in omega (arith, g)
below_part k (n ∷ m ∷ s) h = absurd cc

-- the place of a part of an input is one of its places
pub part_place : (inputs : ℕ → Shape) (x : Expression) (k place : ℕ) → x ≡ e.Part (e.Input k) place → shape_of inputs x ≡ Some [] → place < size (inputs k)
part_place inputs x k place is h =
    below_part place (inputs k) (by (has_part place (inputs k)) (sym (ap (shape_of inputs) is ∙ shape_part inputs (e.Input k) place ∙ ap (with_one (λ y. single_if (has_part place y))) (shape_input inputs k)) ∙ h))
  where
    by : (t : Bool) → single_if t ≡ Some [] → t ≡ true
    by true h = refl
    by false h = absurd cc

-- ---- values

int_checked : (v : ℤ) → is_int v ≡ true → checked v ≡ Ok v
int_checked v h = ap (λ t. if t then Ok v else Err Overflow) h

pub each_int : (f : ℕ → ℤ) (from n : ℕ) → ((p : ℕ) → p < n → is_int (f (from + p)) ≡ true) → each (λ p. checked (f p)) (range_with_len from n) ≡ Ok (map f (range_with_len from n))
each_int f from zero h = refl
each_int f from (suc n) h =
    let here : checked (f from) ≡ Ok (f from) = ap (λ q. checked (f q)) (omega arith) ∙ int_checked (f (from + 0)) (h 0 (omega arith)) ∙ ap (λ q. Ok (f q)) (omega arith) in
    let there = each_int f (from + 1) n (λ p below. ap (λ q. is_int (f q)) (omega arith) ∙ h (suc p) (omega arith)) in
    ap (λ (o : Outcome ℤ). o >>= λ v. each (λ p. checked (f p)) (range_with_len (from + 1) n) >>= λ vs. Ok (v ∷ vs)) here
    ∙ ap (λ (o : Outcome Values). o >>= λ vs. Ok (f from ∷ vs)) there

at_place : (f : ℕ → ℤ) (from n i : ℕ) → i < n → slice_index_or (map f (range_with_len from n)) i (pos 0) ≡ f (from + i)
at_place f from zero i h = absurd (omega arith)
at_place f from (suc n) zero h = ap f (omega arith)
at_place f from (suc n) (suc i) h = at_place f (from + 1) n i (omega arith) ∙ ap f (omega arith)

module _ (inputs : Inputs) (x : Expression) (k place n : ℕ) (is : x ≡ e.Part (e.Input k) place) (below : place < size (inputs.shape k)) (ints : AreInts inputs n k) where
  value_there : (item : ℕ) → item < n → single (value_of inputs item x) ≡ checked (inputs.value k item place)
  value_there item h =
      let f : ℕ → ℤ = λ p. inputs.value k item p in
      let all : input_values inputs item k ≡ Ok (map f (range_with_len 0 (size (inputs.shape k)))) = each_int f 0 (size (inputs.shape k)) (λ p g. ap (λ q. is_int (f q)) (omega arith) ∙ ints item p h g) in
      ap (λ y. single (value_of inputs item y)) is ∙ ap single (value_part inputs item (e.Input k) place)
      ∙ ap (λ o. single (o >>= λ vs. alone (slice_index_or vs place (pos 0)))) (value_input inputs item k ∙ all)
      ∙ ap (λ v. Ok v) (at_place f 0 (size (inputs.shape k)) place below ∙ ap f (let z : 0 + place ≡ place = omega arith in z)) ∙ sym (int_checked (inputs.value k item place) (ints item place h below))

  -- each item's value in that place
  pub at_input_part : (items : List ℕ) → all_below n items → block_of inputs x items ≡ up_to (map (λ item. checked (inputs.value k item place)) items)
  at_input_part items within = ap up_to (map_below (λ item. single (value_of inputs item x)) (λ item. checked (inputs.value k item place)) n items within value_there)

  -- and where it stands in rows
  pub at_rows : (values : List ℤ) (width : ℕ) → ((item : ℕ) → item < n → inputs.value k item place ≡ slice_index_or values (item * width + place) (pos 0)) →
      (items : List ℕ) → all_below n items → block_of inputs x items ≡ up_to (map (λ item. checked (slice_index_or values (item * width + place) (pos 0))) items)
  at_rows values width there items within = at_input_part items within ∙ ap up_to (map_below (λ item. checked (inputs.value k item place)) (λ item. checked (slice_index_or values (item * width + place) (pos 0))) n items within (λ item h. ap checked (there item h)))
