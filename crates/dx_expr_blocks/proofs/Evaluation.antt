-- What a block gives of an expression x that is of some kind, from what blocks gave of its parts.
use Rattle.std.proofs.Common.{◌≡◌, ℕ, zero, suc, ◌-◌, ◌≤◌, Bool, true, false, ℤ, pos, List, [], ◌∷◌, length, take, replicate, Some, Ok, Err, refl, sym, ap, subst, ◌∙◌, arith}
use Rattle.std.specs.Prelude.{map, if◌then◌else◌}
use Rattle.dx_expr_grammar.specs.declared.tree.Unary.{Unary}
use Rattle.dx_expr_grammar.specs.declared.tree.Binary.{Binary}
use Rattle.dx_expr_grammar.specs.declared.tree.Binary.TheVariants as binary
use Rattle.dx_expr_grammar.specs.declared.tree.Expression.{Expression}
use Rattle.dx_expr_grammar.specs.declared.tree.Expression.TheVariants as e
use Rattle.dx_expr.specs.declared.operators.Sides.TheVariants as sides
use Rattle.dx_expr.specs.Shape.{shape_of}
use Rattle.dx_expr.specs.Value.{Inputs, Outcome, sides_of, unary_value, binary_value, checked}
use Rattle.dx_expr_blocks.specs.Block.{Run, block_of, up_to, both, ended, picked, passes, looking_where, merged}
use Rattle.dx_expr_blocks.specs.Items.{all_below}
use Rattle.dx_expr_blocks.proofs.Laws.{picked_count}
use Rattle.dx_expr_blocks.proofs.Expressions.{block_number, block_input, block_unary, block_both, block_or, block_and, block_choice, decisions}

-- ---- items

up_to_length : (os : List (Outcome ℤ)) → length (up_to os).values ≤ length os
up_to_length [] = omega arith
up_to_length (Ok v ∷ os) = let h = up_to_length os in omega (arith, h)
up_to_length (Err f ∷ os) = omega arith

map_length : {A B : Type 0} → (f : A → B) (l : List A) → length (map f l) ≡ length l
map_length f [] = refl
map_length f (a ∷ l) = ap suc (map_length f l)

pub reached_le : (inputs : Inputs) (x : Expression) (items : List ℕ) (run : Run ℤ) (s : List ℤ) → block_of inputs x items ≡ run → s ≡ run.values → length s ≤ length items
reached_le inputs x items run s h e =
    let l : length (block_of inputs x items).values ≤ length items = subst (λ n. length (block_of inputs x items).values ≤ n) (map_length _ items) (up_to_length _) in
    let g : length s ≡ length (block_of inputs x items).values = ap length (e ∙ sym (ap (λ (r : Run ℤ). r.values) h)) in
    omega (arith, l, g)

below_picked : (n : ℕ) (p : ℤ → Bool) (cs : List ℤ) (l : List ℕ) → all_below n l → all_below n (picked p cs l)
below_picked n p [] l h = tt
below_picked n p (c ∷ cs) [] h = tt
below_picked n p (c ∷ cs) (i ∷ l) h =
    elim (p c) as (λ z. all_below n (if z then i ∷ picked p cs l else picked p cs l)) [ true ↦ (h.0, below_picked n p cs l h.1) | false ↦ below_picked n p cs l h.1 ]

pub listed_below : (n : ℕ) (p : ℤ → Bool) (cs : List ℤ) (l s : List ℕ) → all_below n l → s ≡ picked p cs l → all_below n s
listed_below n p cs l s h e = subst (all_below n) (sym e) (below_picked n p cs l h)

below_first : (n k : ℕ) (l : List ℕ) → all_below n l → all_below n (take k l)
below_first n zero l h = tt
below_first n (suc k) [] h = tt
below_first n (suc k) (i ∷ l) h = (h.0, below_first n k l h.1)

pub first_below : (n k : ℕ) (l s : List ℕ) → all_below n l → s ≡ take k l → all_below n s
first_below n k l s h e = subst (all_below n) (sym e) (below_first n k l h)

pub both_of : (o : Binary) → (o ≡ binary.Or → ⊥) → (o ≡ binary.And → ⊥) → (o ≡ binary.Dot → ⊥) → sides_of o ≡ sides.Both
both_of binary.Or h g k = absurd (h refl)
both_of binary.And h g k = absurd (g refl)
both_of binary.Equal h g k = refl
both_of binary.NotEqual h g k = refl
both_of binary.Less h g k = refl
both_of binary.LessEqual h g k = refl
both_of binary.Greater h g k = refl
both_of binary.GreaterEqual h g k = refl
both_of binary.Add h g k = refl
both_of binary.Subtract h g k = refl
both_of binary.Multiply h g k = refl
both_of binary.Divide h g k = refl
both_of binary.Remainder h g k = refl
both_of binary.Minimum h g k = refl
both_of binary.Maximum h g k = refl
both_of binary.Dot h g k = absurd (k refl)

-- ---- blocks

-- what the code has at hand of a choice x is that choice
pub same_choice : (x c a b c' a' b' : Expression) → x ≡ e.Choice c a b → c' ≡ c → a' ≡ a → b' ≡ b → e.Choice c' a' b' ≡ x
same_choice x c a b c' a' b' is first left right = ap (λ p. e.Choice p a' b') first ∙ ap (λ p. e.Choice c p b') left ∙ ap (λ p. e.Choice c a p) right ∙ sym is

module _ (inputs : Inputs) (items : List ℕ) where
  abbrev B : Expression → List ℕ → Run ℤ
  B = block_of inputs

  abbrev IsSingle : Expression → Type 0
  IsSingle a = shape_of inputs.shape a ≡ Some []

  pub at_number : (x : Expression) (n count : ℕ) → x ≡ e.Number n → count ≡ length items → up_to (replicate count (checked (pos n))) ≡ B x items
  at_number x n count is h = ap (λ c. up_to (replicate c (checked (pos n)))) h ∙ sym (block_number inputs n items) ∙ ap (λ x. B x items) (sym is)

  pub at_input : (x : Expression) (k : ℕ) → x ≡ e.Input k → inputs.shape k ≡ [] → up_to (map (λ i. checked (inputs.value k i 0)) items) ≡ B x items
  at_input x k is h = sym (block_input inputs k items h) ∙ ap (λ x. B x items) (sym is)

  pub at_unary : (x : Expression) (o : Unary) (a a' : Expression) (r : Run ℤ) → x ≡ e.Unary o a → a' ≡ a → IsSingle a' → B a' items ≡ r → ended (up_to (map (unary_value o) r.values)) r.fault ≡ B x items
  at_unary x o a a' r is same h found =
      let f : Run ℤ → Run ℤ = λ r. ended (up_to (map (unary_value o) r.values)) r.fault in
      ap f (sym found) ∙ ap (λ a. f (B a items)) same ∙ sym (block_unary inputs o a items (subst IsSingle same h)) ∙ ap (λ x. B x items) (sym is)

  pub at_both : (o : Binary) (a b : Expression) (l r : Run ℤ) (reached : List ℕ) → sides_of o ≡ sides.Both → IsSingle a → IsSingle b →
      B a items ≡ l → reached ≡ take (length l.values) items → B b reached ≡ r → both (binary_value o) l r ≡ B (e.Binary o a b) items
  at_both o a b l r reached s h g found there found' =
      ap (λ r. both (binary_value o) l r) (sym found') ∙ ap (λ q. both (binary_value o) l (B b q)) there
      ∙ ap (λ l. both (binary_value o) l (B b (take (length l.values) items))) (sym found) ∙ sym (block_both inputs o a b items s h g)

  -- where the right side is looked at, as it was found, and elsewhere what it can't change
  pub at_and : (wanted : Bool) (a b : Expression) (l r looked fixed : Run ℤ) (reached : List ℕ) (rest : ℕ) → wanted ≡ true →
      B a items ≡ l → reached ≡ picked (passes wanted) l.values items → B b reached ≡ r → decisions r ≡ looked → rest ≡ length l.values - length reached → up_to (replicate rest (checked (pos 0))) ≡ fixed →
      merged l.values l.fault looked.values looked.fault fixed.values fixed.fault ≡ B (e.Binary (looking_where wanted) a b) items
  at_and true a b l r looked fixed reached rest is found there found' decides much same =
      let m : Run ℤ → Run ℤ → Run ℤ → Run ℤ = λ l one other. merged l.values l.fault one.values one.fault other.values other.fault in
      let count : rest ≡ length (picked (passes false) l.values items) =
      omega (arith, much, ap length there, picked_count l.values items (reached_le inputs a items l l.values found refl)) in
      ap (λ q. m l q fixed) (sym decides ∙ ap decisions (sym found') ∙ ap (λ q. decisions (B b q)) there)
      ∙ ap (λ q. m l (decisions (B b (picked (passes true) l.values items))) q) (sym same ∙ ap (λ n. up_to (replicate n (checked (pos 0)))) count)
      ∙ ap (λ l. m l (decisions (B b (picked (passes true) l.values items))) (up_to (replicate (length (picked (passes false) l.values items)) (checked (pos 0))))) (sym found)
      ∙ sym (block_and inputs a b items)
  at_and false a b l r looked fixed reached rest is found there found' decides much same = absurd cc

  pub at_or : (wanted : Bool) (a b : Expression) (l r looked fixed : Run ℤ) (reached : List ℕ) (rest : ℕ) → wanted ≡ false →
      B a items ≡ l → reached ≡ picked (passes wanted) l.values items → B b reached ≡ r → decisions r ≡ looked → rest ≡ length l.values - length reached → up_to (replicate rest (checked (pos 1))) ≡ fixed →
      merged l.values l.fault fixed.values fixed.fault looked.values looked.fault ≡ B (e.Binary (looking_where wanted) a b) items
  at_or true a b l r looked fixed reached rest is found there found' decides much same = absurd cc
  at_or false a b l r looked fixed reached rest is found there found' decides much same =
      let m : Run ℤ → Run ℤ → Run ℤ → Run ℤ = λ l one other. merged l.values l.fault one.values one.fault other.values other.fault in
      let count : rest ≡ length (picked (passes true) l.values items) =
      omega (arith, much, ap length there, picked_count l.values items (reached_le inputs a items l l.values found refl)) in
      ap (λ q. m l fixed q) (sym decides ∙ ap decisions (sym found') ∙ ap (λ q. decisions (B b q)) there)
      ∙ ap (λ q. m l q (decisions (B b (picked (passes false) l.values items)))) (sym same ∙ ap (λ n. up_to (replicate n (checked (pos 1)))) count)
      ∙ ap (λ l. m l (up_to (replicate (length (picked (passes true) l.values items)) (checked (pos 1)))) (decisions (B b (picked (passes false) l.values items)))) (sym found)
      ∙ sym (block_or inputs a b items)

  pub at_choice : (c a b : Expression) (l one other : Run ℤ) (reached reached' : List ℕ) →
      B c items ≡ l → reached ≡ picked (passes true) l.values items → B a reached ≡ one → reached' ≡ picked (passes false) l.values items → B b reached' ≡ other →
      merged l.values l.fault one.values one.fault other.values other.fault ≡ B (e.Choice c a b) items
  at_choice c a b l one other reached reached' found there found' there' found'' =
      let m : Run ℤ → Run ℤ → Run ℤ → Run ℤ = λ l one other. merged l.values l.fault one.values one.fault other.values other.fault in
      ap (λ o. m l o other) (sym found' ∙ ap (B a) there)
      ∙ ap (λ o. m l (B a (picked (passes true) l.values items)) o) (sym found'' ∙ ap (B b) there')
      ∙ ap (λ l. m l (B a (picked (passes true) l.values items)) (B b (picked (passes false) l.values items))) (sym found)
      ∙ sym (block_choice inputs c a b items)
