-- The shape of a bounded expression over arrays is one that an array may have.
use Rattle.std.proofs.Common.{◌≡◌, ℕ, zero, suc, ◌<◌, ◌*◌, Bool, true, false, List, [], ◌∷◌, Option, Some, None, length, refl, sym, ap, subst, ◌∙◌, arith}
use Rattle.std.specs.Prelude.{map, ◌&&◌, ◌||◌, if◌then◌else◌}
use Rattle.dx_base.specs.Array.{product}
use Rattle.dx_base.specs.ArrayLimits.{is_shape}
use Rattle.dx_expr_grammar.specs.declared.tree.Unary.{Unary}
use Rattle.dx_expr_grammar.specs.declared.tree.Unary.TheVariants as unary
use Rattle.dx_expr_grammar.specs.declared.tree.Binary.{Binary}
use Rattle.dx_expr_grammar.specs.declared.tree.Binary.TheVariants as binary
use Rattle.dx_expr_grammar.specs.declared.tree.Expression.{Expression, roll-Expression, out-Expression}
use Rattle.dx_expr_grammar.specs.declared.tree.Expression.TheViews.{roll-out-Expression}
use Rattle.dx_expr_grammar.specs.declared.tree.Expression.TheVariants as e
use Rattle.dx_expr_grammar.specs.declared.tree.Expression.TheVariants.{rolls-Number, rolls-Input, rolls-Unary, rolls-Binary, rolls-Choice, rolls-Part, rolls-Vector}
use Rattle.dx_expr_grammar.specs.declared.tree.Expression.TheOpen.{Expression-F}
use Rattle.dx_expr.specs.Shape.{Shape, shape_of, unary_shape, binary_shape, choice_shape, beside, single_if, is_single, is_vector, same_shape, has_part, with_one, with_two, all_single}
use Rattle.dx_expr.specs.Value.{size}
use Rattle.dx_expr.proofs.Nodes.{nodes, in_unary, in_left, in_right, in_one}
use Rattle.dx_expr.proofs.Equations.{shape_number, shape_input, shape_unary, shape_binary, shape_choice, shape_part, shape_vector}
use Rattle.dx_expr_bounds.specs.Bounds.{is_bounded, is_width, all_of}
use Rattle.dx_expr_bounds.proofs.Equations.{bounded_unary, bounded_binary, bounded_choice, bounded_vector}

both : (a b : Bool) → (a && b) ≡ true → (a ≡ true) × (b ≡ true)
both true true h = (refl, refl)
both true false h = absurd cc
both false b h = absurd cc

abbrev Fits : Shape → Type 0
Fits s = is_shape s ≡ true

along : {a s : Shape} → a ≡ s → Fits a → Fits s
along same fit = subst Fits same fit

shape_from : (f : Shape → Option Shape) (o : Option Shape) (s : Shape) → with_one f o ≡ Some s → (a : Shape) × (o ≡ Some a) × (f a ≡ Some s)
shape_from f None s h = absurd cc
shape_from f (Some a) s h = (a, refl, h)

single_fits : (t : Bool) (s : Shape) → single_if t ≡ Some s → Fits s
single_fits true s h = let same : [] ≡ s = cc in along same refl
single_fits false s h = absurd cc

beside_fits : (a b s : Shape) → beside a b ≡ Some s → Fits a → Fits b → Fits s
beside_fits a b s h p q = by (is_single a) (is_single b || same_shape a b) h
  where
    by : (t u : Bool) → (if t then Some b else (if u then Some a else None)) ≡ Some s → Fits s
    by true u h = let same : b ≡ s = cc in along same q
    by false true h = let same : a ≡ s = cc in along same p
    by false false h = absurd cc

unary_fits : (o : Unary) (a s : Shape) → unary_shape o a ≡ Some s → Fits a → Fits s
unary_fits unary.Negate a s h p = let same : a ≡ s = cc in along same p
unary_fits unary.Not a s h p = single_fits (is_single a) s h
unary_fits unary.Absolute a s h p = let same : a ≡ s = cc in along same p
unary_fits unary.Sign a s h p = let same : a ≡ s = cc in along same p

binary_fits : (o : Binary) (a b s : Shape) → binary_shape o a b ≡ Some s → Fits a → Fits b → Fits s
binary_fits binary.Dot a b s h p q = single_fits (is_vector a && same_shape a b) s h
binary_fits binary.Or a b s h p q = single_fits (is_single a && is_single b) s h
binary_fits binary.And a b s h p q = single_fits (is_single a && is_single b) s h
binary_fits binary.Equal a b s h p q = single_fits (is_single a && is_single b) s h
binary_fits binary.NotEqual a b s h p q = single_fits (is_single a && is_single b) s h
binary_fits binary.Less a b s h p q = single_fits (is_single a && is_single b) s h
binary_fits binary.LessEqual a b s h p q = single_fits (is_single a && is_single b) s h
binary_fits binary.Greater a b s h p q = single_fits (is_single a && is_single b) s h
binary_fits binary.GreaterEqual a b s h p q = single_fits (is_single a && is_single b) s h
binary_fits _ a b s h p q = beside_fits a b s h p q

choice_fits : (c a b s : Shape) → choice_shape c a b ≡ Some s → Fits a → Fits s
choice_fits c a b s h p = by (is_single c && same_shape a b) h
  where
    by : (t : Bool) → (if t then Some a else None) ≡ Some s → Fits s
    by true h = let same : a ≡ s = cc in along same p
    by false h = absurd cc

width_fits : (n : ℕ) → is_width n ≡ true → Fits (n ∷ [])
width_fits n h = rw h refl

module _ (inputs : ℕ → Shape) (lawful : (k : ℕ) → Fits (inputs k)) where
  record Law (x : Expression) : Type 0 where
    pub fits : is_bounded x ≡ true → (s : Shape) → shape_of inputs x ≡ Some s → Fits s

  number : (n : ℕ) → Law (e.Number n)
  number n = record { fits = λ h s p. let g : Some [] ≡ Some s = sym (shape_number inputs n) ∙ p in let same : [] ≡ s = cc in along same refl }

  input : (k : ℕ) → Law (e.Input k)
  input k = record { fits = λ h s p. let g : Some (inputs k) ≡ Some s = sym (shape_input inputs k) ∙ p in let same : inputs k ≡ s = cc in along same (lawful k) }

  of_unary : (o : Unary) (a : Expression) → Law a → Law (e.Unary o a)
  of_unary o a law = record {
    fits = λ h s p.
        let t = shape_from (unary_shape o) (shape_of inputs a) s (sym (shape_unary inputs o a) ∙ p) in
        unary_fits o t.0 s t.2 (law.fits (sym (bounded_unary o a) ∙ h) t.0 t.1);
  }

  of_binary : (o : Binary) (a b : Expression) → Law a → Law b → Law (e.Binary o a b)
  of_binary o a b left right = record {
    fits = λ h s p.
        let t = shape_from (λ x. with_one (binary_shape o x) (shape_of inputs b)) (shape_of inputs a) s (sym (shape_binary inputs o a b) ∙ p) in
        let u = shape_from (binary_shape o t.0) (shape_of inputs b) s t.2 in
        let bound = both (is_bounded a) (is_bounded b) (sym (bounded_binary o a b) ∙ h) in
        binary_fits o t.0 u.0 s u.2 (left.fits bound.0 t.0 t.1) (right.fits bound.1 u.0 u.1);
  }

  of_choice : (c a b : Expression) → Law a → Law (e.Choice c a b)
  of_choice c a b one = record {
    fits = λ h s p.
        let t = shape_from (λ z. with_two (choice_shape z) (shape_of inputs a) (shape_of inputs b)) (shape_of inputs c) s (sym (shape_choice inputs c a b) ∙ p) in
        let u = shape_from (λ x. with_one (choice_shape t.0 x) (shape_of inputs b)) (shape_of inputs a) s t.2 in
        let w = shape_from (choice_shape t.0 u.0) (shape_of inputs b) s u.2 in
        let bound = both (is_bounded c) (is_bounded a && is_bounded b) (sym (bounded_choice c a b) ∙ h) in
        choice_fits t.0 u.0 w.0 s w.2 (one.fits (both (is_bounded a) (is_bounded b) bound.1).0 u.0 u.1);
  }

  of_part : (a : Expression) (k : ℕ) → Law (e.Part a k)
  of_part a k = record {
    fits = λ h s p. let t = shape_from (λ y. single_if (has_part k y)) (shape_of inputs a) s (sym (shape_part inputs a k) ∙ p) in single_fits (has_part k t.0) s t.2;
  }

  of_vector : (parts : List Expression) → Law (e.Vector parts)
  of_vector parts = record {
    fits = λ h s p. by (all_single (map (shape_of inputs) parts)) s (both (is_width (length parts)) (all_of (map is_bounded parts)) (sym (bounded_vector parts) ∙ h)).0 (sym (shape_vector inputs parts) ∙ p);
  }
    where
      by : (t : Bool) (s : Shape) → is_width (length parts) ≡ true → (if t then Some (length parts ∷ []) else None) ≡ Some s → Fits s
      by true s w p = let same : length parts ∷ [] ≡ s = cc in along same (width_fits (length parts) w)
      by false s w p = absurd cc

  layer_law : (l : Expression-F Expression) → ((a : Expression) → nodes a < nodes (roll-Expression l) → Law a) → Law (roll-Expression l)
  layer_law (Expression-F.Number n) laws = subst Law (sym (rolls-Number n)) (number n)
  layer_law (Expression-F.Input k) laws = subst Law (sym (rolls-Input k)) (input k)
  layer_law (Expression-F.Unary o a) laws = subst Law (sym (rolls-Unary o a)) (of_unary o a (laws a (in_unary _ o a a (rolls-Unary o a) refl)))
  layer_law (Expression-F.Binary o a b) laws = subst Law (sym (rolls-Binary o a b)) (of_binary o a b (laws a (in_left _ o a b a (rolls-Binary o a b) refl)) (laws b (in_right _ o a b b (rolls-Binary o a b) refl)))
  layer_law (Expression-F.Choice c a b) laws = subst Law (sym (rolls-Choice c a b)) (of_choice c a b (laws a (in_one _ c a b a (rolls-Choice c a b) refl)))
  layer_law (Expression-F.Part a k) laws = subst Law (sym (rolls-Part a k)) (of_part a k)
  layer_law (Expression-F.Vector parts) laws = subst Law (sym (rolls-Vector parts)) (of_vector parts)

  by_size : (n : ℕ) (x : Expression) → nodes x < n → Law x
  by_size zero x h = absurd (omega arith)
  by_size (suc n) x h = subst Law (roll-out-Expression x) (layer_law (out-Expression x) (λ a below. let g : nodes (roll-Expression (out-Expression x)) ≡ nodes x = ap nodes (roll-out-Expression x) in by_size n a (omega arith)))

pub shape_fits : (inputs : ℕ → Shape) → ((k : ℕ) → is_shape (inputs k) ≡ true) → (x : Expression) → is_bounded x ≡ true → (s : Shape) → shape_of inputs x ≡ Some s → is_shape s ≡ true
shape_fits inputs lawful x bounded s is = (by_size inputs lawful (suc (nodes x)) x (omega arith)).fits bounded s is

-- both ways to say how many values an item has
pub size_is : (es : List ℕ) → size es ≡ product es
size_is [] = refl
size_is (n ∷ es) = ap (λ m. n * m) (size_is es)
