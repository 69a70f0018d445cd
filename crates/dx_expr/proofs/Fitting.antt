-- What the shape of an expression says of those of its parts.
use Rattle.std.proofs.Common.{◌≡◌, ℕ, zero, suc, ◌<◌, Bool, true, false, List, [], ◌∷◌, Option, Some, None, get_or, refl, sym, ap, subst, ◌∙◌, arith}
use Rattle.std.specs.Prelude.{IsSome, length, map, ◌&&◌, ◌||◌, if◌then◌else◌}
use Rattle.dx_expr_grammar.specs.declared.tree.Unary.{Unary}
use Rattle.dx_expr_grammar.specs.declared.tree.Unary.TheVariants as unary
use Rattle.dx_expr_grammar.specs.declared.tree.Binary.{Binary}
use Rattle.dx_expr_grammar.specs.declared.tree.Binary.TheVariants as binary
use Rattle.dx_expr_grammar.specs.declared.tree.Expression.{Expression}
use Rattle.dx_expr_grammar.specs.declared.tree.Expression.TheVariants as e
use Rattle.dx_expr.specs.declared.operators.Sides.{Sides}
use Rattle.dx_expr.specs.declared.operators.Sides.TheVariants as sides
use Rattle.dx_expr.specs.Value.{sides_of}
use Rattle.dx_expr.specs.Shape.{Shape, shape_of, unary_shape, binary_shape, choice_shape, beside, single_if, is_single, is_single_one, is_vector, same_shape, has_part, with_one, with_two, all_single}
use Rattle.dx_expr.proofs.Equations.{shape_number, shape_input, shape_unary, shape_binary, shape_choice, shape_part, shape_vector}

-- ---- shapes

nothing_if : (b : Bool) → single_if b ≡ Some [] → b ≡ true
nothing_if true h = refl
nothing_if false h = absurd cc

pub single_is : (a : Shape) → is_single a ≡ true → a ≡ []
single_is [] h = refl
single_is (n ∷ a) h = absurd cc

pub both_true : (a b : Bool) → (a && b) ≡ true → (a ≡ true) × (b ≡ true)
both_true true true h = (refl, refl)
both_true true false h = absurd cc
both_true false b h = absurd cc

same_none : (a b : Shape) → same_shape a b ≡ true → a ≡ [] → b ≡ []
same_none [] [] h e = refl
same_none [] (n ∷ b) h e = absurd cc
same_none (n ∷ a) b h e = absurd cc

beside_none : (a b : Shape) → beside a b ≡ Some [] → (a ≡ []) × (b ≡ [])
beside_none [] b h = let e : b ≡ [] = cc in (refl, e)
beside_none (n ∷ a) b h = by (is_single b || same_shape (n ∷ a) b) h
  where
    by : (t : Bool) → (if t then Some (n ∷ a) else None) ≡ Some [] → (n ∷ a ≡ []) × (b ≡ [])
    by true h = absurd cc
    by false h = absurd cc

unary_none : (o : Unary) (a : Shape) → unary_shape o a ≡ Some [] → a ≡ []
unary_none unary.Negate a h = cc
unary_none unary.Not a h = single_is a (nothing_if (is_single a) h)
unary_none unary.Absolute a h = cc
unary_none unary.Sign a h = cc

both_none : (a b : Shape) → single_if (is_single a && is_single b) ≡ Some [] → (a ≡ []) × (b ≡ [])
both_none a b h = let t = both_true (is_single a) (is_single b) (nothing_if (is_single a && is_single b) h) in (single_is a t.0, single_is b t.1)

-- an operator with an operand that is a vector
abbrev pub is_vectors : Sides → Bool
is_vectors sides.UnlessTrue = false
is_vectors sides.IfTrue = false
is_vectors sides.Vectors = true
is_vectors sides.Both = false

binary_none : (o : Binary) (a b : Shape) → is_vectors (sides_of o) ≡ false → binary_shape o a b ≡ Some [] → (a ≡ []) × (b ≡ [])
binary_none binary.Dot a b d h = absurd cc
binary_none binary.Or a b d h = both_none a b h
binary_none binary.And a b d h = both_none a b h
binary_none binary.Equal a b d h = both_none a b h
binary_none binary.NotEqual a b d h = both_none a b h
binary_none binary.Less a b d h = both_none a b h
binary_none binary.LessEqual a b d h = both_none a b h
binary_none binary.Greater a b d h = both_none a b h
binary_none binary.GreaterEqual a b d h = both_none a b h
binary_none _ a b d h = beside_none a b h

choice_none : (c a b : Shape) → choice_shape c a b ≡ Some [] → (c ≡ []) × (a ≡ []) × (b ≡ [])
choice_none c a b h = by (is_single c) (same_shape a b) refl refl h
  where
    by : (s t : Bool) → is_single c ≡ s → same_shape a b ≡ t → (if s && t then Some a else None) ≡ Some [] → (c ≡ []) × (a ≡ []) × (b ≡ [])
    by true true p q h = let e : a ≡ [] = cc in (single_is c p, e, same_none a b q e)
    by true false p q h = absurd cc
    by false t p q h = absurd cc

-- ---- single values

module _ (inputs : ℕ → Shape) where
  pub single_of_unary : (o : Unary) (a : Expression) → shape_of inputs (e.Unary o a) ≡ Some [] → shape_of inputs a ≡ Some []
  single_of_unary o a h = by (shape_of inputs a) (sym (shape_unary inputs o a) ∙ h)
    where
      by : (s : Option Shape) → with_one (unary_shape o) s ≡ Some [] → s ≡ Some []
      by None h = absurd cc
      by (Some x) h = ap (λ l. Some l) (unary_none o x h)

  pub single_of_binary : (o : Binary) (a b : Expression) → is_vectors (sides_of o) ≡ false → shape_of inputs (e.Binary o a b) ≡ Some [] → (shape_of inputs a ≡ Some []) × (shape_of inputs b ≡ Some [])
  single_of_binary o a b d h = by (shape_of inputs a) (shape_of inputs b) (sym (shape_binary inputs o a b) ∙ h)
    where
      by : (s t : Option Shape) → with_two (binary_shape o) s t ≡ Some [] → (s ≡ Some []) × (t ≡ Some [])
      by None t h = absurd cc
      by (Some x) None h = absurd cc
      by (Some x) (Some y) h = let p = binary_none o x y d h in (ap (λ l. Some l) p.0, ap (λ l. Some l) p.1)

  pub single_of_choice : (c a b : Expression) → shape_of inputs (e.Choice c a b) ≡ Some [] → (shape_of inputs c ≡ Some []) × (shape_of inputs a ≡ Some []) × (shape_of inputs b ≡ Some [])
  single_of_choice c a b h = by (shape_of inputs c) (shape_of inputs a) (shape_of inputs b) (sym (shape_choice inputs c a b) ∙ h)
    where
      by : (r s t : Option Shape) → with_one (λ x. with_two (choice_shape x) s t) r ≡ Some [] → (r ≡ Some []) × (s ≡ Some []) × (t ≡ Some [])
      by None s t h = absurd cc
      by (Some z) None t h = absurd cc
      by (Some z) (Some x) None h = absurd cc
      by (Some z) (Some x) (Some y) h = let p = choice_none z x y h in (ap (λ l. Some l) p.0, ap (λ l. Some l) p.1, ap (λ l. Some l) p.2)

  pub vector_no_single : (parts : List Expression) → shape_of inputs (e.Vector parts) ≡ Some [] → ⊥
  vector_no_single parts h = by (all_single (map (shape_of inputs) parts)) (sym (shape_vector inputs parts) ∙ h)
    where
      by : (t : Bool) → (if t then Some (length parts ∷ []) else None) ≡ Some [] → ⊥
      by true h = cc
      by false h = cc

-- ---- the parts of an expression x that is of some kind, each of which may be given in other words

some_is : (s : Option Shape) → s ≡ Some [] → IsSome s
some_is None h = absurd cc
some_is (Some a) h = refl

module _ (inputs : ℕ → Shape) (x : Expression) where
  abbrev S : Expression → Option Shape
  S a = shape_of inputs a

  in_words : {a a' : Expression} → a' ≡ a → S a ≡ Some [] → S a' ≡ Some []
  in_words is h = ap S is ∙ h

  some_in_words : {a a' : Expression} → a' ≡ a → IsSome (S a) → IsSome (S a')
  some_in_words is h = subst (λ s. IsSome s) (sym (ap S is)) h

  pub fit_input : (k : ℕ) → x ≡ e.Input k → S x ≡ Some [] → inputs k ≡ []
  fit_input k is h = let g : Some (inputs k) ≡ Some [] = sym (ap S is ∙ shape_input inputs k) ∙ h in cc

  pub fit_unary : (o : Unary) (a a' : Expression) → x ≡ e.Unary o a → a' ≡ a → S x ≡ Some [] → S a' ≡ Some []
  fit_unary o a a' is same h = in_words same (single_of_unary inputs o a (sym (ap S is) ∙ h))

  no_vectors : (k : Sides) (o : Binary) → k ≡ sides_of o → is_vectors k ≡ false → is_vectors (sides_of o) ≡ false
  no_vectors k o same h = ap is_vectors (sym same) ∙ h

  pub fit_left : (k : Sides) (o : Binary) (a b a' : Expression) → x ≡ e.Binary o a b → k ≡ sides_of o → is_vectors k ≡ false → a' ≡ a → S x ≡ Some [] → S a' ≡ Some []
  fit_left k o a b a' is sides no_vector same h = in_words same (single_of_binary inputs o a b (no_vectors k o sides no_vector) (sym (ap S is) ∙ h)).0

  pub fit_right : (k : Sides) (o : Binary) (a b b' : Expression) → x ≡ e.Binary o a b → k ≡ sides_of o → is_vectors k ≡ false → b' ≡ b → S x ≡ Some [] → S b' ≡ Some []
  fit_right k o a b b' is sides no_vector same h = in_words same (single_of_binary inputs o a b (no_vectors k o sides no_vector) (sym (ap S is) ∙ h)).1

  pub fit_condition : (c a b c' : Expression) → x ≡ e.Choice c a b → c' ≡ c → S x ≡ Some [] → S c' ≡ Some []
  fit_condition c a b c' is same h = in_words same (single_of_choice inputs c a b (sym (ap S is) ∙ h)).0

  pub fit_one : (c a b a' : Expression) → x ≡ e.Choice c a b → a' ≡ a → S x ≡ Some [] → S a' ≡ Some []
  fit_one c a b a' is same h = in_words same (single_of_choice inputs c a b (sym (ap S is) ∙ h)).1

  pub fit_other : (c a b b' : Expression) → x ≡ e.Choice c a b → b' ≡ b → S x ≡ Some [] → S b' ≡ Some []
  fit_other c a b b' is same h = in_words same (single_of_choice inputs c a b (sym (ap S is) ∙ h)).2

  pub fit_nothing : (parts : List Expression) → x ≡ e.Vector parts → S x ≡ Some [] → ⊥
  fit_nothing parts is h = vector_no_single inputs parts (sym (ap S is) ∙ h)

  pub fit_some : S x ≡ Some [] → IsSome (S x)
  fit_some h = some_is (S x) h

  -- shapes that fit
  pub fits_unary : (o : Unary) (a a' : Expression) → x ≡ e.Unary o a → a' ≡ a → IsSome (S x) → IsSome (S a')
  fits_unary o a a' is same h = some_in_words same (by (S a) (subst (λ s. IsSome s) (ap S is ∙ shape_unary inputs o a) h))
    where
      by : (s : Option Shape) → IsSome (with_one (unary_shape o) s) → IsSome s
      by None h = h
      by (Some y) h = refl

  both_some : (o : Binary) (s t : Option Shape) → IsSome (with_two (binary_shape o) s t) → IsSome s × IsSome t
  both_some o None t h = absurd cc
  both_some o (Some y) None h = absurd cc
  both_some o (Some y) (Some z) h = (refl, refl)

  pub fits_left : (o : Binary) (a b a' : Expression) → x ≡ e.Binary o a b → a' ≡ a → IsSome (S x) → IsSome (S a')
  fits_left o a b a' is same h = some_in_words same (both_some o (S a) (S b) (subst (λ s. IsSome s) (ap S is ∙ shape_binary inputs o a b) h)).0

  pub fits_right : (o : Binary) (a b b' : Expression) → x ≡ e.Binary o a b → b' ≡ b → IsSome (S x) → IsSome (S b')
  fits_right o a b b' is same h = some_in_words same (both_some o (S a) (S b) (subst (λ s. IsSome s) (ap S is ∙ shape_binary inputs o a b) h)).1

  if_some : (t : Bool) → IsSome (single_if t) → single_if t ≡ Some []
  if_some true h = refl
  if_some false h = absurd cc

  abbrev pub is_both : Sides → Bool
  is_both sides.UnlessTrue = false
  is_both sides.IfTrue = false
  is_both sides.Vectors = false
  is_both sides.Both = true

  pub no_both : (k : Sides) → (k ≡ sides.Both → ⊥) → is_both k ≡ false
  no_both sides.UnlessTrue h = refl
  no_both sides.IfTrue h = refl
  no_both sides.Vectors h = refl
  no_both sides.Both h = absurd (h refl)

  single_sides : (o : Binary) (a b : Shape) → is_both (sides_of o) ≡ false → IsSome (binary_shape o a b) → binary_shape o a b ≡ Some []
  single_sides binary.Or a b other h = if_some (is_single a && is_single b) h
  single_sides binary.And a b other h = if_some (is_single a && is_single b) h
  single_sides binary.Dot a b other h = if_some (is_vector a && same_shape a b) h
  single_sides _ a b other h = absurd cc

  pub fits_sides : (k : Sides) (o : Binary) (a b : Expression) → x ≡ e.Binary o a b → k ≡ sides_of o → is_both k ≡ false → IsSome (S x) → S x ≡ Some []
  fits_sides k o a b is same other h = ap S is ∙ shape_binary inputs o a b ∙ by (S a) (S b) (subst (λ s. IsSome s) (ap S is ∙ shape_binary inputs o a b) h)
    where
      by : (s t : Option Shape) → IsSome (with_two (binary_shape o) s t) → with_two (binary_shape o) s t ≡ Some []
      by None t h = absurd cc
      by (Some y) None h = absurd cc
      by (Some y) (Some z) h = single_sides o y z (ap is_both (sym same) ∙ other) h

  choice_some : (r s t : Option Shape) → IsSome (with_one (λ y. with_two (choice_shape y) s t) r) → (r ≡ Some []) × IsSome s × IsSome t
  choice_some None s t h = absurd cc
  choice_some (Some c) None t h = absurd cc
  choice_some (Some c) (Some a) None h = absurd cc
  choice_some (Some c) (Some a) (Some b) h = by (is_single c) (same_shape a b) refl h
    where
      by : (p q : Bool) → is_single c ≡ p → IsSome (if p && q then Some a else None) → (let r : Option Shape = Some c in r ≡ Some []) × IsSome (Some a) × IsSome (Some b)
      by true q is h = (ap (λ l. Some l) (single_is c is), refl, refl)
      by false q is h = absurd cc

  pub fits_choice : (c a b : Expression) → x ≡ e.Choice c a b → IsSome (S x) → (S c ≡ Some []) × IsSome (S a) × IsSome (S b)
  fits_choice c a b is h = choice_some (S c) (S a) (S b) (subst (λ s. IsSome s) (ap S is ∙ shape_choice inputs c a b) h)

  pub fits_condition : (c a b c' : Expression) → x ≡ e.Choice c a b → c' ≡ c → IsSome (S x) → S c' ≡ Some []
  fits_condition c a b c' is same h = in_words same (fits_choice c a b is h).0

  pub fits_one : (c a b a' : Expression) → x ≡ e.Choice c a b → a' ≡ a → IsSome (S x) → IsSome (S a')
  fits_one c a b a' is same h = some_in_words same (fits_choice c a b is h).1

  pub fits_other : (c a b b' : Expression) → x ≡ e.Choice c a b → b' ≡ b → IsSome (S x) → IsSome (S b')
  fits_other c a b b' is same h = some_in_words same (fits_choice c a b is h).2

  pub number_single : (n : ℕ) → x ≡ e.Number n → S x ≡ Some []
  number_single n is = ap S is ∙ shape_number inputs n

  part_shapes : (k : ℕ) (s : Option Shape) → IsSome (with_one (λ y. single_if (has_part k y)) s) → IsSome s × (with_one (λ y. single_if (has_part k y)) s ≡ Some [])
  part_shapes k None h = absurd cc
  part_shapes k (Some a) h = (refl, if_some (has_part k a) h)

  pub fits_part : (a : Expression) (k : ℕ) (a' : Expression) → x ≡ e.Part a k → a' ≡ a → IsSome (S x) → IsSome (S a')
  fits_part a k a' is same h = some_in_words same (part_shapes k (S a) (subst (λ s. IsSome s) (ap S is ∙ shape_part inputs a k) h)).0

  pub part_single : (a : Expression) (k : ℕ) → x ≡ e.Part a k → IsSome (S x) → S x ≡ Some []
  part_single a k is h = ap S is ∙ shape_part inputs a k ∙ (part_shapes k (S a) (subst (λ s. IsSome s) (ap S is ∙ shape_part inputs a k) h)).1

  pub fits_parts : (parts parts' : List Expression) → x ≡ e.Vector parts → parts' ≡ parts → IsSome (S x) → all_single (map (shape_of inputs) parts') ≡ true
  fits_parts parts parts' is same h = ap (λ l. all_single (map (shape_of inputs) l)) same ∙ by (all_single (map (shape_of inputs) parts)) (subst (λ s. IsSome s) (ap S is ∙ shape_vector inputs parts) h)
    where
      by : (t : Bool) → IsSome (if t then Some (length parts ∷ []) else None) → t ≡ true
      by true h = refl
      by false h = absurd cc

pub single_one : (s : Option Shape) → is_single_one s ≡ true → s ≡ Some []
single_one None h = absurd cc
single_one (Some a) h = ap (λ l. Some l) (single_is a h)

-- each part of a vector is a single value
pub single_at : (inputs : ℕ → Shape) (parts : List Expression) (i : ℕ) (d : Expression) → i < length parts → all_single (map (shape_of inputs) parts) ≡ true → shape_of inputs (get_or parts i d) ≡ Some []
single_at inputs [] i d below h = absurd (omega arith)
single_at inputs (a ∷ parts) zero d below h = single_one (shape_of inputs a) (both_true (is_single_one (shape_of inputs a)) (all_single (map (shape_of inputs) parts)) h).0
single_at inputs (a ∷ parts) (suc i) d below h = single_at inputs parts i d (omega arith) (both_true (is_single_one (shape_of inputs a)) (all_single (map (shape_of inputs) parts)) h).1
