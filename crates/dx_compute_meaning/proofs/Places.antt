-- What stands at a place of the code's lists.
use Rattle.std.proofs.Common.{◌≡◌, ℕ, zero, suc, ◌+◌, ◌-◌, ◌<◌, ◌≤◌, Bool, true, false, List, [], ◌∷◌, ◌++◌, Option, Some, None, Bor, length, get_or, refl, sym, ap, ◌∙◌, arith}
use Rattle.std.specs.Prelude.{cond, ◌&&◌, ◌==◌, if◌then◌else◌}
use Rattle.std.proofs.lemmas.Bool.{eqb-true}
use Rattle.std.specs.List.{filter, range_with_len}
use Rattle.std.specs.declared.rc.Rc.{Rc}
use Rattle.std.specs.declared.alloc.Global.{Global}
use Rattle.dx_base.specs.Array.{ArrayData, items}
use Rattle.dx_base.specs.ArrayLimits.{is_shape}
use Rattle.dx_base.specs.Object.{Tree}
use Rattle.dx_objects.specs.declared.object.Part.{Part}
use Rattle.dx_objects.specs.Shown.{parts_of}
use Rattle.dx_objects.specs.Values.{value_at}
use Rattle.dx_expr_grammar.specs.declared.tree.Expression.{Expression}
use Rattle.dx_expr.specs.Shape.{Shape, shape_of}
use Rattle.dx_expr_bounds.specs.Bounds.{is_bounded}
use Rattle.dx_expr_eval.proofs.Joining.{range_next}
use Rattle.dx_compute_meaning.proofs.Shapes.{shape_fits}
use Rattle.dx_compute_meaning.specs.Operands.{object_at, are_all}
use Rattle.dx_compute_meaning.specs.Arrays.{Arrays, given, array_at, item_counts, other_count, before_counts, item_of, shape_in}
use Rattle.dx_compute_meaning.specs.Shown.{shown, shown_one, shown_arrays, shown_array, objects_of, all_shaped}

pub array_past : (xs : List (Option (Bor ArrayData))) (k : ℕ) → length xs ≤ k → array_at (shown_arrays xs) k ≡ None
array_past [] k h = refl
array_past (x ∷ xs) zero h = absurd (omega (arith, h))
array_past (x ∷ xs) (suc k) h = array_past xs k (omega (arith, h))

pub array_here : (xs : List (Option (Bor ArrayData))) (k : ℕ) (x : Option (Bor ArrayData)) → k < length xs → x ≡ get_or xs k x → array_at (shown_arrays xs) k ≡ shown_array x
array_here [] k x h e = absurd (omega (arith, h))
array_here (y ∷ xs) zero x h e = ap shown_array (sym e)
array_here (y ∷ xs) (suc k) x h e = array_here xs k x (omega (arith, h)) e

pub operand_past : (xs : List (Option (Bor Tree))) (k : ℕ) → length xs ≤ k → value_at (shown xs) k ≡ None
operand_past [] k h = refl
operand_past (x ∷ xs) zero h = absurd (omega (arith, h))
operand_past (x ∷ xs) (suc k) h = operand_past xs k (omega (arith, h))

pub operand_here : (xs : List (Option (Bor Tree))) (k : ℕ) (x : Option (Bor Tree)) → k < length xs → x ≡ get_or xs k x → value_at (shown xs) k ≡ shown_one x
operand_here [] k x h e = absurd (omega (arith, h))
operand_here (y ∷ xs) zero x h e = ap shown_one (sym e)
operand_here (y ∷ xs) (suc k) x h e = operand_here xs k x (omega (arith, h)) e

pub object_past : (ps : List Part) (k : ℕ) → length ps ≤ k → object_at (parts_of ps) k ≡ None
object_past [] k h = refl
object_past (p ∷ ps) zero h = absurd (omega (arith, h))
object_past (p ∷ ps) (suc k) h = object_past ps k (omega (arith, h))

pub object_here : (ps : List Part) (k : ℕ) (p : Part) → k < length ps → p ≡ get_or ps k p → object_at (parts_of ps) k ≡ Some p.object.value
object_here [] k p h e = absurd (omega (arith, h))
object_here (q ∷ ps) zero p h e = ap (λ (r : Part). Some r.object.value) (sym e)
object_here (q ∷ ps) (suc k) p h e = object_here ps k p (omega (arith, h)) e

pub ruleset array_places = (array_past, array_here)

pub ruleset operand_places = (operand_past, operand_here)

pub ruleset object_places = (object_past, object_here)

-- ---- the next of a range that passes a test

pub filter_next : (p : ℕ → Bool) (k n : ℕ) → k < n → filter p (range_with_len k (n - k)) ≡ cond (p k) (k ∷ filter p (range_with_len (k + 1) (n - (k + 1)))) (filter p (range_with_len (k + 1) (n - (k + 1))))
filter_next p k n h = ap (filter p) (range_next k n h)

-- ---- arrays that go together

alike_by : (m : Option ℕ) (n : ℕ) (ns : List ℕ) → are_all n (before_counts m ns) ≡ true → ((k : ℕ) → m ≡ Some k → k ≡ n) × (are_all n ns ≡ true)
alike_by None n ns h = (λ k e. absurd cc, h)
alike_by (Some m) n ns h = by (m == n) refl h
  where
    by : (t : Bool) → (m == n) ≡ t → (t && are_all n ns) ≡ true → ((k : ℕ) → Some m ≡ Some k → k ≡ n) × (are_all n ns ≡ true)
    by true is h = (λ k e. let same : m ≡ k = cc in sym same ∙ eqb-true m n is, h)
    by false is h = absurd cc

-- an item that there is stands for one of each array
pub item_within : (arrays : Arrays) (n k item : ℕ) (a : ArrayData) → are_all n (item_counts arrays) ≡ true → array_at arrays k ≡ Some a → item < n → item_of a item < items a
item_within [] n k item a h e below = absurd cc
item_within (b ∷ arrays) n zero item a h e below = by (items a == 1) refl
  where
    by : (t : Bool) → (items a == 1) ≡ t → (if t then 0 else item) < items a
    by true is = let one : items a ≡ 1 = eqb-true (items a) 1 is in omega (arith, one)
    by false is =
        let other : other_count b ≡ Some (items a) = ap other_count e ∙ ap (λ t. if t then None else Some (items a)) is in
        let same : items a ≡ n = (alike_by (other_count b) n (item_counts arrays) h).0 (items a) other in
        omega (arith, same, below)
item_within (b ∷ arrays) n (suc k) item a h e below = item_within arrays n k item a (alike_by (other_count b) n (item_counts arrays) h).1 e below

both_parts : (a b : Bool) → (a && b) ≡ true → (a ≡ true) × (b ≡ true)
both_parts true true h = (refl, refl)
both_parts true false h = absurd cc
both_parts false b h = absurd cc

-- the shapes of arrays, and of none, are shapes
pub shaped_at : (arrays : Arrays) (k : ℕ) → all_shaped arrays ≡ true → is_shape (shape_in (array_at arrays k)) ≡ true
shaped_at [] k h = refl
shaped_at (a ∷ arrays) zero h = (both_parts (is_shape (shape_in a)) (all_shaped arrays) h).0
shaped_at (a ∷ arrays) (suc k) h = shaped_at arrays k (both_parts (is_shape (shape_in a)) (all_shaped arrays) h).1

pub objects_push : (os : List (Rc Tree Global)) (o : Rc Tree Global) → objects_of (os ++ o ∷ []) ≡ objects_of os ++ o.value ∷ []
objects_push [] o = refl
objects_push (p ∷ os) o = ap (λ l. p.value ∷ l) (objects_push os o)

-- the shape of a bounded expression over arrays that have shapes
pub shape_lawful : (arrays : Arrays) (e : Expression) (s : Shape) → all_shaped arrays ≡ true → is_bounded e ≡ true → shape_of (given arrays).shape e ≡ Some s → is_shape s ≡ true
shape_lawful arrays e s shaped bounded is = shape_fits (given arrays).shape (λ k. shaped_at arrays k shaped) e bounded s is
