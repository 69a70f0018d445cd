-- What a block gives of an expression, by what it gives of the parts.
use Rattle.std.proofs.Common.{◌≡◌, ℕ, zero, suc, true, false, ℤ, List, [], ◌∷◌, ◌+◌, ◌≤◌, length, take, replicate, Option, None, Ok, Err, refl, sym, ap, ◌∙◌, arith}
use Rattle.std.specs.Prelude.{map, not, if◌then◌else◌}
use Rattle.dx_expr.specs.declared.fault.ItemFault.{ItemFault}
use Rattle.dx_expr.specs.Value.{Outcome, is_zero, ◌>>=◌}
use Rattle.dx_expr_blocks.specs.Block.{Run, fronted, before, up_to, beside, or_else, ended, both, picked, passes, next, merged}

both_next : {A : Type 0} → (o : Outcome A) (rest : Run A) (run : Run A) (fault : Option ItemFault) → rest ≡ ended run fault → before o rest ≡ ended (before o run) fault
both_next (Ok v) rest run fault e = ap (fronted v) e
both_next (Err f) rest run fault e = refl

-- the left side, then the right one over the items before the left one's fault, then the operator
pub both_law : {A B C : Type 0} → (f : ℕ → Outcome A) (g : ℕ → Outcome B) (h : A → B → Outcome C) (items : List ℕ) → up_to (map (λ i. f i >>= λ x. g i >>= λ y. h x y) items) ≡ both h (up_to (map f items)) (up_to (map g (take (length (up_to (map f items)).values) items)))
both_law f g h [] = refl
both_law f g h (i ∷ items) =
    let rest = up_to (map (λ i. f i >>= λ x. g i >>= λ y. h x y) items) in
    let lefts = up_to (map f items) in
    let rights = up_to (map g (take (length lefts.values) items)) in
    let ih = both_law f g h items in
    elim (f i) as (λ a. before (a >>= λ x. g i >>= λ y. h x y) rest ≡ both h (before a lefts) (up_to (map g (take (length (before a lefts).values) (i ∷ items))))) [
      | Err e ↦ refl
      | Ok x ↦ elim (g i) as (λ b. before (b >>= λ y. h x y) rest ≡ both h (fronted x lefts) (before b rights)) [
        | Err e ↦ refl
        | Ok y ↦ both_next (h x y) rest (up_to (beside h lefts.values rights.values)) (or_else rights.fault lefts.fault) ih
      ]
    ]

-- the condition, then each side over the items that it is looked at for
pub merged_law : {A : Type 0} → (c : ℕ → Outcome ℤ) (one other : ℕ → Outcome A) (items : List ℕ) →
    let cs = up_to (map c items) in
    let ones = up_to (map one (picked (passes true) cs.values items)) in
    let others = up_to (map other (picked (passes false) cs.values items)) in
    up_to (map (λ i. c i >>= λ x. if is_zero x then other i else one i) items) ≡ merged cs.values cs.fault ones.values ones.fault others.values others.fault
merged_law c one other [] = refl
merged_law c one other (i ∷ items) =
    let rest = up_to (map (λ i. c i >>= λ x. if is_zero x then other i else one i) items) in
    let cs = up_to (map c items) in
    let ones = up_to (map one (picked (passes true) cs.values items)) in
    let others = up_to (map other (picked (passes false) cs.values items)) in
    let ih = merged_law c one other items in
    elim (c i) as (λ a.
    let cs' = before a cs in
    let ones' = up_to (map one (picked (passes true) cs'.values (i ∷ items))) in
    let others' = up_to (map other (picked (passes false) cs'.values (i ∷ items))) in
    before (a >>= λ x. if is_zero x then other i else one i) rest ≡ merged cs'.values cs'.fault ones'.values ones'.fault others'.values others'.fault) [
      | Err e ↦ refl
      | Ok x ↦ elim (is_zero x) as (λ z.
          let ones' = up_to (map one (if not z then i ∷ picked (passes true) cs.values items else picked (passes true) cs.values items)) in
          let others' = up_to (map other (if z then i ∷ picked (passes false) cs.values items else picked (passes false) cs.values items)) in
          before (if z then other i else one i) rest ≡ (if z
          then next others'.values others'.fault (λ more. merged cs.values cs.fault ones'.values ones'.fault more others'.fault)
          else next ones'.values ones'.fault (λ more. merged cs.values cs.fault more ones'.fault others'.values others'.fault))) [
            | true ↦ elim (other i) as (λ o. before o rest ≡ next (before o others).values (before o others).fault (λ more. merged cs.values cs.fault ones.values ones.fault more (before o others).fault)) [
              | Err e ↦ refl
              | Ok y ↦ ap (fronted y) ih
            ]
            | false ↦ elim (one i) as (λ o. before o rest ≡ next (before o ones).values (before o ones).fault (λ more. merged cs.values cs.fault more (before o ones).fault others.values others.fault)) [
              | Err e ↦ refl
              | Ok y ↦ ap (fronted y) ih
            ]
          ]
    ]

-- the operand, then the operator on its values
pub each_law : {A B : Type 0} → (u : A → Outcome B) (f : ℕ → Outcome A) (items : List ℕ) → let a = up_to (map f items) in up_to (map (λ i. f i >>= u) items) ≡ ended (up_to (map u a.values)) a.fault
each_law u f [] = refl
each_law u f (i ∷ items) =
    let a = up_to (map f items) in
    elim (f i) as (λ o. before (o >>= u) (up_to (map (λ i. f i >>= u) items)) ≡ ended (up_to (map u (before o a).values)) (before o a).fault) [
      | Err e ↦ refl
      | Ok x ↦ both_next (u x) (up_to (map (λ i. f i >>= u) items)) (up_to (map u a.values)) a.fault (each_law u f items)
    ]

-- a value that is the same for each item
pub same_values : (n : ℕ) (v : ℤ) → (let o : Outcome ℤ = Ok v in up_to (replicate n o)) ≡ record { values = replicate n v; fault = None }
same_values zero v = refl
same_values (suc n) v = ap (fronted v) (same_values n v)

pub map_same : {A B : Type 0} → (f g : A → B) (l : List A) → ((a : A) → f a ≡ g a) → map f l ≡ map g l
map_same f g [] h = refl
map_same f g (a ∷ l) h = ap (λ x. x ∷ map f l) (h a) ∙ ap (λ t. g a ∷ t) (map_same f g l h)

pub map_constant : {B : Type 0} → (b : B) (l : List ℕ) → map (λ _. b) l ≡ replicate (length l) b
map_constant b [] = refl
map_constant b (i ∷ l) = ap (λ t. b ∷ t) (map_constant b l)

pub constant_values : (n : ℕ) (o : Outcome ℤ) (v : ℤ) (vs : List ℤ) → o ≡ Ok v → vs ≡ replicate n v → up_to (replicate n o) ≡ record { values = vs; fault = None }
constant_values n o v vs e h = ap (λ o. up_to (replicate n o)) e ∙ same_values n v ∙ ap (λ l. record { values = l; fault = None }) (sym h)

-- each condition picks its item for one side
pub picked_count : (cs : List ℤ) (items : List ℕ) → length cs ≤ length items → length (picked (passes true) cs items) + length (picked (passes false) cs items) ≡ length cs
picked_count [] items h = refl
picked_count (c ∷ cs) [] h = absurd (omega arith)
picked_count (c ∷ cs) (i ∷ items) h =
    let ih : length (picked (passes true) cs items) + length (picked (passes false) cs items) ≡ length cs = picked_count cs items (omega arith) in
    elim (is_zero c) as (λ z. length (if not z then i ∷ picked (passes true) cs items else picked (passes true) cs items) + length (if z then i ∷ picked (passes false) cs items else picked (passes false) cs items) ≡ suc (length cs))
    [ true ↦ omega (arith, ih) | false ↦ omega (arith, ih) ]
