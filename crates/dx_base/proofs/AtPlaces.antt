-- Sparse lists, place by place.
use Rattle.std.proofs.Common.{List, ◌≡◌, ◌<◌, ◌≤◌, ◌+◌, ℕ, zero, suc, ◌∷◌, length, get_or, set, Option, Some, None, Bool, true, false, refl, sym, ap, ap₂, ◌∙◌, arith}
use Rattle.std.specs.Prelude.{replicate, option_map, is_some, nat_lt, not, ◌&&◌}
use Rattle.std.specs.Ordering.{nat_cmp}
use Rattle.std.specs.BTreeMap.{BTreeMap, get, is_at, Updates}
use Rattle.dx_base.specs.Places.{at_places, IsWithin, flags}

-- ---- what is at a place

pub at_index : {T : Type 0} (at : ℕ → Option T) (i n k p : ℕ) → p ≡ i + k → k < n → get_or (at_places at i n) k None ≡ at p
at_index at i zero k p e h = absurd (omega arith)
at_index at i (suc n) zero p e h = ap at (omega (arith, e))
at_index at i (suc n) (suc k) p e h = at_index at (suc i) n k p (omega (arith, e)) (omega arith)

pub past_index : {T : Type 0} (at : ℕ → Option T) (i n k : ℕ) → n ≤ k → get_or (at_places at i n) k None ≡ None
past_index at i zero k h = refl
past_index at i (suc n) zero h = absurd (omega arith)
past_index at i (suc n) (suc k) h = past_index at (suc i) n k (omega arith)

pub length_places : {T : Type 0} (at : ℕ → Option T) (i n : ℕ) → length (at_places at i n) ≡ n
length_places at i zero = refl
length_places at i (suc n) = ap suc (length_places at (suc i) n)

-- ---- all empty

pub all_empty : {T : Type 0} (at : ℕ → Option T) (i n : ℕ) → ((k : ℕ) → at k ≡ None) → at_places at i n ≡ replicate n None
all_empty at i zero h = refl
all_empty at i (suc n) h = ap₂ (λ x xs. x ∷ xs) (h i) (all_empty at (suc i) n h)

-- ---- one more value

same_places : {T : Type 0} (old new : ℕ → Option T) (i n : ℕ) → ((k : ℕ) → i ≤ k → new k ≡ old k) → at_places new i n ≡ at_places old i n
same_places old new i zero h = refl
same_places old new i (suc n) h = ap₂ (λ x xs. x ∷ xs) (h i (omega arith)) (same_places old new (suc i) n (λ k le. h k (omega arith)))

set_places : {T : Type 0} (old new : ℕ → Option T) (v : T) (i n k p : ℕ) → p ≡ i + k → new p ≡ Some v → ((j : ℕ) → (j ≡ p → ⊥) → new j ≡ old j) → at_places new i n ≡ set (at_places old i n) k (Some v)
set_places old new v i zero k p e here others = refl
set_places old new v i (suc n) zero p e here others =
    ap₂ (λ x xs. x ∷ xs) (ap new (omega (arith, e)) ∙ here) (same_places old new (suc i) n (λ j le. others j (λ q. omega (arith, e, q))))
set_places old new v i (suc n) (suc k) p e here others =
    ap₂ (λ x xs. x ∷ xs) (others i (λ q. omega (arith, e, q))) (set_places old new v (suc i) n k p (omega (arith, e)) here others)

apart : (p j : ℕ) → (j ≡ p → ⊥) → is_at (nat_cmp p) j ≡ false
apart p j h = grind (arith, h)

pub set_updates : {T : Type 0} (old new : BTreeMap ℕ T) (v : T) (n p : ℕ) → Updates nat_cmp old new p (Some v) → at_places (get nat_cmp new) 0 n ≡ set (at_places (get nat_cmp old) 0 n) p (Some v)
set_updates old new v n p u = set_places (get nat_cmp old) (get nat_cmp new) v 0 n p p (omega arith) u.1 (λ j h. u.2 j (apart p j h))

-- ---- the places that have a value

-- what stands behind the last place is nothing
pub seen_at : {T : Type 0} (count : ℕ) (filled : BTreeMap ℕ T) (place : ℕ) → IsWithin count filled → is_some (get nat_cmp filled place) ≡ is_some (get_or (at_places (get nat_cmp filled) 0 count) place None)
seen_at count filled place h = go (nat_lt place count) refl
  where
    go : (b : Bool) → nat_lt place count ≡ b → is_some (get nat_cmp filled place) ≡ is_some (get_or (at_places (get nat_cmp filled) 0 count) place None)
    go true e = ap is_some (sym (at_index (get nat_cmp filled) 0 count place place (omega arith) (grind (arith, e))))
    go false e = beyond (is_some (get nat_cmp filled place)) refl
      where
        beyond : (b : Bool) → is_some (get nat_cmp filled place) ≡ b → is_some (get nat_cmp filled place) ≡ is_some (get_or (at_places (get nat_cmp filled) 0 count) place None)
        beyond true s = let lt : place < count = h place s in absurd (grind (arith, e, lt))
        beyond false s = s ∙ ap is_some (sym (past_index (get nat_cmp filled) 0 count place (grind (arith, e))))

-- ---- marks

pub none_marked : (n : ℕ) → flags {T = Unit {0}} (replicate n None) ≡ replicate n false
none_marked zero = refl
none_marked (suc n) = ap (λ bs. false ∷ bs) (none_marked n)

-- ---- an empty place

some_mapped : {T U : Type 0} (f : T → U) (o : Option T) → is_some (option_map f o) ≡ is_some o
some_mapped f None = refl
some_mapped f (Some x) = refl

moved : (a b : Bool) → a ≡ not b → b ≡ not a
moved a true e = ap not (sym e)
moved a false e = ap not (sym e)

pub is_empty : {T U : Type 0} (f : T → U) (xs : List (Option U)) (place : ℕ) (o : Option T) (none : Bool) → option_map f o ≡ get_or xs place None → is_some o ≡ not none → place < length xs →
    none ≡ (nat_lt place (length xs) && not (is_some (get_or xs place None)))
is_empty f xs place o none e n h =
    let below : nat_lt place (length xs) ≡ true = grind (arith, h) in
    moved (is_some o) none n ∙ ap not (sym (some_mapped f o) ∙ ap is_some e) ∙ sym (ap (λ (b : Bool). b && not (is_some (get_or xs place None))) below)

pub isnt_empty : {U : Type 0} (xs : List (Option U)) (place count : ℕ) → length xs ≡ count → count ≤ place → nat_lt place count ≡ (nat_lt place (length xs) && not (is_some (get_or xs place None)))
isnt_empty xs place count l h =
    let beyond : nat_lt place count ≡ false = grind (arith, h) in
    beyond ∙ sym (ap (λ (b : Bool). b && not (is_some (get_or xs place None))) (ap (nat_lt place) l ∙ beyond))
