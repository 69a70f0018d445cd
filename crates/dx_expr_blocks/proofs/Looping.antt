-- The loop over a block's values, at each kind of step.
use Rattle.std.proofs.Common.{◌≡◌, ℕ, zero, suc, ◌+◌, ℤ, pos, List, [], ◌∷◌, ◌++◌, length, take, drop, replicate, get_or, ◌<◌, refl, sym, ap, ◌∙◌, add-one, arith, Option, false, drop-cons, append-nil, append_assoc}
use Rattle.std.proofs.lemmas.Grind.{common_steps}
use Rattle.std.specs.Prelude.{slice_index_or, slice_index, slice_set, map, Ok, if◌then◌else◌}
use Rattle.dx_expr.specs.declared.fault.ItemFault.{ItemFault}
use Rattle.dx_expr.specs.Value.{Outcome, is_zero}
use Rattle.dx_expr_blocks.specs.Block.{up_to, steps, beside, before, behind, merged, next}

drop_tail : (l : List ℤ) (k : ℕ) (r : ℤ) (rest : List ℤ) → drop k l ≡ r ∷ rest → (slice_index_or l k (pos 0) ≡ r) × (drop (suc k) l ≡ rest)
drop_tail [] zero r rest e = absurd cc
drop_tail [] (suc k) r rest e = absurd cc
drop_tail (x ∷ l) zero r rest e = (cc, cc)
drop_tail (x ∷ l) (suc k) r rest e = drop_tail l k r rest e

steps_from : (h : ℤ → ℤ → Outcome ℤ) (right : List ℤ) (k : ℕ) (left rest : List ℤ) → drop k right ≡ rest → steps (λ place v. h v (slice_index_or right place (pos 0))) k (take (length rest) left) ≡ beside h left rest
steps_from h right k [] [] e = refl
steps_from h right k [] (r ∷ rest) e = refl
steps_from h right k (v ∷ left) [] e = refl
steps_from h right k (v ∷ left) (r ∷ rest) e =
    let t = drop_tail right k r rest e in
    ap (λ x. h v x ∷ steps (λ place v. h v (slice_index_or right place (pos 0))) (k + 1) (take (length rest) left)) t.0
    ∙ ap (λ l. h v r ∷ l) (steps_from h right (k + 1) left rest (ap (λ n. drop n right) (add-one k) ∙ t.1))

pub steps_beside : (h : ℤ → ℤ → Outcome ℤ) (left right : List ℤ) → steps (λ place v. h v (slice_index_or right place (pos 0))) 0 (take (length right) left) ≡ beside h left right
steps_beside h left right = steps_from h right 0 left right refl

-- ---- a step that looks at the item alone

steps_map_from : (f : ℕ → ℤ → Outcome ℤ) (g : ℕ → Outcome ℤ) (items : List ℕ) (vs : List ℤ) (k : ℕ) → length vs ≡ length items → ((p : ℕ) (v : ℤ) → p < length items → f (k + p) v ≡ g (slice_index items p)) → steps f k vs ≡ map g items
steps_map_from f g [] [] k e h = refl
steps_map_from f g [] (v ∷ vs) k e h = absurd (omega arith)
steps_map_from f g (i ∷ items) [] k e h = absurd (omega arith)
steps_map_from f g (i ∷ items) (v ∷ vs) k e h =
    let here : f k v ≡ g i = ap (λ n. f n v) (omega arith) ∙ h 0 v (omega arith) in
    let there : steps f (k + 1) vs ≡ map g items = steps_map_from f g items vs (k + 1) (omega arith) (λ p w below. ap (λ n. f n w) (omega arith) ∙ h (suc p) w (omega arith)) in
    ap (λ o. o ∷ steps f (k + 1) vs) here ∙ ap (λ l. g i ∷ l) there

pub steps_map : (f : ℕ → ℤ → Outcome ℤ) (g : ℕ → Outcome ℤ) (items : List ℕ) (vs : List ℤ) → length vs ≡ length items → ((p : ℕ) (v : ℤ) → p < length items → f p v ≡ g (slice_index items p)) → steps f 0 vs ≡ map g items
steps_map f g items vs e h = steps_map_from f g items vs 0 e (λ p v below. ap (λ n. f n v) (omega arith) ∙ h p v below)

-- a step that looks at the value alone
steps_each_from : (u : ℤ → Outcome ℤ) (vs : List ℤ) (k : ℕ) → steps (λ place v. u v) k vs ≡ map u vs
steps_each_from u [] k = refl
steps_each_from u (v ∷ vs) k = ap (λ l. u v ∷ l) (steps_each_from u vs (k + 1))

pub steps_each : (u : ℤ → Outcome ℤ) (vs : List ℤ) → steps (λ place v. u v) 0 vs ≡ map u vs
steps_each u vs = steps_each_from u vs 0

-- a step that looks at the value and at one that is the same everywhere
steps_same_from : (h : ℤ → ℤ → Outcome ℤ) (v : ℤ) (left : List ℤ) (k : ℕ) → steps (λ place x. h x v) k left ≡ beside h left (replicate (length left) v)
steps_same_from h v [] k = refl
steps_same_from h v (x ∷ left) k = ap (λ l. h x v ∷ l) (steps_same_from h v left (k + 1))

pub steps_same : (h : ℤ → ℤ → Outcome ℤ) (v : ℤ) (left : List ℤ) → steps (λ place x. h x v) 0 left ≡ beside h left (replicate (length left) v)
steps_same h v left = steps_same_from h v left 0

-- ---- where the values of a side end

pub ends_at_one : (cs : List ℤ) (end : Option ItemFault) (one : List ℤ) (one_fault : Option ItemFault) (other : List ℤ) (other_fault : Option ItemFault) (place i j : ℕ) →
    place < length cs → is_zero (get_or cs place (pos 0)) ≡ false → drop i one ≡ [] →
    behind (take place cs) (merged (drop place cs) end (drop i one) one_fault (drop j other) other_fault) ≡ record { values = take place cs; fault = one_fault }
ends_at_one cs end one one_fault other other_fault place i j below nonzero over =
    let c = get_or cs place (pos 0) in
    let rest = drop (suc place) cs in
    ap (λ l. behind (take place cs) (merged l end (drop i one) one_fault (drop j other) other_fault)) (drop-cons cs place (pos 0) below)
    ∙ ap (λ z. behind (take place cs) (if z then next (drop j other) other_fault (λ more. merged rest end (drop i one) one_fault more other_fault) else next (drop i one) one_fault (λ more. merged rest end more one_fault (drop j other) other_fault))) nonzero
    ∙ ap (λ l. behind (take place cs) (next l one_fault (λ more. merged rest end more one_fault (drop j other) other_fault))) over
    ∙ ap (λ l. record { values = l; fault = one_fault }) (append-nil (take place cs))

-- ---- a step that makes a value

-- its value in its place, and the steps behind it
pub one_made : (f : ℕ → ℤ → Outcome ℤ) (vs : List ℤ) (place : ℕ) (m : ℤ) → place < length vs → f place (slice_index_or vs place (pos 0)) ≡ Ok m →
    behind (take (place + 1) (slice_set vs place m)) (up_to (steps f (place + 1) (drop (place + 1) (slice_set vs place m)))) ≡ behind (take place vs) (up_to (steps f place (drop place vs)))
one_made f vs place m below e =
    let cut : drop place vs ≡ get_or vs place (pos 0) ∷ drop (place + 1) vs = drop-cons vs place (pos 0) below ∙ ap (λ n. get_or vs place (pos 0) ∷ drop n vs) (sym (add-one place)) in
    let rest : drop (place + 1) (slice_set vs place m) ≡ drop (place + 1) vs = grind (arith, common_steps) in
    let front : take (place + 1) (slice_set vs place m) ≡ take place vs ++ m ∷ [] = grind (arith, common_steps) in
    let run = up_to (steps f (place + 1) (drop (place + 1) vs)) in
    ap (λ l. behind (take (place + 1) (slice_set vs place m)) (up_to (steps f (place + 1) l))) rest
    ∙ ap (λ l. behind l run) front
    ∙ ap (λ l. record { values = l; fault = run.fault }) (append_assoc (take place vs) (m ∷ []) run.values)
    ∙ ap (λ o. behind (take place vs) (before o run)) (sym e)
    ∙ ap (λ l. behind (take place vs) (up_to (steps f place l))) (sym cut)
