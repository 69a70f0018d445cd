-- A part that is taken out: kinds, names, positions and sums.
use Rattle.std.proofs.Common.{◌≡◌, ℕ, ◌≤◌, pos, List, Option, Some, None, true, refl, ap, arith}
use Rattle.std.specs.Prelude.{is_some, is_none}
use Rattle.std.proofs.lemmas.Bool.{and_parts}
use Rattle.std.proofs.lemmas.Bool.Decides.{nat_tests}
use Rattle.std.specs.Cmp.Derive.{both_true}
use Rattle.dx_base.specs.Object.{PartList, field, no_parts, part, deepest, total_count, total_size}
use Rattle.dx_base.specs.ObjectNames.{same_name, find, without}
use Rattle.dx_base.specs.ObjectLimits.{lacks, differ, all_named, all_arrays, is_array, fits, unplaced}
use Rattle.dx_object_laws.proofs.PutLaws.{by_bool}

pub all_named-without : (n : List ℕ) (ps : PartList) → all_named ps ≡ true → all_named (without n ps) ≡ true
all_named-without n no_parts h = refl
all_named-without n (part m p u ps) h =
    let hs = and_parts (is_some m) (all_named ps) h in
    by_bool (same_name n m) _
    (λ e. rw e hs.1)
    (λ e. rw e (both_true hs.0 (all_named-without n ps hs.1)))

pub all_arrays-without : (n : List ℕ) (ps : PartList) → all_arrays ps ≡ true → all_arrays (without n ps) ≡ true
all_arrays-without n no_parts h = refl
all_arrays-without n (part m p u ps) h =
    let hs = and_parts (is_array u) (all_arrays ps) h in
    by_bool (same_name n m) _
    (λ e. rw e hs.1)
    (λ e. rw e (both_true hs.0 (all_arrays-without n ps hs.1)))

find-without : (m n : List ℕ) (ps : PartList) → is_none (find m ps) ≡ true → is_none (find m (without n ps)) ≡ true
find-without m n no_parts h = refl
find-without m n (part k p u ps) h =
    by_bool (same_name m k) _
    (λ f. absurd (let g : is_none (Some u) ≡ true = rw f at h in cc))
    (λ f. let g : is_none (find m ps) ≡ true = rw f at h in by_bool (same_name n k) _ (λ q. rw q g) (λ q. rw (q, f) (find-without m n ps g)))

lacks-without : (k : Option (List ℕ)) (n : List ℕ) (ps : PartList) → lacks k ps ≡ true → lacks k (without n ps) ≡ true
lacks-without None n ps h = refl
lacks-without (Some m) n ps h = find-without m n ps h

pub differ-without : (n : List ℕ) (ps : PartList) → differ ps ≡ true → differ (without n ps) ≡ true
differ-without n no_parts h = refl
differ-without n (part m p u ps) h =
    let hs = and_parts (lacks m ps) (differ ps) h in
    by_bool (same_name n m) _
    (λ e. rw e hs.1)
    (λ e. rw e (both_true (lacks-without m n ps hs.0) (differ-without n ps hs.1)))

pub unplaced-without : (n : List ℕ) (ps : PartList) → unplaced (without n ps) ≡ without n (unplaced ps)
unplaced-without n no_parts = refl
unplaced-without n (part m p u ps) =
    by_bool (same_name n m) _
    (λ e. rw e refl)
    (λ e. rw e (ap (part m (pos 0) u) (unplaced-without n ps)))

-- the sums of fewer parts are no greater
record IsNoMore (ps qs : PartList) : Type 0 where
  pub levels : deepest ps ≤ deepest qs
  pub count : total_count ps ≤ total_count qs
  pub size : total_size ps ≤ total_size qs

no_more : (n : List ℕ) (ps : PartList) → IsNoMore (without n ps) ps
no_more n no_parts = record { levels = omega arith; count = omega arith; size = omega arith }
no_more n (part m p u ps) =
    let below = no_more n ps in
    by_bool (same_name n m) _
    (λ e. rw e (record { levels = omega arith; count = omega arith; size = omega arith }))
    (λ e. rw e (record { levels = omega (arith, below.levels); count = omega (arith, below.count); size = omega (arith, below.size) }))

pub fits-without : (n : List ℕ) (ps xs : PartList) → fits (field ps xs) ≡ true → fits (field (without n ps) xs) ≡ true
fits-without n ps xs h =
    let less = no_more n ps in
    let a = less.levels in
    let b = less.count in
    let c = less.size in
    grind (arith, nat_tests)
