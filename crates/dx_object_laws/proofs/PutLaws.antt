-- A part that is put among the others, under its name: kinds, names and positions.
use Rattle.std.proofs.Common.{◌≡◌, ℕ, pos, List, Option, Some, None, Bool, true, false, refl, sym, ap}
use Rattle.std.specs.Prelude.{is_some, is_none, bytes_eq}
use Rattle.std.proofs.lemmas.Bool.{and_parts}
use Rattle.std.specs.Cmp.Derive.{both_true}
use Rattle.std.proofs.lemmas.Slice.Eq.{bytes_eq-Decides}
use Rattle.dx_base.specs.Object.{Tree, PartList, no_parts, part}
use Rattle.dx_base.specs.ObjectNames.{same_name, find, put}
use Rattle.dx_base.specs.ObjectLimits.{lacks, differ, all_named, all_arrays, is_array, unplaced}

flipped : (m n : List ℕ) → bytes_eq n m ≡ false → bytes_eq m n ≡ false
flipped m n e =
    elim (bytes_eq m n) as (λ b. bytes_eq m n ≡ b → b ≡ false) [
      | false ↦ λ _. refl
      | true ↦ λ h. let same : m ≡ n = (bytes_eq-Decides m n).0 h in let back : bytes_eq n m ≡ true = (bytes_eq-Decides n m).1 (sym same) in cc
    ] refl

pub by_bool : (b : Bool) (P : Type 0) → (b ≡ true → P) → (b ≡ false → P) → P
by_bool true P f g = f refl
by_bool false P f g = g refl

pub all_named-put : (n : List ℕ) (t : Tree) (ps : PartList) → all_named ps ≡ true → all_named (put n t ps) ≡ true
all_named-put n t no_parts h = refl
all_named-put n t (part m p u ps) h =
    let hs = and_parts (is_some m) (all_named ps) h in
    by_bool (same_name n m) _
    (λ e. rw e (both_true hs.0 hs.1))
    (λ e. rw e (both_true hs.0 (all_named-put n t ps hs.1)))

pub all_arrays-put : (n : List ℕ) (t : Tree) (ps : PartList) → is_array t ≡ true → all_arrays ps ≡ true → all_arrays (put n t ps) ≡ true
all_arrays-put n t no_parts a h = both_true a refl
all_arrays-put n t (part m p u ps) a h =
    let hs = and_parts (is_array u) (all_arrays ps) h in
    by_bool (same_name n m) _
    (λ e. rw e (both_true a hs.1))
    (λ e. rw e (both_true hs.0 (all_arrays-put n t ps a hs.1)))

-- what no part is named stays so
find-put : (m n : List ℕ) (t : Tree) (ps : PartList) → bytes_eq m n ≡ false → is_none (find m ps) ≡ true → is_none (find m (put n t ps)) ≡ true
find-put m n t no_parts e h = rw e refl
find-put m n t (part k p u ps) e h =
    by_bool (same_name m k) _
    (λ f. absurd (let g : is_none (Some u) ≡ true = rw f at h in cc))
    (λ f. let g : is_none (find m ps) ≡ true = rw f at h in by_bool (same_name n k) _ (λ q. rw (q, f) g) (λ q. rw (q, f) (find-put m n t ps e g)))

lacks-put : (k : Option (List ℕ)) (n : List ℕ) (t : Tree) (ps : PartList) → same_name n k ≡ false → lacks k ps ≡ true → lacks k (put n t ps) ≡ true
lacks-put None n t ps e h = refl
lacks-put (Some m) n t ps e h = find-put m n t ps (flipped m n e) h

pub differ-put : (n : List ℕ) (t : Tree) (ps : PartList) → differ ps ≡ true → differ (put n t ps) ≡ true
differ-put n t no_parts h = refl
differ-put n t (part m p u ps) h =
    let hs = and_parts (lacks m ps) (differ ps) h in
    by_bool (same_name n m) _
    (λ e. rw e (both_true hs.0 hs.1))
    (λ e. rw e (both_true (lacks-put m n t ps e hs.0) (differ-put n t ps hs.1)))

-- a component has no position
pub unplaced-put : (n : List ℕ) (t : Tree) (ps : PartList) → unplaced (put n t ps) ≡ put n t (unplaced ps)
unplaced-put n t no_parts = refl
unplaced-put n t (part m p u ps) =
    by_bool (same_name n m) _
    (λ e. rw e refl)
    (λ e. rw e (ap (part m (pos 0) u) (unplaced-put n t ps)))
