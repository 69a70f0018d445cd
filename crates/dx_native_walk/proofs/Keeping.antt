-- What is kept while objects are built.
use Rattle.std.proofs.Common.{◌≡◌, ◌==◌, true, false, ℕ, zero, suc, ◌<◌, List, [], ◌∷◌, length, get_or, replicate, Option, Some, None, Result, Ok, Err, refl, sym, ap, subst, ◌∙◌, length-set, inl, inr, ◌⊎◌, ◌≢◌, arith}
use Rattle.std.specs.Prelude.{slice_get, slice_set, IfOk}
use Rattle.std.proofs.lemmas.List.{get_or-set_same, get_or-set_other, length-map, length-replicate}
use Rattle.std.proofs.lemmas.Bool.Decides.{eqb_tells}
use Rattle.std.proofs.lemmas.Option.{slice_get_within}
use Rattle.std.specs.declared.rc.Rc.{Rc}
use Rattle.std.specs.declared.alloc.AllocError.{AllocError}
use Rattle.std.specs.declared.alloc.Global.{Global}
use Rattle.dx_base.specs.Array.{ArrayData}
use Rattle.dx_base.specs.Object.{Tree}
use Rattle.dx_native_grammar.specs.Meaning.{tree_at}
use Rattle.dx_native_grammar.specs.declared.clause.Clause.{Clause}
use Rattle.dx_native_meaning.proofs.Levels.{low, deep}
use Rattle.dx_native_clauses.specs.Outline.{clause_array, clause_arrays, array_at}
use Rattle.dx_native_walk.specs.Answer.{KeptAt, IsKnown, IsKnownBut, Builds, Fits}
use Rattle.dx_native_walk.specs.Memo.{Kept, trees_in, with_tree, without_array}
use Rattle.dx_native_walk.specs.declared.fail.BuildFail.{BuildFail}
use Rattle.dx_native_walk.specs.declared.fail.BuildFail.TheVariants as fail

-- ---- what is built already

pub hit : (cs : List Clause) (i calls : ℕ) (t : Tree) (waiting : Option ArrayData) → KeptAt cs i (Some t) waiting → (r : Result (Rc Tree Global) BuildFail) → Fits t calls r → Builds (tree_at cs calls i) r
hit cs i calls t w h (Ok o) f = low cs h.0.0 calls i t h.0.1 f.1 ∙ ap (λ t. Some t) (sym f.0)
hit cs i calls t w h (Err fail.Deep) f = deep cs h.0.0 calls i t h.0.1 f
hit cs i calls t w h (Err fail.Broken) f = absurd f
hit cs i calls t w h (Err fail.Memory) f = tt

pub within : (cs : List Clause) (kept : Kept) (i : ℕ) (c : Clause) → IsKnown cs kept → slice_get cs i ≡ Some c → (i < length kept.trees) × (i < length kept.arrays)
within cs kept i c h e = (omega (arith, h.trees, slice_get_within cs i c e), omega (arith, h.arrays, slice_get_within cs i c e))

pub within_but : (cs : List Clause) (kept : Kept) (i : ℕ) (c : Clause) → IsKnownBut cs i kept → slice_get cs i ≡ Some c → (i < length kept.trees) × (i < length kept.arrays)
within_but cs kept i c h e = (omega (arith, h.trees, slice_get_within cs i c e), omega (arith, h.arrays, slice_get_within cs i c e))

-- ---- an object joins

with_at : (cs : List Clause) (kept : Kept) (i k : ℕ) (t : Tree) → IsKnownBut cs i kept → i < length kept.trees → i < length kept.arrays → tree_at cs k i ≡ Some t → (j : ℕ) → (((j == i) ≡ true) × (j ≡ i)) ⊎ (((j == i) ≡ false) × (j ≢ i))
    → KeptAt cs j (get_or (slice_set kept.trees i (Some t)) j None) (get_or (slice_set kept.arrays i None) j None)
with_at cs kept i k t h l m e j (inl p) =
    subst (λ (j : ℕ). KeptAt cs j (get_or (slice_set kept.trees i (Some t)) j None) (get_or (slice_set kept.arrays i None) j None)) (sym p.1)
    (subst (λ (o : Option Tree). KeptAt cs i o (get_or (slice_set kept.arrays i None) i None)) (sym (get_or-set_same kept.trees i (Some t) None l)) ((k, e), get_or-set_same kept.arrays i None None m))
with_at cs kept i k t h l m e j (inr p) =
    subst (λ (o : Option Tree). KeptAt cs j o (get_or (slice_set kept.arrays i None) j None)) (sym (get_or-set_other kept.trees i j (Some t) None p.1))
    (subst (λ (w : Option ArrayData). KeptAt cs j (get_or kept.trees j None) w) (sym (get_or-set_other kept.arrays i j None None p.1)) (h.each j p.1))

pub known_with : (cs : List Clause) (kept : Kept) (i k : ℕ) (t : Tree) → IsKnownBut cs i kept → i < length kept.trees → i < length kept.arrays → tree_at cs k i ≡ Some t → IsKnown cs (with_tree kept i t)
known_with cs kept i k t h l m e = record {
  trees = length-set kept.trees i (Some t) ∙ h.trees;
  arrays = length-set kept.arrays i None ∙ h.arrays;
  each = λ j. with_at cs kept i k t h l m e j (eqb_tells j i);
}

-- ---- an array leaves

pub known_but : (cs : List Clause) (kept : Kept) (i : ℕ) → IsKnown cs kept → IsKnownBut cs i kept
known_but cs kept i h = record { trees = h.trees; arrays = h.arrays; each = λ j other. h.each j }

pub known_without : (cs : List Clause) (kept : Kept) (i : ℕ) → IsKnown cs kept → IsKnownBut cs i (without_array kept i)
known_without cs kept i h = record {
  trees = h.trees;
  arrays = length-set kept.arrays i None ∙ h.arrays;
  each = λ j other. subst (λ (w : Option ArrayData). KeptAt cs j (get_or kept.trees j None) w) (sym (get_or-set_other kept.arrays i j None None other)) (h.each j);
}

-- ---- the array of a clause

one_array : (cs : List Clause) (i : ℕ) (o : Option Tree) (w : Option ArrayData) (a : ArrayData) → KeptAt cs i o w → w ≡ Some a → array_at (slice_get cs i) ≡ Some a
one_array cs i None w a h e = sym h ∙ e
one_array cs i (Some t) w a h e = let none = sym h.1 ∙ e in absurd cc

-- the array that waits is the clause's
pub waiting_array : (cs : List Clause) (kept : Kept) (i : ℕ) (a : ArrayData) → IsKnown cs kept → get_or kept.arrays i None ≡ Some a → array_at (slice_get cs i) ≡ Some a
waiting_array cs kept i a h e = one_array cs i (get_or kept.trees i None) (get_or kept.arrays i None) a (h.each i) e

-- ---- nothing is built

abbrev pub keeps : List (Option Tree) → List (Option ArrayData) → Kept
keeps trees arrays = record { trees = trees; arrays = arrays }

abbrev no_tree : Option Tree
no_tree = None

abbrev no_object : Option (Rc Tree Global)
no_object = None

pub none_in : (n : ℕ) → trees_in (replicate n no_object) ≡ replicate n no_tree
none_in zero = refl
none_in (suc n) = ap (λ (ts : List (Option Tree)). no_tree ∷ ts) (none_in n)

none_built : (n i : ℕ) → get_or (replicate n no_tree) i None ≡ None
none_built zero i = refl
none_built (suc n) zero = refl
none_built (suc n) (suc i) = none_built n i

waits : (cs : List Clause) (i : ℕ) → get_or (clause_arrays cs) i None ≡ array_at (slice_get cs i)
waits [] i = refl
waits (c ∷ cs) zero = refl
waits (c ∷ cs) (suc i) = waits cs i

pub all_wait : (cs : List Clause) (arrays : List (Option ArrayData)) → arrays ≡ clause_arrays cs → IsKnown cs (record { trees = replicate (length arrays) None; arrays = arrays })
all_wait cs arrays e = record {
  trees = length-replicate (length arrays) None ∙ ap length e ∙ length-map cs clause_array;
  arrays = ap length e ∙ length-map cs clause_array;
  each = λ i. subst (λ (o : Option Tree). KeptAt cs i o (get_or arrays i None)) (sym (none_built (length arrays) i)) (ap (λ (ws : List (Option ArrayData)). get_or ws i None) e ∙ waits cs i);
}

pub if_known : (cs : List Clause) (r : Result Kept AllocError) (k : Kept) → IsKnown cs k → IfOk r (λ m. m ≡ k) → IfOk r (λ m. IsKnown cs m)
if_known cs (Ok m) k h e = subst (λ (k : Kept). IsKnown cs k) (sym e) h
if_known cs (Err x) k h e = tt
