-- The field of a slab: its components are good, and what is said where one is too large.
use Rattle.std.proofs.Common.{◌≡◌, ℕ, ℤ, pos, List, Bool, true, false, ◌&&◌, Option, Some, None, Ok, Err, refl, sym, ap, ◌∙◌}
use Rattle.std.specs.Prelude.{is_none, is_some}
use Rattle.std.proofs.lemmas.Bool.{and_parts}
use Rattle.std.specs.Cmp.Derive.{both_true}
use Rattle.dx_base.specs.declared.code.Code.{Code}
use Rattle.dx_base.specs.declared.code.Code.TheVariants.{TooLarge}
use Rattle.dx_base.specs.Object.{Tree, PartList, array, text, field, group, composite, series, no_parts, part, parts}
use Rattle.dx_base.specs.ObjectLimits.{fits, is_array, is_field, all_arrays, all_named, differ, lacks, unplaced, IsLawful}
use Rattle.dx_base.specs.ObjectNames.{same_name, find}
use Rattle.dx_objects.specs.Runs.{Gives}
use Rattle.dx_objects.specs.declared.run_fail.RunFail.{RunFail}
use Rattle.dx_objects.specs.declared.run_fail.RunFail.TheVariants as fail
use Rattle.dx_object_laws.proofs.PutLaws.{by_bool}
use Rattle.dx_slab.specs.Answered.{Answered, in_limits, one_result}
use Rattle.dx_slab.specs.Components.{role, is_dropped, cut_component, cut_parts}
use Rattle.dx_slab.specs.Gives.{GivesTree, GivesParts, Grows}
use Rattle.dx_slab.specs.Whole.{AreComponents}
use Rattle.dx_slab.specs.declared.cut.Cut.{Cut}
use Rattle.dx_slab.specs.declared.role.Role.{Role}
use Rattle.dx_slab.proofs.Fitting.{field_large, series_large}

pub components_of : (t : Tree) → is_field t ≡ true → IsLawful t → AreComponents (parts t)
components_of (array a xs) f h = cc
components_of (text b xs) f h = cc
components_of (field ps xs) f h =
    let names = and_parts (all_named ps && differ ps) (all_named xs && differ xs) h.0.names in
    let own = and_parts (all_named ps) (differ ps) names.0 in
    record { named = own.0; differ = own.1; arrays = h.0.components; unplaced = h.0.positions.0 }
components_of (group ps xs) f h = cc
components_of (composite ps xs) f h = cc
components_of (series ps xs) f h = cc

-- ---- the components of the slab are some of those of the field, under their names

-- a component of the slab stands at the head, or it is gone
pub cut_head : (cs : List ℕ) (c : Cut) (n : Option (List ℕ)) (p : ℤ) (t : Tree) (ps : PartList) (P : PartList → Type 0) →
    P (cut_parts cs c ps) → P (part n p (cut_component cs c (role n t) t) (cut_parts cs c ps)) → P (cut_parts cs c (part n p t ps))
cut_head cs c n p t ps P gone stays =
    by_bool (is_dropped cs c (role n t)) _
    (λ e. rw e gone)
    (λ e. rw e stays)

component_array : (cs : List ℕ) (c : Cut) (r : Role) (t : Tree) → is_array t ≡ true → is_array (cut_component cs c r t) ≡ true
component_array cs c r (array a xs) h = refl
component_array cs c r (text b xs) h = h
component_array cs c r (field ps xs) h = h
component_array cs c r (group ps xs) h = h
component_array cs c r (composite ps xs) h = h
component_array cs c r (series ps xs) h = h

named_kept : (cs : List ℕ) (c : Cut) (ps : PartList) → all_named ps ≡ true → all_named (cut_parts cs c ps) ≡ true
named_kept cs c no_parts h = refl
named_kept cs c (part n p t ps) h =
    let hs = and_parts (is_some n) (all_named ps) h in
    let rest = named_kept cs c ps hs.1 in
    cut_head cs c n p t ps (λ qs. all_named qs ≡ true) rest (both_true hs.0 rest)

arrays_kept : (cs : List ℕ) (c : Cut) (ps : PartList) → all_arrays ps ≡ true → all_arrays (cut_parts cs c ps) ≡ true
arrays_kept cs c no_parts h = refl
arrays_kept cs c (part n p t ps) h =
    let hs = and_parts (is_array t) (all_arrays ps) h in
    let rest = arrays_kept cs c ps hs.1 in
    cut_head cs c n p t ps (λ qs. all_arrays qs ≡ true) rest (both_true (component_array cs c (role n t) t hs.0) rest)

unplaced_kept : (cs : List ℕ) (c : Cut) (ps : PartList) → unplaced ps ≡ ps → unplaced (cut_parts cs c ps) ≡ cut_parts cs c ps
unplaced_kept cs c no_parts h = refl
unplaced_kept cs c (part n p t ps) h =
    let here : pos 0 ≡ p = cc in
    let below : unplaced ps ≡ ps = cc in
    let rest = unplaced_kept cs c ps below in
    cut_head cs c n p t ps (λ qs. unplaced qs ≡ qs) rest (λ i. part n (here i) (cut_component cs c (role n t) t) (rest i))

pub none_of : {A : Type 0} (o : Option A) → is_none o ≡ true → o ≡ None
none_of None h = refl
none_of (Some a) h = absurd (cc h)

pub missing : (cs : List ℕ) (c : Cut) (m : List ℕ) (ps : PartList) → find m ps ≡ None → find m (cut_parts cs c ps) ≡ None
missing cs c m no_parts h = refl
missing cs c m (part n p t ps) h =
    by_bool (same_name m n) _
    (λ s. let is : Some t ≡ None = rw s at h in absurd (cc is))
    (λ s. let rest = missing cs c m ps (rw s at h) in
    cut_head cs c n p t ps (λ qs. find m qs ≡ None) rest (rw s rest))

lacking : (cs : List ℕ) (c : Cut) (m : Option (List ℕ)) (ps : PartList) → lacks m ps ≡ true → lacks m (cut_parts cs c ps) ≡ true
lacking cs c None ps h = refl
lacking cs c (Some m) ps h = ap is_none (missing cs c m ps (none_of (find m ps) h))

differ_kept : (cs : List ℕ) (c : Cut) (ps : PartList) → differ ps ≡ true → differ (cut_parts cs c ps) ≡ true
differ_kept cs c no_parts h = refl
differ_kept cs c (part n p t ps) h =
    let hs = and_parts (lacks n ps) (differ ps) h in
    let rest = differ_kept cs c ps hs.1 in
    cut_head cs c n p t ps (λ qs. differ qs ≡ true) rest (both_true (lacking cs c n ps hs.0) rest)

pub components_kept : (cs : List ℕ) (c : Cut) (ps : PartList) → AreComponents ps → AreComponents (cut_parts cs c ps)
components_kept cs c ps h = record {
  named = named_kept cs c ps h.named;
  differ = differ_kept cs c ps h.differ;
  arrays = arrays_kept cs c ps h.arrays;
  unplaced = unplaced_kept cs c ps h.unplaced;
}

-- ---- what is said where one is too large

pub passed_field : (ps xs : PartList) (e : RunFail) → GivesParts ps (Err e) → GivesTree (in_limits (field ps xs)) (Err e)
passed_field ps xs (fail.Code code) h = field_large ps xs h.1 ∙ ap (λ k. Err k) (sym h.0)
passed_field ps xs fail.Memory h = tt

pub passed_series : (ps xs : PartList) (e : RunFail) → GivesParts ps (Err e) → GivesTree (in_limits (series ps xs)) (Err e)
passed_series ps xs (fail.Code code) h = series_large ps xs h.1 ∙ ap (λ k. Err k) (sym h.0)
passed_series ps xs fail.Memory h = tt

-- this object or none
limited_by : (b : Bool) (t u : Tree) → fits t ≡ b → in_limits t ≡ Ok u → u ≡ t
limited_by true t u f e = let same : in_limits t ≡ Ok t = rw f refl in let both : Ok t ≡ Ok u = sym same ∙ e in sym cc
limited_by false t u f e = let same : in_limits t ≡ Err TooLarge = rw f refl in let both : Err TooLarge ≡ Ok u = sym same ∙ e in absurd cc

pub limited : (t u : Tree) → in_limits t ≡ Ok u → u ≡ t
limited t u e = limited_by (fits t) t u refl e

-- only that it is too large can be said
said_by : (b : Bool) (t : Tree) (code : Code) → fits t ≡ b → in_limits t ≡ Err code → (code ≡ TooLarge) × (fits t ≡ false)
said_by true t code f e = let same : in_limits t ≡ Ok t = rw f refl in let both : Ok t ≡ Err code = sym same ∙ e in absurd (cc both)
said_by false t code f e = let same : in_limits t ≡ Err TooLarge = rw f refl in let both : Err TooLarge ≡ Err code = sym same ∙ e in (sym cc, f)

pub passed_part : (n : Option (List ℕ)) (p : ℤ) (t : Tree) (old new : PartList) (e : RunFail) → GivesTree (in_limits t) (Err e) → Grows (part n p t no_parts) old new (Err e)
passed_part n p t old new (fail.Code code) h =
    let said = said_by (fits t) t code refl h in
    (said.0, rw said.1 refl)
passed_part n p t old new fail.Memory h = tt

pub passed_first : (n : Option (List ℕ)) (p : ℤ) (t : Tree) (ps xs : PartList) (e : RunFail) → GivesTree (in_limits t) (Err e) → GivesTree (in_limits (series (part n p t ps) xs)) (Err e)
passed_first n p t ps xs (fail.Code code) h =
    let said = said_by (fits t) t code refl h in
    series_large (part n p t ps) xs (rw said.1 refl) ∙ ap (λ k. Err k) (sym said.0)
passed_first n p t ps xs fail.Memory h = tt

pub passed_result : (there : Answered Tree) (e : RunFail) → GivesTree there (Err e) → Gives (one_result there) (Err e)
passed_result there (fail.Code code) h = rw h refl
passed_result there fail.Memory h = tt
