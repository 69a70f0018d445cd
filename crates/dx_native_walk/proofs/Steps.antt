-- Steps of the walk: objects that are made or not.
use Rattle.std.proofs.Common.{◌≡◌, true, false, ℕ, List, Option, Some, None, Result, Ok, Err, sym, ap, subst, ◌∙◌}
use Rattle.std.specs.Prelude.{not, Bool, cond}
use Rattle.std.specs.declared.rc.Rc.{Rc}
use Rattle.std.specs.declared.alloc.Global.{Global}
use Rattle.dx_base.specs.Object.{Tree, PartList, array, text, field, group, composite, series, no_parts, part}
use Rattle.dx_base.specs.ObjectLimits.{unplaced, has_good_names, has_array_components, has_field_members, fits}
use Rattle.dx_objects.specs.Makes.{refusal}
use Rattle.dx_objects.specs.declared.makers.ObjectError.{ObjectError}
use Rattle.dx_native_grammar.specs.Meaning.{parts_at, listed_tree, listed_at, body_at}
use Rattle.dx_native_grammar.specs.declared.clause.Body.{Body}
use Rattle.dx_native_grammar.specs.declared.clause.Body.TheVariants as body
use Rattle.dx_native_grammar.specs.declared.clause.ListClass.{ListClass}
use Rattle.dx_native_grammar.specs.declared.clause.ListClass.TheVariants as listing
use Rattle.dx_native_walk.specs.Answer.{IsOne, IsWhole, AreWhole, IsBroken, AreBroken, FailsAt, PartsFail, Builds, BuildsObject, Makes_of}
use Rattle.dx_native_walk.specs.declared.fail.BuildFail.{BuildFail}
use Rattle.dx_native_walk.specs.declared.fail.BuildFail.TheVariants as fail

pub object_exit : (m o : Option Tree) (r : Result (Rc Tree Global) BuildFail) (e y : BuildFail) → r ≡ Err y → y ≡ e → FailsAt m e → o ≡ m → Builds o r
object_exit m o r e y p q h same =
    let failed : BuildFail → Result (Rc Tree Global) BuildFail = λ e. Err e in
    subst (λ (r : Result (Rc Tree Global) BuildFail). Builds o r) (sym (p ∙ ap failed q)) (subst (λ (m : Option Tree). FailsAt m e) (sym same) h)

-- ---- objects that are made, and those that are not

refused_by : (a b c d : Bool) (e : ObjectError) (x y z w : ObjectError) → cond {A = Option ObjectError} (not a) (Some x) (cond (not b) (Some y) (cond (not c) (Some z) (cond d None (Some w)))) ≡ Some e
    → a ≡ true → b ≡ true → c ≡ true → d ≡ true → ⊥
refused_by true true true true e x y z w h p q r s = absurd cc
refused_by false b c d e x y z w h p q r s = absurd cc
refused_by true false c d e x y z w h p q r s = absurd cc
refused_by true true false d e x y z w h p q r s = absurd cc
refused_by true true true false e x y z w h p q r s = absurd cc

-- what a maker refuses is no object
pub refused_one : (t : Tree) (e : ObjectError) → refusal t ≡ Some e → IsOne t → ⊥
refused_one t e h one = refused_by (has_good_names t) (has_array_components t) (has_field_members t) (fits t) e _ _ _ _ h (cc one.names) (cc one.components) (cc one.members) (cc one.limits)

pub one_of : (t : Tree) → IsWhole t → IsOne t
one_of (array a xs) h = h.0
one_of (text b xs) h = h.0
one_of (field ps xs) h = h.0
one_of (group ps xs) h = h.0
one_of (composite ps xs) h = h.0
one_of (series ps xs) h = h.0

pub made_builds : (t : Tree) (r : Result Tree BuildFail) → Makes_of t r → BuildsObject (Some t) r
made_builds t (Ok o) h = ap (λ t. Some t) (sym h)
made_builds t (Err fail.Deep) h = absurd h
made_builds t (Err fail.Broken) h = λ whole. h (one_of t whole)
made_builds t (Err fail.Memory) h = tt

pub fails_made : (t : Tree) (e : BuildFail) → Makes_of t (Err e) → FailsAt (Some t) e
fails_made t fail.Deep h = absurd h
fails_made t fail.Broken h = λ whole. h (one_of t whole)
fails_made t fail.Memory h = tt

-- ---- parts of a body

whole_unplaced : (ps : PartList) → AreWhole (unplaced ps) → AreWhole ps
whole_unplaced no_parts h = tt
whole_unplaced (part n z t ps) h = (h.0, whole_unplaced ps h.1)

listed_whole : (c : ListClass) (ps xs : PartList) → IsWhole (listed_tree c ps xs) → AreWhole ps
listed_whole listing.Field ps xs h = whole_unplaced ps h.1
listed_whole listing.Group ps xs h = whole_unplaced ps h.1
listed_whole listing.Composite ps xs h = whole_unplaced ps h.1
listed_whole listing.Series ps xs h = h.1

broken_listed : (c : ListClass) (o : Option PartList) (xs : PartList) → AreBroken o → IsBroken (listed_at c o xs)
broken_listed c None xs h = tt
broken_listed c (Some ps) xs h = λ whole. h (listed_whole c ps xs whole)

pub fails_listed : (c : ListClass) (o : Option PartList) (xs : PartList) (e : BuildFail) → PartsFail o e → FailsAt (listed_at c o xs) e
fails_listed c o xs fail.Deep h = ap (λ o. listed_at c o xs) h
fails_listed c o xs fail.Broken h = broken_listed c o xs h
fails_listed c o xs fail.Memory h = tt

pub listed_builds : (c : ListClass) (o : Option PartList) (ps xs : PartList) (r : Result Tree BuildFail) → o ≡ Some ps → Makes_of (listed_tree c ps xs) r → BuildsObject (listed_at c o xs) r
listed_builds c o ps xs r e h =
    subst (λ (o : Option PartList). BuildsObject (listed_at c o xs) r) (sym e) (made_builds (listed_tree c ps xs) r h)

listed_attributes : (c : ListClass) (ps xs : PartList) → IsWhole (listed_tree c ps xs) → AreWhole xs
listed_attributes listing.Field ps xs h = h.2
listed_attributes listing.Group ps xs h = h.2
listed_attributes listing.Composite ps xs h = h.2
listed_attributes listing.Series ps xs h = h.2

broken_some : (c : ListClass) (o : Option PartList) (xs : PartList) → (AreWhole xs → ⊥) → IsBroken (listed_at c o xs)
broken_some c None xs h = tt
broken_some c (Some ps) xs h = λ whole. h (listed_attributes c ps xs whole)

broken_body : (f : List ℕ → Option Tree) (b : Body) (o : Option PartList) → AreBroken o → IsBroken (body_at f b o)
broken_body f b None h = tt
broken_body f (body.Array a) (Some xs) h = λ whole. h whole.1
broken_body f (body.Text b) (Some xs) h = λ whole. h whole.1
broken_body f (body.Parts c ls) (Some xs) h = broken_some c (parts_at f ls) xs h

-- an object whose attributes fail
pub fails_body : (f : List ℕ → Option Tree) (b : Body) (o : Option PartList) (e : BuildFail) → PartsFail o e → FailsAt (body_at f b o) e
fails_body f b o fail.Deep h = ap (body_at f b) h
fails_body f b o fail.Broken h = broken_body f b o h
fails_body f b o fail.Memory h = tt

pub built_exit : (m : Option Tree) (r : Result Tree BuildFail) (e y : BuildFail) → r ≡ Err y → y ≡ e → FailsAt m e → BuildsObject m r
built_exit m r e y p q h =
    let failed : BuildFail → Result Tree BuildFail = λ e. Err e in
    subst (λ (r : Result Tree BuildFail). BuildsObject m r) (sym (p ∙ ap failed q)) h
