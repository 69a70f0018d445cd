-- Members that are replaced: only that the group or series is too large can be said against it.
use Rattle.std.proofs.Common.{◌≡◌, List, Some, None, Ok, Err, true, cond, refl, sym, ◌∙◌}
use Rattle.dx_base.specs.Object.{Tree, PartList, group, composite, series}
use Rattle.dx_base.specs.ObjectLimits.{all_fields, has_good_names, fits, IsAllowed}
use Rattle.dx_base.specs.ObjectMembers.{placed, with_members, composite_or_group}
use Rattle.dx_objects.specs.Makes.{Makes, refusal}
use Rattle.dx_objects.specs.Members.{members_of, regrouped, GivesMembers}
use Rattle.dx_objects.specs.View.{tree_of}
use Rattle.dx_objects.specs.declared.object.Body.{Body}
use Rattle.dx_objects.specs.declared.object.Body.TheVariants.{Array, Text, Field, Group, Composite, Series}
use Rattle.dx_objects.specs.declared.makers.ObjectError.{ObjectError}
use Rattle.dx_objects.specs.declared.makers.ObjectError.TheVariants as refused
use Rattle.dx_objects.specs.declared.members.MembersError.TheVariants.{TooLarge}
use Rattle.dx_object_laws.proofs.PutLaws.{by_bool}
use Rattle.dx_object_laws.proofs.PlacedLaws.{stays, group_names, series_names}
use Rattle.dx_objects.proofs.PutLaws.{is_too_large, does_fit}

-- the tree that is made is the one that is meant
pub made_is : (b : Body) (xs ps : PartList) (ts : List Tree) → IsAllowed (tree_of b xs) → members_of b ≡ Some ps → with_members ts (tree_of b xs) ≡ Some (regrouped b (placed ps ts) xs)
made_is (Array a) xs ps ts h e = absurd (cc e)
made_is (Text a) xs ps ts h e = absurd (cc e)
made_is (Field qs) xs ps ts h e = absurd (cc e)
made_is (Group qs) xs ps ts h e = let same : qs ≡ ps = cc in rw (← same, stays qs ts h.positions.0, h.positions.1) refl
made_is (Composite qs) xs ps ts h e = let same : qs ≡ ps = cc in rw (← same, stays qs ts h.positions.0, h.positions.1) refl
made_is (Series qs) xs ps ts h e = let same : qs ≡ ps = cc in rw (← same, h.positions) refl

-- whether a tree is refused only as too large
abbrev IsOnlyLarge : Tree → Type 0
IsOnlyLarge t = refusal t ≡ cond (fits t) None (Some refused.TooLarge)

group_refusal : (ps xs : PartList) → has_good_names (group ps xs) ≡ true → IsOnlyLarge (group ps xs)
group_refusal ps xs h = rw h refl

composite_refusal : (ps xs : PartList) → has_good_names (composite ps xs) ≡ true → all_fields ps ≡ true → IsOnlyLarge (composite ps xs)
composite_refusal ps xs h k = rw (h, k) refl

series_refusal : (ps xs : PartList) → has_good_names (series ps xs) ≡ true → IsOnlyLarge (series ps xs)
series_refusal ps xs h = rw h refl

either_refusal : (ps xs : PartList) → has_good_names (group ps xs) ≡ true → IsOnlyLarge (composite_or_group ps xs)
either_refusal ps xs h =
    by_bool (all_fields ps) _
    (λ e. rw e (composite_refusal ps xs h e))
    (λ e. rw e (group_refusal ps xs h))

only_large : (b : Body) (xs ps : PartList) (ts : List Tree) → IsAllowed (tree_of b xs) → members_of b ≡ Some ps → IsOnlyLarge (regrouped b (placed ps ts) xs)
only_large (Array a) xs ps ts h e = absurd (cc e)
only_large (Text a) xs ps ts h e = absurd (cc e)
only_large (Field qs) xs ps ts h e = absurd (cc e)
only_large (Group qs) xs ps ts h e = let same : qs ≡ ps = cc in rw (← same, stays qs ts h.positions.0, h.positions.1) (group_refusal (placed qs ts) xs (group_names qs xs ts h.names))
only_large (Composite qs) xs ps ts h e = let same : qs ≡ ps = cc in rw (← same, stays qs ts h.positions.0, h.positions.1) (either_refusal (placed qs ts) xs (group_names qs xs ts h.names))
only_large (Series qs) xs ps ts h e = let same : qs ≡ ps = cc in rw (← same, h.positions) (series_refusal (placed qs ts) xs (series_names qs xs ts h.names))

-- what is made, and what is refused, is what the call answers
pub gives_made : (b : Body) (xs ps : PartList) (ts : List Tree) (o : Tree) → IsAllowed (tree_of b xs) → members_of b ≡ Some ps → Makes (regrouped b (placed ps ts) xs) (Ok o) → GivesMembers ts (tree_of b xs) (Ok o)
gives_made b xs ps ts o h e made =
    let fit = does_fit (fits (regrouped b (placed ps ts) xs)) (sym (only_large b xs ps ts h e) ∙ made.1) in
    rw (made_is b xs ps ts h e) (made.0, fit)

pub gives_refused : (b : Body) (xs ps : PartList) (ts : List Tree) (f : ObjectError) → IsAllowed (tree_of b xs) → members_of b ≡ Some ps → Makes (regrouped b (placed ps ts) xs) (Err f) → GivesMembers ts (tree_of b xs) (Err TooLarge)
gives_refused b xs ps ts f h e said =
    let large = is_too_large (fits (regrouped b (placed ps ts) xs)) f (sym (only_large b xs ps ts h e) ∙ said) in
    rw (made_is b xs ps ts h e) large
