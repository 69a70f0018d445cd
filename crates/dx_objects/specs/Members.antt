-- What the call answers that puts other members into a group or a series.
use Rattle.std.specs.Prelude.{◌≡◌, List, map, Option, Some, None, Result, Ok, Err, true, false}
use Rattle.std.specs.declared.rc.Rc.{Rc}
use Rattle.std.specs.declared.alloc.Global.{Global}
use Rattle.dx_base.specs.Object.{Tree, PartList, group, series}
use Rattle.dx_base.specs.ObjectLimits.{fits, unplaced}
use Rattle.dx_base.specs.ObjectMembers.{with_members, composite_or_group}
use Rattle.dx_objects.specs.declared.object.Body.{Body}
use Rattle.dx_objects.specs.declared.object.Body.TheVariants.{Array, Text, Field, Group, Composite, Series}
use Rattle.dx_objects.specs.declared.members.MembersError.{MembersError}
use Rattle.dx_objects.specs.declared.members.MembersError.TheVariants.{NotAGroup, TooLarge, Memory}

abbrev pub trees : List (Rc Tree Global) → List Tree
trees os = map (λ (o : Rc Tree Global). o.value) os

-- the group or series, if there is one, or why it isn't made; that memory runs out is possible for a group or a series
abbrev GivesChanged : Option Tree → Result Tree MembersError → Type 0
GivesChanged None r = r ≡ Err NotAGroup
GivesChanged (Some u) (Ok o) = (o ≡ u) × (fits u ≡ true)
GivesChanged (Some u) (Err NotAGroup) = ⊥
GivesChanged (Some u) (Err TooLarge) = fits u ≡ false
GivesChanged (Some u) (Err Memory) = Unit {0}

-- what the object `whole` gives with these members
abbrev pub GivesMembers : List Tree → Tree → Result Tree MembersError → Type 0
GivesMembers ts whole r = GivesChanged (with_members ts whole) r

-- the members that a group or a series holds
abbrev pub members_of : Body → Option PartList
members_of (Array a) = None
members_of (Text b) = None
members_of (Field ps) = None
members_of (Group ps) = Some ps
members_of (Composite ps) = Some ps
members_of (Series ps) = Some ps

-- a series where this is one, and else a group, composite where this is and the members are fields
abbrev pub regrouped : Body → PartList → PartList → Tree
regrouped (Array a) ps xs = group (unplaced ps) (unplaced xs)
regrouped (Text b) ps xs = group (unplaced ps) (unplaced xs)
regrouped (Field qs) ps xs = group (unplaced ps) (unplaced xs)
regrouped (Group qs) ps xs = group (unplaced ps) (unplaced xs)
regrouped (Composite qs) ps xs = composite_or_group (unplaced ps) (unplaced xs)
regrouped (Series qs) ps xs = series ps (unplaced xs)
