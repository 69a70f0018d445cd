-- Which objects are made of others: what is refused is too large.
use Rattle.std.proofs.Common.{◌≡◌, ℕ, ◌<◌, ◌≤◌, Bool, true, false, List, Some, None, Ok, Err, refl, sym, ap, ◌∙◌, arith}
use Rattle.std.specs.Prelude.{nat_le, ◌&&◌, if◌then◌else◌}
use Rattle.std.proofs.lemmas.Bool.Decides.{nat_tests}
use Rattle.dx_base.specs.Array.{ArrayData, array_size}
use Rattle.dx_base.specs.declared.code.Code.TheVariants as code
use Rattle.dx_base.specs.Object.{Tree, PartList, array, text, field, group, composite, series, no_parts, part, attributes, levels, deepest, count, total_count, size, total_size}
use Rattle.dx_base.specs.ObjectLimits.{IsLawful, fits, unplaced, differ, all_named, is_field, is_array, has_good_names, has_array_components, has_field_members, max_size}
use Rattle.dx_base.specs.ObjectMembers.{placed, composite_or_group}
use Rattle.dx_base.specs.ObjectNames.{put, same_name, with_component}
use Rattle.dx_objects.specs.declared.makers.ObjectError.{ObjectError}
use Rattle.dx_objects.specs.declared.makers.ObjectError.TheVariants as error
use Rattle.dx_objects.specs.declared.members.MembersError.TheVariants as members_error
use Rattle.dx_objects.specs.declared.with.WithError.TheVariants as with_error
use Rattle.dx_objects.specs.Kinds.{array_of}
use Rattle.dx_objects.specs.Makes.{Makes, refusal}
use Rattle.dx_objects.specs.Members.{GivesMembers}
use Rattle.dx_objects.specs.With.{GivesWith}
use Rattle.dx_compute_meaning.specs.Answered.{Answered, or_refused}
use Rattle.dx_compute_meaning.specs.Arrays.{data_name, stands_for}
use Rattle.dx_compute_meaning.specs.Compute.{in_limits, limited, with_data, remade, has_items, finished}
use Rattle.dx_compute_meaning.specs.Operands.{has_members}
use Rattle.dx_compute_meaning.specs.Shown.{IsTooLarge}

-- ---- what a maker says of the limits

pub record IsGood (t : Tree) : Type 0 where
  pub names : has_good_names t ≡ true
  pub components : has_array_components t ≡ true
  pub members : has_field_members t ≡ true

refused_if : (t : Tree) → IsGood t → refusal t ≡ (if fits t then None else Some error.TooLarge)
refused_if t h = rw (h.names, h.components, h.members) refl

too_large_by : (b : Bool) (e : ObjectError) → (if b then None else Some error.TooLarge) ≡ Some e → b ≡ false
too_large_by true e h = absurd cc
too_large_by false e h = refl

pub in_limits_fits : (t : Tree) → fits t ≡ true → in_limits t ≡ Ok t
in_limits_fits t h = rw h refl

pub in_limits_large : (t : Tree) → fits t ≡ false → in_limits t ≡ Err code.TooLarge
in_limits_large t h = rw h refl

pub not_fitting : (t : Tree) (e : ObjectError) → IsGood t → Makes t (Err e) → fits t ≡ false
not_fitting t e good h = too_large_by (fits t) e (sym (refused_if t good) ∙ h)

-- ---- limits

and_false : (a b c a' b' c' : Bool) → (a && b && c) ≡ false → (a' ≡ true → a ≡ true) → (b' ≡ true → b ≡ true) → (c' ≡ true → c ≡ true) → (a' && b' && c') ≡ false
and_false a b c true true true h p q r = absurd (let e : a ≡ true = p refl in let f : b ≡ true = q refl in let g : c ≡ true = r refl in cc)
and_false a b c true true false h p q r = refl
and_false a b c true false c' h p q r = refl
and_false a b c false b' c' h p q r = refl

le_down : (m n k : ℕ) → m ≤ n → nat_le n k ≡ true → nat_le m k ≡ true
le_down m n k h e = grind (arith, nat_tests, h, e)

-- what has no more of each is within the limits where the other is
pub fits_down : (t u : Tree) → levels t ≤ levels u → count t ≤ count u → size t ≤ size u → fits t ≡ false → fits u ≡ false
fits_down t u l c s h = and_false _ _ _ _ _ _ h (le_down (levels t) (levels u) 64 l) (le_down (count t) (count u) 1048576 c) (le_down (size t) (size u) max_size s)

put_levels : (n : List ℕ) (t : Tree) (ps : PartList) → levels t ≤ deepest (put n t ps)
put_levels n t no_parts = omega arith
put_levels n t (part m p u ps) = by (same_name n m) (put_levels n t ps)
  where
    by : (b : Bool) → levels t ≤ deepest (put n t ps) → levels t ≤ deepest (if b then part m p t ps else part m p u (put n t ps))
    by true h = omega arith
    by false h = omega (arith, h)

put_count : (n : List ℕ) (t : Tree) (ps : PartList) → count t ≤ total_count (put n t ps)
put_count n t no_parts = omega arith
put_count n t (part m p u ps) = by (same_name n m) (put_count n t ps)
  where
    by : (b : Bool) → count t ≤ total_count (put n t ps) → count t ≤ total_count (if b then part m p t ps else part m p u (put n t ps))
    by true h = omega arith
    by false h = omega (arith, h)

put_size : (n : List ℕ) (t : Tree) (ps : PartList) → size t ≤ total_size (put n t ps)
put_size n t no_parts = omega arith
put_size n t (part m p u ps) = by (same_name n m) (put_size n t ps)
  where
    by : (b : Bool) → size t ≤ total_size (put n t ps) → size t ≤ total_size (if b then part m p t ps else part m p u (put n t ps))
    by true h = omega arith
    by false h = omega (arith, h)

-- a field with a component that is too large is so itself
pub field_large : (n : List ℕ) (t : Tree) (ps xs : PartList) → fits t ≡ false → fits (field (put n t ps) xs) ≡ false
field_large n t ps xs h = fits_down t (field (put n t ps) xs) (let g = put_levels n t ps in omega (arith, g)) (let g = put_count n t ps in omega (arith, g)) (let g = put_size n t ps in omega (arith, g)) h

-- an array that states too many bytes
pub array_large : (a : ArrayData) (xs : PartList) → max_size < array_size a → fits (array a xs) ≡ false
array_large a xs h = by (nat_le (levels (array a xs)) 64) (nat_le (count (array a xs)) 1048576) (nat_le (size (array a xs)) max_size) (let g : max_size < size (array a xs) = omega (arith, h) in grind (arith, nat_tests, g))
  where
    by : (a b c : Bool) → c ≡ false → (a && b && c) ≡ false
    by true true c h = h
    by true false c h = refl
    by false b c h = refl

-- ---- arrays with the attributes of others

and_of : (a b : Bool) → (a && b) ≡ true → (a ≡ true) × (b ≡ true)
and_of true true h = (refl, refl)
and_of true false h = absurd cc
and_of false b h = absurd cc

array_good : (a : ArrayData) (xs : PartList) → (all_named xs && differ xs) ≡ true → IsGood (array a xs)
array_good a xs h = record { names = h; components = refl; members = refl }

pub attributes_good : (a : ArrayData) (t : Tree) → IsLawful t → is_array t ≡ true → IsGood (array a (attributes t)) × (unplaced (attributes t) ≡ attributes t)
attributes_good a (array b xs) h is = (array_good a xs h.1.names, h.1.positions)
attributes_good a (text b xs) h is = absurd cc
attributes_good a (field ps xs) h is = absurd cc
attributes_good a (group ps xs) h is = absurd cc
attributes_good a (composite ps xs) h is = absurd cc
attributes_good a (series ps xs) h is = absurd cc

-- ---- a field with its data replaced

pub data_large : (a : ArrayData) (before whole : Tree) → is_field whole ≡ true → fits (array a (attributes before)) ≡ false → limited (with_data a before whole) ≡ Err code.TooLarge
data_large a before (field ps xs) is h = in_limits_large (field (put data_name (array a (attributes before)) ps) xs) (field_large data_name (array a (attributes before)) ps xs h)
data_large a before (array b xs) is h = absurd cc
data_large a before (text b xs) is h = absurd cc
data_large a before (group ps xs) is h = absurd cc
data_large a before (composite ps xs) is h = absurd cc
data_large a before (series ps xs) is h = absurd cc

pub put_ok : (n : List ℕ) (t whole o : Tree) → is_field whole ≡ true → GivesWith n t whole (Ok o) → limited (or_refused code.NoComponent (with_component n t whole)) ≡ Ok o
put_ok n t (field ps xs) o is h = in_limits_fits (field (put n t ps) xs) h.2 ∙ ap (λ u. Ok u) (sym h.0)
put_ok n t (array b xs) o is h = absurd cc
put_ok n t (text b xs) o is h = absurd cc
put_ok n t (group ps xs) o is h = absurd cc
put_ok n t (composite ps xs) o is h = absurd cc
put_ok n t (series ps xs) o is h = absurd cc

pub put_large : (n : List ℕ) (t whole : Tree) → is_field whole ≡ true → GivesWith n t whole (Err with_error.TooLarge) → limited (or_refused code.NoComponent (with_component n t whole)) ≡ Err code.TooLarge
put_large n t (field ps xs) is h = in_limits_large (field (put n t ps) xs) h.1
put_large n t (array b xs) is h = absurd cc
put_large n t (text b xs) is h = absurd cc
put_large n t (group ps xs) is h = absurd cc
put_large n t (composite ps xs) is h = absurd cc
put_large n t (series ps xs) is h = absurd cc

-- ---- groups and series with other members

pub members_ok : (ts : List Tree) (t o : Tree) → has_members t ≡ true → GivesMembers ts t (Ok o) → in_limits (remade t ts) ≡ Ok o
members_ok ts (group ps xs) o is h = in_limits_fits (group (placed ps ts) xs) h.1 ∙ ap (λ u. Ok u) (sym h.0)
members_ok ts (composite ps xs) o is h = in_limits_fits (composite_or_group (placed ps ts) xs) h.1 ∙ ap (λ u. Ok u) (sym h.0)
members_ok ts (series ps xs) o is h = in_limits_fits (series (placed ps ts) xs) h.1 ∙ ap (λ u. Ok u) (sym h.0)
members_ok ts (array a xs) o is h = absurd cc
members_ok ts (text b xs) o is h = absurd cc
members_ok ts (field ps xs) o is h = absurd cc

pub members_large : (ts : List Tree) (t : Tree) → has_members t ≡ true → GivesMembers ts t (Err members_error.TooLarge) → in_limits (remade t ts) ≡ Err code.TooLarge
members_large ts (group ps xs) is h = in_limits_large (group (placed ps ts) xs) h
members_large ts (composite ps xs) is h = in_limits_large (composite_or_group (placed ps ts) xs) h
members_large ts (series ps xs) is h = in_limits_large (series (placed ps ts) xs) h
members_large ts (array a xs) is h = absurd cc
members_large ts (text b xs) is h = absurd cc
members_large ts (field ps xs) is h = absurd cc

pub members_there : (ts : List Tree) (t : Tree) → has_members t ≡ true → GivesMembers ts t (Err members_error.NotAGroup) → ⊥
members_there ts (group ps xs) is h = h
members_there ts (composite ps xs) is h = h
members_there ts (series ps xs) is h = h
members_there ts (array a xs) is h = absurd cc
members_there ts (text b xs) is h = absurd cc
members_there ts (field ps xs) is h = absurd cc

-- ---- what no object could hold

-- a field whose new data no object could hold
pub none_large : (n : ℕ) (whole before : Tree) (there : Answered ArrayData) → is_field whole ≡ true → stands_for whole ≡ Some before → has_items n (array_of before) ≡ true → IsTooLarge there → finished n (Some whole) there ≡ Err code.TooLarge
none_large n whole before (Ok a) fields is has h = rw (is, has) (data_large a before whole fields (array_large a (attributes before) h))
none_large n whole before (Err c) fields is has h = absurd h
