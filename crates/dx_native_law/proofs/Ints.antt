-- Objects that step by ints, array by array.
use Rattle.std.proofs.Common.{◌≡◌, true}
use Rattle.std.proofs.lemmas.Bool.{and_parts}
use Rattle.dx_base.specs.Array.{Class, plain, constant, regular, grid_positions, grid_connections}
use Rattle.dx_base.specs.Object.{Tree, PartList, array, text, field, group, composite, series, no_parts, part}
use Rattle.dx_base.specs.ObjectNumbers.{are_ints, has_int_steps, steps_by_ints, all_step_by_ints}

-- origin and deltas of a regular array and of a grid's points
abbrev pub HasInts : Class → Type 0
HasInts (plain vs) = Unit {0}
HasInts (constant n v) = Unit {0}
HasInts (regular n o d) = (are_ints o ≡ true) × (are_ints d ≡ true)
HasInts (grid_positions cs o ds) = (are_ints o ≡ true) × (are_ints ds ≡ true)
HasInts (grid_connections cs) = Unit {0}

abbrev mutual
  -- those of all arrays
  pub HasIntsAll : Tree → Type 0
  HasIntsAll (array a xs) = HasInts a.class × HaveInts xs
  HasIntsAll (text b xs) = HaveInts xs
  HasIntsAll (field ps xs) = HaveInts ps × HaveInts xs
  HasIntsAll (group ps xs) = HaveInts ps × HaveInts xs
  HasIntsAll (composite ps xs) = HaveInts ps × HaveInts xs
  HasIntsAll (series ps xs) = HaveInts ps × HaveInts xs

  pub HaveInts : PartList → Type 0
  HaveInts no_parts = Unit {0}
  HaveInts (part n p t ps) = HasIntsAll t × HaveInts ps

class_ints : (c : Class) → has_int_steps c ≡ true → HasInts c
class_ints (plain vs) h = tt
class_ints (constant n v) h = tt
class_ints (regular n o d) h = and_parts (are_ints o) (are_ints d) h
class_ints (grid_positions cs o ds) h = and_parts (are_ints o) (are_ints ds) h
class_ints (grid_connections cs) h = tt

mutual
  pub ints_of : (t : Tree) → steps_by_ints t ≡ true → HasIntsAll t
  ints_of (array a xs) h = let p = and_parts (has_int_steps a.class) (all_step_by_ints xs) h in (class_ints a.class p.0, all_ints xs p.1)
  ints_of (text b xs) h = all_ints xs h
  ints_of (field ps xs) h = let p = and_parts (all_step_by_ints ps) (all_step_by_ints xs) h in (all_ints ps p.0, all_ints xs p.1)
  ints_of (group ps xs) h = let p = and_parts (all_step_by_ints ps) (all_step_by_ints xs) h in (all_ints ps p.0, all_ints xs p.1)
  ints_of (composite ps xs) h = let p = and_parts (all_step_by_ints ps) (all_step_by_ints xs) h in (all_ints ps p.0, all_ints xs p.1)
  ints_of (series ps xs) h = let p = and_parts (all_step_by_ints ps) (all_step_by_ints xs) h in (all_ints ps p.0, all_ints xs p.1)

  all_ints : (ps : PartList) → all_step_by_ints ps ≡ true → HaveInts ps
  all_ints no_parts h = tt
  all_ints (part n p t ps) h = let q = and_parts (steps_by_ints t) (all_step_by_ints ps) h in (ints_of t q.0, all_ints ps q.1)
