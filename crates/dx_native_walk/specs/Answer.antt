-- What the walk answers and keeps.
use Rattle.std.specs.Prelude.{◌≡◌, ◌≢◌, ℕ, List, Option, Some, None, Result, Ok, Err, slice_get, slice_index_or, length, ◌≤◌, ◌<◌, IsTrue}
use Rattle.std.specs.declared.rc.Rc.{Rc}
use Rattle.std.specs.declared.alloc.Global.{Global}
use Rattle.dx_base.specs.Array.{ArrayData}
use Rattle.dx_base.specs.Object.{Tree, PartList, array, text, field, group, composite, series, no_parts, part, levels}
use Rattle.dx_base.specs.ObjectLimits.{has_good_names, has_array_components, has_field_members, fits}
use Rattle.dx_native_grammar.specs.declared.clause.Clause.{Clause}
use Rattle.dx_native_grammar.specs.Meaning.{tree_at, body_at}
use Rattle.dx_native_clauses.specs.Outline.{array_at}
use Rattle.dx_native_walk.specs.Memo.{Kept}
use Rattle.dx_native_walk.specs.declared.fail.BuildFail.{BuildFail}
use Rattle.dx_native_walk.specs.declared.fail.BuildFail.TheVariants as fail

-- ---- trees that are objects

-- names, components, members and limits are those of an object
pub record IsOne (t : Tree) : Type 0 where
  pub names : IsTrue (has_good_names t)
  pub components : IsTrue (has_array_components t)
  pub members : IsTrue (has_field_members t)
  pub limits : IsTrue (fits t)

-- in the tree and in all below it
abbrev mutual
  pub IsWhole : Tree → Type 0
  IsWhole (array a xs) = IsOne (array a xs) × AreWhole xs
  IsWhole (text b xs) = IsOne (text b xs) × AreWhole xs
  IsWhole (field ps xs) = IsOne (field ps xs) × AreWhole ps × AreWhole xs
  IsWhole (group ps xs) = IsOne (group ps xs) × AreWhole ps × AreWhole xs
  IsWhole (composite ps xs) = IsOne (composite ps xs) × AreWhole ps × AreWhole xs
  IsWhole (series ps xs) = IsOne (series ps xs) × AreWhole ps × AreWhole xs

  pub AreWhole : PartList → Type 0
  AreWhole no_parts = Unit {0}
  AreWhole (part n p t ps) = IsWhole t × AreWhole ps

-- ---- what is kept is what the clauses mean

-- the object that is built of clause number i is what the clause means; as long as none is built, the clause's array waits
abbrev pub KeptAt : List Clause → ℕ → Option Tree → Option ArrayData → Type 0
KeptAt cs i None waiting = waiting ≡ array_at (slice_get cs i)
KeptAt cs i (Some t) waiting = ((k : ℕ) × (tree_at cs k i ≡ Some t)) × (waiting ≡ None)

pub record IsKnown (cs : List Clause) (kept : Kept) : Type 0 where
  pub trees : length kept.trees ≡ length cs
  pub arrays : length kept.arrays ≡ length cs
  pub each : (i : ℕ) → KeptAt cs i (slice_index_or kept.trees i None) (slice_index_or kept.arrays i None)

-- but for one clause
pub record IsKnownBut (cs : List Clause) (one : ℕ) (kept : Kept) : Type 0 where
  pub trees : length kept.trees ≡ length cs
  pub arrays : length kept.arrays ≡ length cs
  pub each : (i : ℕ) → (i ≢ one) → KeptAt cs i (slice_index_or kept.trees i None) (slice_index_or kept.arrays i None)

-- what a clause means with these attributes
abbrev pub content_at : (List ℕ → Option Tree) → Option Clause → Option PartList → Option Tree
content_at meant None xs = None
content_at meant (Some c) xs = body_at meant c.content.body xs

-- ---- answers

abbrev pub IsBroken : Option Tree → Type 0
IsBroken None = Unit {0}
IsBroken (Some t) = IsWhole t → ⊥

abbrev pub FailsAt : Option Tree → BuildFail → Type 0
FailsAt meant fail.Deep = meant ≡ None
FailsAt meant fail.Broken = IsBroken meant
FailsAt meant fail.Memory = Unit {0}

-- the tree that is meant, or why there is no such object
abbrev pub Builds : Option Tree → Result (Rc Tree Global) BuildFail → Type 0
Builds meant (Ok o) = meant ≡ Some o.value
Builds meant (Err e) = FailsAt meant e

abbrev pub AreBroken : Option PartList → Type 0
AreBroken None = Unit {0}
AreBroken (Some ps) = AreWhole ps → ⊥

abbrev pub PartsFail : Option PartList → BuildFail → Type 0
PartsFail meant fail.Deep = meant ≡ None
PartsFail meant fail.Broken = AreBroken meant
PartsFail meant fail.Memory = Unit {0}

abbrev pub BuildsParts : Option PartList → Result PartList BuildFail → Type 0
BuildsParts meant (Ok ps) = meant ≡ Some ps
BuildsParts meant (Err e) = PartsFail meant e

abbrev pub BuildsObject : Option Tree → Result Tree BuildFail → Type 0
BuildsObject meant (Ok o) = meant ≡ Some o
BuildsObject meant (Err e) = FailsAt meant e

-- the tree itself as an object, or it is none
abbrev pub Makes_of : Tree → Result Tree BuildFail → Type 0
Makes_of t (Ok o) = o ≡ t
Makes_of t (Err fail.Deep) = ⊥
Makes_of t (Err fail.Broken) = IsOne t → ⊥
Makes_of t (Err fail.Memory) = Unit {0}

-- the object, if it has no more levels than these
abbrev pub Fits : Tree → ℕ → Result (Rc Tree Global) BuildFail → Type 0
Fits t calls (Ok o) = (o.value ≡ t) × (levels t ≤ calls)
Fits t calls (Err fail.Deep) = calls < levels t
Fits t calls (Err fail.Broken) = ⊥
Fits t calls (Err fail.Memory) = Unit {0}
