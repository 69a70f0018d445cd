-- What a lawful object has of what writing and reading need.
use Rattle.std.proofs.Common.{◌≡◌, ℕ, zero, suc, ◌+◌, ◌<◌, ◌≤◌, ◌^◌, max, Bool, true, false, List, [], ◌∷◌, Option, Some, None, ℤ, pos, refl, sym, ap, ◌∙◌, arith}
use Rattle.std.specs.Prelude.{nat_le, is_some, ◌&&◌}
use Rattle.std.proofs.lemmas.Bool.{and_parts}
use Rattle.std.proofs.lemmas.Bool.Decides.{nat_tests}
use Rattle.dx_base.specs.Array.{ArrayData}
use Rattle.dx_base.specs.Object.{Tree, PartList, array, text, field, group, composite, series, no_parts, part, levels, count, total_count, size}
use Rattle.dx_base.specs.ObjectLimits.{IsLawful, AreLawful, IsAllowed, fits, max_levels, max_count, max_size, is_array, is_field, all_arrays, all_fields, all_named, differ, none_named, unplaced}
use Rattle.dx_native_text.specs.Inline.{Inline, inline_of}
use Rattle.dx_native_text.specs.Text.{unless_inline, many, parts_many, values_many}
use Rattle.dx_native_law.proofs.Means.{AreNamed, IsNamed, AllNamed}
use Rattle.dx_native_law.proofs.Law.{AreArrays, AreFields, HasArrays, AllArrays}

-- ---- not more objects are written than there are

less_if : (v : Option Inline) (n m : ℕ) → n ≤ m → unless_inline v n ≤ m
less_if None n m h = h
less_if (Some v) n m h = omega arith

mutual
  many_count : (t : Tree) → many t ≤ count t
  many_count (array a xs) = let h = values_count xs in omega (arith, h)
  many_count (text b xs) = let h = values_count xs in omega (arith, h)
  many_count (field ps xs) = let h = values_count xs in let g = parts_count ps in omega (arith, h, g)
  many_count (group ps xs) = let h = values_count xs in let g = parts_count ps in omega (arith, h, g)
  many_count (composite ps xs) = let h = values_count xs in let g = parts_count ps in omega (arith, h, g)
  many_count (series ps xs) = let h = values_count xs in let g = parts_count ps in omega (arith, h, g)

  parts_count : (ps : PartList) → parts_many ps ≤ total_count ps
  parts_count no_parts = omega arith
  parts_count (part n p t ps) = let h = many_count t in let g = parts_count ps in omega (arith, h, g)

  values_count : (xs : PartList) → values_many xs ≤ total_count xs
  values_count no_parts = omega arith
  values_count (part n p t xs) = let h = less_if (inline_of t) (many t) (count t) (many_count t) in let g = values_count xs in omega (arith, h, g)

-- ---- limits

is_le : (a b : ℕ) → nat_le a b ≡ true → a ≤ b
is_le a b h = grind (arith, nat_tests)

pub allowed : (t : Tree) → IsLawful t → IsAllowed t
allowed (array a xs) h = h.1
allowed (text b xs) h = h.1
allowed (field ps xs) h = h.0
allowed (group ps xs) h = h.0
allowed (composite ps xs) h = h.0
allowed (series ps xs) h = h.0

pub levels_fit : (t : Tree) → IsLawful t → levels t ≤ max_levels
levels_fit t h =
    let p = and_parts (nat_le (levels t) max_levels && nat_le (count t) max_count) (nat_le (size t) max_size) (allowed t h).limits in
    is_le (levels t) max_levels (and_parts (nat_le (levels t) max_levels) (nat_le (count t) max_count) p.0).0

pub few : (t : Tree) → IsLawful t → many t ≤ max_count
few t h =
    let p = and_parts (nat_le (levels t) max_levels && nat_le (count t) max_count) (nat_le (size t) max_size) (allowed t h).limits in
    let c = is_le (count t) max_count (and_parts (nat_le (levels t) max_levels) (nat_le (count t) max_count) p.0).1 in
    let m = many_count t in
    omega (arith, c, m)

-- ---- names and positions of attributes

are_named : (xs : PartList) → all_named xs ≡ true → unplaced xs ≡ xs → AreNamed xs
are_named no_parts h g = tt
are_named (part None p t xs) h g = absurd cc
are_named (part (Some n) p t xs) h g = let z : pos 0 ≡ p = cc in let rest : unplaced xs ≡ xs = cc in (z, are_named xs (and_parts true (all_named xs) h).1 rest)

-- ---- components

are_arrays : (ps : PartList) → all_arrays ps ≡ true → AreArrays ps
are_arrays no_parts h = tt
are_arrays (part n p t ps) h = let q = and_parts (is_array t) (all_arrays ps) h in (q.0, are_arrays ps q.1)

are_fields : (ps : PartList) → all_fields ps ≡ true → AreFields ps
are_fields no_parts h = tt
are_fields (part n p t ps) h = let q = and_parts (is_field t) (all_fields ps) h in (q.0, are_fields ps q.1)

mutual
  pub has_arrays : (t : Tree) → IsLawful t → HasArrays t
  has_arrays (array a xs) h = have_arrays xs h.2
  has_arrays (text b xs) h = have_arrays xs h.2
  has_arrays (field ps xs) h = (are_arrays ps h.0.components, have_arrays ps h.1, have_arrays xs h.2)
  has_arrays (group ps xs) h = (have_arrays ps h.1, have_arrays xs h.2)
  has_arrays (composite ps xs) h = (are_fields ps h.0.members, have_arrays ps h.1, have_arrays xs h.2)
  has_arrays (series ps xs) h = (have_arrays ps h.1, have_arrays xs h.2)

  have_arrays : (ps : PartList) → AreLawful ps → AllArrays ps
  have_arrays no_parts h = tt
  have_arrays (part n p t ps) h = (has_arrays t h.2, have_arrays ps h.3)

mutual
  pub is_named : (t : Tree) → IsLawful t → IsNamed t
  is_named (array a xs) h = (are_named xs (and_parts (all_named xs) (differ xs) h.1.names).0 h.1.positions, all_are_named xs h.2)
  is_named (text b xs) h = (are_named xs (and_parts (all_named xs) (differ xs) h.1.names).0 h.1.positions, all_are_named xs h.2)
  is_named (field ps xs) h =
      let p = and_parts (all_named ps && differ ps) (all_named xs && differ xs) h.0.names in
      (all_are_named ps h.1, are_named xs (and_parts (all_named xs) (differ xs) p.1).0 h.0.positions.1, all_are_named xs h.2, h.0.positions.0)
  is_named (group ps xs) h =
      let p = and_parts (differ ps) (all_named xs && differ xs) h.0.names in
      (all_are_named ps h.1, are_named xs (and_parts (all_named xs) (differ xs) p.1).0 h.0.positions.1, all_are_named xs h.2, h.0.positions.0)
  is_named (composite ps xs) h =
      let p = and_parts (differ ps) (all_named xs && differ xs) h.0.names in
      (all_are_named ps h.1, are_named xs (and_parts (all_named xs) (differ xs) p.1).0 h.0.positions.1, all_are_named xs h.2, h.0.positions.0)
  is_named (series ps xs) h =
      let p = and_parts (none_named ps) (all_named xs && differ xs) h.0.names in
      (all_are_named ps h.1, are_named xs (and_parts (all_named xs) (differ xs) p.1).0 h.0.positions, all_are_named xs h.2)

  all_are_named : (ps : PartList) → AreLawful ps → AllNamed ps
  all_are_named no_parts h = tt
  all_are_named (part n p t ps) h = (is_named t h.2, all_are_named ps h.3)
