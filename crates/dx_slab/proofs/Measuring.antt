-- All slabs of a thickness are alike in size, so the first one tells whether their series is within the limits.
use Rattle.std.proofs.Common.{◌≡◌, ℕ, zero, suc, ◌+◌, ◌-◌, ◌*◌, ◌<◌, ◌≤◌, List, length, get_or, take, drop, true, false, ◌&&◌, Err, refl, sym, ap, subst, ◌∙◌, arith}
use Rattle.std.specs.Prelude.{nat_le, max}
use Rattle.std.specs.List.{All, flat_map}
use Rattle.std.proofs.Math.Nat.{suc-mul}
use Rattle.dx_base.specs.declared.code.Code.TheVariants.{TooLarge}
use Rattle.dx_base.specs.Elem.{byte_count}
use Rattle.dx_base.specs.Array.{ArrayData, Class, plain, constant, regular, grid_positions, grid_connections, product, item, width, array_size, stated_bytes}
use Rattle.dx_base.specs.Object.{Tree, PartList, array, text, field, group, composite, series, no_parts, part, parts, attributes, levels, deepest, count, total_count, size, total_size, part_count}
use Rattle.dx_base.specs.ObjectLimits.{fits, none_named}
use Rattle.dx_object_laws.proofs.PutLaws.{by_bool}
use Rattle.dx_slab.specs.Answer.{series_of}
use Rattle.dx_slab.specs.Answered.{in_limits}
use Rattle.dx_slab.specs.Components.{role, is_dropped, cut_array, cut_component, cut_parts, slab, slabs}
use Rattle.dx_slab.specs.Cuts.{cut_class, cell_extents, first_cell, cells_kept, gathered}
use Rattle.dx_slab.specs.Kept.{kept}
use Rattle.dx_slab.specs.Lawful.{IsCutOf}
use Rattle.dx_slab.specs.Whole.{many_fit}
use Rattle.dx_slab.specs.declared.cut.Cut.{Cut}
use Rattle.dx_slab.specs.declared.role.Role.{Role}
use Rattle.dx_slab.specs.declared.role.Role.TheVariants.{Positions, Connections, OnPoints, OnCells, Other}
use Rattle.dx_slab.specs.declared.runs.Runs.{Runs}
use Rattle.dx_slab.proofs.Keeping.{kept_runs, values_all, length_values}
use Rattle.dx_slab.proofs.Joining.{extents_some, extent_at, length-extents, kept_end}

-- so many values are kept, whichever is the first index
kept_length : (a : ArrayData) (es : List ℕ) (d first n : ℕ) → d < length es → first + n ≤ get_or es d 0 → All (λ e. 0 < e) es →
    length (flat_map (item a) (kept es d first n)) ≡ product (take d es) * (n * product (drop (d + 1) es)) * width a
kept_length a es d first n h fit some =
    let r : Runs = record { count = product (take d es); stride = get_or es d 0 * product (drop (d + 1) es); start = first * product (drop (d + 1) es); len = n * product (drop (d + 1) es) } in
    let are = kept_runs es d first n r h fit some (record { count = refl; stride = refl; start = refl; len = refl }) in
    ap (λ is. length (flat_map (item a) is)) are ∙ ap length (values_all a r) ∙ length_values a r r.count

-- ---- one slab and another

abbrev at : ℕ → ℕ → ℕ → Cut
at d q t = record { dimension = d; first = q; thickness = t }

record Alike (t u : Tree) : Type 0 where
  size : size t ≡ size u
  count : count t ≡ count u
  levels : levels t ≡ levels u

record AlikeParts (ps qs : PartList) : Type 0 where
  size : total_size ps ≡ total_size qs
  count : total_count ps ≡ total_count qs
  levels : deepest ps ≡ deepest qs

class_alike : (w b d t q r : ℕ) (k : Class) → stated_bytes w b (cut_class (at d q t) k) ≡ stated_bytes w b (cut_class (at d r t) k)
class_alike w b d t q r (plain vs) = refl
class_alike w b d t q r (constant n v) = refl
class_alike w b d t q r (regular n o s) = refl
class_alike w b d t q r (grid_positions cs o ds) = refl
class_alike w b d t q r (grid_connections cs) = refl

gathered_alike : (a : ArrayData) (is js : List ℕ) → length (flat_map (item a) is) ≡ length (flat_map (item a) js) → array_size (gathered a is) ≡ array_size (gathered a js)
gathered_alike a is js e = ap (λ n. 64 + n * byte_count a.elem) e

array_alike : (cs : List ℕ) (d t q r : ℕ) (k : Role) (a : ArrayData) → IsCutOf cs (at d q t) → IsCutOf cs (at d r t) → array_size (cut_array cs (at d q t) k a) ≡ array_size (cut_array cs (at d r t) k a)
array_alike cs d t q r Positions a h l = ap (λ n. 64 + n) (class_alike (width a) (byte_count a.elem) d t q r a.class)
array_alike cs d t q r Connections a h l = refl
array_alike cs d t q r OnPoints a h l =
    gathered_alike a _ _
    (kept_length a cs d q (t + 1) h.dimension (let end = h.end in omega (arith, end)) h.counts.some
    ∙ sym (kept_length a cs d r (t + 1) l.dimension (let end = l.end in omega (arith, end)) l.counts.some))
array_alike cs d t q r OnCells a h l =
    let p = get_or cs d 0 in
    let es = cell_extents cs in
    let long : d < length es = (let len = length-extents cs in let dim = h.dimension in omega (arith, len, dim)) in
    let extent = extent_at cs d h.dimension in
    let one : first_cell p (at d q t) + cells_kept (at d q t) ≤ get_or es d 0 = rw extent (kept_end p (at d q t) h.end) in
    let two : first_cell p (at d r t) + cells_kept (at d r t) ≤ get_or es d 0 = rw extent (kept_end p (at d r t) l.end) in
    gathered_alike a _ _
    (kept_length a es d (first_cell p (at d q t)) (cells_kept (at d q t)) long one (extents_some cs h.counts.some)
    ∙ sym (kept_length a es d (first_cell p (at d r t)) (cells_kept (at d r t)) long two (extents_some cs h.counts.some)))
array_alike cs d t q r Other a h l = refl

component_alike : (cs : List ℕ) (d t q r : ℕ) (k : Role) (u : Tree) → IsCutOf cs (at d q t) → IsCutOf cs (at d r t) → Alike (cut_component cs (at d q t) k u) (cut_component cs (at d r t) k u)
component_alike cs d t q r k (array a xs) h l = record { size = ap (λ n. n + total_size xs) (array_alike cs d t q r k a h l); count = refl; levels = refl }
component_alike cs d t q r k (text b xs) h l = record { size = refl; count = refl; levels = refl }
component_alike cs d t q r k (field ps xs) h l = record { size = refl; count = refl; levels = refl }
component_alike cs d t q r k (group ps xs) h l = record { size = refl; count = refl; levels = refl }
component_alike cs d t q r k (composite ps xs) h l = record { size = refl; count = refl; levels = refl }
component_alike cs d t q r k (series ps xs) h l = record { size = refl; count = refl; levels = refl }

parts_alike : (cs : List ℕ) (d t q r : ℕ) (ps : PartList) → IsCutOf cs (at d q t) → IsCutOf cs (at d r t) → AlikeParts (cut_parts cs (at d q t) ps) (cut_parts cs (at d r t) ps)
parts_alike cs d t q r no_parts h l = record { size = refl; count = refl; levels = refl }
parts_alike cs d t q r (part n p u ps) h l =
    let rest = parts_alike cs d t q r ps h l in
    let own = component_alike cs d t q r (role n u) u h l in
    by_bool (is_dropped cs (at d q t) (role n u)) _
    (λ e. rw e rest)
    (λ e. rw e (record {
      size = rw (own.size, rest.size) refl;
      count = rw (own.count, rest.count) refl;
      levels = rw (own.levels, rest.levels) refl;
    }))

slab_alike : (cs : List ℕ) (d t q r : ℕ) (whole : Tree) → IsCutOf cs (at d q t) → IsCutOf cs (at d r t) → Alike (slab cs (at d q t) whole) (slab cs (at d r t) whole)
slab_alike cs d t q r whole h l =
    let own = parts_alike cs d t q r (parts whole) h l in
    record {
      size = ap (λ n. 64 + n + total_size (attributes whole)) own.size;
      count = ap (λ n. suc (n + total_count (attributes whole))) own.count;
      levels = ap (λ n. suc (max n (deepest (attributes whole)))) own.levels;
    }

-- ---- their series

module _ (cs : List ℕ) (d t : ℕ) (whole : Tree) (first : IsCutOf cs (at d 0 t)) where
  abbrev one : Tree
  one = slab cs (at d 0 t) whole

  own_cut : (q n : ℕ) → q + suc n + t ≤ get_or cs d 0 → IsCutOf cs (at d q t)
  own_cut q n h = record { counts = first.counts; dimension = first.dimension; end = omega (arith, h) }

  slabs_size : (q n : ℕ) → q + n + t ≤ get_or cs d 0 → total_size (slabs cs d t whole q n) ≡ n * size one
  slabs_size q zero h = omega arith
  slabs_size q (suc n) h =
      let here = (slab_alike cs d t q 0 whole (own_cut q n h) first).size in
      let rest = slabs_size (q + 1) n (omega (arith, h)) in
      let row : suc n * size one ≡ n * size one + size one = suc-mul n (size one) in
      rw (here, rest, row) (omega arith)

  slabs_count : (q n : ℕ) → q + n + t ≤ get_or cs d 0 → total_count (slabs cs d t whole q n) ≡ n * count one
  slabs_count q zero h = omega arith
  slabs_count q (suc n) h =
      let here = (slab_alike cs d t q 0 whole (own_cut q n h) first).count in
      let rest = slabs_count (q + 1) n (omega (arith, h)) in
      let row : suc n * count one ≡ n * count one + count one = suc-mul n (count one) in
      rw (here, rest, row) (omega arith)

  slabs_low : (q n : ℕ) → q + n + t ≤ get_or cs d 0 → deepest (slabs cs d t whole q n) ≤ levels one
  slabs_low q zero h = omega arith
  slabs_low q (suc n) h =
      let here = (slab_alike cs d t q 0 whole (own_cut q n h) first).levels in
      let rest = slabs_low (q + 1) n (omega (arith, h)) in
      rw here (omega (arith, rest))

  slabs_levels : (q n : ℕ) → q + suc n + t ≤ get_or cs d 0 → deepest (slabs cs d t whole q (suc n)) ≡ levels one
  slabs_levels q n h =
      let here = (slab_alike cs d t q 0 whole (own_cut q n h) first).levels in
      let rest = slabs_low (q + 1) n (omega (arith, h)) in
      rw here (omega (arith, rest))

  slabs_number : (q n : ℕ) → part_count (slabs cs d t whole q n) ≡ n
  slabs_number q zero = refl
  slabs_number q (suc n) = ap suc (slabs_number (q + 1) n)

  pub slabs_named : (q n : ℕ) → none_named (slabs cs d t whole q n) ≡ true
  slabs_named q zero = refl
  slabs_named q (suc n) = slabs_named (q + 1) n

  series_by : (n : ℕ) → suc n + t ≤ get_or cs d 0 → fits (series (slabs cs d t whole 0 (suc n)) no_parts) ≡ many_fit one (suc n)
  series_by n h =
      let ps = slabs cs d t whole 0 (suc n) in
      let deep = slabs_levels 0 n (omega (arith, h)) in
      let sizes = slabs_size 0 (suc n) (omega (arith, h)) in
      let counts = slabs_count 0 (suc n) (omega (arith, h)) in
      let number = slabs_number 0 (suc n) in
      let level_is : levels (series ps no_parts) ≡ levels one + 1 = omega (arith, deep) in
      let count_is : count (series ps no_parts) ≡ 1 + suc n * count one = omega (arith, counts) in
      let size_is : size (series ps no_parts) ≡ 64 + 4 * suc n + suc n * size one = omega (arith, sizes, number) in
      ap (λ l. nat_le l 64 && nat_le (count (series ps no_parts)) 1048576 && nat_le (size (series ps no_parts)) 268435456) level_is
      ∙ ap (λ k. nat_le (levels one + 1) 64 && nat_le k 1048576 && nat_le (size (series ps no_parts)) 268435456) count_is
      ∙ ap (λ s. nat_le (levels one + 1) 64 && nat_le (1 + suc n * count one) 1048576 && nat_le s 268435456) size_is

  pub series_fits : (n : ℕ) → 0 < n → n + t ≤ get_or cs d 0 → fits (series (slabs cs d t whole 0 n) no_parts) ≡ many_fit one n
  series_fits zero s h = absurd (omega (arith, s))
  series_fits (suc n) s h = series_by n h

refused_by : (t : Tree) → fits t ≡ false → in_limits t ≡ Err TooLarge
refused_by t e = rw e refl

-- where so many aren't within the limits, the series is too large
pub many_large : (cs : List ℕ) (c : Cut) (whole first : Tree) (n : ℕ) → IsCutOf cs c → c.first ≡ 0 → n + c.thickness ≡ get_or cs c.dimension 0 → first ≡ slab cs c whole → many_fit first n ≡ false →
    in_limits (series_of cs c.dimension c.thickness whole) ≡ Err TooLarge
many_large cs c whole first n cut begin number is large =
    let same : c ≡ at c.dimension 0 c.thickness = λ i. record { dimension = c.dimension; first = begin i; thickness = c.thickness } in
    let own : IsCutOf cs (at c.dimension 0 c.thickness) = subst (IsCutOf cs) same cut in
    let there : first ≡ slab cs (at c.dimension 0 c.thickness) whole = is ∙ ap (λ k. slab cs k whole) same in
    let end = own.end in
    let some : 0 < n = omega (arith, end, number) in
    let many : many_fit (slab cs (at c.dimension 0 c.thickness) whole) n ≡ false = subst (λ u. many_fit u n ≡ false) there large in
    let gap : get_or cs c.dimension 0 - c.thickness ≡ n = omega (arith, number) in
    refused_by (series_of cs c.dimension c.thickness whole)
    (ap (λ k. fits (series (slabs cs c.dimension c.thickness whole 0 k) no_parts)) gap
    ∙ series_fits cs c.dimension c.thickness whole own n some (omega (arith, number)) ∙ many)
