-- A slab of a field that is a regular grid is a regular grid.
use Rattle.std.proofs.Common.{◌≡◌, ℕ, ◌+◌, List, [], ◌∷◌, length, Bool, true, false, Option, Some, None, refl, sym, ap, subst, ◌∙◌, arith}
use Rattle.std.specs.Prelude.{◌==◌, if◌then◌else◌}
use Rattle.std.proofs.lemmas.Bool.{and_parts, eqb-true}
use Rattle.std.proofs.lemmas.Slice.Eq.{bytes_eq-Decides}
use Rattle.dx_base.specs.Array.{Class, plain, constant, regular, grid_positions, grid_connections}
use Rattle.dx_base.specs.Object.{Tree, PartList, array, text, field, group, composite, series, no_parts, part}
use Rattle.dx_base.specs.ObjectLimits.{is_array, all_arrays}
use Rattle.dx_base.specs.ObjectNames.{same_name, find}
use Rattle.dx_fields.specs.Grids.{positions_name, connections_name, point_counts, points_of, cells_of, without_ones, are_joined, grid_counts}
use Rattle.dx_object_laws.proofs.PutLaws.{by_bool}
use Rattle.dx_slab.specs.Components.{role, is_of_cells, has_no_cells, is_dropped, cut_component, cut_parts}
use Rattle.dx_slab.specs.Cuts.{cut_counts, cut_class, joined_counts}
use Rattle.dx_slab.specs.Laws.{GivesGrid}
use Rattle.dx_slab.specs.Lawful.{IsCutOf}
use Rattle.dx_slab.specs.declared.cut.Cut.{Cut}
use Rattle.dx_slab.specs.declared.role.Role.TheVariants.{Positions, Connections}
use Rattle.dx_slab.proofs.Asking.{grid_of}
use Rattle.dx_slab.proofs.Entire.{cut_head}
use Rattle.dx_slab.proofs.Joining.{length_shrinks}
use Rattle.dx_slab.proofs.Playing.{by_option}

-- ---- the points

positions_role : (m : Option (List ℕ)) (t : Tree) → same_name positions_name m ≡ true → role m t ≡ Positions
positions_role m t s = rw s refl

positions_stay : (b : Bool) → (if b then is_of_cells Positions else false) ≡ false
positions_stay true = refl
positions_stay false = refl

find_positions : (cs : List ℕ) (c : Cut) (ps : PartList) (t : Tree) → find positions_name ps ≡ Some t → find positions_name (cut_parts cs c ps) ≡ Some (cut_component cs c Positions t)
find_positions cs c no_parts t e = absurd (cc e)
find_positions cs c (part m p u ps) t e =
    by_bool (same_name positions_name m) _
    (λ s. let is : Some u ≡ Some t = rw s at e in
    let same : u ≡ t = cc in
    let stays : is_dropped cs c Positions ≡ false = positions_stay (has_no_cells cs c) in
    let own : role m u ≡ Positions = positions_role m u s in
    rw (own, stays, s) (ap (λ w. Some (cut_component cs c Positions w)) same))
    (λ s. let rest = find_positions cs c ps t (rw s at e) in
    cut_head cs c m p u ps (λ qs. find positions_name qs ≡ Some (cut_component cs c Positions t)) rest (rw s rest))

-- ---- the cells

connections_role : (m : Option (List ℕ)) (t : Tree) → same_name connections_name m ≡ true → role m t ≡ Connections
connections_role None t s = absurd (cc s)
connections_role (Some n) t s =
    let same : connections_name ≡ n = (bytes_eq-Decides connections_name n).0 s in
    subst (λ k. role (Some k) t ≡ Connections) same refl

find_connections : (cs : List ℕ) (c : Cut) (ps : PartList) (t : Tree) → has_no_cells cs c ≡ false → find connections_name ps ≡ Some t → find connections_name (cut_parts cs c ps) ≡ Some (cut_component cs c Connections t)
find_connections cs c no_parts t h e = absurd (cc e)
find_connections cs c (part m p u ps) t h e =
    by_bool (same_name connections_name m) _
    (λ s. let is : Some u ≡ Some t = rw s at e in
    let same : u ≡ t = cc in
    let own : role m u ≡ Connections = connections_role m u s in
    rw (own, h, s) (ap (λ w. Some (cut_component cs c Connections w)) same))
    (λ s. let rest = find_connections cs c ps t h (rw s at e) in
    cut_head cs c m p u ps (λ qs. find connections_name qs ≡ Some (cut_component cs c Connections t)) rest (rw s rest))

no_connections : (cs : List ℕ) (c : Cut) (ps : PartList) → has_no_cells cs c ≡ true → find connections_name (cut_parts cs c ps) ≡ None
no_connections cs c no_parts h = refl
no_connections cs c (part m p u ps) h =
    let rest = no_connections cs c ps h in
    by_bool (same_name connections_name m) _
    (λ s. let own : role m u ≡ Connections = connections_role m u s in rw (own, h) rest)
    (λ s. cut_head cs c m p u ps (λ qs. find connections_name qs ≡ None) rest (rw s rest))

-- ---- the grid

points_cut : (c : Cut) (k : Class) (cs : List ℕ) → point_counts k ≡ Some cs → point_counts (cut_class c k) ≡ Some (cut_counts cs c)
points_cut c (plain vs) cs e = absurd (cc e)
points_cut c (constant n v) cs e = absurd (cc e)
points_cut c (regular n o d) cs e = absurd (cc e)
points_cut c (grid_positions ks o ds) cs e = let same : ks ≡ cs = cc in ap (λ k. Some (cut_counts k c)) same
points_cut c (grid_connections ks) cs e = absurd (cc e)

points_are_cut : (cs : List ℕ) (c : Cut) (t : Tree) → points_of t ≡ Some cs → points_of (cut_component cs c Positions t) ≡ Some (cut_counts cs c)
points_are_cut cs c (array a xs) e = points_cut c a.class cs e
points_are_cut cs c (text b xs) e = absurd (cc e)
points_are_cut cs c (field ps xs) e = absurd (cc e)
points_are_cut cs c (group ps xs) e = absurd (cc e)
points_are_cut cs c (composite ps xs) e = absurd (cc e)
points_are_cut cs c (series ps xs) e = absurd (cc e)

cells_are_cut : (cs : List ℕ) (c : Cut) (t : Tree) → is_array t ≡ true → cells_of (cut_component cs c Connections t) ≡ Some (joined_counts cs c)
cells_are_cut cs c (array a xs) h = refl
cells_are_cut cs c (text b xs) h = absurd (cc h)
cells_are_cut cs c (field ps xs) h = absurd (cc h)
cells_are_cut cs c (group ps xs) h = absurd (cc h)
cells_are_cut cs c (composite ps xs) h = absurd (cc h)
cells_are_cut cs c (series ps xs) h = absurd (cc h)

joined_by : (ks : List ℕ) (t : Tree) → (length ks == 0) ≡ false → cells_of t ≡ Some ks → are_joined ks (Some t) ≡ true
joined_by [] t h e = absurd (cc h)
joined_by (k ∷ ks) t h e = rw e ((bytes_eq-Decides (k ∷ ks) (k ∷ ks)).1 refl)

joined_none : (ks : List ℕ) → (length ks == 0) ≡ true → are_joined ks None ≡ true
joined_none [] h = refl
joined_none (k ∷ ks) h = let none : length (k ∷ ks) ≡ 0 = eqb-true (length (k ∷ ks)) 0 h in absurd (omega (arith, none))

unjoined : (ks : List ℕ) → are_joined ks None ≡ true → length ks ≡ 0
unjoined [] h = refl
unjoined (k ∷ ks) h = absurd (cc h)

found_array : (n : List ℕ) (ps : PartList) (t : Tree) → all_arrays ps ≡ true → find n ps ≡ Some t → is_array t ≡ true
found_array n no_parts t h e = absurd (cc e)
found_array n (part m p u ps) t h e =
    let hs = and_parts (is_array u) (all_arrays ps) h in
    by_bool (same_name n m) _
    (λ s. let is : Some u ≡ Some t = rw s at e in let same : u ≡ t = cc in subst (λ w. is_array w ≡ true) same hs.0)
    (λ s. found_array n ps t hs.1 (rw s at e))

cells_joined : (cs : List ℕ) (c : Cut) (ps : PartList) → IsCutOf cs c → all_arrays ps ≡ true → are_joined (without_ones cs) (find connections_name ps) ≡ true →
    are_joined (joined_counts cs c) (find connections_name (cut_parts cs c ps)) ≡ true
cells_joined cs c ps cut arrays joined =
    by_bool (has_no_cells cs c) _
    (λ h. rw (no_connections cs c ps h) (joined_none (joined_counts cs c) h))
    (λ h. by_option (find connections_name ps) _
    (λ e. let none : length (without_ones cs) ≡ 0 = unjoined (without_ones cs) (subst (λ v. are_joined (without_ones cs) v ≡ true) e joined) in
    let end = cut.end in
    let few = length_shrinks cs c.dimension (c.thickness + 1) (omega arith) (omega (arith, end)) in
    let empty : length (joined_counts cs c) ≡ 0 = omega (arith, few, none) in
    let clash : true ≡ false = sym (ap (λ n. n == 0) empty) ∙ h in absurd (cc clash))
    (λ t e. rw (find_connections cs c ps t h e) (joined_by (joined_counts cs c) (cut_component cs c Connections t) h (cells_are_cut cs c t (found_array connections_name ps t arrays e)))))

grid_from : (ps xs : PartList) (cs : List ℕ) (points : Tree) → find positions_name ps ≡ Some points → points_of points ≡ Some cs → are_joined (without_ones cs) (find connections_name ps) ≡ true → grid_counts (field ps xs) ≡ Some cs
grid_from ps xs cs points e f j = rw (e, f, j) refl

pub gives_grid : GivesGrid
gives_grid (array a xs) cs c f l e cut = cc
gives_grid (text b xs) cs c f l e cut = cc
gives_grid (group ps xs) cs c f l e cut = cc
gives_grid (composite ps xs) cs c f l e cut = cc
gives_grid (series ps xs) cs c f l e cut = cc
gives_grid (field ps xs) cs c f l e cut =
    let facts = grid_of ps xs cs e in
    grid_from (cut_parts cs c ps) xs (cut_counts cs c) (cut_component cs c Positions facts.0)
    (find_positions cs c ps facts.0 facts.1) (points_are_cut cs c facts.0 facts.2)
    (cells_joined cs c ps cut l.0.components facts.3)
