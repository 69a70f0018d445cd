-- The components of a field that is a grid are what their roles say.
use Rattle.std.proofs.Common.{◌≡◌, ℕ, ◌<◌, ◌≤◌, List, [], ◌∷◌, length, true, false, ◌&&◌, Option, Some, None, refl, sym, ap, subst, ◌∙◌, arith}
use Rattle.std.specs.Prelude.{nat_le, ◌==◌, bytes_eq}
use Rattle.std.specs.List.{All, list_all}
use Rattle.std.proofs.lemmas.Bool.{and_parts, eqb-true, leb-true}
use Rattle.std.proofs.lemmas.List.Elements.{All-cons}
use Rattle.std.proofs.lemmas.Slice.Eq.{bytes_eq-Decides}
use Rattle.dx_base.specs.Array.{ArrayData, Class, plain, constant, regular, grid_positions, grid_connections, items, items_of, product, cells}
use Rattle.dx_base.specs.ArrayLimits.{has_grid, is_shape}
use Rattle.dx_base.specs.Object.{Tree, PartList, array, text, field, group, composite, series, no_parts, part}
use Rattle.dx_base.specs.ObjectLimits.{IsLawful, AreLawful, is_array, all_arrays, differ, lacks}
use Rattle.dx_base.specs.ObjectNames.{same_name, find}
use Rattle.dx_fields.specs.declared.check.FieldFault.{FieldFault}
use Rattle.dx_fields.specs.declared.check.FieldFault.TheVariants.{CountMismatch}
use Rattle.dx_fields.specs.Faults.{first_fault, component_fault, dep_fault, ref_fault, earlier}
use Rattle.dx_fields.specs.Grids.{positions_name, connections_name, point_counts, cell_counts, points_of, cells_of, without_ones, are_counts, are_joined}
use Rattle.dx_fields.specs.References.{dep_name, ref_name, target, item_count}
use Rattle.dx_objects.specs.Kinds.{text_of}
use Rattle.dx_object_laws.proofs.PutLaws.{by_bool}
use Rattle.dx_slab.specs.Components.{data_name, dependence, role_by, role}
use Rattle.dx_slab.specs.Cuts.{cell_extents}
use Rattle.dx_slab.specs.Inputs.{has_data_for}
use Rattle.dx_slab.specs.Lawful.{AreCounts, PlaysRole, PlayRoles}
use Rattle.dx_slab.proofs.Entire.{none_of}
use Rattle.dx_slab.proofs.Gathering.{itemed}
use Rattle.dx_slab.proofs.Joining.{cells_product}
use Rattle.dx_slab.proofs.Shifting.{points_are}

pub by_option : {A : Type 0} (o : Option A) (P : Type 0) → (o ≡ None → P) → ((a : A) → o ≡ Some a → P) → P
by_option None P f g = f refl
by_option (Some a) P f g = g a refl

-- ---- points and cells

points_items_by : (w : ℕ) (c : Class) (cs : List ℕ) → point_counts c ≡ Some cs → items_of w c ≡ product cs
points_items_by w (plain vs) cs e = absurd (cc e)
points_items_by w (constant n v) cs e = absurd (cc e)
points_items_by w (regular n o d) cs e = absurd (cc e)
points_items_by w (grid_positions ks o ds) cs e = let same : ks ≡ cs = cc in ap product same
points_items_by w (grid_connections ks) cs e = absurd (cc e)

points_items : (t : Tree) (cs : List ℕ) → points_of t ≡ Some cs → item_count t ≡ product cs
points_items (array a xs) cs e = points_items_by _ a.class cs e
points_items (text b xs) cs e = absurd (cc e)
points_items (field ps xs) cs e = absurd (cc e)
points_items (group ps xs) cs e = absurd (cc e)
points_items (composite ps xs) cs e = absurd (cc e)
points_items (series ps xs) cs e = absurd (cc e)

cells_items_by : (w : ℕ) (c : Class) (ks : List ℕ) → cell_counts c ≡ Some ks → items_of w c ≡ product (cells ks)
cells_items_by w (plain vs) cs e = absurd (cc e)
cells_items_by w (constant n v) cs e = absurd (cc e)
cells_items_by w (regular n o d) cs e = absurd (cc e)
cells_items_by w (grid_positions ks o ds) cs e = absurd (cc e)
cells_items_by w (grid_connections ks) cs e = let same : ks ≡ cs = cc in ap (λ n. product (cells n)) same

cells_items : (t : Tree) (ks : List ℕ) → cells_of t ≡ Some ks → item_count t ≡ product (cells ks)
cells_items (array a xs) cs e = cells_items_by _ a.class cs e
cells_items (text b xs) cs e = absurd (cc e)
cells_items (field ps xs) cs e = absurd (cc e)
cells_items (group ps xs) cs e = absurd (cc e)
cells_items (composite ps xs) cs e = absurd (cc e)
cells_items (series ps xs) cs e = absurd (cc e)

counted : (ks : List ℕ) (o : Option (List ℕ)) → are_counts ks o ≡ true → o ≡ Some ks
counted ks None h = absurd (cc h)
counted ks (Some ds) h = ap (λ l. Some l) (sym ((bytes_eq-Decides ks ds).0 h))

joined_cells : (ks : List ℕ) (t : Tree) → are_joined ks (Some t) ≡ true → cells_of t ≡ Some ks
joined_cells [] t h = absurd (cc h)
joined_cells (k ∷ ks) t h = counted (k ∷ ks) (cells_of t) h

-- the counts of the points of an array that can be made
counts_by : (c : Class) (cs : List ℕ) → has_grid c ≡ true → point_counts c ≡ Some cs → (list_all (λ c. nat_le 1 c) cs ≡ true) × (length cs ≤ 3)
counts_by (plain vs) cs h e = absurd (cc e)
counts_by (constant n v) cs h e = absurd (cc e)
counts_by (regular n o d) cs h e = absurd (cc e)
counts_by (grid_positions ks o ds) cs h e =
    let same : ks ≡ cs = cc in
    let both = and_parts (nat_le 1 (length ks) && nat_le (length ks) 3) (list_all (λ c. nat_le 1 c) ks) h in
    let few = (and_parts (nat_le 1 (length ks)) (nat_le (length ks) 3) both.0).1 in
    (subst (λ l. list_all (λ c. nat_le 1 c) l ≡ true) same both.1, leb-true (length cs) 3 (subst (λ l. nat_le (length l) 3 ≡ true) same few))
counts_by (grid_connections ks) cs h e = absurd (cc e)

all_some : (cs : List ℕ) → list_all (λ c. nat_le 1 c) cs ≡ true → All (λ c. 0 < c) cs
all_some [] h = λ k d l. absurd (omega arith)
all_some (c ∷ cs) h =
    let hs = and_parts (nat_le 1 c) (list_all (λ c. nat_le 1 c) cs) h in
    All-cons (λ c. 0 < c) c cs (leb-true 1 c hs.0) (all_some cs hs.1)

pub are_counts_of : (t : Tree) (cs : List ℕ) → IsLawful t → points_of t ≡ Some cs → AreCounts cs
are_counts_of (array a xs) cs l e =
    let is = points_are a cs l.0 e in
    let both = counts_by a.class cs (and_parts (is_shape a.extents) (has_grid a.class) l.0.shape).1 e in
    let most = itemed a l.0 in
    record { some = all_some cs both.0; few = (let n = is.items in omega (arith, most, n)); dimensions = both.1 }
are_counts_of (text b xs) cs l e = absurd (cc e)
are_counts_of (field ps xs) cs l e = absurd (cc e)
are_counts_of (group ps xs) cs l e = absurd (cc e)
are_counts_of (composite ps xs) cs l e = absurd (cc e)
are_counts_of (series ps xs) cs l e = absurd (cc e)

-- ---- what a name finds

pub found_lawful : (n : List ℕ) (ps : PartList) (t : Tree) → AreLawful ps → find n ps ≡ Some t → IsLawful t
found_lawful n no_parts t l e = absurd (cc e)
found_lawful n (part m p u ps) t l e =
    by_bool (same_name n m) _
    (λ s. let is : Some u ≡ Some t = rw s at e in let same : u ≡ t = cc in subst IsLawful same l.2)
    (λ s. found_lawful n ps t l.3 (rw s at e))

-- each part of this name is what the name finds
abbrev pub IsFound : List ℕ → Option Tree → PartList → Type 0
IsFound n v no_parts = Unit {0}
IsFound n v (part m p t ps) = (same_name n m ≡ true → v ≡ Some t) × IsFound n v ps

not_found : (n : List ℕ) (v : Option Tree) (ps : PartList) → find n ps ≡ None → IsFound n v ps
not_found n v no_parts e = tt
not_found n v (part m p t ps) e =
    by_bool (same_name n m) _
    (λ s. let is : Some t ≡ None = rw s at e in absurd (cc is))
    (λ s. (λ k. let clash : true ≡ false = sym k ∙ s in absurd (cc clash), not_found n v ps (rw s at e)))

alone : (n : List ℕ) (m : Option (List ℕ)) (ps : PartList) → lacks m ps ≡ true → same_name n m ≡ true → find n ps ≡ None
alone n None ps l s = absurd (cc s)
alone n (Some m) ps l s = let same : n ≡ m = (bytes_eq-Decides n m).0 s in ap (λ k. find k ps) same ∙ none_of (find m ps) l

pub is_found : (n : List ℕ) (ps : PartList) → differ ps ≡ true → IsFound n (find n ps) ps
is_found n no_parts d = tt
is_found n (part m p t ps) d =
    let ds = and_parts (lacks m ps) (differ ps) d in
    by_bool (same_name n m) _
    (λ s. let own : find n (part m p t ps) ≡ Some t = rw s refl in subst (λ v. IsFound n v (part m p t ps)) (sym own) (λ k. refl, not_found n (Some t) ps (alone n m ps ds.0 s)))
    (λ s. let own : find n (part m p t ps) ≡ find n ps = rw s refl in subst (λ v. IsFound n v (part m p t ps)) (sym own) (λ k. let clash : true ≡ false = sym k ∙ s in absurd (cc clash), is_found n ps ds.1))

-- ---- faults that there are not

first_none : (a b : Option FieldFault) → earlier a b ≡ None → (a ≡ None) × (b ≡ None)
first_none None b e = (refl, e)
first_none (Some f) b e = absurd (cc e)

-- what a component depends on has as many items
depends_by : (a : ArrayData) (o : Option Tree) → dep_fault a (Some o) ≡ None → (t : Tree) × (o ≡ Some t) × (items a ≡ item_count t)
depends_by a None e = absurd (cc e)
depends_by a (Some t) e =
    by_bool (items a == item_count t) _
    (λ s. (t, refl, eqb-true (items a) (item_count t) s))
    (λ s. absurd (let is : dep_fault a (Some (Some t)) ≡ Some (CountMismatch (items a) (item_count t)) = rw s refl in let clash : None ≡ Some (CountMismatch (items a) (item_count t)) = sym e ∙ is in cc))

-- ---- the roles

-- what is known of a field that is a grid
pub record IsGridOf (ps xs : PartList) (cs : List ℕ) : Type 0 where
  pub points : Tree
  pub found : find positions_name ps ≡ Some points
  pub counts : points_of points ≡ Some cs
  pub joined : are_joined (without_ones cs) (find connections_name ps) ≡ true
  pub fits : has_data_for (find data_name ps) (find positions_name ps) ≡ true

module _ (ps xs : PartList) (cs : List ℕ) (g : IsGridOf ps xs cs) where
  on_points : (t : Tree) → item_count t ≡ item_count g.points → item_count t ≡ product cs
  on_points t e = e ∙ points_items g.points cs g.counts

  on_cells : (c : Tree) → find connections_name ps ≡ Some c → item_count c ≡ product (cell_extents cs)
  on_cells c e =
      let joined : are_joined (without_ones cs) (Some c) ≡ true = subst (λ v. are_joined (without_ones cs) v ≡ true) e g.joined in
      cells_items c (without_ones cs) (joined_cells (without_ones cs) c joined) ∙ cells_product cs

  -- a component that depends on the one of a name
  by_name : (a : ArrayData) (zs : PartList) (n : List ℕ) → dep_fault a (Some (find n ps)) ≡ None → PlaysRole cs (role_by (Some n)) (array a zs)
  by_name a zs n e =
      let at = depends_by a (find n ps) e in
      by_bool (bytes_eq positions_name n) _
      (λ s. let same : positions_name ≡ n = (bytes_eq-Decides positions_name n).0 s in
      let there : Some g.points ≡ Some at.0 = sym g.found ∙ ap (λ k. find k ps) same ∙ at.1 in
      let target_is : g.points ≡ at.0 = cc in
      let own : item_count (array a zs) ≡ product cs = on_points (array a zs) (at.2 ∙ ap item_count (sym target_is)) in
      rw s own)
      (λ s. by_bool (bytes_eq connections_name n) _
      (λ r. let same : connections_name ≡ n = (bytes_eq-Decides connections_name n).0 r in
      let own : item_count (array a zs) ≡ product (cell_extents cs) = at.2 ∙ on_cells at.0 (ap (λ k. find k ps) same ∙ at.1) in
      rw (s, r) own)
      (λ r. rw (s, r) tt))

  by_text : (a : ArrayData) (zs : PartList) (value : Tree) (b : Option (List ℕ)) → text_of value ≡ b → dep_fault a (target (Some value) (field ps xs)) ≡ None → PlaysRole cs (role_by b) (array a zs)
  by_text a zs value None e h = tt
  by_text a zs value (Some n) e h = by_name a zs n (rw e at h)

  by_dep : (a : ArrayData) (zs : PartList) (n : Option (List ℕ)) (dep : Option Tree) → find dep_name zs ≡ dep → (same_name data_name n ≡ true → find data_name ps ≡ Some (array a zs)) → dep_fault a (target dep (field ps xs)) ≡ None →
      PlaysRole cs (role_by (dependence n dep)) (array a zs)
  by_dep a zs n (Some value) is found h = by_text a zs value (text_of value) refl h
  by_dep a zs n None is found h =
      by_bool (same_name data_name n) _
      (λ s.
      let fits : has_data_for (Some (array a zs)) (Some g.points) ≡ true = rw (found s, g.found) at g.fits in
      let alike : (items a == item_count g.points) ≡ true = rw is at fits in
      let own : item_count (array a zs) ≡ product cs = on_points (array a zs) (eqb-true (items a) (item_count g.points) alike) in
      rw s own)
      (λ s. rw s tt)

  plays_one : (n : Option (List ℕ)) (t : Tree) → is_array t ≡ true → component_fault t (field ps xs) ≡ None →
      (same_name positions_name n ≡ true → find positions_name ps ≡ Some t) → (same_name connections_name n ≡ true → find connections_name ps ≡ Some t) → (same_name data_name n ≡ true → find data_name ps ≡ Some t) →
      PlaysRole cs (role n t) t
  plays_one n (text b zs) h f p q r = absurd (cc h)
  plays_one n (field rs zs) h f p q r = absurd (cc h)
  plays_one n (group rs zs) h f p q r = absurd (cc h)
  plays_one n (composite rs zs) h f p q r = absurd (cc h)
  plays_one n (series rs zs) h f p q r = absurd (cc h)
  plays_one n (array a zs) h f p q r =
      by_bool (same_name positions_name n) _
      (λ s. let there : Some g.points ≡ Some (array a zs) = sym g.found ∙ p s in
      let same : g.points ≡ array a zs = cc in
      let own : points_of (array a zs) ≡ Some cs = ap points_of (sym same) ∙ g.counts in
      rw s own)
      (λ s. by_bool (same_name connections_name n) _
      (λ k. let joined : are_joined (without_ones cs) (Some (array a zs)) ≡ true = subst (λ v. are_joined (without_ones cs) v ≡ true) (q k) g.joined in
      let own : cells_of (array a zs) ≡ Some (without_ones cs) = joined_cells (without_ones cs) (array a zs) joined in
      rw (s, k) own)
      (λ k. let none = first_none (dep_fault a (target (find dep_name zs) (field ps xs))) (ref_fault a (target (find ref_name zs) (field ps xs))) f in
      let own = by_dep a zs n (find dep_name zs) refl r none.0 in
      rw (s, k) own))

  pub plays : (qs : PartList) → all_arrays qs ≡ true → first_fault qs (field ps xs) ≡ None →
      IsFound positions_name (find positions_name ps) qs → IsFound connections_name (find connections_name ps) qs → IsFound data_name (find data_name ps) qs → PlayRoles cs qs
  plays no_parts a f p q r = tt
  plays (part n at t qs) a f p q r =
      let arrays = and_parts (is_array t) (all_arrays qs) a in
      let fs = first_none (component_fault t (field ps xs)) (first_fault qs (field ps xs)) f in
      (plays_one n t arrays.0 fs.0 p.0 q.0 r.0, plays qs arrays.1 fs.1 p.1 q.1 r.1)
