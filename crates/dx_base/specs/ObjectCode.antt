-- How the logic stores arrays and objects as plain data, which a type with a model has to say of a tree.
use Rattle.std.proofs.Common.{◌≡◌, ℕ, ℤ, List, Option, refl, ap}
use Rattle.std.specs.Coded.{Coded, code_by, coded×, coded_ℕ, coded_ℤ, coded_list, coded_option}
use Rattle.dx_base.specs.contracts.elem.ElemType as elem
use Rattle.dx_base.specs.declared.elem.ElemType.{ElemType}
use Rattle.dx_base.specs.Array.{Class, plain, constant, regular, grid_positions, grid_connections, ArrayData}
use Rattle.dx_base.specs.Object.{Tree, PartList, array, text, field, group, composite, series, no_parts, part}
use base.Stored.{Gv, gnil, gnum, gcons}

abbrev coded_numbers : Coded (List ℤ)
coded_numbers = coded_list coded_ℤ

abbrev coded_bytes : Coded (List ℕ)
coded_bytes = coded_list coded_ℕ

abbrev coded_name : Coded (Option (List ℕ))
coded_name = coded_option coded_bytes

abbrev head : Gv → Gv
head gnil = gnil
head (gnum n) = gnil
head (gcons a b) = a

abbrev tail : Gv → Gv
tail gnil = gnil
tail (gnum n) = gnil
tail (gcons a b) = b

abbrev pub class_code : Class → Gv
class_code (plain vs) = gcons (gnum 0) (coded_numbers.code vs)
class_code (constant n v) = gcons (gnum 1) (gcons (gnum n) (coded_numbers.code v))
class_code (regular n o d) = gcons (gnum 2) (gcons (gnum n) (gcons (coded_numbers.code o) (coded_numbers.code d)))
class_code (grid_positions cs o ds) = gcons (gnum 3) (gcons (coded_bytes.code cs) (gcons (coded_numbers.code o) (coded_numbers.code ds)))
class_code (grid_connections cs) = gcons (gnum 4) (coded_bytes.code cs)

pub class_inj : (x y : Class) → class_code x ≡ class_code y → x ≡ y
class_inj (plain a) (plain b) p = λ i. plain (coded_numbers.inj a b (ap tail p) i)
class_inj (constant m a) (constant n b) p =
    λ i. constant (coded_ℕ.inj m n (ap (λ g. head (tail g)) p) i) (coded_numbers.inj a b (ap (λ g. tail (tail g)) p) i)
class_inj (regular m a c) (regular n b d) p =
    λ i. regular (coded_ℕ.inj m n (ap (λ g. head (tail g)) p) i) (coded_numbers.inj a b (ap (λ g. head (tail (tail g))) p) i) (coded_numbers.inj c d (ap (λ g. tail (tail (tail g))) p) i)
class_inj (grid_positions m a c) (grid_positions n b d) p =
    λ i. grid_positions (coded_bytes.inj m n (ap (λ g. head (tail g)) p) i) (coded_numbers.inj a b (ap (λ g. head (tail (tail g))) p) i) (coded_numbers.inj c d (ap (λ g. tail (tail (tail g))) p) i)
class_inj (grid_connections a) (grid_connections b) p = λ i. grid_connections (coded_bytes.inj a b (ap tail p) i)
class_inj _ _ p = cc

abbrev pub coded_class : Coded Class
coded_class = record { code = class_code; inj = class_inj }

abbrev pub coded_array : Coded ArrayData
coded_array = code_by (ElemType × (List ℕ × Class)) (coded× elem.the_row.coded (coded× coded_bytes coded_class)) (λ a. (a.elem, (a.extents, a.class))) (λ p. record { elem = p.0; extents = p.1.0; class = p.1.1 }) (λ _. refl)

abbrev mutual
  pub tree_code : Tree → Gv
  tree_code (array a xs) = gcons (gnum 0) (gcons (coded_array.code a) (parts_code xs))
  tree_code (text b xs) = gcons (gnum 1) (gcons (coded_bytes.code b) (parts_code xs))
  tree_code (field ps xs) = gcons (gnum 2) (gcons (parts_code ps) (parts_code xs))
  tree_code (group ps xs) = gcons (gnum 3) (gcons (parts_code ps) (parts_code xs))
  tree_code (composite ps xs) = gcons (gnum 5) (gcons (parts_code ps) (parts_code xs))
  tree_code (series ps xs) = gcons (gnum 4) (gcons (parts_code ps) (parts_code xs))

  pub parts_code : PartList → Gv
  parts_code no_parts = gnil
  parts_code (part n p t ps) = gcons (coded_name.code n) (gcons (coded_ℤ.code p) (gcons (tree_code t) (parts_code ps)))

mutual
  pub tree_inj : (x y : Tree) → tree_code x ≡ tree_code y → x ≡ y
  tree_inj (array a xs) (array b ys) p = λ i. array (coded_array.inj a b (ap (λ g. head (tail g)) p) i) (parts_inj xs ys (ap (λ g. tail (tail g)) p) i)
  tree_inj (text a xs) (text b ys) p = λ i. text (coded_bytes.inj a b (ap (λ g. head (tail g)) p) i) (parts_inj xs ys (ap (λ g. tail (tail g)) p) i)
  tree_inj (field a xs) (field b ys) p = λ i. field (parts_inj a b (ap (λ g. head (tail g)) p) i) (parts_inj xs ys (ap (λ g. tail (tail g)) p) i)
  tree_inj (group a xs) (group b ys) p = λ i. group (parts_inj a b (ap (λ g. head (tail g)) p) i) (parts_inj xs ys (ap (λ g. tail (tail g)) p) i)
  tree_inj (composite a xs) (composite b ys) p = λ i. composite (parts_inj a b (ap (λ g. head (tail g)) p) i) (parts_inj xs ys (ap (λ g. tail (tail g)) p) i)
  tree_inj (series a xs) (series b ys) p = λ i. series (parts_inj a b (ap (λ g. head (tail g)) p) i) (parts_inj xs ys (ap (λ g. tail (tail g)) p) i)
  tree_inj _ _ p = cc

  pub parts_inj : (x y : PartList) → parts_code x ≡ parts_code y → x ≡ y
  parts_inj no_parts no_parts p = refl
  parts_inj (part n p t ps) (part m q u qs) e =
      λ i. part (coded_name.inj n m (ap head e) i) (coded_ℤ.inj p q (ap (λ g. head (tail g)) e) i) (tree_inj t u (ap (λ g. head (tail (tail g))) e) i) (parts_inj ps qs (ap (λ g. tail (tail (tail g))) e) i)
  parts_inj _ _ e = cc

abbrev pub coded_tree : Coded Tree
coded_tree = record { code = tree_code; inj = tree_inj }

abbrev pub coded_parts : Coded PartList
coded_parts = record { code = parts_code; inj = parts_inj }
