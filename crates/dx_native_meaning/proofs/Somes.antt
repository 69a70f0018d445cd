-- Parts and objects that are meant, taken apart.
use Rattle.std.proofs.Common.{◌≡◌, ℕ, ℤ, List, Option, Some, None, refl}
use Rattle.dx_base.specs.Object.{Tree, PartList, part}
use Rattle.dx_native_grammar.specs.Meaning.{with_part, listed_tree, listed_at}
use Rattle.dx_native_grammar.specs.declared.clause.ListClass.{ListClass}

abbrev some : {X : Type 0} → X → Option X
some x = Some x

pub some_is : {X : Type 0} (x y : X) → some x ≡ some y → x ≡ y
some_is x y e = cc

-- a list of parts that stands has its first part and its rest
pub part_parts : (n : Option (List ℕ)) (z : ℤ) (o : Option Tree) (p : Option PartList) (ps : PartList) → with_part n z o p ≡ Some ps
    → (t : Tree) × (qs : PartList) × (o ≡ Some t) × (p ≡ Some qs) × (part n z t qs ≡ ps)
part_parts n z None p ps e = absurd cc
part_parts n z (Some t) None ps e = absurd cc
part_parts n z (Some t) (Some qs) ps e = (t, qs, refl, refl, some_is (part n z t qs) ps e)

pub listed_parts : (k : ListClass) (p : Option PartList) (xs : PartList) (t : Tree) → listed_at k p xs ≡ Some t
    → (ps : PartList) × (p ≡ Some ps) × (listed_tree k ps xs ≡ t)
listed_parts k None xs t e = absurd cc
listed_parts k (Some ps) xs t e = (ps, refl, some_is (listed_tree k ps xs) t e)
