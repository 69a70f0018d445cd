-- The names of parts that are meant.
use Rattle.std.proofs.Common.{◌≡◌, ℕ, ℤ, pos, Bool, true, false, List, [], ◌∷◌, Option, Some, None, refl, sym, ap, ◌∙◌}
use Rattle.std.specs.Prelude.{◌&&◌, ◌||◌, cond, is_some, is_none, bytes_eq}
use Rattle.std.specs.List.{list_any}
use Rattle.dx_base.specs.Object.{Tree, PartList, no_parts, part}
use Rattle.dx_base.specs.ObjectNames.{find, same_name}
use Rattle.dx_base.specs.ObjectLimits.{lacks, differ, all_named, none_named, unplaced}
use Rattle.dx_native_grammar.specs.Meaning.{parts_at, given_at, attributes_at}
use Rattle.dx_native_grammar.specs.Names.{part_names, attribute_names, name_before}
use Rattle.dx_native_grammar.specs.declared.clause.Attribute.{Attribute}
use Rattle.dx_native_grammar.specs.declared.clause.ListClass.TheVariants as listing
use Rattle.dx_native_grammar.specs.declared.clause.Part.{Part}
use Rattle.dx_native_meaning.proofs.Somes.{some_is, part_parts}
use Rattle.dx_native_sound.specs.Sound.{Distinct, Every, IsNamedIn}

pub two : (a b : Bool) → a ≡ true → b ≡ true → (a && b) ≡ true
two true b p q = q
two false b p q = absurd cc

neither : (a b : Bool) → (a || b) ≡ false → (a ≡ false) × (b ≡ false)
neither true b p = absurd cc
neither false b p = (refl, p)

-- ---- looking a name up

missed : (n : List ℕ) (m : Option (List ℕ)) (z : ℤ) (t : Tree) (ps : PartList) → same_name n m ≡ false → find n ps ≡ None → find n (part m z t ps) ≡ None
missed n m z t ps e h = ap (λ b. cond b (Some t) (find n ps)) e ∙ h

other_name : (n : List ℕ) (m : Option (List ℕ)) (ns : List (List ℕ)) → list_any (bytes_eq n) (name_before m ns) ≡ false → (same_name n m ≡ false) × (list_any (bytes_eq n) ns ≡ false)
other_name n None ns h = (refl, h)
other_name n (Some m) ns h = neither (bytes_eq n m) (list_any (bytes_eq n) ns) h

parts_lack : (f : List ℕ → Option Tree) (ls : List Part) (ps : PartList) (n : List ℕ) → parts_at f ls ≡ Some ps → list_any (bytes_eq n) (part_names ls) ≡ false → find n ps ≡ None
parts_lack f [] ps n e h = ap (find n) (sym (some_is no_parts ps e))
parts_lack f (l ∷ ls) ps n e h =
    let q = part_parts l.name l.position (f l.target.text) (parts_at f ls) ps e in
    let o = other_name n l.name (part_names ls) h in
    ap (find n) (sym q.4) ∙ missed n l.name l.position q.0 q.1 o.0 (parts_lack f ls q.1 n q.3 o.1)

lacks_by : (f : List ℕ → Option Tree) (ls : List Part) (ps : PartList) (n : Option (List ℕ)) → parts_at f ls ≡ Some ps → Distinct (name_before n (part_names ls)) → (lacks n ps ≡ true) × Distinct (part_names ls)
lacks_by f ls ps None e d = (refl, d)
lacks_by f ls ps (Some n) e d = (ap is_none (parts_lack f ls ps n e d.0), d.1)

pub parts_differ : (f : List ℕ → Option Tree) (ls : List Part) (ps : PartList) → parts_at f ls ≡ Some ps → Distinct (part_names ls) → differ ps ≡ true
parts_differ f [] ps e d = ap differ (sym (some_is no_parts ps e))
parts_differ f (l ∷ ls) ps e d =
    let q = part_parts l.name l.position (f l.target.text) (parts_at f ls) ps e in
    let o = lacks_by f ls q.1 l.name q.3 d in
    ap differ (sym q.4) ∙ two (lacks l.name q.1) (differ q.1) o.0 (parts_differ f ls q.1 q.3 o.1)

pub parts_named : (f : List ℕ → Option Tree) (ls : List Part) (ps : PartList) → parts_at f ls ≡ Some ps → Every (IsNamedIn listing.Field) ls → all_named ps ≡ true
parts_named f [] ps e d = ap all_named (sym (some_is no_parts ps e))
parts_named f (l ∷ ls) ps e d =
    let q = part_parts l.name l.position (f l.target.text) (parts_at f ls) ps e in
    ap all_named (sym q.4) ∙ two (is_some l.name) (all_named q.1) d.0 (parts_named f ls q.1 q.3 d.1)

pub parts_unnamed : (f : List ℕ → Option Tree) (ls : List Part) (ps : PartList) → parts_at f ls ≡ Some ps → Every (IsNamedIn listing.Series) ls → none_named ps ≡ true
parts_unnamed f [] ps e d = ap none_named (sym (some_is no_parts ps e))
parts_unnamed f (l ∷ ls) ps e d =
    let q = part_parts l.name l.position (f l.target.text) (parts_at f ls) ps e in
    ap none_named (sym q.4) ∙ two (is_none l.name) (none_named q.1) d.0 (parts_unnamed f ls q.1 q.3 d.1)

-- ---- attributes

attributes_lack : (k : ℕ) (f : List ℕ → Option Tree) (xs : List Attribute) (ps : PartList) (n : List ℕ) → attributes_at k f xs ≡ Some ps → list_any (bytes_eq n) (attribute_names xs) ≡ false → find n ps ≡ None
attributes_lack k f [] ps n e h = ap (find n) (sym (some_is no_parts ps e))
attributes_lack k f (x ∷ xs) ps n e h =
    let q = part_parts (Some x.name) (pos 0) (given_at k f x.value) (attributes_at k f xs) ps e in
    let o = neither (bytes_eq n x.name) (list_any (bytes_eq n) (attribute_names xs)) h in
    ap (find n) (sym q.4) ∙ missed n (Some x.name) (pos 0) q.0 q.1 o.0 (attributes_lack k f xs q.1 n q.3 o.1)

pub attributes_differ : (k : ℕ) (f : List ℕ → Option Tree) (xs : List Attribute) (ps : PartList) → attributes_at k f xs ≡ Some ps → Distinct (attribute_names xs) → differ ps ≡ true
attributes_differ k f [] ps e d = ap differ (sym (some_is no_parts ps e))
attributes_differ k f (x ∷ xs) ps e d =
    let q = part_parts (Some x.name) (pos 0) (given_at k f x.value) (attributes_at k f xs) ps e in
    ap differ (sym q.4) ∙ two (lacks (Some x.name) q.1) (differ q.1) (ap is_none (attributes_lack k f xs q.1 x.name q.3 d.0)) (attributes_differ k f xs q.1 q.3 d.1)

pub attributes_named : (k : ℕ) (f : List ℕ → Option Tree) (xs : List Attribute) (ps : PartList) → attributes_at k f xs ≡ Some ps → all_named ps ≡ true
attributes_named k f [] ps e = ap all_named (sym (some_is no_parts ps e))
attributes_named k f (x ∷ xs) ps e =
    let q = part_parts (Some x.name) (pos 0) (given_at k f x.value) (attributes_at k f xs) ps e in
    ap all_named (sym q.4) ∙ attributes_named k f xs q.1 q.3

-- ---- parts without positions

find_unplaced : (n : List ℕ) (ps : PartList) → find n (unplaced ps) ≡ find n ps
find_unplaced n no_parts = refl
find_unplaced n (part m z t ps) = ap (λ o. cond (same_name n m) (Some t) o) (find_unplaced n ps)

lacks_unplaced : (n : Option (List ℕ)) (ps : PartList) → lacks n (unplaced ps) ≡ lacks n ps
lacks_unplaced None ps = refl
lacks_unplaced (Some n) ps = ap is_none (find_unplaced n ps)

pub differ_unplaced : (ps : PartList) → differ (unplaced ps) ≡ differ ps
differ_unplaced no_parts = refl
differ_unplaced (part n z t ps) = ap (λ b. b && differ (unplaced ps)) (lacks_unplaced n ps) ∙ ap (λ b. lacks n ps && b) (differ_unplaced ps)

pub named_unplaced : (ps : PartList) → all_named (unplaced ps) ≡ all_named ps
named_unplaced no_parts = refl
named_unplaced (part n z t ps) = ap (λ b. is_some n && b) (named_unplaced ps)
