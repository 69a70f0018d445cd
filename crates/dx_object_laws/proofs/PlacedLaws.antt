-- Members that are replaced, one after the other: names, and positions that are taken away.
use Rattle.std.proofs.Common.{◌≡◌, pos, ℕ, List, [], ◌∷◌, Option, Some, None, true, ◌&&◌, refl, ap, ◌∙◌}
use Rattle.std.specs.Prelude.{is_none}
use Rattle.dx_base.specs.Object.{Tree, PartList, group, series, no_parts, part}
use Rattle.dx_base.specs.ObjectNames.{same_name, find}
use Rattle.dx_base.specs.ObjectLimits.{lacks, differ, none_named, all_fields, is_field, has_good_names, unplaced}
use Rattle.dx_base.specs.ObjectMembers.{placed}
use Rattle.dx_object_laws.proofs.PutLaws.{by_bool}

pub unplaced_fields : (ps : PartList) → all_fields (unplaced ps) ≡ all_fields ps
unplaced_fields no_parts = refl
unplaced_fields (part n p t ps) = ap (λ b. is_field t && b) (unplaced_fields ps)

-- names stay where objects are replaced and positions taken away
find-placed : (m : List ℕ) (ps : PartList) (ts : List Tree) → is_none (find m (placed ps ts)) ≡ is_none (find m ps)
find-placed m no_parts ts = refl
find-placed m (part n p t ps) [] = refl
find-placed m (part n p t ps) (u ∷ ts) = by_bool (same_name m n) _ (λ e. rw e refl) (λ e. rw e (find-placed m ps ts))

lacks-placed : (n : Option (List ℕ)) (ps : PartList) (ts : List Tree) → lacks n (placed ps ts) ≡ lacks n ps
lacks-placed None ps ts = refl
lacks-placed (Some m) ps ts = find-placed m ps ts

differ-placed : (ps : PartList) (ts : List Tree) → differ (placed ps ts) ≡ differ ps
differ-placed no_parts ts = refl
differ-placed (part n p t ps) [] = refl
differ-placed (part n p t ps) (u ∷ ts) = rw (lacks-placed n ps ts, differ-placed ps ts) refl

none_named-placed : (ps : PartList) (ts : List Tree) → none_named (placed ps ts) ≡ none_named ps
none_named-placed no_parts ts = refl
none_named-placed (part n p t ps) [] = refl
none_named-placed (part n p t ps) (u ∷ ts) = rw (none_named-placed ps ts) refl

unplaced-placed : (ps : PartList) (ts : List Tree) → unplaced (placed ps ts) ≡ placed (unplaced ps) ts
unplaced-placed no_parts ts = refl
unplaced-placed (part n p t ps) [] = refl
unplaced-placed (part n p t ps) (u ∷ ts) = ap (part n (pos 0) u) (unplaced-placed ps ts)

-- members without positions have none when they are replaced
pub stays : (ps : PartList) (ts : List Tree) → unplaced ps ≡ ps → unplaced (placed ps ts) ≡ placed ps ts
stays ps ts h = unplaced-placed ps ts ∙ ap (λ qs. placed qs ts) h

-- the names of a group, and of a series, are still good
pub group_names : (ps xs : PartList) (ts : List Tree) → has_good_names (group ps xs) ≡ true → has_good_names (group (placed ps ts) xs) ≡ true
group_names ps xs ts h = rw (differ-placed ps ts) h

pub series_names : (ps xs : PartList) (ts : List Tree) → has_good_names (series ps xs) ≡ true → has_good_names (series (placed ps ts) xs) ≡ true
series_names ps xs ts h = rw (none_named-placed ps ts) h
