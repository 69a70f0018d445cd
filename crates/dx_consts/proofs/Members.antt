-- Texts as the members of a group: no maker refuses them.
use Rattle.std.proofs.Common.{◌≡◌, ◌<◌, ℕ, suc, ◌+◌, List, [], ◌∷◌, ◌++◌, length, get_or, drop, true, None, pos, refl, sym, ap, add-one, drop-cons}
use Rattle.dx_base.specs.Object.{PartList, text, no_parts, part, append}
use Rattle.dx_base.specs.ObjectLimits.{differ, unplaced}
use Rattle.dx_ast.specs.Classes.{Text}
use Rattle.dx_ast.specs.Value.{members}
use Rattle.dx_objects.specs.declared.object.Part.{Part}
use Rattle.dx_objects.specs.Shown.{parts_of}

pub unplaced-members : (ts : List Text) → unplaced (members ts) ≡ members ts
unplaced-members [] = refl
unplaced-members (t ∷ ts) = ap (part None (pos 0) (text t no_parts)) (unplaced-members ts)

pub differ-members : (ts : List Text) → differ (members ts) ≡ true
differ-members [] = refl
differ-members (t ∷ ts) = differ-members ts

-- the members from the next text on
pub members-drop : (ts : List Text) (i : ℕ) (t : Text) → i < length ts → t ≡ get_or ts i t → members (drop i ts) ≡ part None (pos 0) (text t no_parts) (members (drop (i + 1) ts))
members-drop ts i t h e = rw (add-one, drop-cons ts i t h) (ap (λ s. part None (pos 0) (text s no_parts) (members (drop (suc i) ts))) (sym e))

-- one part more before others
pub append-pushed : (ps : List Part) (p : Part) (rest : PartList) → append (parts_of (ps ++ p ∷ [])) rest ≡ append (parts_of ps) (part p.name p.position p.object.value rest)
append-pushed [] p rest = refl
append-pushed (q ∷ ps) p rest = ap (part q.name q.position q.object.value) (append-pushed ps p rest)

pub ruleset member_laws = (unplaced-members, differ-members, members-drop, append-pushed)
