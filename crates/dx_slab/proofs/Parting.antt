-- The components of a slab, one after the other.
use Rattle.std.proofs.Common.{◌≡◌, ℕ, ◌+◌, ◌<◌, ℤ, List, length, get_or, drop, true, false, Option, Some, Err, sym, ap, subst, ◌∙◌}
use Rattle.dx_base.specs.Array.{ArrayData}
use Rattle.dx_base.specs.Object.{Tree, PartList, array, text, field, group, composite, series, part, append}
use Rattle.dx_objects.specs.Kinds.{array_of}
use Rattle.dx_objects.specs.Shown.{parts_of}
use Rattle.dx_objects.specs.declared.object.Part.{Part}
use Rattle.dx_objects.specs.declared.run_fail.RunFail.{RunFail}
use Rattle.dx_objects.specs.declared.run_fail.RunFail.TheVariants as fail
use Rattle.dx_objects.proofs.PartsLaws.{append_assoc, append-no_parts, parts_of-drop}
use Rattle.dx_slab.specs.Components.{role, is_of_cells, has_no_cells, cut_array, cut_component, cut_part, cut_parts}
use Rattle.dx_slab.specs.Gives.{GivesArray, GivesShared, GivesParts, Grows, all_fit}
use Rattle.dx_slab.specs.Lawful.{PlaysRole, PlayRoles}
use Rattle.dx_slab.specs.declared.cut.Cut.{Cut}
use Rattle.dx_slab.specs.declared.role.Role.{Role}
use Rattle.dx_slab.proofs.Fitting.{passed_array, all_fit-append_left, all_fit-append_right}

pub passed_component : (cs : List ℕ) (c : Cut) (r : Role) (t : Tree) (a : ArrayData) (e : RunFail) → array_of t ≡ Some a → GivesArray (cut_array cs c r a) (Err e) → GivesShared (cut_component cs c r t) (Err e)
passed_component cs c r (array b xs) a e is h =
    let same : b ≡ a = cc in
    passed_array (cut_array cs c r b) xs e (subst (λ k. GivesArray (cut_array cs c r k) (Err e)) (sym same) h)
passed_component cs c r (text b xs) a e is h = absurd (cc is)
passed_component cs c r (field ps xs) a e is h = absurd (cc is)
passed_component cs c r (group ps xs) a e is h = absurd (cc is)
passed_component cs c r (composite ps xs) a e is h = absurd (cc is)
passed_component cs c r (series ps xs) a e is h = absurd (cc is)

pub dropped : (cs : List ℕ) (c : Cut) (n : Option (List ℕ)) (p : ℤ) (t : Tree) (own : PartList) → has_no_cells cs c ≡ true → is_of_cells (role n t) ≡ true → own ≡ append own (cut_part cs c n p t)
dropped cs c n p t own h k = rw (h, k) (sym (append-no_parts own))

here : (ps : List Part) (i : ℕ) (p : Part) → i < length ps → p ≡ get_or ps i p → parts_of (drop i ps) ≡ part p.name p.position p.object.value (parts_of (drop (i + 1) ps))
here ps i p h e = parts_of-drop ps i p h e

pub roles_step : (cs : List ℕ) (ps : List Part) (i : ℕ) (p : Part) → i < length ps → p ≡ get_or ps i p → PlayRoles cs (parts_of (drop i ps)) →
    PlaysRole cs (role p.name p.object.value) p.object.value × PlayRoles cs (parts_of (drop (i + 1) ps))
roles_step cs ps i p h e r = subst (PlayRoles cs) (here ps i p h e) r

pub cut_step : (cs : List ℕ) (c : Cut) (ps : List Part) (i : ℕ) (p : Part) (old new all : PartList) → i < length ps → p ≡ get_or ps i p →
    new ≡ append old (cut_part cs c p.name p.position p.object.value) → append old (cut_parts cs c (parts_of (drop i ps))) ≡ all → append new (cut_parts cs c (parts_of (drop (i + 1) ps))) ≡ all
cut_step cs c ps i p old new all h e grown so_far =
    ap (λ xs. append xs (cut_parts cs c (parts_of (drop (i + 1) ps)))) grown
    ∙ append_assoc old (cut_part cs c p.name p.position p.object.value) (cut_parts cs c (parts_of (drop (i + 1) ps)))
    ∙ ap (λ qs. append old (cut_parts cs c qs)) (sym (here ps i p h e))
    ∙ so_far

pub cut_stops : (cs : List ℕ) (c : Cut) (ps : List Part) (i : ℕ) (p : Part) (old new all : PartList) (e : RunFail) → i < length ps → p ≡ get_or ps i p →
    Grows (cut_part cs c p.name p.position p.object.value) old new (Err e) → append old (cut_parts cs c (parts_of (drop i ps))) ≡ all → GivesParts all (Err e)
cut_stops cs c ps i p old new all (fail.Code code) h is grown so_far =
    let rest : all_fit (cut_parts cs c (parts_of (drop i ps))) ≡ false =
    ap (λ qs. all_fit (cut_parts cs c qs)) (here ps i p h is) ∙ all_fit-append_left (cut_part cs c p.name p.position p.object.value) (cut_parts cs c (parts_of (drop (i + 1) ps))) grown.1 in
    (grown.0, ap all_fit (sym so_far) ∙ all_fit-append_right old (cut_parts cs c (parts_of (drop i ps))) rest)
cut_stops cs c ps i p old new all fail.Memory h is grown so_far = tt
