use Rattle.std.proofs.Common.{◌≡◌, ◌+◌, ◌-◌, ◌<◌, ◌≤◌, List, ◌∷◌, [], length, get_or, take, drop, length-drop, arith, refl, sym, ap, ◌∙◌}
use Rattle.std.proofs.Math.ListN.{drop_of_length-le}
use Rattle.std.proofs.lemmas.List.{take_all}
use Rattle.std.specs.declared.rc.Rc.{Rc}
use Rattle.std.specs.declared.alloc.Global.{Global}
use Rattle.dx_base.specs.Object.{Tree, PartList, part, no_parts, append}
use Rattle.dx_base.specs.ObjectMembers.{placed}
use Rattle.dx_objects.specs.Members.{trees}
use Rattle.dx_objects.specs.Shown.{parts_of}
use Rattle.dx_objects.specs.declared.object.Part.{Part}
use Rattle.dx_objects.proofs.PartsLaws.{append-no_parts, append_assoc, parts_of-drop}
use Rattle.dx_objects.proofs.object.NamedParts.placed.Goals as goal
use Rattle.dx_objects.proofs.object.NamedParts.placed.Goals.{in_default+in_ok-push_copy, in-len1-up+in_ok-push_copy_with}

none_given : (ps : PartList) → placed ps [] ≡ ps
none_given no_parts = refl
none_given (part n p t ps) = refl

-- the next part keeps its object where none is given
own_kept : (copy whole all : PartList) (p : Part) (rest : PartList) (given : List (Rc Tree Global)) → length given < 1 → whole ≡ part p.name p.position p.object.value rest → append copy (placed whole (trees given)) ≡ all →
    append (append copy (part p.name p.position p.object.value no_parts)) (placed rest (trees given)) ≡ all
own_kept copy whole all p rest [] h e k =
    let now : append copy (part p.name p.position p.object.value rest) ≡ all = rw e at k in
    rw (none_given rest) (append_assoc copy (part p.name p.position p.object.value no_parts) rest ∙ now)
own_kept copy whole all p rest (o ∷ given) h e k = absurd (omega (arith, h))

-- the next part has the next object
next_put : (copy whole all : PartList) (p : Part) (rest : PartList) (given : List (Rc Tree Global)) (o : Rc Tree Global) → 1 ≤ length given → o ≡ get_or given 0 o → whole ≡ part p.name p.position p.object.value rest → append copy (placed whole (trees given)) ≡ all →
    append (append copy (part p.name p.position o.value no_parts)) (placed rest (trees (drop 1 given))) ≡ all
next_put copy whole all p rest [] o h i e k = absurd (omega (arith, h))
next_put copy whole all p rest (x ∷ given) o h i e k =
    let now : append copy (part p.name p.position x.value (placed rest (trees given))) ≡ all = rw e at k in
    rw i (append_assoc copy (part p.name p.position x.value no_parts) (placed rest (trees given)) ∙ now)

pub loop-part-preserved : goal.loop-part-preserved
loop-part-preserved c =
    let i = c.loop-part.part-index in
    let ps = c.deref-part-items.result.now in
    let p = c.part-item.result in
    let rest = parts_of (drop (i + 1) ps) in
    let given = c.loop-part.rest.now in
    let next : parts_of (drop i ps) ≡ part p.name p.position p.object.value rest = parts_of-drop ps i p (omega arith) c.part-item.is in
    elim c.if-rest-lt1.branch [
      | in_default+in_ok-push_copy w ↦
          let copied : c.if-rest-lt1.copy ≡ append c.loop-part.copy (part p.name p.position p.object.value no_parts) = w.copy-is ∙ w.in_ok-push_copy.ensures in
          let left : c.if-rest-lt1.rest.now ≡ given = cc w.rest-is in
          rw (copied, left) (own_kept c.loop-part.copy (parts_of (drop i ps)) _ p rest given w.in_default.len_below next c.loop-part.invariant)
      | in-len1-up+in_ok-push_copy_with w ↦
          let o = w.object-item.result in
          let copied : c.if-rest-lt1.copy ≡ append c.loop-part.copy (part p.name p.position o.value no_parts) = w.copy-is ∙ w.in_ok-push_copy_with.ensures in
          let left : c.if-rest-lt1.rest.now ≡ take (length given - 1) (drop 1 given) = ap (λ r. r.now) w.rest-is in
          let all_left : take (length given - 1) (drop 1 given) ≡ drop 1 given = take_all (length given - 1) (drop 1 given) (simp length-drop (omega arith)) in
          rw (copied, left, all_left) (next_put c.loop-part.copy (parts_of (drop i ps)) _ p rest given o w.in-len1-up.len_at_least w.object-item.is next c.loop-part.invariant)
    ]

pub returns : goal.returns
returns c =
    let past : drop c.loop-part.part-index c.deref-part-items.result.now ≡ [] = drop_of_length-le c.deref-part-items.result.now {i = c.loop-part.part-index} (omega arith) in
    let all = rw past at c.loop-part.invariant in
    sym (append-no_parts c.loop-part.copy) ∙ all
