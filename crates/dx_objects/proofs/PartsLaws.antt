-- Parts in lists and in trees.
use Rattle.std.proofs.Common.{◌≡◌, ℕ, zero, suc, ◌+◌, ◌<◌, List, [], ◌∷◌, ◌++◌, length, get_or, take, drop, set, pos, ◌≤◌, ◌∙◌, refl, sym, ap, add-one, drop-cons, append-nil, arith}
use Rattle.std.specs.List.{range_with_len}
use Rattle.std.proofs.lemmas.List.{take_more_set, drop-set-lt, take-append-drop}
use Rattle.std.proofs.Math.ListN.{drop_of_length-le}
use Rattle.dx_base.specs.Object.{PartList, no_parts, part, append, part_count}
use Rattle.dx_base.specs.ObjectLimits.{unplaced}
use Rattle.dx_objects.specs.declared.object.Part.{Part}
use Rattle.dx_objects.specs.Shown.{parts_of}

pub parts_of_push : (ps : List Part) (p : Part) → parts_of (ps ++ p ∷ []) ≡ append (parts_of ps) (part p.name p.position p.object.value no_parts)
parts_of_push [] p = refl
parts_of_push (q ∷ ps) p = ap (part q.name q.position q.object.value) (parts_of_push ps p)

-- the parts from the next one on
pub parts_of-drop : (ps : List Part) (i : ℕ) (p : Part) → i < length ps → p ≡ get_or ps i p → parts_of (drop i ps) ≡ part p.name p.position p.object.value (parts_of (drop (i + 1) ps))
parts_of-drop ps i p h e = rw (add-one, drop-cons ps i p) (ap (λ q. part q.name q.position q.object.value (parts_of (drop (suc i) ps))) (sym e))

pub part_count_is : (ps : List Part) → part_count (parts_of ps) ≡ length ps
part_count_is [] = refl
part_count_is (p ∷ ps) = ap suc (part_count_is ps)

pub append-no_parts : (ps : PartList) → append ps no_parts ≡ ps
append-no_parts no_parts = refl
append-no_parts (part n p t ps) = ap (part n p t) (append-no_parts ps)

pub append_assoc : (ps qs rs : PartList) → append (append ps qs) rs ≡ append ps (append qs rs)
append_assoc no_parts qs rs = refl
append_assoc (part n p t ps) qs rs = ap (part n p t) (append_assoc ps qs rs)

-- the part with position 0
abbrev pub cleared : Part → Part
cleared p = record { name = p.name; position = pos 0; object = p.object }

-- one more part is cleared
pub cleared_step : (ps : List Part) (i : ℕ) (d : Part) (all : PartList) → i < length ps → append (parts_of (take i ps)) (unplaced (parts_of (drop i ps))) ≡ all →
    append (parts_of (take (i + 1) (set ps i (cleared (get_or ps i d))))) (unplaced (parts_of (drop (i + 1) (set ps i (cleared (get_or ps i d)))))) ≡ all
cleared_step ps i d all h e =
    let q : Part = cleared (get_or ps i d) in
    let first : parts_of (take (i + 1) (set ps i q)) ≡ append (parts_of (take i ps)) (part q.name q.position q.object.value no_parts) = ap parts_of (take_more_set ps i q h) ∙ parts_of_push (take i ps) q in
    let rest : drop (i + 1) (set ps i q) ≡ drop (i + 1) ps = drop-set-lt (i + 1) ps i q (omega arith) in
    let here : drop i ps ≡ get_or ps i d ∷ drop (i + 1) ps = rw add-one (drop-cons ps i d h) in
    let before : append (parts_of (take i ps)) (part q.name q.position q.object.value (unplaced (parts_of (drop (i + 1) ps)))) ≡ all = rw here at e in
    rw (first, rest) (append_assoc (parts_of (take i ps)) (part q.name q.position q.object.value no_parts) (unplaced (parts_of (drop (i + 1) ps))) ∙ before)

-- all parts are cleared
pub cleared_end : (ps : List Part) (i : ℕ) (all : PartList) → length ps ≤ i → append (parts_of (take i ps)) (unplaced (parts_of (drop i ps))) ≡ all → parts_of ps ≡ all
cleared_end ps i all h e =
    let past : drop i ps ≡ [] = drop_of_length-le ps {i = i} h in
    let both : take i ps ++ [] ≡ ps = rw past at (take-append-drop i ps) in
    let whole : take i ps ≡ ps = sym (append-nil (take i ps)) ∙ both in
    let done : append (parts_of ps) no_parts ≡ all = rw (whole, past) at e in
    sym (append-no_parts (parts_of ps)) ∙ done

range_from : (a n j : ℕ) → a + n ≡ j → range_with_len a n ++ j ∷ [] ≡ range_with_len a (suc n)
range_from a zero j e = ap (λ x. x ∷ []) (let f : j ≡ a = omega (arith, e) in f)
range_from a (suc n) j e = ap (λ xs. a ∷ xs) (range_from (a + 1) n j (omega (arith, e)))

-- one number more
pub range_more : (n : ℕ) → range_with_len 0 n ++ n ∷ [] ≡ range_with_len 0 (n + 1)
range_more n = rw add-one (range_from 0 n n (omega arith))

pub ruleset pushing = (parts_of_push, range_more)

pub ruleset appending = (append-no_parts, append_assoc, parts_of-drop)
