-- Lists of parts that are built one after the other.
use Rattle.std.proofs.Common.{◌≡◌, ℕ, ℤ, suc, ◌+◌, ◌<◌, ◌≤◌, pos, List, [], ◌∷◌, length, drop, get_or, Option, Some, None, Result, Err, refl, sym, ap, subst, ◌∙◌, add-one, drop-cons, drop_of_length-le}
use Rattle.dx_base.specs.Object.{Tree, PartList, no_parts, part, append}
use Rattle.dx_base.specs.ObjectLimits.{unplaced}
use Rattle.dx_native_grammar.specs.Meaning.{with_part, parts_at, given_at, attributes_at}
use Rattle.dx_native_grammar.specs.declared.clause.Attribute.{Attribute}
use Rattle.dx_native_grammar.specs.declared.clause.Part.{Part}
use Rattle.dx_native_meaning.proofs.Somes.{some_is, part_parts}
use Rattle.dx_native_walk.specs.Answer.{IsWhole, AreWhole, IsBroken, AreBroken, FailsAt, PartsFail, BuildsParts}
use Rattle.dx_native_walk.specs.declared.fail.BuildFail.{BuildFail}
use Rattle.dx_native_walk.specs.declared.fail.BuildFail.TheVariants as fail

abbrev pub after : PartList → Option PartList → Option PartList
after ps None = None
after ps (Some qs) = Some (append ps qs)

append_assoc : (ps qs rs : PartList) → append (append ps qs) rs ≡ append ps (append qs rs)
append_assoc no_parts qs rs = refl
append_assoc (part n z t ps) qs rs = ap (part n z t) (append_assoc ps qs rs)

append_none : (ps : PartList) → append ps no_parts ≡ ps
append_none no_parts = refl
append_none (part n z t ps) = ap (part n z t) (append_none ps)

pub after_none : (p : Option PartList) → after no_parts p ≡ p
after_none None = refl
after_none (Some ps) = refl

whole_part : (ps : PartList) (n : Option (List ℕ)) (z : ℤ) (t : Tree) (qs : PartList) → AreWhole (append ps (part n z t qs)) → IsWhole t
whole_part no_parts n z t qs h = h.0
whole_part (part m y u ps) n z t qs h = whole_part ps n z t qs h.1

broken_part : (ps : PartList) (n : Option (List ℕ)) (z : ℤ) (o : Option Tree) (p : Option PartList) → IsBroken o → AreBroken (after ps (with_part n z o p))
broken_part ps n z None p h = tt
broken_part ps n z (Some t) None h = tt
broken_part ps n z (Some t) (Some qs) h = λ whole. h (whole_part ps n z t qs whole)

fails_part : (ps : PartList) (n : Option (List ℕ)) (z : ℤ) (o : Option Tree) (p : Option PartList) (e : BuildFail) → FailsAt o e → PartsFail (after ps (with_part n z o p)) e
fails_part ps n z o p fail.Deep h = ap (λ o. after ps (with_part n z o p)) h
fails_part ps n z o p fail.Broken h = broken_part ps n z o p h
fails_part ps n z o p fail.Memory h = tt

after_part : (ps : PartList) (n : Option (List ℕ)) (z : ℤ) (t : Tree) (p : Option PartList) → after (append ps (part n z t no_parts)) p ≡ after ps (with_part n z (Some t) p)
after_part ps n z t None = refl
after_part ps n z t (Some qs) = ap (λ ps. Some ps) (append_assoc ps (part n z t no_parts) qs)

failed_parts : (whole p : Option PartList) (r : Result PartList BuildFail) (e y : BuildFail) → r ≡ Err y → y ≡ e → PartsFail p e → p ≡ whole → BuildsParts whole r
failed_parts whole p r e y is same h q =
    let failed : BuildFail → Result PartList BuildFail = λ e. Err e in
    subst (λ (r : Result PartList BuildFail). BuildsParts whole r) (sym (is ∙ ap failed same)) (subst (λ (m : Option PartList). PartsFail m e) q h)

-- ---- parts

pub parts_opened : (f : List ℕ → Option Tree) (ls : List Part) (i : ℕ) (l : Part) → i < length ls → l ≡ get_or ls i l
    → parts_at f (drop i ls) ≡ with_part l.name l.position (f l.target.text) (parts_at f (drop (i + 1) ls))
parts_opened f ls i l below e =
    ap (parts_at f) (drop-cons ls i l below) ∙ ap (λ (m : Part). with_part m.name m.position (f m.target.text) (parts_at f (drop (suc i) ls))) (sym e)
    ∙ ap (λ k. with_part l.name l.position (f l.target.text) (parts_at f (drop k ls))) (sym (add-one i))

pub parts_exit : (f : List ℕ → Option Tree) (ls : List Part) (i : ℕ) (l : Part) (ps : PartList) (r : Result PartList BuildFail) (e y : BuildFail) → i < length ls → l ≡ get_or ls i l
    → after ps (parts_at f (drop i ls)) ≡ parts_at f ls → r ≡ Err y → y ≡ e → FailsAt (f l.target.text) e → BuildsParts (parts_at f ls) r
parts_exit f ls i l ps r e y below item same p q h =
    failed_parts (parts_at f ls) (after ps (with_part l.name l.position (f l.target.text) (parts_at f (drop (i + 1) ls)))) r e y p q
    (fails_part ps l.name l.position (f l.target.text) (parts_at f (drop (i + 1) ls)) e h) (sym (ap (after ps) (parts_opened f ls i l below item)) ∙ same)

pub one_part : (f : List ℕ → Option Tree) (ls : List Part) (i : ℕ) (l : Part) (n : Option (List ℕ)) (z : ℤ) (ps new : PartList) (t : Tree) → i < length ls → l ≡ get_or ls i l
    → after ps (parts_at f (drop i ls)) ≡ parts_at f ls → f l.target.text ≡ Some t → n ≡ l.name → z ≡ l.position → new ≡ append ps (part n z t no_parts) → after new (parts_at f (drop (i + 1) ls)) ≡ parts_at f ls
one_part f ls i l n z ps new t below item same h name position e =
    ap (λ ps. after ps (parts_at f (drop (i + 1) ls))) e ∙ after_part ps n z t (parts_at f (drop (i + 1) ls))
    ∙ ap (λ n. after ps (with_part n z (Some t) (parts_at f (drop (i + 1) ls)))) name
    ∙ ap (λ z. after ps (with_part l.name z (Some t) (parts_at f (drop (i + 1) ls)))) position
    ∙ ap (λ o. after ps (with_part l.name l.position o (parts_at f (drop (i + 1) ls)))) (sym h)
    ∙ sym (ap (after ps) (parts_opened f ls i l below item)) ∙ same

pub all_parts : (f : List ℕ → Option Tree) (ls : List Part) (i : ℕ) (ps : PartList) → length ls ≤ i → after ps (parts_at f (drop i ls)) ≡ parts_at f ls → parts_at f ls ≡ Some ps
all_parts f ls i ps past same =
    sym same ∙ ap (λ ls. after ps (parts_at f ls)) (drop_of_length-le ls past) ∙ ap (λ ps. Some ps) (append_none ps)

-- ---- attributes

attributes_opened : (k : ℕ) (f : List ℕ → Option Tree) (ls : List Attribute) (i : ℕ) (l : Attribute) → i < length ls → l ≡ get_or ls i l
    → attributes_at k f (drop i ls) ≡ with_part (Some l.name) (pos 0) (given_at k f l.value) (attributes_at k f (drop (i + 1) ls))
attributes_opened k f ls i l below e =
    ap (attributes_at k f) (drop-cons ls i l below) ∙ ap (λ (m : Attribute). with_part (Some m.name) (pos 0) (given_at k f m.value) (attributes_at k f (drop (suc i) ls))) (sym e)
    ∙ ap (λ j. with_part (Some l.name) (pos 0) (given_at k f l.value) (attributes_at k f (drop j ls))) (sym (add-one i))

pub attributes_exit : (k : ℕ) (f : List ℕ → Option Tree) (ls : List Attribute) (i : ℕ) (l : Attribute) (ps : PartList) (r : Result PartList BuildFail) (e y : BuildFail) → i < length ls → l ≡ get_or ls i l
    → after ps (attributes_at k f (drop i ls)) ≡ attributes_at k f ls → r ≡ Err y → y ≡ e → FailsAt (given_at k f l.value) e → BuildsParts (attributes_at k f ls) r
attributes_exit k f ls i l ps r e y below item same p q h =
    failed_parts (attributes_at k f ls) (after ps (with_part (Some l.name) (pos 0) (given_at k f l.value) (attributes_at k f (drop (i + 1) ls)))) r e y p q
    (fails_part ps (Some l.name) (pos 0) (given_at k f l.value) (attributes_at k f (drop (i + 1) ls)) e h) (sym (ap (after ps) (attributes_opened k f ls i l below item)) ∙ same)

pub one_attribute : (k : ℕ) (f : List ℕ → Option Tree) (ls : List Attribute) (i : ℕ) (l : Attribute) (n : List ℕ) (ps new : PartList) (t : Tree) → i < length ls → l ≡ get_or ls i l
    → after ps (attributes_at k f (drop i ls)) ≡ attributes_at k f ls → given_at k f l.value ≡ Some t → n ≡ l.name → new ≡ append ps (part (Some n) (pos 0) t no_parts) → after new (attributes_at k f (drop (i + 1) ls)) ≡ attributes_at k f ls
one_attribute k f ls i l n ps new t below item same h name e =
    ap (λ ps. after ps (attributes_at k f (drop (i + 1) ls))) e ∙ after_part ps (Some n) (pos 0) t (attributes_at k f (drop (i + 1) ls))
    ∙ ap (λ n. after ps (with_part (Some n) (pos 0) (Some t) (attributes_at k f (drop (i + 1) ls)))) name
    ∙ ap (λ o. after ps (with_part (Some l.name) (pos 0) o (attributes_at k f (drop (i + 1) ls)))) (sym h)
    ∙ sym (ap (after ps) (attributes_opened k f ls i l below item)) ∙ same

pub all_attributes : (k : ℕ) (f : List ℕ → Option Tree) (ls : List Attribute) (i : ℕ) (ps : PartList) → length ls ≤ i → after ps (attributes_at k f (drop i ls)) ≡ attributes_at k f ls → attributes_at k f ls ≡ Some ps
all_attributes k f ls i ps past same =
    sym same ∙ ap (λ ls. after ps (attributes_at k f ls)) (drop_of_length-le ls past) ∙ ap (λ ps. Some ps) (append_none ps)

-- attributes have no positions
pub attributes_unplaced : (k : ℕ) (f : List ℕ → Option Tree) (xs : List Attribute) (ps : PartList) → attributes_at k f xs ≡ Some ps → unplaced ps ≡ ps
attributes_unplaced k f [] ps e = let p = some_is no_parts ps e in ap unplaced (sym p) ∙ p
attributes_unplaced k f (x ∷ xs) ps e =
    let q = part_parts (Some x.name) (pos 0) (given_at k f x.value) (attributes_at k f xs) ps e in
    sym (ap unplaced q.4) ∙ ap (part (Some x.name) (pos 0) q.0) (attributes_unplaced k f xs q.1 q.3) ∙ q.4
