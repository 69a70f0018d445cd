-- Objects beyond the limits: where a part is, so is the whole.
use Rattle.std.proofs.Common.{◌≡◌, ◌<◌, ◌≤◌, Bool, true, false, ◌&&◌, Some, None, Ok, Err, cond, refl, sym, ap, ◌∙◌, arith}
use Rattle.std.specs.Prelude.{nat_le}
use Rattle.std.proofs.lemmas.Bool.{and_parts, le-leb, leb-true}
use Rattle.std.specs.Cmp.Derive.{both_true}
use Rattle.dx_base.specs.declared.code.Code.TheVariants.{TooLarge}
use Rattle.dx_base.specs.Array.{ArrayData, array_size}
use Rattle.dx_base.specs.Object.{Tree, PartList, array, text, field, group, composite, series, no_parts, part, attributes, append, levels, deepest, count, total_count, size, total_size}
use Rattle.dx_base.specs.ObjectLimits.{fits, all_named, none_named, differ, unplaced, IsLawful}
use Rattle.dx_objects.specs.Makes.{Makes, refusal}
use Rattle.dx_objects.specs.declared.makers.ObjectError.{ObjectError}
use Rattle.dx_objects.specs.declared.makers.ObjectError.TheVariants as refused
use Rattle.dx_objects.specs.declared.run_fail.RunFail.{RunFail}
use Rattle.dx_objects.specs.declared.run_fail.RunFail.TheVariants as fail
use Rattle.dx_slab.specs.Answered.{in_limits}
use Rattle.dx_slab.specs.Gives.{GivesArray, GivesShared, all_fit}

not_true : (b : Bool) → (b ≡ true → ⊥) → b ≡ false
not_true true f = absurd (f refl)
not_true false f = refl

-- ---- sizes

record Fits (t : Tree) : Type 0 where
  levels : levels t ≤ 64
  count : count t ≤ 1048576
  size : size t ≤ 268435456

within : (t : Tree) → fits t ≡ true → Fits t
within t h =
    let hs = and_parts (nat_le (levels t) 64 && nat_le (count t) 1048576) (nat_le (size t) 268435456) h in
    let ks = and_parts (nat_le (levels t) 64) (nat_le (count t) 1048576) hs.0 in
    record { levels = leb-true (levels t) 64 ks.0; count = leb-true (count t) 1048576 ks.1; size = leb-true (size t) 268435456 hs.1 }

fits_of : (t : Tree) → levels t ≤ 64 → count t ≤ 1048576 → size t ≤ 268435456 → fits t ≡ true
fits_of t a b c = both_true (both_true (le-leb (levels t) 64 a) (le-leb (count t) 1048576 b)) (le-leb (size t) 268435456 c)

-- an array that no object can hold
pub too_big : (a : ArrayData) (xs : PartList) → 268435456 < array_size a → fits (array a xs) ≡ false
too_big a xs h = not_true (fits (array a xs)) (λ e. let w = (within (array a xs) e).size in absurd (omega (arith, h, w)))

-- parts of which the sums are within the limits are so
parts_fit : (ps : PartList) → deepest ps ≤ 64 → total_count ps ≤ 1048576 → total_size ps ≤ 268435456 → all_fit ps ≡ true
parts_fit no_parts a b c = refl
parts_fit (part n p t ps) a b c = both_true (fits_of t (omega (arith, a)) (omega (arith, b)) (omega (arith, c))) (parts_fit ps (omega (arith, a)) (omega (arith, b)) (omega (arith, c)))

field_fit : (ps xs : PartList) → fits (field ps xs) ≡ true → all_fit ps ≡ true
field_fit ps xs h = let w = within (field ps xs) h in parts_fit ps (let l = w.levels in omega (arith, l)) (let l = w.count in omega (arith, l)) (let l = w.size in omega (arith, l))

series_fit : (ps xs : PartList) → fits (series ps xs) ≡ true → all_fit ps ≡ true
series_fit ps xs h = let w = within (series ps xs) h in parts_fit ps (let l = w.levels in omega (arith, l)) (let l = w.count in omega (arith, l)) (let l = w.size in omega (arith, l))

refused_by : (b : Bool) (t : Tree) → fits t ≡ b → b ≡ false → in_limits t ≡ Err TooLarge
refused_by b t e f = rw (e, f) refl

pub field_large : (ps xs : PartList) → all_fit ps ≡ false → in_limits (field ps xs) ≡ Err TooLarge
field_large ps xs h = refused_by (fits (field ps xs)) (field ps xs) refl (not_true (fits (field ps xs)) (λ e. let clash : true ≡ false = sym (field_fit ps xs e) ∙ h in cc))

pub series_large : (ps xs : PartList) → all_fit ps ≡ false → in_limits (series ps xs) ≡ Err TooLarge
series_large ps xs h = refused_by (fits (series ps xs)) (series ps xs) refl (not_true (fits (series ps xs)) (λ e. let clash : true ≡ false = sym (series_fit ps xs e) ∙ h in cc))

pub not_fit : (t : Tree) → in_limits t ≡ Err TooLarge → fits t ≡ false
not_fit t h = not_true (fits t) (λ e. let same : in_limits t ≡ Ok t = rw e refl in let clash : Ok t ≡ Err TooLarge = sym same ∙ h in cc)

pub all_fit-append_right : (ps qs : PartList) → all_fit qs ≡ false → all_fit (append ps qs) ≡ false
all_fit-append_right no_parts qs h = h
all_fit-append_right (part n p t ps) qs h = rw (all_fit-append_right ps qs h) (and_false (fits t))
  where
    and_false : (b : Bool) → (b && false) ≡ false
    and_false true = refl
    and_false false = refl

pub all_fit-append_left : (ps qs : PartList) → all_fit ps ≡ false → all_fit (append ps qs) ≡ false
all_fit-append_left ps qs h = not_true (all_fit (append ps qs)) (λ e. let clash : false ≡ true = sym h ∙ left ps qs e in cc)
  where
    left : (ps qs : PartList) → all_fit (append ps qs) ≡ true → all_fit ps ≡ true
    left no_parts qs h = refl
    left (part n p t ps) qs h = let hs = and_parts (fits t) (all_fit (append ps qs)) h in both_true hs.0 (left ps qs hs.1)

-- ---- where only its size can be said against an object

ok_by : (b : Bool) (t o : Tree) → b ≡ fits t → refusal t ≡ cond b None (Some refused.TooLarge) → Makes t (Ok o) → in_limits t ≡ Ok o
ok_by true t o s e h = rw (← s) (ap (λ u. Ok u) (sym h.0))
ok_by false t o s e h = absurd (cc (e, h.1))

err_by : (b : Bool) (t : Tree) (f : ObjectError) → b ≡ fits t → refusal t ≡ cond b None (Some refused.TooLarge) → Makes t (Err f) → in_limits t ≡ Err TooLarge
err_by true t f s e h = absurd (cc (e, h))
err_by false t f s e h = rw (← s) refl

pub only_large_ok : (t o : Tree) → refusal t ≡ cond (fits t) None (Some refused.TooLarge) → Makes t (Ok o) → in_limits t ≡ Ok o
only_large_ok t o e h = ok_by (fits t) t o refl e h

pub only_large_err : (t : Tree) (f : ObjectError) → refusal t ≡ cond (fits t) None (Some refused.TooLarge) → Makes t (Err f) → in_limits t ≡ Err TooLarge
only_large_err t f e h = err_by (fits t) t f refl e h

-- ---- arrays with the attributes of an object

pub record AreAttributes (xs : PartList) : Type 0 where
  pub names : (all_named xs && differ xs) ≡ true
  pub unplaced : unplaced xs ≡ xs

pub attributes_are : (t : Tree) → IsLawful t → AreAttributes (attributes t)
attributes_are (array a xs) h = record { names = h.1.names; unplaced = h.1.positions }
attributes_are (text b xs) h = record { names = h.1.names; unplaced = h.1.positions }
attributes_are (field ps xs) h = record { names = (and_parts (all_named ps && differ ps) (all_named xs && differ xs) h.0.names).1; unplaced = h.0.positions.1 }
attributes_are (group ps xs) h = record { names = (and_parts (differ ps) (all_named xs && differ xs) h.0.names).1; unplaced = h.0.positions.1 }
attributes_are (composite ps xs) h = record { names = (and_parts (differ ps) (all_named xs && differ xs) h.0.names).1; unplaced = h.0.positions.1 }
attributes_are (series ps xs) h = record { names = (and_parts (none_named ps) (all_named xs && differ xs) h.0.names).1; unplaced = h.0.positions }

array_only_large : (a : ArrayData) (xs : PartList) → AreAttributes xs → refusal (array a xs) ≡ cond (fits (array a xs)) None (Some refused.TooLarge)
array_only_large a xs h = let names = h.names in rw names refl

pub array_made : (a : ArrayData) (xs ys : PartList) (o : Tree) → AreAttributes xs → ys ≡ xs → Makes (array a (unplaced ys)) (Ok o) → o ≡ array a xs
array_made a xs ys o h e made = made.0 ∙ ap (array a) (ap unplaced e ∙ h.unplaced)

pub array_large : (a : ArrayData) (xs ys : PartList) (f : ObjectError) → AreAttributes xs → ys ≡ xs → Makes (array a (unplaced ys)) (Err f) → fits (array a xs) ≡ false
array_large a xs ys f h e made = not_fit (array a xs) (only_large_err (array a xs) f (array_only_large a xs h) (rw (ap unplaced e ∙ h.unplaced) at made))

pub passed_array : (a : ArrayData) (xs : PartList) (e : RunFail) → GivesArray a (Err e) → GivesShared (array a xs) (Err e)
passed_array a xs (fail.Code code) h = (h.0, too_big a xs h.1)
passed_array a xs fail.Memory h = tt
