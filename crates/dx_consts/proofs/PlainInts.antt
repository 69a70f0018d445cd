-- No maker refuses the plain array of ints that the shape and the number of values are right for.
use Rattle.std.proofs.Common.{◌≡◌, ◌≤◌, ◌<◌, ◌*◌, ◌%◌, ℕ, ℤ, List, length, true, None, refl, sym, ◌∙◌, arith}
use Rattle.std.specs.Prelude.{IsOk, Result, Ok, Err, nat_le, ◌&&◌}
use Rattle.std.specs.List.{list_all}
use Rattle.std.specs.Cmp.Derive.{both_true}
use Rattle.std.proofs.lemmas.Bool.Decides.{nat_tests}
use Rattle.dx_base.specs.Elem.{in_range}
use Rattle.dx_base.specs.Array.{ArrayData, plain, product}
use Rattle.dx_base.specs.ArrayLimits.{is_shape, has_shape, has_room, has_lengths, is_in_type, max_items, max_values}
use Rattle.dx_base.specs.declared.elem.ElemType.TheVariants.{Int}
use Rattle.dx_arrays.specs.Makes.{Makes, refusal}
use Rattle.dx_arrays.specs.declared.array.ArrayError.{ArrayError}
use Rattle.dx_arrays.proofs.InType.{plain_in_type}

abbrev pub plain_ints : List ℕ → List ℤ → ArrayData
plain_ints es vs = record { elem = Int; extents = es; class = plain vs }

room : (n w : ℕ) → 0 < w → w ≤ 256 → n ≤ 65536 * w → (nat_le n (max_items * w) && nat_le n max_values) ≡ true
room n w some narrow few = grind (arith, nat_tests)

pub not_refused : (es : List ℕ) (vs : List ℤ) → is_shape es ≡ true → 0 < product es → product es ≤ 256 → length vs ≤ 65536 * product es → length vs % product es ≡ 0 → list_all (in_range Int) vs ≡ true →
    refusal (plain_ints es vs) ≡ None
not_refused es vs shape some narrow few whole ints =
    let shaped : has_shape (plain_ints es vs) ≡ true = both_true shape refl in
    let roomy : has_room (plain_ints es vs) ≡ true = room (length vs) (product es) some narrow few in
    let lengths : has_lengths (plain_ints es vs) ≡ true = rw whole refl in
    let typed : is_in_type (plain_ints es vs) ≡ true = sym (plain_in_type Int es vs some whole) ∙ ints in
    rw (shaped, roomy, lengths, typed) refl

-- what isn't refused is made
pub is_made : (a : ArrayData) (r : Result ArrayData ArrayError) → refusal a ≡ None → Makes a r → IsOk r
is_made a (Ok made) h m = refl
is_made a (Err e) h m = cc
