-- The values of terms as contracts see them.
use Rattle.std.proofs.Common.{◌≡◌, ◌++◌, ◌∷◌, ap, sym, ◌∙◌, Bool, List, [], Option, Some, None, option_map, refl}
use Rattle.std.specs.Map.{lookup}
use Rattle.std.specs.declared.rc.Rc.{Rc}
use Rattle.std.specs.declared.alloc.Global.{Global}
use Rattle.dx_base.specs.Object.{Tree}
use Rattle.dx_cache.proofs.Places.{cases}
use Rattle.dx_objects.specs.Values.{value_of}
use Rattle.dx_tags.specs.declared.term.ValueTag.{ValueTag}
use Rattle.dx_looking.specs.ToldTags.{ToldTags, told_tags}

abbrev pub Kept : Type 0
Kept = Option (Rc Tree Global)

pub value_found : (test : ValueTag → Bool) (xs : List (ValueTag × Kept)) → lookup test (told_tags xs) ≡ option_map value_of (lookup test xs)
value_found test [] = refl
value_found test (x ∷ xs) = cases (test x.0) (λ q. rw q refl) (λ q. rw q (value_found test xs))

no_value : (o : Option Kept) → option_map value_of o ≡ None → o ≡ None
no_value None e = refl
no_value (Some o) e = cc

pub nothing_found : (test : ValueTag → Bool) (xs : List (ValueTag × Kept)) → lookup test (told_tags xs) ≡ None → lookup test xs ≡ None
nothing_found test xs e = no_value (lookup test xs) (sym (value_found test xs) ∙ e)

pub one_more : (xs : List (ValueTag × Kept)) (t : ValueTag) (v : Kept) → told_tags (xs ++ (t, v) ∷ []) ≡ told_tags xs ++ (t, value_of v) ∷ []
one_more [] t v = refl
one_more (x ∷ xs) t v = ap (λ ys. (x.0, value_of x.1) ∷ ys) (one_more xs t v)

-- what a look-up in the table answers, as it is told
pub found_so : (test : ValueTag → Bool) (xs : List (ValueTag × Kept)) (told : ToldTags) (o : Option Kept) → told_tags xs ≡ told → o ≡ lookup test xs → option_map value_of o ≡ lookup test told
found_so test xs told o v e = ap (option_map value_of) e ∙ sym (value_found test xs) ∙ ap (lookup test) v
