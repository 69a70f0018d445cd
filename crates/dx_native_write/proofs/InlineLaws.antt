-- What stands in an attribute's own line.
use Rattle.std.proofs.Common.{◌≡◌, ◌∷◌, [], ℕ, ℤ, List, Option, Some, None, Bor, refl, length, ◌≤◌, arith}
use Rattle.dx_objects.specs.declared.object.Part.{Part}
use Rattle.dx_objects.specs.Shown.{parts_of}
use Rattle.std.specs.Prelude.{MatchOption}
use Rattle.dx_base.specs.Object.{Tree, PartList, array, text, field, group, composite, series, no_parts, part, attributes}
use Rattle.dx_objects.specs.Kinds.{text_of, array_of}
use Rattle.dx_native_text.specs.Inline.{Inline, inline_of, inline_number, int_of, as_text, as_number}
use Rattle.dx_native_write.specs.Inlines.{text_in, number_in, int_in}

number_text : (o : Option ℤ) → text_in (inline_number o) ≡ None
number_text None = refl
number_text (Some z) = refl

-- a text without attributes
pub no_text : (t : Tree) → text_of t ≡ None → text_in (inline_of t) ≡ None
no_text (array a no_parts) e = number_text _
no_text (array a (part n p t xs)) e = refl
no_text (text b xs) e = cc
no_text (field ps xs) e = refl
no_text (group ps xs) e = refl
no_text (composite ps xs) e = refl
no_text (series ps xs) e = refl

pub bare_text : (t : Tree) (b : List ℕ) → no_parts ≡ attributes t → text_of t ≡ Some b → inline_of t ≡ Some (as_text b)
bare_text (text b no_parts) c h e = cc
bare_text (text b (part n p t xs)) c h e = cc
bare_text (array a xs) c h e = cc
bare_text (field ps xs) c h e = cc
bare_text (group ps xs) c h e = cc
bare_text (composite ps xs) c h e = cc
bare_text (series ps xs) c h e = cc

pub text_match : (t : Tree) (r : Option (Bor (List ℕ))) → no_parts ≡ attributes t →
    MatchOption r (text_of t ≡ None) (λ (b : Bor (List ℕ)). text_of t ≡ Some b.now) →
    MatchOption r (text_in (inline_of t) ≡ None) (λ (b : Bor (List ℕ)). inline_of t ≡ Some (as_text b.now))
text_match t None h e = no_text t e
text_match t (Some b) h e = bare_text t b.now h e

-- an object with attributes
pub own_line : (t u : Tree) (n : Option (List ℕ)) (p : ℤ) (xs : PartList) → part n p u xs ≡ attributes t → inline_of t ≡ None
own_line (array a (part m q v ys)) u n p xs e = refl
own_line (text b (part m q v ys)) u n p xs e = refl
own_line (array a no_parts) u n p xs e = cc
own_line (text b no_parts) u n p xs e = cc
own_line (field ps ys) u n p xs e = refl
own_line (group ps ys) u n p xs e = refl
own_line (composite ps ys) u n p xs e = refl
own_line (series ps ys) u n p xs e = refl

pub held : (t : Tree) (ps : List Part) → parts_of ps ≡ attributes t → 1 ≤ length ps → inline_of t ≡ None
held t [] e h = absurd (omega (arith, h))
held t (p ∷ ps) e h = own_line t p.object.value p.name p.position (parts_of ps) e

number_by : (o : Option ℤ) → MatchOption o (number_in (inline_number o) ≡ None) (λ (z : ℤ). inline_number o ≡ Some (as_number z))
number_by None = refl
number_by (Some z) = refl

number_of : (t : Tree) → no_parts ≡ attributes t →
    MatchOption (int_in (array_of t)) (number_in (inline_of t) ≡ None) (λ (z : ℤ). inline_of t ≡ Some (as_number z))
number_of (array a no_parts) h = number_by (int_of a.elem a.extents a.class)
number_of (array a (part n p t xs)) h = absurd (cc h)
number_of (text b no_parts) h = refl
number_of (text b (part n p t xs)) h = refl
number_of (field ps xs) h = refl
number_of (group ps xs) h = refl
number_of (composite ps xs) h = refl
number_of (series ps xs) h = refl

pub number_match : (t : Tree) (r : Option ℤ) → no_parts ≡ attributes t → r ≡ int_in (array_of t) →
    MatchOption r (number_in (inline_of t) ≡ None) (λ (z : ℤ). inline_of t ≡ Some (as_number z))
number_match t r h e = rw e (number_of t h)

none_by : (o : Option Inline) → text_in o ≡ None → number_in o ≡ None → o ≡ None
none_by None h k = refl
none_by (Some (as_text b)) h k = absurd (cc h)
none_by (Some (as_number z)) h k = absurd (cc k)

-- neither a text nor a number
pub none_inline : (t : Tree) → text_in (inline_of t) ≡ None → number_in (inline_of t) ≡ None → inline_of t ≡ None
none_inline t h k = none_by (inline_of t) h k

pub ruleset inline_texts = (text_match)

pub ruleset inline_numbers = (number_match)

pub ruleset inline_tests = (none_inline)
