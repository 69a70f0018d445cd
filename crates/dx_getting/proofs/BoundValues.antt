-- The values of links, and how many hold each, as contracts see them.
use Rattle.std.proofs.Common.{◌≡◌, ap, sym, ◌∙◌, subst, cond, Bool, true, false, List, [], ◌∷◌, Option, Some, None, option_map, ℕ, refl}
use Rattle.std.specs.List.{IsDistinct}
use Rattle.std.specs.Map.{keys_of, lookup}
use Rattle.dx_base.specs.Object.{Tree}
use Rattle.dx_cache.proofs.Places.{cases}
use Rattle.dx_tags.specs.declared.term.ValueTag.{ValueTag}
use Rattle.dx_tags.specs.contracts.term.ValueTagPartialEq.TheImpl as tags
use Rattle.dx_getting.specs.declared.bound.Binding.{Binding}
use Rattle.dx_getting.proofs.Names.{tag_decides}
use Rattle.dx_getting.specs.Terms.{BoundValues, Counts, or_none, count_in, bound_values, bound_counts}

abbrev Bindings : Type 0
Bindings = List (ValueTag × Binding)

abbrev pub value_of : Binding → Tree
value_of b = b.value.value

abbrev pub links_of : Binding → ℕ
links_of b = b.links

pub value_found : (test : ValueTag → Bool) (xs : Bindings) → lookup test (bound_values xs) ≡ option_map value_of (lookup test xs)
value_found test [] = refl
value_found test (x ∷ xs) = cases (test x.0) (λ q. rw q refl) (λ q. rw q (value_found test xs))

pub count_found : (test : ValueTag → Bool) (xs : Bindings) → lookup test (bound_counts xs) ≡ option_map links_of (lookup test xs)
count_found test [] = refl
count_found test (x ∷ xs) = cases (test x.0) (λ q. rw q refl) (λ q. rw q (count_found test xs))

-- ---- one link more or less

same_keys : (xs : Bindings) → keys_of (bound_values xs) ≡ keys_of xs
same_keys [] = refl
same_keys (x ∷ xs) = ap (λ ks. x.0 ∷ ks) (same_keys xs)

pub once_each : (xs : Bindings) → IsDistinct tags.ghosts.eq (keys_of xs) → IsDistinct tags.ghosts.eq (keys_of (bound_values xs))
once_each xs d = subst (IsDistinct tags.ghosts.eq) (sym (same_keys xs)) d

shown_by : {A : Type 0} (f : Binding → A) (b : Bool) (w r : Option Binding) → option_map f (cond b w r) ≡ cond b (option_map f w) (option_map f r)
shown_by f true w r = refl
shown_by f false w r = refl

pub changed_value : (test : ValueTag → Bool) (old new : Bindings) (w : Option Binding) (b : Bool) (self : BoundValues) → bound_values old ≡ self → lookup test new ≡ cond b w (lookup test old) → lookup test (bound_values new) ≡ cond b (option_map value_of w) (lookup test self)
changed_value test old new w b self v e =
    value_found test new ∙ ap (option_map value_of) e ∙ shown_by value_of b w (lookup test old)
    ∙ ap (λ r. cond b (option_map value_of w) r) (sym (value_found test old) ∙ ap (lookup test) v)

none_by : (b : Bool) (w r : Option ℕ) → or_none (cond b w r) ≡ cond b (or_none w) (or_none r)
none_by true w r = refl
none_by false w r = refl

pub changed_count : (t : ValueTag) (old new : Bindings) (w : Option Binding) (b : Bool) (self : Counts) → bound_counts old ≡ self → lookup (tags.ghosts.eq t) new ≡ cond b w (lookup (tags.ghosts.eq t) old) → count_in t (bound_counts new) ≡ cond b (or_none (option_map links_of w)) (count_in t self)
changed_count t old new w b self v e =
    let test = tags.ghosts.eq t in
    ap or_none (count_found test new ∙ ap (option_map links_of) e ∙ shown_by links_of b w (lookup test old))
    ∙ none_by b (option_map links_of w) (option_map links_of (lookup test old))
    ∙ ap (λ r. cond b (or_none (option_map links_of w)) (or_none r)) (sym (count_found test old) ∙ ap (lookup test) v)

-- ---- what is read

pub seen_value : (t : ValueTag) (xs : Bindings) (self : BoundValues) (r : Option Binding) → bound_values xs ≡ self → r ≡ lookup (tags.ghosts.eq t) xs → lookup (tags.ghosts.eq t) self ≡ option_map value_of r
seen_value t xs self r v e = ap (lookup (tags.ghosts.eq t)) (sym v) ∙ value_found (tags.ghosts.eq t) xs ∙ ap (option_map value_of) (sym e)

pub seen_count : (t : ValueTag) (xs : Bindings) (self : Counts) (r : Option Binding) → bound_counts xs ≡ self → r ≡ lookup (tags.ghosts.eq t) xs → count_in t self ≡ or_none (option_map links_of r)
seen_count t xs self r v e = ap (count_in t) (sym v) ∙ ap or_none (count_found (tags.ghosts.eq t) xs ∙ ap (option_map links_of) (sym e))

-- ---- one link fewer of several

same_tag : (t u : ValueTag) → tags.ghosts.eq t u ≡ true → t ≡ u
same_tag t u e = (tag_decides t u).0 e

-- what is found by a tag has other links only
pub left_value : (t u : ValueTag) (old new : Bindings) (b : Binding) (n : ℕ) (self : BoundValues) → bound_values old ≡ self → Some b ≡ lookup (tags.ghosts.eq t) old
    → lookup (tags.ghosts.eq u) new ≡ cond (tags.ghosts.eq t u) (Some (record { value = b.value; links = n })) (lookup (tags.ghosts.eq u) old) → lookup (tags.ghosts.eq u) (bound_values new) ≡ lookup (tags.ghosts.eq u) self
left_value t u old new b n self v at e = cases (tags.ghosts.eq t u)
    (λ q. changed ∙ ap (λ (x : Bool). cond x (Some (value_of b)) (lookup (tags.ghosts.eq u) self)) q ∙ sym (ap (λ (s : ValueTag). lookup (tags.ghosts.eq s) self) (sym (same_tag t u q)) ∙ seen_value t old self (Some b) v at))
    (λ q. changed ∙ ap (λ (x : Bool). cond x (Some (value_of b)) (lookup (tags.ghosts.eq u) self)) q)
  where
    changed : lookup (tags.ghosts.eq u) (bound_values new) ≡ cond (tags.ghosts.eq t u) (Some (value_of b)) (lookup (tags.ghosts.eq u) self)
    changed = changed_value (tags.ghosts.eq u) old new (Some (record { value = b.value; links = n })) (tags.ghosts.eq t u) self v e
