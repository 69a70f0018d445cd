-- What is found by tags of links, as lists.
use Rattle.std.proofs.Common.{◌≡◌, ◌⊎◌, inl, inr, ⊎_elim, ℕ, zero, suc, ◌+◌, ◌<◌, ◌≤◌, [], ◌∷◌, Option, Some, None, is_some, Bool, true, false, cond, arith, refl, sym, ap, ◌∙◌, subst}
use Rattle.std.specs.Prelude.{slice_get, ◌==◌, not, if◌then◌else◌}
use Rattle.std.specs.Cmp.{IsEquivalence, unsigned_Decides}
use Rattle.std.specs.List.{IsDistinct}
use Rattle.std.specs.Map.{keys_of, lookup}
use Rattle.std.proofs.lemmas.Bool.{cases_lt}
use Rattle.std.proofs.lemmas.Map.Entries.{lookup_from_place}
use Rattle.dx_base.specs.Object.{Tree as Object}
use Rattle.dx_cache.proofs.Places.{cases}
use Rattle.dx_tags.specs.declared.term.ValueTag.{ValueTag}
use Rattle.dx_tags.specs.contracts.term.ValueTagPartialEq.TheImpl as tags
use Rattle.dx_links.specs.declared.key.Key.{Key}
use Rattle.dx_links.specs.Holding.{Holding}
use Rattle.dx_links.specs.LinkMap.{LinkMap}
use Rattle.dx_machine.proofs.SameTerms.{same_test}
use Rattle.dx_getting.specs.Bound.{IsBound, IsLink, AreLinks, links_with}
use Rattle.dx_getting.specs.Terms.{BoundValues, Table, count_in}
use Rattle.dx_getting.proofs.Names.{tag_decides}

-- ---- tags

pub eq_turned : (a b : ValueTag) → tags.ghosts.eq b a ≡ tags.ghosts.eq a b
eq_turned a b = same_test _ _ (λ e. (tag_decides a b).1 (sym ((tag_decides b a).0 e))) (λ e. (tag_decides b a).1 (sym ((tag_decides a b).0 e)))

tags_alike : IsEquivalence tags.ghosts.eq
tags_alike = record {
  refl = λ t. (tag_decides t t).1 refl;
  symm = λ a b. eq_turned b a;
  congr = λ a b c e. ap (λ (t : ValueTag). tags.ghosts.eq t c) ((tag_decides a b).0 e);
}

-- ---- links with a tag

-- a link with this tag
pub record HasTag (links : LinkMap) (t : ValueTag) : Type 0 where
  pub place : ℕ
  pub link : Key × Holding
  pub at : slice_get links place ≡ Some link
  pub tag : link.1.tag ≡ t

some_are : (n : ℕ) → 0 < n → not (n == 0) ≡ true
some_are n h = cases (n == 0) (λ q. absurd (let e = (unsigned_Decides n 0).0 q in omega (arith, h, e))) (λ q. rw q refl)

are_some : (n : ℕ) → not (n == 0) ≡ true → 0 < n
are_some zero e = cc
are_some (suc n) e = omega arith

still_some : (a n : ℕ) → not (n == 0) ≡ true → not (a + n == 0) ≡ true
still_some a n e = some_are (a + n) (let h = are_some n e in omega (arith, h))

none_else : (n : ℕ) → not (0 + n == 0) ≡ true → not (n == 0) ≡ true
none_else n e = some_are n (let h = are_some (0 + n) e in omega (arith, h))

-- where some links have a tag, one is there
pub tag_there : (t : ValueTag) (links : LinkMap) → not (links_with t links == 0) ≡ true → HasTag links t
tag_there t [] e = cc
tag_there t (l ∷ ls) e = cases (tags.ghosts.eq t l.1.tag)
    (λ q. record { place = 0; link = l; at = refl; tag = sym ((tag_decides t l.1.tag).0 q) })
    (λ q. let r = tag_there t ls (none_else (links_with t ls) (subst (λ (b : Bool). not ((if b then 1 else 0) + links_with t ls == 0) ≡ true) q e)) in record { place = suc r.place; link = r.link; at = r.at; tag = r.tag })

-- and where one is there, some have its tag
first_counted : (l : Key × Holding) (ls : LinkMap) → not (links_with l.1.tag (l ∷ ls) == 0) ≡ true
first_counted l ls = rw ((tag_decides l.1.tag l.1.tag).1 refl) (some_are (1 + links_with l.1.tag ls) (omega arith))

later_counted : (t : ValueTag) (l : Key × Holding) (ls : LinkMap) → not (links_with t ls == 0) ≡ true → not (links_with t (l ∷ ls) == 0) ≡ true
later_counted t l ls e = still_some (if tags.ghosts.eq t l.1.tag then 1 else 0) (links_with t ls) e

-- ---- the value of each link

-- each link has a tag below this one, or a value is found by its tag
abbrev pub AllBound : ℕ → LinkMap → BoundValues → Type 0
AllBound from [] bound = Unit {0}
AllBound from (l ∷ ls) bound = ((l.1.tag.tag < from) ⊎ ((o : Object) × (lookup (tags.ghosts.eq l.1.tag) bound ≡ Some o))) × AllBound from ls bound

value_there : (o : Option Object) → is_some o ≡ true → (x : Object) × (o ≡ Some x)
value_there None e = cc
value_there (Some x) e = (x, refl)

all_found : (from : ℕ) (bound : BoundValues) (links : LinkMap) → ((t : ValueTag) → from ≤ t.tag → not (links_with t links == 0) ≡ true → is_some (lookup (tags.ghosts.eq t) bound) ≡ true) → AllBound from links bound
all_found from bound [] f = tt
all_found from bound (l ∷ ls) f = (
  ⊎_elim (λ h. inl h) (λ h. inr (value_there (lookup (tags.ghosts.eq l.1.tag) bound) (f l.1.tag h (first_counted l ls)))) (cases_lt l.1.tag.tag from),
  all_found from bound ls (λ t h e. f t h (later_counted t l ls e)),
)

pub all_bound : (links : LinkMap) (bound : Table) → IsBound links bound → AllBound bound.from links bound.pairs
all_bound links bound b = all_found bound.from bound.pairs links (λ t h e. b.found t ∙ ap (λ n. not (n == 0)) (b.counted t h) ∙ e)

-- ---- the link of each value

-- there is a link with each tag
abbrev pub AllTagged : LinkMap → BoundValues → Type 0
AllTagged links [] = Unit {0}
AllTagged links (x ∷ xs) = HasTag links x.0 × AllTagged links xs

found_by : (b : Bool) (x : Object) (o : Option Object) → is_some o ≡ true → is_some (cond b (Some x) o) ≡ true
found_by true x o e = refl
found_by false x o e = e

all_there : (links : LinkMap) (xs : BoundValues) → ((t : ValueTag) → is_some (lookup (tags.ghosts.eq t) xs) ≡ true → HasTag links t) → AllTagged links xs
all_there links [] f = tt
all_there links (x ∷ xs) f = (
  f x.0 (rw ((tag_decides x.0 x.0).1 refl) refl),
  all_there links xs (λ t e. f t (found_by (tags.ghosts.eq t x.0) x.1 (lookup (tags.ghosts.eq t) xs) e)),
)

-- what is found is counted, and so it is the value of a link
pub tag_found : (links : LinkMap) (bound : Table) → IsBound links bound → (t : ValueTag) → is_some (lookup (tags.ghosts.eq t) bound.pairs) ≡ true → HasTag links t
tag_found links bound b t e =
    let some : not (count_in t bound.counts == 0) ≡ true = sym (b.found t) ∙ e in
    ⊎_elim
    (λ h. let none = b.below t h in let one = are_some (count_in t bound.counts) some in absurd (omega (arith, none, one)))
    (λ h. tag_there t links (ap (λ n. not (n == 0)) (sym (b.counted t h)) ∙ some))
    (cases_lt t.tag bound.from)

pub all_tagged : (links : LinkMap) (bound : Table) → IsBound links bound → AllTagged links bound.pairs
all_tagged links bound b = all_there links bound.pairs (tag_found links bound b)

-- each is what a link with its tag holds
abbrev pub AllHeld : LinkMap → BoundValues → Type 0
AllHeld links [] = Unit {0}
AllHeld links (x ∷ xs) = IsLink links x × AllHeld links xs

held_there : (links : LinkMap) (xs : BoundValues) → ((i : ℕ) (x : ValueTag × Object) → slice_get xs i ≡ Some x → IsLink links x) → AllHeld links xs
held_there links [] f = tt
held_there links (x ∷ xs) f = (f 0 x refl, held_there links xs (λ i y e. f (suc i) y e))

pub all_held : (links : LinkMap) (bound : BoundValues) → IsDistinct tags.ghosts.eq (keys_of bound) → AreLinks links bound → AllHeld links bound
all_held links bound once a = held_there links bound (λ i x e. a x.0 x.1 (lookup_from_place tags_alike bound i x.0 x.1 once e))
