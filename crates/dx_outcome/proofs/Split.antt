-- Runs that split into one part for each execution.
use Rattle.std.proofs.Common.{◌≡◌, List, [], ◌∷◌, ◌++◌, refl, sym, ap, ◌∙◌, subst, append-nil}
use Rattle.dx_cache.specs.Cached.{IsPartOf, part_none, part_keep, part_skip}
use Rattle.dx_demanded.specs.Ordered.{asked}
use Rattle.dx_meaning.specs.Outcome.{Use}
use Rattle.dx_objects.specs.Runs.{Ran}
use Rattle.dx_outcome.specs.Meaning.{AreSplit}

none_part : {A : Type 0} (xs : List A) → IsPartOf [] xs
none_part [] = part_none
none_part (x ∷ xs) = part_skip (none_part xs)

-- a front of some is some
part_of : {A : Type 0} (xs more : List A) {zs ys : List A} → IsPartOf zs ys → zs ≡ xs ++ more → IsPartOf xs ys
part_of [] more {ys = ys} p e = none_part ys
part_of (x ∷ xs) more part_none e = cc
part_of {A} (x ∷ xs) more (part_keep {x = y} {xs = zs} {ys = ys} p) e =
    let same : y ≡ x = cc in
    let rests : zs ≡ xs ++ more = cc in
    subst (λ (z : A). IsPartOf (z ∷ xs) (y ∷ ys)) same (part_keep (part_of xs more p rests))
part_of (x ∷ xs) more (part_skip {y = y} {xs = zs} {ys = ys} p) e = part_skip (part_of (x ∷ xs) more p e)

front_part : {A : Type 0} (xs more ys : List A) → IsPartOf (xs ++ more) ys → IsPartOf xs ys
front_part xs more ys p = part_of xs more p refl

pub none_split : (demanded : List (List Use)) → AreSplit [] demanded
none_split [] = refl
none_split (uses ∷ demanded) = ([], [], refl, none_part (asked uses), none_split demanded)

-- one list is split twice: the first front is within the second, or goes on behind it
data TwoSplits {A : Type 0} (a b part rest : List A) : Type 0 where
  is_within : (more : List A) → part ≡ a ++ more → TwoSplits a b part rest
  goes_on : (more : List A) → a ≡ part ++ more → rest ≡ more ++ b → TwoSplits a b part rest

with_head : {A : Type 0} (x y : A) (a b part rest : List A) → x ≡ y → TwoSplits a b part rest → TwoSplits (x ∷ a) b (y ∷ part) rest
with_head {A} x y a b part rest same (is_within more e) = is_within more (ap (λ zs. y ∷ zs) e ∙ ap (λ (z : A). z ∷ (a ++ more)) (sym same))
with_head {A} x y a b part rest same (goes_on more e f) = goes_on more (ap (λ zs. x ∷ zs) e ∙ ap (λ (z : A). z ∷ (part ++ more)) same) f

two_splits : {A : Type 0} (a b part rest : List A) → a ++ b ≡ part ++ rest → TwoSplits a b part rest
two_splits [] b part rest e = is_within part refl
two_splits (x ∷ a) b [] rest e = goes_on (x ∷ a) refl (sym e)
two_splits (x ∷ a) b (y ∷ part) rest e =
    let same : x ≡ y = cc in
    let rests : a ++ b ≡ part ++ rest = cc in
    with_head x y a b part rest same (two_splits a b part rest rests)

split_by : (uses : List Use) (demanded : List (List Use)) (a b part rest : List Ran) → TwoSplits a b part rest → IsPartOf part (asked uses)
    → ((more : List Ran) → rest ≡ more ++ b → AreSplit more demanded) → AreSplit a (uses ∷ demanded)
split_by uses demanded a b part rest (is_within more e) p f =
    (a, [], sym (append-nil a), front_part a more (asked uses) (subst (λ (rs : List Ran). IsPartOf rs (asked uses)) e p), none_split demanded)
split_by uses demanded a b part rest (goes_on more e g) p f = (part, more, e, p, f more g)

-- a front of runs that split splits
pub front_split : (demanded : List (List Use)) (a b : List Ran) → AreSplit (a ++ b) demanded → AreSplit a demanded
front_split [] [] b h = refl
front_split [] (r ∷ a) b h = cc
front_split (uses ∷ demanded) a b h =
    split_by uses demanded a b h.0 h.1 (two_splits a b h.0 h.1 h.2) h.3
    (λ more e. front_split demanded more b (subst (λ (rs : List Ran). AreSplit rs demanded) e h.4))
