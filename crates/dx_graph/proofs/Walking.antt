-- The way back from a text is its spot.
use Rattle.std.proofs.Common.{◌≡◌, ℕ, ◌<◌, ◌≤◌, List, [], ◌∷◌, ◌++◌, length, get_or, take, drop, map, reverse, Option, Some, None, refl, sym, ap, subst, ◌∙◌, arith}
use Rattle.std.proofs.lemmas.List.{take-append-drop, length-take-le, reverse-append}
use Rattle.dx_macros.specs.Site.{Step, Nth}
use Rattle.dx_macros.specs.Expansion.{spot_of_call}
use Rattle.dx_graph.specs.Trails.{no_steps, spot_under, spot_of, spots_of, reach, parent, AreOrdered}
use Rattle.dx_graph.specs.declared.trail.Trail.{Trail}
use Rattle.dx_graph.specs.declared.trail.Trail.TheVariants as trail
use Rattle.dx_graph.proofs.Earlier.{at, kept_at, append_twice}

-- more trails change no earlier spot
pub under_more : (ts more : List Trail) (t : Option ℕ) → reach t ≤ length ts → spot_under (spots_of (ts ++ more)) t ≡ spot_under (spots_of ts) t
under_more ts more None h = refl
under_more ts more (Some t) h = kept_at spot_of ts more t no_steps (omega (arith, h))

spot_more : (ts more : List Trail) (t : Trail) → reach (parent t) ≤ length ts → spot_of (spots_of (ts ++ more)) t ≡ spot_of (spots_of ts) t
spot_more ts more (trail.Target name) h = refl
spot_more ts more (trail.Macro p name k) h = ap (λ s. spot_of_call s (Nth name k)) (under_more ts more p h)

-- the spot of a trail, by its parent's
pub spot_is : (ts : List Trail) (t : ℕ) (d : Trail) → AreOrdered ts → t < length ts → spot_under (spots_of ts) (Some t) ≡ spot_of (spots_of ts) (get_or ts t d)
spot_is ts t d ordered h =
    let x = get_or ts t d in
    let before = take t ts in
    let earlier : reach (parent x) ≤ length before = omega (arith, ordered t d h, length-take-le t ts (omega (arith, h))) in
    at spot_of ts t d no_steps h
    ∙ sym (spot_more before (drop t ts) x earlier)
    ∙ ap (λ us. spot_of (spots_of us) x) (take-append-drop t ts)

pub reverse_push : {A : Type 0} (xs : List A) (x : A) → reverse (xs ++ x ∷ []) ≡ x ∷ reverse xs
reverse_push xs x = reverse-append xs (x ∷ [])

pub map_push : {A B : Type 0} (f : A → B) (xs : List A) (x : A) → map f (xs ++ x ∷ []) ≡ map f xs ++ f x ∷ []
map_push f [] x = refl
map_push f (y ∷ xs) x = ap (λ zs. f y ∷ zs) (map_push f xs x)

-- the spot of a trail that was read
pub spot_read : (ts : List Trail) (number : Option ℕ) (t : ℕ) (x y : Trail) → AreOrdered ts → number ≡ Some t → t < length ts → x ≡ get_or ts t x → x ≡ y →
    spot_under (spots_of ts) number ≡ spot_of (spots_of ts) y
spot_read ts number t x y ordered is h read same = ap (spot_under (spots_of ts)) is ∙ spot_is ts t x ordered h ∙ ap (spot_of (spots_of ts)) (sym read ∙ same)

pub parent_read : (ts : List Trail) (t : ℕ) (x y : Trail) → AreOrdered ts → t < length ts → x ≡ get_or ts t x → x ≡ y → reach (parent y) ≤ length ts
parent_read ts t x y ordered h read same =
    let earlier : reach (parent y) ≤ t = subst (λ (z : Trail). reach (parent z) ≤ t) (sym read ∙ same) (ordered t x h) in
    omega (arith, earlier, h)

-- a step more on the way back
pub back_push : (base steps : List Step) (s : Step) → base ++ reverse (steps ++ s ∷ []) ≡ (base ++ s ∷ []) ++ reverse steps
back_push base steps s = ap (λ xs. base ++ xs) (reverse_push steps s) ∙ sym (append_twice base s (reverse steps))

pub map_reverse : {A B : Type 0} (f : A → B) (xs : List A) → map f (reverse xs) ≡ reverse (map f xs)
map_reverse f [] = refl
map_reverse f (x ∷ xs) =
    ap (map f) (reverse-append (x ∷ []) xs) ∙ map_push f (reverse xs) x ∙ ap (λ ys. ys ++ f x ∷ []) (map_reverse f xs) ∙ sym (reverse-append (f x ∷ []) (map f xs))
