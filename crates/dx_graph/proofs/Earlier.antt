-- Lists whose elements refer to earlier ones, when they grow.
use Rattle.std.proofs.Common.{◌≡◌, ℕ, ◌+◌, ◌<◌, List, [], ◌∷◌, ◌++◌, length, get_or, take, drop, refl, sym, ap, ◌∙◌, arith, length-append}
use Rattle.std.proofs.lemmas.List.{get_or_append_left, get_or_push, take-append-drop, take_more, length-take-le}
use Rattle.dx_graph.specs.Earlier.{by_earlier}

pub append_nil : {Y : Type 0} (ys : List Y) → ys ++ [] ≡ ys
append_nil [] = refl
append_nil (y ∷ ys) = ap (λ zs. y ∷ zs) (append_nil ys)

pub append_twice : {Y : Type 0} (ys : List Y) (y : Y) (zs : List Y) → (ys ++ y ∷ []) ++ zs ≡ ys ++ y ∷ zs
append_twice [] y zs = refl
append_twice (x ∷ ys) y zs = ap (λ us. x ∷ us) (append_twice ys y zs)

pub grown : {X Y : Type 0} (f : List Y → X → Y) (found : List Y) (xs ys : List X) → by_earlier f found (xs ++ ys) ≡ by_earlier f (by_earlier f found xs) ys
grown f found [] ys = refl
grown f found (x ∷ xs) ys = grown f (found ++ f found x ∷ []) xs ys

-- one element more has the meaning that the others give it
pub one_more : {X Y : Type 0} (f : List Y → X → Y) (xs : List X) (x : X) → by_earlier f [] (xs ++ x ∷ []) ≡ by_earlier f [] xs ++ f (by_earlier f [] xs) x ∷ []
one_more f xs x = grown f [] xs (x ∷ [])

length_from : {X Y : Type 0} (f : List Y → X → Y) (found : List Y) (xs : List X) → length (by_earlier f found xs) ≡ length found + length xs
length_from f found [] = omega arith
length_from f found (x ∷ xs) = omega (arith, length_from f (found ++ f found x ∷ []) xs, length-append found (f found x ∷ []))

pub same_length : {X Y : Type 0} (f : List Y → X → Y) (xs : List X) → length (by_earlier f [] xs) ≡ length xs
same_length f xs = omega (arith, length_from f [] xs)

begins : {X Y : Type 0} (f : List Y → X → Y) (found : List Y) (xs : List X) → (more : List Y) × (by_earlier f found xs ≡ found ++ more)
begins f found [] = ([], sym (append_nil found))
begins f found (x ∷ xs) =
    let b = begins f (found ++ f found x ∷ []) xs in
    (f found x ∷ b.0, b.1 ∙ append_twice found (f found x) b.0)

-- further elements change no earlier meaning
pub kept : {X Y : Type 0} (f : List Y → X → Y) (xs ys : List X) → (more : List Y) × (by_earlier f [] (xs ++ ys) ≡ by_earlier f [] xs ++ more)
kept f xs ys =
    let b = begins f (by_earlier f [] xs) ys in
    (b.0, grown f [] xs ys ∙ b.1)

pub kept_at : {X Y : Type 0} (f : List Y → X → Y) (xs ys : List X) (n : ℕ) (d : Y) → n < length xs → get_or (by_earlier f [] (xs ++ ys)) n d ≡ get_or (by_earlier f [] xs) n d
kept_at f xs ys n d h =
    let k = kept f xs ys in
    ap (λ zs. get_or zs n d) k.1 ∙ get_or_append_left (by_earlier f [] xs) k.0 d n (omega (arith, h, same_length f xs))

pub added_at : {X Y : Type 0} (f : List Y → X → Y) (xs : List X) (x : X) (d : Y) → get_or (by_earlier f [] (xs ++ x ∷ [])) (length xs) d ≡ f (by_earlier f [] xs) x
added_at f xs x d = ap (λ zs. get_or zs (length xs) d) (one_more f xs x) ∙ get_or_push (by_earlier f [] xs) (f (by_earlier f [] xs) x) d (length xs) (same_length f xs)

-- an element means what those before it make it
pub at : {X Y : Type 0} (f : List Y → X → Y) (xs : List X) (n : ℕ) (d : X) (e : Y) → n < length xs → get_or (by_earlier f [] xs) n e ≡ f (by_earlier f [] (take n xs)) (get_or xs n d)
at f xs n d e h =
    let before = take n xs in
    let x = get_or xs n d in
    let here : length before ≡ n = length-take-le n xs (omega (arith, h)) in
    let whole : xs ≡ (before ++ x ∷ []) ++ drop (n + 1) xs = sym (ap (λ ys. ys ++ drop (n + 1) xs) (sym (take_more xs n d h)) ∙ take-append-drop (n + 1) xs) in
    ap (λ ys. get_or (by_earlier f [] ys) n e) whole
    ∙ kept_at f (before ++ x ∷ []) (drop (n + 1) xs) n e (omega (arith, here, length-append before (x ∷ [])))
    ∙ ap (λ k. get_or (by_earlier f [] (before ++ x ∷ [])) k e) (sym here)
    ∙ added_at f before x e
