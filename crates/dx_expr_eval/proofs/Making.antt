-- The components of an expression, one after the other.
use Rattle.std.proofs.Common.{◌≡◌, ℕ, zero, suc, ◌+◌, ◌<◌, [], ◌∷◌, ◌++◌, length, get_or, refl, ap, ◌∙◌, arith}
use Rattle.std.specs.Prelude.{map}
use Rattle.std.specs.List.{range_with_len}

range_more : {B : Type 0} (f : ℕ → B) (from n : ℕ) → map f (range_with_len from (n + 1)) ≡ map f (range_with_len from n) ++ f (from + n) ∷ []
range_more f from zero = ap (λ k. f k ∷ []) (let e : from ≡ from + 0 = omega arith in e)
range_more f from (suc n) = ap (λ k. map f (range_with_len from k)) (let e : suc n + 1 ≡ suc (n + 1) = omega arith in e) ∙ ap (λ l. f from ∷ l) (range_more f (from + 1) n ∙ ap (λ k. map f (range_with_len (from + 1) n) ++ f k ∷ []) (let e : from + 1 + n ≡ from + suc n = omega arith in e))

-- one more
pub first_more : {B : Type 0} (f : ℕ → B) (n : ℕ) → map f (range_with_len 0 (n + 1)) ≡ map f (range_with_len 0 n) ++ f n ∷ []
first_more f n = range_more f 0 n ∙ ap (λ k. map f (range_with_len 0 n) ++ f k ∷ []) (let e : 0 + n ≡ n = omega arith in e)

pub range_map_length : {B : Type 0} (f : ℕ → B) (from n : ℕ) → length (map f (range_with_len from n)) ≡ n
range_map_length f from zero = refl
range_map_length f from (suc n) = ap suc (range_map_length f (from + 1) n)

range_map_at : {B : Type 0} (f : ℕ → B) (from n i : ℕ) (d : B) → i < n → get_or (map f (range_with_len from n)) i d ≡ f (from + i)
range_map_at f from zero i d h = absurd (omega arith)
range_map_at f from (suc n) zero d h = ap f (omega arith)
range_map_at f from (suc n) (suc i) d h = range_map_at f (from + 1) n i d (omega arith) ∙ ap f (let e : from + 1 + i ≡ from + suc i = omega arith in e)

pub first_at : {B : Type 0} (f : ℕ → B) (n i : ℕ) (d : B) → i < n → get_or (map f (range_with_len 0 n)) i d ≡ f i
first_at f n i d h = range_map_at f 0 n i d h ∙ ap f (let e : 0 + i ≡ i = omega arith in e)
