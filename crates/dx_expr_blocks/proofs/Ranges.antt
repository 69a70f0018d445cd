-- The items of a block, by their kind.
use Rattle.std.proofs.Common.{◌≡◌, ℕ, zero, suc, ◌+◌, ◌-◌, ◌*◌, ◌<◌, ◌≤◌, List, [], ◌∷◌, length, take, refl, sym, ap, subst, ◌∙◌, arith}
use Rattle.std.specs.Prelude.{slice_index, map}
use Rattle.std.specs.List.{range_with_len}
use Rattle.std.proofs.lemmas.List.FromFn.{length-range_with_len, get_or-range_with_len}
use Rattle.dx_expr_blocks.specs.declared.block.Block.{Block}
use Rattle.dx_expr_blocks.specs.declared.block.Block.TheVariants.{Range}
use Rattle.dx_expr_blocks.specs.Items.{items_of, all_below}

pub below_range : (b : Block) (from to place : ℕ) → b ≡ Range from to → place < length (items_of b) → place < to - from
below_range b from to place is h =
    let g : place < length (range_with_len from (to - from)) = subst (λ b. place < length (items_of b)) is h in
    omega (arith, length-range_with_len from (to - from))

pub at_range : (b : Block) (from to place : ℕ) → b ≡ Range from to → place < length (items_of b) → from + place ≡ slice_index (items_of b) place
at_range b from to place is h =
    let g : place < length (range_with_len from (to - from)) = subst (λ b. place < length (items_of b)) is h in
    sym (get_or-range_with_len from (to - from) place 0 (omega (arith, length-range_with_len from (to - from)))) ∙ ap (λ b. slice_index (items_of b) place) (sym is)

pub take_range : (from n k : ℕ) → k ≤ n → take k (range_with_len from n) ≡ range_with_len from k
take_range from n zero h = refl
take_range from zero (suc k) h = absurd (omega arith)
take_range from (suc n) (suc k) h = ap (λ l. from ∷ l) (take_range (from + 1) n k (omega arith))

pub first_range : (b : Block) (from to n : ℕ) → b ≡ Range from to → n ≤ length (items_of b) → range_with_len from (from + n - from) ≡ take n (items_of b)
first_range b from to n is h =
    let g : n ≤ length (range_with_len from (to - from)) = subst (λ b. n ≤ length (items_of b)) is h in
    ap (range_with_len from) (omega arith) ∙ sym (take_range from (to - from) n (omega (arith, length-range_with_len from (to - from)))) ∙ ap (λ b. take n (items_of b)) (sym is)

pub below_first : (b : Block) (from to n : ℕ) → b ≡ Range from to → n ≤ length (items_of b) → n ≤ to - from
below_first b from to n is h =
    let g : n ≤ length (range_with_len from (to - from)) = subst (λ b. n ≤ length (items_of b)) is h in
    omega (arith, length-range_with_len from (to - from))

-- the item at a place of a range
pub in_range : (from n place : ℕ) → place < length (range_with_len from n) → from + place ≡ slice_index (range_with_len from n) place
in_range from n place h = sym (get_or-range_with_len from n place 0 (omega (arith, length-range_with_len from n)))

-- and where its row stands
pub row_in_range : (from n width column place : ℕ) → place < length (range_with_len from n) → from * width + column + place * width ≡ slice_index (range_with_len from n) place * width + column
row_in_range from n width column place h =
    let e : from * width + column + place * width ≡ (from + place) * width + column = omega arith in
    e ∙ ap (λ k. k * width + column) (in_range from n place h)

-- ---- items below a number

pub below_at : (n : ℕ) (l : List ℕ) → all_below n l → (p : ℕ) → p < length l → slice_index l p < n
below_at n [] h p below = absurd (omega arith)
below_at n (i ∷ l) h zero below = h.0
below_at n (i ∷ l) h (suc p) below = below_at n l h.1 p (omega arith)

pub below_more : (n m : ℕ) (l : List ℕ) → n ≤ m → all_below n l → all_below m l
below_more n m [] e h = tt
below_more n m (i ∷ l) e h = let first : i < n = h.0 in (omega arith, below_more n m l e h.1)

pub below_take : (n k : ℕ) (l : List ℕ) → all_below n l → all_below n (take k l)
below_take n zero l h = tt
below_take n (suc k) [] h = tt
below_take n (suc k) (i ∷ l) h = (h.0, below_take n k l h.1)

pub map_below : {B : Type 0} → (f g : ℕ → B) (n : ℕ) (l : List ℕ) → all_below n l → ((i : ℕ) → i < n → f i ≡ g i) → map f l ≡ map g l
map_below f g n [] below h = refl
map_below f g n (i ∷ l) below h = ap (λ x. x ∷ map f l) (h i below.0) ∙ ap (λ t. g i ∷ t) (map_below f g n l below.1 h)

pub below_range_all : (n from k : ℕ) → from + k ≤ n → all_below n (range_with_len from k)
below_range_all n from zero h = tt
below_range_all n from (suc k) h = (omega arith, below_range_all n (from + 1) k (omega arith))

pub below_span : (n from k : ℕ) → (zero < k → from + k ≤ n) → all_below n (range_with_len from k)
below_span n from zero h = tt
below_span n from (suc k) h = let g : from + suc k ≤ n = h (omega arith) in (omega (arith, g), below_range_all n (from + 1) k (omega (arith, g)))
