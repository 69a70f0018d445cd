-- The words of an item and the lines of items, from one on.
use Rattle.std.proofs.Common.{◌≡◌, ◌<◌, ◌≤◌, ◌+◌, ◌-◌, ◌++◌, ◌∷◌, [], ℕ, zero, suc, List, map, replicate, ap, ◌∙◌, refl, sym, subst, append_assoc, append-nil, arith}
use Rattle.std.specs.List.{range_with_len}
use Rattle.std.specs.Fmt.{signed_decimal}
use Rattle.dx_base.specs.Array.{ArrayData, width, value}
use Rattle.dx_base.specs.Words.{behind}
use Rattle.dx_print.specs.ItemLines.{item_text, item_line, lines_of}

range_begin : (n : ℕ) → 0 < n → range_with_len 0 n ≡ 0 ∷ range_with_len 1 (n - 1)
range_begin n h =
    let e : suc (n - 1) ≡ n = omega arith in
    subst (λ (m : ℕ). range_with_len 0 m ≡ 0 ∷ range_with_len 1 (n - 1)) e refl

range_next : (k n : ℕ) → k < n → range_with_len k (n - k) ≡ k ∷ range_with_len (k + 1) (n - (k + 1))
range_next k n h = let e : n - k ≡ suc (n - (k + 1)) = omega arith in rw e refl

range_past : (k n : ℕ) → n ≤ k → range_with_len k (n - k) ≡ []
range_past k n h = let e : n - k ≡ 0 = omega arith in rw e refl

-- the words of item i from place k on, each behind a space
unfoldable pub words_from : ArrayData → ℕ → ℕ → List ℕ
words_from a i k = behind (map signed_decimal (map (value a i) (range_with_len k (width a - k))))

-- the first word, the next one, and the end
pub words_begin : (a : ArrayData) (i : ℕ) (text out : List ℕ) → 0 < width a → out ≡ text ++ signed_decimal (value a i 0) →
    out ++ words_from a i 1 ≡ text ++ item_text a i
unfolding words_from
words_begin a i text out h e = rw (range_begin (width a) h, e) (append_assoc text _ _)

pub words_next : (a : ArrayData) (i k : ℕ) (before out whole : List ℕ) → k < width a → before ++ words_from a i k ≡ whole →
    out ≡ (before ++ 32 ∷ []) ++ signed_decimal (value a i k) → out ++ words_from a i (k + 1) ≡ whole
unfolding words_from
words_next a i k before out whole h e next =
    let more = rw (range_next k (width a) h) at e in
    rw next (simp append_assoc more)

pub words_end : (a : ArrayData) (i k : ℕ) (out whole : List ℕ) → width a ≤ k → out ++ words_from a i k ≡ whole → out ≡ whole
unfolding words_from
words_end a i k out whole h e = sym (append-nil out) ∙ rw (range_past k (width a) h) at e

-- the lines of the items from k on, without those from n on
pub lines_next : (indent : ℕ) (a : ArrayData) (k n : ℕ) (before out whole : List ℕ) → k < n → before ++ lines_of indent a k (n - k) ≡ whole →
    out ≡ before ++ item_line indent a k → out ++ lines_of indent a (k + 1) (n - (k + 1)) ≡ whole
unfolding lines_of
lines_next indent a k n before out whole h e next =
    let one : n - k ≡ suc (n - (k + 1)) = omega arith in
    rw next (append_assoc before (item_line indent a k) _ ∙ rw one at e)

pub lines_end : (indent : ℕ) (a : ArrayData) (k n : ℕ) (out whole : List ℕ) → n ≤ k → out ++ lines_of indent a k (n - k) ≡ whole → out ≡ whole
unfolding lines_of
lines_end indent a k n out whole h e =
    let none : n - k ≡ 0 = omega arith in
    sym (append-nil out) ∙ rw none at e

-- ---- spaces

abbrev spaces : ℕ → List ℕ
spaces k = replicate k 32

abbrev one_space : List ℕ
one_space = 32 ∷ []

spaces_more : (k : ℕ) → spaces k ++ one_space ≡ spaces (suc k)
spaces_more zero = refl
spaces_more (suc k) = ap (λ (xs : List ℕ). 32 ∷ xs) (spaces_more k)

pub spaces_next : (old out new : List ℕ) (k : ℕ) → out ≡ old ++ replicate k 32 → new ≡ out ++ 32 ∷ [] → new ≡ old ++ replicate (k + 1) 32
spaces_next old out new k e f =
    let one : suc k ≡ k + 1 = omega arith in
    f ∙ ap (λ (xs : List ℕ). xs ++ one_space) e ∙ append_assoc old (spaces k) one_space ∙ ap (λ (xs : List ℕ). old ++ xs) (spaces_more k ∙ ap spaces one)
