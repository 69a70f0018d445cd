-- A list that is read by an order: its elements at the order's numbers.
use Rattle.std.proofs.Common.{◌≡◌, ◌<◌, ℕ, suc, List, [], ◌∷◌, ◌++◌, map, length, get_or, set, take, drop, refl, sym, ap, ◌∙◌, subst, arith, ◌⊎◌, inl, inr}
use Rattle.std.specs.List.{All, insert, remove, swap, range_with_len}
use Rattle.std.proofs.lemmas.Bool.{cases_eq}
use Rattle.std.proofs.lemmas.List.{length-map, length-set, get_or-map, get_or-set_same, get_or-set_other, get_or_push, get_or_append_left, get_or-take, get_or_default, map-append, take-map, drop-map, same_lists}
use Rattle.std.proofs.lemmas.List.Edits.{Swapped, length-swap, swapped_from_swap}
use Rattle.std.proofs.lemmas.List.Elements.{All-take, All-drop}
use Rattle.std.proofs.lemmas.List.FromFn.{length-range_with_len, get_or-range_with_len}

module _ {X : Type 0} (d : X) where
  abbrev pub read : List X → List ℕ → List X
  read xs ns = map (λ n. get_or xs n d) ns

  -- two lists that agree at an order's numbers
  same_read : (xs ys : List X) (ns : List ℕ) → ((k : ℕ) → k < length ns → get_or xs (get_or ns k 0) d ≡ get_or ys (get_or ns k 0) d) → read xs ns ≡ read ys ns
  same_read xs ys [] h = refl
  same_read xs ys (n ∷ ns) h = λ j. h 0 (omega arith) j ∷ same_read xs ys ns (λ k l. h (suc k) (omega (arith, l))) j

  pub read_at : (xs : List X) (ns : List ℕ) (i : ℕ) (e : X) → i < length ns → get_or (read xs ns) i e ≡ get_or xs (get_or ns i 0) d
  read_at xs ns i e h = get_or-map (λ n. get_or xs n d) ns i 0 e h

  -- an element is replaced that stands once in the order
  pub read_set : (xs : List X) (ns : List ℕ) (i n : ℕ) (x : X) → i < length ns → get_or ns i 0 ≡ n → n < length xs → ((k : ℕ) → k < length ns → get_or ns k 0 ≡ n → k ≡ i)
      → read (set xs n x) ns ≡ set (read xs ns) i x
  read_set xs ns i n x h at within once = same_lists _ _ (length-map ns _ ∙ sym (length-set (read xs ns) i x ∙ length-map ns _)) (λ k e l. by k e (omega (arith, l, length-map ns (λ m. get_or (set xs n x) m d))) (cases_eq k i))
    where
      by : (k : ℕ) (e : X) → k < length ns → (k ≡ i) ⊎ (k ≡ i → ⊥) → get_or (read (set xs n x) ns) k e ≡ get_or (set (read xs ns) i x) k e
      by k e l c =
          read_at (set xs n x) ns k e l
          ∙ elim c [
            | inl same ↦ ap (λ m. get_or (set xs n x) m d) (ap (λ m. get_or ns m 0) same ∙ at) ∙ get_or-set_same xs n x d within
                ∙ sym (ap (λ m. get_or (set (read xs ns) i x) m e) same ∙ get_or-set_same (read xs ns) i x e (subst (λ m. i < m) (sym (length-map ns _)) h))
            | inr off ↦ get_or-set_other xs n (get_or ns k 0) x d (λ q. off (once k l q))
                ∙ sym (get_or-set_other (read xs ns) i k x e off ∙ read_at xs ns k e l)
          ]

  -- an element is pushed, and its number put into the order
  pub read_insert : (xs : List X) (ns : List ℕ) (i : ℕ) (x : X) → All (λ n. n < length xs) ns → read (xs ++ x ∷ []) (insert ns i (length xs)) ≡ insert (read xs ns) i x
  read_insert xs ns i x below =
      map-append (λ n. get_or (xs ++ x ∷ []) n d) (take i ns) (length xs ∷ drop i ns)
      ∙ (λ j. old (take i ns) (All-take (λ n. n < length xs) i ns below) j ++ get_or_push xs x d (length xs) refl j ∷ old (drop i ns) (All-drop (λ n. n < length xs) i ns below) j)
      ∙ sym (λ j. take-map (λ n. get_or xs n d) i ns j ++ x ∷ drop-map (λ n. get_or xs n d) i ns j)
    where
      old : (ms : List ℕ) → All (λ n. n < length xs) ms → read (xs ++ x ∷ []) ms ≡ read xs ms
      old ms b = same_read (xs ++ x ∷ []) xs ms (λ k l. get_or_append_left xs (x ∷ []) d (get_or ms k 0) (b k 0 l))

  -- a number is taken out of the order, and the elements past the others go
  pub read_remove : (xs : List X) (ns : List ℕ) (i n : ℕ) → All (λ m. m < n) (remove ns i) → read (take n xs) (remove ns i) ≡ remove (read xs ns) i
  read_remove xs ns i n below =
      same_read (take n xs) xs (remove ns i) (λ k l. get_or-take n xs (get_or (remove ns i) k 0) d (below k 0 l))
      ∙ map-append (λ m. get_or xs m d) (take i ns) (drop (suc i) ns)
      ∙ sym (λ j. take-map (λ m. get_or xs m d) i ns j ++ drop-map (λ m. get_or xs m d) (suc i) ns j)

  -- two elements change places, and so do their numbers, each of which stands once
  pub read_swap : (xs : List X) (ns : List ℕ) (i j a b : ℕ) → i < length ns → j < length ns → a < length xs → b < length xs → get_or ns i 0 ≡ a → get_or ns j 0 ≡ b
      → ((k : ℕ) → k < length ns → get_or ns k 0 ≡ a → k ≡ i) → ((k : ℕ) → k < length ns → get_or ns k 0 ≡ b → k ≡ j)
      → read (swap xs a b) (swap ns i j) ≡ read xs ns
  read_swap xs ns i j a b h_i h_j h_a h_b at_i at_j once_a once_b = same_lists _ _ (length-map ms _ ∙ len ∙ sym (length-map ns _)) (λ k e l. by k e (omega (arith, l, len, length-map ms (λ m. get_or ys m d))))
    where
      ys : List X
      ys = swap xs a b

      ms : List ℕ
      ms = swap ns i j

      len : length ms ≡ length ns
      len = length-swap ns i j

      moved : Swapped (λ n. get_or xs n d) (λ n. get_or ys n d) a b
      moved = swapped_from_swap xs ys a b d h_a h_b refl

      turned : Swapped (λ k. get_or ns k 0) (λ k. get_or ms k 0) i j
      turned = swapped_from_swap ns ms i j 0 h_i h_j refl

      number : (k : ℕ) → k < length ns → (k ≡ i) ⊎ (k ≡ i → ⊥) → (k ≡ j) ⊎ (k ≡ j → ⊥) → get_or ys (get_or ms k 0) d ≡ get_or xs (get_or ns k 0) d
      number k l p q = elim p [
        | inl same ↦ ap (λ m. get_or ys (get_or ms m 0) d) same ∙ ap (λ m. get_or ys m d) (turned.0 ∙ at_j) ∙ moved.1 ∙ ap (λ m. get_or xs m d) (sym at_i) ∙ ap (λ m. get_or xs (get_or ns m 0) d) (sym same)
        | inr off ↦ elim q [
          | inl same ↦ ap (λ m. get_or ys (get_or ms m 0) d) same ∙ ap (λ m. get_or ys m d) (turned.1 ∙ at_i) ∙ moved.0 ∙ ap (λ m. get_or xs m d) (sym at_j) ∙ ap (λ m. get_or xs (get_or ns m 0) d) (sym same)
          | inr far ↦ ap (λ m. get_or ys m d) (turned.2 k off far) ∙ moved.2 (get_or ns k 0) (λ e. off (once_a k l e)) (λ e. far (once_b k l e))
        ]
      ]

      by : (k : ℕ) (e : X) → k < length ns → get_or (read ys ms) k e ≡ get_or (read xs ns) k e
      by k e l = read_at ys ms k e (subst (λ m. k < m) (sym len) l) ∙ number k l (cases_eq k i) (cases_eq k j) ∙ sym (read_at xs ns k e l)

  -- all elements, one after the other
  pub read_all : (xs : List X) → read xs (range_with_len 0 (length xs)) ≡ xs
  read_all xs = same_lists _ _ (length-map _ _ ∙ length-range_with_len 0 (length xs)) (λ k e l. by k e (omega (arith, l, length-map (range_with_len 0 (length xs)) (λ m. get_or xs m d), length-range_with_len 0 (length xs))))
    where
      by : (k : ℕ) (e : X) → k < length xs → get_or (read xs (range_with_len 0 (length xs))) k e ≡ get_or xs k e
      by k e l =
          read_at xs (range_with_len 0 (length xs)) k e (subst (λ m. k < m) (sym (length-range_with_len 0 (length xs))) l)
          ∙ (let number = get_or-range_with_len 0 (length xs) k 0 l in let same : get_or (range_with_len 0 (length xs)) k 0 ≡ k = omega (arith, number) in ap (λ m. get_or xs m d) same)
          ∙ get_or_default xs k d e l
