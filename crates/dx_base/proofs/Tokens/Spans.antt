-- The longest front of a text whose bytes are of one class.
use Rattle.std.specs.Prelude.{◌||◌, ◌&&◌}
use Rattle.std.proofs.Common.{◌≡◌, ℕ, suc, ◌+◌, List, [], ◌∷◌, ◌++◌, length, take, drop, Bool, true, false, cond, refl, sym, ap, arith, ◌⊎◌, inl, inr, not, ◌∙◌}
use Rattle.std.specs.List.{prefix_len}
use Rattle.std.proofs.lemmas.List.{take-append-drop}
use Rattle.dx_base.specs.Tokens.Classes.{Each, Stops}

pub decided : (b : Bool) → (b ≡ true) ⊎ (b ≡ false)
decided true = inl refl
decided false = inr refl

pub one_more : (n : ℕ) → 1 + n ≡ suc n
one_more n = omega arith

pub stopped : (p : ℕ → Bool) (rest : List ℕ) → Stops p rest → prefix_len p rest ≡ 0
stopped p [] stops = refl
stopped p (b ∷ rest) stops = rw stops refl

-- such a front is what a reading takes
pub span : (p : ℕ → Bool) (front rest : List ℕ) → Each p front → Stops p rest → prefix_len p (front ++ rest) ≡ length front
span p [] rest each stops = stopped p rest stops
span p (b ∷ front) rest each stops = rw each.0 (one_more (prefix_len p (front ++ rest)) ∙ ap suc (span p front rest each.1 stops))

pub each_taken : (p : ℕ → Bool) (text : List ℕ) → Each p (take (prefix_len p text) text)
each_taken p [] = tt
each_taken p (b ∷ rest) = by_test (p b) refl (each_taken p rest)
  where
    by_test : (x : Bool) → p b ≡ x → Each p (take (prefix_len p rest) rest) → Each p (take (cond x (1 + prefix_len p rest) 0) (b ∷ rest))
    by_test true e each = rw one_more (e, each)
    by_test false e each = tt

pub stops_behind : (p : ℕ → Bool) (text : List ℕ) → Stops p (drop (prefix_len p text) text)
stops_behind p [] = tt
stops_behind p (b ∷ rest) = by_test (p b) refl (stops_behind p rest)
  where
    by_test : (x : Bool) → p b ≡ x → Stops p (drop (prefix_len p rest) rest) → Stops p (drop (cond x (1 + prefix_len p rest) 0) (b ∷ rest))
    by_test true e stops = rw one_more stops
    by_test false e stops = e

-- a text is its longest such front, and what follows
pub record IsSpan (p : ℕ → Bool) (text : List ℕ) : Type 0 where
  pub front : List ℕ
  pub rest : List ℕ
  pub parts : text ≡ front ++ rest
  pub each : Each p front
  pub stops : Stops p rest

pub spanned : (p : ℕ → Bool) (text : List ℕ) → IsSpan p text
spanned p text = record {
  front = take (prefix_len p text) text;
  rest = drop (prefix_len p text) text;
  parts = sym (take-append-drop (prefix_len p text) text);
  each = each_taken p text;
  stops = stops_behind p text;
}

pub and_no : (x y : Bool) → (x ≡ true → y ≡ false) → (x && y) ≡ false
and_no true y no_y = no_y refl
and_no false y no_y = refl

pub and_yes : (x y : Bool) → x ≡ true → y ≡ true → (x && y) ≡ true
and_yes x y p q = rw p q

pub or_no : (x y : Bool) → x ≡ false → y ≡ false → (x || y) ≡ false
or_no x y p q = rw p q

pub not_yes : (x : Bool) → not x ≡ false → x ≡ true
not_yes true e = refl
not_yes false e = absurd cc

pub not_no : (x : Bool) → not x ≡ true → x ≡ false
not_no true e = absurd cc
not_no false e = refl
