-- What stands where words are shown: tokens, numbers and runs of them.
use Rattle.std.proofs.Common.{◌≡◌, ◌==◌, ℕ, zero, suc, ◌+◌, ◌<◌, ◌≤◌, ◌≤ℤ◌, Bool, true, false, cond, List, [], ◌∷◌, ◌++◌, length, map, Option, Some, None, ℤ, pos, negsuc, refl, sym, ap, ◌∙◌, subst, append_assoc, append-nil, arith}
use Rattle.std.specs.Prelude.{bytes_eq, codes, int_le, ◌&&◌}
use Rattle.std.specs.Fmt.{decimal, signed_decimal}
use Rattle.dx_places.specs.Grammar.{At, Grammar, chosen}
use Rattle.dx_native_lex.specs.Scan.{Found, lexed, number_of, meaning_of}
use Rattle.dx_base.specs.declared.code.NativeKind.TheVariants as fault
use Rattle.dx_native_lex.specs.Token.{NativeGrammar, error, key as key_token, key_in, named, quoted as quoted_token, named_in, text_in, none_of, number as number_token, number_in, number_with, class_of, sees, is_key}
use Rattle.dx_native_lex.specs.declared.fault.NativeError.{NativeError}
use Rattle.dx_native_lex.specs.declared.token.Named.{Named}
use Rattle.dx_native_lex.specs.declared.token.Number.{Number}
use Rattle.dx_native_grammar.specs.Grammar.{bounded, natural as natural_number, int as int_number, counted}
use Rattle.dx_native_grammar.specs.Words.{bounds_fault, magnitude}
use Rattle.dx_base.specs.Words.{all_escaped}
use Rattle.dx_native_text.specs.Lines.{Word, bare, in_quotes}
use Rattle.dx_native_law.proofs.LaidLines.{natural, number}
use Rattle.dx_native_law.proofs.Runs.{Runs, found_of, tail_of}
use Rattle.dx_native_law.proofs.Tokens.{meant}
use Rattle.dx_native_law.proofs.Numbers.{IsSmall, signed_again}

-- ---- choices

pub first_of_two : (P Q : Type 0) (b : Bool) → b ≡ true → P → chosen b P Q
first_of_two P Q true e p = p
first_of_two P Q false e p = absurd cc

pub second_of_two : (P Q : Type 0) (b : Bool) → b ≡ false → Q → chosen b P Q
second_of_two P Q true e q = absurd cc
second_of_two P Q false e q = q

-- ---- looking ahead

abbrev pub is_word : List ℕ → Word → Bool
is_word v (bare w) = bytes_eq w v
is_word v (in_quotes b) = false

pub sees_word : (v : List ℕ) (w : Word) (ws : List Word) (s e : At) → Runs s (w ∷ ws) e → sees v s ≡ is_word v w
sees_word v (bare w) ws s e h = ap (λ (f : Found). is_key v f.kind f.content) h.it.2
sees_word v (in_quotes b) ws s e h = ap (λ (f : Found). is_key v f.kind f.content) h.it.2

-- ---- tokens

abbrev pub named_at : List ℕ → ℕ → Named
named_at w o = record { text = w; at = o }

pub key_stands : (w : List ℕ) (ws : List Word) (s e : At) → bytes_eq w w ≡ true → Runs s (bare w ∷ ws) e → (m : At) × (key_token w).is s tt m × Runs m ws e
unfolding key_token
key_stands w ws s e same h = (h.it.1, (ap (class_of (key_in w) none_of) h.it.2 ∙ ap (λ b. cond b (Some tt) None) same, ap (λ (f : Found). f.after) h.it.2), tail_of h)

pub named_stands : (w : List ℕ) (ws : List Word) (s e : At) → Runs s (bare w ∷ ws) e → (o : ℕ) × (m : At) × named.is s (named_at w o) m × Runs m ws e
unfolding named
named_stands w ws s e h = (h.it.0, h.it.1, (ap (class_of named_in text_in) h.it.2, ap (λ (f : Found). f.after) h.it.2), tail_of h)

pub quoted_stands : (b : List ℕ) (ws : List Word) (s e : At) → Runs s (in_quotes b ∷ ws) e → (o : ℕ) × (m : At) × quoted_token.is s (named_at b o) m × Runs m ws e
unfolding quoted_token
quoted_stands b ws s e h =
    (h.it.0, h.it.1, (ap (class_of none_of text_in) h.it.2 ∙ ap (λ (t : List ℕ). let n : Named = named_at t h.it.0 in Some n) (meant b), ap (λ (f : Found). f.after) h.it.2), tail_of h)

abbrev pub number_at : ℤ → ℕ → Number
number_at z o = record { value = z; at = o }

pub number_stands : (z : ℤ) (ws : List Word) (s e : At) → IsSmall z → Runs s (number z ∷ ws) e → (o : ℕ) × (m : At) × number_token.is s (number_at z o) m × Runs m ws e
unfolding number_token
number_stands z ws s e small h =
    (h.it.0, h.it.1, (ap (class_of number_in none_of) h.it.2 ∙ ap (number_with h.it.0) (signed_again z small), ap (λ (f : Found). f.after) h.it.2), tail_of h)

-- ---- numbers between bounds

abbrev pub IsBetween : ℤ → ℤ → ℤ → Type 0
IsBetween low high z = (int_le low z && int_le z high) ≡ true

pub bounded_stands : (low high z : ℤ) (ws : List Word) (s e : At) → IsSmall z → IsBetween low high z → Runs s (number z ∷ ws) e → (m : At) × (bounded low high).is s z m × Runs m ws e
unfolding bounded
bounded_stands low high z ws s e small within h =
    let n = number_stands z ws s e small h in
    (n.1, (n.1, number_at z n.0, n.2, (n.1, tt, (ap (λ t. cond t None (Some (error fault.ValueRange n.0))) within, refl), (refl, refl))), n.3)

pub natural_stands : (low high n : ℕ) (ws : List Word) (s e : At) → n < 10000000000 → IsBetween (pos low) (pos high) (pos n) → Runs s (natural n ∷ ws) e → (m : At) × (natural_number low high).is s n m × Runs m ws e
unfolding natural_number
natural_stands low high n ws s e small within h =
    let b = bounded_stands (pos low) (pos high) (pos n) ws s e small within h in
    (b.0, (b.0, pos n, b.1, (refl, refl)), b.2)

-- ---- runs of numbers

module _ {A : Type 0} (X : NativeGrammar A) (word : A → Word) (P : A → Type 0)
    (one : (a : A) (ws : List Word) (s e : At) → P a → Runs s (word a ∷ ws) e → (m : At) × X.is s a m × Runs m ws e) where
  abbrev pub AreAll : List A → Type 0
  AreAll [] = Unit {0}
  AreAll (a ∷ as_) = P a × AreAll as_

  pub counted_stands : (all found : List A) (ws : List Word) (s e : At) → AreAll all → Runs s (map word all ++ ws) e
      → (m : At) × (counted X (length all) found).is s (found ++ all) m × Runs m ws e
  unfolding counted
  counted_stands [] found ws s e h r = (s, (sym (append-nil found), refl), r)
  counted_stands (a ∷ rest) found ws s e h r =
      let first = one a (map word rest ++ ws) s e h.0 r in
      let more = counted_stands rest (found ++ a ∷ []) ws first.0 e h.1 first.2 in
      (more.0, (first.0, a, first.1, subst (λ (l : List A). (counted X (length rest) (found ++ a ∷ [])).is first.0 l more.0) (append_assoc found (a ∷ []) rest) more.1), more.2)

-- ---- numbers of a type, in rows

pub record IsIn (low high z : ℤ) : Type 0 where
  pub small : IsSmall z
  pub between : IsBetween low high z

pub one_number : (low high : ℤ) (z : ℤ) (ws : List Word) (s e : At) → IsIn low high z → Runs s (number z ∷ ws) e → (m : At) × (bounded low high).is s z m × Runs m ws e
one_number low high z ws s e h r = bounded_stands low high z ws s e h.small h.between r

pub record IsNatural (low high n : ℕ) : Type 0 where
  pub small : n < 10000000000
  pub between : IsBetween (pos low) (pos high) (pos n)

pub one_natural : (low high : ℕ) (n : ℕ) (ws : List Word) (s e : At) → IsNatural low high n → Runs s (natural n ∷ ws) e → (m : At) × (natural_number low high).is s n m × Runs m ws e
one_natural low high n ws s e h r = natural_stands low high n ws s e h.small h.between r

abbrev pub AreIn : ℤ → ℤ → List ℤ → Type 0
AreIn low high zs = AreAll (bounded low high) number (IsIn low high) (one_number low high) zs

abbrev pub AreNatural : ℕ → ℕ → List ℕ → Type 0
AreNatural low high ns = AreAll (natural_number low high) natural (IsNatural low high) (one_natural low high) ns

pub numbers_stand : (low high : ℤ) (zs found : List ℤ) (ws : List Word) (s e : At) → AreIn low high zs → Runs s (map number zs ++ ws) e
    → (m : At) × (counted (bounded low high) (length zs) found).is s (found ++ zs) m × Runs m ws e
numbers_stand low high zs found ws s e h r = counted_stands (bounded low high) number (IsIn low high) (one_number low high) zs found ws s e h r

pub naturals_stand : (low high : ℕ) (ns found : List ℕ) (ws : List Word) (s e : At) → AreNatural low high ns → Runs s (map natural ns ++ ws) e
    → (m : At) × (counted (natural_number low high) (length ns) found).is s (found ++ ns) m × Runs m ws e
naturals_stand low high ns found ws s e h r = counted_stands (natural_number low high) natural (IsNatural low high) (one_natural low high) ns found ws s e h r
