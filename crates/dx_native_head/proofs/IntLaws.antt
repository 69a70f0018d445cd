-- Numbers that are read as ints are ints.
use Rattle.std.proofs.Common.{◌≡◌, ℕ, zero, suc, ℤ, Bool, true, false, ◌&&◌, List, [], ◌∷◌, ◌++◌, None, Some, Ok, Err, refl, ap, sym, subst, ◌∙◌, arith}
use Rattle.std.specs.Prelude.{if◌then◌else◌, int_le}
use Rattle.std.specs.List.{All}
use Rattle.std.proofs.lemmas.Int.{ints}
use Rattle.std.proofs.lemmas.List.Elements.{All-push}
use Rattle.dx_base.specs.declared.code.NativeKind.TheVariants as fault
use Rattle.dx_places.specs.Grammar.{At, Outcome, and_then, allow_by, unless, ok_is}
use Rattle.dx_native_lex.specs.Token.{number, error}
use Rattle.dx_native_lex.specs.declared.fault.NativeError.{NativeError}
use Rattle.dx_native_lex.specs.declared.token.Number.{Number}
use Rattle.dx_native_grammar.specs.Grammar.{bounded, counted, int}
use Rattle.dx_native_grammar.specs.Words.{bounds_fault, int_low, int_high}
use Rattle.dx_native_head.specs.Many.{IsInt}
use Rattle.dx_native_head.proofs.ManyLaws.{found_one, refused_one}

-- ---- one number

by_test : (v : ℤ) (n : Number) (m e : At) (t : Bool) → (int_le int_low n.value && int_le n.value int_high) ≡ t → and_then (allow_by (if t then None else Some (error fault.ValueRange n.at)) m) (λ _ m. Ok (n.value, m)) ≡ Ok (v, e) → IsInt v
by_test v n m e true is h =
    let same : n.value ≡ v = ap (λ (p : ℤ × At). p.0) (ok_is {F = NativeError} (n.value, m) (v, e) h) in
    subst IsInt same (record { low = grind (arith, ints, is); high = grind (arith, ints, is) })
by_test v n m e false is h = absurd cc

by_number : (v : ℤ) (e : At) (r : Outcome NativeError Number) → and_then r (λ (n : Number) m. and_then ((unless (bounds_fault int_low int_high n)).read m) (λ _ m. Ok (n.value, m))) ≡ Ok (v, e) → IsInt v
by_number v e (Ok (n, m)) h = by_test v n m e (int_le int_low n.value && int_le n.value int_high) refl h
by_number v e (Err f) h = absurd cc

is_int : (v : ℤ) (s e : At) → int.read s ≡ Ok (v, e) → IsInt v
unfolding bounded
is_int v s e h = by_number v e (number.read s) h

-- ---- so many, behind others

none_more : (found vs : List ℤ) (s e : At) → All IsInt found → (counted int zero found).read s ≡ Ok (vs, e) → All IsInt vs
unfolding counted
none_more found vs s e all h =
    let same : found ≡ vs = ap (λ (p : List ℤ × At). p.0) (ok_is {F = NativeError} (found, s) (vs, e) h) in
    subst (λ vs. All IsInt vs) same all

one_more : (n : ℕ) (found vs : List ℤ) (s e : At) → All IsInt found → ((found : List ℤ) (m : At) → All IsInt found → (counted int n found).read m ≡ Ok (vs, e) → All IsInt vs)
    → (r : Outcome NativeError ℤ) → int.read s ≡ r → (counted int (suc n) found).read s ≡ Ok (vs, e) → All IsInt vs
one_more n found vs s e all rest (Ok (v, m)) is h =
    rest (found ++ v ∷ []) m (All-push IsInt found v all (is_int v s m is)) (sym (found_one int n found s m v is) ∙ h)
one_more n found vs s e all rest (Err f) is h = let g = refused_one int n found s f is in absurd cc

pub are_ints : (n : ℕ) (found vs : List ℤ) (s e : At) → All IsInt found → (counted int n found).read s ≡ Ok (vs, e) → All IsInt vs
are_ints zero found vs s e all h = none_more found vs s e all h
are_ints (suc n) found vs s e all h = one_more n found vs s e all (λ found m all. are_ints n found vs m e all) (int.read s) refl h
