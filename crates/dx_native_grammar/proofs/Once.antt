-- A text means exactly one thing.
use Rattle.std.proofs.Common.{◌≡◌, inl, inr, ℕ, List, Option, length, Result, Ok, Err, refl, sym, ap, ◌∙◌}
use Rattle.dx_base.specs.Object.{Tree}
use Rattle.dx_places.specs.Grammar.{At, Outcome, ok_is, err_is}
use Rattle.dx_native_lex.specs.declared.fault.NativeError.{NativeError}
use Rattle.dx_native_grammar.specs.Grammar.{File, file}
use Rattle.dx_native_grammar.specs.Meaning.{meant}
use Rattle.dx_native_grammar.specs.Native.{IsNative, beginning}

pub once : (bytes : List ℕ) (which : Option (List ℕ)) (r q : Result Tree NativeError) → IsNative bytes which r → IsNative bytes which q → r ≡ q
once bytes which r q (inl (e, h, p)) (inl (g, k, s)) =
    let same : e ≡ g = err_is {X = File × At} e g (sym (file.law.only_fault (beginning bytes) e h) ∙ file.law.only_fault (beginning bytes) g k) in
    p ∙ ap (λ e. Err e) same ∙ sym s
once bytes which r q (inl (e, h, p)) (inr (f, s, k, t)) = let bad = sym (file.law.only_fault (beginning bytes) e h) ∙ file.law.only (beginning bytes) f s k in absurd cc
once bytes which r q (inr (f, s, h, p)) (inl (e, k, t)) = let bad = sym (file.law.only (beginning bytes) f s h) ∙ file.law.only_fault (beginning bytes) e k in absurd cc
once bytes which r q (inr (f, s, h, p)) (inr (g, t, k, u)) =
    let same = ok_is {F = NativeError} (f, s) (g, t) (sym (file.law.only (beginning bytes) f s h) ∙ file.law.only (beginning bytes) g t k) in
    p ∙ ap (λ (x : File × At). meant x.0 which (length bytes)) same ∙ sym u

-- and every text means something
means_by : (bytes : List ℕ) (which : Option (List ℕ)) (o : Outcome NativeError File) → file.read (beginning bytes) ≡ o → (r : Result Tree NativeError) × IsNative bytes which r
means_by bytes which (Ok p) h = (meant p.0 which (length bytes), inr (p.0, p.1, file.law.found (beginning bytes) p.0 p.1 h, refl))
means_by bytes which (Err e) h = (Err e, inl (e, file.law.fault (beginning bytes) e h, refl))

pub always : (bytes : List ℕ) (which : Option (List ℕ)) → (r : Result Tree NativeError) × IsNative bytes which r
always bytes which = means_by bytes which (file.read (beginning bytes)) refl
