-- What the reader's answer says, by cases.
use Rattle.std.proofs.Common.{Result, Ok, Err, IfOk, sym, ap, ◌∙◌}
use Rattle.std.specs.Prelude.{IfErr}
use Rattle.dx_places.specs.Grammar.{At, Grammar, ok_is}
use Rattle.dx_native_lex.specs.Token.{Reads}
use Rattle.dx_native_lex.specs.declared.fault.NativeError.{NativeError}
use Rattle.dx_native_lex.specs.declared.fault.NativeFail.{NativeFail}
use Rattle.dx_native_lex.specs.declared.fault.NativeFail.TheVariants as fail
use Rattle.dx_native_grammar.specs.Grammar.{File}
use Rattle.dx_native_clauses.specs.Answer.{IsOnly, OnRefused}

module _ (X : Grammar NativeError File) (s new : At) where
  pub is_found : (r : Result File NativeFail) → Reads (X.read s) r new → IfOk r (λ f. (e : At) × X.is s f e)
  is_found (Ok f) h = (new, X.law.found s f new h)
  is_found (Err e) h = tt

  pub is_only : (r : Result File NativeFail) → Reads (X.read s) r new → (f : File) (e : At) → X.is s f e → IsOnly f r
  is_only (Ok g) h f e d = ap (λ (q : File × At). q.0) (ok_is {F = NativeError} (g, new) (f, e) (sym h ∙ X.law.only s f e d))
  is_only (Err (fail.Refused d)) h f e g = let bad = sym h ∙ X.law.only s f e g in absurd cc
  is_only (Err fail.Memory) h f e d = tt

  pub is_refused : (r : Result File NativeFail) → Reads (X.read s) r new → IfErr r (OnRefused (X.fails s))
  is_refused (Ok f) h = tt
  is_refused (Err (fail.Refused d)) h = X.law.fault s d h
  is_refused (Err fail.Memory) h = tt
