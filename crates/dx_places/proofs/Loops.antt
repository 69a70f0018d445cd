-- One turn of a loop of the code, beside the grammar's.
use Rattle.std.proofs.Common.{◌≡◌, ◌≤◌, ◌<◌, Bool, true, false, cond, Ok, Err, ap, ◌∙◌, arith}
use Rattle.dx_places.specs.Grammar.{At, left, Outcome, Grammar, and_then, loop, loop_next}

module _ {F A : Type 0} (test : A → At → Bool) (X : A → Grammar F A) (some : (a : A) → 1 ≤ (X a).least) where
  pub goes_on : (x : Outcome F A) (a c : A) (s m : At) → x ≡ (loop test X some a).read s → test a s ≡ true → (X a).read s ≡ Ok (c, m) → x ≡ (loop test X some c).read m
  goes_on x a c s m h t r =
      h ∙ loop_next test X some a s ∙ ap (λ t. cond t (and_then ((X a).read s) (λ c m. (loop test X some c).read m)) (Ok (a, s))) t ∙ ap (λ r. and_then r (λ c m. (loop test X some c).read m)) r

  pub breaks : (x : Outcome F A) (a : A) (s : At) (f : F) → x ≡ (loop test X some a).read s → test a s ≡ true → (X a).read s ≡ Err f → x ≡ Err f
  breaks x a s f h t r =
      h ∙ loop_next test X some a s ∙ ap (λ t. cond t (and_then ((X a).read s) (λ c m. (loop test X some c).read m)) (Ok (a, s))) t ∙ ap (λ r. and_then r (λ c m. (loop test X some c).read m)) r

  pub ends : (x : Outcome F A) (a : A) (s : At) → x ≡ (loop test X some a).read s → test a s ≡ false → x ≡ Ok (a, s)
  ends x a s h t =
      h ∙ loop_next test X some a s ∙ ap (λ t. cond t (and_then ((X a).read s) (λ c m. (loop test X some c).read m)) (Ok (a, s))) t

  pub fewer : (a c : A) (s m : At) → (X a).read s ≡ Ok (c, m) → left m < left s
  fewer a c s m r = let x = (X a).law.less s c m r in let one = some a in omega arith
