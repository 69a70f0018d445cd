-- An error that is handed on.
use Rattle.std.proofs.Common.{◌≡◌, Option, Some, None, Result, Err, sym, subst}
use Rattle.std.specs.Prelude.{IfSome}
use Rattle.dx_base.specs.Answers.{Answers}

-- where a part is refused, so is the whole
pub passed_on : {A B E R : Type 0} (refusal : E → Option R) (there : Result A R) (whole : Result B R) (e : E) (r : Result B E) → r ≡ Err e → ((f : R) → there ≡ Err f → whole ≡ Err f) → IfSome (refusal e) (λ f. there ≡ Err f) → Answers refusal whole r
passed_on {A} {B} {E} {R} refusal there whole e r is step h = subst (λ r. Answers refusal whole r) (sym is) (by (refusal e) h)
  where
    by : (o : Option R) → IfSome o (λ f. there ≡ Err f) → IfSome o (λ f. whole ≡ Err f)
    by None h = tt
    by (Some f) h = step f h
