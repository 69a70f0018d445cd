-- Something, or the code by which it is refused.
use Rattle.std.specs.Prelude.{List, [], ◌∷◌, Option, Some, None, Result, Ok, Err}
use Rattle.dx_base.specs.declared.code.Code.{Code}

abbrev pub Answered : Type 0 → Type 0
Answered A = Result A Code

infixl 10 ◌>>=◌
abbrev pub ◌>>=◌ : {A B : Type 0} → Answered A → (A → Answered B) → Answered B
Ok a >>= f = f a
Err code >>= f = Err code

-- what there is, and where there is none this code
abbrev pub or_refused : {A : Type 0} → Code → Option A → Answered A
or_refused code None = Err code
or_refused code (Some a) = Ok a

-- all of them, or the code of the first that is refused
abbrev pub collected : {A : Type 0} → List (Answered A) → Answered (List A)
collected [] = Ok []
collected (a ∷ rest) = a >>= λ x. collected rest >>= λ xs. Ok (x ∷ xs)
