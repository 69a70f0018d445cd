-- An object, or the code by which it is refused.
use Rattle.std.specs.Prelude.{[], ◌∷◌, Option, Some, None, Result, Ok, Err, if◌then◌else◌}
use Rattle.dx_base.specs.declared.code.Code.{Code}
use Rattle.dx_base.specs.declared.code.Code.TheVariants.{BadArgument, TooLarge}
use Rattle.dx_base.specs.Object.{Tree}
use Rattle.dx_base.specs.ObjectLimits.{fits}
use Rattle.dx_objects.specs.Runs.{Answer}

abbrev pub Answered : Type 0 → Type 0
Answered A = Result A Code

infixl 10 ◌>>=◌
abbrev pub ◌>>=◌ : {A B : Type 0} → Answered A → (A → Answered B) → Answered B
Ok a >>= f = f a
Err code >>= f = Err code

-- what there is, and where there is none this code
abbrev pub or_refused : {A : Type 0} → Code → Option A → Answered A
or_refused code None = Err code
or_refused code (Some a) = Ok a

-- what the inputs need to be
abbrev pub needed : {A : Type 0} → Option A → Answered A
needed a = or_refused BadArgument a

-- an object beyond the limits is too large
abbrev pub in_limits : Tree → Answered Tree
in_limits t = if fits t then Ok t else Err TooLarge

-- a module's answer: the object as its one result, or the code
abbrev pub one_result : Answered Tree → Answer
one_result (Ok t) = Ok (Some t ∷ [])
one_result (Err code) = Err code
