-- What an evaluation answers.
use Rattle.std.specs.Prelude.{◌≡◌, [], ◌∷◌, ◌++◌, Result, Ok, Err, ℤ}
use Rattle.dx_expr.specs.declared.fault.EvalFail.{EvalFail}
use Rattle.dx_expr.specs.declared.fault.EvalFail.TheVariants.{Fault, Memory}
use Rattle.dx_expr.specs.Value.{Outcome, Values, ◌>>=◌}

-- the fault of the outcome, unless memory ran out
abbrev pub FailsWith : {A : Type 0} → Outcome A → EvalFail → Type 0
FailsWith outcome (Fault fault) = outcome ≡ Err fault
FailsWith outcome Memory = Unit {0}

-- the outcome, unless memory ran out
abbrev pub Gives : {A : Type 0} → Outcome A → Result A EvalFail → Type 0
Gives outcome (Ok a) = outcome ≡ Ok a
Gives outcome (Err e) = FailsWith outcome e

-- the outcome is one value, unless memory ran out
abbrev pub GivesSingle : Outcome Values → Result ℤ EvalFail → Type 0
GivesSingle outcome (Ok v) = outcome ≡ Ok (v ∷ [])
GivesSingle outcome (Err e) = FailsWith outcome e

-- these values before those of the outcome
abbrev pub behind : Values → Outcome Values → Outcome Values
behind found outcome = outcome >>= λ more. Ok (found ++ more)
