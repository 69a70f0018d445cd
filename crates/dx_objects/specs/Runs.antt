-- What a library of modules answers, and the runs that it tells.
use Rattle.std.specs.Prelude.{◌≡◌, ◌⊎◌, ◌≤◌, ℕ, List, [], ◌∷◌, ◌++◌, Option, Some, None, Result, Ok, Err, length, map}
use Rattle.dx_base.specs.Object.{Tree}
use Rattle.dx_base.specs.declared.function.Module.{Module}
use Rattle.dx_base.specs.declared.code.Code.{Code}
use Rattle.dx_objects.specs.declared.run_fail.RunFail.{RunFail}
use Rattle.dx_objects.specs.declared.run_fail.RunFail.TheVariants as fail
use Rattle.dx_objects.specs.declared.library.Run.{Run}

-- inputs or results: objects, or none for NULL
abbrev pub Values : Type 0
Values = List (Option Tree)

-- a run: which module, and its inputs
abbrev pub Ran : Type 0
Ran = Module × Values

-- the results of a module, or the code by which it refuses its inputs
abbrev pub Answer : Type 0
Answer = Result Values Code

-- how many results a module has at most
abbrev pub max_results : ℕ
max_results = 64

abbrev pub HasFewResults : Answer → Type 0
HasFewResults (Ok results) = length results ≤ max_results
HasFewResults (Err code) = Unit {0}

-- a run gives this answer, or memory ran out
abbrev pub Gives : Answer → Result Values RunFail → Type 0
Gives answer (Ok results) = answer ≡ Ok results
Gives answer (Err (fail.Code code)) = answer ≡ Err code
Gives answer (Err fail.Memory) = Unit {0}

-- what is told of the runs after this one: the run stands last, and where memory ran out it may be missing
abbrev Adds : List Ran → Option (List Ran) → Ran → Result Values RunFail → Type 0
Adds old new run (Ok results) = new ≡ Some (old ++ run ∷ [])
Adds old new run (Err (fail.Code code)) = new ≡ Some (old ++ run ∷ [])
Adds old new run (Err fail.Memory) = (new ≡ Some (old ++ run ∷ [])) ⊎ (new ≡ Some old)

-- a library that tells its runs tells this one behind the earlier ones; one that tells none is free
abbrev pub Tells : Option (List Ran) → Option (List Ran) → Ran → Result Values RunFail → Type 0
Tells None new run r = Unit {0}
Tells (Some old) new run r = Adds old new run r

-- the runs that a recorder keeps
abbrev pub ran : Run → Ran
ran r = (r.«module», r.inputs)

abbrev pub all_ran : List Run → List Ran
all_ran rs = map ran rs
