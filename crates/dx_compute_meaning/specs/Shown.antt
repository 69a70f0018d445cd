-- What contracts see of the code's lists: objects and arrays in the places of those that it borrows.
use Rattle.std.specs.Prelude.{◌≡◌, ◌<◌, Bool, List, [], ◌∷◌, ◌++◌, map, Option, Some, None, Result, Ok, Err, option_map}
use Rattle.std.specs.List.{list_all}
use Rattle.std.specs.Borrow.{Bor}
use Rattle.std.specs.declared.rc.Rc.{Rc}
use Rattle.std.specs.declared.alloc.Global.{Global}
use Rattle.dx_base.specs.declared.code.Code.{Code}
use Rattle.dx_base.specs.Array.{ArrayData, array_size}
use Rattle.dx_base.specs.Object.{Tree}
use Rattle.dx_base.specs.ObjectLimits.{max_size}
use Rattle.dx_objects.specs.declared.run_fail.RunFail.{RunFail}
use Rattle.dx_objects.specs.declared.run_fail.RunFail.TheVariants as fail
use Rattle.dx_compute_meaning.specs.Answered.{Answered, ◌>>=◌}
use Rattle.dx_compute_meaning.specs.Operands.{Operands}
use Rattle.dx_compute_meaning.specs.Arrays.{Arrays, shape_in}
use Rattle.dx_base.specs.ArrayLimits.{is_shape}

-- of what cuts a run short, the code
abbrev pub code_in : RunFail → Option Code
code_in (fail.Code code) = Some code
code_in fail.Memory = None

abbrev pub shown_one : Option (Bor Tree) → Option Tree
shown_one v = option_map (λ (o : Bor Tree). o.now) v

abbrev pub shown : List (Option (Bor Tree)) → Operands
shown vs = map shown_one vs

abbrev pub shown_array : Option (Bor ArrayData) → Option ArrayData
shown_array v = option_map (λ (a : Bor ArrayData). a.now) v

abbrev pub shown_arrays : List (Option (Bor ArrayData)) → Arrays
shown_arrays arrays = map shown_array arrays

abbrev pub objects_of : List (Rc Tree Global) → List Tree
objects_of os = map (λ (o : Rc Tree Global). o.value) os

abbrev pub first_of : {A : Type 0} → List A → Option A
first_of [] = None
first_of (a ∷ arrays) = Some a

-- an array of ints of so many values that no object holds it
abbrev pub IsTooLarge : Answered ArrayData → Type 0
IsTooLarge (Ok a) = max_size < array_size a
IsTooLarge (Err code) = ⊥

-- the array that is there, which is kept where an object could hold it
abbrev pub IsFound : Answered ArrayData → Option ArrayData → Type 0
IsFound there (Some a) = there ≡ Ok a
IsFound there None = IsTooLarge there

-- it is found, or refused, or memory ran out
abbrev pub Computes : Answered ArrayData → Result (Option ArrayData) RunFail → Type 0
Computes there (Ok found) = IsFound there found
Computes there (Err (fail.Code code)) = there ≡ Err code
Computes there (Err fail.Memory) = Unit {0}

-- these before what is there
abbrev pub behind : {A : Type 0} → List A → Answered (List A) → Answered (List A)
behind found there = there >>= λ more. Ok (found ++ more)

-- each array has a shape
abbrev pub all_shaped : Arrays → Bool
all_shaped arrays = list_all (λ a. is_shape (shape_in a)) arrays
