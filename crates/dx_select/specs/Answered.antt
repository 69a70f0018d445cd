-- An object, or the code by which it is refused.
use Rattle.std.specs.Prelude.{◌≡◌, List, [], ◌∷◌, Option, Some, None, Result, Ok, Err, if◌then◌else◌}
use Rattle.std.specs.declared.rc.Rc.{Rc}
use Rattle.std.specs.declared.alloc.Global.{Global}
use Rattle.dx_base.specs.declared.code.Code.{Code}
use Rattle.dx_base.specs.declared.code.Code.TheVariants.{BadArgument, TooLarge}
use Rattle.dx_base.specs.Object.{Tree, PartList}
use Rattle.dx_base.specs.ObjectLimits.{fits}
use Rattle.dx_objects.specs.Members.{trees}
use Rattle.dx_objects.specs.Runs.{Answer}
use Rattle.dx_objects.specs.declared.run_fail.RunFail.{RunFail}
use Rattle.dx_objects.specs.declared.run_fail.RunFail.TheVariants as fail

abbrev pub Answered : Type 0 → Type 0
Answered A = Result A Code

infixl 10 ◌>>=◌
abbrev pub ◌>>=◌ : {A B : Type 0} → Answered A → (A → Answered B) → Answered B
Ok a >>= f = f a
Err code >>= f = Err code

-- what there is, and where there is none this code
abbrev pub or_refused : {A : Type 0} → Code → Option A → Answered A
or_refused code None = Err code
or_refused code (Some a) = Ok a

-- what an input needs to be
abbrev pub needed : {A : Type 0} → Option A → Answered A
needed a = or_refused BadArgument a

-- an object beyond the limits is too large
abbrev pub in_limits : Tree → Answered Tree
in_limits t = if fits t then Ok t else Err TooLarge

-- a module's answer: the object as its one result, or the code
abbrev pub one_result : Answered Tree → Answer
one_result (Ok t) = Ok (Some t ∷ [])
one_result (Err code) = Err code

-- this object, shared, or this code, or memory ran out
abbrev pub GivesObject : Answered Tree → Result (Rc Tree Global) RunFail → Type 0
GivesObject there (Ok o) = there ≡ Ok o.value
GivesObject there (Err (fail.Code code)) = there ≡ Err code
GivesObject there (Err fail.Memory) = Unit {0}

-- these objects, or this code, or memory ran out
abbrev pub GivesObjects : Answered (List Tree) → Result (List (Rc Tree Global)) RunFail → Type 0
GivesObjects there (Ok os) = there ≡ Ok (trees os)
GivesObjects there (Err (fail.Code code)) = there ≡ Err code
GivesObjects there (Err fail.Memory) = Unit {0}

-- these parts, or this code, or memory ran out
abbrev pub GivesParts : Answered PartList → Result PartList RunFail → Type 0
GivesParts there (Ok ps) = there ≡ Ok ps
GivesParts there (Err (fail.Code code)) = there ≡ Err code
GivesParts there (Err fail.Memory) = Unit {0}
