-- What the calls answer: the text or the code of the definition, or that memory ran out.
use Rattle.std.specs.Prelude.{◌≡◌, ℕ, List, Option, option_map, Result, Ok, Err, IsOk}
use Rattle.std.specs.Borrow.{Bor}
use Rattle.dx_base.specs.Object.{Tree}
use Rattle.dx_base.specs.declared.code.Code.{Code}
use Rattle.dx_objects.specs.declared.run_fail.RunFail.{RunFail}
use Rattle.dx_objects.specs.declared.run_fail.RunFail.TheVariants as fail

abbrev pub Prints : Result (List ℕ) Code → Result (List ℕ) RunFail → Type 0
Prints r (Ok text) = r ≡ Ok text
Prints r (Err (fail.Code code)) = r ≡ Err code
Prints r (Err fail.Memory) = Unit {0}

-- the checks take no memory: where it ran out there is a text to print
abbrev pub LacksRoomForText : Result (List ℕ) Code → Result (List ℕ) RunFail → Type 0
LacksRoomForText r (Ok text) = Unit {0}
LacksRoomForText r (Err (fail.Code code)) = Unit {0}
LacksRoomForText r (Err fail.Memory) = IsOk r

-- Echo has no refusal
abbrev pub Echoes : List ℕ → Result (List ℕ) RunFail → Type 0
Echoes line (Ok text) = text ≡ line
Echoes line (Err (fail.Code code)) = ⊥
Echoes line (Err fail.Memory) = Unit {0}

-- the object behind a reference
abbrev pub shown : Option (Bor Tree) → Option Tree
shown v = option_map (λ (o : Bor Tree). o.now) v
