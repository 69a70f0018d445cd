-- What the steps of Slab give: an object, a code, or that memory ran out.
use Rattle.std.specs.Prelude.{◌≡◌, ◌<◌, Bool, true, false, ◌&&◌, Result, Ok, Err}
use Rattle.std.specs.declared.rc.Rc.{Rc}
use Rattle.std.specs.declared.alloc.Global.{Global}
use Rattle.dx_base.specs.declared.code.Code.TheVariants.{TooLarge}
use Rattle.dx_base.specs.Array.{ArrayData, array_size}
use Rattle.dx_base.specs.Object.{Tree, PartList, no_parts, part, append}
use Rattle.dx_base.specs.ObjectLimits.{fits, max_size}
use Rattle.dx_objects.specs.declared.run_fail.RunFail.{RunFail}
use Rattle.dx_objects.specs.declared.run_fail.RunFail.TheVariants as fail
use Rattle.dx_slab.specs.Answered.{Answered}

-- this array, or that no object can hold it, or memory ran out
abbrev pub GivesArray : ArrayData → Result ArrayData RunFail → Type 0
GivesArray a (Ok own) = own ≡ a
GivesArray a (Err (fail.Code code)) = (code ≡ TooLarge) × (max_size < array_size a)
GivesArray a (Err fail.Memory) = Unit {0}

-- this object, or this code, or memory ran out
abbrev pub GivesTree : Answered Tree → Result Tree RunFail → Type 0
GivesTree there (Ok t) = there ≡ Ok t
GivesTree there (Err (fail.Code code)) = there ≡ Err code
GivesTree there (Err fail.Memory) = Unit {0}

-- this object, or that it is too large, or memory ran out
abbrev pub GivesShared : Tree → Result (Rc Tree Global) RunFail → Type 0
GivesShared t (Ok o) = o.value ≡ t
GivesShared t (Err (fail.Code code)) = (code ≡ TooLarge) × (fits t ≡ false)
GivesShared t (Err fail.Memory) = Unit {0}

-- each of these parts is within the limits
abbrev pub all_fit : PartList → Bool
all_fit no_parts = true
all_fit (part n p t ps) = fits t && all_fit ps

-- these parts, or that one is too large, or memory ran out
abbrev pub GivesParts : PartList → Result PartList RunFail → Type 0
GivesParts ps (Ok made) = made ≡ ps
GivesParts ps (Err (fail.Code code)) = (code ≡ TooLarge) × (all_fit ps ≡ false)
GivesParts ps (Err fail.Memory) = Unit {0}

-- the parts grew by these, or that one is too large, or memory ran out
abbrev pub Grows : PartList → PartList → PartList → Result Unit RunFail → Type 0
Grows ps old new (Ok done) = new ≡ append old ps
Grows ps old new (Err (fail.Code code)) = (code ≡ TooLarge) × (all_fit ps ≡ false)
Grows ps old new (Err fail.Memory) = Unit {0}
