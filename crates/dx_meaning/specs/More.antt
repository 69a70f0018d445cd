-- What is told stays told.
use Rattle.std.specs.Prelude.{◌≡◌, Option, Some}
use Rattle.dx_tags.specs.Closed.{ValueTerm}
use Rattle.dx_macros.specs.Tree.{Tree}
use Rattle.dx_meaning.specs.Outcome.{Value}
use Rattle.dx_meaning.specs.Scan.{Sight, Stop, IsOff, Stops, Needs, Scanned, Forms, Ends, scan}

-- the same links and files, and each told value is told by the other too
pub record More (s s' : Sight) : Type 0 where
  pub linked : s'.linked ≡ s.linked
  pub written : s'.written ≡ s.written
  pub told : (u : ValueTerm) (v : Value) → s.told u ≡ Some v → s'.told u ≡ Some v

-- what rests on no value that isn't told stays
abbrev pub Keeps : {A : Type 0} → Scanned A → Scanned A → Type 0
Keeps (Forms x) b = b ≡ Forms x
Keeps (Ends IsOff) b = b ≡ Ends IsOff
Keeps (Ends (Stops site code)) b = b ≡ Ends (Stops site code)
Keeps (Ends (Needs site t)) b = Unit {0}

-- what a tree comes to stays as more is told
abbrev pub ScansStay : Type 0
ScansStay = (s s' : Sight) → More s s' → (t : Tree) → Keeps (scan s t) (scan s' t)
