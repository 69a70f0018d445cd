-- What is told of runs that were cut short, by what cut them.
use Rattle.std.specs.Prelude.{◌≡◌, [], List, Bool, true, false}
use Rattle.dx_machine.specs.Machine.{Task}
use Rattle.dx_getting.specs.Told.{Told, AddsSome}
use Rattle.dx_engine.specs.declared.short.Short.{Short}
use Rattle.dx_engine.specs.declared.short.Short.TheVariants.{ReadFault, WriteFault, Memory}

-- of these runs a front is told, and the names that it reads; the next one's name too only where it may be read ahead
pub record AddsFront (ahead : Bool) (base now : Told) (tasks : List Task) : Type 0 where
  pub some : AddsSome base now tasks
  pub no_name : ahead ≡ false → some.next ≡ []

-- a file is read before its run, so where that can't be, or memory runs out, a name may have been read without one; texts are
-- printed between runs
abbrev pub reads_ahead : Short → Bool
reads_ahead ReadFault = true
reads_ahead WriteFault = false
reads_ahead Memory = true
