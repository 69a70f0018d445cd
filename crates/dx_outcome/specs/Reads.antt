-- Which files a line asks for: those of loading, and those that its Imports name, but for the names under which the session has put a
-- file.
use Rattle.std.specs.Prelude.{◌≡◌, ℕ, List, [], ◌∷◌, ◌++◌, Option}
use Rattle.std.specs.Bool.{MatchBool}
use Rattle.dx_demanded.specs.Reads.{names_imported, not_put}
use Rattle.dx_include.specs.Loading.{Name}
use Rattle.dx_io.specs.Devices.{Grows, GrowsInto}
use Rattle.dx_machine.specs.Machine.{runs_in, reads_in}
use Rattle.dx_performing.specs.Execution.{Export, after_exports}
use Rattle.dx_outcome.specs.Ends.{is_cut}
use Rattle.dx_outcome.specs.Outcome.{Seen, Outcome}

-- behind these puts, one execution asks for the texts that its Imports have as first inputs, in order, but for those under which a file
-- was put before it began
abbrev pub asked_by : List Export → Seen → List Name
asked_by put s = not_put put (names_imported (runs_in s.runs))

-- and so do all, one behind the other
abbrev pub asked_behind : List Export → List Seen → List Name
asked_behind put [] = []
asked_behind put (s ∷ rest) = asked_by put s ++ asked_behind (after_exports put s.exports) rest

-- the files of loading, and then those of the executions
abbrev pub names_asked : Outcome → List Name
names_asked o = o.reads ++ asked_behind [] o.seen

-- ---- the reads of runs

-- each execution reads these
abbrev pub EachReads : List Export → List Seen → Type 0
EachReads put [] = Unit {0}
EachReads put (s ∷ rest) = (reads_in s.runs ≡ asked_by put s) × EachReads (after_exports put s.exports) rest

-- ---- how a call ends

-- these names were asked for; a front of them where the call was cut short
abbrev pub AsksAs : ℕ → Outcome → Option (List Name) → Option (List Name) → Type 0
AsksAs status o was now = MatchBool (is_cut status) (GrowsInto was now (names_asked o)) (Grows was now (names_asked o))
