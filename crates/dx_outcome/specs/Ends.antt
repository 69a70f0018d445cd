-- How a call ends: with all of an outcome, or cut short by a device or by want of memory, with a front of it.
use Rattle.std.specs.Prelude.{◌≡◌, ◌⊎◌, ℕ, ◌≤◌, length, List, ◌++◌, Option, Bool, ◌||◌, ◌==◌}
use Rattle.std.specs.Bool.{MatchBool}
use Rattle.dx_io.specs.Devices.{Grows, GrowsInto, with_more}
use Rattle.dx_engine.specs.Executing.{Devices}
use Rattle.dx_engine.specs.Fronts.{AddsFront}
use Rattle.dx_getting.specs.Told.{Told, TellsRuns, Adds, told}
use Rattle.dx_include.specs.Loading.{Name}
use Rattle.dx_machine.specs.Machine.{Task, runs_in}
use Rattle.dx_objects.specs.Runs.{Ran}
use Rattle.dx_outcome.specs.Outcome.{Seen, Outcome, texts_of, exports_of, runs_of}

-- the status of a call that was cut short
abbrev pub is_cut : ℕ → Bool
is_cut status = (status == 4) || (status == 5) || (status == 6) || (status == 7)

-- and of one that may have read a file ahead of its run: the file couldn't be read, or memory ran out
abbrev pub may_read_ahead : ℕ → Bool
may_read_ahead status = (status == 4) || (status == 7)

-- the status of a call that came to its end
abbrev pub IsWholeStatus : ℕ → Type 0
IsWholeStatus status = (status ≡ 0) ⊎ (status ≡ 1) ⊎ (status ≡ 2) ⊎ (status ≡ 3)

-- ---- what devices tell

-- behind these reads
abbrev pub with_reads : Devices → List Name → Devices
with_reads was reads = record { told = told was.told.done (with_more was.told.asked reads); written = was.written; puts = was.puts }

-- all of these texts were printed, their files put, and their runs and reads told
pub record IsWhole (seen : List Seen) (was now : Devices) : Type 0 where
  pub printed : Grows was.written now.written (texts_of seen)
  pub puts : Grows was.puts now.puts (exports_of seen)
  pub told : Adds was.told now.told (runs_of seen)

-- a front of each, with one name more at most where it may be read ahead
pub record IsPart (ahead : Bool) (seen : List Seen) (was now : Devices) : Type 0 where
  pub printed : GrowsInto was.written now.written (texts_of seen)
  pub puts : GrowsInto was.puts now.puts (exports_of seen)
  pub told : AddsFront ahead was.told now.told (runs_of seen)

-- so much was seen whole, and a part of what comes next, if anything does
pub record IsCutShort (ahead : Bool) (seen : List Seen) (was now : Devices) : Type 0 where
  pub before : List Seen
  pub next : List Seen
  pub rest : List Seen
  pub all : seen ≡ before ++ (next ++ rest)
  pub few : length next ≤ 1
  pub between : Devices
  pub whole : IsWhole before was between
  pub part : IsPart ahead next between now

-- ---- the two ways to end

-- loading asked for so many of its files, or for all of them, and then the rest was cut short
pub data IsFront (ahead : Bool) (o : Outcome) (was now : Devices) : Type 0 where
  in_loading : (front rest : List Name) → o.reads ≡ front ++ rest → now ≡ with_reads was front → IsFront ahead o was now
  behind_loading : IsCutShort ahead o.seen (with_reads was o.reads) now → IsFront ahead o was now

abbrev pub EndsAs : ℕ → Outcome → Devices → Devices → Type 0
EndsAs status o was now = MatchBool (is_cut status) (IsFront (may_read_ahead status) o was now) ((status ≡ o.status) × IsWhole o.seen (with_reads was o.reads) now)

-- ---- each part of it alone

-- all of the text was printed; a front of it where the call was cut short
abbrev pub PrintsAs : ℕ → List Seen → Option (List ℕ) → Option (List ℕ) → Type 0
PrintsAs status seen was now = MatchBool (is_cut status) (GrowsInto was now (texts_of seen)) (Grows was now (texts_of seen))

-- all of the runs were told, in their order; a front of them where the call was cut short
abbrev pub RunsAs : ℕ → List Seen → Option (List Ran) → Option (List Ran) → Type 0
RunsAs status seen was now =
    MatchBool (is_cut status)
    ((front rest : List Task) × (runs_of seen ≡ front ++ rest) × TellsRuns was now (runs_in front))
    (TellsRuns was now (runs_in (runs_of seen)))

-- the files of loading were asked for, and then those that runs of Import read; where the call was cut short, a front of the files of
-- loading and no run, or all of them and those of a front of the runs, with the next run's name at most where it may be read ahead
abbrev pub ReadsAs : ℕ → Outcome → Told → Told → Type 0
ReadsAs status o was now =
    let loaded = told was.done (with_more was.asked o.reads) in
    MatchBool (is_cut status)
    (((front rest : List Name) × (o.reads ≡ front ++ rest) × (now ≡ told was.done (with_more was.asked front))) ⊎ AddsFront (may_read_ahead status) loaded now (runs_of o.seen))
    (Adds loaded now (runs_of o.seen))

-- memory ran out, or it came to its end
abbrev pub CompletesAs : ℕ → Outcome → Devices → Devices → Type 0
CompletesAs status o was now = (status ≡ 7) ⊎ ((status ≡ o.status) × IsWhole o.seen (with_reads was o.reads) now)
