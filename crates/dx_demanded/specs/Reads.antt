-- Which files runs read: an Import asks for the file that it names exactly where the session has put none under that name.
use Rattle.std.specs.Prelude.{◌≡◌, ℕ, List, [], ◌∷◌, ◌++◌, filter, Option, Some, None, is_some, not}
use Rattle.dx_macros.specs.Tree.{CallTree}
use Rattle.dx_objects.specs.Runs.{Ran}
use Rattle.dx_tags.specs.Files.{FileMap, content_of}
use Rattle.dx_machine.specs.Machine.{Task, tasks_of, runs_of, reads_of, name_read, as_list}
use Rattle.dx_performing.specs.Kept.{Kept}
use Rattle.dx_performing.specs.Course.{Fixed, around_of, executed}
use Rattle.dx_performing.specs.Meant.{LinksRight}

-- ---- the file that a run has of its own

-- the bytes that were put under a name, if there is a name
abbrev pub put_under : FileMap → Option (List ℕ) → Option (List ℕ)
put_under written None = None
put_under written (Some name) = content_of name written

-- an Import whose first input is a text has what was put under that name, if anything was, and any other run has nothing
abbrev pub HasWhatWasPut : FileMap → Task → Type 0
HasWhatWasPut written task = task.own ≡ put_under written (name_read task.run.0 task.run.1)

abbrev pub HaveWhatWasPut : FileMap → List Task → Type 0
HaveWhatWasPut written [] = Unit {0}
HaveWhatWasPut written (t ∷ ts) = HasWhatWasPut written t × HaveWhatWasPut written ts

-- each run of an execution has what earlier executions put, whatever this one puts
abbrev pub RunsHaveWhatWasPut : Type 0
RunsHaveWhatWasPut = (x : Fixed) (k : Kept) (effects : List CallTree) → LinksRight (around_of x k) k.links → HaveWhatWasPut k.written (tasks_of (executed x effects k).events)

-- ---- the files that are asked for

-- the texts that the Imports among these runs have as their first inputs, in order
abbrev pub names_imported : List Ran → List (List ℕ)
names_imported [] = []
names_imported (r ∷ rs) = as_list (name_read r.0 r.1) ++ names_imported rs

-- those under which nothing was put
abbrev pub not_put : FileMap → List (List ℕ) → List (List ℕ)
not_put written names = filter (λ (name : List ℕ). not (is_some (content_of name written))) names

-- the reads of an execution are the names that its Imports have, but for those under which earlier executions have put a file
abbrev pub ReadsAreOfNamesNotPut : Type 0
ReadsAreOfNamesNotPut = (x : Fixed) (k : Kept) (effects : List CallTree) → LinksRight (around_of x k) k.links → let events = (executed x effects k).events in reads_of events ≡ not_put k.written (names_imported (runs_of events))
