-- Where the effects of an execution were cut short.
use Rattle.std.specs.Prelude.{◌≡◌, ◌⊎◌, ℕ, ◌≤◌, List, [], ◌++◌, length, Option, Bool, true}
use Rattle.dx_io.specs.Devices.{Grows}
use Rattle.dx_macros.specs.Tree.{CallTree}
use Rattle.dx_machine.specs.Machine.{Task, tasks_of}
use Rattle.dx_getting.specs.Told.{Told, Adds, AddsSome}
use Rattle.dx_performing.specs.Course.{Fixed, At, world_of, course}
use Rattle.dx_performing.specs.Execution.{execution}
use Rattle.dx_performing.specs.Kept.{Kept}

-- the text of these effects, and all runs up to their end
abbrev pub printed_by : Fixed → Kept → List CallTree → List ℕ
printed_by x k effects = (execution (world_of x k) effects).printed

abbrev pub runs_by : Fixed → Kept → List CallTree → At → List Task
runs_by x k effects from = tasks_of (course x k effects from).state.events

-- all these runs were told; or, where a name may be read ahead, a front of them, and then no text behind them
abbrev pub ToldBefore : (text : List ℕ) → (ahead : Bool) → (base now : Told) → List Task → Type 0
ToldBefore text ahead base now runs = Adds base now runs ⊎ ((ahead ≡ true) × (text ≡ []) × AddsSome base now runs)

-- of some effects all the text was printed, of the next one, if any, a front of it, and of the rest nothing; no run was told that is
-- behind these, and the next one's text is printed only behind all runs up to it
pub record StopsIn (ahead : Bool) (x : Fixed) (k : Kept) (effects : List CallTree) (from : At) (base : Told) (before : Option (List ℕ)) (now : Told) (written : Option (List ℕ)) : Type 0 where
  pub whole : List CallTree
  pub next : List CallTree
  pub rest : List CallTree
  pub all : effects ≡ whole ++ (next ++ rest)
  pub few : length next ≤ 1
  pub front : List ℕ
  pub left : List ℕ
  pub text : printed_by x k (whole ++ next) ≡ printed_by x k whole ++ (front ++ left)
  pub printed : Grows before written (printed_by x k whole ++ front)
  pub told : ToldBefore front ahead base now (runs_by x k (whole ++ next) from)
