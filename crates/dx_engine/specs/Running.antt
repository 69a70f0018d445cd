-- What the effects of an execution come to, one behind the other.
use Rattle.std.specs.Prelude.{◌≡◌, ◌<◌, ℕ, List, [], ◌∷◌, length, Option, Some, None, Result, Ok, Err}
use Rattle.dx_base.specs.declared.code.Code.{Code}
use Rattle.dx_io.specs.Devices.{Grows}
use Rattle.dx_macros.specs.Tree.{CallTree}
use Rattle.dx_tags.specs.Closed.{heads_of}
use Rattle.dx_tags.specs.declared.term.Term.{Term}
use Rattle.dx_links.specs.declared.held.Change.{Change}
use Rattle.dx_machine.specs.Machine.{State}
use Rattle.dx_getting.specs.Told.{Told}
use Rattle.dx_meaning.specs.Forming.{Formings}
use Rattle.dx_performing.specs.Execution.{execution}
use Rattle.dx_performing.specs.Kept.{Kept}
use Rattle.dx_performing.specs.Course.{Fixed, At, world_of, course}
use Rattle.dx_ending.specs.Terms.{set_terms_of}
use Rattle.dx_looking.specs.Setting.{nodes_in}
use Rattle.dx_looking.specs.Looking.{StandsAt}
use Rattle.dx_looking.specs.declared.setup.Setup.{Setup}
use Rattle.dx_looking.specs.declared.progress.Progress.{Progress}
use Rattle.dx_engine.specs.Doing.{HoldingFits}
use Rattle.dx_engine.specs.Fronts.{reads_ahead}
use Rattle.dx_engine.specs.Gathering.{gathers, error_of}
use Rattle.dx_engine.specs.Stopping.{StopsIn}
use Rattle.dx_engine.specs.declared.gathered.Gathered.{Gathered}
use Rattle.dx_engine.specs.declared.short.Short.{Short}

-- from a state of the machine, before any Set
abbrev pub from_state : State → Formings → At
from_state s f = record { state = s; formings = f; sets = [] }

-- what was printed, is to be put and is the error is as meant, and the machine's course is where the work stands
pub record AreRun (setup : Setup) (x : Fixed) (k : Kept) (base : Told) (effects : List CallTree) (s : State) (f : Formings) (before : Option (List ℕ)) (g : Gathered) (at : Progress) (now : Told) (written : Option (List ℕ)) : Type 0 where
  pub printed : Grows before written (execution (world_of x k) effects).printed
  pub exports : (gathers g).exports ≡ (execution (world_of x k) effects).exports
  pub error : error_of (nodes_in setup) g.error ≡ (execution (world_of x k) effects).error
  pub sets : set_terms_of (heads_of at.tags) g.changes ≡ (course x k effects (from_state s f)).sets
  pub stands : StandsAt setup x k base at now (course x k effects (from_state s f)).state (course x k effects (from_state s f)).formings

abbrev pub RunsSo : Setup → Fixed → Kept → Told → List CallTree → State → Formings → Option (List ℕ) → Result Gathered Short → Progress → Told → Option (List ℕ) → Type 0
RunsSo setup x k base effects s f before (Ok g) at now written = AreRun setup x k base effects s f before g at now written
RunsSo setup x k base effects s f before (Err short) at now written = StopsIn (reads_ahead short) x k effects (from_state s f) base before now written

-- ---- what fits at all times

abbrev pub ErrorFits : Setup → Option (ℕ × Code) → Type 0
ErrorFits setup None = Unit {0}
ErrorFits setup (Some e) = e.0 < length (nodes_in setup)

abbrev pub ChangesFit : List Term → List Change → Type 0
ChangesFit terms [] = Unit {0}
ChangesFit terms (c ∷ cs) = HoldingFits terms c.held × ChangesFit terms cs

pub record GatheredFits (setup : Setup) (at : Progress) (g : Gathered) : Type 0 where
  pub error : ErrorFits setup g.error
  pub changes : ChangesFit at.tags g.changes
