-- What the performing of one effect comes to.
use Rattle.std.specs.Prelude.{◌≡◌, ◌<◌, ℕ, List, length, Option, Some, None, Result, Ok, Err}
use Rattle.dx_base.specs.declared.function.Effect.{Effect}
use Rattle.dx_graph.specs.Graph.{node_at}
use Rattle.dx_macros.specs.Tree.{Place}
use Rattle.dx_tags.specs.Closed.{heads_of}
use Rattle.dx_tags.specs.declared.term.Term.{Term}
use Rattle.dx_links.specs.Holding.{Holding}
use Rattle.dx_machine.specs.Machine.{State, Got, state_at}
use Rattle.dx_getting.specs.Told.{Told}
use Rattle.dx_demand.specs.Terms.{IsValue}
use Rattle.dx_meaning.specs.Meaning.{outcomes, together}
use Rattle.dx_meaning.specs.Forming.{Formings, after}
use Rattle.dx_performing.specs.Execution.{Execution, deciding}
use Rattle.dx_performing.specs.Kept.{Kept}
use Rattle.dx_performing.specs.Course.{Fixed, Looked, sight_of, around_of, world_of, frame_with, formed_calls, look_at, effect_got, came, sets_by, ends_by}
use Rattle.dx_ending.specs.Terms.{set_terms_of}
use Rattle.dx_looking.specs.Setting.{nodes_in}
use Rattle.dx_looking.specs.Looking.{StandsAt, IsCutIn}
use Rattle.dx_looking.specs.declared.cut.Cut.{Cut}
use Rattle.dx_looking.specs.declared.setup.Setup.{Setup}
use Rattle.dx_looking.specs.declared.progress.Progress.{Progress}
use Rattle.dx_effects.specs.Coming.{node_trees}
use Rattle.dx_engine.specs.Gathering.{ahead, changes_in, is_end}
use Rattle.dx_engine.specs.declared.done.Done.{Done}
use Rattle.dx_engine.specs.declared.done.Done.TheVariants as done

-- what looking at the arguments of a node comes to by all values
abbrev pub node_looked : Setup → Fixed → Kept → ℕ → Looked
node_looked setup x k n = look_at (sight_of x k) (node_trees setup n)

-- the terms and calls that there are behind it
abbrev pub node_formed : Setup → Fixed → Kept → ℕ → Formings → Formings
node_formed setup x k n f = after (node_looked setup x k n).forms f

abbrev pub node_got : Setup → Fixed → Kept → ℕ → State → Formings → Got
node_got setup x k n s f = effect_got (frame_with x k (formed_calls (node_formed setup x k n f))) (node_looked setup x k n) s

abbrev pub place_of_node : Setup → ℕ → Place
place_of_node setup n = (node_at (nodes_in setup) n).place

-- an effect does what the meaning says, with the machine's work
pub record DoneSo (setup : Setup) (x : Fixed) (k : Kept) (base : Told) (n : ℕ) (e : Effect) (s : State) (f : Formings) (d : Done) (at : Progress) (now : Told) : Type 0 where
  pub decides : (rest : Execution) → deciding e (place_of_node setup n) (together (outcomes (world_of x k) (node_trees setup n))).decided rest ≡ ahead (nodes_in setup) (place_of_node setup n).site d rest
  pub ends : ends_by e (place_of_node setup n) (came (around_of x k) (node_looked setup x k n).terms) ≡ is_end d
  pub sets : sets_by e (place_of_node setup n) (came (around_of x k) (node_looked setup x k n).terms) ≡ set_terms_of (heads_of at.tags) (changes_in d)
  pub stands : StandsAt setup x k base at now (state_at (node_got setup x k n s f)) (node_formed setup x k n f)

abbrev pub PerformsSo : Setup → Fixed → Kept → Told → ℕ → Effect → State → Formings → Result Done Cut → Progress → Told → Type 0
PerformsSo setup x k base n e s f (Ok d) at now = DoneSo setup x k base n e s f d at now
PerformsSo setup x k base n e s f (Err cut) at now = IsCutIn base now (node_got setup x k n s f)

-- ---- what fits at all times

abbrev pub HoldingFits : List Term → Option Holding → Type 0
HoldingFits terms None = Unit {0}
HoldingFits terms (Some h) = IsValue terms h.tag

abbrev pub DoneFits : Setup → Progress → Done → Type 0
DoneFits setup at (done.Sets c) = HoldingFits at.tags c.held
DoneFits setup at (done.Ends n code) = n < length (nodes_in setup)
DoneFits setup at (done.Prints text) = Unit {0}
DoneFits setup at (done.Puts name object) = Unit {0}
DoneFits setup at done.PassedOver = Unit {0}
