-- What the effects of an execution come to, from what is kept.
use Rattle.std.specs.Prelude.{◌≡◌, ◌<◌, ℕ, List, [], map, length, Option, Some, None, Result, Ok, Err}
use Rattle.dx_io.specs.Devices.{FileMap as InputFiles, Grows}
use Rattle.dx_graph.specs.Graph.{Node}
use Rattle.dx_macros.specs.Tree.{CallTree}
use Rattle.dx_tags.specs.Closed.{heads_of}
use Rattle.dx_machine.specs.Machine.{tasks_of}
use Rattle.dx_machine.specs.Sound.{IsSound}
use Rattle.dx_getting.specs.Told.{Told, Adds}
use Rattle.dx_getting.specs.Stands.{Answers, EntriesRight, named, shown_event, world}
use Rattle.dx_demand.specs.Forming.{named_terms}
use Rattle.dx_performing.specs.Execution.{execution}
use Rattle.dx_performing.specs.Course.{Fixed, At, world_of, around_of, begins, course}
use Rattle.dx_ending.specs.Terms.{set_terms_of}
use Rattle.dx_looking.specs.Setting.{fixed}
use Rattle.dx_engine.specs.Fronts.{reads_ahead}
use Rattle.dx_engine.specs.Gathering.{gathers, error_of}
use Rattle.dx_engine.specs.Stopping.{StopsIn}
use Rattle.dx_engine.specs.Running.{ChangesFit}
use Rattle.dx_engine.specs.Keeping.{kept_of, setting_of, IsSoundState}
use Rattle.dx_engine.specs.declared.gathered.Gathered.{Gathered}
use Rattle.dx_engine.specs.declared.short.Short.{Short}
use Rattle.dx_engine.specs.declared.state.State.{State}
use Rattle.dx_base.specs.declared.code.Code.{Code}
use Rattle.dx_tags.specs.declared.term.Term.{Term}
use Rattle.dx_cache.specs.Cached.{Cached}
use Rattle.dx_demand.specs.declared.seen.Seen.{Seen}
use Rattle.dx_looking.specs.declared.progress.Progress.{Progress}

-- for files that tell their content, and a sound state
abbrev pub FromState : Answers → Option InputFiles → State → (Fixed → Type 0) → Type 0
FromState answer content st P = (map : InputFiles) → content ≡ Some map → IsSoundState (fixed answer map st.at.work.cache.budget) st → P (fixed answer map st.at.work.cache.budget)

abbrev pub course_of : Fixed → State → List CallTree → At
course_of x st effects = course x (kept_of st) effects (begins (kept_of st))

-- what was printed, is to be put, is set and is the error is as meant, and the terms, entries, events and runs are the course's
pub record EffectsAre (x : Fixed) (st : State) (effects : List CallTree) (nodes : List Node) (base : Told) (before : Option (List ℕ)) (g : Gathered) (st' : State) (now : Told) (written : Option (List ℕ)) : Type 0 where
  pub printed : Grows before written (execution (world_of x (kept_of st)) effects).printed
  pub exports : (gathers g).exports ≡ (execution (world_of x (kept_of st)) effects).exports
  pub error : error_of nodes g.error ≡ (execution (world_of x (kept_of st)) effects).error
  pub sets : set_terms_of (heads_of st'.at.tags) g.changes ≡ (course_of x st effects).sets
  pub terms : named_terms st'.at.tags ≡ (course_of x st effects).formings.terms
  pub entries : map (named (heads_of st'.at.tags)) st'.at.work.cache.entries ≡ (course_of x st effects).state.entries
  pub events : st'.at.work.events.items ≡ map shown_event (course_of x st effects).state.events
  pub told : Adds base now (tasks_of (course_of x st effects).state.events)
  pub right : EntriesRight (setting_of st') (world x.answer x.file) st'.at.work.cache.entries
  pub sound : IsSound (around_of x (kept_of st)) x.budget (course_of x st effects).state

abbrev pub EffectsSo : Fixed → State → List CallTree → List Node → Told → Option (List ℕ) → Result Gathered Short → State → Told → Option (List ℕ) → Type 0
EffectsSo x st effects nodes base before (Ok g) st' now written = EffectsAre x st effects nodes base before g st' now written
EffectsSo x st effects nodes base before (Err short) st' now written = StopsIn (reads_ahead short) x (kept_of st) effects (begins (kept_of st)) base before now written

-- ---- what fits at all times

abbrev pub NodeFits : List Node → Option (ℕ × Code) → Type 0
NodeFits nodes None = Unit {0}
NodeFits nodes (Some e) = e.0 < length nodes

pub record GathersFit (nodes : List Node) (st : State) (g : Gathered) : Type 0 where
  pub error : NodeFits nodes g.error
  pub changes : ChangesFit st.at.tags g.changes

-- ---- in code

-- nothing was told, is known or happened yet
pub record IsFresh (what : Seen) (terms : List Term) (entries : Cached) (at : Progress) : Type 0 where
  pub tags : at.tags ≡ terms
  pub seen : at.seen ≡ what
  pub cache : at.work.cache ≡ entries
  pub told : at.told ≡ []
  pub known : at.work.known.calls ≡ []
  pub events : at.work.events.items ≡ []

-- it stands at this, and the rest is as before
abbrev pub standing_at : State → Progress → State
standing_at st at = record { at = at; links = st.links; bound = st.bound; written = st.written }
