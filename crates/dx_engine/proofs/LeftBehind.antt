-- What an execution leaves is the machine's, fits and is sound.
use Rattle.std.proofs.Common.{◌≡◌, ℕ, List, map, Option, refl, ap, ◌∙◌, subst}
use Rattle.std.specs.Prelude.{is_some}
use Rattle.dx_graph.specs.Graph.{Node}
use Rattle.dx_macros.specs.Tree.{CallTree}
use Rattle.dx_tags.specs.Closed.{GoesOn}
use Rattle.dx_tags.specs.Files.{FileMap}
use Rattle.dx_links.specs.LinkMap.{Linked}
use Rattle.dx_machine.specs.Machine.{tasks_of}
use Rattle.dx_getting.specs.Stands.{shown_event}
use Rattle.dx_getting.specs.Terms.{Table}
use Rattle.dx_getting.specs.Told.{Told, Adds}
use Rattle.dx_demand.specs.Forming.{named_terms}
use Rattle.dx_performing.specs.Execution.{execution, after_exports, behind}
use Rattle.dx_performing.specs.Kept.{current, is_full}
use Rattle.dx_performing.specs.Course.{Fixed, world_of, executed}
use Rattle.dx_performing.specs.SoundEntries.{AreLawfulCalls}
use Rattle.dx_ending.specs.Putting.{exports_of}
use Rattle.dx_engine.specs.Running.{ChangesFit}
use Rattle.dx_engine.specs.Keeping.{StateFits, kept_of, IsSoundState}
use Rattle.dx_engine.specs.Beginning.{EffectsAre}
use Rattle.dx_engine.specs.Leaving.{links_behind, ValuesLeft, LeavesSo}
use Rattle.dx_engine.specs.declared.gathered.Gathered.{Gathered}
use Rattle.dx_engine.specs.declared.state.State.{State}
use Rattle.dx_engine.proofs.SoundBehind.{links_left, files_left, fits_behind, kept_there, sound_there, events_behind, told_behind, current_behind}

-- from st on, whose effects left st', behind which there is st2
pub record IsFinished (st st' : State) (g : Gathered) (st2 : State) : Type 0 where
  pub left : LeavesSo st' g st2
  pub files : st2.written.files ≡ after_exports st'.written.files (exports_of g.puts.items)
  pub links : st'.links ≡ st.links
  pub bound : st'.bound ≡ st.bound
  pub written : st'.written ≡ st.written
  pub budget : st'.at.work.cache.budget ≡ st.at.work.cache.budget

module _ (st st' st2 : State) (g : Gathered) (ends : IsFinished st st' g st2) where
  held_are : st'.links.held ≡ st.links.held
  held_are = ap (λ (l : Linked). l.held) ends.links

  links_are : links_left st' g ≡ links_left st g
  links_are = ap (λ (l : Linked). links_behind l.links (is_some g.error) g.changes) ends.links

  files_are : st2.written.files ≡ files_left st g
  files_are = ends.files ∙ ap (λ (files : FileMap). after_exports files (exports_of g.puts.items)) (ap (λ w. w.files) ends.written)

  pub fits_left : StateFits st' → ChangesFit st'.at.tags g.changes → StateFits st2
  fits_left f c =
      fits_behind st st' st2 g (links_left st' g) (is_full (named_terms st'.at.tags))
      links_are ends.left.tags ends.left.links_are ends.left.held ends.left.entries files_are held_are f ends.links ends.left.from c ends.left.bound

  module _ (x : Fixed) (effects : List CallTree) (nodes : List Node) (base : Told) (before : Option (List ℕ)) (now : Told) (written : Option (List ℕ)) (are : EffectsAre x st effects nodes base before g st' now written) (fits : StateFits st) (on : GoesOn st.at.tags st'.at.tags) where
    pub kept_left : kept_of st2 ≡ (executed x effects (kept_of st)).kept
    kept_left =
        kept_there st st' st2 g (links_left st' g) (is_full (named_terms st'.at.tags))
        links_are ends.left.tags ends.left.links_are ends.left.held ends.left.entries files_are held_are
        x effects nodes base before now written are fits on refl

    pub sound_left : IsSoundState x st → AreLawfulCalls effects → IsSoundState x st2
    sound_left sound lawful =
        sound_there st st' st2 g (links_left st' g) (is_full (named_terms st'.at.tags))
        links_are ends.left.tags ends.left.links_are ends.left.held ends.left.entries files_are held_are
        x effects nodes base before now written are fits on refl sound lawful (ends.left.budget ∙ ends.budget) ends.left.bound
        (subst (λ (t : Table). ValuesLeft t.pairs g.changes (is_full (named_terms st'.at.tags)) st2) ends.bound ends.left.values)

    pub events_left : st2.at.work.events.items ≡ map shown_event (executed x effects (kept_of st)).events
    events_left = events_behind x st st' effects nodes base before g now written are (is_full (named_terms st'.at.tags)) refl st2.at.work.events.items ends.left.events

    pub told_left : Adds base now (tasks_of (executed x effects (kept_of st)).events)
    told_left = told_behind x st st' effects nodes base before g now written are

    pub current_left : IsSoundState x st → current (kept_of st2) ≡ behind (execution (world_of x (kept_of st)) effects) (current (kept_of st))
    current_left sound = current_behind x st st2 effects sound kept_left
