-- What is kept between executions, as the cache machine's, and when it is sound.
use Rattle.std.specs.Prelude.{◌≡◌, [], map, length}
use Rattle.dx_tags.specs.Closed.{HeldBelow, heads_of}
use Rattle.dx_demand.specs.Terms.{AreExact}
use Rattle.dx_demand.specs.Forming.{named_terms}
use Rattle.dx_machine.specs.Sound.{IsSound}
use Rattle.dx_getting.specs.Bound.{IsBound, AreLinks, BeginHeld}
use Rattle.dx_getting.specs.Stands.{Setting, EntriesRight, named, world}
use Rattle.dx_getting.specs.Steps.{AreCalls}
use Rattle.dx_performing.specs.Kept.{Kept}
use Rattle.dx_performing.specs.Course.{Fixed, around_of, begins}
use Rattle.dx_performing.specs.Meant.{LinksRight}
use Rattle.dx_looking.specs.Looking.{AllFit}
use Rattle.dx_looking.specs.Setting.{links_of}
use Rattle.dx_engine.specs.declared.state.State.{State}

-- the terms, links and entries fit together, and each held value that a term stands for is there
pub record StateFits (st : State) : Type 0 where
  pub exact : AreExact st.at.tags
  pub held : HeldBelow (length st.links.held) st.at.tags
  pub links : AllFit st.at.tags st.links.links
  pub bound : IsBound st.links.links st.bound
  pub below : BeginHeld st.bound.from st.at.tags
  pub entries : AreCalls st.at.tags st.at.work.cache.entries

-- it is this to the machine
abbrev pub kept_of : State → Kept
kept_of st = record {
  entries = map (named (heads_of st.at.tags)) st.at.work.cache.entries;
  terms = named_terms st.at.tags;
  links = links_of (heads_of st.at.tags) st.links.links;
  held = st.links.held;
  written = st.written.files;
}

-- its terms and held values, for getting
abbrev pub setting_of : State → Setting
setting_of st = record { terms = st.at.tags; links = st.bound.pairs; held = st.links.held; formed = [] }

-- for what modules answer, the files and the budget: each link's value is what its term denotes, what is found by a term is the
-- value of a link, each entry has the results that its call denotes, and the entries are sound
pub record IsSoundState (x : Fixed) (st : State) : Type 0 where
  pub budget : x.budget ≡ st.at.work.cache.budget
  pub links : LinksRight (around_of x (kept_of st)) (kept_of st).links
  pub values : AreLinks st.links.links st.bound.pairs
  pub entries : EntriesRight (setting_of st) (world x.answer x.file) st.at.work.cache.entries
  pub sound : IsSound (around_of x (kept_of st)) x.budget (begins (kept_of st)).state
