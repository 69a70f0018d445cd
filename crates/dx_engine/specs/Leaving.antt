-- What an execution leaves behind its last effect.
use Rattle.std.specs.Prelude.{◌≡◌, ◌≤◌, List, [], ◌∷◌, ◌++◌, length, is_some, Bool, true, false, if◌then◌else◌}
use Rattle.dx_links.specs.LinkMap.{LinkMap, Linked, after}
use Rattle.dx_links.specs.declared.held.Change.{Change}
use Rattle.dx_getting.specs.declared.event.Event.TheVariants as shown
use Rattle.dx_tags.specs.HeldTerms.{held_terms}
use Rattle.dx_links.specs.Emptied.{values_held, all_held}
use Rattle.dx_getting.specs.Terms.{BoundValues, Table}
use Rattle.dx_getting.specs.Bound.{IsBound, AreLinks}
use Rattle.dx_demand.specs.Forming.{named_terms}
use Rattle.dx_performing.specs.Kept.{is_full}
use Rattle.dx_ending.specs.InPlace.{IsReady, ComeFrom, changes_in}
use Rattle.dx_engine.specs.declared.gathered.Gathered.{Gathered}
use Rattle.dx_engine.specs.declared.prepared.Prepared.{Prepared}
use Rattle.dx_engine.specs.declared.prepared.Prepared.TheVariants.{Kept, Changed, Emptied}
use Rattle.dx_engine.specs.declared.state.State.{State}

-- the links after changes, or the same after an error
abbrev pub links_behind : LinkMap → Bool → List Change → LinkMap
links_behind links failed changes = if failed then links else after links changes

-- ---- what is prepared

-- for links and what is set, the links after the execution: they are the same, or changed in place, or an emptying changes them
abbrev pub PreparedSo : LinkMap → List Change → (full : Bool) → (behind : LinkMap) → Prepared → Type 0
PreparedSo links changes full behind Kept = (full ≡ false) × (behind ≡ links)
PreparedSo links changes full behind (Changed r) = (full ≡ false) × (behind ≡ after links changes) × (changes_in r.changes.items ≡ changes)
PreparedSo links changes full behind (Emptied cs) = (full ≡ true) × (behind ≡ after links cs)

abbrev pub PreparedReady : Linked → Table → Prepared → Type 0
PreparedReady links bound Kept = Unit {0}
PreparedReady links bound (Changed r) = IsReady links bound r.changes.items
PreparedReady links bound (Emptied cs) = length cs ≤ links.spare

-- ---- what is put in place

-- the values by terms are those of the links that an emptying leaves; else each was there, or was set
abbrev pub ValuesLeft : BoundValues → List Change → (full : Bool) → State → Type 0
ValuesLeft old changes true st' = AreLinks st'.links.links st'.bound.pairs
ValuesLeft old changes false st' = ComeFrom changes old st'.bound.pairs

-- for what is set and the links after the execution: the links, values, terms, entries and events that are kept then
pub record IsLeft (st : State) (changes : List Change) (full : Bool) (links : LinkMap) (st' : State) : Type 0 where
  pub links_are : st'.links.links ≡ (if full then all_held links else links)
  pub bound : IsBound st'.links.links st'.bound
  pub values : ValuesLeft st.bound.pairs changes full st'
  pub from : st'.bound.from ≡ (if full then length links else st.bound.from)
  pub tags : st'.at.tags ≡ (if full then held_terms (length links) else st.at.tags)
  pub held : st'.links.held ≡ (if full then values_held links else st.links.held)
  pub entries : st'.at.work.cache.entries ≡ (if full then [] else st.at.work.cache.entries)
  pub budget : st'.at.work.cache.budget ≡ st.at.work.cache.budget
  pub events : st'.at.work.events.items ≡ st.at.work.events.items ++ (if full then shown.Clear ∷ [] else [])

-- behind effects that gathered this
abbrev pub LeavesSo : State → Gathered → State → Type 0
LeavesSo st g st' = IsLeft st g.changes (is_full (named_terms st.at.tags)) (links_behind st.links.links (is_some g.error) g.changes) st'
