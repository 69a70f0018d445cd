-- What is kept where an execution is cut short, and what is given back behind it.
use Rattle.std.specs.Prelude.{◌≡◌, []}
use Rattle.dx_tags.specs.Closed.{GoesOn}
use Rattle.dx_demand.specs.Terms.{AreExact}
use Rattle.dx_engine.specs.declared.state.State.{State}

-- further terms may be there, and results be cached or dropped; links, held values and the budget are as before
pub record IsCutFrom (old new : State) : Type 0 where
  pub exact : AreExact new.at.tags
  pub goes_on : GoesOn old.at.tags new.at.tags
  pub links : new.links.links ≡ old.links.links
  pub bound : new.bound.pairs ≡ old.bound.pairs
  pub counts : new.bound.counts ≡ old.bound.counts
  pub from : new.bound.from ≡ old.bound.from
  pub held : new.links.held ≡ old.links.held
  pub budget : new.at.work.cache.budget ≡ old.at.work.cache.budget

-- no result is cached any more, and all else that counts behind an execution is as it was
pub record IsForgotten (old new : State) : Type 0 where
  pub entries : new.at.work.cache.entries ≡ []
  pub budget : new.at.work.cache.budget ≡ old.at.work.cache.budget
  pub tags : new.at.tags ≡ old.at.tags
  pub links : new.links ≡ old.links
  pub bound : new.bound ≡ old.bound
  pub written : new.written ≡ old.written

-- all but what is known and told is as it was
pub record IsGivenBack (old new : State) : Type 0 where
  pub cache : new.at.work.cache ≡ old.at.work.cache
  pub events : new.at.work.events ≡ old.at.work.events
  pub tags : new.at.tags ≡ old.at.tags
  pub seen : new.at.seen ≡ old.at.seen
  pub links : new.links ≡ old.links
  pub bound : new.bound ≡ old.bound
  pub written : new.written ≡ old.written
