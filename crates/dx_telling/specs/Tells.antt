-- What is at hand behind an execution tells of it.
use Rattle.std.specs.Prelude.{◌≡◌, List, [], map, Option, Some, None}
use Rattle.dx_getting.specs.declared.event.Event.{Event as ToldEvent}
use Rattle.dx_getting.specs.Stands.{shown_event}
use Rattle.dx_links.specs.declared.key.Key.{Key}
use Rattle.dx_links.specs.Holding.{Holding}
use Rattle.dx_links.specs.LinkMap.{LinkMap, Linked}
use Rattle.dx_machine.specs.Machine.{Event}
use Rattle.dx_making.specs.Failing.{FailsAs}
use Rattle.dx_making.specs.declared.failing.Failing.{Failing}
use Rattle.dx_making.specs.declared.failing.Failing.TheVariants.{Faulty, Refused}
use Rattle.dx_performing.specs.Execution.{Links}
use Rattle.dx_shown.specs.Made.{Coursed}

-- nothing happens where there is a static fault, and then the events that are told are those of an earlier execution
abbrev pub EventsTell : Option Failing → List ToldEvent → List Event → Type 0
EventsTell None told events = told ≡ map shown_event events
EventsTell (Some (Refused site code)) told events = told ≡ map shown_event events
EventsTell (Some (Faulty site fault)) told events = events ≡ []

-- the keys and their objects, without the tags of their terms
abbrev pub objects_in : LinkMap → Links
objects_in links = map (λ (l : Key × Holding). (l.0, l.1.value)) links

-- what is wrong with a call, what happened, and the links
pub record Tells (c : Coursed) (failing : Option Failing) (told : List ToldEvent) (links : Linked) : Type 0 where
  pub error : FailsAs c.execution.error failing
  pub events : EventsTell failing told c.events
  pub objects : objects_in links.links ≡ c.behind.links
