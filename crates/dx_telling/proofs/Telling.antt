-- What is told by what is at hand is the text behind the execution.
use Rattle.std.proofs.Common.{◌≡◌, ◌∙◌, ◌++◌, ◌∷◌, [], ℕ, List, Option, Some, None, map, refl, sym, ap, ap₂}
use Rattle.dx_getting.specs.declared.event.Event.{Event as ToldEvent}
use Rattle.dx_getting.specs.Stands.{shown_event}
use Rattle.dx_links.specs.LinkMap.{Linked}
use Rattle.dx_machine.specs.Machine.{Event, RanAt, HitAt, KeptAt, DroppedAt, Cleared}
use Rattle.dx_making.specs.Failing.{FailsAs}
use Rattle.dx_making.specs.declared.failing.Failing.{Failing}
use Rattle.dx_making.specs.declared.failing.Failing.TheVariants.{Faulty, Refused}
use Rattle.dx_performing.specs.Execution.{Error, Links}
use Rattle.dx_print.specs.Errors.{error_line, code_text}
use Rattle.dx_print.specs.Lines.{trace_line}
use Rattle.dx_shown.specs.Made.{Coursed}
use Rattle.dx_telling.specs.AtHand.{failing_text, event_line, event_lines, happened, told_behind}
use Rattle.dx_telling.specs.Behind.{fault_text, error_text, traced, trace_text, links_text, if_asked}
use Rattle.dx_telling.specs.Shown.{behind_of}
use Rattle.dx_telling.specs.Tells.{EventsTell, Tells}
use Rattle.dx_telling.specs.declared.listings.Listings.{Listings}

abbrev both : List ℕ → List ℕ → List ℕ
both a b = a ++ b

error_is : (e : Option Error) (failing : Option Failing) → FailsAs e failing → failing_text failing ≡ error_text e
error_is e None h = sym (ap error_text h)
error_is e (Some (Faulty site fault)) h = ap (λ (b : List ℕ). error_line b (fault_text fault)) h.2 ∙ sym (ap error_text h.1)
error_is e (Some (Refused site code)) h = ap (λ (b : List ℕ). error_line b (code_text code)) h.2 ∙ sym (ap error_text h.1)

event_is : (e : Event) → event_line (shown_event e) ≡ trace_line (traced e)
event_is (RanAt site task) = refl
event_is (HitAt site) = refl
event_is (KeptAt site size) = refl
event_is (DroppedAt site) = refl
event_is Cleared = refl

events_are : (es : List Event) → event_lines (map shown_event es) ≡ trace_text es
events_are [] = refl
events_are (e ∷ es) = ap₂ both (event_is e) (events_are es)

happened_is : (failing : Option Failing) (told : List ToldEvent) (es : List Event) → EventsTell failing told es → happened failing told ≡ trace_text es
happened_is None told es h = ap event_lines h ∙ events_are es
happened_is (Some (Refused site code)) told es h = ap event_lines h ∙ events_are es
happened_is (Some (Faulty site fault)) told es h = sym (ap trace_text h)

pub told_is : (asked : Listings) (c : Coursed) (failing : Option Failing) (told : List ToldEvent) (links : Linked) → Tells c failing told links →
    told_behind asked failing told links.links ≡ behind_of asked c
told_is asked c failing told links t =
    ap₂ both (ap₂ both (error_is c.execution.error failing t.error) (ap (if_asked asked.trace) (happened_is failing told c.events t.events)))
    (ap (λ (ls : Links). if_asked asked.links (links_text ls)) t.objects)
