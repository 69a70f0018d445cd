-- The text behind an execution, by what is at hand of it.
use Rattle.std.specs.Prelude.{ℕ, List, [], ◌∷◌, ◌++◌, Option, Some, None}
use Rattle.dx_getting.specs.declared.event.Event.{Event as ToldEvent}
use Rattle.dx_getting.specs.declared.event.Event.TheVariants as told
use Rattle.dx_links.specs.LinkMap.{LinkMap}
use Rattle.dx_making.specs.declared.failing.Failing.{Failing}
use Rattle.dx_making.specs.declared.failing.Failing.TheVariants.{Faulty, Refused}
use Rattle.dx_print.specs.declared.lines.Traced.TheVariants.{Run, Hit, Keep, Drop, Clear}
use Rattle.dx_print.specs.Errors.{error_line, code_text}
use Rattle.dx_print.specs.Lines.{trace_line}
use Rattle.dx_telling.specs.Behind.{fault_text, lent, if_asked, links_text}
use Rattle.dx_telling.specs.Tells.{objects_in}
use Rattle.dx_telling.specs.declared.listings.Listings.{Listings}

abbrev pub failing_line : Failing → List ℕ
failing_line (Faulty site fault) = error_line site (fault_text fault)
failing_line (Refused site code) = error_line site (code_text code)

abbrev pub failing_text : Option Failing → List ℕ
failing_text None = []
failing_text (Some failing) = failing_line failing

abbrev pub event_line : ToldEvent → List ℕ
event_line (told.Run site) = trace_line (Run (lent site))
event_line (told.Hit site) = trace_line (Hit (lent site))
event_line (told.Keep site size) = trace_line (Keep (lent site) size)
event_line (told.Drop site) = trace_line (Drop (lent site))
event_line told.Clear = trace_line Clear

abbrev pub event_lines : List ToldEvent → List ℕ
event_lines [] = []
event_lines (e ∷ es) = event_line e ++ event_lines es

-- nothing happened where there is a static fault
abbrev pub happened : Option Failing → List ToldEvent → List ℕ
happened None events = event_lines events
happened (Some (Refused site code)) events = event_lines events
happened (Some (Faulty site fault)) events = []

abbrev pub told_behind : Listings → Option Failing → List ToldEvent → LinkMap → List ℕ
told_behind asked failing events links = failing_text failing ++ if_asked asked.trace (happened failing events) ++ if_asked asked.links (links_text (objects_in links))
