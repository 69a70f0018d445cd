-- What is printed behind the text of an execution's effects: the line of its error, a line for each event, and the links behind it.
use Rattle.std.specs.Prelude.{ℕ, List, [], ◌∷◌, ◌++◌, length, Option, Some, None, Bool, true, false, codes}
use Rattle.std.specs.Borrow.{Bor}
use Rattle.dx_base.specs.Object.{Tree as Object}
use Rattle.dx_links.specs.declared.key.Key.{Key}
use Rattle.dx_links.specs.declared.key.Key.TheVariants as key
use Rattle.dx_machine.specs.Machine.{Event, RanAt, HitAt, KeptAt, DroppedAt, Cleared}
use Rattle.dx_macros.specs.Site.{steps_text}
use Rattle.dx_native_text.specs.Text.{text_of as native_text}
use Rattle.dx_performing.specs.Execution.{Links, Error, Failure, Faulty, Refused}
use Rattle.dx_print.specs.declared.lines.LinkName.{LinkName}
use Rattle.dx_print.specs.declared.lines.LinkName.TheVariants as name
use Rattle.dx_print.specs.declared.lines.Traced.{Traced}
use Rattle.dx_print.specs.declared.lines.Traced.TheVariants.{Run, Hit, Keep, Drop, Clear}
use Rattle.dx_print.specs.Errors.{error_line, code_text}
use Rattle.dx_print.specs.Lines.{trace_line, links_line, link_line}
use Rattle.dx_signatures.specs.declared.fault.StaticFault.{StaticFault}
use Rattle.dx_signatures.specs.declared.fault.StaticFault.TheVariants as fault
use Rattle.dx_telling.specs.declared.listings.Listings.{Listings}

-- ---- the error that it ends with

abbrev pub fault_text : StaticFault → List ℕ
fault_text fault.UnknownFunction = codes "UnknownFunction"
fault_text fault.TooManyArguments = codes "TooManyArguments"
fault_text fault.NoSuchParameter = codes "NoSuchParameter"
fault_text fault.TooManyResults = codes "TooManyResults"
fault_text fault.Nesting = codes "Nesting"
fault_text fault.Calls = codes "Calls"

abbrev pub failure_text : Failure → List ℕ
failure_text (Faulty f) = fault_text f
failure_text (Refused c) = code_text c

-- the line of the call and what is wrong with it, or nothing without an error
abbrev pub error_text : Option Error → List ℕ
error_text None = []
error_text (Some e) = error_line (steps_text e.site) (failure_text e.failure)

-- ---- what happened in it

-- a text, as lines are given it
abbrev pub lent : List ℕ → Bor (List ℕ)
lent text = record { ref_ptr = (0, 0); now = text }

abbrev pub traced : Event → Traced
traced (RanAt site task) = Run (lent site)
traced (HitAt site) = Hit (lent site)
traced (KeptAt site size) = Keep (lent site) size
traced (DroppedAt site) = Drop (lent site)
traced Cleared = Clear

-- a line for each event, in order
abbrev pub trace_text : List Event → List ℕ
trace_text [] = []
trace_text (e ∷ es) = trace_line (traced e) ++ trace_text es

-- ---- the links behind it

abbrev pub link_name : Key → LinkName
link_name (key.Global n) = name.Global (lent n)
link_name (key.Local p n) = name.Local (lent p) (lent n)

-- the line of a link, and its value as a native file
abbrev pub link_text : Key → Object → List ℕ
link_text k o = link_line (link_name k) ++ native_text o

abbrev pub each_link : Links → List ℕ
each_link [] = []
each_link (l ∷ ls) = link_text l.0 l.1 ++ each_link ls

-- how many there are, and each in the order of the keys
abbrev pub links_text : Links → List ℕ
links_text links = links_line (length links) ++ each_link links

-- ---- in this order, and of the listings those that are asked for

abbrev pub if_asked : Bool → List ℕ → List ℕ
if_asked true text = text
if_asked false text = []

abbrev pub behind_text : Listings → Option Error → List Event → Links → List ℕ
behind_text asked error events links = error_text error ++ if_asked asked.trace (trace_text events) ++ if_asked asked.links (links_text links)
