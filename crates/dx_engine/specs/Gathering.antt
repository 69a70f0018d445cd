-- What an effect that was performed prints, puts, sets, and ends with.
use Rattle.std.specs.Prelude.{ℕ, List, [], ◌∷◌, ◌++◌, Option, Some, None, option_map, Bool, true, false}
use Rattle.dx_base.specs.declared.code.Code.{Code}
use Rattle.dx_graph.specs.Graph.{Node}
use Rattle.dx_macros.specs.Site.{Step}
use Rattle.dx_native_text.specs.Text.{text_of}
use Rattle.dx_links.specs.declared.held.Change.{Change}
use Rattle.dx_links.specs.Holding.{Holding}
use Rattle.dx_demand.specs.Memo.{site_of}
use Rattle.dx_ending.specs.Putting.{exports_of}
use Rattle.dx_performing.specs.Acts as act
use Rattle.dx_performing.specs.Execution.{Error, Refused, Export, Execution, performing, ends_at}
use Rattle.dx_engine.specs.declared.done.Done.{Done}
use Rattle.dx_engine.specs.declared.done.Done.TheVariants as done
use Rattle.dx_engine.specs.declared.gathered.Gathered.{Gathered}

-- an effect's part of an execution, ahead of what comes behind it
abbrev pub ahead : List Node → List Step → Done → Execution → Execution
ahead nodes site (done.Prints text) x = performing site (act.Prints text) x
ahead nodes site (done.Puts name object) x = performing site (act.Puts name (text_of object.value)) x
ahead nodes site (done.Sets c) x = performing site (act.Sets c.key (option_map (λ (h : Holding). h.value) c.held)) x
ahead nodes site done.PassedOver x = x
ahead nodes site (done.Ends n code) x = ends_at (site_of nodes n) code

abbrev pub text_in : Done → List ℕ
text_in (done.Prints text) = text
text_in (done.Puts name object) = []
text_in (done.Sets c) = []
text_in done.PassedOver = []
text_in (done.Ends n code) = []

abbrev pub puts_in : Done → List Export
puts_in (done.Prints text) = []
puts_in (done.Puts name object) = (name, text_of object.value) ∷ []
puts_in (done.Sets c) = []
puts_in done.PassedOver = []
puts_in (done.Ends n code) = []

abbrev pub changes_in : Done → List Change
changes_in (done.Prints text) = []
changes_in (done.Puts name object) = []
changes_in (done.Sets c) = c ∷ []
changes_in done.PassedOver = []
changes_in (done.Ends n code) = []

abbrev pub is_end : Done → Bool
is_end (done.Prints text) = false
is_end (done.Puts name object) = false
is_end (done.Sets c) = false
is_end done.PassedOver = false
is_end (done.Ends n code) = true

-- the error that it ends with, else the one that there was
abbrev pub error_with : Done → Option (ℕ × Code) → Option (ℕ × Code)
error_with (done.Ends n code) e = Some (n, code)
error_with (done.Prints text) e = e
error_with (done.Puts name object) e = e
error_with (done.Sets c) e = e
error_with done.PassedOver e = e

-- ---- what was gathered

-- the node and the code of an error, what is put, and what is set
pub record Gathering : Type 0 where
  pub error : Option (ℕ × Code)
  pub exports : List Export
  pub changes : List Change

abbrev pub gathers : Gathered → Gathering
gathers g = record { error = g.error; exports = exports_of g.puts.items; changes = g.changes }

abbrev pub nothing : Gathering
nothing = record { error = None; exports = []; changes = [] }

abbrev pub gathered_with : Done → Gathering → Gathering
gathered_with d g = record { error = error_with d g.error; exports = g.exports ++ puts_in d; changes = g.changes ++ changes_in d }

abbrev pub error_of : List Node → Option (ℕ × Code) → Option Error
error_of nodes e = option_map (λ (x : ℕ × Code). record { site = site_of nodes x.0; failure = Refused x.1 }) e
