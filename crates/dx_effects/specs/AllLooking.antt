-- What looking at all arguments of an effect comes to.
use Rattle.std.specs.Prelude.{◌≡◌, ◌<◌, ℕ, List, length, Some, Result, Ok, Err}
use Rattle.dx_graph.specs.Graph.{Node}
use Rattle.dx_graph.specs.Unfolding.{calls_of, trees_of}
use Rattle.dx_graph.specs.declared.node.Input.{Input}
use Rattle.dx_macros.specs.Tree.{Trees}
use Rattle.dx_tags.specs.declared.term.Term.{Term}
use Rattle.dx_tags.specs.declared.term.ValueTag.{ValueTag}
use Rattle.dx_tags.specs.Closed.{ValueTerm, ValueTerms, heads_of, value_terms}
use Rattle.dx_machine.specs.Machine.{State, Got, get_all}
use Rattle.dx_getting.specs.Told.{Told}
use Rattle.dx_meaning.specs.Scan.{IsOff, Stops, Needs, Scanned, Forms, Ends, Sight, scan_each, all_scanned}
use Rattle.dx_meaning.specs.Halted.{halted_all}
use Rattle.dx_meaning.specs.Forming.{Formings, after}
use Rattle.dx_demand.specs.Terms.{AreArguments}
use Rattle.dx_demand.specs.Memo.{Answers, formed_of, selector_of, site_of}
use Rattle.dx_demand.specs.Calling.{AreValued}
use Rattle.dx_demand.specs.Halting.{selector_calls}
use Rattle.dx_demand.specs.Found.{AllFound}
use Rattle.dx_performing.specs.Course.{Fixed, Looked, sight_of, as_terms, look_at}
use Rattle.dx_performing.specs.Kept.{Kept}
use Rattle.dx_looking.specs.Setting.{nodes_in, sight_in}
use Rattle.dx_looking.specs.Looking.{StandsAt, HoweverFormed, GoesTo, StopsAt, IsCutIn}
use Rattle.dx_looking.specs.declared.cut.Cut.{Cut}
use Rattle.dx_looking.specs.declared.setup.Setup.{Setup}
use Rattle.dx_looking.specs.declared.progress.Progress.{Progress}
use Rattle.dx_effects.specs.declared.looked.AllLooked.{AllLooked}
use Rattle.dx_effects.specs.declared.looked.AllLooked.TheVariants as all

abbrev pub input_trees : Setup → List Input → Trees
input_trees setup inputs = trees_of (calls_of (nodes_in setup)) inputs

-- what is answered of so many arguments fits what is kept
abbrev pub AllLookedFit : Setup → ℕ → Progress → AllLooked → Type 0
AllLookedFit setup count at (all.Terms ts) = (length ts ≡ count) × AreArguments at.tags ts × AllFound setup.links.now.links at.tags (formed_of at.seen.memo) ts
AllLookedFit setup count at all.Off = Unit {0}
AllLookedFit setup count at (all.Halt n code) = n < length (nodes_in setup)
AllLookedFit setup count at (all.Refused n r) = (n < length (nodes_in setup)) × ((t : ValueTag) × (selector_of at.seen.memo n ≡ Some t))

-- where all have terms, they are settled with values
abbrev pub AllValued : Answers → List Input → AllLooked → Type 0
AllValued answers inputs (all.Terms ts) = AreValued answers inputs (length inputs)
AllValued answers inputs all.Off = Unit {0}
AllValued answers inputs (all.Halt n code) = Unit {0}
AllValued answers inputs (all.Refused n r) = Unit {0}

-- where a selector is refused, looking by what is told stops at that of this node
abbrev pub AllHalted : Sight → List Node → Trees → AllLooked → Type 0
AllHalted s nodes ts (all.Terms terms) = Unit {0}
AllHalted s nodes ts all.Off = Unit {0}
AllHalted s nodes ts (all.Halt n code) = Unit {0}
AllHalted s nodes ts (all.Refused n r) = ((t : ValueTerm) × (all_scanned (scan_each s ts) ≡ Ends (Needs (site_of nodes n) t))) × (halted_all s ts ≡ selector_calls s nodes n)

-- looking by all values ends so
abbrev pub AllScanTo : List Node → List Term → AllLooked → Scanned ValueTerms → Type 0
AllScanTo nodes terms (all.Terms ts) x = x ≡ Forms (value_terms (heads_of terms) ts)
AllScanTo nodes terms all.Off x = x ≡ Ends IsOff
AllScanTo nodes terms (all.Halt n code) x = x ≡ Ends (Stops (site_of nodes n) code)
AllScanTo nodes terms (all.Refused n r) x = (t : ValueTerm) × (x ≡ Ends (Needs (site_of nodes n) t))

-- the machine got all selectors, or the last of them is refused
abbrev pub AllGetTo : List Term → AllLooked → (State → Type 0) → Got → Type 0
AllGetTo terms (all.Terms ts) P g = GoesTo P g
AllGetTo terms all.Off P g = GoesTo P g
AllGetTo terms (all.Halt n code) P g = GoesTo P g
AllGetTo terms (all.Refused n r) P g = StopsAt terms r P g

-- what looking comes to, with what it forms, and the getting of its selectors, from a state of the machine
abbrev pub LookedSo : Setup → Fixed → Kept → Told → Looked → State → Formings → Result AllLooked Cut → Progress → Told → Type 0
LookedSo setup x k base looked s f (Ok how) at now =
    AllScanTo (nodes_in setup) at.tags how looked.terms
    × HoweverFormed x k (after looked.forms f) (λ frame. AllGetTo at.tags how (λ s'. StandsAt setup x k base at now s' (after looked.forms f)) (get_all frame (as_terms looked.selectors) s))
LookedSo setup x k base looked s f (Err cut) at now =
    HoweverFormed x k (after looked.forms f) (λ frame. IsCutIn base now (get_all frame (as_terms looked.selectors) s))

-- at trees, in order, by all values
abbrev pub AllLookSo : Setup → Fixed → Kept → Told → Trees → State → Formings → Result AllLooked Cut → Progress → Told → Type 0
AllLookSo setup x k base ts s f r at now = LookedSo setup x k base (look_at (sight_of x k) ts) s f r at now

-- a selector that is refused is needed by all values as it is by what is told
abbrev pub AllNeedAlike : Setup → Fixed → Kept → Trees → Result AllLooked Cut → Progress → Type 0
AllNeedAlike setup x k ts (Ok (all.Refused n r)) at = all_scanned (scan_each (sight_of x k) ts) ≡ all_scanned (scan_each (sight_in setup at) ts)
AllNeedAlike setup x k ts (Ok (all.Terms us)) at = Unit {0}
AllNeedAlike setup x k ts (Ok all.Off) at = Unit {0}
AllNeedAlike setup x k ts (Ok (all.Halt n code)) at = Unit {0}
AllNeedAlike setup x k ts (Err cut) at = Unit {0}
