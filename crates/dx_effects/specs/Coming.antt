-- What the arguments of an effect come to: looked at in order for control, and then got in order for data.
use Rattle.std.specs.Prelude.{◌≡◌, ◌<◌, ℕ, List, length, Some, Result, Ok, Err}
use Rattle.dx_graph.specs.Graph.{Node, node_at}
use Rattle.dx_macros.specs.Tree.{Trees}
use Rattle.dx_objects.specs.Runs.{Values}
use Rattle.dx_tags.specs.declared.term.Term.{Term}
use Rattle.dx_tags.specs.declared.term.ValueTag.{ValueTag}
use Rattle.dx_tags.specs.Closed.{ValueTerm, ValueTerms, heads_of, value_terms}
use Rattle.dx_links.specs.Denotes.{Around}
use Rattle.dx_machine.specs.Machine.{Frame, State, Got, get_all}
use Rattle.dx_getting.specs.Told.{Told}
use Rattle.dx_getting.specs.declared.fail.GetFail.{GetFail}
use Rattle.dx_getting.specs.declared.fail.GetFail.TheVariants as fail
use Rattle.dx_meaning.specs.Scan.{IsOff, Stops, Needs, Scanned, Forms, Ends, Sight, scan_each, all_scanned}
use Rattle.dx_meaning.specs.Halted.{halted_all}
use Rattle.dx_meaning.specs.Forming.{Formings, after}
use Rattle.dx_demand.specs.Terms.{AreArguments}
use Rattle.dx_graph.specs.declared.node.Input.{Input}
use Rattle.dx_demand.specs.Memo.{Answers, formed_of, selector_of, site_of}
use Rattle.dx_demand.specs.Calling.{AreValued}
use Rattle.dx_demand.specs.Halting.{selector_calls}
use Rattle.dx_demand.specs.Found.{AllFound}
use Rattle.dx_performing.specs.Course.{Fixed, HasValues, IsRefused, around_of, sight_of, look_at, effect_got, came}
use Rattle.dx_performing.specs.Kept.{Kept}
use Rattle.dx_looking.specs.Setting.{nodes_in, sight_in}
use Rattle.dx_looking.specs.Looking.{StandsAt, HoweverFormed, GoesTo, StopsAt, IsCutIn}
use Rattle.dx_looking.specs.declared.cut.Cut.{Cut}
use Rattle.dx_looking.specs.declared.cut.Cut.TheVariants.{ReadFault, Memory}
use Rattle.dx_looking.specs.declared.setup.Setup.{Setup}
use Rattle.dx_looking.specs.declared.progress.Progress.{Progress}
use Rattle.dx_effects.specs.AllLooking.{input_trees}
use Rattle.dx_effects.specs.declared.came.Arguments.{Arguments}
use Rattle.dx_effects.specs.declared.came.Arguments.TheVariants as arguments

-- the trees that a node's inputs stand for
abbrev pub node_trees : Setup → ℕ → Trees
node_trees setup n = input_trees setup (node_at (nodes_in setup) n).inputs

-- what is answered of so many arguments fits what is kept
abbrev pub ArgumentsFit : Setup → ℕ → Progress → Arguments → Type 0
ArgumentsFit setup count at (arguments.Values ts vs) = (length vs ≡ count) × AreArguments at.tags ts × AllFound setup.links.now.links at.tags (formed_of at.seen.memo) ts
ArgumentsFit setup count at arguments.Off = Unit {0}
ArgumentsFit setup count at (arguments.Halt n code) = n < length (nodes_in setup)
ArgumentsFit setup count at (arguments.SelectorRefused n r) = (n < length (nodes_in setup)) × ((t : ValueTag) × (selector_of at.seen.memo n ≡ Some t))
ArgumentsFit setup count at (arguments.Refused r) = Unit {0}

-- where all have terms, they are settled with values
abbrev pub ArgumentsValued : Answers → List Input → Arguments → Type 0
ArgumentsValued answers inputs (arguments.Values ts vs) = AreValued answers inputs (length inputs)
ArgumentsValued answers inputs arguments.Off = Unit {0}
ArgumentsValued answers inputs (arguments.Halt n code) = Unit {0}
ArgumentsValued answers inputs (arguments.SelectorRefused n r) = Unit {0}
ArgumentsValued answers inputs (arguments.Refused r) = AreValued answers inputs (length inputs)

-- where a selector is refused, looking by what is told stops at that of this node
abbrev pub ArgumentsHalted : Sight → List Node → Trees → Arguments → Type 0
ArgumentsHalted s nodes ts (arguments.Values terms vs) = Unit {0}
ArgumentsHalted s nodes ts arguments.Off = Unit {0}
ArgumentsHalted s nodes ts (arguments.Halt n code) = Unit {0}
ArgumentsHalted s nodes ts (arguments.SelectorRefused n r) = ((t : ValueTerm) × (all_scanned (scan_each s ts) ≡ Ends (Needs (site_of nodes n) t))) × (halted_all s ts ≡ selector_calls s nodes n)
ArgumentsHalted s nodes ts (arguments.Refused r) = Unit {0}

-- what looking by all values came to, and whether each term denotes a value
abbrev pub MeanSo : Around → List Node → List Term → Arguments → Scanned ValueTerms → Type 0
MeanSo a nodes terms (arguments.Values ts vs) x = came a x ≡ HasValues (value_terms (heads_of terms) ts) vs
MeanSo a nodes terms arguments.Off x = x ≡ Ends IsOff
MeanSo a nodes terms (arguments.Halt n code) x = x ≡ Ends (Stops (site_of nodes n) code)
MeanSo a nodes terms (arguments.SelectorRefused n r) x = (t : ValueTerm) × (x ≡ Ends (Needs (site_of nodes n) t))
MeanSo a nodes terms (arguments.Refused r) x = ((ts : ValueTerms) × (x ≡ Forms ts)) × (came a x ≡ IsRefused)

-- the machine got all of them, or it stopped where one is refused
abbrev pub EndSo : List Term → Arguments → (State → Type 0) → Got → Type 0
EndSo terms (arguments.Values ts vs) P g = GoesTo P g
EndSo terms arguments.Off P g = GoesTo P g
EndSo terms (arguments.Halt n code) P g = GoesTo P g
EndSo terms (arguments.SelectorRefused n r) P g = StopsAt terms r P g
EndSo terms (arguments.Refused r) P g = StopsAt terms r P g

-- terms come to this, and the machine's getting of them ends so
abbrev pub ComeSo : Setup → Fixed → Kept → Told → Scanned ValueTerms → Formings → (Frame → Got) → Result Arguments Cut → Progress → Told → Type 0
ComeSo setup x k base terms f go (Ok how) at now =
    MeanSo (around_of x k) (nodes_in setup) at.tags how terms
    × HoweverFormed x k f (λ frame. EndSo at.tags how (λ s. StandsAt setup x k base at now s f) (go frame))
ComeSo setup x k base terms f go (Err cut) at now = HoweverFormed x k f (λ frame. IsCutIn base now (go frame))

-- the arguments of an effect, by what looking at them by all values comes to
abbrev pub ArgumentsSo : Setup → Fixed → Kept → Told → Trees → State → Formings → Result Arguments Cut → Progress → Told → Type 0
ArgumentsSo setup x k base ts s f r at now =
    let looked = look_at (sight_of x k) ts in
    ComeSo setup x k base looked.terms (after looked.forms f) (λ frame. effect_got frame looked s) r at now

-- a selector that is refused is needed by all values as it is by what is told
abbrev pub ArgumentsAlike : Setup → Fixed → Kept → Trees → Result Arguments Cut → Progress → Type 0
ArgumentsAlike setup x k ts (Ok (arguments.SelectorRefused m r)) at = all_scanned (scan_each (sight_of x k) ts) ≡ all_scanned (scan_each (sight_in setup at) ts)
ArgumentsAlike setup x k ts (Ok (arguments.Values us vs)) at = Unit {0}
ArgumentsAlike setup x k ts (Ok arguments.Off) at = Unit {0}
ArgumentsAlike setup x k ts (Ok (arguments.Halt m code)) at = Unit {0}
ArgumentsAlike setup x k ts (Ok (arguments.Refused r)) at = Unit {0}
ArgumentsAlike setup x k ts (Err cut) at = Unit {0}

-- some terms that were formed
abbrev pub TermsSo : Setup → Fixed → Kept → Told → ValueTerms → State → Formings → Result Arguments Cut → Progress → Told → Type 0
TermsSo setup x k base ts s f r at now = ComeSo setup x k base (Forms ts) f (λ frame. get_all frame ts s) r at now

-- what getting values answers, as arguments
abbrev pub came_so : List ValueTag → Result Values GetFail → Result Arguments Cut
came_so ts (Ok values) = Ok (arguments.Values ts values)
came_so ts (Err (fail.Refused tag code)) = Ok (arguments.Refused (record { tag = tag; code = code }))
came_so ts (Err fail.ReadFault) = Err ReadFault
came_so ts (Err fail.Memory) = Err Memory
