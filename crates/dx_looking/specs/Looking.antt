-- Where looking stands, and what it comes to.
use Rattle.std.specs.Prelude.{◌≡◌, ◌<◌, List, [], ◌∷◌, ◌++◌, length, Option, Some, None, true, Result, Ok, Err}
use Rattle.dx_base.specs.Object.{Tree as Object}
use Rattle.dx_graph.specs.Graph.{Node}
use Rattle.dx_graph.specs.Unfolding.{calls_of, tree_of}
use Rattle.dx_graph.specs.declared.node.Input.{Input}
use Rattle.dx_io.specs.Devices.{FileMap as InputFiles}
use Rattle.dx_macros.specs.Tree.{Tree}
use Rattle.dx_tags.specs.declared.term.Term.{Term}
use Rattle.dx_tags.specs.declared.term.ValueTag.{ValueTag}
use Rattle.dx_tags.specs.Closed.{ValueTerm, heads_of, value_term}
use Rattle.dx_links.specs.Denotes.{Around, denotes}
use Rattle.dx_links.specs.LinkMap.{LinkMap}
use Rattle.dx_machine.specs.Machine.{FormedCall, Frame, State, Got, Went, Stopped, state_at, tasks_of, get_all}
use Rattle.dx_machine.specs.Sound.{IsSound}
use Rattle.dx_getting.specs.Bound.{IsBound, BeginHeld}
use Rattle.dx_getting.specs.Told.{Told, AddsSome}
use Rattle.dx_getting.specs.Stands.{Answers, IsCall, Stands, call_at, world}
use Rattle.dx_getting.specs.Steps.{AreCalls}
use Rattle.dx_meaning.specs.Scan.{Sight, IsOff, Stops, Needs, Scanned, Forms, Ends, scan}
use Rattle.dx_meaning.specs.Forming.{Formings, forms, after}
use Rattle.dx_demand.specs.Terms.{AreExact, IsValue}
use Rattle.dx_demand.specs.Memo.{formed_of, selector_of, site_of}
use Rattle.dx_demand.specs.Found.{IsFound, IsClosed}
use Rattle.dx_demand.specs.Forming.{SeenFormed, formings}
use Rattle.dx_demand.specs.Calling.{SeenMet, IsValued}
use Rattle.dx_demand.specs.Halting.{input_halted, selector_calls}
use Rattle.dx_demand.specs.Memo as memo
use Rattle.dx_demand.specs.Steps.{SeenFits, SeenRight}
use Rattle.dx_performing.specs.Alike.{SameCalls}
use Rattle.dx_performing.specs.Course.{Fixed, sight_of, around_of, frame_with, formed_calls, as_terms}
use Rattle.dx_performing.specs.Kept.{Kept}
use Rattle.dx_performing.specs.Meant.{LinksRight}
use Rattle.dx_performing.specs.Resuming.{is_ready}
use Rattle.dx_performing.specs.Selectors.{selectors}
use Rattle.dx_looking.specs.ToldTags.{ToldTags}
use Rattle.dx_looking.specs.Setting.{TermValues, nodes_in, IsKept, told_terms, sight_in, setting_in, fixed}
use Rattle.dx_looking.specs.declared.cut.Cut.{Cut}
use Rattle.dx_looking.specs.declared.looked.Looked.{Looked}
use Rattle.dx_looking.specs.declared.looked.Looked.TheVariants as looked
use Rattle.dx_looking.specs.declared.looked.Refusal.{Refusal}
use Rattle.dx_looking.specs.declared.setup.Setup.{Setup}
use Rattle.dx_looking.specs.declared.progress.Progress.{Progress}

-- ---- what fits together at all times

abbrev pub AreValues : List Term → ToldTags → Type 0
AreValues terms [] = Unit {0}
AreValues terms (x ∷ xs) = IsValue terms x.0 × AreValues terms xs

-- the tag of each link names a value
abbrev pub AllFit : List Term → LinkMap → Type 0
AllFit terms [] = Unit {0}
AllFit terms (l ∷ ls) = IsValue terms l.1.tag × AllFit terms ls

-- the terms, the links, the entries, and what was seen by what is told
pub record IsLooking (setup : Setup) (at : Progress) : Type 0 where
  pub exact : AreExact at.tags
  pub links : AllFit at.tags setup.links.now.links
  pub bound : IsBound setup.links.now.links setup.bound.now
  pub below : BeginHeld setup.bound.now.from at.tags
  pub entries : AreCalls at.tags at.work.cache.entries
  pub told : AreValues at.tags at.told
  pub fits : SeenFits (nodes_in setup) at.tags at.seen
  pub closed : IsClosed setup.links.now.links at.tags at.seen
  pub right : SeenRight (sight_in setup at) (nodes_in setup) at.tags at.seen
  pub formed : SeenFormed (sight_in setup at) (nodes_in setup) at.tags at.seen
  pub met : SeenMet (sight_in setup at) (nodes_in setup) at.seen

-- ---- where it stands

-- each is what its term denotes
abbrev pub AllDenote : Around → TermValues → Type 0
AllDenote a [] = Unit {0}
AllDenote a (x ∷ xs) = (denotes a x.0 ≡ Ok x.1) × AllDenote a xs

-- to get these terms does nothing
abbrev pub AllReady : Frame → State → TermValues → Type 0
AllReady k s [] = Unit {0}
AllReady k s (x ∷ xs) = (is_ready k s x.0 ≡ true) × AllReady k s xs

-- the work is where the machine's state is, which is sound, these terms and calls were formed, and what is told is right and was got
pub record StandsAt (setup : Setup) (x : Fixed) (k : Kept) (base : Told) (at : Progress) (now : Told) (s : State) (f : Formings) : Type 0 where
  pub kept : IsKept (heads_of at.tags) setup k
  pub work : Stands (setting_in setup at) (world x.answer x.file) at.work base now s
  pub formings : formings (nodes_in setup) at.tags at.seen.memo ≡ f
  pub sound : IsSound (around_of x k) x.budget s
  pub told : AllDenote (around_of x k) (told_terms (heads_of at.tags) at.told)
  pub ready : AllReady (frame_with x k []) s (told_terms (heads_of at.tags) at.told)

-- for files that tell their content, links that are right, and each state where the work stands
abbrev pub FromHere : Setup → Answers → Option InputFiles → Progress → Told → (Fixed → Kept → Told → State → Formings → Type 0) → Type 0
FromHere setup answer content at now P = (map : InputFiles) → content ≡ Some map → (k : Kept) → LinksRight (around_of (fixed answer map at.work.cache.budget) k) k.links →
    (base : Told) (s : State) (f : Formings) → StandsAt setup (fixed answer map at.work.cache.budget) k base at now s f → P (fixed answer map at.work.cache.budget) k base s f

-- ---- what it comes to

-- the machine's getting of these terms, whatever is formed behind what was
abbrev pub HoweverFormed : Fixed → Kept → Formings → (Frame → Type 0) → Type 0
HoweverFormed x k f P = (later : List FormedCall) → SameCalls (formed_calls f) later → P (frame_with x k later)

abbrev pub GoesTo : (State → Type 0) → Got → Type 0
GoesTo P (Went s) = P s
GoesTo P (Stopped c code s) = ⊥

-- it stopped at the call that a tag names
abbrev pub StopsAt : List Term → Refusal → (State → Type 0) → Got → Type 0
StopsAt terms r P (Went s) = ⊥
StopsAt terms r P (Stopped c code s) = IsCall terms r.tag × (call_at (heads_of terms) r.tag ≡ c) × (r.code ≡ code) × P s

-- a front of what the machine runs was told
abbrev pub IsCutIn : Told → Told → Got → Type 0
IsCutIn base now g = AddsSome base now (tasks_of (state_at g).events)

-- looking by all values ends so
abbrev pub ScansTo : List Node → List Term → Looked → Scanned ValueTerm → Type 0
ScansTo nodes terms (looked.Value t) x = x ≡ Forms (value_term (heads_of terms) t)
ScansTo nodes terms looked.Off x = x ≡ Ends IsOff
ScansTo nodes terms (looked.Halt n code) x = x ≡ Ends (Stops (site_of nodes n) code)
ScansTo nodes terms (looked.Refused n r) x = (t : ValueTerm) × (x ≡ Ends (Needs (site_of nodes n) t))

-- the machine got all selectors, or the last of them is refused
abbrev pub GetsTo : List Term → Looked → (State → Type 0) → Got → Type 0
GetsTo terms (looked.Value t) P g = GoesTo P g
GetsTo terms looked.Off P g = GoesTo P g
GetsTo terms (looked.Halt n code) P g = GoesTo P g
GetsTo terms (looked.Refused n r) P g = StopsAt terms r P g

-- looking at a tree by all values, what it forms, and the getting of its selectors, from a state of the machine
abbrev pub LooksSo : Setup → Fixed → Kept → Told → Tree → State → Formings → Result Looked Cut → Progress → Told → Type 0
LooksSo setup x k base t s f (Ok how) at now =
    ScansTo (nodes_in setup) at.tags how (scan (sight_of x k) t)
    × HoweverFormed x k (after (forms (sight_of x k) t) f) (λ frame. GetsTo at.tags how (λ s'. StandsAt setup x k base at now s' (after (forms (sight_of x k) t) f)) (get_all frame (as_terms (selectors (sight_of x k) t)) s))
LooksSo setup x k base t s f (Err cut) at now =
    HoweverFormed x k (after (forms (sight_of x k) t) f) (λ frame. IsCutIn base now (get_all frame (as_terms (selectors (sight_of x k) t)) s))

abbrev pub input_tree : Setup → Input → Tree
input_tree setup i = tree_of (calls_of (nodes_in setup)) i

-- what is answered fits what is kept
abbrev pub LookedFits : Setup → Progress → Looked → Type 0
LookedFits setup at (looked.Value t) = IsValue at.tags t × IsFound setup.links.now.links at.tags (formed_of at.seen.memo) t
LookedFits setup at looked.Off = Unit {0}
LookedFits setup at (looked.Halt n code) = n < length (nodes_in setup)
LookedFits setup at (looked.Refused n r) = (n < length (nodes_in setup)) × ((t : ValueTag) × (selector_of at.seen.memo n ≡ Some t))

-- what comes to a value is settled
abbrev pub LookedValued : memo.Answers → Input → Looked → Type 0
LookedValued answers i (looked.Value t) = IsValued answers i
LookedValued answers i looked.Off = Unit {0}
LookedValued answers i (looked.Halt n code) = Unit {0}
LookedValued answers i (looked.Refused n r) = Unit {0}

-- where a selector is refused, looking stops at that of this node
abbrev pub LookedHalted : Sight → List Node → Input → Looked → Type 0
LookedHalted s nodes i (looked.Value t) = Unit {0}
LookedHalted s nodes i looked.Off = Unit {0}
LookedHalted s nodes i (looked.Halt n code) = Unit {0}
LookedHalted s nodes i (looked.Refused n r) = input_halted s nodes i ≡ selector_calls s nodes n

-- a selector that is refused is needed by all values as it is by what is told
abbrev pub NeedsAlike : Setup → Fixed → Kept → Tree → Result Looked Cut → Progress → Type 0
NeedsAlike setup x k t (Ok (looked.Refused n r)) at = scan (sight_of x k) t ≡ scan (sight_in setup at) t
NeedsAlike setup x k t (Ok (looked.Value u)) at = Unit {0}
NeedsAlike setup x k t (Ok looked.Off) at = Unit {0}
NeedsAlike setup x k t (Ok (looked.Halt n code)) at = Unit {0}
NeedsAlike setup x k t (Err cut) at = Unit {0}

-- ---- getting one selector

-- the value of a selector is told from now on, or it is refused
abbrev pub TellsMore : ValueTag → ToldTags → Option Refusal → ToldTags → Type 0
TellsMore t old None new = (v : Option Object) × (new ≡ old ++ (t, v) ∷ [])
TellsMore t old (Some r) new = new ≡ old

-- the machine's getting of its term ends so
abbrev pub TellsSo : Setup → Fixed → Kept → Told → ValueTag → Got → Formings → Result (Option Refusal) Cut → Progress → Told → Type 0
TellsSo setup x k base t g f (Ok None) at now = GoesTo (λ s'. StandsAt setup x k base at now s' f) g
TellsSo setup x k base t g f (Ok (Some r)) at now = StopsAt at.tags r (λ s'. StandsAt setup x k base at now s' f) g × (denotes (around_of x k) (value_term (heads_of at.tags) t) ≡ Err r.code)
TellsSo setup x k base t g f (Err cut) at now = IsCutIn base now g
