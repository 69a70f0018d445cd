-- What one step does for a port, and what resolving answers.
use Rattle.dx_demand.specs.Terms.{IsValue}
use Rattle.std.specs.Prelude.{◌≡◌, ℕ, ◌<◌, List, [], ◌∷◌, Option, Some, None, option_map, length}
use Rattle.dx_base.specs.declared.function.Function.{Function}
use Rattle.dx_base.specs.declared.function.Function.TheVariants as function
use Rattle.dx_base.specs.declared.function.Module.{Module}
use Rattle.dx_graph.specs.Graph.{Node, node_at}
use Rattle.dx_graph.specs.declared.node.Input.{Input}
use Rattle.dx_tags.specs.declared.term.Term.{Term}
use Rattle.dx_tags.specs.declared.term.ValueTag.{ValueTag}
use Rattle.dx_tags.specs.Files.{FileMap, content_of}
use Rattle.dx_tags.specs.Closed.{ValueTerm, heads_of, value_term}
use Rattle.dx_links.specs.declared.key.Key.{Key}
use Rattle.dx_links.specs.Holding.{Holding}
use Rattle.dx_links.specs.LinkMap.{LinkMap, held_at}
use Rattle.dx_meaning.specs.Outcome.{Value}
use Rattle.dx_meaning.specs.Picking.{Pick, pick}
use Rattle.dx_meaning.specs.Scan.{Sight, IsOff, Stops, Needs, Scanned, Forms, Ends, all_scanned, scanned_at, call_scanned, picked_scanned, terms_in}
use Rattle.dx_meaning.specs.More.{More}
use Rattle.dx_meaning.specs.Met.{met_at, picked_met}
use Rattle.dx_meaning.specs.Halted.{all_halted}
use Rattle.dx_demand.specs.Memo.{Answers, answers_of, selector_of, site_of, shown, SettledFits, IsPort, input_at, input_scan, port_scan, node_scans, selector_scan, MemoFits, MemoRight}
use Rattle.dx_demand.specs.Halting.{node_halted, port_halted, selector_calls}
use Rattle.dx_demand.specs.Stack.{Leads, StackFits, StackRight}
use Rattle.dx_demand.specs.declared.settled.Port.{Port}
use Rattle.dx_demand.specs.declared.settled.Resolved.{Resolved}
use Rattle.dx_demand.specs.declared.settled.Resolved.TheVariants as resolved
use Rattle.dx_demand.specs.declared.seen.Frame.{Frame}
use Rattle.dx_demand.specs.declared.seen.Memo.{Memo}
use Rattle.dx_demand.specs.declared.seen.Seen.{Seen}
use Rattle.dx_demand.specs.declared.step.Known.{Known}
use Rattle.dx_demand.specs.declared.step.Known.TheVariants as known
use Rattle.dx_demand.specs.declared.step.Selection.{Selection}
use Rattle.dx_demand.specs.declared.step.Selection.TheVariants as selection
use Rattle.dx_demand.specs.declared.step.Step.{Step}
use Rattle.dx_demand.specs.declared.step.Step.TheVariants as step

-- ---- links and what is told

-- what is held under keys is so of the terms that the tags name
abbrev pub Holds : LinkMap → List Term → Sight → Type 0
Holds links terms s = (k : Key) → s.linked k ≡ option_map (λ (h : Holding). value_term (heads_of terms) h.tag) (held_at k links)

-- the files are those that were written
abbrev pub Wrote : FileMap → Sight → Type 0
Wrote files s = (name : List ℕ) → s.written name ≡ content_of name files

-- what is told of tags is so of the terms that they name
abbrev pub Tells : (given : ValueTag → Option Value) → List Term → Sight → Type 0
Tells given terms s = (t : ValueTag) → IsValue terms t → given t ≡ s.told (value_term (heads_of terms) t)

-- looking at trees is by what is told, what links hold and what was written
pub record Sees (given : ValueTag → Option Value) (links : LinkMap) (files : FileMap) (terms : List Term) (s : Sight) : Type 0 where
  pub told : Tells given terms s
  pub linked : Holds links terms s
  pub written : Wrote files s

-- the functions that pick by a selector
abbrev pub IsPicking : Function → Type 0
IsPicking function.Switch = Unit {0}
IsPicking function.Route = Unit {0}
IsPicking function.GetLocal = Unit {0}
IsPicking function.GetGlobal = Unit {0}
IsPicking other = ⊥

-- ---- inputs

abbrev pub KnownFits : List Node → List Term → Answers → Input → Known → Type 0
KnownFits nodes terms answers i (known.Settled a) = SettledFits nodes terms a
KnownFits nodes terms answers i (known.Open p) = (i ≡ input_at p) × (answers p ≡ None)

abbrev pub KnownRight : Sight → List Node → List Term → Input → Known → Type 0
KnownRight s nodes terms i (known.Settled a) = input_scan s nodes i ≡ shown nodes terms a
KnownRight s nodes terms i (known.Open p) = Unit {0}

-- ---- steps

abbrev pub StepFits : List Node → List Term → (ValueTag → Option Value) → Memo → Port → Step → Type 0
StepFits nodes terms given m p (step.Settles a) = SettledFits nodes terms a.settled
StepFits nodes terms given m p (step.Awaits q) = IsPort nodes q × (q.node < p.node) × (answers_of m q ≡ None)
StepFits nodes terms given m p (step.Needs t) = IsValue terms t × (given t ≡ None) × (selector_of m p.node ≡ Some t)

abbrev pub StepRight : Sight → List Node → List Term → Port → Step → Type 0
StepRight s nodes terms p (step.Settles a) = port_scan s nodes p ≡ shown nodes terms a.settled
StepRight s nodes terms p (step.Awaits q) = Leads s nodes p q
StepRight s nodes terms p (step.Needs t) = (port_scan s nodes p ≡ Ends (Needs (site_of nodes p.node) (value_term (heads_of terms) t))) × (port_halted s nodes p ≡ selector_calls s nodes p.node)

-- also as more is told, a port comes to what all inputs of its module come to
abbrev pub TakesAll : Sight → List Node → Port → Module → Option (List ℕ) → Type 0
TakesAll s nodes p m file = (s' : Sight) → More s s' →
    (port_scan s' nodes p ≡ call_scanned m file p.result (all_scanned (node_scans s' nodes p.node))) × (port_halted s' nodes p ≡ all_halted (node_scans s' nodes p.node) (node_halted s' nodes p.node))

-- to what one of them comes to
abbrev pub TakesInput : Sight → List Node → Port → ℕ → Type 0
TakesInput s nodes p k = (s' : Sight) → More s s' →
    (port_scan s' nodes p ≡ scanned_at (node_scans s' nodes p.node) k) × (port_halted s' nodes p ≡ met_at (node_halted s' nodes p.node) k)

abbrev pub picked_by : Sight → List Node → Port → Value → Pick ValueTerm
picked_by s nodes p v = pick (terms_in s) (node_at nodes p.node).what (node_at nodes p.node).place p.result v

-- to what a value of its selector picks
abbrev pub TakesPick : Sight → List Node → Port → Value → Type 0
TakesPick s nodes p v = (s' : Sight) → More s s' →
    (port_scan s' nodes p ≡ picked_scanned (node_at nodes p.node).place (node_scans s' nodes p.node) (picked_by s' nodes p v)) × (port_halted s' nodes p ≡ picked_met (node_halted s' nodes p.node) (picked_by s' nodes p v))

abbrev pub SelectionFits : List Node → List Term → (ValueTag → Option Value) → Memo → Port → Selection → Type 0
SelectionFits nodes terms given m p (selection.Selects t) = selector_of m p.node ≡ Some t
SelectionFits nodes terms given m p (selection.Before x) = StepFits nodes terms given m p x

abbrev pub SelectionRight : Sight → List Node → List Term → Port → Selection → Type 0
SelectionRight s nodes terms p (selection.Selects t) = selector_scan s nodes p.node ≡ Forms (value_term (heads_of terms) t)
SelectionRight s nodes terms p (selection.Before x) = StepRight s nodes terms p x

-- a selector's term stays
abbrev pub KeepsSelectors : Memo → Memo → Type 0
KeepsSelectors old new = (n : ℕ) (t : ValueTag) → selector_of old n ≡ Some t → selector_of new n ≡ Some t

-- ---- resolving

abbrev pub shown_resolved : List Node → List Term → Resolved → Scanned ValueTerm
shown_resolved nodes terms (resolved.Value t) = Forms (value_term (heads_of terms) t)
shown_resolved nodes terms resolved.Off = Ends IsOff
shown_resolved nodes terms (resolved.Halt n code) = Ends (Stops (site_of nodes n) code)
shown_resolved nodes terms (resolved.Need t n) = Ends (Needs (site_of nodes n) (value_term (heads_of terms) t))

abbrev pub ResolvedFits : List Node → List Term → (ValueTag → Option Value) → Memo → Resolved → Type 0
ResolvedFits nodes terms given m (resolved.Value t) = IsValue terms t
ResolvedFits nodes terms given m resolved.Off = Unit {0}
ResolvedFits nodes terms given m (resolved.Halt n code) = n < length nodes
ResolvedFits nodes terms given m (resolved.Need t n) = (n < length nodes) × IsValue terms t × (given t ≡ None) × (selector_of m n ≡ Some t)

-- the frames that were left are a way from one port
abbrev pub LeftRight : Sight → List Node → List Term → List Frame → Type 0
LeftRight s nodes terms [] = Unit {0}
LeftRight s nodes terms (f ∷ fs) = StackRight s nodes terms f.port (f ∷ fs)

-- what is kept of a graph's nodes is so by the links' terms and by the values that are told
pub record SeenRight (s : Sight) (nodes : List Node) (terms : List Term) (seen : Seen) : Type 0 where
  pub memo : MemoRight s nodes terms seen.memo
  pub left : LeftRight s nodes terms seen.stack.items

-- what is kept speaks of this graph and of terms that are there
pub record SeenFits (nodes : List Node) (terms : List Term) (seen : Seen) : Type 0 where
  pub memo : MemoFits nodes terms seen.memo
  pub stack : StackFits nodes terms (answers_of seen.memo) seen.stack.items
