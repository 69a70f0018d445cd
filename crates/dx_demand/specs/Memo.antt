-- What is settled of a graph's ports and selectors.
use Rattle.dx_demand.specs.Terms.{IsValue}
use Rattle.std.specs.Prelude.{◌≡◌, ℕ, ◌<◌, List, [], Option, Some, None, Bool, true, false, ◌==◌, ◌&&◌, length, slice_index_or, if◌then◌else◌}
use Rattle.std.specs.HashMap.{get_by}
use Rattle.dx_ast.specs.Table.{row_of}
use Rattle.dx_macros.specs.Site.{Step as SiteStep}
use Rattle.dx_graph.specs.Graph.{Node, node_at}
use Rattle.dx_graph.specs.Unfolding.{calls_of, tree_of, trees_of}
use Rattle.dx_graph.specs.declared.node.Input.{Input}
use Rattle.dx_graph.specs.declared.node.Input.TheVariants as input
use Rattle.dx_tags.specs.declared.term.Term.{Term}
use Rattle.dx_tags.specs.declared.term.ValueTag.{ValueTag}
use Rattle.dx_tags.specs.Closed.{ValueTerm, heads_of, value_term}
use Rattle.dx_meaning.specs.Picking.{selector_at}
use Rattle.dx_meaning.specs.Scan.{Sight, IsOff, Stops, Scanned, Forms, Ends, scan, scan_each, scanned_at}
use Rattle.dx_demand.specs.declared.settled.Port.{Port}
use Rattle.dx_demand.specs.declared.settled.Answer.{Answer}
use Rattle.dx_demand.specs.declared.settled.Settled.{Settled}
use Rattle.dx_demand.specs.declared.settled.Settled.TheVariants as settled
use Rattle.dx_demand.specs.declared.seen.Memo.{Memo}

abbrev pub same_port : Port → Port → Bool
same_port p q = (p.node == q.node) && (p.result == q.result)

abbrev pub Answers : Type 0
Answers = Port → Option Answer

abbrev pub answers_of : Memo → Answers
answers_of m = λ p. get_by (same_port p) m.answers

abbrev pub with_answer : Answers → Port → Answer → Answers
with_answer answers p a = λ q. if same_port p q then Some a else answers q

-- what is settled stays
abbrev pub KeepsAnswers : Answers → Answers → Type 0
KeepsAnswers old new = (p : Port) (a : Answer) → old p ≡ Some a → new p ≡ Some a

abbrev pub selector_of : Memo → ℕ → Option ValueTag
selector_of m n = slice_index_or m.selectors.items n None

-- by the tag of a call term the first node that formed it
abbrev pub FirstNodes : Type 0
FirstNodes = ℕ → Option ℕ

abbrev pub formed_of : Memo → FirstNodes
formed_of m = λ t. get_by (λ u. t == u) m.formed

-- the first stays
abbrev pub first_or : Option ℕ → ℕ → Bool → Option ℕ
first_or (Some first) n here = Some first
first_or None n true = Some n
first_or None n false = None

abbrev pub with_formed : FirstNodes → ℕ → ℕ → FirstNodes
with_formed first t n = λ u. first_or (first u) n (t == u)

-- nothing is settled of so many nodes
pub record EmptyMemo (count : ℕ) (m : Memo) : Type 0 where
  pub formed : (t : ℕ) → formed_of m t ≡ None
  pub none : m.formed.entries ≡ []
  pub answers : (p : Port) → answers_of m p ≡ None
  pub selectors : (n : ℕ) → selector_of m n ≡ None
  pub places : length m.selectors.items ≡ count

-- ---- what looking finds

-- the scans of a node's inputs
abbrev pub node_scans : Sight → List Node → ℕ → List (Scanned ValueTerm)
node_scans s nodes n = scan_each s (trees_of (calls_of nodes) (node_at nodes n).inputs)

abbrev pub input_scan : Sight → List Node → Input → Scanned ValueTerm
input_scan s nodes i = scan s (tree_of (calls_of nodes) i)

abbrev pub input_at : Port → Input
input_at p = input.Result p.node p.result

abbrev pub port_scan : Sight → List Node → Port → Scanned ValueTerm
port_scan s nodes p = input_scan s nodes (input_at p)

abbrev pub selector_scan : Sight → List Node → ℕ → Scanned ValueTerm
selector_scan s nodes n = scanned_at (node_scans s nodes n) (selector_at (node_at nodes n).what)

-- ---- what the code keeps

abbrev pub site_of : List Node → ℕ → List SiteStep
site_of nodes n = (node_at nodes n).place.site

abbrev pub shown : List Node → List Term → Settled → Scanned ValueTerm
shown nodes terms (settled.Value t) = Forms (value_term (heads_of terms) t)
shown nodes terms settled.Off = Ends IsOff
shown nodes terms (settled.Halt n code) = Ends (Stops (site_of nodes n) code)

abbrev pub SettledFits : List Node → List Term → Settled → Type 0
SettledFits nodes terms (settled.Value t) = IsValue terms t
SettledFits nodes terms settled.Off = Unit {0}
SettledFits nodes terms (settled.Halt n code) = n < length nodes

-- a node with this result
abbrev pub IsPort : List Node → Port → Type 0
IsPort nodes p = (p.node < length nodes) × (p.result < (row_of (node_at nodes p.node).what).results)

pub record MemoFits (nodes : List Node) (terms : List Term) (m : Memo) : Type 0 where
  pub answers : (p : Port) (a : Answer) → answers_of m p ≡ Some a → SettledFits nodes terms a.settled
  pub selectors : (n : ℕ) (t : ValueTag) → selector_of m n ≡ Some t → IsValue terms t
  pub places : length m.selectors.items ≡ length nodes
  pub formed : (t n : ℕ) → formed_of m t ≡ Some n → (t < length terms) × (n < length nodes)

pub record MemoRight (s : Sight) (nodes : List Node) (terms : List Term) (m : Memo) : Type 0 where
  pub answers : (p : Port) (a : Answer) → answers_of m p ≡ Some a → port_scan s nodes p ≡ shown nodes terms a.settled
  pub selectors : (n : ℕ) (t : ValueTag) → selector_of m n ≡ Some t → selector_scan s nodes n ≡ Forms (value_term (heads_of terms) t)
