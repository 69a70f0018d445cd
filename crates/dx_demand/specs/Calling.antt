-- The calls that data meets, by what is kept.
use Rattle.std.specs.Prelude.{◌≡◌, ℕ, ◌<◌, List, [], ◌∷◌, Option, Some, None, length, slice_get}
use Rattle.dx_base.specs.declared.function.Function.{Function}
use Rattle.dx_base.specs.declared.function.Function.TheVariants as function
use Rattle.dx_base.specs.declared.function.Module.{Module}
use Rattle.dx_graph.specs.Graph.{Node, node_at}
use Rattle.dx_graph.specs.Unfolding.{calls_of, tree_of, trees_of}
use Rattle.dx_graph.specs.declared.node.Input.{Input}
use Rattle.dx_graph.specs.declared.node.Input.TheVariants as input
use Rattle.dx_tags.specs.declared.term.ValueTag.{ValueTag}
use Rattle.dx_meaning.specs.Scan.{Sight}
use Rattle.dx_meaning.specs.Met.{Called, met, each_met, met_at}
use Rattle.dx_meaning.specs.Picking.{selector_at}
use Rattle.dx_demand.specs.Memo.{Answers, answers_of, selector_of, input_at}
use Rattle.dx_demand.specs.declared.seen.Memo.{Memo}
use Rattle.dx_demand.specs.declared.settled.Port.{Port}
use Rattle.dx_demand.specs.declared.settled.Answer.{Answer}
use Rattle.dx_demand.specs.declared.settled.Settled.{Settled}
use Rattle.dx_demand.specs.declared.settled.Settled.TheVariants as settled
use Rattle.dx_demand.specs.declared.settled.Resolved.{Resolved}
use Rattle.dx_demand.specs.declared.settled.Resolved.TheVariants as resolved
use Rattle.dx_demand.specs.declared.seen.Frame.{Frame}
use Rattle.dx_demand.specs.declared.seen.Seen.{Seen}
use Rattle.dx_demand.specs.declared.step.Known.{Known}
use Rattle.dx_demand.specs.declared.step.Known.TheVariants as known
use Rattle.dx_demand.specs.declared.step.Selection.{Selection}
use Rattle.dx_demand.specs.declared.step.Selection.TheVariants as selection
use Rattle.dx_demand.specs.declared.step.Step.{Step}
use Rattle.dx_demand.specs.declared.step.Step.TheVariants as step

abbrev pub node_met : Sight → List Node → ℕ → List (List Called)
node_met s nodes n = each_met s (trees_of (calls_of nodes) (node_at nodes n).inputs)

abbrev pub input_met : Sight → List Node → Input → List Called
input_met s nodes i = met s (tree_of (calls_of nodes) i)

abbrev pub port_met : Sight → List Node → Port → List Called
port_met s nodes p = input_met s nodes (input_at p)

-- a port that is settled with a value
pub record HasValue (answers : Answers) (p : Port) : Type 0 where
  pub answer : Answer
  pub tag : ValueTag
  pub at : answers p ≡ Some answer
  pub is : answer.settled ≡ settled.Value tag

-- a constant, or such a port
abbrev pub IsValued : Answers → Input → Type 0
IsValued answers (input.Constant c) = Unit {0}
IsValued answers (input.Result n result) = HasValue answers (record { node = n; result = result })

-- the first inputs are so
abbrev pub AreValued : Answers → List Input → ℕ → Type 0
AreValued answers is count = (k : ℕ) (x : Input) → k < count → slice_get is k ≡ Some x → IsValued answers x

abbrev pub IsNoModule : Function → Type 0
IsNoModule f = (m : Module) → ¬ (f ≡ function.Module m)

-- the input that gave its outcome is passed what is sought, and without one nothing is met
abbrev pub PassedMet : Sight → List Node → Answers → Port → Option ℕ → Type 0
PassedMet s nodes answers p (Some k) = (port_met s nodes p ≡ met_at (node_met s nodes p.node) k) × (k < length (node_at nodes p.node).inputs) × ((x : Input) → slice_get (node_at nodes p.node).inputs k ≡ Some x → IsValued answers x)
PassedMet s nodes answers p None = port_met s nodes p ≡ []

-- of a value of a module all inputs are kept, and of another the one that gave it
pub record ValueMet (s : Sight) (nodes : List Node) (answers : Answers) (p : Port) (from : Option ℕ) : Type 0 where
  pub modules : (m : Module) → (node_at nodes p.node).what ≡ function.Module m → AreValued answers (node_at nodes p.node).inputs (length (node_at nodes p.node).inputs)
  pub others : IsNoModule (node_at nodes p.node).what → PassedMet s nodes answers p from

abbrev pub AnswerMet : Sight → List Node → Answers → Port → Option ℕ → Settled → Type 0
AnswerMet s nodes answers p from (settled.Value t) = ValueMet s nodes answers p from
AnswerMet s nodes answers p from settled.Off = Unit {0}
AnswerMet s nodes answers p from (settled.Halt n code) = Unit {0}

abbrev pub MemoMet : Sight → List Node → Answers → Type 0
MemoMet s nodes answers = (p : Port) (a : Answer) → answers p ≡ Some a → AnswerMet s nodes answers p a.input a.settled

-- so is the selector of a node whose term is kept
abbrev pub SelectorsValued : List Node → Memo → Type 0
SelectorsValued nodes m = (n : ℕ) (t : ValueTag) (x : Input) → selector_of m n ≡ Some t → slice_get (node_at nodes n).inputs (selector_at (node_at nodes n).what) ≡ Some x → IsValued (answers_of m) x

-- the arguments that calls under way have taken are kept
abbrev pub StackValued : List Node → Answers → List Frame → Type 0
StackValued nodes answers [] = Unit {0}
StackValued nodes answers (f ∷ fs) = AreValued answers (node_at nodes f.port.node).inputs (length f.arguments) × StackValued nodes answers fs

-- of what is kept it is kept which calls its data meets
pub record SeenMet (s : Sight) (nodes : List Node) (seen : Seen) : Type 0 where
  pub memo : MemoMet s nodes (answers_of seen.memo)
  pub selectors : SelectorsValued nodes seen.memo
  pub stack : StackValued nodes (answers_of seen.memo) seen.stack.items

-- ---- steps

abbrev pub KnownValued : Answers → Input → Known → Type 0
KnownValued answers i (known.Settled (settled.Value t)) = IsValued answers i
KnownValued answers i (known.Settled settled.Off) = Unit {0}
KnownValued answers i (known.Settled (settled.Halt n code)) = Unit {0}
KnownValued answers i (known.Open p) = Unit {0}

abbrev pub StepMet : Sight → List Node → Answers → Port → Step → Type 0
StepMet s nodes answers p (step.Settles a) = AnswerMet s nodes answers p a.input a.settled
StepMet s nodes answers p (step.Awaits q) = Unit {0}
StepMet s nodes answers p (step.Needs t) = Unit {0}

abbrev pub SelectionMet : Sight → List Node → Answers → Port → Selection → Type 0
SelectionMet s nodes answers p (selection.Selects t) = Unit {0}
SelectionMet s nodes answers p (selection.Before x) = StepMet s nodes answers p x

-- what was resolved to a value is kept as such
abbrev pub ResolvedValued : Answers → Input → Resolved → Type 0
ResolvedValued answers i (resolved.Value t) = IsValued answers i
ResolvedValued answers i resolved.Off = Unit {0}
ResolvedValued answers i (resolved.Halt n code) = Unit {0}
ResolvedValued answers i (resolved.Need t n) = Unit {0}
