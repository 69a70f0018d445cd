-- Finding the first call of a term among the nodes of a graph.
use Rattle.std.specs.Prelude.{◌≡◌, ◌==◌, ℕ, ◌<◌, ◌≤◌, List, [], ◌∷◌, Option, Some, None, option_map, if◌then◌else◌, slice_get}
use Rattle.std.specs.HashMap.{get_by, HashMap}
use Rattle.dx_base.specs.declared.function.Function.{Function}
use Rattle.dx_base.specs.declared.function.Function.TheVariants as function
use Rattle.dx_base.specs.declared.function.Module.{Module}
use Rattle.dx_base.specs.declared.function.Module.TheVariants as computing
use Rattle.dx_macros.specs.Tree.{Place}
use Rattle.dx_graph.specs.Graph.{Node, node_at}
use Rattle.dx_graph.specs.declared.node.Input.{Input}
use Rattle.dx_graph.specs.declared.node.Input.TheVariants as input
use Rattle.dx_tags.specs.declared.term.Term.{Term}
use Rattle.dx_tags.specs.Closed.{CallTerm}
use Rattle.dx_meaning.specs.Scan.{Sight}
use Rattle.dx_meaning.specs.Met.{first_place}
use Rattle.dx_demand.specs.Terms.{AreExact}
use Rattle.dx_demand.specs.Memo.{Answers, answers_of, same_port, IsPort, MemoFits, MemoRight}
use Rattle.dx_demand.specs.Calling.{HasValue, MemoMet, port_met}
use Rattle.dx_demand.specs.declared.settled.Port.{Port}
use Rattle.dx_demand.specs.declared.settled.Answer.{Answer}
use Rattle.dx_demand.specs.declared.settled.Settled.{Settled}
use Rattle.dx_demand.specs.declared.settled.Settled.TheVariants as settled
use Rattle.dx_demand.specs.declared.seen.Memo.{Memo}

abbrev pub Calls : Type 0
Calls = Port → Option ℕ

abbrev pub calls_at : {S : Type 0} → HashMap Port ℕ S → Calls
calls_at m = λ p. get_by (same_port p) m

-- ---- what is found for a port by what was found for its inputs

abbrev pub under : Calls → Input → Option ℕ
under f (input.Constant c) = None
under f (input.Result n result) = f (record { node = n; result = result })

abbrev pub or_else : Option ℕ → Option ℕ → Option ℕ
or_else (Some n) rest = Some n
or_else None rest = rest

abbrev pub first_of : Calls → List Input → Option ℕ
first_of f [] = None
first_of f (i ∷ is) = or_else (under f i) (first_of f is)

-- the inputs of a module that are no selector
abbrev pub values_of : Module → List Input → List Input
values_of computing.Import (i ∷ is) = is
values_of computing.Import [] = []
values_of other is = is

abbrev pub own_node : ℕ → ℕ → Settled → Option ℕ
own_node n t (settled.Value v) = if v.tag == t then Some n else None
own_node n t settled.Off = None
own_node n t (settled.Halt k code) = None

abbrev pub under_slot : Calls → Option Input → Option ℕ
under_slot f (Some i) = under f i
under_slot f None = None

abbrev pub passed_from : Calls → List Input → Option ℕ → Option ℕ
passed_from f is (Some k) = under_slot f (slice_get is k)
passed_from f is None = None

abbrev pub first_in : Calls → ℕ → Port → Answer → List Input → Function → Option ℕ
first_in f t p a is (function.Module m) = or_else (first_of f (values_of m is)) (own_node p.node t a.settled)
first_in f t p a is (function.Effect e) = passed_from f is a.input
first_in f t p a is function.Switch = passed_from f is a.input
first_in f t p a is function.Route = passed_from f is a.input
first_in f t p a is function.GetLocal = passed_from f is a.input
first_in f t p a is function.GetGlobal = passed_from f is a.input

abbrev pub first_by : List Node → Calls → ℕ → Port → Answer → Option ℕ
first_by nodes f t p a = first_in f t p a (node_at nodes p.node).inputs (node_at nodes p.node).what

abbrev pub met_from : List Node → Calls → ℕ → Port → Option Answer → Option ℕ
met_from nodes f t p (Some a) = first_by nodes f t p a
met_from nodes f t p None = None

abbrev pub met_by : List Node → Answers → ℕ → Port → Calls → Option ℕ
met_by nodes answers t p f = met_from nodes f t p (answers p)

-- where there is one
abbrev pub with_call : Calls → Port → Option ℕ → Calls
with_call f p None = f
with_call f p (Some n) = λ q. if same_port p q then Some n else f q

-- ---- what was found is right

abbrev pub place_of : List Node → Option ℕ → Option Place
place_of nodes o = option_map (λ (n : ℕ). (node_at nodes n).place) o

-- what is kept is right, and tags name exactly
pub record Ground (s : Sight) (nodes : List Node) (terms : List Term) (m : Memo) : Type 0 where
  pub exact : AreExact terms
  pub fits : MemoFits nodes terms m
  pub right : MemoRight s nodes terms m
  pub met : MemoMet s nodes (answers_of m)

abbrev pub MetRight : Sight → List Node → Answers → CallTerm → Calls → Port → Type 0
MetRight s nodes answers c f p = IsPort nodes p → HasValue answers p → place_of nodes (f p) ≡ first_place (port_met s nodes p) c

-- of the first nodes
abbrev pub AllMet : Sight → List Node → Answers → CallTerm → ℕ → Calls → Type 0
AllMet s nodes answers c n f = (p : Port) → p.node < n → MetRight s nodes answers c f p

-- nothing was found for others
abbrev pub AllFresh : ℕ → Calls → Type 0
AllFresh n f = (p : Port) → n ≤ p.node → f p ≡ None

-- what was found is one of so many nodes
abbrev pub AllWithin : ℕ → Calls → Type 0
AllWithin count f = (p : Port) (n : ℕ) → f p ≡ Some n → n < count
