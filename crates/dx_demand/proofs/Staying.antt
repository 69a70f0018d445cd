-- What is kept of a graph stays right as more is told.
use Rattle.std.proofs.Common.{◌≡◌, List, [], ◌∷◌, ◌∙◌, subst}
use Rattle.dx_graph.specs.Graph.{Node, node_at}
use Rattle.dx_graph.specs.Unfolding.{calls_of, trees_of, tree_of}
use Rattle.dx_tags.specs.declared.term.Term.{Term}
use Rattle.dx_tags.specs.Closed.{ValueTerm, heads_of, value_term}
use Rattle.dx_meaning.specs.Picking.{selector_at}
use Rattle.dx_meaning.specs.Scan.{Sight, Scanned}
use Rattle.dx_meaning.specs.More.{More, Keeps}
use Rattle.dx_demand.specs.Memo.{shown, port_scan, node_scans, selector_scan, input_at, MemoRight}
use Rattle.dx_demand.specs.Stack.{Leads, StackRight}
use Rattle.dx_demand.specs.Steps.{LeftRight, SeenRight}
use Rattle.dx_demand.specs.declared.settled.Port.{Port}
use Rattle.dx_demand.specs.declared.settled.Settled.{Settled}
use Rattle.dx_demand.specs.declared.settled.Settled.TheVariants as settled
use Rattle.dx_demand.specs.declared.seen.Memo.{Memo}
use Rattle.dx_demand.specs.declared.seen.Frame.{Frame}
use Rattle.dx_demand.specs.declared.seen.Seen.{Seen}
use Rattle.dx_meaning.proofs.Keeping.{scan_keeps, each_keeps, at_keeps, forms_kept}
use Rattle.dx_demand.proofs.Ports.{begins_keeps}

pub more_then : (a b c : Sight) → More a b → More b c → More a c
more_then a b c m n = record { linked = n.linked ∙ m.linked; written = n.written ∙ m.written; told = λ u v e. n.told u v (m.told u v e) }

kept_shown : (nodes : List Node) (terms : List Term) (a : Settled) (x y : Scanned ValueTerm) → Keeps x y → x ≡ shown nodes terms a → y ≡ shown nodes terms a
kept_shown nodes terms (settled.Value t) x y k e = forms_kept x y (value_term (heads_of terms) t) k e
kept_shown nodes terms settled.Off x y k e = subst (λ z. Keeps z y) e k
kept_shown nodes terms (settled.Halt n code) x y k e = subst (λ z. Keeps z y) e k

pub memo_stays : (s s' : Sight) → More s s' → (nodes : List Node) (terms : List Term) (m : Memo) → MemoRight s nodes terms m → MemoRight s' nodes terms m
memo_stays s s' more nodes terms m h = record {
  answers = λ p a e. kept_shown nodes terms a.settled (port_scan s nodes p) (port_scan s' nodes p) (scan_keeps s s' more (tree_of (calls_of nodes) (input_at p))) (h.answers p a e);
  selectors = λ n t e. forms_kept (selector_scan s nodes n) (selector_scan s' nodes n) (value_term (heads_of terms) t)
      (at_keeps (node_scans s nodes n) (node_scans s' nodes n) (each_keeps s s' more (trees_of (calls_of nodes) (node_at nodes n).inputs)) (selector_at (node_at nodes n).what)) (h.selectors n t e);
}

leads_stay : (s s' : Sight) → More s s' → (nodes : List Node) (root p : Port) → Leads s nodes root p → Leads s' nodes root p
leads_stay s s' more nodes root p h s2 more2 e ends = h s2 (more_then s s' s2 more more2) e ends

stack_stays : (s s' : Sight) → More s s' → (nodes : List Node) (terms : List Term) (root : Port) (fs : List Frame) → StackRight s nodes terms root fs → StackRight s' nodes terms root fs
stack_stays s s' more nodes terms root [] h = tt
stack_stays s s' more nodes terms root (f ∷ fs) h = (
  record {
    leads = leads_stay s s' more nodes root f.port h.0.leads;
    begins = begins_keeps (heads_of terms) (node_scans s nodes f.port.node) (node_scans s' nodes f.port.node) f.arguments (each_keeps s s' more (trees_of (calls_of nodes) (node_at nodes f.port.node).inputs)) h.0.begins;
  },
  stack_stays s s' more nodes terms root fs h.1,
)

left_stays : (s s' : Sight) → More s s' → (nodes : List Node) (terms : List Term) (fs : List Frame) → LeftRight s nodes terms fs → LeftRight s' nodes terms fs
left_stays s s' more nodes terms [] h = tt
left_stays s s' more nodes terms (f ∷ fs) h = stack_stays s s' more nodes terms f.port (f ∷ fs) h

pub seen_stays : (s s' : Sight) → More s s' → (nodes : List Node) (terms : List Term) (seen : Seen) → SeenRight s nodes terms seen → SeenRight s' nodes terms seen
seen_stays s s' more nodes terms seen h = record { memo = memo_stays s s' more nodes terms seen.memo h.memo; left = left_stays s s' more nodes terms seen.stack.items h.left }
