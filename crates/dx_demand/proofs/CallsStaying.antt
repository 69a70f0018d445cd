-- What is kept of the calls that data meets stays so as more is told.
use Rattle.std.proofs.Common.{◌≡◌, ℕ, zero, suc, ◌<◌, List, [], ◌∷◌, length, Option, Some, None, refl, sym, ap, ◌∙◌, subst, arith}
use Rattle.std.specs.Prelude.{slice_get}
use Rattle.dx_macros.specs.Tree.{Tree}
use Rattle.dx_graph.specs.Graph.{Node, node_at}
use Rattle.dx_graph.specs.Unfolding.{calls_of, tree_of}
use Rattle.dx_graph.specs.declared.node.Input.{Input}
use Rattle.dx_graph.specs.declared.node.Input.TheVariants as input
use Rattle.dx_tags.specs.declared.term.Term.{Term}
use Rattle.dx_tags.specs.Closed.{ValueTerm, ConstantTerm, heads_of, value_term}
use Rattle.dx_meaning.specs.Scan.{Sight, Forms, scan}
use Rattle.dx_meaning.specs.More.{More}
use Rattle.dx_meaning.specs.Met.{met}
use Rattle.dx_meaning.proofs.MetStaying.{MetKeep, met_keeps}
use Rattle.dx_demand.specs.Memo.{answers_of, input_at, input_scan, port_scan, shown, MemoRight}
use Rattle.dx_demand.specs.Steps.{SeenRight}
use Rattle.dx_demand.specs.Calling.{port_met, IsValued, PassedMet, AnswerMet, SeenMet}
use Rattle.dx_demand.specs.declared.settled.Port.{Port}
use Rattle.dx_demand.specs.declared.settled.Settled.{Settled}
use Rattle.dx_demand.specs.declared.settled.Settled.TheVariants as settled
use Rattle.dx_demand.specs.declared.seen.Memo.{Memo}
use Rattle.dx_demand.specs.declared.seen.Seen.{Seen}
use Rattle.dx_demand.proofs.Calls.{met_slot}

kept_met : (s s' : Sight) → More s s' → (t : Tree) (u : ValueTerm) → scan s t ≡ Forms u → met s' t ≡ met s t
kept_met s s' more t u e = subst (λ x. MetKeep x (met s t) (met s' t)) e (met_keeps s s' more t)

valued_scan : (s : Sight) (nodes : List Node) (terms : List Term) (m : Memo) → MemoRight s nodes terms m → (x : Input) → IsValued (answers_of m) x → (u : ValueTerm) × (input_scan s nodes x ≡ Forms u)
valued_scan s nodes terms m r (input.Constant c) v = (ConstantTerm c, refl)
valued_scan s nodes terms m r (input.Result n result) v = (value_term (heads_of terms) v.tag, r.answers (record { node = n; result = result }) v.answer v.at ∙ ap (shown nodes terms) v.is)

slot_there : (is : List Input) (k : ℕ) → k < length is → (x : Input) × (slice_get is k ≡ Some x)
slot_there [] k lt = absurd (omega (arith, lt))
slot_there (i ∷ is) zero lt = (i, refl)
slot_there (i ∷ is) (suc k) lt = slot_there is k (omega (arith, lt))

passed_stays : (s s' : Sight) → More s s' → (nodes : List Node) (terms : List Term) (m : Memo) → MemoRight s nodes terms m → (p : Port) (from : Option ℕ) → port_met s' nodes p ≡ port_met s nodes p → PassedMet s nodes (answers_of m) p from → PassedMet s' nodes (answers_of m) p from
passed_stays s s' more nodes terms m r p None same h = same ∙ h
passed_stays s s' more nodes terms m r p (Some k) same h =
    let slot = slot_there (node_at nodes p.node).inputs k h.1 in
    let scans = valued_scan s nodes terms m r slot.0 (h.2 slot.0 slot.1) in
    let kept = kept_met s s' more (tree_of (calls_of nodes) slot.0) scans.0 scans.1 in
    (same ∙ h.0 ∙ met_slot s nodes p.node k slot.0 slot.1 ∙ sym kept ∙ sym (met_slot s' nodes p.node k slot.0 slot.1), h.1, h.2)

answer_stays : (s s' : Sight) → More s s' → (nodes : List Node) (terms : List Term) (m : Memo) → MemoRight s nodes terms m → (p : Port) (from : Option ℕ) (x : Settled) → port_scan s nodes p ≡ shown nodes terms x → AnswerMet s nodes (answers_of m) p from x → AnswerMet s' nodes (answers_of m) p from x
answer_stays s s' more nodes terms m r p from (settled.Value t) e h =
    let same = kept_met s s' more (tree_of (calls_of nodes) (input_at p)) (value_term (heads_of terms) t) e in
    record { modules = h.modules; others = λ other_. passed_stays s s' more nodes terms m r p from same (h.others other_) }
answer_stays s s' more nodes terms m r p from settled.Off e h = tt
answer_stays s s' more nodes terms m r p from (settled.Halt n code) e h = tt

pub seen_met_stays : (s s' : Sight) → More s s' → (nodes : List Node) (terms : List Term) (seen : Seen) → SeenRight s nodes terms seen → SeenMet s nodes seen → SeenMet s' nodes seen
seen_met_stays s s' more nodes terms seen r h = record {
  memo = λ p a e. answer_stays s s' more nodes terms seen.memo r.memo p a.input a.settled (r.memo.answers p a e) (h.memo p a e);
  selectors = h.selectors;
  stack = h.stack;
}
