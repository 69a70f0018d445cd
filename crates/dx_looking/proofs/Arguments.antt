-- Where looking at some inputs stops, by what is told, where the first of them are settled with values.
use Rattle.std.proofs.Common.{◌≡◌, ℕ, zero, suc, ◌+◌, ◌<◌, List, [], ◌∷◌, Some, refl, ap, ◌∙◌, arith}
use Rattle.std.specs.Prelude.{slice_get}
use Rattle.dx_macros.specs.Tree.{CallTree}
use Rattle.dx_graph.specs.Graph.{Node}
use Rattle.dx_graph.specs.Unfolding.{calls_of, tree_of, trees_of}
use Rattle.dx_graph.specs.declared.node.Input.{Input}
use Rattle.dx_graph.specs.declared.node.Input.TheVariants as input
use Rattle.dx_tags.specs.declared.term.Term.{Term}
use Rattle.dx_tags.specs.Closed.{ValueTerm, ConstantTerm, heads_of, value_term}
use Rattle.dx_meaning.specs.Scan.{Sight, Stop, Forms, Ends, scanned_beside, all_scanned, scan, scan_each}
use Rattle.dx_meaning.specs.Halted.{halted_beside, halted_met, halted_all}
use Rattle.dx_demand.specs.Memo.{Answers, KeepsAnswers, answers_of, shown, input_scan, MemoRight}
use Rattle.dx_demand.specs.Calling.{IsValued, AreValued}
use Rattle.dx_demand.specs.declared.seen.Memo.{Memo}
use Rattle.dx_demand.proofs.Calls.{one_valued}

-- an input that is settled with a value forms a term
abbrev pub FormsSome : Sight → List CallTree → Input → Type 0
FormsSome s cs i = (t : ValueTerm) × (scan s (tree_of cs i) ≡ Forms t)

pub valued_forms : (s : Sight) (nodes : List Node) (terms : List Term) (m : Memo) → MemoRight s nodes terms m → (i : Input) → IsValued (answers_of m) i → FormsSome s (calls_of nodes) i
valued_forms s nodes terms m r (input.Constant c) v = (ConstantTerm c, refl)
valued_forms s nodes terms m r (input.Result n result) v =
    (value_term (heads_of terms) v.tag, r.answers (record { node = n; result = result }) v.answer v.at ∙ ap (shown nodes terms) v.is)

-- behind inputs that form terms looking stops where it stops at the next
stops_behind : (s : Sight) (cs : List CallTree) (is : List Input) (k : ℕ) (x : Input) (e : Stop) → ((j : ℕ) (y : Input) → j < k → slice_get is j ≡ Some y → FormsSome s cs y) → slice_get is k ≡ Some x → scan s (tree_of cs x) ≡ Ends e →
    (all_scanned (scan_each s (trees_of cs is)) ≡ Ends e) × (halted_all s (trees_of cs is) ≡ halted_met s (tree_of cs x))
stops_behind s cs [] k x e f at ends = cc
stops_behind s cs (i ∷ is) zero x e f at ends =
    let same : i ≡ x = cc in
    let here : scan s (tree_of cs i) ≡ Ends e = ap (λ j. scan s (tree_of cs j)) same ∙ ends in (
      ap (λ y. scanned_beside y (all_scanned (scan_each s (trees_of cs is)))) here,
      ap (λ y. halted_beside y (halted_met s (tree_of cs i)) (halted_all s (trees_of cs is))) here ∙ ap (λ j. halted_met s (tree_of cs j)) same,
    )
stops_behind s cs (i ∷ is) (suc k) x e f at ends =
    let here = f 0 i (omega arith) refl in
    let rest = stops_behind s cs is k x e (λ j y lt slot. f (suc j) y (omega (arith, lt)) slot) at ends in (
      ap (λ y. scanned_beside y (all_scanned (scan_each s (trees_of cs is)))) here.1 ∙ ap (scanned_beside (Forms here.0)) rest.0,
      ap (λ y. halted_beside y (halted_met s (tree_of cs i)) (halted_all s (trees_of cs is))) here.1 ∙ rest.1,
    )

pub halts_behind : (s : Sight) (nodes : List Node) (terms : List Term) (m : Memo) → MemoRight s nodes terms m → (is : List Input) (k : ℕ) → AreValued (answers_of m) is k → (x : Input) (e : Stop) → slice_get is k ≡ Some x → input_scan s nodes x ≡ Ends e →
    (all_scanned (scan_each s (trees_of (calls_of nodes) is)) ≡ Ends e) × (halted_all s (trees_of (calls_of nodes) is) ≡ halted_met s (tree_of (calls_of nodes) x))
halts_behind s nodes terms m r is k v x e at ends =
    stops_behind s (calls_of nodes) is k x e (λ j y lt slot. valued_forms s nodes terms m r y (v j y lt slot)) at ends

-- what is settled with values stays so, and the next is too
valued_kept : (old new : Answers) → KeepsAnswers old new → (i : Input) → IsValued old i → IsValued new i
valued_kept old new keeps (input.Constant c) v = tt
valued_kept old new keeps (input.Result n result) v = record { answer = v.answer; tag = v.tag; at = keeps (record { node = n; result = result }) v.answer v.at; is = v.is }

pub are_valued_kept : (old new : Answers) → KeepsAnswers old new → (is : List Input) (n : ℕ) → AreValued old is n → AreValued new is n
are_valued_kept old new keeps is n v k x lt at = valued_kept old new keeps x (v k x lt at)

pub next_valued : (old new : Answers) → KeepsAnswers old new → (is : List Input) (n : ℕ) (x : Input) → AreValued old is n → slice_get is n ≡ Some x → IsValued new x → AreValued new is (n + 1)
next_valued old new keeps is n x v at here k y lt slot = one_valued new is n x (are_valued_kept old new keeps is n v) at here k y (omega (arith, lt)) slot
