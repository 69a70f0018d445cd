-- Where all inputs of a node are settled with values, looking at them by what is told forms their terms.
use Rattle.std.proofs.Common.{◌≡◌, ℕ, suc, ◌<◌, List, [], ◌∷◌, length, Some, refl, ap, ◌∙◌, arith}
use Rattle.std.specs.Prelude.{slice_get}
use Rattle.dx_macros.specs.Tree.{CallTree}
use Rattle.dx_graph.specs.Graph.{Node}
use Rattle.dx_graph.specs.Unfolding.{calls_of, trees_of}
use Rattle.dx_graph.specs.declared.node.Input.{Input}
use Rattle.dx_tags.specs.declared.term.Term.{Term}
use Rattle.dx_tags.specs.Closed.{ValueTerms, NoTerm, AndTerm}
use Rattle.dx_meaning.specs.Scan.{Sight, Forms, scanned_beside, all_scanned, scan_each}
use Rattle.dx_demand.specs.Memo.{answers_of, MemoRight}
use Rattle.dx_demand.specs.Calling.{AreValued}
use Rattle.dx_demand.specs.declared.seen.Memo.{Memo}
use Rattle.dx_looking.proofs.Arguments.{FormsSome, valued_forms}

all_form : (s : Sight) (cs : List CallTree) (is : List Input) → ((j : ℕ) (y : Input) → j < length is → slice_get is j ≡ Some y → FormsSome s cs y) → (us : ValueTerms) × (all_scanned (scan_each s (trees_of cs is)) ≡ Forms us)
all_form s cs [] f = (NoTerm, refl)
all_form s cs (i ∷ is) f =
    let here = f 0 i (omega arith) refl in
    let rest = all_form s cs is (λ j y lt slot. f (suc j) y (omega (arith, lt)) slot) in
    (AndTerm here.0 rest.0, ap (λ y. scanned_beside y (all_scanned (scan_each s (trees_of cs is)))) here.1 ∙ ap (scanned_beside (Forms here.0)) rest.1)

pub all_valued : (s : Sight) (nodes : List Node) (terms : List Term) (m : Memo) → MemoRight s nodes terms m → (is : List Input) → AreValued (answers_of m) is (length is) → (us : ValueTerms) × (all_scanned (scan_each s (trees_of (calls_of nodes) is)) ≡ Forms us)
all_valued s nodes terms m r is v = all_form s (calls_of nodes) is (λ j y lt slot. valued_forms s nodes terms m r y (v j y lt slot))
