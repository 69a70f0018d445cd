use Rattle.std.proofs.Common.{◌∙◌, ◌∷◌, ◌++◌, [], ℕ, List, Option, Vec, Global, Some, refl, ap, subst}
use Rattle.std.specs.Prelude.{IsSome}
use Rattle.dx_definitions.specs.Index.{listed}
use Rattle.dx_definitions.proofs.Noting.{written, index_grown, index_kept, on_err}
use Rattle.dx_definitions.proofs.definitions.note.Goals as goal

pub returns-in_ok-push-in-Some-clause-ok : goal.returns-in_ok-push-in-Some-clause-ok
returns-in_ok-push-in-Some-clause-ok c =
    let old = c.args.positions.now in
    let list = c.push.new.self in
    let new = c.get_mut.follows.lender list in
    let name = c.args.name.now in
    let there = subst (λ (o : Option (Vec ℕ Global)). IsSome o) c.in-Some.ensures.value refl in
    index_grown old new name list c.args.position (written old new name (Some list) ((c.get_mut.follows.holds list).3 there))
    (◌∙◌ {A = List ℕ} c.in_ok-push-in-Some.ensures.items (ap (λ (xs : List ℕ). xs ++ c.args.position ∷ []) (ap listed c.in-Some.ensures.value)))

pub returns-in_err-push-in-Some-clause-err : goal.returns-in_err-push-in-Some-clause-err
returns-in_err-push-in-Some-clause-err c =
    let old = c.args.positions.now in
    let list = c.push.new.self in
    let new = c.get_mut.follows.lender list in
    let name = c.args.name.now in
    let there = subst (λ (o : Option (Vec ℕ Global)). IsSome o) c.in-Some.ensures.value refl in
    on_err c.from_residual.result (index_kept old new name list (written old new name (Some list) ((c.get_mut.follows.holds list).3 there))
    (◌∙◌ {A = List ℕ} c.in_err-push-in-Some.ensures.items (ap listed c.in-Some.ensures.value)))
