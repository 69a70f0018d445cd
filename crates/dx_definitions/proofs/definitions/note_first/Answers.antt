use Rattle.std.proofs.Common.{◌∙◌, ◌∷◌, ◌++◌, [], ℕ, List, Some, ap, sym}
use Rattle.dx_base.proofs.NameTables.{under_changed}
use Rattle.dx_definitions.proofs.Noting.{index_grown}
use Rattle.dx_definitions.proofs.definitions.note_first.Goals as goal

pub returns-clause-ok : goal.returns-clause-ok
returns-clause-ok c =
    let name = c.args.name.now in
    let list = c.push.new.self in
    let changed = under_changed c.args.positions.now c.insert.new.self name (Some list) c.in_ok-key.key c.in_ok-key.ensures.items c.in_ok-insert.ensures.updates in
    index_grown c.args.positions.now c.insert.new.self name list c.args.position changed
    (c.in_ok-push.ensures.items ∙ ap (λ (xs : List ℕ). xs ++ c.args.position ∷ []) (c.new-list.ensures.items ∙ sym c.requires))
