use Rattle.std.proofs.Common.{◌≡◌, ◌∙◌, ◌++◌, ◌∷◌, [], List, ℕ, Option, sym, ap, append-nil}
use Rattle.dx_native_grammar.specs.Names.{part_names, name_before}
use Rattle.dx_native_listing.proofs.NameLaws.{part_names_push}
use Rattle.dx_native_listing.proofs.tables.PartTable.with.Goals as goal
use Rattle.dx_native_listing.proofs.tables.PartTable.with.Goals.{in-Some+in_ok-copy_of+in_ok-add, in_default}

pub invariant_of-result : goal.invariant_of-result
invariant_of-result c =
    let old = c.self.inside.items in
    let ok : c.push.new.self ≡ old ++ c.args.part ∷ [] = c.in_ok-push.ensures.ok in
    let e : part_names c.push.new.self ≡ part_names old ++ name_before c.args.part.name [] = ap part_names ok ∙ part_names_push old c.args.part in
    elim c.match-part.branch [
      | in-Some+in_ok-copy_of+in_ok-add w ↦
          let n = ap (λ (n : Option (List ℕ)). name_before n []) w.in-Some.is in
          cc (n, e, c.self.invariant, w.names-is, w.in_ok-add.ensures, w.in_ok-copy_of.ensures, w.bytes.ensures)
      | in_default w ↦
          w.names-is ∙ c.self.invariant ∙ sym (append-nil (part_names old)) ∙ ap (λ (n : Option (List ℕ)). part_names old ++ name_before n []) (sym w.in_default.is) ∙ sym e
    ]
