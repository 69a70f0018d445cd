use Rattle.std.proofs.Common.{◌≡◌, ◌+◌, ◌-◌, ◌++◌, sym, ap, ◌∙◌, append_assoc, arith}
use Rattle.dx_arrays.specs.Block.{values_from}
use Rattle.dx_arrays.proofs.Blocks.{begun, values_one, values_split}
use Rattle.dx_arrays.proofs.array.Array.push_line.Goals as goal

pub push_rest-requires-clause-begun : goal.push_rest-requires-clause-begun
push_rest-requires-clause-begun c =
    (c.args.out.now.items, begun c.args.self.now c.args.item c.args.out.now.items c.push_item.new.out.items _ c.push_item.ensures.values c.push_item-then-item-end.ensures.values)

pub returns-then-item-end-clause-values : goal.returns-then-item-end-clause-values
returns-then-item-end-clause-values c =
    let a = c.args.self.now in
    let i = c.args.item in
    let e = c.args.end in
    let old = c.args.out.now.items in
    let two = begun a i old c.push_item.new.out.items _ c.push_item.ensures.values c.push_item-then-item-end.ensures.values in
    let gap : i + 2 - i ≡ 2 = omega arith in
    let split : values_from a i (e - i) ≡ values_from a i 2 ++ values_from a (i + 2) (e - (i + 2)) = rw gap at (values_split a i (i + 2) e (omega arith) (omega arith)) in
    c.push_rest.ensures.values ∙ ap (λ xs. xs ++ values_from a (i + 2) (e - (i + 2))) two ∙ append_assoc old (values_from a i 2) (values_from a (i + 2) (e - (i + 2))) ∙ ap (λ xs. old ++ xs) (sym split)

pub returns-else-item-end-clause-values : goal.returns-else-item-end-clause-values
returns-else-item-end-clause-values c =
    let one : c.args.end - c.args.item ≡ 1 = omega arith in
    rw (one, values_one c.args.self.now c.args.item) c.push_item.ensures.values
