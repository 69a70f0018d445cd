use Rattle.std.proofs.Common.{◌≡◌, ◌≤◌, ◌<◌, ◌+◌, ◌-◌, ◌*◌, ◌++◌, sym, ap, ◌∙◌, append_assoc, append-nil, add-mul, arith}
use Rattle.dx_base.specs.Array.{width}
use Rattle.dx_arrays.specs.Block.{values_from}
use Rattle.dx_arrays.proofs.Blocks.{values_none, values_split}
use Rattle.dx_arrays.proofs.array.Array.push_lines.Goals as goal

pub loop-item-init : goal.loop-item-init
loop-item-init c = record {
  from = omega arith;
  to = omega arith;
  values = sym (ap (λ xs. c.args.out.now.items ++ xs) (values_none c.args.self.now c.args.from) ∙ append-nil c.args.out.now.items);
  room = c.requires.room;
}

pub loop-item-preserved : goal.loop-item-preserved
loop-item-preserved c =
    let a = c.args.self.now in
    let w = width a in
    let i = c.loop-item.item in
    let e = c.min-end.result in
    let inv = c.loop-item.invariant in
    let behind : i < e = omega (arith, c.min-end.ensures, c.line_end.ensures.behind) in
    let most : e ≤ c.args.to = omega (arith, c.min-end.ensures) in
    let split = values_split a c.args.from i e inv.from (omega arith) in
    let parts : c.args.to - i ≡ (e - i) + (c.args.to - e) = omega arith in
    let room : (c.args.to - i) * w ≡ (e - i) * w + (c.args.to - e) * w = ap (λ x. x * w) parts ∙ add-mul (e - i) (c.args.to - e) w in
    record {
      from = omega arith;
      to = most;
      values = c.push_line.ensures.values ∙ ap (λ xs. xs ++ values_from a i (e - i)) inv.values ∙ append_assoc c.args.out.now.items (values_from a c.args.from (i - c.args.from)) (values_from a i (e - i)) ∙ ap (λ xs. c.args.out.now.items ++ xs) (sym split);
      room = omega (arith, room, inv.room, c.push_line.ensures.len, c.push_line.ensures.capacity);
    }
