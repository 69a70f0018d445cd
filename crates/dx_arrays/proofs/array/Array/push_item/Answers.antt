use Rattle.std.proofs.Common.{◌∷◌, [], map, append_assoc, FitsSigned, w64, rules, arith}
use Rattle.std.specs.List.{range_with_len}
use Rattle.std.proofs.lemmas.Int.{to_z-of_z}
use Rattle.std.proofs.lemmas.List.FromFn.{map-range_with_len_more}
use Rattle.dx_base.specs.Array.{value}
use Rattle.dx_arrays.proofs.array.Array.push_item.Goals as goal

pub loop-place-preserved : goal.loop-place-preserved
loop-place-preserved c =
    let fits : FitsSigned w64 c.value.result = search rules in
    let k = c.loop-place.place in
    let at = value c.args.self.now c.args.item in
    let next = rw (to_z-of_z w64 c.value.result fits, c.value.ensures) at c.push_reserved.ensures.items in
    let more = map-range_with_len_more at 0 k k (omega arith) in
    let apart = append_assoc c.args.out.now.items (map at (range_with_len 0 k)) (at k ∷ []) in
    record {
      values = cc (next, more, apart, c.loop-place.invariant.values);
      len = omega (arith, c.push_reserved.ensures.len, c.loop-place.invariant.len);
      capacity = cc (c.push_reserved.ensures.capacity, c.loop-place.invariant.capacity);
    }
