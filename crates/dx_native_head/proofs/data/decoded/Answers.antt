use Rattle.std.proofs.Common.{◌++◌, ◌∙◌, ap, sym, length, take, drop, append-nil, rules, arith, w64, FitsSigned}
use Rattle.dx_places.proofs.Turns.{no_more}
use Rattle.dx_native_head.proofs.Decode.{one_row, next_item}
use Rattle.std.proofs.lemmas.Int.{to_z-of_z}
use Rattle.dx_base.specs.Elem.{byte_count}
use Rattle.dx_native_grammar.specs.Words as words
use Rattle.dx_native_head.proofs.data.decoded.Goals as goal

pub split_at-requires : goal.split_at-requires
split_at-requires c =
    let row = one_row c.args.n c.loop-i._i (byte_count c.args.t) (length c.loop-i.rest.now) c.loop-i-test.true c.loop-i.invariant.rest in
    omega (arith, row, c.byte_count-width.ensures)

pub loop-i-preserved : goal.loop-i-preserved
loop-i-preserved c =
    let row = one_row c.args.n c.loop-i._i (byte_count c.args.t) (length c.loop-i.rest.now) c.loop-i-test.true c.loop-i.invariant.rest in
    let f : FitsSigned w64 c.complement.result = search rules in
    let back = c.split_at.ensures.back in
    let front = c.split_at.ensures.front in
    record {
      same = next_item c.args.t c.args.msb c.args.n c.loop-i._i c.loop-i.found (words.decoded c.args.t c.args.msb c.args.n c.args.bytes.now) c.push.new.self c.loop-i.rest.now c.split_at.result.0.now c.split_at.result.1.now _ c.loop-i.invariant.same c.loop-i-test.true (front ∙ ap (λ k. take k c.loop-i.rest.now) c.byte_count-width.ensures) (back ∙ ap (λ k. drop k c.loop-i.rest.now) c.byte_count-width.ensures) (to_z-of_z w64 _ f ∙ c.complement.ensures.value ∙ ap (words.complement c.args.t) c.joined.ensures.value) c.in_ok-push.ensures.ok;
      rest = omega (arith, row, c.byte_count-width.ensures, c.split_at.ensures.back_len);
    }

pub returns : goal.returns
returns c =
    let e = no_more (λ k. c.loop-i.found ++ words.decoded c.args.t c.args.msb k c.loop-i.rest.now) c.args.n c.loop-i._i c.loop-i-test.false (sym c.loop-i.invariant.same) in
    sym (e ∙ append-nil c.loop-i.found)
