use Rattle.std.proofs.Common.{◌++◌, ◌∙◌, sym, length, append-nil, rules, arith, w32, FitsSigned}
use Rattle.dx_places.proofs.Turns.{no_more}
use Rattle.dx_native_head.proofs.Decode.{one_row, next_item}
use Rattle.std.proofs.lemmas.Int.{to_z-of_z}
use Rattle.dx_base.specs.declared.elem.ElemType.TheVariants.{Int}
use Rattle.dx_native_grammar.specs.Words as words
use Rattle.dx_native_head.proofs.data.decoded_ints.Goals as goal

pub split_at-requires : goal.split_at-requires
split_at-requires c =
    let row = one_row c.args.n c.loop-i._i 4 (length c.loop-i.rest.now) c.loop-i-test.true c.loop-i.invariant.rest in
    omega (arith, row)

pub loop-i-preserved : goal.loop-i-preserved
loop-i-preserved c =
    let row = one_row c.args.n c.loop-i._i 4 (length c.loop-i.rest.now) c.loop-i-test.true c.loop-i.invariant.rest in
    let f : FitsSigned w32 c.int_of.result = search rules in
    record {
      same = next_item Int c.args.msb c.args.n c.loop-i._i c.loop-i.found (words.decoded Int c.args.msb c.args.n c.args.bytes.now) c.push.new.self c.loop-i.rest.now c.split_at.result.0.now c.split_at.result.1.now _ c.loop-i.invariant.same c.loop-i-test.true c.split_at.ensures.front c.split_at.ensures.back (to_z-of_z w32 _ f ∙ c.int_of.ensures) c.in_ok-push.ensures.ok;
      rest = omega (arith, row, c.split_at.ensures.back_len);
    }

pub returns : goal.returns
returns c =
    let e = no_more (λ k. c.loop-i.found ++ words.decoded Int c.args.msb k c.loop-i.rest.now) c.args.n c.loop-i._i c.loop-i-test.false (sym c.loop-i.invariant.same) in
    sym (e ∙ append-nil c.loop-i.found)
