use Rattle.std.proofs.Common.{◌≡◌, ◌∙◌, ℕ, ◌+◌, ◌-◌, ◌<◌, ◌++◌, List, [], ◌∷◌, ℤ, Ok, take, length, w64, FitsSigned, to_z, of_z, rules, arith, refl, ap, sym, subst}
use Rattle.std.proofs.lemmas.Int.{to_z-of_z}
use Rattle.std.proofs.lemmas.Grind.{take-set_at}
use Rattle.std.proofs.lemmas.List.{length-set}
use Rattle.dx_base.specs.Elem.{lowest, highest}
use Rattle.dx_places.specs.Grammar.{At}
use Rattle.dx_native_grammar.specs.Grammar.{bounded}
use Rattle.dx_native_head.specs.Many.{AreNext}
use Rattle.dx_native_head.proofs.ManyLaws.{next_one}
use Rattle.dx_native_head.proofs.plain.plain_block.Goals as goal

pub loop-count-preserved : goal.loop-count-preserved
loop-count-preserved c =
    let X = bounded (lowest c.args.t) (highest c.args.t) in
    let rest = c.loop-count.rest.now in
    let after = c.in-Some.after.now in
    let at : ℕ = c.args.offset + (length c.args.text.now - length rest) in
    let end : ℕ = c.args.offset + (length c.args.text.now - length after) in
    let s : At = record { offset = c.args.offset; rest = c.args.text.now } in
    let m : At = record { offset = at; rest = rest } in
    let e : At = record { offset = end; rest = after } in
    let sum = c.in-Some.ensures.sum in
    let fewer = c.in-Some.ensures.within in
    let within = c.loop-count.invariant.within in
    let far : c.in-Some._end ≡ end = omega (arith, sum, fewer, within) in
    let value : ℤ = c.in-Some.value in
    let one : X.read m ≡ Ok (value, e) = c.in-Some.ensures.read ∙ ap (λ (o : ℕ). Ok (value, record { offset = o; rest = after })) far in
    let front : List ℤ = take c.loop-count.count c.loop-count.block in
    let next = next_one X front s m e value c.loop-count.invariant.next one in
    let room = c.requires.room in
    let below = c.loop-count-test.true in
    let len = c.loop-count.invariant.len in
    let inside : c.loop-count.count < length c.loop-count.block = omega (arith, room, below, len) in
    let f : FitsSigned w64 c.in-Some.value = search rules in
    let more = take-set_at c.loop-count.block c.loop-count.count (c.loop-count.count + 1) (to_z w64 (of_z w64 value)) refl inside ∙ ap (λ (v : ℤ). front ++ v ∷ []) (to_z-of_z w64 value f) in
    record {
      next = subst (λ vs. AreNext X vs s e) (sym more) next;
      many = omega (arith, below);
      len = length-set c.loop-count.block c.loop-count.count (to_z w64 (of_z w64 value)) ∙ len;
      within = omega (arith, fewer, within);
    }
