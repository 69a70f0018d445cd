use Rattle.std.proofs.Common.{◌≡◌, ◌<◌, ◌≤◌, ◌+◌, ◌-◌, ◌*◌, ◌++◌, ◌∷◌, [], take, sym, ap, ◌∙◌, append_assoc, FitsSigned, w64, rules, arith}
use Rattle.std.proofs.lemmas.Int.{ints, to_z-of_z}
use Rattle.dx_base.specs.Array.{width}
use Rattle.dx_arrays.specs.Block.{values_from}
use Rattle.dx_arrays.proofs.Blocks.{wide, at_place, third_at, last_two, take_next, take_begin, take_end, values_split}
use Rattle.dx_arrays.proofs.array.Array.push_rest.Goals as goal

pub loop-k-init : goal.loop-k-init
loop-k-init c = record {
  values = λ before e. e ∙ ap (λ xs. before ++ xs) (sym (rw c.width-width.ensures.width (take_begin c.args.self.now c.args.item (c.args.end - c.args.item) (omega arith))));
  len = omega arith;
  capacity = cc;
}

pub next_value-next-requires : goal.next_value-next-requires
next_value-next-requires c =
    let before = c.requires.begun.0 in
    let so_far = c.deref.ensures.value ∙ c.loop-k.invariant.values before c.requires.begun.1 in
    let s = last_two c.args.self.now c.args.item (c.args.end - c.args.item) c.loop-k.k c.width-width.result before c.deref.result.now c.width-width.ensures.lawful c.width-width.ensures.width (omega arith) (omega arith) c.loop-k-test.true so_far in
    record { some = c.width-width.ensures.some; two = s.len; last = rw s.one s.small_one; before = rw s.two s.small_two }

pub loop-k-preserved : goal.loop-k-preserved
loop-k-preserved c =
    let a = c.args.self.now in
    let i = c.args.item in
    let n = c.args.end - c.args.item in
    let k = c.loop-k.k in
    let w = c.width-width.result in
    let h : k < n * width a = rw (← c.width-width.ensures.width) c.loop-k-test.true in
    let so_far = c.deref.ensures.value ∙ c.loop-k.invariant.values c.requires.begun.0 c.requires.begun.1 in
    let s = last_two a i n k w c.requires.begun.0 c.deref.result.now c.width-width.ensures.lawful c.width-width.ensures.width (omega arith) (omega arith) c.loop-k-test.true so_far in
    let law = third_at a i n c.args.end (k - 2 * w) (k - w) k c.width-width.ensures.lawful c.requires.line (omega arith) (omega (arith, c.width-width.ensures.width)) (omega (arith, c.width-width.ensures.width)) h in
    let made = rw (s.one, s.two) at c.next_value-next.ensures in
    let is : c.next_value-next.result ≡ at_place a i k = omega (arith, ints, made, law) in
    let fits : FitsSigned w64 c.next_value-next.result = search rules in
    let next = rw (to_z-of_z w64 c.next_value-next.result fits, is) at c.push_reserved.ensures.items in
    let more = take_next a i n k (wide a c.width-width.ensures.lawful) h in
    record {
      values = λ before e. next ∙ ap (λ xs. xs ++ at_place a i k ∷ []) (c.loop-k.invariant.values before e) ∙ append_assoc before (take k (values_from a i n)) (at_place a i k ∷ []) ∙ ap (λ xs. before ++ xs) (sym more);
      len = omega (arith, c.push_reserved.ensures.len, c.loop-k.invariant.len);
      capacity = cc (c.push_reserved.ensures.capacity, c.loop-k.invariant.capacity);
    }

pub returns-clause-values : goal.returns-clause-values
returns-clause-values c =
    let a = c.args.self.now in
    let i = c.args.item in
    let n = c.args.end - c.args.item in
    let before = c.requires.begun.0 in
    let end : n * width a ≤ c.loop-k.k = rw (← c.width-width.ensures.width) c.loop-k-test.false in
    let all : c.loop-k.out.items ≡ before ++ values_from a i n = c.loop-k.invariant.values before c.requires.begun.1 ∙ ap (λ xs. before ++ xs) (take_end a i n c.loop-k.k end) in
    let two : i + 2 - i ≡ 2 = omega arith in
    let split : values_from a i n ≡ values_from a i 2 ++ values_from a (i + 2) (c.args.end - (i + 2)) = rw two at (values_split a i (i + 2) c.args.end (omega arith) c.requires.two) in
    all ∙ ap (λ xs. before ++ xs) split ∙ sym (append_assoc before (values_from a i 2) (values_from a (i + 2) (c.args.end - (i + 2)))) ∙ ap (λ xs. xs ++ values_from a (i + 2) (c.args.end - (i + 2))) (sym c.requires.begun.1)
