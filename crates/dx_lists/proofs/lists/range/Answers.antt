use Rattle.std.proofs.Common.{◌≡◌, ◌++◌, ◌∷◌, [], ◌+ℤ◌, false, arith, sym, ap, ◌∙◌, to_z, of_z, w32, w64}
use Rattle.std.proofs.lemmas.Int.{ints, to_z-of_z}
use Rattle.dx_ast.specs.Values.{is_passed}
use Rattle.dx_lists.proofs.Ranging.{IsStep, is_step, moved_on, ended}
use Rattle.dx_lists.proofs.lists.range.Goals as goal

step : (c : goal.After-from) → IsStep c.args.a c.args.b c.args.d (to_z w64 c.each.next-bits)
step c =
    let a = to_z-of_z w32 c.args.a c.ranges.a in
    let b = to_z-of_z w32 c.args.b c.ranges.b in
    let d = to_z-of_z w32 c.args.d c.ranges.d in
    let here : is_passed (to_z w64 c.each.next-bits) c.args.b c.args.d ≡ false = sym (rw (b, d) at c.each-test.ensures) in
    is_step c.args.a c.args.b c.args.d (to_z w64 c.each.next-bits) c.requires here (rw (a, d) at c.each.invariant.behind) c.ranges.a c.ranges.b c.ranges.d

-- the step that is added
added : (c : goal.After-from) → to_z w64 (of_z w64 c.from.result) ≡ c.args.d
added c =
    let e : c.from.result ≡ c.args.d = c.from.ensures ∙ to_z-of_z w32 c.args.d c.ranges.d in
    let f = c.ranges.d in
    rw e (to_z-of_z w64 c.args.d (omega (arith, ints)))

-- the number that is next
next : (c : goal.After-from) → to_z w64 (of_z w64 (to_z w64 c.each.next-bits +ℤ to_z w64 (of_z w64 c.from.result))) ≡ to_z w64 c.each.next-bits +ℤ c.args.d
next c = rw (added c) (to_z-of_z w64 (to_z w64 c.each.next-bits +ℤ c.args.d) (step c).sum)

pub overflow_add-next : goal.overflow_add-next
overflow_add-next c = rw (added c) (step c).sum

pub each-smaller : goal.each-smaller
each-smaller c =
    let b = to_z-of_z w32 c.args.b c.ranges.b in
    let d = to_z-of_z w32 c.args.d c.ranges.d in
    rw (next c, b, d) (step c).fewer

pub each-preserved : goal.each-preserved
each-preserved c =
    let a = to_z-of_z w32 c.args.a c.ranges.a in
    let b = to_z-of_z w32 c.args.b c.ranges.b in
    let d = to_z-of_z w32 c.args.d c.ranges.d in
    let x = to_z-of_z w32 (to_z w64 c.each.next-bits) (step c).number in
    let same = rw (a, b, d) at c.each.invariant.same in
    rw (next c, a, b, d) (record { same = moved_on _ _ _ _ c.each.numbers c.push.new.self (step c) same (c.in_ok-push.ensures.ok ∙ ap (λ n. c.each.numbers ++ n ∷ []) x); behind = (step c).behind })

pub returns : goal.returns
returns c =
    let a = to_z-of_z w32 c.args.a c.ranges.a in
    let b = to_z-of_z w32 c.args.b c.ranges.b in
    let d = to_z-of_z w32 c.args.d c.ranges.d in
    ended c.args.a c.args.b c.args.d (to_z w64 c.each.next-bits) c.each.numbers (sym (rw (b, d) at c.each-test.ensures)) (rw (a, b, d) at c.each.invariant.same)
