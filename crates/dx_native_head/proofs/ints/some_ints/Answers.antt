use Rattle.std.proofs.Common.{◌≡◌, ◌≤◌, [], arith, subst, sym, rules}
use Rattle.std.specs.List.{All}
use Rattle.std.proofs.lemmas.Result.{err_from_is_err_and}
use Rattle.dx_native_grammar.specs.Grammar.{int}
use Rattle.dx_native_head.specs.Many.{IsInt}
use Rattle.dx_native_head.proofs.IntLaws.{are_ints}
use Rattle.dx_native_head.proofs.ManyLaws.{first_read, first_refused}
use Rattle.dx_native_head.proofs.ints.some_ints.Goals as goal

pub returns-in_err-values-clause-read : goal.returns-in_err-values-clause-read
returns-in_err-values-clause-read c =
    let p = err_from_is_err_and c.from_residual-in_err-values.result c.from_residual-in_err-values.ensures.1 in
    let few : c.min-count.result ≤ c.args.n = omega (arith, c.min-count.ensures) in
    first_refused int c.args.n c.min-count.result c.from_vec-room.result c.args.found.now.items c.args.found.now.items c.args.cursor.now c.numbers.new.cursor c.from_residual-in_err-values.result _ _ p.1 p.2 few c.in_err-values.ensures

pub push_ints-requires : goal.push_ints-requires
push_ints-requires c =
    let empty : c.from_vec-room.result ≡ [] = first_of (cc, search rules) in
    let none : All IsInt c.from_vec-room.result = subst (λ vs. All IsInt vs) (sym empty) (λ k d h. absurd (omega arith)) in
    subst (λ vs. All IsInt vs) (sym c.as_slice.ensures) (are_ints c.min-count.result c.from_vec-room.result c.in_ok-values.values c.args.cursor.now c.numbers.new.cursor none c.in_ok-values.ensures)

pub returns-clause-read : goal.returns-clause-read
returns-clause-read c =
    let empty : c.from_vec-room.result ≡ [] = first_of (cc, search rules) in
    let few : c.min-count.result ≤ c.args.n = omega (arith, c.min-count.ensures) in
    first_read int c.args.n c.min-count.result c.from_vec-room.result c.args.found.now.items c.in_ok-values.values c.push_ints.new.found.items c.args.cursor.now c.numbers.new.cursor empty few c.in_ok-values.ensures (first_of (cc, search rules))
