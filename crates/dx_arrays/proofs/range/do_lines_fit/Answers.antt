use Rattle.std.proofs.Common.{◌∙◌, sym, Bool, ℕ, length, FitsSigned, w64, rules}
use Rattle.std.proofs.lemmas.Int.{to_z-of_z}
use Rattle.dx_base.specs.Array.{number}
use Rattle.dx_arrays.specs.Reach.{line_fits}
use Rattle.dx_arrays.proofs.Each.{each-fails, each-holds}
use Rattle.dx_arrays.proofs.range.do_lines_fit.Goals as goal

pub returns-then-not-do_ends_fit : goal.returns-then-not-do_ends_fit
returns-then-not-do_ends_fit c =
    let f : FitsSigned w64 (number c.args.origin.now c.loop-place.place) = search rules in
    let g : FitsSigned w64 (number c.args.delta.now c.loop-place.place) = search rules in
    let fits : ℕ → Bool = λ p. line_fits c.args.t c.args.last (number c.args.origin.now p) (number c.args.delta.now p) in
    let here = rw (to_z-of_z w64 _ f, to_z-of_z w64 _ g) at c.do_ends_fit.ensures in
    sym (each-fails fits (length c.args.origin.now) c.loop-place.place c.loop-place-test.true (sym here ∙ c.if-not-do_ends_fit.true)) ∙ c.loop-place.invariant

pub loop-place-preserved : goal.loop-place-preserved
loop-place-preserved c =
    let f : FitsSigned w64 (number c.args.origin.now c.loop-place.place) = search rules in
    let g : FitsSigned w64 (number c.args.delta.now c.loop-place.place) = search rules in
    let fits : ℕ → Bool = λ p. line_fits c.args.t c.args.last (number c.args.origin.now p) (number c.args.delta.now p) in
    let here = rw (to_z-of_z w64 _ f, to_z-of_z w64 _ g) at c.do_ends_fit.ensures in
    each-holds fits (length c.args.origin.now) c.loop-place.place c.loop-place-test.true (sym here ∙ c.if-not-do_ends_fit.false) ∙ c.loop-place.invariant
