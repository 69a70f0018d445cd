use Rattle.std.proofs.Common.{◌≡◌, true, Some, refl, sym, ap, subst, ◌∙◌}
use Rattle.dx_base.specs.ArrayLimits.{is_shape}
use Rattle.dx_expr.specs.Shape.{shape_of}
use Rattle.dx_expr.specs.Shapes.{extents_of}
use Rattle.dx_compute_meaning.specs.Arrays.{given}
use Rattle.dx_compute_meaning.specs.Shown.{shown_arrays, Computes}
use Rattle.dx_compute_meaning.proofs.Codes.{computed_is}
use Rattle.dx_compute_meaning.proofs.Places.{shape_lawful}
use Rattle.dx_compute.proofs.compute.computed.Goals as goal

pub extents-requires : goal.extents-requires
extents-requires c = shape_lawful (shown_arrays c.args.arrays.now) c.args.e.now (extents_of c.in-Some.shape) (c.if-not-are_alike.ensures.shapes refl) c.requires.bounded (sym c.in-Some.ensures)

pub array_of-requires-clause-lawful : goal.array_of-requires-clause-lawful
array_of-requires-clause-lawful c =
    subst (λ s. is_shape s ≡ true) (sym c.in_ok-shape.ensures)
    (shape_lawful (shown_arrays c.args.arrays.now) c.args.e.now (extents_of c.in-Some.shape) (c.if-not-are_alike.ensures.shapes refl) c.requires.bounded (sym c.in-Some.ensures))

pub returns : goal.returns
returns c =
    let arrays = shown_arrays c.args.arrays.now in
    let is : shape_of (given arrays).shape c.args.e.now ≡ Some c.in_ok-shape.shape = sym c.in-Some.ensures ∙ ap (λ s. Some s) (sym c.in_ok-shape.ensures) in
    subst (λ there. Computes there c.array_of.result) (sym (computed_is c.args.e.now arrays c.args.items c.in_ok-shape.shape c.requires.items (sym c.if-not-are_alike.ensures.alike) is)) c.array_of.ensures
