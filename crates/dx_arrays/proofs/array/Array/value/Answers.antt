use Rattle.std.proofs.Common.{◌≡◌, ◌<◌, ◌∙◌, ap, FitsSigned, w32, w64, pos, arith, rules}
use mir.Syntax.{w128}
use Rattle.std.proofs.lemmas.List.{get_or_read}
use Rattle.std.proofs.lemmas.Int.{to_z-of_z}
use Rattle.dx_base.specs.Array as spec
use Rattle.dx_arrays.specs.View.{class_of, data_of}
use Rattle.dx_arrays.proofs.Fits.{value_fits_of, plain_value, connections_points, regular_lengths, positions_length}
use Rattle.dx_arrays.proofs.array.Array.value.Goals as goal

pub returns-in-Plain : goal.returns-in-Plain
returns-in-Plain c =
    let f : FitsSigned w64 c.index.result.now = search rules in
    let a : spec.ArrayData = data_of c.self.inside.elem c.self.inside.extents c.self.inside.items c.self.inside.stored in
    let class : a.class ≡ spec.plain c.in-Plain.values.items = ap (class_of c.self.inside.items) c.in-Plain.is in
    let item : c.args.item < spec.items a = rw (← c.self.view_is) at c.requires.item in
    let place : c.args.place < spec.width a = rw (← c.self.view_is) at c.requires.place in
    to_z-of_z w64 c.index.result.now f ∙ rw (← c.self.view_is) (plain_value a c.in-Plain.values.items c.args.item c.args.place c.width.result c.index.result.now class c.width.ensures.width item place c.index.ensures)

pub returns-in-Ints : goal.returns-in-Ints
returns-in-Ints c =
    let f : FitsSigned w64 c.from.result = search rules in
    let g : FitsSigned w32 c.index-in-Ints.result.now = search rules in
    let a : spec.ArrayData = data_of c.self.inside.elem c.self.inside.extents c.self.inside.items c.self.inside.stored in
    let class : a.class ≡ spec.plain c.in-Ints.values.items = ap (class_of c.self.inside.items) c.in-Ints.is in
    let item : c.args.item < spec.items a = rw (← c.self.view_is) at c.requires.item in
    let place : c.args.place < spec.width a = rw (← c.self.view_is) at c.requires.place in
    let at = plain_value a c.in-Ints.values.items c.args.item c.args.place c.width-in-Ints.result c.index-in-Ints.result.now class c.width-in-Ints.ensures.width item place c.index-in-Ints.ensures in
    to_z-of_z w64 c.from.result f ∙ c.from.ensures ∙ to_z-of_z w32 c.index-in-Ints.result.now g ∙ rw (← c.self.view_is) at

pub narrowed-requires : goal.narrowed-requires
narrowed-requires c =
    let f : FitsSigned w64 c.index-in-Regular.result.now = search rules in
    let g : FitsSigned w64 c.index-in-Regular-2.result.now = search rules in
    let a : spec.ArrayData = data_of c.self.inside.elem c.self.inside.extents c.self.inside.items c.self.inside.stored in
    let origin = c.in-Regular.origin.items in
    let delta = c.in-Regular.delta.items in
    let class : a.class ≡ spec.regular c.self.inside.items origin delta = ap (class_of c.self.inside.items) c.in-Regular.is in
    let item : c.args.item < spec.items a = rw (← c.self.view_is) at c.requires.item in
    let place : c.args.place < spec.width a = rw (← c.self.view_is) at c.requires.place in
    let lengths = regular_lengths a c.self.inside.items origin delta c.self.invariant.lawful class in
    let o : c.index-in-Regular.result.now ≡ spec.number origin c.args.place = get_or_read origin c.args.place _ (omega (arith, lengths.0, place)) c.index-in-Regular.ensures (pos 0) in
    let d : c.index-in-Regular-2.result.now ≡ spec.number delta c.args.place = get_or_read delta c.args.place _ (omega (arith, lengths.1, place)) c.index-in-Regular-2.ensures (pos 0) in
    let along = rw (to_z-of_z w64 _ f, to_z-of_z w64 _ g, o, d) at c.along.ensures in
    let fits = value_fits_of a (spec.regular c.self.inside.items origin delta) c.args.item c.args.place c.self.invariant.lawful class item place in
    rw (to_z-of_z w128 c.along.result (record { sfits = c.along.type_inv }), along) fits

pub position-requires-clause-fits : goal.position-requires-clause-fits
position-requires-clause-fits c =
    let f : FitsSigned w64 c.index-in-Positions.result.now = search rules in
    let a : spec.ArrayData = data_of c.self.inside.elem c.self.inside.extents c.self.inside.items c.self.inside.stored in
    let cs = c.in-Positions.counts.items in
    let class : a.class ≡ spec.grid_positions cs c.in-Positions.origin.items c.in-Positions.deltas.items = ap (class_of c.self.inside.items) c.in-Positions.is in
    let item : c.args.item < spec.items a = rw (← c.self.view_is) at c.requires.item in
    let place : c.args.place < spec.width a = rw (← c.self.view_is) at c.requires.place in
    let len = positions_length a cs c.in-Positions.origin.items c.in-Positions.deltas.items c.self.invariant.lawful class in
    let o : c.index-in-Positions.result.now ≡ spec.number c.in-Positions.origin.items c.args.place = get_or_read c.in-Positions.origin.items c.args.place _ (omega (arith, len, place)) c.index-in-Positions.ensures (pos 0) in
    rw (to_z-of_z w64 _ f, o, c.deref.ensures.value, c.deref-in-Positions.ensures.value) (value_fits_of a (spec.grid_positions cs c.in-Positions.origin.items c.in-Positions.deltas.items) c.args.item c.args.place c.self.invariant.lawful class item place)

pub corner-requires-clause-points : goal.corner-requires-clause-points
corner-requires-clause-points c =
    let a : spec.ArrayData = data_of c.self.inside.elem c.self.inside.extents c.self.inside.items c.self.inside.stored in
    let cs = c.in-Connections.counts.items in
    let class : a.class ≡ spec.grid_connections cs = ap (class_of c.self.inside.items) c.in-Connections.is in
    let item : c.args.item < spec.items a = rw (← c.self.view_is) at c.requires.item in
    let few = connections_points a cs c.args.item c.self.invariant.lawful class item in
    rw c.deref-in-Connections.ensures.value (omega (arith, few))
