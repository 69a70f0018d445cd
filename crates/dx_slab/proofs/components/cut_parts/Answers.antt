use Rattle.std.proofs.Common.{rules, ◌≡◌, Err, sym, ap, subst, ◌∙◌}
use Rattle.std.proofs.Math.ListN.{drop_of_length-le}
use Rattle.dx_base.specs.Object.{append}
use Rattle.dx_objects.specs.Shown.{parts_of}
use Rattle.dx_objects.proofs.PartsLaws.{append-no_parts}
use Rattle.dx_slab.specs.Components as spec
use Rattle.dx_slab.specs.Gives.{GivesParts}
use Rattle.dx_slab.proofs.Parting.{roles_step, cut_step, cut_stops}
use Rattle.dx_slab.proofs.components.cut_parts.Goals as goal

pub push_cut-requires-clause-role : goal.push_cut-requires-clause-role
push_cut-requires-clause-role c =
    (roles_step c.args.counts.now c.args.parts.now c.loop-part.part-index c.part-item.result (search rules) c.part-item.is c.loop-part.invariant.roles).0

pub returns-in_err-push_cut : goal.returns-in_err-push_cut
returns-in_err-push_cut c =
    let e = c.in_err-push_cut.field-0.0 in
    let stop = cut_stops c.args.counts.now c.args.cut c.args.parts.now c.loop-part.part-index c.part-item.result c.loop-part.own c.push_cut.new.own (spec.cut_parts c.args.counts.now c.args.cut (parts_of c.args.parts.now)) e (search rules) c.part-item.is c.in_err-push_cut.ensures c.loop-part.invariant.all in
    let same : c.from_residual-in_err-push_cut.result ≡ Err e = search rules in
    subst (λ r. GivesParts (spec.cut_parts c.args.counts.now c.args.cut (parts_of c.args.parts.now)) r) (sym same) stop

pub loop-part-preserved : goal.loop-part-preserved
loop-part-preserved c = record {
  roles = (roles_step c.args.counts.now c.args.parts.now c.loop-part.part-index c.part-item.result (search rules) c.part-item.is c.loop-part.invariant.roles).1;
  cells = c.loop-part.invariant.cells;
  all = cut_step c.args.counts.now c.args.cut c.args.parts.now c.loop-part.part-index c.part-item.result c.loop-part.own c.push_cut.new.own (spec.cut_parts c.args.counts.now c.args.cut (parts_of c.args.parts.now)) (search rules) c.part-item.is c.in_ok-push_cut.ensures c.loop-part.invariant.all;
}

pub returns : goal.returns
returns c =
    sym (append-no_parts c.loop-part.own)
    ∙ ap (λ l. append c.loop-part.own (spec.cut_parts c.args.counts.now c.args.cut (parts_of l))) (sym (drop_of_length-le c.args.parts.now (search rules)))
    ∙ c.loop-part.invariant.all
