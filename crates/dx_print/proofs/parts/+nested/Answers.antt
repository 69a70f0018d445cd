use Rattle.std.proofs.Common.{◌≡◌, true, rules}
use Rattle.dx_objects.specs.Shown.{parts_of}
use Rattle.dx_print.proofs.NestedLaws.{object_ended}
use Rattle.dx_print.proofs.parts.+nested.Goals as goal

pub push_object-returns : goal.push_object-returns
push_object-returns m c =
    let on : c.args.detail.parts ≡ true = search rules in
    object_ended c.push_parts-2.result c.args.detail c.args.indent c.args.object.now c.listing_of.result (parts_of c.parts.result.now) (parts_of c.attributes.result.now) c.args.out.now.items _ _ c.push_parts-2.new.out.items
    on c.listing_of.ensures c.parts.ensures c.attributes.ensures c.in_ok-push_own.ensures c.in_ok-push_parts.ensures c.push_parts-2.ensures
