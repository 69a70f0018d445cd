use Rattle.dx_objects.specs.Shown.{parts_of}
use Rattle.dx_native_write.proofs.Walk.{from_none, numbers_room, values_room, object_pushed}
use Rattle.dx_native_write.proofs.write.+write.Goals as goal

pub push_object-push_body-requires : goal.push_object-push_body-requires
push_object-push_body-requires m c =
    numbers_room c.args.object.now (parts_of c.parts-parts.result.now) c.args.first _ c.parts-parts.ensures
    (from_none _ _ _ _ c.deref.ensures.value c.in_ok-behind.ensures.numbers c.in_ok-numbers.ensures.items)

pub push_object-push_attributes-requires : goal.push_object-push_attributes-requires
push_object-push_attributes-requires m c =
    values_room c.attributes-attributes.result.now c.in_ok-behind.behind _
    (from_none _ _ _ _ c.deref-2.ensures.value c.in_ok-number.ensures.numbers c.in_ok-values.ensures.items)

pub push_object-returns-clause-text : goal.push_object-returns-clause-text
push_object-returns-clause-text m c =
    object_pushed c.args.object.now (parts_of c.parts-parts.result.now) (parts_of c.attributes-attributes.result.now)
    c.args.first c.in_ok-behind.behind c.in_ok-number.number c.deref.result.now c.deref-2.result.now _ _ _ _ _
    c.parts-parts.ensures c.attributes-attributes.ensures c.in_ok-behind.ensures.next c.in_ok-number.ensures.next
    (from_none _ _ _ _ c.deref.ensures.value c.in_ok-behind.ensures.numbers c.in_ok-numbers.ensures.items)
    (from_none _ _ _ _ c.deref-2.ensures.value c.in_ok-number.ensures.numbers c.in_ok-values.ensures.items)
    c.in_ok-behind.ensures.text c.in_ok-number.ensures.text c.in_ok-push_body.ensures c.in_ok-push_attributes.ensures
