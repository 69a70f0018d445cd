use Rattle.dx_objects.specs.Shown.{parts_of}
use Rattle.dx_native_write.specs.Bodies.{array_behind, text_behind}
use Rattle.dx_native_write.proofs.BodyLines.{body_room, behind_start, parts_pushed, on_ok, array_body, text_body}
use Rattle.dx_native_write.proofs.object_lines.push_body.Goals as goal

pub push_entries-requires : goal.push_entries-requires
push_entries-requires c = body_room c.args.object.now c.parts-parts.result.now _ c.requires c.parts-parts.ensures

pub returns-in-Some : goal.returns-in-Some
returns-in-Some c =
    on_ok c.push_array.result
    (behind_start c.args.number (array_behind c.in-Some.array.now) _ _ _ _ c.in_ok-push_start.ensures
    (array_body c.args.object.now c.in-Some.array.now c.args.number c.args.numbers.now c.in-Some.ensures))
    c.push_array.ensures

pub returns-in-Some-as_text : goal.returns-in-Some-as_text
returns-in-Some-as_text c =
    on_ok c.push_text.result
    (behind_start c.args.number (text_behind c.in-Some-as_text.text.now) _ _ _ _ c.in_ok-push_start.ensures
    (text_body c.args.object.now c.in-Some-as_text.text.now c.args.number c.args.numbers.now c.in-Some-as_text.ensures))
    c.push_text.ensures

pub returns : goal.returns
returns c =
    on_ok c.push_entries.result
    (parts_pushed c.args.object.now c.args.number c.args.numbers.now c.listing_of.result (parts_of c.parts-parts.result.now) c.class_word.result.now _ _ _ _
    c.in_default.ensures c.in_default-as_text.ensures c.listing_of.ensures c.parts-parts.ensures c.class_word.ensures
    c.in_ok-push_start.ensures c.in_ok-extend_from_slice.ensures.items)
    c.push_entries.ensures
