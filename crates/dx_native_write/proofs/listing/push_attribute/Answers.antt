use Rattle.dx_native_text.specs.Inline.{inline_of}
use Rattle.dx_native_text.specs.Text.{given_words}
use Rattle.dx_native_write.proofs.Entries.{attribute_pushed}
use Rattle.dx_native_write.proofs.listing.push_attribute.Goals as goal

pub returns : goal.returns
returns c =
    attribute_pushed c.args.attribute.now.name (given_words (inline_of c.args.attribute.now.object.value) c.args.number) _ _ _ _ c.in_ok-extend_from_slice.ensures.items c.in_ok-push_name.ensures (rw c.deref.ensures at c.in_ok-push_given.ensures)
