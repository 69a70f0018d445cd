use Rattle.std.proofs.Common.{◌≡◌, ◌++◌, drop}
use Rattle.dx_objects.specs.Shown.{parts_of}
use Rattle.dx_native_text.specs.Lines.{spelled}
use Rattle.dx_native_write.specs.Numbered.{numbered_attributes}
use Rattle.dx_native_write.proofs.listing.push_attributes.Given as goal

abbrev pub invariant-loop-index : goal.invariant-loop-index
invariant-loop-index l =
    l.out.items ++ spelled (numbered_attributes (parts_of (drop l.index l.attributes)) (drop l.index l.numbers))
    ≡ l.initial.out.items ++ spelled (numbered_attributes (parts_of l.attributes) l.numbers)
