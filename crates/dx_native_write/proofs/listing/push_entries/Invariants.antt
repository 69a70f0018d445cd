use Rattle.std.proofs.Common.{◌≡◌, ◌++◌, drop}
use Rattle.dx_objects.specs.Shown.{parts_of}
use Rattle.dx_native_text.specs.Lines.{spelled}
use Rattle.dx_native_write.specs.Numbered.{numbered_entries}
use Rattle.dx_native_write.proofs.listing.push_entries.Given as goal

abbrev pub invariant-loop-index : goal.invariant-loop-index
invariant-loop-index l =
    l.out.items ++ spelled (numbered_entries l.listing l.index (parts_of (drop l.index l.parts)) (drop l.index l.numbers))
    ≡ l.initial.out.items ++ spelled (numbered_entries l.listing 0 (parts_of l.parts) l.numbers)
