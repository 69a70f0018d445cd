use Rattle.std.proofs.Common.{◌≡◌, take}
use Rattle.std.specs.List.{fold}
use Rattle.dx_tags.specs.Digest.{with_byte}
use Rattle.dx_tags.proofs.content.number_over.Given as goal

abbrev pub invariant-loop-b : goal.invariant-loop-b
invariant-loop-b l = l.number ≡ fold with_byte 14695981039346656037 (take l.b-index l.bytes)
