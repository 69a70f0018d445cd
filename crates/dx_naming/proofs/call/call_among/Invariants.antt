use Rattle.std.proofs.Common.{◌≡◌, drop}
use Rattle.dx_getting.specs.Stands.{IsCall}
use Rattle.dx_naming.proofs.Among.{first_among}
use Rattle.dx_naming.proofs.call.call_among.Given as goal

-- none so far meets one
abbrev pub invariant-loop-i : goal.invariant-loop-i
invariant-loop-i l = IsCall l.at.tags l.tag → first_among l.setup l.at l.tag (drop l.i-index l.inputs) ≡ first_among l.setup l.at l.tag l.inputs
