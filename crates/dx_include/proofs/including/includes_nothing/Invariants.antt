use Rattle.std.specs.List.{AllWithin}
use Rattle.dx_include.specs.Computed.{IsPlain}
use Rattle.dx_include.proofs.including.includes_nothing.Given as goal

-- none so far is an include
abbrev pub invariant-loop-statement : goal.invariant-loop-statement
invariant-loop-statement l = AllWithin IsPlain l.statements 0 l.statement-index
