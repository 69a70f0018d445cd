use Rattle.std.proofs.Common.{◌≡◌, ◌++◌, replicate}
use Rattle.dx_print.proofs.item_lines.push_indent.Given as goal

-- so many spaces stand behind
abbrev pub invariant-loop-space : goal.invariant-loop-space
invariant-loop-space l = l.out.items ≡ l.initial.out.items ++ replicate l.space 32
