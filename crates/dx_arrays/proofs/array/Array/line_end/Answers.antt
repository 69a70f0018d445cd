use Rattle.std.proofs.Common.{◌<◌, arith}
use Rattle.dx_arrays.proofs.Blocks.{line_some, end_behind, same_line}
use Rattle.dx_arrays.proofs.array.Array.line_end.Goals as goal

-- a line has an item
some : (c : goal.After-line_len-len) → 0 < c.line_len-len.result
some c = rw c.line_len-len.ensures.len (line_some c.args.self.now (omega arith))

pub nonzero_div-result : goal.nonzero_div-result
nonzero_div-result c = some c

pub returns-clause-behind : goal.returns-clause-behind
returns-clause-behind c = end_behind c.args.item c.line_len-len.result (some c)

pub returns-clause-line : goal.returns-clause-line
returns-clause-line c = λ i h k. rw (← c.line_len-len.ensures.len) (same_line c.args.item i c.line_len-len.result (some c) h k)
