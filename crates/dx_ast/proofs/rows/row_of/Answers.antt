use Rattle.std.proofs.Common.{rules}
use Rattle.dx_ast.proofs.RowLaws.{row_at}
use Rattle.dx_ast.proofs.rows.row_of.Goals as goal

-- the whole table is the definition's, row by row
pub returns : goal.returns
returns c = search (rules, row_at)
