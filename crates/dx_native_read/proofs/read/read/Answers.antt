use Rattle.dx_native_read.specs.Found.{read_tree}
use Rattle.dx_native_read.proofs.Answered.{only}
use Rattle.dx_native_read.proofs.read.read.Goals as goal

pub returns-clause-only : goal.returns-clause-only
returns-clause-only c = only _ _ (read_tree c.contents_of.result) c.contents_of.ensures.answers
