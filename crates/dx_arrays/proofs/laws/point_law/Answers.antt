use Rattle.std.proofs.Common.{arith}
use Rattle.dx_arrays.proofs.PointLaws.{counts-pos, IsPoint-indices_of, point_number-indices_of, indices_of-point_number, point_number-lt}
use Rattle.dx_arrays.proofs.laws.point_law.Goals as goal

pub returns-clause-point : goal.returns-clause-point
returns-clause-point c = λ cs i h. IsPoint-indices_of cs i (counts-pos cs (omega arith))

pub returns-clause-number : goal.returns-clause-number
returns-clause-number c = point_number-indices_of

pub returns-clause-indices : goal.returns-clause-indices
returns-clause-indices c = indices_of-point_number

pub returns-clause-below : goal.returns-clause-below
returns-clause-below c = point_number-lt
