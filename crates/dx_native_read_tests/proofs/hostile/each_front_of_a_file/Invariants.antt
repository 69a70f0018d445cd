use Rattle.std.proofs.Common.{length}
use Rattle.dx_native_read_tests.proofs.hostile.each_front_of_a_file.Given as goal

abbrev pub decreases-loop-rest : goal.decreases-loop-rest
decreases-loop-rest g l = length l.rest
