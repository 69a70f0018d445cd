use Rattle.std.proofs.Common.{◌≡◌, ◌+◌, ◌-◌, ◌*◌, map, length}
use Rattle.std.specs.List.{range_with_len}
use Rattle.dx_compute_meaning.specs.Answered.{collected}
use Rattle.dx_compute_meaning.specs.Compute.{answer_within}
use Rattle.dx_compute_meaning.specs.Operands.{all_at_place}
use Rattle.dx_compute_meaning.specs.Shown.{shown, objects_of, behind}
use Rattle.dx_compute.proofs.run.+levels.Given as goal

abbrev pub decreases-answer_within : goal.decreases-answer_within
decreases-answer_within l = 2 * l.levels

abbrev pub decreases-member_answers : goal.decreases-member_answers
decreases-member_answers l = 2 * l.levels + 1

abbrev pub invariant-member_answers-loop-i : goal.invariant-member_answers-loop-i
invariant-member_answers-loop-i l = record {
  rest : behind (objects_of l.found) (collected (map (λ i. answer_within l.levels l.e (all_at_place i (shown l.operands))) (range_with_len l.i (l.count - l.i)))) ≡ collected (map (λ i. answer_within l.levels l.e (all_at_place i (shown l.operands))) (range_with_len 0 l.count));
  count : length l.found ≡ l.i;
}
