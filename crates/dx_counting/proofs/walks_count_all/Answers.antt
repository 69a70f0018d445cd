use Rattle.dx_counting.proofs.Counted.{all_counted}
use Rattle.dx_counting.proofs.walks_count_all.Goals as goal

pub returns : goal.returns
returns c = all_counted
