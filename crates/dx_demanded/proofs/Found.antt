-- The call that an error names is found.
use Rattle.dx_demanded.specs.Found.{ErrorsAreFound}
use Rattle.dx_demanded.proofs.Trees.{tree_needs, all_need}

pub errors_found : ErrorsAreFound
errors_found w n s links l full = (λ t. (tree_needs w n s links l full t).found, λ args. (all_need w n s links l full args).found)
