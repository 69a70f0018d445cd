-- What the code answers for a block.
use Rattle.std.specs.Prelude.{◌≡◌, List, ℤ, take}
use Rattle.dx_expr_blocks.specs.declared.found.Found.{Found}
use Rattle.dx_expr_blocks.specs.declared.found.Stop.{Stop}
use Rattle.dx_expr_blocks.specs.Block.{Run, run_of}

-- the values that stand there, and the fault behind them
abbrev pub IsFound : Run ℤ → Found → Type 0
IsFound run found = run ≡ record { values = found.values.items; fault = found.fault }

-- the first of these values, as many as it says, and the fault behind them
abbrev pub StopsAt : Run ℤ → List ℤ → Stop → Type 0
StopsAt run values stop = run ≡ record { values = take stop.count values; fault = stop.fault }

-- the run that it has
abbrev pub run_found : Found → Run ℤ
run_found found = run_of found.values.items found.fault
