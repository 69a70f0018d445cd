-- That the bound on macro steps is no part of what a statement without a fault means.
use Rattle.std.specs.Prelude.{◌≡◌, ℕ, zero, suc, None}
use Rattle.dx_ast.specs.declared.sequencing.Frames.{Frames}
use Rattle.dx_ast.specs.Syntax.{Stmt}
use Rattle.dx_ast.specs.Limits.{max_macro_steps}
use Rattle.dx_macros.specs.Dictionary.{Dictionary}
use Rattle.dx_macros.specs.Expansion.{effects, effects_within}
use Rattle.dx_macros.specs.Walk.{first_fault}

abbrev pub more : ℕ → ℕ → ℕ
more zero n = n
more (suc k) n = suc (more k n)

-- where a statement has no fault, its effects are the same however many more macro steps are allowed
abbrev pub BudgetSuffices : Dictionary → Frames → Stmt → Type 0
BudgetSuffices d frames s = first_fault d s ≡ None → (n : ℕ) → effects_within (more max_macro_steps n) d frames s ≡ effects d frames s
