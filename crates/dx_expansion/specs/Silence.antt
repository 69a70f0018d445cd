-- What keeps no call, wherever it stands and whatever its names mean.
use Rattle.std.specs.Prelude.{◌≡◌, ℕ, List, []}
use Rattle.dx_ast.specs.declared.sequencing.Frames.{Frames}
use Rattle.dx_ast.specs.Classes.{Text}
use Rattle.dx_ast.specs.Syntax.{Expr, Call, Args, Stmt, Stmts}
use Rattle.dx_macros.specs.Site.{Step, Spot}
use Rattle.dx_macros.specs.Dictionary.{Macros}
use Rattle.dx_macros.specs.Expansion.{Scope, ArgsExpanded, under_top, call_expanded, expand_expr, expand_call, expand_args, expand_statement, expand_body}
use Rattle.dx_signatures.specs.Callees.{Callee}

-- so each of the following has no effect where so many macro steps are left

abbrev pub IsSilentExpr : Macros → ℕ → Expr → Type 0
IsSilentExpr macros left e = (frames : Frames) (top : Scope) (spot : Spot) (scope : Scope) (before : List Text) → (expand_expr (under_top left macros frames top) spot scope before e).kept ≡ []

abbrev pub IsSilentCall : Macros → ℕ → Call → Type 0
IsSilentCall macros left c = (frames : Frames) (top : Scope) (spot : Spot) (scope : Scope) (before : List Text) → (expand_call (under_top left macros frames top) spot scope before c).kept ≡ []

abbrev pub AreSilentArgs : Macros → ℕ → Args → Type 0
AreSilentArgs macros left args = (frames : Frames) (top : Scope) (spot : Spot) (scope : Scope) (before : List Text) → (expand_args (under_top left macros frames top) spot scope before args).kept ≡ []

-- a call keeps no more than its arguments do
abbrev pub IsSilentCallee : Macros → ℕ → Callee → Type 0
IsSilentCallee macros left c = (frames : Frames) (top : Scope) (spot : Spot) (step : Step) (cache : ℕ) (args : ArgsExpanded) → (call_expanded (under_top left macros frames top) spot step cache c args).kept ≡ args.kept

abbrev pub IsSilentStatement : Macros → ℕ → Stmt → Type 0
IsSilentStatement macros left s = (frames : Frames) (top : Scope) (spot : Spot) (scope : Scope) (before : List Text) → (expand_statement (under_top left macros frames top) spot scope before s).kept ≡ []

abbrev pub IsSilentBody : Macros → ℕ → Stmts → Type 0
IsSilentBody macros left body = (frames : Frames) (top : Scope) (spot : Spot) (results : List Text) (scope : Scope) (before : List Text) → (expand_body (under_top left macros frames top) spot results scope before body).kept ≡ []
