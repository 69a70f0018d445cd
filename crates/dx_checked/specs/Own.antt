-- Texts whose own calls have no fault, whatever their names mean, as long as that has none.
use Rattle.std.specs.Prelude.{◌≡◌, ◌≤◌, ◌+◌, ℕ, List, Bool, length}
use Rattle.dx_ast.specs.Classes.{Text}
use Rattle.dx_ast.specs.Syntax.{Expr, Call, Args, Stmt, Stmts}
use Rattle.dx_ast.specs.Limits.{max_walk_calls}
use Rattle.dx_macros.specs.Dictionary.{Macros}
use Rattle.dx_macros.specs.Site.{Step}
use Rattle.dx_macros.specs.Walk.{Walk, Walked, Goes, WalkUnder, Reader, walk_macro, walk_call, walk_expr, walk_args, walk_statement, walk_body, enter_callee}
use Rattle.dx_signatures.specs.Callees.{Callee}

-- ---- how far a walk may go

-- what is counted ahead for the definitions that aren't marked as read
abbrev pub Ahead : Type 0
Ahead = List Bool → ℕ

-- the calls so far, and those counted ahead
abbrev pub counted : Ahead → Walk → ℕ
counted ahead w = w.calls + ahead w.read

-- the walk goes on over as many definitions, and no more than n calls joined those that were counted
abbrev pub GoesOn : Ahead → ℕ → Walk → Walked → Type 0
GoesOn ahead n w walked = (next : Walk) × (walked ≡ Goes next) × (length next.read ≡ length w.read) × (counted ahead next ≤ counted ahead w + n)

-- a walk over k definitions does so wherever there is room for n calls more
abbrev pub Fits : Ahead → ℕ → ℕ → (Walk → Walked) → Type 0
Fits ahead k n walk = (w : Walk) → length w.read ≡ k → counted ahead w + n ≤ max_walk_calls → GoesOn ahead n w (walk w)

-- what a name means was counted ahead
abbrev pub NamesFit : Ahead → ℕ → Reader → Type 0
NamesFit ahead k read = (name : Text) → Fits ahead k 0 (read name)

-- ---- texts with n calls of their own

abbrev pub under : Macros → Reader → ℕ → WalkUnder
under macros top left = record { macros = macros; left = left; enter = walk_macro macros top left }

abbrev pub ExprFits : Macros → ℕ → ℕ → Expr → ℕ → Type 0
ExprFits macros left targets e n =
    (ahead : Ahead) (k : ℕ) (top read : Reader) → NamesFit ahead k top → NamesFit ahead k read → (base : List Step) (before : List Text) → Fits ahead k n (walk_expr (under macros top left) base read before targets e)

abbrev pub CallFits : Macros → ℕ → ℕ → Call → ℕ → Type 0
CallFits macros left targets c n =
    (ahead : Ahead) (k : ℕ) (top read : Reader) → NamesFit ahead k top → NamesFit ahead k read → (base : List Step) (before : List Text) → Fits ahead k n (walk_call (under macros top left) base read before targets c)

abbrev pub ArgsFit : Macros → ℕ → Args → ℕ → Type 0
ArgsFit macros left args n =
    (ahead : Ahead) (k : ℕ) (top read : Reader) → NamesFit ahead k top → NamesFit ahead k read → (base : List Step) (before : List Text) → Fits ahead k n (walk_args (under macros top left) base read before args)

abbrev pub CalleeFits : Macros → ℕ → Callee → ℕ → Type 0
CalleeFits macros left c n = (ahead : Ahead) (k : ℕ) (top : Reader) → NamesFit ahead k top → (base : List Step) → Fits ahead k n (enter_callee (under macros top left) base c)

abbrev pub StatementFits : Macros → ℕ → Stmt → ℕ → Type 0
StatementFits macros left s n =
    (ahead : Ahead) (k : ℕ) (top read : Reader) → NamesFit ahead k top → NamesFit ahead k read → (base : List Step) (before : List Text) → Fits ahead k n (walk_statement (under macros top left) base read before s)

-- whatever the parameters and what was assigned before are called
abbrev pub BodyFits : Macros → ℕ → Stmts → ℕ → Type 0
BodyFits macros left body n =
    (ahead : Ahead) (k : ℕ) (top : Reader) → NamesFit ahead k top → (base : List Step) (results own before : List Text) → Fits ahead k n (walk_body (under macros top left) base top results own before body)

-- ---- counting

-- behind so many calls there are n with those of a text, which is no more than a walk may have
abbrev pub Reaches : ℕ → ℕ → (ℕ → Type 0) → Type 0
Reaches calls n HasCalls = (own : ℕ) × (calls + own ≡ n) × (n ≤ max_walk_calls) × HasCalls own
