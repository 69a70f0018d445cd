-- What a text means: a script, or a first error.
use Rattle.std.specs.Prelude.{ℕ, List, ◌⊎◌}
use Rattle.dx_base.specs.declared.token.SyntaxError.{SyntaxError}
use Rattle.dx_ast.specs.declared.statements.Stmt.{Stmt}
use Rattle.dx_ast.specs.Script.{IsScript, IsFirstError}

abbrev pub HasMeaning : List ℕ → Type 0
HasMeaning text = ((statements : List Stmt) × IsScript text statements) ⊎ ((f : SyntaxError) × IsFirstError text f)
