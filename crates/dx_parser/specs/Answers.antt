-- What is answered of a whole text, unless memory runs out.
use Rattle.std.specs.Prelude.{◌≡◌, List, Result, Ok, Err}
use Rattle.dx_base.specs.declared.token.SyntaxError.{SyntaxError}
use Rattle.dx_ast.specs.declared.statements.Stmt.{Stmt}
use Rattle.dx_cursor.specs.declared.fail.ParseFail.{ParseFail}
use Rattle.dx_cursor.specs.declared.fail.ParseFail.TheVariants as fail

-- the answer is these statements, unless memory ran out
abbrev pub IsOnly : List Stmt → Result (List Stmt) ParseFail → Type 0
IsOnly statements (Ok found) = statements ≡ found
IsOnly statements (Err (fail.Refused f)) = ⊥
IsOnly statements (Err fail.Memory) = Unit {0}

-- the answer is this error, unless memory ran out
abbrev pub IsOnlyError : SyntaxError → Result (List Stmt) ParseFail → Type 0
IsOnlyError f (Ok found) = ⊥
IsOnlyError f (Err (fail.Refused g)) = f ≡ g
IsOnlyError f (Err fail.Memory) = Unit {0}

-- what holds of an error that is answered
abbrev pub OnRefused : (SyntaxError → Type 0) → ParseFail → Type 0
OnRefused P (fail.Refused f) = P f
OnRefused P fail.Memory = Unit {0}
