-- What loading the text of a workload answers.
use Rattle.std.specs.Prelude.{◌≡◌, List, Result, Ok, Err}
use Rattle.dx_ast.specs.declared.statements.Stmt.{Stmt}
use Rattle.dx_include.specs.declared.fail.LoadFail.{LoadFail}
use Rattle.dx_include.specs.declared.fail.LoadFail.TheVariants as fail
use Rattle.dx_include.specs.Loading.{Loading}
use Rattle.dx_include.specs.Answers.{statements_of}

-- it never fails to be read
abbrev pub OwnRefuses : Loading → LoadFail → Type 0
OwnRefuses l fail.ReadFault = ⊥
OwnRefuses l fail.Memory = Unit {0}
OwnRefuses l why = l.ends ≡ Err why

abbrev pub LoadsOwn : Loading → Result (List Stmt) LoadFail → Type 0
LoadsOwn l (Ok statements) = statements_of l.ends ≡ Ok statements
LoadsOwn l (Err why) = OwnRefuses l why
