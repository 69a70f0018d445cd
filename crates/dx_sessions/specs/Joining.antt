-- Where an assignment joins the definitions behind its execution.
use Rattle.std.specs.Prelude.{if◌then◌else◌, Result, Ok, Err}
use Rattle.dx_ast.specs.Syntax.{Stmt, Assigns}
use Rattle.dx_macros.specs.Dictionary.{Dictionary, with_definition}
use Rattle.dx_making.specs.declared.end.End.{End}
use Rattle.dx_sessions.specs.Ended.{is_faulty}
use Rattle.dx_sessions.specs.declared.ended.Ended.{Ended}

abbrev pub joining : Stmt → Dictionary → Dictionary
joining (Assigns targets e) d = with_definition (record { targets = targets; value = e }) d
joining other d = d

-- a static fault keeps it from joining, and so does what cuts its execution short
abbrev pub joined_by : Result Ended End → Stmt → Dictionary → Dictionary
joined_by (Ok ended) s d = if is_faulty ended then d else joining s d
joined_by (Err end) s d = d
