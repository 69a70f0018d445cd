-- The statement that each step executes.
use Rattle.std.specs.Prelude.{Option, Some, None}
use Rattle.dx_ast.specs.declared.statements.Stmt.{Stmt}
use Rattle.dx_ast.specs.Syntax as plain
use Rattle.dx_ast.specs.Plain.{plain_stmt}
use Rattle.dx_ast.specs.Lawful.{IsLawfulCall}

abbrev pub IsSequenceCall : plain.Stmt → Type 0
IsSequenceCall (plain.Sequences c) = IsLawfulCall c
IsSequenceCall other = ⊥

-- it is a sequence call, and lawful
abbrev pub IsSequence : Option Stmt → Type 0
IsSequence None = Unit {0}
IsSequence (Some s) = IsSequenceCall (plain_stmt s)
