-- Scripts as plain trees, over which the definitions of their meaning recurse.
use Rattle.std.specs.Prelude.{ℕ, List, Option}
use Rattle.dx_ast.specs.Classes.{Text}
use Rattle.dx_ast.specs.declared.constants.Const.{Const}
use Rattle.dx_ast.specs.declared.sequencing.FrameVar.{FrameVar}
use Rattle.dx_ast.specs.declared.sequencing.Word.{Word}
use Rattle.dx_ast.specs.declared.statements.Param.{Param}

mutual
  pub data Expr : Type 0 where
    Constant : Const → Expr
    Name : Text → Expr
    Frame : FrameVar → Expr
    CallOf : Call → Expr

  pub data Call : Type 0 where
    MakeCall : (name : Text) → (cache : ℕ) → Args → Call

  -- each argument has a name, or is given by its place
  pub data Args : Type 0 where
    NoArg : Args
    AndArg : Option Text → Expr → Args → Args

mutual
  pub data Stmt : Type 0 where
    Assigns : (targets : List Text) → Expr → Stmt
    Calls : Call → Stmt
    Defines : Macro → Stmt
    Includes : Text → Stmt
    Sets : FrameVar → Expr → Stmt
    Says : Word → Stmt
    Sequences : Call → Stmt

  pub data Macro : Type 0 where
    MakeMacro : (name : Text) → List Param → (results : List Text) → Stmts → Macro

  pub data Stmts : Type 0 where
    NoStmt : Stmts
    AndStmt : Stmt → Stmts → Stmts
