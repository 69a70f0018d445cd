-- The names of the calls of a text by their places, and those that a statement of a body gives a meaning.
use Rattle.std.specs.Prelude.{List, [], ◌∷◌, ◌++◌}
use Rattle.dx_ast.specs.Classes.{Text}
use Rattle.dx_ast.specs.Syntax.{Expr, Constant, Name, Frame, CallOf, Call, MakeCall, Args, NoArg, AndArg, Stmt, Assigns, Calls}

-- ---- the calls of a text, by their places

abbrev mutual
  pub calls_in : Expr → List Text
  calls_in (Constant c) = []
  calls_in (Name n) = []
  calls_in (Frame v) = []
  calls_in (CallOf c) = calls_of c

  pub calls_of : Call → List Text
  calls_of (MakeCall name cache args) = name ∷ calls_in_args args

  pub calls_in_args : Args → List Text
  calls_in_args NoArg = []
  calls_in_args (AndArg n e rest) = calls_in e ++ calls_in_args rest

-- ---- a statement of a macro's body

-- the calls met, after the statement
abbrev pub calls_after : List Text → Stmt → List Text
calls_after before (Calls c) = before ++ calls_of c
calls_after before (Assigns targets e) = before ++ calls_in e
calls_after before other = before

-- the names that the body gave a meaning, after the statement
abbrev pub names_after : List Text → Stmt → List Text
names_after own (Assigns targets e) = own ++ targets
names_after own other = own
