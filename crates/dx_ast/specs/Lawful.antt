-- The trees that a script can stand for.
use Rattle.std.specs.Prelude.{◌≡◌, ℕ, ◌≤◌, ◌<◌, ◌*◌, false, List, [], ◌∷◌, length, map, Option, Some, None, All}
use Rattle.dx_ast.specs.Limits.{max_name_bytes, max_numbers, max_elements, max_names}
use Rattle.dx_ast.specs.declared.constants.Const.{Const}
use Rattle.dx_ast.specs.declared.constants.Const.TheVariants as const
use Rattle.dx_ast.specs.declared.statements.Param.{Param}
use Rattle.dx_ast.specs.Classes.{Text}
use Rattle.dx_ast.specs.Values.{has_name, param_name}
use Rattle.dx_ast.specs.Value.{HasLawfulValue}
use Rattle.dx_ast.specs.Syntax.{Expr, Constant, Name, Frame, CallOf, Call, MakeCall, Args, NoArg, AndArg, Stmt, Assigns, Calls, Defines, Includes, Sets, Says, Sequences, Macro, MakeMacro, Stmts, NoStmt, AndStmt}

abbrev pub IsName : Text → Type 0
IsName n = (1 ≤ length n) × (length n ≤ max_name_bytes)

-- ---- constants

-- a vector has 1 to 256 numbers, and a list at most 65,536 elements
abbrev pub HasLawfulShape : Const → Type 0
HasLawfulShape const.Null = Unit {0}
HasLawfulShape (const.Int n) = Unit {0}
HasLawfulShape (const.Text t) = Unit {0}
HasLawfulShape (const.Vector ns) = (1 ≤ length ns) × (length ns ≤ max_numbers)
HasLawfulShape (const.Ints ns) = length ns ≤ max_elements
HasLawfulShape (const.Vectors width ns) = (1 ≤ width) × (width ≤ max_numbers) × ((count : ℕ) × (count ≤ max_elements) × (length ns ≡ count * width))
HasLawfulShape (const.Texts ts) = length ts ≤ max_elements

pub record IsLawfulConst (c : Const) : Type 0 where
  pub shape : HasLawfulShape c
  pub value : HasLawfulValue c

-- ---- expressions

abbrev pub HasName : Option Text → Type 0
HasName None = ⊥
HasName (Some n) = Unit {0}

abbrev pub IsLawfulArgName : Option Text → Type 0
IsLawfulArgName None = Unit {0}
IsLawfulArgName (Some n) = IsName n

abbrev pub AllNamed : Args → Type 0
AllNamed NoArg = Unit {0}
AllNamed (AndArg n e rest) = HasName n × AllNamed rest

-- where an argument has a name, those behind it have
abbrev pub IsInOrderBy : Option Text → Args → Type 0 → Type 0
IsInOrderBy None rest in_order = in_order
IsInOrderBy (Some n) rest in_order = AllNamed rest

abbrev pub IsInOrder : Args → Type 0
IsInOrder NoArg = Unit {0}
IsInOrder (AndArg n e rest) = IsInOrderBy n rest (IsInOrder rest)

abbrev mutual
  pub IsLawfulExpr : Expr → Type 0
  IsLawfulExpr (Constant c) = IsLawfulConst c
  IsLawfulExpr (Name n) = IsName n
  IsLawfulExpr (Frame v) = Unit {0}
  IsLawfulExpr (CallOf c) = IsLawfulCall c

  pub IsLawfulCall : Call → Type 0
  IsLawfulCall (MakeCall name cache args) = IsName name × (cache ≤ 2) × IsInOrder args × AreLawfulArgs args

  pub AreLawfulArgs : Args → Type 0
  AreLawfulArgs NoArg = Unit {0}
  AreLawfulArgs (AndArg n e rest) = IsLawfulArgName n × IsLawfulExpr e × AreLawfulArgs rest

-- ---- statements

abbrev pub IsCall : Expr → Type 0
IsCall (Constant c) = ⊥
IsCall (Name n) = ⊥
IsCall (Frame v) = ⊥
IsCall (CallOf c) = Unit {0}

-- there is a target, and more than one only of a call
pub record IsLawfulAssign (targets : List Text) (e : Expr) : Type 0 where
  pub some : 1 ≤ length targets
  pub names : All IsName targets
  pub several : 1 < length targets → IsCall e
  pub value : IsLawfulExpr e

abbrev pub IsLawfulDefault : Option Const → Type 0
IsLawfulDefault None = Unit {0}
IsLawfulDefault (Some c) = IsLawfulConst c

abbrev pub IsLawfulParam : Param → Type 0
IsLawfulParam p = IsName p.name × IsLawfulDefault p.default

abbrev pub Differ : List Text → Type 0
Differ [] = Unit {0}
Differ (n ∷ rest) = (has_name n rest ≡ false) × Differ rest

-- at most 64 names, which differ
pub record AreLawfulNames (ns : List Text) : Type 0 where
  pub few : length ns ≤ max_names
  pub names : All IsName ns
  pub differ : Differ ns

-- in the body of a macro there are assignments and calls alone
abbrev pub IsLawfulInBody : Stmt → Type 0
IsLawfulInBody (Assigns targets e) = IsLawfulAssign targets e
IsLawfulInBody (Calls c) = IsLawfulCall c
IsLawfulInBody other = ⊥

abbrev pub IsLawfulBody : Stmts → Type 0
IsLawfulBody NoStmt = Unit {0}
IsLawfulBody (AndStmt s rest) = IsLawfulInBody s × IsLawfulBody rest

abbrev pub IsLawfulMacro : Macro → Type 0
IsLawfulMacro (MakeMacro name params results body) = IsName name × AreLawfulNames (map param_name params) × All IsLawfulParam params × AreLawfulNames results × IsLawfulBody body

-- an integer or a variable of the sequencer
abbrev pub IsFrameValue : Expr → Type 0
IsFrameValue (Constant (const.Int n)) = Unit {0}
IsFrameValue (Frame v) = Unit {0}
IsFrameValue other = ⊥

abbrev pub IsLawful : Stmt → Type 0
IsLawful (Assigns targets e) = IsLawfulAssign targets e
IsLawful (Calls c) = IsLawfulCall c
IsLawful (Defines m) = IsLawfulMacro m
IsLawful (Includes name) = Unit {0}
IsLawful (Sets v e) = IsFrameValue e
IsLawful (Says w) = Unit {0}
IsLawful (Sequences c) = IsLawfulCall c

abbrev pub AreLawful : Stmts → Type 0
AreLawful NoStmt = Unit {0}
AreLawful (AndStmt s rest) = IsLawful s × AreLawful rest
