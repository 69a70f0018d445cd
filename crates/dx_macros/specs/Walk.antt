-- The walk of a statement before its execution, and its first static fault.
use Rattle.std.specs.Prelude.{slice_index_or, slice_set, replicate, ℕ, zero, suc, List, [], ◌∷◌, ◌++◌, length, Option, Some, None, Bool, true, false, if◌then◌else◌}
use Rattle.dx_ast.specs.Classes.{Text}
use Rattle.dx_ast.specs.Syntax.{Expr, Constant, Name, Frame, CallOf, Call, MakeCall, Args, NoArg, AndArg, Stmt, Assigns, Calls, Macro, MakeMacro, Stmts, NoStmt, AndStmt}
use Rattle.dx_ast.specs.Limits.{max_macro_steps}
use Rattle.dx_signatures.specs.declared.fault.StaticFault.{StaticFault}
use Rattle.dx_base.specs.NameLists.{has}
use Rattle.dx_macros.specs.Names.{calls_in, calls_after, names_after}
use Rattle.dx_macros.specs.Site.{Step, next_step, first_target}
use Rattle.dx_macros.specs.Dictionary.{top_text, Macros, Dictionary, callee}
use Rattle.dx_definitions.specs.TopTexts.{TopText, definition}
use Rattle.dx_signatures.specs.Callees.{Callee, Unknown, CallsMacro, CallsFunction, param_names}
use Rattle.dx_signatures.specs.Faults.{arg_names, fault_of_call}

-- the calls counted so far, and which definitions were read so far
pub record Walk : Type 0 where
  pub calls : ℕ
  pub read : List Bool

-- the walk goes on, or has come to the first fault
pub data Walked : Type 0 where
  Goes : Walk → Walked
  Faulty : (site : List Step) → StaticFault → Walked

abbrev pub and_then : Walked → (Walk → Walked) → Walked
and_then (Goes w) go = go w
and_then (Faulty site f) go = Faulty site f

-- the call is counted, or ends the walk
abbrev pub walked_by : Option StaticFault → List Step → Walk → Walked
walked_by (Some f) site w = Faulty site f
walked_by None site w = Goes (record { calls = suc w.calls; read = w.read })

-- ---- the walk of a text

-- what a text is walked under: the macros, how many macro steps are left, and how a macro's body is walked
pub record WalkUnder : Type 0 where
  pub macros : Macros
  pub left : ℕ
  pub enter : Macro → List Step → Walk → Walked

-- how a name is read
abbrev pub Reader : Type 0
Reader = Text → Walk → Walked

abbrev pub enter_callee : WalkUnder → List Step → Callee → Walk → Walked
enter_callee u base Unknown w = Goes w
enter_callee u base (CallsMacro m) w = u.enter m base w
enter_callee u base (CallsFunction f) w = Goes w

-- `base` are the steps that lead to the text, `before` the calls that stand before in it
abbrev mutual
  -- first the call itself is counted and its fault looked for; then come its arguments in order, and last the body of a called macro
  pub walk_call : WalkUnder → List Step → Reader → List Text → ℕ → Call → Walk → Walked
  walk_call u base read before targets (MakeCall name cache args) w =
      let step = next_step name before in
      let c = callee u.macros name in
      and_then (walked_by (fault_of_call w.calls c u.left (arg_names args) targets) (base ++ step ∷ []) w)
      (λ w1. and_then (walk_args u base read (before ++ name ∷ []) args w1)
      (λ w2. enter_callee u (base ++ step ∷ []) c w2))

  pub walk_expr : WalkUnder → List Step → Reader → List Text → ℕ → Expr → Walk → Walked
  walk_expr u base read before targets (Constant c) w = Goes w
  walk_expr u base read before targets (Name n) w = read n w
  walk_expr u base read before targets (Frame v) w = Goes w
  walk_expr u base read before targets (CallOf c) w = walk_call u base read before targets c w

  pub walk_args : WalkUnder → List Step → Reader → List Text → Args → Walk → Walked
  walk_args u base read before NoArg w = Goes w
  walk_args u base read before (AndArg n e rest) w =
      and_then (walk_expr u base read before 0 e w) (λ w1. walk_args u base read (before ++ calls_in e) rest w1)

-- the first where b is true, else the second
abbrev pub pick : Bool → (Walk → Walked) → (Walk → Walked) → Walk → Walked
pick true a b = a
pick false a b = b

-- ---- the body of a macro

-- a name of the body, or one that is read at the top level
abbrev pub beside : List Text → Reader → Reader
beside own top = λ name. pick (has own name) Goes (top name)

abbrev pub read_all : Reader → List Text → Walk → Walked
read_all read [] w = Goes w
read_all read (n ∷ rest) w = and_then (read n w) (λ w1. read_all read rest w1)

abbrev pub walk_statement : WalkUnder → List Step → Reader → List Text → Stmt → Walk → Walked
walk_statement u base read before (Calls c) w = walk_call u base read before 0 c w
walk_statement u base read before (Assigns targets e) w = walk_expr u base read before (length targets) e w
walk_statement u base read before other w = Goes w

-- statement by statement, and then the macro's results are read; `own` are its parameters and what it assigned
abbrev pub walk_body : WalkUnder → List Step → Reader → List Text → List Text → List Text → Stmts → Walk → Walked
walk_body u base top results own before NoStmt w = read_all (beside own top) results w
walk_body u base top results own before (AndStmt s rest) w =
    and_then (walk_statement u base (beside own top) before s w)
    (λ w1. walk_body u base top results (names_after own s) (calls_after before s) rest w1)

-- how a macro's body is walked where that many macro steps are left
abbrev pub walk_macro : Macros → Reader → ℕ → Macro → List Step → Walk → Walked
walk_macro macros top zero m base w = Goes w
walk_macro macros top (suc left) (MakeMacro name params results body) base w =
    let u : WalkUnder = record { macros = macros; left = left; enter = walk_macro macros top left } in
    walk_body u base top results (param_names params) [] body w

-- ---- the top level

abbrev pub walk_at_top : Macros → Reader → WalkUnder
walk_at_top macros top = record { macros = macros; left = max_macro_steps; enter = walk_macro macros top max_macro_steps }

abbrev pub walk_text : Macros → Reader → TopText → Walk → Walked
walk_text macros top t w = walk_expr (walk_at_top macros top) (first_target t.targets) top [] (length t.targets) t.value w

-- a definition is walked at its first reading
abbrev pub read_definition : Macros → Reader → ℕ → TopText → Walk → Walked
read_definition macros top i t = λ w.
    pick (slice_index_or w.read i false)
    Goes
    (λ w1. walk_text macros top t (record { calls = w1.calls; read = slice_set w1.read i true }))
    w

-- an unbound name leads nowhere
abbrev pub no_reader : Reader
no_reader name w = Goes w

-- a name at a position means its last definition before that position, which is read as the names before it are
abbrev pub reader_at : Macros → List TopText → ℕ → Reader
reader_at macros definitions zero = no_reader
reader_at macros definitions (suc i) = λ name.
    pick (has (definition definitions i).targets name)
    (read_definition macros (reader_at macros definitions i) i (definition definitions i))
    (reader_at macros definitions i name)

abbrev pub reader_of : Dictionary → Reader
reader_of d = reader_at d.macros d.definitions (length d.definitions)

-- no call is counted, and no definition read
abbrev pub walk_begins : Dictionary → Walk
walk_begins d = record { calls = 0; read = replicate (length d.definitions) false }

abbrev pub walk_of : Dictionary → TopText → Walked
walk_of d t = walk_text d.macros (reader_of d) t (walk_begins d)

-- the walk of a statement; a statement that isn't executed has no calls
abbrev pub walk_by : Dictionary → Option TopText → Walked
walk_by d None = Goes (walk_begins d)
walk_by d (Some t) = walk_of d t

-- the definitions that a walk without a fault read
abbrev pub read_in : Walked → List Bool
read_in (Goes w) = w.read
read_in (Faulty site f) = []

abbrev pub definitions_read : Dictionary → Stmt → List Bool
definitions_read d s = read_in (walk_by d (top_text s))

-- ---- the first static fault

pub record Fault : Type 0 where
  pub site : List Step
  pub fault : StaticFault

abbrev pub fault_in : Walked → Option Fault
fault_in (Goes w) = None
fault_in (Faulty site f) = Some (record { site = site; fault = f })

abbrev pub fault_of_text : Dictionary → Option TopText → Option Fault
fault_of_text d None = None
fault_of_text d (Some t) = fault_in (walk_of d t)

abbrev pub first_fault : Dictionary → Stmt → Option Fault
first_fault d s = fault_of_text d (top_text s)
