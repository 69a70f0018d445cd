-- What the names of a script mean, and the effects of a statement.
use Rattle.std.specs.Prelude.{ℕ, zero, suc, ℤ, List, [], ◌∷◌, ◌++◌, length, drop, Option, Some, None, Bool, true, false, nat_lt, if◌then◌else◌}
use Rattle.std.specs.List.{filter}
use Rattle.std.specs.Str.{bytes_eq}
use Rattle.dx_base.specs.declared.function.Function.{Function}
use Rattle.dx_base.specs.declared.function.Function.TheVariants as function
use Rattle.dx_ast.specs.declared.constants.Const.{Const}
use Rattle.dx_ast.specs.declared.constants.Const.TheVariants as const
use Rattle.dx_ast.specs.declared.sequencing.FrameVar.{FrameVar}
use Rattle.dx_ast.specs.declared.sequencing.FrameVar.TheVariants as frame
use Rattle.dx_ast.specs.declared.sequencing.Frames.{Frames}
use Rattle.dx_ast.specs.declared.statements.Param.{Param}
use Rattle.dx_ast.specs.Classes.{Text}
use Rattle.dx_ast.specs.Table.{row_of}
use Rattle.dx_ast.specs.Syntax.{Expr, Constant, Name, Frame, CallOf, Call, MakeCall, Args, NoArg, AndArg, Stmt, Assigns, Calls, Macro, MakeMacro, Stmts, NoStmt, AndStmt}
use Rattle.dx_ast.specs.Limits.{max_macro_steps}
use Rattle.dx_macros.specs.Names.{calls_in, calls_after}
use Rattle.dx_macros.specs.Site.{Step, Spot, next_step, first_target}
use Rattle.dx_macros.specs.Tree.{Place, Tree, ConstantTree, ResultTree, CallTree, TreeCall, Trees, NoTree, AndTree}
use Rattle.dx_macros.specs.Dictionary.{top_text, Macros, Dictionary, callee}
use Rattle.dx_definitions.specs.TopTexts.{TopText, definition}
use Rattle.dx_signatures.specs.Callees.{Callee, Unknown, CallsMacro, CallsFunction}

abbrev pub frame_value : Frames → FrameVar → ℤ
frame_value f frame.Start = f.start
frame_value f frame.End = f.end
frame_value f frame.Delta = f.delta
frame_value f frame.Next = f.next
frame_value f frame.Frame = f.frame

abbrev pub null_tree : Tree
null_tree = ConstantTree const.Null

-- what each name means
abbrev pub Scope : Type 0
Scope = Text → Tree

-- an unbound name is NULL
abbrev pub no_scope : Scope
no_scope name = null_tree

-- what an expression comes to: its results, by number from 0, and the calls in it that are kept, in order
pub record Expanded : Type 0 where
  pub result : ℕ → Tree
  pub kept : List CallTree

-- one result
abbrev pub only : Tree → ℕ → Tree
only t zero = t
only t (suc n) = null_tree

abbrev pub plainly : Tree → Expanded
plainly t = record { result = only t; kept = [] }

-- ---- arguments

-- an argument given: its name, if it has one, and its tree
pub record Given : Type 0 where
  pub name : Option Text
  pub tree : Tree

pub record ArgsExpanded : Type 0 where
  pub given : List Given
  pub kept : List CallTree

abbrev pub is_named : Option Text → Text → Bool
is_named None p = false
is_named (Some n) p = bytes_eq n p

-- the tree of the argument that names p
abbrev pub given_by_name : List Given → Text → Option Tree
given_by_name [] p = None
given_by_name (g ∷ rest) p = if is_named g.name p then Some g.tree else given_by_name rest p

abbrev pub unnamed : Option Text → Tree → Option Tree
unnamed None t = Some t
unnamed (Some n) t = None

-- the tree of argument number i, where that is given by its place
abbrev pub given_by_place : List Given → ℕ → Option Tree
given_by_place [] i = None
given_by_place (g ∷ rest) zero = unnamed g.name g.tree
given_by_place (g ∷ rest) (suc i) = given_by_place rest i

abbrev pub or_else : {A : Type 0} → Option A → Option A → Option A
or_else (Some a) b = Some a
or_else None b = b

abbrev pub or_tree : Option Tree → Tree → Tree
or_tree (Some t) u = t
or_tree None u = u

-- what is given for parameter number i, called p
abbrev pub given_for : List Given → ℕ → Text → Option Tree
given_for gs i p = or_else (given_by_place gs i) (given_by_name gs p)

-- the arguments of a function: for each named parameter what is given for it, or NULL; behind them the further arguments,
-- as many as may follow
abbrev pub further : ℕ → List Given → Trees
further more [] = NoTree
further zero (g ∷ rest) = NoTree
further (suc more) (g ∷ rest) = AndTree g.tree (further more rest)

abbrev pub inputs : List Text → ℕ → ℕ → List Given → Trees
inputs [] more i gs = further more (drop i gs)
inputs (p ∷ rest) more i gs = AndTree (or_tree (given_for gs i p) null_tree) (inputs rest more (suc i) gs)

abbrev pub default_tree : Option Const → Tree
default_tree (Some c) = ConstantTree c
default_tree None = null_tree

-- ---- scopes

abbrev pub with_name : Text → Tree → Scope → Scope
with_name n t scope = λ name. if bytes_eq n name then t else scope name

-- each target means the result of its place, counted from i
abbrev pub assigned : List Text → ℕ → (ℕ → Tree) → Scope → Scope
assigned [] i result scope = scope
assigned (t ∷ rest) i result scope = assigned rest (suc i) result (with_name t (result i) scope)

-- a parameter means what the call gives for it, or else its default, or else NULL
abbrev pub with_params : List Param → ℕ → List Given → Scope → Scope
with_params [] i gs scope = scope
with_params (p ∷ rest) i gs scope =
    with_params rest (suc i) gs (with_name p.name (or_tree (given_for gs i p.name) (default_tree p.default)) scope)

-- ---- calls

-- what a text is expanded under: how a call of a macro is, and what is the same everywhere
pub record Under : Type 0 where
  pub macros : Macros
  pub frames : Frames
  pub enter : Macro → List Given → Spot → Expanded

abbrev pub spot_of_call : Spot → Step → Spot
spot_of_call spot step = record { base = spot.base ++ step ∷ []; path = spot.path ++ step ∷ [] }

abbrev pub function_result : ℕ → CallTree → ℕ → Tree
function_result results c i = if nat_lt i results then ResultTree i c else null_tree

abbrev pub is_effect : Function → Bool
is_effect (function.Effect e) = true
is_effect other = false

-- a call is kept where it counts beside what takes its results: where it is an effect
abbrev pub is_kept : Function → Bool
is_kept f = is_effect f

abbrev pub own_kept : Function → CallTree → List CallTree
own_kept f c = if is_kept f then c ∷ [] else []

-- a call: what its arguments keep, then what the macro's body keeps, or the call itself
abbrev pub call_expanded : Under → Spot → Step → ℕ → Callee → ArgsExpanded → Expanded
call_expanded u spot step cache Unknown args = record { result = only null_tree; kept = args.kept }
call_expanded u spot step cache (CallsMacro m) args =
    let inner = u.enter m args.given (spot_of_call spot step) in
    record { result = inner.result; kept = args.kept ++ inner.kept }
call_expanded u spot step cache (CallsFunction f) args =
    let place : Place = record { site = spot.base ++ step ∷ []; path = spot.path; cache = cache } in
    let c = TreeCall f place (inputs (row_of f).params (row_of f).more 0 args.given) in
    record { result = function_result (row_of f).results c; kept = args.kept ++ own_kept f c }

-- `before` are the calls that stand before in the same text
abbrev mutual
  pub expand_expr : Under → Spot → Scope → List Text → Expr → Expanded
  expand_expr u spot scope before (Constant c) = plainly (ConstantTree c)
  expand_expr u spot scope before (Name n) = plainly (scope n)
  expand_expr u spot scope before (Frame v) = plainly (ConstantTree (const.Int (frame_value u.frames v)))
  expand_expr u spot scope before (CallOf c) = expand_call u spot scope before c

  pub expand_call : Under → Spot → Scope → List Text → Call → Expanded
  expand_call u spot scope before (MakeCall name cache args) =
      call_expanded u spot (next_step name before) cache (callee u.macros name) (expand_args u spot scope (before ++ name ∷ []) args)

  -- of a call in an argument the first result counts
  pub expand_args : Under → Spot → Scope → List Text → Args → ArgsExpanded
  expand_args u spot scope before NoArg = record { given = []; kept = [] }
  expand_args u spot scope before (AndArg n e rest) =
      let first = expand_expr u spot scope before e in
      let others = expand_args u spot scope (before ++ calls_in e) rest in
      record { given = record { name = n; tree = first.result 0 } ∷ others.given; kept = first.kept ++ others.kept }

-- ---- macro bodies: each statement in the scope that the earlier ones made

abbrev pub expand_statement : Under → Spot → Scope → List Text → Stmt → Expanded
expand_statement u spot scope before (Calls c) = expand_call u spot scope before c
expand_statement u spot scope before (Assigns targets e) = expand_expr u spot scope before e
expand_statement u spot scope before other = plainly null_tree

abbrev pub scope_after : Scope → Stmt → (ℕ → Tree) → Scope
scope_after scope (Assigns targets e) result = assigned targets 0 result scope
scope_after scope other result = scope

-- the results of a macro are what their names mean behind its last statement
abbrev pub results_in : List Text → Scope → ℕ → Tree
results_in [] scope i = null_tree
results_in (r ∷ rest) scope zero = scope r
results_in (r ∷ rest) scope (suc i) = results_in rest scope i

abbrev pub before_body : List CallTree → Expanded → Expanded
before_body kept rest = record { result = rest.result; kept = kept ++ rest.kept }

abbrev pub expand_body : Under → Spot → List Text → Scope → List Text → Stmts → Expanded
expand_body u spot results scope before NoStmt = record { result = results_in results scope; kept = [] }
expand_body u spot results scope before (AndStmt s rest) =
    let here = expand_statement u spot scope before s in
    before_body here.kept (expand_body u spot results (scope_after scope s here.result) (calls_after before s) rest)

-- how calls of macros are expanded where that many macro steps are left, at a place whose names mean `top`
abbrev pub enter_macro : Macros → Frames → Scope → ℕ → Macro → List Given → Spot → Expanded
enter_macro macros frames top zero m gs spot = plainly null_tree
enter_macro macros frames top (suc left) (MakeMacro name params results body) gs spot =
    let u : Under = record { macros = macros; frames = frames; enter = enter_macro macros frames top left } in
    expand_body u spot results (with_params params 0 gs top) [] body

-- ---- the top level, where sites have at most so many macro steps

abbrev pub under_top : ℕ → Macros → Frames → Scope → Under
under_top steps macros frames top = record { macros = macros; frames = frames; enter = enter_macro macros frames top steps }

abbrev pub top_spot : List Text → Spot
top_spot targets = record { base = first_target targets; path = [] }

abbrev pub expand_within : ℕ → Macros → Frames → Scope → TopText → Expanded
expand_within steps macros frames top t = expand_expr (under_top steps macros frames top) (top_spot t.targets) top [] t.value

-- a name at a place means its last definition before that place, read as the names before it are
abbrev pub scope_within : ℕ → Macros → Frames → List TopText → ℕ → Scope
scope_within steps macros frames definitions zero = no_scope
scope_within steps macros frames definitions (suc i) =
    let top = scope_within steps macros frames definitions i in
    let t = definition definitions i in
    assigned t.targets 0 (expand_within steps macros frames top t).result top

-- definitions that are read keep no call
abbrev pub kept_of : ℕ → Dictionary → Frames → Option TopText → List CallTree
kept_of steps d frames None = []
kept_of steps d frames (Some t) = (expand_within steps d.macros frames (scope_within steps d.macros frames d.definitions (length d.definitions)) t).kept

-- the calls that a statement keeps, in order
abbrev pub kept_within : ℕ → Dictionary → Frames → Stmt → List CallTree
kept_within steps d frames s = kept_of steps d frames (top_text s)

abbrev pub function_of : CallTree → Function
function_of (TreeCall f place args) = f

abbrev pub effects_among : List CallTree → List CallTree
effects_among calls = filter (λ c. is_effect (function_of c)) calls

abbrev pub effects_within : ℕ → Dictionary → Frames → Stmt → List CallTree
effects_within steps d frames s = effects_among (kept_within steps d frames s)

-- the effects of a statement, in order
abbrev pub effects : Dictionary → Frames → Stmt → List CallTree
effects d frames s = effects_within max_macro_steps d frames s
