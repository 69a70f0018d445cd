-- The cache attributes of all calls that a lawful statement comes to are at most 2.
use Rattle.std.proofs.Common.{◌≡◌, ◌≤◌, ℕ, zero, suc, List, [], ◌∷◌, ◌++◌, Option, Some, None, Bool, true, false, refl, subst}
use Rattle.std.specs.Prelude.{drop, nat_lt, if◌then◌else◌}
use Rattle.std.specs.Str.{bytes_eq}
use Rattle.dx_base.specs.declared.function.Function.{Function}
use Rattle.dx_ast.specs.declared.constants.Const.{Const}
use Rattle.dx_ast.specs.declared.sequencing.Frames.{Frames}
use Rattle.dx_ast.specs.declared.statements.Param.{Param}
use Rattle.dx_ast.specs.Classes.{Text}
use Rattle.dx_ast.specs.Lawful.{IsLawfulExpr, IsLawfulCall, AreLawfulArgs, IsLawfulMacro, IsLawfulInBody, IsLawfulBody, IsLawful}
use Rattle.dx_ast.specs.Limits.{max_macro_steps}
use Rattle.dx_ast.specs.Table.{row_of, function_named}
use Rattle.dx_ast.specs.Syntax.{Expr, Constant, Name, Frame, CallOf, Call, MakeCall, Args, NoArg, AndArg, Stmt, Assigns, Calls, Defines, Includes, Sets, Says, Sequences, Macro, MakeMacro, Stmts, NoStmt, AndStmt}
use Rattle.dx_definitions.specs.TopTexts.{TopText, definition}
use Rattle.dx_macros.specs.Dictionary.{Macros, Dictionary, callee, empty, with_macro, defining, with_definition, macro_name}
use Rattle.dx_macros.specs.Expansion.{Scope, Expanded, only, null_tree, Given, ArgsExpanded, is_named, given_by_name, unnamed, given_by_place, or_else, or_tree, given_for, further, inputs, default_tree, with_name, assigned, with_params, Under, spot_of_call, function_result, is_kept, own_kept, call_expanded, expand_expr, expand_call, expand_args, expand_statement, scope_after, results_in, expand_body, enter_macro, under_top, top_spot, expand_within, scope_within, kept_of, effects_among, is_effect, function_of, effects}
use Rattle.dx_macros.specs.Names.{calls_in, calls_after}
use Rattle.dx_macros.specs.Site.{Step, Spot, next_step}
use Rattle.dx_macros.specs.Tree.{Place, Tree, ConstantTree, ResultTree, CallTree, TreeCall}
use Rattle.dx_performing.specs.SoundEntries as sound
use Rattle.dx_performing.specs.SoundEntries.{IsLawfulTree, AreLawfulTrees, AreLawfulCalls}
use Rattle.dx_signatures.specs.Callees.{Callee, Unknown, CallsMacro, CallsFunction, callee_by}

-- ---- dictionaries

abbrev pub AreLawfulMacros : Macros → Type 0
AreLawfulMacros macros = (name : Text) (m : Macro) → macros name ≡ Some m → IsLawfulMacro m

abbrev pub AreLawfulDefinitions : List TopText → Type 0
AreLawfulDefinitions [] = Unit {0}
AreLawfulDefinitions (t ∷ ts) = IsLawfulExpr t.value × AreLawfulDefinitions ts

pub record IsLawfulDictionary (d : Dictionary) : Type 0 where
  pub macros : AreLawfulMacros d.macros
  pub definitions : AreLawfulDefinitions d.definitions

pub empty_lawful : IsLawfulDictionary empty
empty_lawful = record { macros = λ name m e. absurd cc; definitions = tt }

macros_lawful : (m : Macro) (macros : Macros) → IsLawfulMacro m → AreLawfulMacros macros → AreLawfulMacros (with_macro m macros)
macros_lawful m macros h all name n e = by (bytes_eq (macro_name m) name) e
  where
    by : (b : Bool) → (if b then Some m else macros name) ≡ Some n → IsLawfulMacro n
    by true q = let same : m ≡ n = cc in subst IsLawfulMacro same h
    by false q = all name n q

pub defining_lawful : (m : Macro) (d : Dictionary) → IsLawfulMacro m → IsLawfulDictionary d → IsLawfulDictionary (defining m d)
defining_lawful m d h all = record { macros = macros_lawful m d.macros h all.macros; definitions = all.definitions }

definitions_lawful : (t : TopText) (ts : List TopText) → IsLawfulExpr t.value → AreLawfulDefinitions ts → AreLawfulDefinitions (ts ++ t ∷ [])
definitions_lawful t [] h all = (h, tt)
definitions_lawful t (u ∷ ts) h all = (all.0, definitions_lawful t ts h all.1)

pub with_definition_lawful : (t : TopText) (d : Dictionary) → IsLawfulExpr t.value → IsLawfulDictionary d → IsLawfulDictionary (with_definition t d)
with_definition_lawful t d h all = record { macros = all.macros; definitions = definitions_lawful t d.definitions h all.definitions }

-- ---- arguments

abbrev MayBeLawful : Option Tree → Type 0
MayBeLawful None = Unit {0}
MayBeLawful (Some t) = IsLawfulTree t

abbrev AreLawfulGiven : List Given → Type 0
AreLawfulGiven [] = Unit {0}
AreLawfulGiven (g ∷ gs) = IsLawfulTree g.tree × AreLawfulGiven gs

this_or : (b : Bool) (t u : Option Tree) → MayBeLawful t → MayBeLawful u → MayBeLawful (if b then t else u)
this_or true t u p q = p
this_or false t u p q = q

by_name : (gs : List Given) (p : Text) → AreLawfulGiven gs → MayBeLawful (given_by_name gs p)
by_name [] p h = tt
by_name (g ∷ rest) p h = this_or (is_named g.name p) (Some g.tree) (given_by_name rest p) h.0 (by_name rest p h.1)

plain_given : (n : Option Text) (t : Tree) → IsLawfulTree t → MayBeLawful (unnamed n t)
plain_given None t h = h
plain_given (Some n) t h = tt

by_place : (gs : List Given) (i : ℕ) → AreLawfulGiven gs → MayBeLawful (given_by_place gs i)
by_place [] i h = tt
by_place (g ∷ rest) zero h = plain_given g.name g.tree h.0
by_place (g ∷ rest) (suc i) h = by_place rest i h.1

either : (a b : Option Tree) → MayBeLawful a → MayBeLawful b → MayBeLawful (or_else a b)
either (Some t) b p q = p
either None b p q = q

or_this : (o : Option Tree) (t : Tree) → MayBeLawful o → IsLawfulTree t → IsLawfulTree (or_tree o t)
or_this (Some u) t p q = p
or_this None t p q = q

given : (gs : List Given) (i : ℕ) (p : Text) → AreLawfulGiven gs → MayBeLawful (given_for gs i p)
given gs i p h = either (given_by_place gs i) (given_by_name gs p) (by_place gs i h) (by_name gs p h)

dropped : (i : ℕ) (gs : List Given) → AreLawfulGiven gs → AreLawfulGiven (drop i gs)
dropped zero gs h = h
dropped (suc i) [] h = tt
dropped (suc i) (g ∷ gs) h = dropped i gs h.1

further_lawful : (more : ℕ) (gs : List Given) → AreLawfulGiven gs → AreLawfulTrees (further more gs)
further_lawful more [] h = tt
further_lawful zero (g ∷ rest) h = tt
further_lawful (suc more) (g ∷ rest) h = (h.0, further_lawful more rest h.1)

inputs_lawful : (ps : List Text) (more i : ℕ) (gs : List Given) → AreLawfulGiven gs → AreLawfulTrees (inputs ps more i gs)
inputs_lawful [] more i gs h = further_lawful more (drop i gs) (dropped i gs h)
inputs_lawful (p ∷ rest) more i gs h = (or_this (given_for gs i p) null_tree (given gs i p h) tt, inputs_lawful rest more (suc i) gs h)

-- ---- scopes

abbrev AreLawfulResults : (ℕ → Tree) → Type 0
AreLawfulResults result = (n : ℕ) → IsLawfulTree (result n)

abbrev IsLawfulScope : Scope → Type 0
IsLawfulScope scope = (name : Text) → IsLawfulTree (scope name)

one_name : (n : Text) (t : Tree) (scope : Scope) → IsLawfulTree t → IsLawfulScope scope → IsLawfulScope (with_name n t scope)
one_name n t scope h all name = by (bytes_eq n name)
  where
    by : (b : Bool) → IsLawfulTree (if b then t else scope name)
    by true = h
    by false = all name

targets_lawful : (ts : List Text) (i : ℕ) (result : ℕ → Tree) (scope : Scope) → AreLawfulResults result → IsLawfulScope scope → IsLawfulScope (assigned ts i result scope)
targets_lawful [] i result scope h all = all
targets_lawful (t ∷ rest) i result scope h all = targets_lawful rest (suc i) result (with_name t (result i) scope) h (one_name t (result i) scope (h i) all)

default_lawful : (o : Option Const) → IsLawfulTree (default_tree o)
default_lawful (Some c) = tt
default_lawful None = tt

params_lawful : (ps : List Param) (i : ℕ) (gs : List Given) (scope : Scope) → AreLawfulGiven gs → IsLawfulScope scope → IsLawfulScope (with_params ps i gs scope)
params_lawful [] i gs scope h all = all
params_lawful (p ∷ rest) i gs scope h all =
    let t = or_tree (given_for gs i p.name) (default_tree p.default) in
    params_lawful rest (suc i) gs (with_name p.name t scope) h (one_name p.name t scope (or_this (given_for gs i p.name) (default_tree p.default) (given gs i p.name h) (default_lawful p.default)) all)

-- ---- calls

pub record IsLawfulExpanded (x : Expanded) : Type 0 where
  pub result : AreLawfulResults x.result
  pub kept : AreLawfulCalls x.kept

record AreLawfulExpanded (x : ArgsExpanded) : Type 0 where
  given : AreLawfulGiven x.given
  kept : AreLawfulCalls x.kept

record IsLawfulUnder (u : Under) : Type 0 where
  macros : AreLawfulMacros u.macros
  enter : (m : Macro) (gs : List Given) (spot : Spot) → IsLawfulMacro m → AreLawfulGiven gs → IsLawfulExpanded (u.enter m gs spot)

calls_append : (cs ds : List CallTree) → AreLawfulCalls cs → AreLawfulCalls ds → AreLawfulCalls (cs ++ ds)
calls_append [] ds p q = q
calls_append (c ∷ cs) ds p q = (p.0, calls_append cs ds p.1 q)

only_lawful : (t : Tree) → IsLawfulTree t → AreLawfulResults (only t)
only_lawful t h zero = h
only_lawful t h (suc n) = tt

result_lawful : (results : ℕ) (c : CallTree) → sound.IsLawfulCall c → AreLawfulResults (function_result results c)
result_lawful results c h i = by (nat_lt i results)
  where
    by : (b : Bool) → IsLawfulTree (if b then ResultTree i c else null_tree)
    by true = h
    by false = tt

own_lawful : (f : Function) (c : CallTree) → sound.IsLawfulCall c → AreLawfulCalls (own_kept f c)
own_lawful f c h = by (is_kept f)
  where
    by : (b : Bool) → AreLawfulCalls (if b then c ∷ [] else [])
    by true = (h, tt)
    by false = tt

abbrev IsLawfulCallee : Callee → Type 0
IsLawfulCallee Unknown = Unit {0}
IsLawfulCallee (CallsMacro m) = IsLawfulMacro m
IsLawfulCallee (CallsFunction f) = Unit {0}

callee_lawful : (macros : Macros) (name : Text) → AreLawfulMacros macros → IsLawfulCallee (callee macros name)
callee_lawful macros name h = by (macros name) refl (function_named name)
  where
    by : (o : Option Macro) → macros name ≡ o → (f : Option Function) → IsLawfulCallee (callee_by o f)
    by (Some m) e f = h name m e
    by None e None = tt
    by None e (Some f) = tt

call_lawful : (u : Under) (spot : Spot) (step : Step) (cache : ℕ) (to : Callee) (args : ArgsExpanded) → IsLawfulUnder u → cache ≤ 2 → IsLawfulCallee to → AreLawfulExpanded args → IsLawfulExpanded (call_expanded u spot step cache to args)
call_lawful u spot step cache Unknown args under small h a = record { result = only_lawful null_tree tt; kept = a.kept }
call_lawful u spot step cache (CallsMacro m) args under small h a =
    let inner = under.enter m args.given (spot_of_call spot step) h a.given in
    record { result = inner.result; kept = calls_append args.kept (u.enter m args.given (spot_of_call spot step)).kept a.kept inner.kept }
call_lawful u spot step cache (CallsFunction f) args under small h a =
    let place : Place = record { site = spot.base ++ step ∷ []; path = spot.path; cache = cache } in
    let c = TreeCall f place (inputs (row_of f).params (row_of f).more 0 args.given) in
    let is : sound.IsLawfulCall c = (small, inputs_lawful (row_of f).params (row_of f).more 0 args.given a.given) in
    record { result = result_lawful (row_of f).results c is; kept = calls_append args.kept (own_kept f c) a.kept (own_lawful f c is) }

mutual
  expr_lawful : (u : Under) (spot : Spot) (scope : Scope) (before : List Text) (e : Expr) → IsLawfulUnder u → IsLawfulScope scope → IsLawfulExpr e → IsLawfulExpanded (expand_expr u spot scope before e)
  expr_lawful u spot scope before (Constant c) under all h = record { result = only_lawful (ConstantTree c) tt; kept = tt }
  expr_lawful u spot scope before (Name n) under all h = record { result = only_lawful (scope n) (all n); kept = tt }
  expr_lawful u spot scope before (Frame v) under all h = record { result = only_lawful _ tt; kept = tt }
  expr_lawful u spot scope before (CallOf c) under all h = made_lawful u spot scope before c under all h

  made_lawful : (u : Under) (spot : Spot) (scope : Scope) (before : List Text) (c : Call) → IsLawfulUnder u → IsLawfulScope scope → IsLawfulCall c → IsLawfulExpanded (expand_call u spot scope before c)
  made_lawful u spot scope before (MakeCall name cache args) under all h =
      call_lawful u spot (next_step name before) cache (callee u.macros name) (expand_args u spot scope (before ++ name ∷ []) args) under h.1 (callee_lawful u.macros name under.macros) (args_lawful u spot scope (before ++ name ∷ []) args under all h.3)

  args_lawful : (u : Under) (spot : Spot) (scope : Scope) (before : List Text) (args : Args) → IsLawfulUnder u → IsLawfulScope scope → AreLawfulArgs args → AreLawfulExpanded (expand_args u spot scope before args)
  args_lawful u spot scope before NoArg under all h = record { given = tt; kept = tt }
  args_lawful u spot scope before (AndArg n e rest) under all h =
      let first = expr_lawful u spot scope before e under all h.1 in
      let others = args_lawful u spot scope (before ++ calls_in e) rest under all h.2 in
      record {
        given = (first.result 0, others.given);
        kept = calls_append (expand_expr u spot scope before e).kept (expand_args u spot scope (before ++ calls_in e) rest).kept first.kept others.kept;
      }

-- ---- bodies

statement_lawful : (u : Under) (spot : Spot) (scope : Scope) (before : List Text) (s : Stmt) → IsLawfulUnder u → IsLawfulScope scope → IsLawfulInBody s → IsLawfulExpanded (expand_statement u spot scope before s)
statement_lawful u spot scope before (Calls c) under all h = made_lawful u spot scope before c under all h
statement_lawful u spot scope before (Assigns targets e) under all h = expr_lawful u spot scope before e under all h.value
statement_lawful u spot scope before (Defines m) under all h = absurd h
statement_lawful u spot scope before (Includes n) under all h = absurd h
statement_lawful u spot scope before (Sets v e) under all h = absurd h
statement_lawful u spot scope before (Says w) under all h = absurd h
statement_lawful u spot scope before (Sequences c) under all h = absurd h

after_lawful : (scope : Scope) (s : Stmt) (result : ℕ → Tree) → IsLawfulScope scope → AreLawfulResults result → IsLawfulScope (scope_after scope s result)
after_lawful scope (Assigns targets e) result all h = targets_lawful targets 0 result scope h all
after_lawful scope (Calls c) result all h = all
after_lawful scope (Defines m) result all h = all
after_lawful scope (Includes n) result all h = all
after_lawful scope (Sets v e) result all h = all
after_lawful scope (Says w) result all h = all
after_lawful scope (Sequences c) result all h = all

results_lawful : (rs : List Text) (scope : Scope) → IsLawfulScope scope → AreLawfulResults (results_in rs scope)
results_lawful [] scope all i = tt
results_lawful (r ∷ rest) scope all zero = all r
results_lawful (r ∷ rest) scope all (suc i) = results_lawful rest scope all i

body_lawful : (u : Under) (spot : Spot) (results : List Text) (scope : Scope) (before : List Text) (ss : Stmts) → IsLawfulUnder u → IsLawfulScope scope → IsLawfulBody ss → IsLawfulExpanded (expand_body u spot results scope before ss)
body_lawful u spot results scope before NoStmt under all h = record { result = results_lawful results scope all; kept = tt }
body_lawful u spot results scope before (AndStmt s rest) under all h =
    let here = expand_statement u spot scope before s in
    let one = statement_lawful u spot scope before s under all h.0 in
    let others = body_lawful u spot results (scope_after scope s here.result) (calls_after before s) rest under (after_lawful scope s here.result all one.result) h.1 in
    record {
      result = others.result;
      kept = calls_append here.kept (expand_body u spot results (scope_after scope s here.result) (calls_after before s) rest).kept one.kept others.kept;
    }

enter_lawful : (macros : Macros) (frames : Frames) (top : Scope) → AreLawfulMacros macros → IsLawfulScope top → (left : ℕ) (m : Macro) (gs : List Given) (spot : Spot) → IsLawfulMacro m → AreLawfulGiven gs → IsLawfulExpanded (enter_macro macros frames top left m gs spot)
enter_lawful macros frames top all names zero m gs spot h g = record { result = only_lawful null_tree tt; kept = tt }
enter_lawful macros frames top all names (suc left) (MakeMacro name params results body) gs spot h g =
    let u : Under = record { macros = macros; frames = frames; enter = enter_macro macros frames top left } in
    body_lawful u spot results (with_params params 0 gs top) [] body
    (record { macros = all; enter = λ m' gs' spot' h' g'. enter_lawful macros frames top all names left m' gs' spot' h' g' })
    (params_lawful params 0 gs top g names) h.4

-- ---- the top level

abbrev IsLawfulText : TopText → Type 0
IsLawfulText t = IsLawfulExpr t.value

within_lawful : (steps : ℕ) (macros : Macros) (frames : Frames) (top : Scope) (t : TopText) → AreLawfulMacros macros → IsLawfulScope top → IsLawfulText t → IsLawfulExpanded (expand_within steps macros frames top t)
within_lawful steps macros frames top t all names h =
    expr_lawful (under_top steps macros frames top) (top_spot t.targets) top [] t.value
    (record { macros = all; enter = λ m gs spot h' g'. enter_lawful macros frames top all names steps m gs spot h' g' }) names h

-- past the last definition there is none, and it has no call
definition_lawful : (steps : ℕ) (macros : Macros) (frames : Frames) (top : Scope) (ts : List TopText) (i : ℕ) → AreLawfulMacros macros → IsLawfulScope top → AreLawfulDefinitions ts → IsLawfulExpanded (expand_within steps macros frames top (definition ts i))
definition_lawful steps macros frames top [] i all names h = record { result = only_lawful _ tt; kept = tt }
definition_lawful steps macros frames top (t ∷ ts) zero all names h = within_lawful steps macros frames top t all names h.0
definition_lawful steps macros frames top (t ∷ ts) (suc i) all names h = definition_lawful steps macros frames top ts i all names h.1

scope_lawful : (steps : ℕ) (macros : Macros) (frames : Frames) (ts : List TopText) → AreLawfulMacros macros → AreLawfulDefinitions ts → (i : ℕ) → IsLawfulScope (scope_within steps macros frames ts i)
scope_lawful steps macros frames ts all h zero = λ name. tt
scope_lawful steps macros frames ts all h (suc i) =
    let top = scope_within steps macros frames ts i in
    let names = scope_lawful steps macros frames ts all h i in
    let t = definition ts i in
    targets_lawful t.targets 0 (expand_within steps macros frames top t).result top (definition_lawful steps macros frames top ts i all names h).result names

kept_lawful : (b : Bool) (c : CallTree) (cs : List CallTree) → sound.IsLawfulCall c → AreLawfulCalls cs → AreLawfulCalls (if b then c ∷ cs else cs)
kept_lawful true c cs h all = (h, all)
kept_lawful false c cs h all = all

filtered_lawful : (cs : List CallTree) → AreLawfulCalls cs → AreLawfulCalls (effects_among cs)
filtered_lawful [] h = tt
filtered_lawful (c ∷ cs) h = kept_lawful (is_effect (function_of c)) c (effects_among cs) h.0 (filtered_lawful cs h.1)

text_lawful : (d : Dictionary) (frames : Frames) (t : TopText) → IsLawfulDictionary d → IsLawfulText t → AreLawfulCalls (effects_among (kept_of max_macro_steps d frames (Some t)))
text_lawful d frames t all h =
    let names = scope_lawful max_macro_steps d.macros frames d.definitions all.macros all.definitions _ in
    filtered_lawful _ (within_lawful max_macro_steps d.macros frames _ t all.macros names h).kept

pub effects_lawful : (d : Dictionary) (frames : Frames) (s : Stmt) → IsLawfulDictionary d → IsLawful s → AreLawfulCalls (effects d frames s)
effects_lawful d frames (Assigns targets e) all h = text_lawful d frames (record { targets = targets; value = e }) all h.value
effects_lawful d frames (Calls c) all h = text_lawful d frames (record { targets = []; value = CallOf c }) all h
effects_lawful d frames (Sequences c) all h = text_lawful d frames (record { targets = []; value = CallOf c }) all h
effects_lawful d frames (Defines m) all h = tt
effects_lawful d frames (Includes n) all h = tt
effects_lawful d frames (Sets v e) all h = tt
effects_lawful d frames (Says w) all h = tt
