-- What has so many calls of its own is made of parts that have theirs.
use Rattle.std.proofs.Common.{◌≡◌, ◌∙◌, ◌++◌, ℕ, zero, suc, ◌<◌, ◌≤◌, ◌+◌, List, [], ◌∷◌, length, get_or, drop, Option, Some, None, Bool, true, false, refl, sym, ap, ap₂, subst, arith}
use Rattle.std.specs.Prelude.{nat_le, IfSome, if◌then◌else◌}
use Rattle.std.proofs.lemmas.Bool.{lt-leb}
use Rattle.dx_ast.specs.Classes.{Text}
use Rattle.dx_ast.specs.declared.constants.Const.{Const}
use Rattle.dx_ast.specs.declared.sequencing.FrameVar.{FrameVar}
use Rattle.dx_ast.specs.declared.expressions.Arg.{Arg, out-Arg}
use Rattle.dx_ast.specs.declared.expressions.Call.{Call, out-Call}
use Rattle.dx_ast.specs.declared.statements.Stmt.{Stmt}
use Rattle.dx_ast.specs.declared.statements.MacroDef.{MacroDef, out-MacroDef}
use Rattle.dx_ast.specs.Syntax as plain
use Rattle.dx_ast.specs.Plain.{plain_expr, plain_call, plain_args, plain_macro, plain_stmt, plain_stmts}
use Rattle.dx_ast.proofs.PlainLaws.{plain_call_out, plain_macro_out}
use Rattle.dx_base.specs.NameLists.{has}
use Rattle.dx_macros.specs.Dictionary.{Macros, callee}
use Rattle.dx_macros.specs.Names.{calls_in, calls_after, names_after}
use Rattle.dx_macros.specs.Site.{Step, next_step}
use Rattle.dx_macros.specs.Walk.{Walk, Walked, Goes, and_then, walked_by, Reader, beside, pick, read_all, enter_callee, walk_args, walk_expr, walk_statement, walk_body}
use Rattle.dx_signatures.specs.Callees.{Callee, Unknown, CallsMacro, CallsFunction, param_names}
use Rattle.dx_signatures.specs.Faults.{arg_names, fault_of_call, fault_of_callee}
use Rattle.dx_signatures.specs.declared.fault.StaticFault.{StaticFault}
use Rattle.dx_signatures.specs.declared.fault.StaticFault.TheVariants as fault
use Rattle.dx_checked.specs.Own.{Ahead, Fits, NamesFit, under, ExprFits, CallFits, ArgsFit, CalleeFits, StatementFits, BodyFits}

pub some_map : {P Q : ℕ → Type 0} (o : Option ℕ) → ((n : ℕ) → P n → Q n) → IfSome o P → IfSome o Q
some_map None f h = h
some_map (Some n) f h = f n h

-- ---- walks, one after the other

module _ (ahead : Ahead) (k : ℕ) where
  pub nothing : Fits ahead k 0 Goes
  nothing w len room = (w, refl, refl, omega arith)

  pub then_fits : (m n : ℕ) (f g : Walk → Walked) → Fits ahead k m f → Fits ahead k n g → Fits ahead k (m + n) (λ w. and_then (f w) g)
  then_fits m n f g first second w len room =
      let a = first w len (omega (arith, room)) in
      let b = second a.0 (a.2 ∙ len) (let le = a.3 in omega (arith, room, le)) in
      (b.0, ap (λ x. and_then x g) a.1 ∙ b.1, b.2 ∙ a.2, (let le = a.3 in let more = b.3 in omega (arith, le, more)))

  pub beside_fits : (own : List Text) (top : Reader) → NamesFit ahead k top → NamesFit ahead k (beside own top)
  beside_fits own top fits name = by (has own name)
    where
      by : (b : Bool) → Fits ahead k 0 (pick b Goes (top name))
      by true = nothing
      by false = fits name

  pub all_fit : (read : Reader) → NamesFit ahead k read → (names : List Text) → Fits ahead k 0 (read_all read names)
  all_fit read fits [] = nothing
  all_fit read fits (n ∷ rest) = then_fits 0 0 (read n) (read_all read rest) (fits n) (all_fit read fits rest)

-- ---- one call

below_by : (b : Bool) (o : Option StaticFault) → (if b then Some fault.Calls else o) ≡ None → o ≡ None
below_by true o e = cc
below_by false o e = e

pub call_sound : (calls left targets : ℕ) (c : Callee) (names : List (Option Text)) → fault_of_call calls c left names targets ≡ None → fault_of_callee c left names targets ≡ None
call_sound calls left targets c names e = below_by (nat_le 65536 calls) (fault_of_callee c left names targets) e

pub one_call : (ahead : Ahead) (k left targets : ℕ) (c : Callee) (names : List (Option Text)) (site : List Step) → fault_of_callee c left names targets ≡ None → Fits ahead k 1 (λ w. walked_by (fault_of_call w.calls c left names targets) site w)
one_call ahead k left targets c names site e w len room =
    let below : w.calls < 65536 = omega (arith, room) in
    let none : fault_of_call w.calls c left names targets ≡ None = ap (λ b. if b then Some fault.Calls else fault_of_callee c left names targets) (lt-leb 65536 w.calls below) ∙ e in
    (record { calls = suc w.calls; read = w.read }, ap (λ o. walked_by o site w) none, refl, omega arith)

module _ (macros : Macros) (left : ℕ) where
  plain_call_fits : (targets : ℕ) (name : Text) (cache : ℕ) (args : plain.Args) (m n : ℕ) → fault_of_callee (callee macros name) left (arg_names args) targets ≡ None → ArgsFit macros left args m → CalleeFits macros left (callee macros name) n →
      CallFits macros left targets (plain.MakeCall name cache args) (1 + (m + n))
  plain_call_fits targets name cache args m n e inner entered ahead k top read tops reads base before =
      let u = under macros top left in
      let step = next_step name before in
      let c = callee macros name in
      then_fits ahead k 1 (m + n) (λ w. walked_by (fault_of_call w.calls c left (arg_names args) targets) (base ++ step ∷ []) w)
      (λ w1. and_then (walk_args u base read (before ++ name ∷ []) args w1) (λ w2. enter_callee u (base ++ step ∷ []) c w2))
      (one_call ahead k left targets c (arg_names args) (base ++ step ∷ []) e)
      (then_fits ahead k m n (walk_args u base read (before ++ name ∷ []) args) (enter_callee u (base ++ step ∷ []) c)
      (inner ahead k top read tops reads base (before ++ name ∷ [])) (entered ahead k top tops (base ++ step ∷ [])))

  pub call_fits : (targets : ℕ) (c : Call) (name : Text) (args : List Arg) (m n : ℕ) → name ≡ (out-Call c).name → args ≡ (out-Call c).args → fault_of_callee (callee macros name) left (arg_names (plain_args args)) targets ≡ None →
      ArgsFit macros left (plain_args args) m → CalleeFits macros left (callee macros name) n → CallFits macros left targets (plain_call c) (1 + (m + n))
  call_fits targets c name args m n same these e inner entered =
      subst (λ (x : plain.Call). CallFits macros left targets x (1 + (m + n))) (sym (plain_call_out c ∙ ap₂ (λ (y : Text) (xs : List Arg). plain.MakeCall y (out-Call c).cache (plain_args xs)) (sym same) (sym these)))
      (plain_call_fits targets name (out-Call c).cache (plain_args args) m n e inner entered)

  -- ---- arguments

  pub no_args : ArgsFit macros left plain.NoArg 0
  no_args ahead k top read tops reads base before = nothing ahead k

  arg_more : (a : Arg) (rest : List Arg) (m n : ℕ) → ExprFits macros left 0 (plain_expr (out-Arg a).value) m → ArgsFit macros left (plain_args rest) n → ArgsFit macros left (plain_args (a ∷ rest)) (m + n)
  arg_more a rest m n h t ahead k top read tops reads base before =
      let u = under macros top left in
      let e = plain_expr (out-Arg a).value in
      then_fits ahead k m n (walk_expr u base read before 0 e) (walk_args u base read (before ++ calls_in e) (plain_args rest)) (h ahead k top read tops reads base before) (t ahead k top read tops reads base (before ++ calls_in e))

  pub args_more : (args : List Arg) (i : ℕ) (a : Arg) (m n : ℕ) → i < length args → a ≡ get_or args i a → ExprFits macros left 0 (plain_expr (out-Arg a).value) m → ArgsFit macros left (plain_args (drop (suc i) args)) n →
      ArgsFit macros left (plain_args (drop i args)) (m + n)
  args_more [] i a m n h e s t = absurd (omega arith)
  args_more (x ∷ args) zero a m n h e s t = arg_more x args m n (subst (λ (y : Arg). ExprFits macros left 0 (plain_expr (out-Arg y).value) m) e s) t
  args_more (x ∷ args) (suc i) a m n h e s t = args_more args i a m n (omega (arith, h)) e s t

  pub args_done : (args : List Arg) (i : ℕ) → length args ≤ i → ArgsFit macros left (plain_args (drop i args)) 0
  args_done [] zero h = no_args
  args_done [] (suc i) h = no_args
  args_done (x ∷ args) zero h = absurd (omega (arith, h))
  args_done (x ∷ args) (suc i) h = args_done args i (omega (arith, h))

  -- ---- expressions and statements without a call

  pub constant_fits : (targets : ℕ) (e : plain.Expr) (c : Const) → e ≡ plain.Constant c → ExprFits macros left targets e 0
  constant_fits targets e c is = subst (λ (x : plain.Expr). ExprFits macros left targets x 0) (sym is) (λ ahead k top read tops reads base before. nothing ahead k)

  pub name_fits : (targets : ℕ) (e : plain.Expr) (n : Text) → e ≡ plain.Name n → ExprFits macros left targets e 0
  name_fits targets e n is = subst (λ (x : plain.Expr). ExprFits macros left targets x 0) (sym is) (λ ahead k top read tops reads base before. reads n)

  pub frame_fits : (targets : ℕ) (e : plain.Expr) (v : FrameVar) → e ≡ plain.Frame v → ExprFits macros left targets e 0
  frame_fits targets e v is = subst (λ (x : plain.Expr). ExprFits macros left targets x 0) (sym is) (λ ahead k top read tops reads base before. nothing ahead k)

  -- ---- bodies

  pub body_none : BodyFits macros left plain.NoStmt 0
  body_none ahead k top tops base results own before = all_fit ahead k (beside own top) (beside_fits ahead k own top tops) results

  stmt_more : (s : Stmt) (rest : List Stmt) (m n : ℕ) → StatementFits macros left (plain_stmt s) m → BodyFits macros left (plain_stmts rest) n → BodyFits macros left (plain_stmts (s ∷ rest)) (m + n)
  stmt_more s rest m n h t ahead k top tops base results own before =
      let u = under macros top left in
      then_fits ahead k m n (walk_statement u base (beside own top) before (plain_stmt s)) (walk_body u base top results (names_after own (plain_stmt s)) (calls_after before (plain_stmt s)) (plain_stmts rest))
      (h ahead k top (beside own top) tops (beside_fits ahead k own top tops) base before) (t ahead k top tops base results (names_after own (plain_stmt s)) (calls_after before (plain_stmt s)))

  pub stmts_more : (body : List Stmt) (i : ℕ) (s : Stmt) (m n : ℕ) → i < length body → s ≡ get_or body i s → StatementFits macros left (plain_stmt s) m → BodyFits macros left (plain_stmts (drop (suc i) body)) n →
      BodyFits macros left (plain_stmts (drop i body)) (m + n)
  stmts_more [] i s m n h e q t = absurd (omega arith)
  stmts_more (x ∷ body) zero s m n h e q t = stmt_more x body m n (subst (λ (y : Stmt). StatementFits macros left (plain_stmt y) m) e q) t
  stmts_more (x ∷ body) (suc i) s m n h e q t = stmts_more body i s m n (omega (arith, h)) e q t

  pub stmts_done : (body : List Stmt) (i : ℕ) → length body ≤ i → BodyFits macros left (plain_stmts (drop i body)) 0
  stmts_done [] zero h = body_none
  stmts_done [] (suc i) h = body_none
  stmts_done (x ∷ body) zero h = absurd (omega (arith, h))
  stmts_done (x ∷ body) (suc i) h = stmts_done body i (omega (arith, h))

  -- ---- what is called

  pub unknown_fits : CalleeFits macros left Unknown 0
  unknown_fits ahead k top tops base = nothing ahead k

  pub function_fits : (f : _) → CalleeFits macros left (CallsFunction f) 0
  function_fits f ahead k top tops base = nothing ahead k

pub no_step_fits : (macros : Macros) (m : plain.Macro) → CalleeFits macros 0 (CallsMacro m) 0
no_step_fits macros m ahead k top tops base = nothing ahead k

pub macro_fits : (macros : Macros) (left inner n : ℕ) (m : MacroDef) (body : List Stmt) → inner + 1 ≡ left → body ≡ (out-MacroDef m).body → BodyFits macros inner (plain_stmts body) n → CalleeFits macros left (CallsMacro (plain_macro m)) n
macro_fits macros left inner n m body e b h =
    let one : suc inner ≡ left = omega (arith, e) in
    subst (λ (l : ℕ). CalleeFits macros l (CallsMacro (plain_macro m)) n) one
    (subst (λ (x : plain.Macro). CalleeFits macros (suc inner) (CallsMacro x) n)
    (sym (plain_macro_out m ∙ ap (λ (ss : List Stmt). plain.MakeMacro (out-MacroDef m).name (out-MacroDef m).params (out-MacroDef m).results (plain_stmts ss)) (sym b)))
    (λ ahead k top tops base. h ahead k top tops base (out-MacroDef m).results (param_names (out-MacroDef m).params) []))
