-- What keeps no call is made of parts that keep none.
use Rattle.std.proofs.Common.{◌≡◌, ◌∙◌, ◌++◌, ℕ, zero, suc, ◌<◌, ◌≤◌, ◌+◌, List, [], ◌∷◌, length, get_or, drop, append-nil, Some, sym, ap, ap₂, subst, arith, refl, false}
use Rattle.dx_base.specs.declared.function.Function.{Function}
use Rattle.dx_ast.specs.Classes.{Text}
use Rattle.dx_ast.specs.declared.expressions.Arg.{Arg, out-Arg}
use Rattle.dx_ast.specs.declared.expressions.Call.{Call, out-Call}
use Rattle.dx_ast.specs.declared.statements.Stmt.{Stmt}
use Rattle.dx_ast.specs.declared.statements.MacroDef.{MacroDef, out-MacroDef}
use Rattle.dx_ast.specs.Syntax as plain
use Rattle.dx_ast.specs.Plain.{plain_expr, plain_call, plain_args, plain_macro, plain_stmt, plain_stmts}
use Rattle.dx_ast.proofs.PlainLaws.{plain_call_out, plain_macro_out}
use Rattle.dx_macros.specs.Dictionary.{Macros, callee}
use Rattle.dx_macros.specs.Expansion.{is_effect, effects_among, top_spot}
use Rattle.dx_definitions.specs.TopTexts.{TopText}
use Rattle.dx_signatures.specs.Callees.{Unknown, CallsMacro, CallsFunction}
use Rattle.dx_texts.specs.Expanding.{dictionary_in, top_scope}
use Rattle.dx_expansion.specs.Driving.{effects_in}
use Rattle.dx_expansion.specs.Silence.{IsSilentExpr, IsSilentCall, AreSilentArgs, IsSilentCallee, IsSilentStatement, IsSilentBody}
use Rattle.dx_texts.specs.declared.text.World.{World}

module _ (macros : Macros) (left : ℕ) where
  -- ---- calls

  pub call_silent : (c : Call) (name : Text) (args : List Arg) → name ≡ (out-Call c).name → args ≡ (out-Call c).args → IsSilentCallee macros left (callee macros name) → AreSilentArgs macros left (plain_args args) → IsSilentCall macros left (plain_call c)
  call_silent c name args n a own inner =
      subst (IsSilentCall macros left) (sym (plain_call_out c ∙ ap₂ (λ (m : Text) (xs : List Arg). plain.MakeCall m (out-Call c).cache (plain_args xs)) (sym n) (sym a)))
      (λ frames top spot scope before. own frames top spot _ (out-Call c).cache _ ∙ inner frames top spot scope (before ++ name ∷ []))

  pub none_silent : AreSilentArgs macros left plain.NoArg
  none_silent = λ frames top spot scope before. refl

  arg_more : (a : Arg) (rest : List Arg) → IsSilentExpr macros left (plain_expr (out-Arg a).value) → AreSilentArgs macros left (plain_args rest) → AreSilentArgs macros left (plain_args (a ∷ rest))
  arg_more a rest h t = λ frames top spot scope before. ap₂ (λ (xs ys : List _). xs ++ ys) (h frames top spot scope before) (t frames top spot scope _)

  pub args_more : (args : List Arg) (i : ℕ) (a : Arg) → i < length args → a ≡ get_or args i a → IsSilentExpr macros left (plain_expr (out-Arg a).value) → AreSilentArgs macros left (plain_args (drop (suc i) args)) → AreSilentArgs macros left (plain_args (drop i args))
  args_more [] i a h e s t = absurd (omega arith)
  args_more (x ∷ args) zero a h e s t = arg_more x args (subst (λ (y : Arg). IsSilentExpr macros left (plain_expr (out-Arg y).value)) e s) t
  args_more (x ∷ args) (suc i) a h e s t = args_more args i a (omega (arith, h)) e s t

  pub args_done : (args : List Arg) (i : ℕ) → length args ≤ i → AreSilentArgs macros left (plain_args (drop i args))
  args_done [] zero h = none_silent
  args_done [] (suc i) h = none_silent
  args_done (x ∷ args) zero h = absurd (omega (arith, h))
  args_done (x ∷ args) (suc i) h = args_done args i (omega (arith, h))

  -- ---- statements of bodies

  pub body_none : IsSilentBody macros left plain.NoStmt
  body_none = λ frames top spot results scope before. refl

  stmt_more : (s : Stmt) (rest : List Stmt) → IsSilentStatement macros left (plain_stmt s) → IsSilentBody macros left (plain_stmts rest) → IsSilentBody macros left (plain_stmts (s ∷ rest))
  stmt_more s rest h t = λ frames top spot results scope before. ap₂ (λ (xs ys : List _). xs ++ ys) (h frames top spot scope before) (t frames top spot results _ _)

  pub stmts_more : (body : List Stmt) (i : ℕ) (s : Stmt) → i < length body → s ≡ get_or body i s → IsSilentStatement macros left (plain_stmt s) → IsSilentBody macros left (plain_stmts (drop (suc i) body)) → IsSilentBody macros left (plain_stmts (drop i body))
  stmts_more [] i s h e q t = absurd (omega arith)
  stmts_more (x ∷ body) zero s h e q t = stmt_more x body (subst (λ (y : Stmt). IsSilentStatement macros left (plain_stmt y)) e q) t
  stmts_more (x ∷ body) (suc i) s h e q t = stmts_more body i s (omega (arith, h)) e q t

  pub stmts_done : (body : List Stmt) (i : ℕ) → length body ≤ i → IsSilentBody macros left (plain_stmts (drop i body))
  stmts_done [] zero h = body_none
  stmts_done [] (suc i) h = body_none
  stmts_done (x ∷ body) zero h = absurd (omega (arith, h))
  stmts_done (x ∷ body) (suc i) h = stmts_done body i (omega (arith, h))

  -- ---- what is called

  pub unknown_silent : IsSilentCallee macros left Unknown
  unknown_silent = λ frames top spot step cache args. refl

  pub function_silent : (f : Function) → is_effect f ≡ false → IsSilentCallee macros left (CallsFunction f)
  function_silent f e = λ frames top spot step cache args. rw e (append-nil args.kept)

pub no_step_silent : (macros : Macros) (m : plain.Macro) → IsSilentCallee macros 0 (CallsMacro m)
no_step_silent macros m = λ frames top spot step cache args. append-nil args.kept

pub macro_silent : (macros : Macros) (left inner : ℕ) (m : MacroDef) (body : List Stmt) → inner + 1 ≡ left → body ≡ (out-MacroDef m).body → IsSilentBody macros inner (plain_stmts body) → IsSilentCallee macros left (CallsMacro (plain_macro m))
macro_silent macros left inner m body e b h =
    let one : suc inner ≡ left = omega (arith, e) in
    subst (λ (n : ℕ). IsSilentCallee macros n (CallsMacro (plain_macro m))) one
    (subst (λ (x : plain.Macro). IsSilentCallee macros (suc inner) (CallsMacro x))
    (sym (plain_macro_out m ∙ ap (λ (ss : List Stmt). plain.MakeMacro (out-MacroDef m).name (out-MacroDef m).params (out-MacroDef m).results (plain_stmts ss)) (sym b)))
    (λ frames top spot step cache args. ap (λ (xs : List _). args.kept ++ xs) (h frames top _ _ _ []) ∙ append-nil args.kept))

-- an assignment whose value keeps no call has no effect
pub assignment_silent : (w : World) (position : ℕ) (t : TopText) → IsSilentExpr (dictionary_in w).macros 64 t.value → effects_in (Some t) w position ≡ []
assignment_silent w position t h = ap effects_among (h w.frames (top_scope w position) (top_spot t.targets) (top_scope w position) [])
