-- What was walked of a text was walked of its parts.
use Rattle.std.proofs.Common.{◌≡◌, ℕ, zero, suc, ◌+◌, ◌<◌, ◌≤◌, List, [], ◌∷◌, ◌++◌, length, get_or, take, drop, Option, Some, None, Bool, true, false, refl, sym, ap, subst, ◌∙◌, arith, append_assoc}
use Rattle.std.specs.Prelude.{is_some, slice_index_or, if◌then◌else◌, ◌||◌}
use Rattle.std.specs.Str.{bytes_eq}
use Rattle.std.proofs.lemmas.List.{drop_more, drop_all, take_more, map-append}
use Rattle.dx_base.specs.NameTable.{under_name, changed_at}
use Rattle.dx_ast.specs.Classes.{Text as Name}
use Rattle.dx_ast.specs.Syntax as syntax
use Rattle.dx_ast.specs.Plain.{plain_expr, plain_call, plain_args, plain_macro, plain_stmt, plain_stmts}
use Rattle.dx_ast.proofs.PlainLaws.{plain_call_out, plain_macro_out}
use Rattle.dx_ast.specs.declared.expressions.Arg.{Arg, out-Arg}
use Rattle.dx_ast.specs.declared.expressions.Call.{Call, out-Call}
use Rattle.dx_ast.specs.declared.statements.Assign.{Assign}
use Rattle.dx_ast.specs.declared.statements.Param.{Param}
use Rattle.dx_ast.specs.Values.{param_name}
use Rattle.dx_ast.specs.declared.statements.Stmt.{Stmt}
use Rattle.dx_ast.specs.declared.statements.Stmt.TheVariants as stmt
use Rattle.dx_ast.specs.declared.statements.MacroDef.{MacroDef, out-MacroDef}
use Rattle.dx_macros.specs.Site.{Step, next_step, first_target}
use Rattle.dx_base.specs.NameLists.{has}
use Rattle.dx_macros.specs.Names.{calls_in, calls_after, names_after}
use Rattle.dx_macros.specs.Dictionary.{Macros, callee}
use Rattle.dx_definitions.specs.TopTexts.{TopText, last_named}
use Rattle.dx_signatures.specs.Callees.{Callee, CallsMacro, param_names}
use Rattle.dx_macros.specs.Walk.{Walk, Walked, Goes, and_then, walked_by, WalkUnder, enter_callee, walk_expr, walk_args, walk_statement, walk_body, read_all, beside, walk_macro}
use Rattle.dx_signatures.specs.Faults.{fault_of_call, arg_names}
use Rattle.dx_macros.proofs.Doing.{stmt_call, stmt_assign}
use Rattle.dx_macros.proofs.BudgetLaw.{goes_inv, walked_inv, has-append}
use Rattle.dx_graph.specs.Operands.{Own}
use Rattle.dx_texts.specs.Expanding.{SameText, dictionary_in}
use Rattle.dx_texts.specs.Marks.{Memo, Grown, IsWalked, IsReader, ExprWalked, CallWalked, ArgsWalked, StatementWalked, NameWalked, NamesWalked, CalleeWalked, MacroWalked, BodyWalked, TopWalked, Holds, top_reader, walk_under}
use Rattle.dx_graph.specs.declared.operand.Operand.{Operand}
use Rattle.dx_graph.specs.declared.operand.Results.{Results}
use Rattle.dx_texts.specs.declared.text.World.{World}
use Rattle.dx_texts.specs.declared.text.Text.{Text}
use Rattle.dx_texts.proofs.Marks.{Marks, Enters, grown_read, beside_marks, all_mark, callee_marks, expr_marks, args_mark, statement_marks, body_marks, macro_marks, reader_marks, read_marks}
use Rattle.dx_texts.proofs.TopLevel.{named_below}

-- ---- two walks, one after the other

first_part : (m : Macros) (ds : List TopText) (memo : Memo) (position : ℕ) (f g : Walk → Walked) → ((a b : Walk) → g a ≡ Goes b → Grown m ds a b) → IsWalked memo position (λ a. and_then (f a) g) → IsWalked memo position f
first_part m ds memo position f g grows h =
    let x = goes_inv (f h.from) g h.to h.goes in
    record { from = h.from; to = x.0; goes = x.1; count = h.count; known = λ i lt k. h.known i lt ((grows x.0 h.to x.2).marks i k) }

second_part : (m : Macros) (ds : List TopText) (memo : Memo) (position : ℕ) (f g : Walk → Walked) → ((a b : Walk) → f a ≡ Goes b → Grown m ds a b) → IsWalked memo position (λ a. and_then (f a) g) → IsWalked memo position g
second_part m ds memo position f g grows h =
    let x = goes_inv (f h.from) g h.to h.goes in
    record { from = x.0; to = h.to; goes = x.2; count = omega (arith, h.count, (grows h.from x.0 x.1).count); known = h.known }

-- ---- own names

none_is : (o : Option Operand) → o ≡ None → is_some o ≡ true → ⊥
none_is o e h = cc

holds_by : (b c : Bool) (o : Operand) (old : Option Operand) → (c || (b || false)) ≡ true → (c ≡ true → is_some old ≡ true) → is_some (if b then Some o else old) ≡ true
holds_by true c o old e h = refl
holds_by false true o old e h = h refl
holds_by false false o old e h = cc

-- one name more
pub holds_put : (old new : Own) (names : List Name) (name : Name) (o : Operand) → new ≡ changed_at old name (Some o) → Holds old names → Holds new (names ++ name ∷ [])
holds_put old new names name o e h n k =
    subst (λ (own : Own). is_some (own n) ≡ true) (sym e) (holds_by (bytes_eq name n) (has names n) o (old n) (sym (has-append names (name ∷ []) n) ∙ k) (h n))

-- one target more of those that get meanings
pub holds_more : (old new : Own) (names targets : List Name) (i : ℕ) (t name : Name) (o : Operand) → i < length targets → t ≡ get_or targets i t → name ≡ t → new ≡ changed_at old name (Some o) →
    Holds old (names ++ take i targets) → Holds new (names ++ take (i + 1) targets)
holds_more old new names targets i t name o lt is same e h =
    let put : Holds new ((names ++ take i targets) ++ name ∷ []) = holds_put old new (names ++ take i targets) name o e h in
    let next : (names ++ take i targets) ++ name ∷ [] ≡ names ++ take (i + 1) targets =
    append_assoc names (take i targets) (name ∷ []) ∙ ap (λ (ns : List Name). names ++ ns) (ap (λ (n : Name). take i targets ++ n ∷ []) (same ∙ is) ∙ sym (take_more targets i t lt)) in
    subst (Holds new) next put

take_whole : {A : Type 0} (i : ℕ) (xs : List A) → length xs ≤ i → take i xs ≡ xs
take_whole zero [] h = refl
take_whole zero (x ∷ xs) h = absurd (omega arith)
take_whole (suc i) [] h = refl
take_whole (suc i) (x ∷ xs) h = ap (λ ys. x ∷ ys) (take_whole i xs (omega (arith, h)))

pub holds_all : (own : Own) (names targets : List Name) (i : ℕ) → length targets ≤ i → Holds own (names ++ take i targets) → Holds own (names ++ targets)
holds_all own names targets i le h = subst (λ (ns : List Name). Holds own (names ++ ns)) (take_whole i targets le) h

pub holds_param : (old new : Own) (ps : List Param) (i : ℕ) (p : Param) (name : Name) (o : Operand) → i < length ps → p ≡ get_or ps i p → name ≡ p.name → new ≡ changed_at old name (Some o) →
    Holds old (param_names (take i ps)) → Holds new (param_names (take (i + 1) ps))
holds_param old new ps i p name o lt is same e h =
    let put : Holds new (param_names (take i ps) ++ name ∷ []) = holds_put old new (param_names (take i ps)) name o e h in
    let next : param_names (take i ps) ++ name ∷ [] ≡ param_names (take (i + 1) ps) =
    ap (λ (n : Name). param_names (take i ps) ++ n ∷ []) (same ∙ ap (λ (q : Param). q.name) is) ∙ sym (ap param_names (take_more ps i p lt) ∙ map-append param_name (take i ps) (get_or ps i p ∷ [])) in
    subst (Holds new) next put

pub holds_params : (own : Own) (ps : List Param) (i : ℕ) → length ps ≤ i → Holds own (param_names (take i ps)) → Holds own (param_names ps)
holds_params own ps i le h = subst (λ (qs : List Param). Holds own (param_names qs)) (take_whole i ps le) h

module _ (w : World) (t : Text) where
  abbrev macros : Macros
  macros = (dictionary_in w).macros

  abbrev defs : List TopText
  defs = (dictionary_in w).definitions

  abbrev u : WalkUnder
  u = walk_under w t

  top_marks : Marks macros defs (top_reader w t.position)
  top_marks = reader_marks macros defs t.position

  enters : Enters macros defs u.enter
  enters = macro_marks macros defs (top_reader w t.position) top_marks t.left

  beside_by : (b : Bool) (own : List Name) (name : Name) → has own name ≡ b → Holds (under_name t.own) own → under_name t.own name ≡ None → beside own (top_reader w t.position) name ≡ top_reader w t.position name
  beside_by true own name h all none = absurd (none_is (under_name t.own name) none (all name h))
  beside_by false own name h all none = rw h refl

  pub beside_reader : (own : List Name) → Holds (under_name t.own) own → IsReader w t (beside own (top_reader w t.position))
  beside_reader own h = record {
    top = λ name none. beside_by (has own name) own name refl h none;
    marks = beside_marks macros defs own (top_reader w t.position) top_marks;
  }

  -- ---- a call

  call_rest : (name : Name) (cache : ℕ) (args : syntax.Args) (h : CallWalked w t (syntax.MakeCall name cache args)) →
      IsWalked w.memo t.position (λ w1. and_then (walk_args u h.base h.read (h.before ++ name ∷ []) args w1) (λ w2. enter_callee u (h.base ++ next_step name h.before ∷ []) (callee macros name) w2))
  call_rest name cache args h =
      let site = h.base ++ next_step name h.before ∷ [] in
      let fault : Walk → _ = λ a. fault_of_call a.calls (callee macros name) t.left (arg_names args) h.targets in
      second_part macros defs w.memo t.position (λ a. walked_by (fault a) site a) (λ w1. and_then (walk_args u h.base h.read (h.before ++ name ∷ []) args w1) (λ w2. enter_callee u site (callee macros name) w2))
      (λ a b e. grown_read macros defs a b (walked_inv (fault a) site a b e).1) h.walked

  pub args_of_call : (name : Name) (cache : ℕ) (args : syntax.Args) → CallWalked w t (syntax.MakeCall name cache args) → ArgsWalked w t args
  args_of_call name cache args h =
      let site = h.base ++ next_step name h.before ∷ [] in
      record {
        base = h.base;
        read = h.read;
        before = h.before ++ name ∷ [];
        targets = 0;
        reader = h.reader;
        walked = first_part macros defs w.memo t.position (walk_args u h.base h.read (h.before ++ name ∷ []) args) (λ w2. enter_callee u site (callee macros name) w2)
            (λ a b e. callee_marks macros defs u enters (callee macros name) site a b e) (call_rest name cache args h);
      }

  pub callee_of_call : (name : Name) (cache : ℕ) (args : syntax.Args) → CallWalked w t (syntax.MakeCall name cache args) → CalleeWalked w t name
  callee_of_call name cache args h =
      let site = h.base ++ next_step name h.before ∷ [] in
      record {
        base = site;
        read = h.read;
        before = [];
        targets = 0;
        reader = h.reader;
        walked = second_part macros defs w.memo t.position (walk_args u h.base h.read (h.before ++ name ∷ []) args) (λ w2. enter_callee u site (callee macros name) w2)
            (λ a b e. args_mark macros defs u enters args h.read h.reader.marks h.base (h.before ++ name ∷ []) a b e) (call_rest name cache args h);
      }

  pub call_args : (c : Call) (args : List Arg) → args ≡ (out-Call c).args → CallWalked w t (plain_call c) → ArgsWalked w t (plain_args args)
  call_args c args e h =
      subst (λ (xs : List Arg). ArgsWalked w t (plain_args xs)) (sym e)
      (args_of_call (out-Call c).name (out-Call c).cache (plain_args (out-Call c).args) (subst (CallWalked w t) (plain_call_out c) h))

  pub call_callee : (c : Call) → CallWalked w t (plain_call c) → CalleeWalked w t (out-Call c).name
  call_callee c h = callee_of_call (out-Call c).name (out-Call c).cache (plain_args (out-Call c).args) (subst (CallWalked w t) (plain_call_out c) h)

  pub callee_macro : (name : Name) (m : syntax.Macro) → callee macros name ≡ CallsMacro m → CalleeWalked w t name → MacroWalked w t m
  callee_macro name m e h = record {
    base = h.base;
    read = h.read;
    before = h.before;
    targets = h.targets;
    reader = h.reader;
    walked = subst (λ (c : Callee). IsWalked w.memo t.position (enter_callee u h.base c)) e h.walked;
  }

  -- ---- arguments

  abbrev arg_rest : (a : Arg) (rest : List Arg) (h : ArgsWalked w t (plain_args (a ∷ rest))) → Walk → Walked
  arg_rest a rest h = λ w1. walk_args u h.base h.read (h.before ++ calls_in (plain_expr (out-Arg a).value)) (plain_args rest) w1

  pub first_arg : (a : Arg) (rest : List Arg) → ArgsWalked w t (plain_args (a ∷ rest)) → ExprWalked w t (plain_expr (out-Arg a).value)
  first_arg a rest h = record {
    base = h.base;
    read = h.read;
    before = h.before;
    targets = 0;
    reader = h.reader;
    walked = first_part macros defs w.memo t.position (walk_expr u h.base h.read h.before 0 (plain_expr (out-Arg a).value)) (arg_rest a rest h)
        (λ x y e. args_mark macros defs u enters (plain_args rest) h.read h.reader.marks h.base (h.before ++ calls_in (plain_expr (out-Arg a).value)) x y e) h.walked;
  }

  pub later_args : (a : Arg) (rest : List Arg) → ArgsWalked w t (plain_args (a ∷ rest)) → ArgsWalked w t (plain_args rest)
  later_args a rest h = record {
    base = h.base;
    read = h.read;
    before = h.before ++ calls_in (plain_expr (out-Arg a).value);
    targets = 0;
    reader = h.reader;
    walked = second_part macros defs w.memo t.position (walk_expr u h.base h.read h.before 0 (plain_expr (out-Arg a).value)) (arg_rest a rest h)
        (λ x y e. expr_marks macros defs u enters (plain_expr (out-Arg a).value) h.read h.reader.marks h.base h.before 0 x y e) h.walked;
  }

  at_arg : (args : List Arg) (i : ℕ) (a : Arg) → i < length args → a ≡ get_or args i a → ArgsWalked w t (plain_args (drop i args)) → ArgsWalked w t (plain_args (a ∷ drop (i + 1) args))
  at_arg args i a lt e h = subst (λ (xs : List Arg). ArgsWalked w t (plain_args xs)) (drop_more args i a lt ∙ ap (λ (x : Arg). x ∷ drop (i + 1) args) (sym e)) h

  pub arg_walked : (args : List Arg) (i : ℕ) (a : Arg) → i < length args → a ≡ get_or args i a → ArgsWalked w t (plain_args (drop i args)) → ExprWalked w t (plain_expr (out-Arg a).value)
  arg_walked args i a lt e h = first_arg a (drop (i + 1) args) (at_arg args i a lt e h)

  pub args_left : (args : List Arg) (i : ℕ) (a : Arg) → i < length args → a ≡ get_or args i a → ArgsWalked w t (plain_args (drop i args)) → ArgsWalked w t (plain_args (drop (i + 1) args))
  args_left args i a lt e h = later_args a (drop (i + 1) args) (at_arg args i a lt e h)

  -- ---- expressions

  of_name : (name : Name) → ExprWalked w t (syntax.Name name) → NameWalked w t name
  of_name name h = record { base = h.base; read = h.read; before = h.before; targets = h.targets; reader = h.reader; walked = h.walked }

  of_call : (c : syntax.Call) → ExprWalked w t (syntax.CallOf c) → CallWalked w t c
  of_call c h = record { base = h.base; read = h.read; before = h.before; targets = h.targets; reader = h.reader; walked = h.walked }

  pub expr_name : (e : syntax.Expr) (name : Name) → e ≡ syntax.Name name → ExprWalked w t e → NameWalked w t name
  expr_name e name is h = of_name name (subst (ExprWalked w t) is h)

  pub expr_call : (e : syntax.Expr) (c : syntax.Call) → e ≡ syntax.CallOf c → ExprWalked w t e → CallWalked w t c
  expr_call e c is h = of_call c (subst (ExprWalked w t) is h)

  -- ---- statements

  of_calls : (c : syntax.Call) → StatementWalked w t (syntax.Calls c) → CallWalked w t c
  of_calls c h = record { base = h.base; read = h.read; before = h.before; targets = 0; reader = h.reader; walked = h.walked }

  of_assigns : (targets : List Name) (e : syntax.Expr) → StatementWalked w t (syntax.Assigns targets e) → ExprWalked w t e
  of_assigns targets e h = record { base = h.base; read = h.read; before = h.before; targets = length targets; reader = h.reader; walked = h.walked }

  pub statement_call : (s : Stmt) (c : Call) → s ≡ stmt.Call c → StatementWalked w t (plain_stmt s) → CallWalked w t (plain_call c)
  statement_call s c is h = of_calls (plain_call c) (subst (StatementWalked w t) (ap plain_stmt is ∙ stmt_call c) h)

  pub statement_value : (s : Stmt) (a : Assign) → s ≡ stmt.Assign a → StatementWalked w t (plain_stmt s) → ExprWalked w t (plain_expr a.value)
  statement_value s a is h = of_assigns a.targets (plain_expr a.value) (subst (StatementWalked w t) (ap plain_stmt is ∙ stmt_assign a) h)

  -- ---- names

  pub first_name : (name : Name) (rest : List Name) → NamesWalked w t (name ∷ rest) → NameWalked w t name
  first_name name rest h = record {
    base = h.base;
    read = h.read;
    before = h.before;
    targets = 0;
    reader = h.reader;
    walked = first_part macros defs w.memo t.position (h.read name) (λ w1. read_all h.read rest w1) (λ a b e. all_mark macros defs h.read h.reader.marks rest a b e) h.walked;
  }

  pub later_names : (name : Name) (rest : List Name) → NamesWalked w t (name ∷ rest) → NamesWalked w t rest
  later_names name rest h = record {
    base = h.base;
    read = h.read;
    before = h.before;
    targets = 0;
    reader = h.reader;
    walked = second_part macros defs w.memo t.position (h.read name) (λ w1. read_all h.read rest w1) (λ a b e. h.reader.marks name a b e) h.walked;
  }

  at_name : (names : List Name) (i : ℕ) (n : Name) → i < length names → n ≡ get_or names i n → NamesWalked w t (drop i names) → NamesWalked w t (n ∷ drop (i + 1) names)
  at_name names i n lt e h = subst (NamesWalked w t) (drop_more names i n lt ∙ ap (λ (x : Name). x ∷ drop (i + 1) names) (sym e)) h

  pub name_walked : (names : List Name) (i : ℕ) (n name : Name) → i < length names → n ≡ get_or names i n → name ≡ n → NamesWalked w t (drop i names) → NameWalked w t name
  name_walked names i n name lt e same h = subst (NameWalked w t) (sym same) (first_name n (drop (i + 1) names) (at_name names i n lt e h))

  pub names_left : (names : List Name) (i : ℕ) (n : Name) → i < length names → n ≡ get_or names i n → NamesWalked w t (drop i names) → NamesWalked w t (drop (i + 1) names)
  names_left names i n lt e h = later_names n (drop (i + 1) names) (at_name names i n lt e h)

  -- a name without a meaning of its own was read at the top level
  pub read_at_top : (name : Name) → under_name t.own name ≡ None → NameWalked w t name → IsWalked w.memo t.position (top_reader w t.position name)
  read_at_top name none h = subst (IsWalked w.memo t.position) (h.reader.top name none) h.walked

  -- ---- bodies

  abbrev body_rest : (results : List Name) (s : Stmt) (rest : List Stmt) (h : BodyWalked w t results (plain_stmts (s ∷ rest))) → Walk → Walked
  body_rest results s rest h = λ w1. walk_body u h.base (top_reader w t.position) results (names_after h.own (plain_stmt s)) (calls_after h.before (plain_stmt s)) (plain_stmts rest) w1

  pub first_statement : (results : List Name) (s : Stmt) (rest : List Stmt) → BodyWalked w t results (plain_stmts (s ∷ rest)) → StatementWalked w t (plain_stmt s)
  first_statement results s rest h =
      let reader = beside_reader h.own h.holds in
      record {
        base = h.base;
        read = beside h.own (top_reader w t.position);
        before = h.before;
        targets = 0;
        reader = reader;
        walked = first_part macros defs w.memo t.position (walk_statement u h.base (beside h.own (top_reader w t.position)) h.before (plain_stmt s)) (body_rest results s rest h)
            (λ a b e. body_marks macros defs u enters (plain_stmts rest) (top_reader w t.position) top_marks results (names_after h.own (plain_stmt s)) h.base (calls_after h.before (plain_stmt s)) a b e) h.walked;
      }

  later_walk : (results : List Name) (s : Stmt) (rest : List Stmt) (h : BodyWalked w t results (plain_stmts (s ∷ rest))) → IsWalked w.memo t.position (body_rest results s rest h)
  later_walk results s rest h =
      second_part macros defs w.memo t.position (walk_statement u h.base (beside h.own (top_reader w t.position)) h.before (plain_stmt s)) (body_rest results s rest h)
      (λ a b e. statement_marks macros defs u enters (plain_stmt s) (beside h.own (top_reader w t.position)) (beside_reader h.own h.holds).marks h.base h.before a b e) h.walked

  -- when all statements were walked, the results are read
  pub names_at_end : (results : List Name) → BodyWalked w t results syntax.NoStmt → NamesWalked w t results
  names_at_end results h = record { base = []; read = beside h.own (top_reader w t.position); before = []; targets = 0; reader = beside_reader h.own h.holds; walked = h.walked }

-- in a text whose own names are others
body_in_text : (w : World) (t v : Text) (base : List Step) (own before : List Name) (results : List Name) (body : syntax.Stmts) → SameText t v → Holds (under_name v.own) own →
    IsWalked w.memo t.position (walk_body (walk_under w t) base (top_reader w t.position) results own before body) → BodyWalked w v results body
body_in_text w t v base own before results body same holds h =
    let at : (position left : ℕ) → Type 0 = λ position left.
    IsWalked w.memo position (walk_body (record { macros = (dictionary_in w).macros; left = left; enter = walk_macro (dictionary_in w).macros (top_reader w position) left }) base (top_reader w position) results own before body) in
    record { base = base; own = own; before = before; holds = holds; walked = subst (λ (p : ℕ). at p v.left) (sym same.position) (subst (at t.position) (sym same.left) h) }

at_statement : (w : World) (t : Text) (results : List Name) (body : List Stmt) (i : ℕ) (s : Stmt) → i < length body → s ≡ get_or body i s → BodyWalked w t results (plain_stmts (drop i body)) → BodyWalked w t results (plain_stmts (s ∷ drop (i + 1) body))
at_statement w t results body i s lt e h = subst (λ (xs : List Stmt). BodyWalked w t results (plain_stmts xs)) (drop_more body i s lt ∙ ap (λ (x : Stmt). x ∷ drop (i + 1) body) (sym e)) h

pub statement_walked : (w : World) (t : Text) (results : List Name) (body : List Stmt) (i : ℕ) (s : Stmt) → i < length body → s ≡ get_or body i s → BodyWalked w t results (plain_stmts (drop i body)) → StatementWalked w t (plain_stmt s)
statement_walked w t results body i s lt e h = first_statement w t results s (drop (i + 1) body) (at_statement w t results body i s lt e h)

pub body_left : (w : World) (t v : Text) (results : List Name) (body : List Stmt) (i : ℕ) (s : Stmt) → i < length body → s ≡ get_or body i s → SameText t v →
    ((names : List Name) → Holds (under_name t.own) names → Holds (under_name v.own) (names_after names (plain_stmt s))) →
    BodyWalked w t results (plain_stmts (drop i body)) → BodyWalked w v results (plain_stmts (drop (i + 1) body))
body_left w t v results body i s lt e same holds h =
    let here = at_statement w t results body i s lt e h in
    body_in_text w t v here.base (names_after here.own (plain_stmt s)) (calls_after here.before (plain_stmt s)) results (plain_stmts (drop (i + 1) body)) same (holds here.own here.holds)
    (later_walk w t results s (drop (i + 1) body) here)

pub results_walked : (w : World) (t : Text) (results : List Name) (body : List Stmt) (i : ℕ) → length body ≤ i → BodyWalked w t results (plain_stmts (drop i body)) → NamesWalked w t results
results_walked w t results body i le h = names_at_end w t results (subst (λ (xs : List Stmt). BodyWalked w t results (plain_stmts xs)) (drop_all i body le) h)

-- ---- the top level

-- a text of the top level has no names of its own
pub top_name : (w : World) (position : ℕ) (t : TopText) (n : Name) → t.value ≡ syntax.Name n → TopWalked w position t → IsWalked w.memo position (top_reader w position n)
top_name w position t n is h = subst (λ (v : syntax.Expr). TopWalked w position (record { targets = t.targets; value = v })) is h

pub at_top_walked : (w : World) (v : Text) (t : TopText) → v.left ≡ 64 → TopWalked w v.position t → ExprWalked w v t.value
at_top_walked w v t left h =
    let d = dictionary_in w in
    let top = top_reader w v.position in
    let under : ℕ → WalkUnder = λ n. record { macros = d.macros; left = n; enter = walk_macro d.macros top n } in
    record {
      base = first_target t.targets;
      read = top;
      before = [];
      targets = length t.targets;
      reader = record { top = λ name none. refl; marks = reader_marks d.macros d.definitions v.position };
      walked = subst (λ (n : ℕ). IsWalked w.memo v.position (walk_expr (under n) (first_target t.targets) top [] (length t.targets) t.value)) (sym left) h;
    }

-- ---- macros

pub macro_body : (w : World) (t inner : Text) (m : MacroDef) (results : List Name) (body : List Stmt) → inner.left + 1 ≡ t.left → inner.position ≡ t.position → results ≡ (out-MacroDef m).results → body ≡ (out-MacroDef m).body →
    Holds (under_name inner.own) (param_names (out-MacroDef m).params) → MacroWalked w t (plain_macro m) → BodyWalked w inner results (plain_stmts body)
macro_body w t inner m results body l p r b holds h =
    let out = out-MacroDef m in
    let walks : (position left : ℕ) → syntax.Macro → Type 0 = λ position left x. IsWalked w.memo position (walk_macro (dictionary_in w).macros (top_reader w position) left x h.base) in
    let left : t.left ≡ suc inner.left = omega (arith, l) in
    let here : walks inner.position (suc inner.left) (syntax.MakeMacro out.name out.params out.results (plain_stmts out.body)) =
    subst (λ (q : ℕ). walks q (suc inner.left) (syntax.MakeMacro out.name out.params out.results (plain_stmts out.body))) (sym p)
    (subst (λ (n : ℕ). walks t.position n (syntax.MakeMacro out.name out.params out.results (plain_stmts out.body))) left (subst (walks t.position t.left) (plain_macro_out m) h.walked)) in
    let whole : BodyWalked w inner out.results (plain_stmts out.body) = record { base = h.base; own = param_names out.params; before = []; holds = holds; walked = here } in
    subst (λ (ss : List Stmt). BodyWalked w inner results (plain_stmts ss)) (sym b) (subst (λ (ns : List Name). BodyWalked w inner ns (plain_stmts out.body)) (sym r) whole)

-- ---- results that are there

none_known : (o : Option Results) → o ≡ None → is_some o ≡ true → ⊥
none_known o e h = cc

-- a name that was read at a position has a definition with results, or none at all
pub result_known : (w : World) (position i : ℕ) (name : Name) → IsWalked w.memo position (top_reader w position name) → last_named (dictionary_in w).definitions position name ≡ Some i → slice_index_or w.memo i None ≡ None → ⊥
result_known w position i name h last none =
    let d = dictionary_in w in
    none_known (slice_index_or w.memo i None) none (h.known i (named_below position i d.definitions name last) (read_marks d.macros d.definitions position i name h.from h.to h.count h.goes last))
