-- What an expansion comes to, one argument and one statement at a time.
use Rattle.std.proofs.Common.{◌≡◌, ℕ, suc, ◌+◌, ◌<◌, ◌≤◌, List, [], ◌∷◌, ◌++◌, length, get_or, drop, map, refl, sym, ap, ap₂, subst, ◌∙◌, arith, append_assoc, append-nil, All}
use Rattle.std.specs.Prelude.{Result, Ok, Err, IfOk, OnOk}
use Rattle.std.proofs.lemmas.List.{map-append, drop_more, drop_all}
use Rattle.std.proofs.lemmas.List.Elements.{filter-append}
use Rattle.dx_base.specs.declared.function.Function.{Function}
use Rattle.dx_base.specs.declared.function.Function.TheVariants as function
use Rattle.dx_ast.specs.declared.expressions.Arg.{Arg, out-Arg}
use Rattle.dx_ast.specs.declared.expressions.Call.{Call, out-Call}
use Rattle.dx_ast.specs.declared.statements.Stmt.{Stmt}
use Rattle.dx_ast.specs.declared.statements.MacroDef.{MacroDef, out-MacroDef}
use Rattle.dx_ast.specs.Classes.{Text as Name}
use Rattle.dx_ast.specs.Syntax as syntax
use Rattle.dx_ast.specs.Plain.{plain_expr, plain_call, plain_args, plain_macro, plain_stmt, plain_stmts}
use Rattle.dx_ast.proofs.PlainLaws.{plain_call_out, plain_macro_out}
use Rattle.dx_macros.specs.Dictionary.{callee}
use Rattle.dx_signatures.specs.Callees.{Callee, Unknown, CallsMacro, CallsFunction}
use Rattle.dx_macros.specs.Expansion as plain
use Rattle.dx_macros.specs.Expansion.{Expanded, ArgsExpanded, Scope, effects_among}
use Rattle.dx_base.specs.NameLists.{count}
use Rattle.dx_macros.specs.Names.{calls_in, calls_of, calls_in_args, calls_after}
use Rattle.dx_macros.specs.Site.{Spot, Step, Nth, next_step}
use Rattle.dx_ast.specs.Table.{row_of}
use Rattle.dx_base.specs.NameTable.{under_name}
use Rattle.dx_macros.specs.Tree.{Place, Tree, CallTree, TreeCall, Trees}
use Rattle.dx_graph.specs.GraphView.{graph_of, spots_in}
use Rattle.dx_graph.specs.Operands.{operand_tree, OperandFits, results_trees, Means, Gives, given_of, GivenFits, Own, OwnFits, scope_with}
use Rattle.dx_graph.specs.Trails.{spot_under}
use Rattle.dx_graph.specs.Unfolding.{unfolded}
use Rattle.dx_texts.specs.Expanding.{Setting, Starts, Grows, Expands, ExpandsArgs, ExpandsStatement, ExpandsBody, SameText, setting, scope_of, under_of, expr_in, call_in, args_in, statement_in, body_in, applied, function_call, function_expanded, own_effect, inner_setting, dictionary_in, top_scope}
use Rattle.dx_graph.specs.declared.graph.Graph.{Graph}
use Rattle.dx_graph.specs.declared.given.Given.{Given}
use Rattle.dx_graph.specs.declared.operand.Operand.{Operand}
use Rattle.dx_graph.specs.declared.operand.Results.{Results}
use Rattle.dx_graph.specs.declared.operand.Results.TheVariants as results
use Rattle.dx_texts.specs.declared.text.World.{World}
use Rattle.dx_texts.specs.declared.text.Text.{Text}
use Rattle.dx_texts.proofs.Named.{name_called}
use Rattle.dx_texts.proofs.Standing.{given_later, given_fit_later, scope_later}
use Rattle.dx_graph.proofs.Taking.{all_push}

abbrev calls_made : Graph → List CallTree
calls_made g = unfolded (graph_of g)

-- the effects among calls, and then those among others
among_append : (xs ys : List CallTree) → effects_among (xs ++ ys) ≡ effects_among xs ++ effects_among ys
among_append xs ys = filter-append (λ c. plain.is_effect (plain.function_of c)) xs ys

-- behind what was made, the effects among calls and then those among others
made_append : (made xs ys : List CallTree) → (made ++ effects_among xs) ++ effects_among ys ≡ made ++ effects_among (xs ++ ys)
made_append made xs ys = append_assoc made (effects_among xs) (effects_among ys) ∙ ap (λ (zs : List CallTree). made ++ zs) (sym (among_append xs ys))

-- a call is among its own effects where its function has one
own_among : (f : Function) (p : Place) (ts : Trees) → own_effect f (TreeCall f p ts) ≡ effects_among (plain.own_kept f (TreeCall f p ts))
own_among (function.Module m) p ts = refl
own_among (function.Effect e) p ts = refl
own_among function.Switch p ts = refl
own_among function.Route p ts = refl
own_among function.GetLocal p ts = refl
own_among function.GetGlobal p ts = refl

-- ---- arguments

-- what was expanded of the arguments, and what the rest comes to, is the whole
pub record ArgsSoFar (s : Setting) (before : List Name) (args : List Arg) (old now : Graph) (before_now : List Name) (gs : List Given) (rest : List Arg) : Type 0 where
  pub fits : All (GivenFits (graph_of now).nodes) gs
  pub given : map (given_of (graph_of now).nodes) gs ++ (args_in s before_now (plain_args rest)).given ≡ (args_in s before (plain_args args)).given
  pub effects : unfolded (graph_of now) ++ effects_among (args_in s before_now (plain_args rest)).kept ≡ unfolded (graph_of old) ++ effects_among (args_in s before (plain_args args)).kept
  pub calls : before_now ++ calls_in_args (plain_args rest) ≡ before ++ calls_in_args (plain_args args)

append_three : {A : Type 0} (xs ys : List A) (x : A) → (xs ++ x ∷ []) ++ ys ≡ xs ++ x ∷ ys
append_three xs ys x = append_assoc xs (x ∷ []) ys

-- one argument more
args_one : (s : Setting) (before : List Name) (args : List Arg) (old mid now : Graph) (before_mid before_now : List Name) (gs new : List Given) (a : Arg) (rest : List Arg) (o : Operand) (r : Results) →
    Starts (graph_of mid).nodes (graph_of now).nodes → Expands (expr_in s before_mid (plain_expr (out-Arg a).value)) mid now r → before_now ≡ before_mid ++ calls_in (plain_expr (out-Arg a).value) →
    OperandFits (graph_of now).nodes o → operand_tree (graph_of now).nodes o ≡ results_trees (graph_of now).nodes r 0 → (g : Given) → given_of (graph_of now).nodes g ≡ record { name = (out-Arg a).name; tree = operand_tree (graph_of now).nodes o } → GivenFits (graph_of now).nodes g → new ≡ gs ++ g ∷ [] →
    ArgsSoFar s before args old mid before_mid gs (a ∷ rest) → ArgsSoFar s before args old now before_now new rest
args_one s before args old mid now before_mid before_now gs new a rest o r grows e b fits tree g same gfits p so_far =
    let ns = (graph_of now).nodes in
    let value = plain_expr (out-Arg a).value in
    let first = expr_in s before_mid value in
    let others : ArgsExpanded = args_in s (before_mid ++ calls_in value) (plain_args rest) in
    let here : args_in s before_now (plain_args rest) ≡ others = ap (λ (xs : List Name). args_in s xs (plain_args rest)) b in
    let zero_tree : operand_tree ns o ≡ first.result 0 = tree ∙ ap (λ (f : ℕ → Tree). f 0) e.gives.trees in
    let shown : given_of ns g ≡ record { name = (out-Arg a).name; tree = first.result 0 } = same ∙ ap (λ (t : Tree). record { name = (out-Arg a).name; tree = t }) zero_tree in
    record {
      fits = all_push (GivenFits ns) gs new g p (given_fit_later (graph_of mid).nodes ns gs grows so_far.fits) gfits;
      given = ap₂ (λ (xs : List Given) (x : ArgsExpanded). map (given_of ns) xs ++ x.given) p here
          ∙ ap (λ (ts : List plain.Given). ts ++ others.given) (map-append (given_of ns) gs (g ∷ []))
          ∙ ap₂ (λ (ts : List plain.Given) (t : plain.Given). (ts ++ t ∷ []) ++ others.given) (given_later (graph_of mid).nodes ns gs grows so_far.fits) shown
          ∙ append_three (map (given_of (graph_of mid).nodes) gs) others.given (record { name = (out-Arg a).name; tree = first.result 0 })
          ∙ so_far.given;
      effects = ap₂ (λ (xs : List CallTree) (x : ArgsExpanded). xs ++ effects_among x.kept) e.effects here
          ∙ made_append (calls_made mid) first.kept others.kept
          ∙ so_far.effects;
      calls = ap (λ (xs : List Name). xs ++ calls_in_args (plain_args rest)) b
          ∙ append_assoc before_mid (calls_in value) (calls_in_args (plain_args rest))
          ∙ so_far.calls;
    }

pub args_step : (s now_s : Setting) (before : List Name) (args : List Arg) (i : ℕ) (a : Arg) (old mid now : Graph) (before_mid before_now : List Name) (gs new : List Given) (o : Operand) (r : Results) →
    i < length args → a ≡ get_or args i a → now_s ≡ s → Starts (graph_of mid).nodes (graph_of now).nodes → Expands (expr_in now_s before_mid (plain_expr (out-Arg a).value)) mid now r → before_now ≡ before_mid ++ calls_in (plain_expr (out-Arg a).value) →
    OperandFits (graph_of now).nodes o → operand_tree (graph_of now).nodes o ≡ results_trees (graph_of now).nodes r 0 → (g : Given) → given_of (graph_of now).nodes g ≡ record { name = (out-Arg a).name; tree = operand_tree (graph_of now).nodes o } → GivenFits (graph_of now).nodes g → new ≡ gs ++ g ∷ [] →
    ArgsSoFar s before args old mid before_mid gs (drop i args) → ArgsSoFar s before args old now before_now new (drop (i + 1) args)
args_step s now_s before args i a old mid now before_mid before_now gs new o r h is same grows e b fits tree g shown gfits p so_far =
    args_one s before args old mid now before_mid before_now gs new a (drop (i + 1) args) o r grows
    (subst (λ (x : Setting). Expands (expr_in x before_mid (plain_expr (out-Arg a).value)) mid now r) same e) b fits tree g shown gfits p
    (subst (λ (xs : List Arg). ArgsSoFar s before args old mid before_mid gs xs) (drop_more args i a h ∙ ap (λ (x : Arg). x ∷ drop (i + 1) args) (sym is)) so_far)

-- all arguments
args_all : (s : Setting) (before : List Name) (args : List Arg) (old now : Graph) (before_now : List Name) (gs : List Given) (rest : List Arg) → rest ≡ [] → ArgsSoFar s before args old now before_now gs rest →
    ExpandsArgs (args_in s before (plain_args args)) old now gs × (before_now ≡ before ++ calls_in_args (plain_args args))
args_all s before args old now before_now gs rest e so_far =
    let ended : ArgsSoFar s before args old now before_now gs [] = subst (λ (xs : List Arg). ArgsSoFar s before args old now before_now gs xs) e so_far in (
      record {
        fits = ended.fits;
        given = sym (append-nil (map (given_of (graph_of now).nodes) gs)) ∙ ended.given;
        effects = sym (append-nil (calls_made now)) ∙ ended.effects;
      },
      sym (append-nil before_now) ∙ ended.calls,
    )

-- ---- calls

call_kept : (u : plain.Under) (spot : Spot) (step : Step) (cache : ℕ) (c : Callee) (args : ArgsExpanded) → (plain.call_expanded u spot step cache c args).kept ≡ args.kept ++ (plain.call_expanded u spot step cache c (record { given = args.given; kept = [] })).kept
call_kept u spot step cache Unknown args = sym (append-nil args.kept)
call_kept u spot step cache (CallsMacro m) args = refl
call_kept u spot step cache (CallsFunction h) args = refl

call_result : (u : plain.Under) (spot : Spot) (step : Step) (cache : ℕ) (c : Callee) (args : ArgsExpanded) → (plain.call_expanded u spot step cache c args).result ≡ (plain.call_expanded u spot step cache c (record { given = args.given; kept = [] })).result
call_result u spot step cache Unknown args = refl
call_result u spot step cache (CallsMacro m) args = refl
call_result u spot step cache (CallsFunction h) args = refl

-- a call is its arguments and then what is called
pub call_made : (s now_s : Setting) (before before_mid : List Name) (c : Call) (name : Name) (args : List Arg) (k : ℕ) (old mid now : Graph) (gs : List Given) (r : Results) →
    name ≡ (out-Call c).name → args ≡ (out-Call c).args → k ≡ suc (count name before) → before_mid ≡ before ++ name ∷ [] → now_s ≡ s →
    ExpandsArgs (args_in s before_mid (plain_args args)) old mid gs →
    Expands (applied now_s (out-Call c).name (out-Call c).cache k (map (given_of (graph_of mid).nodes) gs)) mid now r →
    Expands (call_in s before (plain_call c)) old now r
call_made s now_s before before_mid c name args k old mid now gs r n a l b same e h =
    let cn = (out-Call c).name in
    let cache = (out-Call c).cache in
    let what = callee s.under.macros cn in
    let all = args_in s (before ++ cn ∷ []) (plain_args (out-Call c).args) in
    let whole : Expanded = plain.call_expanded s.under s.spot (next_step cn before) cache what all in
    let is : call_in s before (plain_call c) ≡ whole = ap (λ (x : syntax.Call). call_in s before x) (plain_call_out c) in
    let given_args : args_in s before_mid (plain_args args) ≡ all = ap₂ (λ (xs : List Name) (ys : List Arg). args_in s xs (plain_args ys)) (b ∙ ap (λ (x : Name). before ++ x ∷ []) n) a in
    let args_e : ExpandsArgs all old mid gs = subst (λ (x : ArgsExpanded). ExpandsArgs x old mid gs) given_args e in
    let own : Expanded = plain.call_expanded s.under s.spot (next_step cn before) cache what (record { given = all.given; kept = [] }) in
    let counted : k ≡ suc (count cn before) = l ∙ ap (λ (x : Name). suc (count x before)) n in
    let own_is : applied now_s cn cache k (map (given_of (graph_of mid).nodes) gs) ≡ own =
    ap (λ (x : Setting). applied x cn cache k (map (given_of (graph_of mid).nodes) gs)) same
    ∙ ap₂ (λ (j : ℕ) (ts : List plain.Given). applied s cn cache j ts) counted args_e.given in
    let own_e : Expands own mid now r = subst (λ (x : Expanded). Expands x mid now r) own_is h in
    subst (λ (x : Expanded). Expands x old now r) (sym is) (record {
      gives = record { fits = own_e.gives.fits; trees = own_e.gives.trees ∙ sym (call_result s.under s.spot (next_step cn before) cache what all) };
      effects = own_e.effects ∙ ap (λ (xs : List CallTree). xs ++ effects_among own.kept) args_e.effects ∙ made_append (calls_made old) all.kept own.kept
          ∙ sym (ap (λ (xs : List CallTree). calls_made old ++ effects_among xs) (call_kept s.under s.spot (next_step cn before) cache what all));
    })

-- ---- bodies

-- what was expanded of a body, and what the rest comes to, is the whole
pub record BodySoFar (w : World) (s : Setting) (body : List Stmt) (old now : Graph) (t : Text) (before_now : List Name) (rest : List Stmt) : Type 0 where
  pub result : (results : List Name) → (body_in (setting w t now) results before_now (plain_stmts rest)).result ≡ (body_in s results [] (plain_stmts body)).result
  pub effects : (results : List Name) → unfolded (graph_of now) ++ effects_among (body_in (setting w t now) results before_now (plain_stmts rest)).kept ≡ unfolded (graph_of old) ++ effects_among (body_in s results [] (plain_stmts body)).kept

body_one : (w : World) (s after : Setting) (body : List Stmt) (old mid now : Graph) (t u : Text) (before_mid before_now : List Name) (x : Stmt) (rest : List Stmt) →
    ExpandsStatement (setting w t mid) before_mid (plain_stmt x) mid now (scope_of w u (graph_of now).nodes) → before_now ≡ calls_after before_mid (plain_stmt x) →
    setting w u now ≡ record { under = under_of w t; spot = spot_under (spots_in mid) t.trail; scope = scope_of w u (graph_of now).nodes } →
    BodySoFar w s body old mid t before_mid (x ∷ rest) → BodySoFar w s body old now u before_now rest
body_one w s after body old mid now t u before_mid before_now x rest e b same so_far =
    let here = statement_in (setting w t mid) before_mid (plain_stmt x) in
    let next : Setting = record { under = under_of w t; spot = spot_under (spots_in mid) t.trail; scope = plain.scope_after (setting w t mid).scope (plain_stmt x) here.result } in
    let setting_is : setting w u now ≡ next = same ∙ ap (λ (scope : Scope). record { under = under_of w t; spot = spot_under (spots_in mid) t.trail; scope = scope }) e.scope_after in
    let others : List Name → Expanded = λ results. body_in next results (calls_after before_mid (plain_stmt x)) (plain_stmts rest) in
    let others_is : (results : List Name) → body_in (setting w u now) results before_now (plain_stmts rest) ≡ others results =
    λ results. ap₂ (λ (y : Setting) (xs : List Name). body_in y results xs (plain_stmts rest)) setting_is b in
    record {
      result = λ results. ap (λ (y : Expanded). y.result) (others_is results) ∙ so_far.result results;
      effects = λ results. ap₂ (λ (xs : List CallTree) (y : Expanded). xs ++ effects_among y.kept) e.effects (others_is results)
          ∙ made_append (calls_made mid) here.kept (others results).kept
          ∙ so_far.effects results;
    }

abbrev enter_at : World → ℕ → ℕ → syntax.Macro → List plain.Given → Spot → Expanded
enter_at w position left = plain.enter_macro (dictionary_in w).macros w.frames (top_scope w position) left

setting_after : (w : World) (t u : Text) (mid now : Graph) → SameText t u → spot_under (spots_in now) t.trail ≡ spot_under (spots_in mid) t.trail →
    setting w u now ≡ record { under = under_of w t; spot = spot_under (spots_in mid) t.trail; scope = scope_of w u (graph_of now).nodes }
setting_after w t u mid now same spot =
    let spots : spot_under (spots_in now) u.trail ≡ spot_under (spots_in mid) t.trail = ap (spot_under (spots_in now)) same.trail ∙ spot in
    let under : under_of w u ≡ under_of w t = ap₂ (λ (p l : ℕ). record { macros = (under_of w t).macros; frames = (under_of w t).frames; enter = enter_at w p l }) same.position same.left in
    ap₂ (λ (a : plain.Under) (b : Spot). record { under = a; spot = b; scope = scope_of w u (graph_of now).nodes }) under spots

pub body_step : (w : World) (s : Setting) (body : List Stmt) (i : ℕ) (x : Stmt) (old mid now : Graph) (t u : Text) (before_mid before_now : List Name) → i < length body → x ≡ get_or body i x →
    ExpandsStatement (setting w t mid) before_mid (plain_stmt x) mid now (scope_of w u (graph_of now).nodes) → before_now ≡ calls_after before_mid (plain_stmt x) →
    SameText t u → spot_under (spots_in now) t.trail ≡ spot_under (spots_in mid) t.trail →
    BodySoFar w s body old mid t before_mid (drop i body) → BodySoFar w s body old now u before_now (drop (i + 1) body)
body_step w s body i x old mid now t u before_mid before_now h is e b same spot so_far =
    body_one w s s body old mid now t u before_mid before_now x (drop (i + 1) body) e b (setting_after w t u mid now same spot)
    (subst (λ (xs : List Stmt). BodySoFar w s body old mid t before_mid xs) (drop_more body i x h ∙ ap (λ (y : Stmt). y ∷ drop (i + 1) body) (sym is)) so_far)

pub body_end : (w : World) (s : Setting) (body : List Stmt) (i : ℕ) (old now : Graph) (t : Text) (before_now : List Name) → length body ≤ i → BodySoFar w s body old now t before_now (drop i body) →
    (results : List Name) → ExpandsBody (body_in s results [] (plain_stmts body)) old now (plain.results_in results (scope_of w t (graph_of now).nodes))
body_end w s body i old now t before_now h so_far results =
    let ended : BodySoFar w s body old now t before_now [] = subst (λ (xs : List Stmt). BodySoFar w s body old now t before_now xs) (drop_all i body h) so_far in
    record {
      results = ended.result results;
      effects = sym (append-nil (calls_made now)) ∙ ended.effects results;
    }

-- ---- what is called

abbrev called_function : Setting → Name → ℕ → ℕ → List plain.Given → Function → Expanded
called_function s n cache k gs f =
    function_expanded f (TreeCall f (record { site = s.spot.base ++ Nth n k ∷ []; path = s.spot.path; cache = cache }) (plain.inputs (row_of f).params (row_of f).more 0 gs))

pub applied_function : (s : Setting) (name : Name) (cache k : ℕ) (gs : List plain.Given) (f : Function) → callee s.under.macros name ≡ CallsFunction f →
    function_expanded f (function_call s.spot f cache k gs) ≡ applied s name cache k gs
applied_function s name cache k gs f e =
    ap (λ (n : Name). called_function s n cache k gs f) (name_called s.under.macros f name e)
    ∙ sym (ap (λ (c : Callee). plain.call_expanded s.under s.spot (Nth name k) cache c (record { given = gs; kept = [] })) e)

pub call_is_made : {E : Type 0} (s now_s : Setting) (before before_mid : List Name) (c : Call) (name : Name) (args : List Arg) (k : ℕ) (old mid now : Graph) (gs : List Given) (r : Result Results E) →
    name ≡ (out-Call c).name → args ≡ (out-Call c).args → k ≡ suc (count name before) → before_mid ≡ before ++ name ∷ [] → now_s ≡ s →
    ExpandsArgs (args_in s before_mid (plain_args args)) old mid gs →
    IfOk r (λ x. Expands (applied now_s (out-Call c).name (out-Call c).cache k (map (given_of (graph_of mid).nodes) gs)) mid now x) →
    IfOk r (λ x. Expands (call_in s before (plain_call c)) old now x)
call_is_made s now_s before before_mid c name args k old mid now gs (Ok r) n a l b same e h = call_made s now_s before before_mid c name args k old mid now gs r n a l b same e h
call_is_made s now_s before before_mid c name args k old mid now gs (Err x) n a l b same e h = h

pub calls_after_call : (before first all : List Name) (c : Call) (name : Name) (args : List Arg) → name ≡ (out-Call c).name → args ≡ (out-Call c).args →
    first ≡ before ++ name ∷ [] → all ≡ first ++ calls_in_args (plain_args args) → all ≡ before ++ calls_of (plain_call c)
calls_after_call before first all c name args n a f e =
    e ∙ ap (λ (xs : List Name). xs ++ calls_in_args (plain_args args)) f ∙ append_assoc before (name ∷ []) (calls_in_args (plain_args args))
    ∙ ap₂ (λ (x : Name) (ys : List Arg). before ++ x ∷ calls_in_args (plain_args ys)) n a
    ∙ sym (ap (λ (x : syntax.Call). before ++ calls_of x) (plain_call_out c))

-- ---- a macro

entered : (w : World) (t : Text) (s : Setting) (position left inner : ℕ) (m : MacroDef) (gs : List plain.Given) (spot : Spot) → left ≡ suc inner →
    plain.enter_macro (dictionary_in w).macros w.frames (top_scope w position) left (plain_macro m) gs spot
    ≡ plain.expand_body (record { macros = (dictionary_in w).macros; frames = w.frames; enter = enter_at w position inner }) spot (out-MacroDef m).results (plain.with_params (out-MacroDef m).params 0 gs (top_scope w position)) [] (plain_stmts (out-MacroDef m).body)
entered w t s position left inner m gs spot e =
    ap₂ (λ (n : ℕ) (x : syntax.Macro). plain.enter_macro (dictionary_in w).macros w.frames (top_scope w position) n x gs spot) e (plain_macro_out m)

-- a macro's body and then its results
pub macro_made : {E : Type 0} (w : World) (t inner after : Text) (old mid now : Graph) (m : MacroDef) (body : List Stmt) (results : List Name) (step : Step) (gs : List plain.Given) (r : Result Results E) →
    inner.left + 1 ≡ t.left → graph_of mid ≡ graph_of old →
    setting w inner mid ≡ inner_setting (setting w t old) (top_scope w t.position) inner.left (out-MacroDef m).params step gs →
    body ≡ (out-MacroDef m).body → results ≡ (out-MacroDef m).results →
    ((names : List Name) → ExpandsBody (body_in (setting w inner mid) names [] (plain_stmts body)) mid now (plain.results_in names (scope_of w after (graph_of now).nodes))) →
    IfOk r (λ x. Gives (graph_of now).nodes x (plain.results_in results (scope_of w after (graph_of now).nodes))) →
    IfOk r (λ x. Expands ((setting w t old).under.enter (plain_macro m) gs (plain.spot_of_call (setting w t old).spot step)) old now x)
macro_made w t inner after old mid now m body results step gs (Ok x) l g same b p expands gives =
    let spot = plain.spot_of_call (setting w t old).spot step in
    let is : (setting w t old).under.enter (plain_macro m) gs spot ≡ body_in (inner_setting (setting w t old) (top_scope w t.position) inner.left (out-MacroDef m).params step gs) (out-MacroDef m).results [] (plain_stmts (out-MacroDef m).body) =
    entered w t (setting w t old) t.position t.left inner.left m gs spot (omega (arith, l)) in
    let here : (setting w t old).under.enter (plain_macro m) gs spot ≡ body_in (setting w inner mid) results [] (plain_stmts body) =
    is ∙ ap (λ (y : Setting). body_in y (out-MacroDef m).results [] (plain_stmts (out-MacroDef m).body)) (sym same)
    ∙ ap₂ (λ (ns : List Name) (ss : List Stmt). body_in (setting w inner mid) ns [] (plain_stmts ss)) (sym p) (sym b) in
    let e = expands results in
    subst (λ (y : Expanded). Expands y old now x) (sym here) (record {
      gives = record { fits = gives.fits; trees = gives.trees ∙ e.results };
      effects = e.effects ∙ ap (λ (xs : List CallTree). xs ++ effects_among (body_in (setting w inner mid) results [] (plain_stmts body)).kept) (ap unfolded g);
    })
macro_made w t inner after old mid now m body results step gs (Err x) l g same b p expands gives = gives

-- ---- expressions and statements

pub name_made : (w : World) (t : Text) (g : Graph) (before : List Name) (e : syntax.Expr) (n : Name) (o : Operand) → e ≡ syntax.Name n → Means (graph_of g).nodes o (scope_of w t (graph_of g).nodes n) →
    Expands (expr_in (setting w t g) before e) g g (results.One o)
name_made w t g before e n o is m = subst (λ (x : syntax.Expr). Expands (expr_in (setting w t g) before x) g g (results.One o)) (sym is) (record {
  gives = record { fits = m.fits; trees = ap plain.only m.tree };
  effects = sym (append-nil (calls_made g));
})

pub call_statement : (w : World) (t : Text) (before : List Name) (s : syntax.Stmt) (c : syntax.Call) (old new : Graph) (r : Results) → s ≡ syntax.Calls c → Grows old new → OwnFits (graph_of old).nodes (under_name t.own) →
    Expands (call_in (setting w t old) before c) old new r → ExpandsStatement (setting w t old) before s old new (scope_of w t (graph_of new).nodes)
call_statement w t before s c old new r is g fits e = subst (λ (x : syntax.Stmt). ExpandsStatement (setting w t old) before x old new (scope_of w t (graph_of new).nodes)) (sym is) (record {
  scope_after = scope_later (graph_of old).nodes (graph_of new).nodes (under_name t.own) (top_scope w t.position) g.nodes fits;
  effects = e.effects;
})

pub assign_statement : (w : World) (t : Text) (before targets names : List Name) (s : syntax.Stmt) (e : syntax.Expr) (old new : Graph) (own : Own) (r : Results) → s ≡ syntax.Assigns targets e → names ≡ targets → Grows old new → OwnFits (graph_of old).nodes (under_name t.own) →
    Expands (expr_in (setting w t old) before e) old new r →
    scope_with (graph_of new).nodes own (top_scope w t.position) ≡ plain.assigned names 0 (results_trees (graph_of new).nodes r) (scope_with (graph_of new).nodes (under_name t.own) (top_scope w t.position)) →
    ExpandsStatement (setting w t old) before s old new (scope_with (graph_of new).nodes own (top_scope w t.position))
assign_statement w t before targets names s e old new own r is n g fits h a =
    let scope = scope_with (graph_of new).nodes own (top_scope w t.position) in
    let stays = scope_later (graph_of old).nodes (graph_of new).nodes (under_name t.own) (top_scope w t.position) g.nodes fits in
    subst (λ (x : syntax.Stmt). ExpandsStatement (setting w t old) before x old new scope) (sym is) (record {
      scope_after = a ∙ ap₂ (λ (f : ℕ → Tree) (y : Scope). plain.assigned names 0 f y) h.gives.trees stays
          ∙ ap (λ (ts : List Name). plain.assigned ts 0 (expr_in (setting w t old) before e).result (setting w t old).scope) n;
      effects = h.effects;
    })

pub always : {A E P : Type 0} (r : Result A E) → P → OnOk r P
always (Ok a) h = h
always (Err e) h = tt
