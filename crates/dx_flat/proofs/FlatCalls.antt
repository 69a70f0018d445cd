-- A call over constants has no fault beside its own, and its effects are those of the call itself.
use Rattle.std.proofs.Common.{◌≡◌, ℕ, zero, suc, ◌<◌, ◌≤◌, ◌+◌, List, [], ◌∷◌, ◌++◌, length, get_or, map, drop, Option, Some, None, Bool, true, false, refl, sym, ap, ap₂, subst, ◌∙◌, append-nil, append_assoc}
use Rattle.std.specs.Prelude.{if◌then◌else◌, slice_index_or, slice_set}
use Rattle.std.specs.Str.{bytes_eq}
use Rattle.std.proofs.lemmas.List.{map-append, drop_more, drop_all}
use Rattle.dx_base.specs.NameLists.{has}
use Rattle.dx_base.specs.declared.function.Function.{Function}
use Rattle.dx_ast.specs.Classes.{Text}
use Rattle.dx_ast.specs.declared.constants.Const.{Const}
use Rattle.dx_ast.specs.declared.expressions.Arg.{Arg, out-Arg}
use Rattle.dx_ast.specs.declared.sequencing.Frames.{Frames}
use Rattle.dx_ast.specs.Limits.{max_macro_steps}
use Rattle.dx_ast.specs.Plain.{plain_expr, plain_args}
use Rattle.dx_ast.specs.Syntax.{Expr, Constant, Name, Frame, CallOf, MakeCall, Args, NoArg, AndArg}
use Rattle.dx_definitions.specs.Constants.{value_constant, of_one, constant_at, constant_of}
use Rattle.dx_definitions.specs.TopTexts.{TopText, definition}
use Rattle.dx_graph.specs.Graph.{Node}
use Rattle.dx_graph.specs.Operands.{operand_tree, given_of}
use Rattle.dx_graph.specs.declared.given.Given as graph
use Rattle.dx_macros.specs.Dictionary.{Macros, Dictionary, callee, of_call}
use Rattle.dx_macros.specs.Expansion.{Scope, Given, Expanded, ArgsExpanded, Under, plainly, under_top, top_spot, scope_within, expand_within, expand_expr, expand_args, call_expanded, kept_of, effects_among}
use Rattle.dx_macros.specs.Names.{calls_in}
use Rattle.dx_macros.specs.Site.{Spot, Step, Nth, next_step}
use Rattle.dx_macros.specs.Tree.{Tree, CallTree, ConstantTree}
use Rattle.dx_macros.specs.Walk.{Walk, Walked, Goes, and_then, walked_by, Reader, WalkUnder, pick, walk_expr, walk_args, walk_text, walk_at_top, enter_callee, read_definition, reader_at, reader_of, walk_begins, walk_of, fault_in}
use Rattle.dx_signatures.specs.Callees.{Callee, CallsFunction}
use Rattle.dx_signatures.specs.Faults.{arg_names, fault_of_call}
use Rattle.dx_texts.specs.Expanding.{last_target, function_call, function_expanded}
use Rattle.dx_flat.specs.Flat.{IsFlat, AreFlat}
use Rattle.dx_texts.proofs.Named.{name_called}
use Rattle.dx_texts.proofs.Scopes.{not_assigned, assigned_named}

-- ---- one target

one_some : (ts : List Text) (o : Option Const) (c : Const) → of_one ts o ≡ Some c → o ≡ Some c
one_some [] o c e = cc
one_some (t ∷ []) o c e = e
one_some (t ∷ u ∷ ts) o c e = cc

either_zero : (b : Bool) → ◌≡◌ {A = ℕ} (if b then 0 else 0) 0
either_zero true = refl
either_zero false = refl

one_first : (ts : List Text) (o : Option Const) (c : Const) (n : Text) → of_one ts o ≡ Some c → last_target ts 0 0 n ≡ 0
one_first [] o c n e = cc
one_first (t ∷ []) o c n e = either_zero (bytes_eq t n)
one_first (t ∷ u ∷ ts) o c n e = cc

-- ---- what a name means that means a constant

value_tree : (u : Under) (spot : Spot) (scope : Scope) (before : Text → Option Const) (e : Expr) (c : Const) → ((m : Text) (d : Const) → before m ≡ Some d → scope m ≡ ConstantTree d) →
    value_constant e before ≡ Some c → (expand_expr u spot scope [] e).result 0 ≡ ConstantTree c
value_tree u spot scope before (Constant d) c names e = let same : d ≡ c = cc in ap ConstantTree same
value_tree u spot scope before (Name m) c names e = names m c e
value_tree u spot scope before (Frame v) c names e = cc
value_tree u spot scope before (CallOf k) c names e = cc

module _ (macros : Macros) (frames : Frames) (defs : List TopText) where
  abbrev scope_at : ℕ → Scope
  scope_at i = scope_within max_macro_steps macros frames defs i

  means_by : (b : Bool) (i : ℕ) (n : Text) (c : Const) → has (definition defs i).targets n ≡ b → ((m : Text) (d : Const) → constant_at defs i m ≡ Some d → scope_at i m ≡ ConstantTree d) →
      (if b then constant_of defs i else constant_at defs i n) ≡ Some c → scope_at (suc i) n ≡ ConstantTree c
  means_by true i n c h names e =
      let ts = (definition defs i).targets in
      let v = (definition defs i).value in
      let result = (expand_within max_macro_steps macros frames (scope_at i) (definition defs i)).result in
      let o = value_constant v (constant_at defs i) in
      assigned_named ts 0 0 result (scope_at i) n h
      ∙ ap result (one_first ts o c n e)
      ∙ value_tree (under_top max_macro_steps macros frames (scope_at i)) (top_spot ts) (scope_at i) (constant_at defs i) v c names (one_some ts o c e)
  means_by false i n c h names e = not_assigned (definition defs i).targets 0 _ (scope_at i) n h ∙ names n c e

  pub constant_scope : (p : ℕ) (n : Text) (c : Const) → constant_at defs p n ≡ Some c → scope_at p n ≡ ConstantTree c
  constant_scope zero n c e = cc
  constant_scope (suc i) n c e = means_by (has (definition defs i).targets n) i n c refl (constant_scope i) e

-- ---- the same names are read without a fault

abbrev DoesGo : Walked → Type 0
DoesGo walked = (w : Walk) × (walked ≡ Goes w)

value_goes : (u : WalkUnder) (base : List Step) (read : Reader) (k : ℕ) (before : Text → Option Const) (e : Expr) (c : Const) (w : Walk) → ((m : Text) (d : Const) (v : Walk) → before m ≡ Some d → DoesGo (read m v)) →
    value_constant e before ≡ Some c → DoesGo (walk_expr u base read [] k e w)
value_goes u base read k before (Constant d) c w names e = (w, refl)
value_goes u base read k before (Name m) c w names e = names m c w e
value_goes u base read k before (Frame v) c w names e = (w, refl)
value_goes u base read k before (CallOf x) c w names e = cc

module _ (macros : Macros) (defs : List TopText) where
  read_once : (b : Bool) (i : ℕ) (go : Walk → Walked) (w : Walk) → ((v : Walk) → DoesGo (go v)) → DoesGo (pick b Goes go w)
  read_once true i go w each = (w, refl)
  read_once false i go w each = each w

  read_by : (b : Bool) (i : ℕ) (n : Text) (c : Const) (w : Walk) → ((m : Text) (d : Const) (v : Walk) → constant_at defs i m ≡ Some d → DoesGo (reader_at macros defs i m v)) →
      (if b then constant_of defs i else constant_at defs i n) ≡ Some c → DoesGo (pick b (read_definition macros (reader_at macros defs i) i (definition defs i)) (reader_at macros defs i n) w)
  read_by true i n c w names e =
      let t = definition defs i in
      let o = value_constant t.value (constant_at defs i) in
      read_once (slice_index_or w.read i false) i (λ v. walk_text macros (reader_at macros defs i) t (record { calls = v.calls; read = slice_set v.read i true })) w
      (λ v. value_goes (walk_at_top macros (reader_at macros defs i)) _ (reader_at macros defs i) (length t.targets) (constant_at defs i) t.value c _ names (one_some t.targets o c e))
  read_by false i n c w names e = names n c w e

  pub constant_read : (p : ℕ) (n : Text) (c : Const) (w : Walk) → constant_at defs p n ≡ Some c → DoesGo (reader_at macros defs p n w)
  constant_read zero n c w e = (w, refl)
  constant_read (suc i) n c w e = read_by (has (definition defs i).targets n) i n c w (constant_read i) e

-- ---- arguments

module _ (d : Dictionary) (f : Frames) where
  abbrev top : Scope
  top = scope_within max_macro_steps d.macros f d.definitions (length d.definitions)

  abbrev under : Under
  under = under_top max_macro_steps d.macros f top

  flat_tree : (spot : Spot) (before : List Text) (e : Expr) (t : Tree) → IsFlat d f e t → expand_expr under spot top before e ≡ plainly t
  flat_tree spot before (Constant c) t h = ap plainly (sym h)
  flat_tree spot before (Name n) t h = ap plainly (constant_scope d.macros f d.definitions (length d.definitions) n h.0 h.1 ∙ sym h.2)
  flat_tree spot before (Frame v) t h = ap plainly (sym h)
  flat_tree spot before (CallOf c) t h = absurd h

  given_first : (n : Option Text) (g : Given) → g.name ≡ n → record { name = n; tree = g.tree } ≡ g
  given_first n g h = ap (λ (m : Option Text). record { name = m; tree = g.tree }) (sym h)

  abbrev given_before : Option Text → Expanded → ArgsExpanded → ArgsExpanded
  given_before n first others = record { given = record { name = n; tree = first.result 0 } ∷ others.given; kept = first.kept ++ others.kept }

  pub flat_args : (spot : Spot) (before : List Text) (args : Args) (gs : List Given) → AreFlat d f args gs → expand_args under spot top before args ≡ record { given = gs; kept = [] }
  flat_args spot before NoArg [] h = refl
  flat_args spot before NoArg (g ∷ gs) h = absurd h
  flat_args spot before (AndArg n e rest) [] h = absurd h
  flat_args spot before (AndArg n e rest) (g ∷ gs) h =
      ap₂ (given_before n) (flat_tree spot before e g.tree h.1) (flat_args spot (before ++ calls_in e) rest gs h.2)
      ∙ ap (λ (x : Given). record { given = x ∷ gs; kept = [] }) (given_first n g h.0)

  flat_goes : (u : WalkUnder) (base : List Step) (before : List Text) (e : Expr) (t : Tree) (w : Walk) → IsFlat d f e t → DoesGo (walk_expr u base (reader_of d) before 0 e w)
  flat_goes u base before (Constant c) t w h = (w, refl)
  flat_goes u base before (Name n) t w h = constant_read d.macros d.definitions (length d.definitions) n h.0 w h.1
  flat_goes u base before (Frame v) t w h = (w, refl)
  flat_goes u base before (CallOf c) t w h = absurd h

  goes_then : (walked : Walked) (go : Walk → Walked) → DoesGo walked → ((w : Walk) → DoesGo (go w)) → DoesGo (and_then walked go)
  goes_then walked go h each = let next = each h.0 in (next.0, ap (λ (x : Walked). and_then x go) h.1 ∙ next.1)

  pub args_go : (u : WalkUnder) (base : List Step) (before : List Text) (args : Args) (gs : List Given) (w : Walk) → AreFlat d f args gs → DoesGo (walk_args u base (reader_of d) before args w)
  args_go u base before NoArg gs w h = (w, refl)
  args_go u base before (AndArg n e rest) [] w h = absurd h
  args_go u base before (AndArg n e rest) (g ∷ gs) w h =
      goes_then (walk_expr u base (reader_of d) before 0 e w) _ (flat_goes u base before e g.tree w h.1) (λ v. args_go u base (before ++ calls_in e) rest gs v h.2)

  -- ---- a call of a function

  no_fault_in : (walked : Walked) → DoesGo walked → fault_in walked ≡ None
  no_fault_in walked h = ap fault_in h.1

  pub call_goes : (name : Text) (cache : ℕ) (args : Args) (gs : List Given) (fn : Function) → callee d.macros name ≡ CallsFunction fn → fault_of_call 0 (callee d.macros name) max_macro_steps (arg_names args) 0 ≡ None → AreFlat d f args gs →
      fault_in (walk_of d (of_call (MakeCall name cache args))) ≡ None
  call_goes name cache args gs fn called none h =
      let u = walk_at_top d.macros (reader_of d) in
      let step = next_step name [] in
      let own = walked_by (fault_of_call 0 (callee d.macros name) max_macro_steps (arg_names args) 0) ([] ++ step ∷ []) (walk_begins d) in
      let counts : DoesGo own = (_, ap (λ o. walked_by o ([] ++ step ∷ []) (walk_begins d)) none) in
      let ends : (v : Walk) → DoesGo (enter_callee u ([] ++ step ∷ []) (callee d.macros name) v) = λ v. (v, ap (λ (k : Callee). enter_callee u ([] ++ step ∷ []) k v) called) in
      no_fault_in (walk_of d (of_call (MakeCall name cache args)))
      (goes_then own _ counts (λ w1. goes_then (walk_args u [] (reader_of d) ([] ++ name ∷ []) args w1) _ (args_go u [] ([] ++ name ∷ []) args gs w1 h) ends))

  pub call_effects : (name : Text) (cache : ℕ) (args : Args) (gs : List Given) (fn : Function) → callee d.macros name ≡ CallsFunction fn → AreFlat d f args gs →
      effects_among (function_expanded fn (function_call (top_spot []) fn cache 1 gs)).kept ≡ effects_among (kept_of max_macro_steps d f (Some (of_call (MakeCall name cache args))))
  call_effects name cache args gs fn called h =
      let step : Text → Step = λ n. Nth n 1 in
      let all : Text → Callee → ArgsExpanded → List CallTree = λ n k xs. effects_among (call_expanded under (top_spot []) (step n) cache k xs).kept in
      ap (λ (n : Text). all n (CallsFunction fn) (record { given = gs; kept = [] })) (name_called d.macros fn name called)
      ∙ ap₂ (all name) (sym called) (sym (flat_args (top_spot []) ([] ++ name ∷ []) args gs h))

-- ---- the code's arguments

module _ (d : Dictionary) (f : Frames) (args : List Arg) where
  -- with what the rest gives, this is what all give
  abbrev pub FlatSoFar : ℕ → List Given → Type 0
  FlatSoFar i done = (gs : List Given) → AreFlat d f (plain_args (drop i args)) gs → AreFlat d f (plain_args args) (done ++ gs)

  flat_more : (i : ℕ) (a : Arg) (done : List Given) (g : Given) → i < length args → a ≡ get_or args i a → g.name ≡ (out-Arg a).name → IsFlat d f (plain_expr (out-Arg a).value) g.tree → FlatSoFar i done → FlatSoFar (i + 1) (done ++ g ∷ [])
  flat_more i a done g lt at named h so gs rest =
      let here : AreFlat d f (plain_args (drop i args)) (g ∷ gs) = subst (λ (xs : List Arg). AreFlat d f (plain_args xs) (g ∷ gs)) (sym (drop_more args i a lt ∙ ap (λ (x : Arg). x ∷ drop (i + 1) args) (sym at))) (named, h, rest) in
      subst (AreFlat d f (plain_args args)) (sym (append_assoc done (g ∷ []) gs)) (so (g ∷ gs) here)

  -- one argument more
  pub flat_step : (i : ℕ) (a : Arg) (nodes : List Node) (given new : List graph.Given) (g : graph.Given) → i < length args → a ≡ get_or args i a → g.arg.now ≡ a → new ≡ given ++ g ∷ [] → IsFlat d f (plain_expr (out-Arg a).value) (operand_tree nodes g.operand) →
      FlatSoFar i (map (given_of nodes) given) → FlatSoFar (i + 1) (map (given_of nodes) new)
  flat_step i a nodes given new g lt at same e h so =
      let named = ap (λ (x : Arg). (out-Arg x).name) same in
      subst (FlatSoFar (i + 1)) (sym (ap (map (given_of nodes)) e ∙ map-append (given_of nodes) given (g ∷ []))) (flat_more i a (map (given_of nodes) given) (given_of nodes g) lt at named h so)

  -- all arguments
  pub flat_done : (i : ℕ) (done : List Given) → length args ≤ i → FlatSoFar i done → AreFlat d f (plain_args args) done
  flat_done i done le so =
      let none : AreFlat d f (plain_args (drop i args)) [] = subst (λ (xs : List Arg). AreFlat d f (plain_args xs) []) (sym (drop_all i args le)) tt in
      subst (AreFlat d f (plain_args args)) (append-nil done) (so [] none)
