-- No budget of macro steps runs out where there is no fault.
use Rattle.std.proofs.Common.{◌≡◌, ℕ, zero, suc, ◌<◌, List, [], ◌∷◌, ◌++◌, length, Option, Some, None, Bool, true, false, refl, sym, ap, ap₂, ◌∙◌, subst, arith, inl, inr, ⊎_elim, ◌⊎◌, append_assoc, append-nil}
use Rattle.std.specs.Prelude.{slice_index_or, slice_set, replicate, nat_le, if◌then◌else◌, ◌||◌}
use Rattle.std.specs.Str.{bytes_eq}
use Rattle.dx_ast.specs.declared.sequencing.Frames.{Frames}
use Rattle.dx_ast.specs.declared.statements.Param.{Param}
use Rattle.dx_ast.specs.Classes.{Text}
use Rattle.dx_ast.specs.Syntax.{Expr, Constant, Name, Frame, CallOf, Call, MakeCall, Args, NoArg, AndArg, Stmt, Assigns, Calls, Defines, Includes, Sets, Says, Sequences, Macro, MakeMacro, Stmts, NoStmt, AndStmt}
use Rattle.dx_signatures.specs.declared.fault.StaticFault.{StaticFault}
use Rattle.dx_signatures.specs.declared.fault.StaticFault.TheVariants as fault
use Rattle.dx_macros.specs.Site.{Step, Spot, next_step, first_target}
use Rattle.dx_base.specs.NameLists.{has}
use Rattle.dx_macros.specs.Names.{calls_in, calls_after, names_after}
use Rattle.dx_macros.specs.Tree.{Tree}
use Rattle.dx_macros.specs.Dictionary.{top_text, Macros, Dictionary, callee}
use Rattle.dx_definitions.specs.TopTexts.{TopText, definition}
use Rattle.dx_signatures.specs.Callees.{Callee, Unknown, CallsMacro, CallsFunction, param_names, signature_of_macro}
use Rattle.dx_macros.specs.Expansion.{Scope, Given, ArgsExpanded, Expanded, Under, with_name, assigned, with_params, given_for, or_tree, default_tree, plainly, call_expanded, spot_of_call, expand_expr, expand_call, expand_args, expand_statement, scope_after, expand_body, before_body, results_in, enter_macro, under_top, expand_within, scope_within, kept_of, effects_among, top_spot}
use Rattle.dx_macros.specs.Walk.{Walk, Walked, Goes, Faulty, and_then, walked_by, WalkUnder, Reader, enter_callee, walk_expr, walk_call, walk_args, walk_statement, walk_body, read_all, beside, pick, walk_macro, walk_at_top, walk_text, read_definition, reader_at, walk_begins, walk_of, fault_in, fault_of_text}
use Rattle.dx_signatures.specs.Faults.{fault_of_call, fault_of_signature, or_nesting, arg_names}
use Rattle.dx_macros.specs.Budget.{more, BudgetSuffices}

fun_eq : {A B : Type 0} (f g : A → B) → ((a : A) → f a ≡ g a) → f ≡ g
fun_eq f g h = λ i. λ a. h a i

pub goes_inv : (a : Walked) (g : Walk → Walked) (w' : Walk) → and_then a g ≡ Goes w' → (w : Walk) × (a ≡ Goes w) × (g w ≡ Goes w')
goes_inv (Goes w) g w' e = (w, refl, e)
goes_inv (Faulty s f) g w' e = cc

pub walked_inv : (o : Option StaticFault) (site : List Step) (w w1 : Walk) → walked_by o site w ≡ Goes w1 → (o ≡ None) × (w1.read ≡ w.read)
walked_inv (Some f) site w w1 e = cc
walked_inv None site w w1 e =
    let x : Walk = record { calls = suc w.calls; read = w.read } in
    let same : x ≡ w1 = cc in (refl, ap (λ (y : Walk). y.read) (sym same))

left_by : (b : Bool) (o : Option StaticFault) (left : ℕ) → (if b then Some fault.Calls else or_nesting left o) ≡ None → (l : ℕ) × (left ≡ suc l)
left_by true o left e = cc
left_by false (Some f) left e = cc
left_by false None zero e = cc
left_by false None (suc l) e = (l, refl)

left_suc : (calls : ℕ) (m : Macro) (left : ℕ) (args : List (Option Text)) (t : ℕ) → fault_of_call calls (CallsMacro m) left args t ≡ None → (l : ℕ) × (left ≡ suc l)
left_suc calls m left args t e = left_by (nat_le 65536 calls) (fault_of_signature (signature_of_macro m) args t) left e

not_by : (b rest : Bool) (t u : Tree) → (b || rest) ≡ false → (if b then t else u) ≡ u
not_by true rest t u e = cc
not_by false rest t u e = refl

rest_by : (b rest : Bool) → (b || rest) ≡ false → rest ≡ false
rest_by true rest e = cc
rest_by false rest e = e

not_assigned : (ts : List Text) (i : ℕ) (f : ℕ → Tree) (scope : Scope) (n : Text) → has ts n ≡ false → assigned ts i f scope n ≡ scope n
not_assigned [] i f scope n e = refl
not_assigned (t ∷ ts) i f scope n e =
    not_assigned ts (suc i) f (with_name t (f i) scope) n (rest_by (bytes_eq t n) (has ts n) e) ∙ not_by (bytes_eq t n) (has ts n) (f i) (scope n) e

-- what an own name means doesn't rest on the names around
assigned_same : (ts : List Text) (i : ℕ) (f : ℕ → Tree) (σ τ : Scope) (n : Text) → σ n ≡ τ n → assigned ts i f σ n ≡ assigned ts i f τ n
assigned_same [] i f σ τ n e = e
assigned_same (t ∷ ts) i f σ τ n e = assigned_same ts (suc i) f _ _ n (ap (λ u. if bytes_eq t n then f i else u) e)

assigned_has : (ts : List Text) (i : ℕ) (f : ℕ → Tree) (σ τ : Scope) (n : Text) → has ts n ≡ true → assigned ts i f σ n ≡ assigned ts i f τ n
assigned_has [] i f σ τ n e = cc
assigned_has (t ∷ ts) i f σ τ n e = has_by (bytes_eq t n) refl e (λ h. assigned_has ts (suc i) f _ _ n h)
  where
    has_by : (b : Bool) → bytes_eq t n ≡ b → (b || has ts n) ≡ true → (has ts n ≡ true → assigned ts (suc i) f (with_name t (f i) σ) n ≡ assigned ts (suc i) f (with_name t (f i) τ) n) → assigned ts (suc i) f (with_name t (f i) σ) n ≡ assigned ts (suc i) f (with_name t (f i) τ) n
    has_by true h e go = assigned_same ts (suc i) f _ _ n (ap (λ b. if b then f i else σ n) h ∙ sym (ap (λ b. if b then f i else τ n) h))
    has_by false h e go = go e

pub has-append : (xs ys : List Text) (n : Text) → has (xs ++ ys) n ≡ (has xs n || has ys n)
has-append [] ys n = refl
has-append (x ∷ xs) ys n = ap (λ b. bytes_eq x n || b) (has-append xs ys n) ∙ sym (or_assoc (bytes_eq x n) (has xs n) (has ys n))
  where
    or_assoc : (a b c : Bool) → ((a || b) || c) ≡ (a || (b || c))
    or_assoc true b c = refl
    or_assoc false b c = refl

-- own names mean the same in two scopes, and other names what they mean around
abbrev Covers : List Text → Scope → Scope → Scope → Scope → Type 0
Covers own s t σ τ = (name : Text) → (has own name ≡ true → σ name ≡ τ name) × (has own name ≡ false → (σ name ≡ s name) × (τ name ≡ t name))

cover_by : (b c h : Bool) (u v x y s t : Tree) → h ≡ (c || (b || false)) → u ≡ v → (c ≡ true → x ≡ y) × (c ≡ false → (x ≡ s) × (y ≡ t)) →
    (h ≡ true → (if b then u else x) ≡ (if b then v else y)) × (h ≡ false → ((if b then u else x) ≡ s) × ((if b then v else y) ≡ t))
cover_by true true h u v x y s t e p q = (λ k. p, λ k. cc)
cover_by true false h u v x y s t e p q = (λ k. p, λ k. cc)
cover_by false true h u v x y s t e p q = (λ k. q.0 refl, λ k. cc)
cover_by false false h u v x y s t e p q = (λ k. cc, λ k. q.1 refl)

covers_one : (own : List Text) (s t σ τ : Scope) → Covers own s t σ τ → (n : Text) (u v : Tree) → u ≡ v → Covers (own ++ n ∷ []) s t (with_name n u σ) (with_name n v τ)
covers_one own s t σ τ c n u v e name =
    cover_by (bytes_eq n name) (has own name) (has (own ++ n ∷ []) name) u v (σ name) (τ name) (s name) (t name) (has-append own (n ∷ []) name) e (c name)

covers_assigned : (ts own : List Text) (s t σ τ : Scope) → Covers own s t σ τ → (i : ℕ) (f g : ℕ → Tree) → f ≡ g → Covers (own ++ ts) s t (assigned ts i f σ) (assigned ts i g τ)
covers_assigned [] own s t σ τ c i f g e = subst (λ xs. Covers xs s t σ τ) (sym (append-nil own)) c
covers_assigned (n ∷ ts) own s t σ τ c i f g e =
    subst (λ xs. Covers xs s t (assigned ts (suc i) f (with_name n (f i) σ)) (assigned ts (suc i) g (with_name n (g i) τ))) (append_assoc own (n ∷ []) ts)
    (covers_assigned ts (own ++ n ∷ []) s t _ _ (covers_one own s t σ τ c n (f i) (g i) (ap (λ h. h i) e)) (suc i) f g e)

covers_params : (ps : List Param) (own : List Text) (s t σ τ : Scope) → Covers own s t σ τ → (i : ℕ) (gs : List Given) → Covers (own ++ param_names ps) s t (with_params ps i gs σ) (with_params ps i gs τ)
covers_params [] own s t σ τ c i gs = subst (λ xs. Covers xs s t σ τ) (sym (append-nil own)) c
covers_params (p ∷ ps) own s t σ τ c i gs =
    let u = or_tree (given_for gs i p.name) (default_tree p.default) in
    subst (λ xs. Covers xs s t (with_params ps (suc i) gs (with_name p.name u σ)) (with_params ps (suc i) gs (with_name p.name u τ))) (append_assoc own (p.name ∷ []) (param_names ps))
    (covers_params ps (own ++ p.name ∷ []) s t _ _ (covers_one own s t σ τ c p.name u u refl) (suc i) gs)

covers_after : (x : Stmt) (own : List Text) (s t σ τ : Scope) → Covers own s t σ τ → (f g : ℕ → Tree) → f ≡ g → Covers (names_after own x) s t (scope_after σ x f) (scope_after τ x g)
covers_after (Assigns ts e) own s t σ τ c f g same = covers_assigned ts own s t σ τ c 0 f g same
covers_after (Calls x) own s t σ τ c f g same = c
covers_after (Defines x) own s t σ τ c f g same = c
covers_after (Includes x) own s t σ τ c f g same = c
covers_after (Sets v e) own s t σ τ c f g same = c
covers_after (Says x) own s t σ τ c f g same = c
covers_after (Sequences x) own s t σ τ c f g same = c

pub marked : (xs : List Bool) (i j : ℕ) → slice_index_or (slice_set xs i true) j false ≡ true → (j ≡ i) ⊎ (slice_index_or xs j false ≡ true)
marked [] i j e = inr e
marked (x ∷ xs) zero zero e = inl refl
marked (x ∷ xs) zero (suc j) e = inr e
marked (x ∷ xs) (suc i) zero e = inr e
marked (x ∷ xs) (suc i) (suc j) e = ⊎_elim (λ h. inl (ap suc h)) inr (marked xs i j e)

pub none_marked : (k j : ℕ) → slice_index_or (replicate k false) j false ≡ true → ⊥
none_marked zero j e = cc
none_marked (suc k) zero e = cc
none_marked (suc k) (suc j) e = none_marked k j e

module _ (macros : Macros) (frames : Frames) (defs : List TopText) (n : ℕ) where
  -- the results of definition i don't rest on the budget
  abbrev Safe : ℕ → Type 0
  Safe i =
      (expand_within (more 64 n) macros frames (scope_within (more 64 n) macros frames defs i) (definition defs i)).result ≡
      (expand_within 64 macros frames (scope_within 64 macros frames defs i) (definition defs i)).result

  abbrev Flag : Walk → ℕ → Type 0
  Flag w j = slice_index_or w.read j false ≡ true

  -- what was read since is safe
  abbrev Grows : Walk → Walk → Type 0
  Grows w w' = (j : ℕ) → Flag w' j → Flag w j ⊎ Safe j

  -- what was read below p is safe
  abbrev Ready : ℕ → Walk → Type 0
  Ready p w = (j : ℕ) → j < p → Flag w j → Safe j

  grows_same : (w w' : Walk) → w' ≡ w → Grows w w'
  grows_same w w' e j h = inl (subst (λ x. Flag x j) e h)

  grows_read : (w w' : Walk) → w'.read ≡ w.read → Grows w w'
  grows_read w w' e j h = inl (ap (λ xs. slice_index_or xs j false) (sym e) ∙ h)

  grows_then : (a b c : Walk) → Grows a b → Grows b c → Grows a c
  grows_then a b c g h j k = ⊎_elim (g j) inr (h j k)

  ready_on : (p : ℕ) (w w' : Walk) → Ready p w → Grows w w' → Ready p w'
  ready_on p w w' r g j lt h = ⊎_elim (r j lt) (λ s. s) (g j h)

  abbrev Fits : ℕ → Reader → Scope → Scope → Type 0
  Fits p read σ τ = (name : Text) (w w' : Walk) → read name w ≡ Goes w' → Ready p w → Grows w w' × (σ name ≡ τ name)

  abbrev Enters : ℕ → ℕ → (Macro → List Step → Walk → Walked) → (Macro → List Given → Spot → Expanded) → (Macro → List Given → Spot → Expanded) → Type 0
  Enters p left enter e1 e2 = (l : ℕ) → left ≡ suc l → (m : Macro) (gs : List Given) (base : List Step) (spot : Spot) (w w' : Walk) → enter m base w ≡ Goes w' → Ready p w → Grows w w' × (e1 m gs spot ≡ e2 m gs spot)

  beside_fits : (p : ℕ) (top : Reader) (s t : Scope) → Fits p top s t → (own : List Text) (σ τ : Scope) → Covers own s t σ τ → Fits p (beside own top) σ τ
  beside_fits p top s t F own σ τ c name w w' e r = own_by (has own name) refl e
    where
      own_by : (b : Bool) → has own name ≡ b → pick b Goes (top name) w ≡ Goes w' → Grows w w' × (σ name ≡ τ name)
      own_by true h e = (grows_same w w' cc, (c name).0 h)
      own_by false h e = let x = F name w w' e r in (x.0, ((c name).1 h).0 ∙ x.1 ∙ sym ((c name).1 h).1)

  results_fit : (p : ℕ) (read : Reader) (σ τ : Scope) → Fits p read σ τ → (rs : List Text) (w w' : Walk) → read_all read rs w ≡ Goes w' → Ready p w → Grows w w' × ((i : ℕ) → results_in rs σ i ≡ results_in rs τ i)
  results_fit p read σ τ F [] w w' e r = (grows_same w w' cc, λ i. refl)
  results_fit p read σ τ F (x ∷ rs) w w' e r =
      let a = goes_inv (read x w) (λ w1. read_all read rs w1) w' e in
      let h = F x w a.0 a.1 r in
      let k = results_fit p read σ τ F rs a.0 w' a.2 (ready_on p w a.0 r h.0) in
      (grows_then w a.0 w' h.0 k.0, both h.1 k.1)
    where
      both : σ x ≡ τ x → ((i : ℕ) → results_in rs σ i ≡ results_in rs τ i) → (i : ℕ) → results_in (x ∷ rs) σ i ≡ results_in (x ∷ rs) τ i
      both h k zero = h
      both h k (suc i) = k i

  module _ (p left : ℕ) (enter : Macro → List Step → Walk → Walked) (e1 e2 : Macro → List Given → Spot → Expanded) (H : Enters p left enter e1 e2) where
    abbrev u : WalkUnder
    u = record { macros = macros; left = left; enter = enter }

    abbrev u1 : Under
    u1 = record { macros = macros; frames = frames; enter = e1 }

    abbrev u2 : Under
    u2 = record { macros = macros; frames = frames; enter = e2 }

    callee_fits : (c : Callee) (calls : ℕ) (names : List (Option Text)) (targets : ℕ) (base : List Step) (spot : Spot) (step : Step) (cache : ℕ) (x y : ArgsExpanded) (w w' : Walk) →
        fault_of_call calls c left names targets ≡ None → x ≡ y → enter_callee u base c w ≡ Goes w' → Ready p w → Grows w w' × (call_expanded u1 spot step cache c x ≡ call_expanded u2 spot step cache c y)
    callee_fits Unknown calls names targets base spot step cache x y w w' f e g r = (grows_same w w' cc, ap (call_expanded u1 spot step cache Unknown) e)
    callee_fits (CallsFunction h) calls names targets base spot step cache x y w w' f e g r = (grows_same w w' cc, ap (call_expanded u1 spot step cache (CallsFunction h)) e)
    callee_fits (CallsMacro m) calls names targets base spot step cache x y w w' f e g r =
        let s = left_suc calls m left names targets f in
        let h = H s.0 s.1 m y.given base (spot_of_call spot step) w w' g r in
        let join : Expanded → Expanded = λ inner. record { result = inner.result; kept = y.kept ++ inner.kept } in
        (h.0, ap (call_expanded u1 spot step cache (CallsMacro m)) e ∙ ap join h.1)

    mutual
      expr_fits : (e : Expr) (read : Reader) (σ τ : Scope) → Fits p read σ τ → (base : List Step) (spot : Spot) (before : List Text) (targets : ℕ) (w w' : Walk) → walk_expr u base read before targets e w ≡ Goes w' → Ready p w → Grows w w' × (expand_expr u1 spot σ before e ≡ expand_expr u2 spot τ before e)
      expr_fits (Constant c) read σ τ F base spot before targets w w' g r = (grows_same w w' cc, refl)
      expr_fits (Name x) read σ τ F base spot before targets w w' g r = let h = F x w w' g r in (h.0, ap plainly h.1)
      expr_fits (Frame v) read σ τ F base spot before targets w w' g r = (grows_same w w' cc, refl)
      expr_fits (CallOf c) read σ τ F base spot before targets w w' g r = call_fits c read σ τ F base spot before targets w w' g r

      call_fits : (c : Call) (read : Reader) (σ τ : Scope) → Fits p read σ τ → (base : List Step) (spot : Spot) (before : List Text) (targets : ℕ) (w w' : Walk) → walk_call u base read before targets c w ≡ Goes w' → Ready p w → Grows w w' × (expand_call u1 spot σ before c ≡ expand_call u2 spot τ before c)
      call_fits (MakeCall name cache args) read σ τ F base spot before targets w w' g r =
          let c = callee macros name in
          let step = next_step name before in
          let fault' = fault_of_call w.calls c left (arg_names args) targets in
          let a = goes_inv (walked_by fault' (base ++ step ∷ []) w) (λ w1. and_then (walk_args u base read (before ++ name ∷ []) args w1) (λ w2. enter_callee u (base ++ step ∷ []) c w2)) w' g in
          let f = walked_inv fault' (base ++ step ∷ []) w a.0 a.1 in
          let b = goes_inv (walk_args u base read (before ++ name ∷ []) args a.0) (λ w2. enter_callee u (base ++ step ∷ []) c w2) w' a.2 in
          let grown = grows_read w a.0 f.1 in
          let r1 = ready_on p w a.0 r grown in
          let x = args_fits args read σ τ F base spot (before ++ name ∷ []) a.0 b.0 b.1 r1 in
          let y = callee_fits c w.calls (arg_names args) targets (base ++ step ∷ []) spot step cache _ _ b.0 w' f.0 x.1 b.2 (ready_on p a.0 b.0 r1 x.0) in
          (grows_then w a.0 w' grown (grows_then a.0 b.0 w' x.0 y.0), y.1)

      args_fits : (args : Args) (read : Reader) (σ τ : Scope) → Fits p read σ τ → (base : List Step) (spot : Spot) (before : List Text) (w w' : Walk) → walk_args u base read before args w ≡ Goes w' → Ready p w → Grows w w' × (expand_args u1 spot σ before args ≡ expand_args u2 spot τ before args)
      args_fits NoArg read σ τ F base spot before w w' g r = (grows_same w w' cc, refl)
      args_fits (AndArg m e args) read σ τ F base spot before w w' g r =
          let a = goes_inv (walk_expr u base read before 0 e w) (λ w1. walk_args u base read (before ++ calls_in e) args w1) w' g in
          let x = expr_fits e read σ τ F base spot before 0 w a.0 a.1 r in
          let y = args_fits args read σ τ F base spot (before ++ calls_in e) a.0 w' a.2 (ready_on p w a.0 r x.0) in
          let join : Expanded → ArgsExpanded → ArgsExpanded = λ first rest. record { given = record { name = m; tree = first.result 0 } ∷ rest.given; kept = first.kept ++ rest.kept } in
          (grows_then w a.0 w' x.0 y.0, ap₂ join x.1 y.1)

    statement_fits : (x : Stmt) (read : Reader) (σ τ : Scope) → Fits p read σ τ → (base : List Step) (spot : Spot) (before : List Text) (w w' : Walk) → walk_statement u base read before x w ≡ Goes w' → Ready p w → Grows w w' × (expand_statement u1 spot σ before x ≡ expand_statement u2 spot τ before x)
    statement_fits (Assigns ts e) read σ τ F base spot before w w' g r = expr_fits e read σ τ F base spot before (length ts) w w' g r
    statement_fits (Calls x) read σ τ F base spot before w w' g r = call_fits x read σ τ F base spot before 0 w w' g r
    statement_fits (Defines x) read σ τ F base spot before w w' g r = (grows_same w w' cc, refl)
    statement_fits (Includes x) read σ τ F base spot before w w' g r = (grows_same w w' cc, refl)
    statement_fits (Sets v e) read σ τ F base spot before w w' g r = (grows_same w w' cc, refl)
    statement_fits (Says x) read σ τ F base spot before w w' g r = (grows_same w w' cc, refl)
    statement_fits (Sequences x) read σ τ F base spot before w w' g r = (grows_same w w' cc, refl)

    body_fits : (ss : Stmts) (top : Reader) (s t : Scope) → Fits p top s t → (results own : List Text) (σ τ : Scope) → Covers own s t σ τ → (base : List Step) (spot : Spot) (before : List Text) (w w' : Walk) → walk_body u base top results own before ss w ≡ Goes w' → Ready p w → Grows w w' × (expand_body u1 spot results σ before ss ≡ expand_body u2 spot results τ before ss)
    body_fits NoStmt top s t F results own σ τ c base spot before w w' g r =
        let h = results_fit p (beside own top) σ τ (beside_fits p top s t F own σ τ c) results w w' g r in
        let plain_end : (ℕ → Tree) → Expanded = λ f. record { result = f; kept = [] } in
        (h.0, ap plain_end (fun_eq (results_in results σ) (results_in results τ) h.1))
    body_fits (AndStmt x ss) top s t F results own σ τ c base spot before w w' g r =
        let a = goes_inv (walk_statement u base (beside own top) before x w) (λ w1. walk_body u base top results (names_after own x) (calls_after before x) ss w1) w' g in
        let y = statement_fits x (beside own top) σ τ (beside_fits p top s t F own σ τ c) base spot before w a.0 a.1 r in
        let f1 = expand_statement u1 spot σ before x in
        let f2 = expand_statement u2 spot τ before x in
        let c2 = covers_after x own s t σ τ c f1.result f2.result (ap (λ (h : Expanded). h.result) y.1) in
        let z = body_fits ss top s t F results (names_after own x) (scope_after σ x f1.result) (scope_after τ x f2.result) c2 base spot (calls_after before x) a.0 w' a.2 (ready_on p w a.0 r y.0) in
        (grows_then w a.0 w' y.0 z.0, ap₂ (λ (h k : Expanded). before_body h.kept k) y.1 z.1)

  macro_fits : (p : ℕ) (top : Reader) (s t : Scope) → Fits p top s t → (left : ℕ) → Enters p left (walk_macro macros top left) (enter_macro macros frames s (more left n)) (enter_macro macros frames t left)
  macro_fits p top s t F zero l e m gs base spot w w' g r = cc
  macro_fits p top s t F (suc k) l e (MakeMacro name params results body) gs base spot w w' g r =
      body_fits p k (walk_macro macros top k) (enter_macro macros frames s (more k n)) (enter_macro macros frames t k) (macro_fits p top s t F k)
      body top s t F results (param_names params) _ _ (covers_params params [] s t s t (λ name. (λ h. cc, λ h. (refl, refl))) 0 gs) base spot [] w w' g r

  expr_at_top : (p : ℕ) (top : Reader) (s t : Scope) → Fits p top s t → (e : Expr) (base : List Step) (spot : Spot) (targets : ℕ) (w w' : Walk) → walk_expr (walk_at_top macros top) base top [] targets e w ≡ Goes w' → Ready p w → Grows w w' × (expand_expr (under_top (more 64 n) macros frames s) spot s [] e ≡ expand_expr (under_top 64 macros frames t) spot t [] e)
  expr_at_top p top s t F e base spot targets w w' g r =
      expr_fits p 64 (walk_macro macros top 64) (enter_macro macros frames s (more 64 n)) (enter_macro macros frames t 64) (macro_fits p top s t F 64) e top s t F base spot [] targets w w' g r

  abbrev big : ℕ → Scope
  big i = scope_within (more 64 n) macros frames defs i

  abbrev own_top : ℕ → Scope
  own_top i = scope_within 64 macros frames defs i

  seen_by : (i : ℕ) → Fits i (reader_at macros defs i) (big i) (own_top i) → (b : Bool) (w w' : Walk) → slice_index_or w.read i false ≡ b →
      pick b Goes (λ w1. walk_text macros (reader_at macros defs i) (definition defs i) (record { calls = w1.calls; read = slice_set w1.read i true })) w ≡ Goes w' → Ready (suc i) w → Grows w w' × Safe i
  seen_by i F true w w' h e r = (grows_same w w' cc, r i (omega arith) h)
  seen_by i F false w w' h e r =
      let a = definition defs i in
      let w1 : Walk = record { calls = w.calls; read = slice_set w.read i true } in
      let r1 : Ready i w1 = λ j lt k. ⊎_elim (λ same. absurd (omega (arith, same))) (λ q. r j (omega arith) q) (marked w.read i j k) in
      let x = expr_at_top i (reader_at macros defs i) (big i) (own_top i) F a.value (first_target a.targets) (top_spot a.targets) (length a.targets) w1 w' e r1 in
      let safe : Safe i = ap (λ (y : Expanded). y.result) x.1 in
      (λ j k. ⊎_elim (λ q. ⊎_elim (λ same. inr (subst Safe (sym same) safe)) inl (marked w.read i j q)) inr (x.0 j k), safe)

  named_by : (i : ℕ) → Fits i (reader_at macros defs i) (big i) (own_top i) → (name : Text) (w w' : Walk) → Ready (suc i) w → (b : Bool) → has (definition defs i).targets name ≡ b →
      pick b (read_definition macros (reader_at macros defs i) i (definition defs i)) (reader_at macros defs i name) w ≡ Goes w' → Grows w w' × (big (suc i) name ≡ own_top (suc i) name)
  named_by i F name w w' r true h e =
      let a = definition defs i in
      let x = seen_by i F (slice_index_or w.read i false) w w' refl e r in
      let f1 = (expand_within (more 64 n) macros frames (big i) a).result in
      let f2 = (expand_within 64 macros frames (own_top i) a).result in
      (x.0, ap (λ f. assigned a.targets 0 f (big i) name) x.1 ∙ assigned_has a.targets 0 f2 (big i) (own_top i) name h)
  named_by i F name w w' r false h e =
      let a = definition defs i in
      let x = F name w w' e (λ j lt k. r j (omega arith) k) in
      (x.0, not_assigned a.targets 0 _ (big i) name h ∙ x.1 ∙ sym (not_assigned a.targets 0 _ (own_top i) name h))

  reader_fits : (p : ℕ) → Fits p (reader_at macros defs p) (big p) (own_top p)
  reader_fits zero name w w' e r = (grows_same w w' cc, refl)
  reader_fits (suc i) name w w' e r = named_by i (reader_fits i) name w w' r (has (definition defs i).targets name) refl e

  begins_ready : (p k : ℕ) (w : Walk) → w.read ≡ replicate k false → Ready p w
  begins_ready p k w e j lt h = absurd (none_marked k j (ap (λ xs. slice_index_or xs j false) (sym e) ∙ h))

pub goes_of : (a : Walked) → fault_in a ≡ None → (w : Walk) × (a ≡ Goes w)
goes_of (Goes w) e = (w, refl)
goes_of (Faulty s f) e = cc

of_text : (d : Dictionary) (frames : Frames) (n : ℕ) (o : Option TopText) → fault_of_text d o ≡ None → kept_of (more 64 n) d frames o ≡ kept_of 64 d frames o
of_text d frames n None e = refl
of_text d frames n (Some x) e =
    let p = length d.definitions in
    let g = goes_of (walk_of d x) e in
    let y = expr_at_top d.macros frames d.definitions n p (reader_at d.macros d.definitions p) _ _ (reader_fits d.macros frames d.definitions n p) x.value (first_target x.targets) (top_spot x.targets) (length x.targets) (walk_begins d) g.0 g.1
    (begins_ready d.macros frames d.definitions n p p (walk_begins d) refl) in
    ap (λ (z : Expanded). z.kept) y.1

-- the law
pub budget_suffices : (d : Dictionary) (frames : Frames) (s : Stmt) → BudgetSuffices d frames s
budget_suffices d frames s e n = ap effects_among (of_text d frames n (top_text s) e)
