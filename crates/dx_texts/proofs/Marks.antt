-- A walk keeps what is marked, and each definition that it marks is walked itself.
use Rattle.std.proofs.Common.{◌≡◌, inl, inr, ⊎_elim, ℕ, zero, suc, ◌<◌, ◌≤◌, List, [], ◌∷◌, ◌++◌, length, Some, Bool, true, false, refl, sym, ap, subst, ◌∙◌, arith}
use Rattle.std.specs.Prelude.{slice_index_or, slice_set, if◌then◌else◌}
use Rattle.std.proofs.lemmas.List.{length-set, get_or-set_same}
use Rattle.dx_ast.specs.Classes.{Text}
use Rattle.dx_ast.specs.Syntax.{Expr, Constant, Name, Frame, CallOf, Call, MakeCall, Args, NoArg, AndArg, Stmt, Assigns, Calls, Defines, Includes as Including, Sets, Says, Sequences, Macro, MakeMacro, Stmts, NoStmt, AndStmt}
use Rattle.dx_macros.specs.Site.{Step, next_step, first_target}
use Rattle.dx_base.specs.NameLists.{has}
use Rattle.dx_macros.specs.Names.{calls_in, calls_after, names_after}
use Rattle.dx_macros.specs.Dictionary.{Macros, callee}
use Rattle.dx_definitions.specs.TopTexts.{TopText, definition, last_named}
use Rattle.dx_signatures.specs.Callees.{Callee, Unknown, CallsMacro, CallsFunction, param_names}
use Rattle.dx_macros.specs.Walk.{Walk, Walked, Goes, and_then, walked_by, WalkUnder, Reader, enter_callee, walk_expr, walk_call, walk_args, walk_statement, walk_body, read_all, beside, pick, walk_macro, walk_at_top, walk_text, read_definition, reader_at}
use Rattle.dx_signatures.specs.Faults.{fault_of_call, arg_names}
use Rattle.dx_macros.proofs.BudgetLaw.{goes_inv, walked_inv, marked}
use Rattle.dx_texts.specs.Marks.{IsMarked, definition_walk, WalkedWithin, Grown}

still_marked : (xs : List Bool) (i j : ℕ) → slice_index_or xs j false ≡ true → slice_index_or (slice_set xs i true) j false ≡ true
still_marked [] i j e = cc
still_marked (x ∷ xs) zero zero e = refl
still_marked (x ∷ xs) zero (suc j) e = e
still_marked (x ∷ xs) (suc i) zero e = e
still_marked (x ∷ xs) (suc i) (suc j) e = still_marked xs i j e

module _ (macros : Macros) (defs : List TopText) where
  abbrev pub Within : Walk → ℕ → Type 0
  Within b i = WalkedWithin macros defs b i

  abbrev pub Grew : Walk → Walk → Type 0
  Grew a b = Grown macros defs a b

  pub grown_read : (a b : Walk) → b.read ≡ a.read → Grew a b
  grown_read a b e = record {
    count = ap length e;
    marks = λ i h. ap (λ xs. slice_index_or xs i false) e ∙ h;
    fresh = λ i h. inl (ap (λ xs. slice_index_or xs i false) (sym e) ∙ h);
  }

  grown_same : (a b : Walk) → Goes a ≡ Goes b → Grew a b
  grown_same a b e = let same : a ≡ b = cc in grown_read a b (ap (λ (w : Walk). w.read) (sym same))

  within_on : (b c : Walk) (i : ℕ) → Grew b c → Within b i → Within c i
  within_on b c i g w = record { from = w.from; to = w.to; goes = w.goes; count = w.count ∙ sym g.count; within = λ j h. g.marks j (w.within j h) }

  grown_then : (a b c : Walk) → Grew a b → Grew b c → Grew a c
  grown_then a b c g h = record {
    count = h.count ∙ g.count;
    marks = λ i k. h.marks i (g.marks i k);
    fresh = λ i k. ⊎_elim (λ m. ⊎_elim inl (λ w. inr (within_on b c i h w)) (g.fresh i m)) inr (h.fresh i k);
  }

  abbrev pub Marks : Reader → Type 0
  Marks read = (name : Text) (a b : Walk) → read name a ≡ Goes b → Grew a b

  abbrev pub Enters : (Macro → List Step → Walk → Walked) → Type 0
  Enters enter = (m : Macro) (base : List Step) (a b : Walk) → enter m base a ≡ Goes b → Grew a b

  pub beside_marks : (own : List Text) (top : Reader) → Marks top → Marks (beside own top)
  beside_marks own top F name a b e = own_by (has own name) e
    where
      own_by : (c : Bool) → pick c Goes (top name) a ≡ Goes b → Grew a b
      own_by true h = grown_same a b h
      own_by false h = F name a b h

  pub all_mark : (read : Reader) → Marks read → (names : List Text) (a b : Walk) → read_all read names a ≡ Goes b → Grew a b
  all_mark read F [] a b e = grown_same a b e
  all_mark read F (n ∷ rest) a b e =
      let x = goes_inv (read n a) (λ w. read_all read rest w) b e in
      grown_then a x.0 b (F n a x.0 x.1) (all_mark read F rest x.0 b x.2)

  module _ (u : WalkUnder) (H : Enters u.enter) where
    pub callee_marks : (c : Callee) (base : List Step) (a b : Walk) → enter_callee u base c a ≡ Goes b → Grew a b
    callee_marks Unknown base a b e = grown_same a b e
    callee_marks (CallsMacro m) base a b e = H m base a b e
    callee_marks (CallsFunction f) base a b e = grown_same a b e

    mutual
      pub expr_marks : (e : Expr) (read : Reader) → Marks read → (base : List Step) (before : List Text) (targets : ℕ) (a b : Walk) → walk_expr u base read before targets e a ≡ Goes b → Grew a b
      expr_marks (Constant c) read F base before targets a b g = grown_same a b g
      expr_marks (Name x) read F base before targets a b g = F x a b g
      expr_marks (Frame v) read F base before targets a b g = grown_same a b g
      expr_marks (CallOf c) read F base before targets a b g = call_marks c read F base before targets a b g

      pub call_marks : (c : Call) (read : Reader) → Marks read → (base : List Step) (before : List Text) (targets : ℕ) (a b : Walk) → walk_call u base read before targets c a ≡ Goes b → Grew a b
      call_marks (MakeCall name cache args) read F base before targets a b g =
          let c = callee u.macros name in
          let step = next_step name before in
          let fault = fault_of_call a.calls c u.left (arg_names args) targets in
          let x = goes_inv (walked_by fault (base ++ step ∷ []) a) (λ w1. and_then (walk_args u base read (before ++ name ∷ []) args w1) (λ w2. enter_callee u (base ++ step ∷ []) c w2)) b g in
          let f = walked_inv fault (base ++ step ∷ []) a x.0 x.1 in
          let y = goes_inv (walk_args u base read (before ++ name ∷ []) args x.0) (λ w2. enter_callee u (base ++ step ∷ []) c w2) b x.2 in
          grown_then a x.0 b (grown_read a x.0 f.1) (grown_then x.0 y.0 b (args_mark args read F base (before ++ name ∷ []) x.0 y.0 y.1) (callee_marks c (base ++ step ∷ []) y.0 b y.2))

      pub args_mark : (args : Args) (read : Reader) → Marks read → (base : List Step) (before : List Text) (a b : Walk) → walk_args u base read before args a ≡ Goes b → Grew a b
      args_mark NoArg read F base before a b g = grown_same a b g
      args_mark (AndArg m e args) read F base before a b g =
          let x = goes_inv (walk_expr u base read before 0 e a) (λ w1. walk_args u base read (before ++ calls_in e) args w1) b g in
          grown_then a x.0 b (expr_marks e read F base before 0 a x.0 x.1) (args_mark args read F base (before ++ calls_in e) x.0 b x.2)

    pub statement_marks : (s : Stmt) (read : Reader) → Marks read → (base : List Step) (before : List Text) (a b : Walk) → walk_statement u base read before s a ≡ Goes b → Grew a b
    statement_marks (Assigns ts e) read F base before a b g = expr_marks e read F base before (length ts) a b g
    statement_marks (Calls x) read F base before a b g = call_marks x read F base before 0 a b g
    statement_marks (Defines x) read F base before a b g = grown_same a b g
    statement_marks (Including x) read F base before a b g = grown_same a b g
    statement_marks (Sets v e) read F base before a b g = grown_same a b g
    statement_marks (Says x) read F base before a b g = grown_same a b g
    statement_marks (Sequences x) read F base before a b g = grown_same a b g

    pub body_marks : (ss : Stmts) (top : Reader) → Marks top → (results own : List Text) (base : List Step) (before : List Text) (a b : Walk) → walk_body u base top results own before ss a ≡ Goes b → Grew a b
    body_marks NoStmt top F results own base before a b g = all_mark (beside own top) (beside_marks own top F) results a b g
    body_marks (AndStmt s ss) top F results own base before a b g =
        let x = goes_inv (walk_statement u base (beside own top) before s a) (λ w1. walk_body u base top results (names_after own s) (calls_after before s) ss w1) b g in
        grown_then a x.0 b (statement_marks s (beside own top) (beside_marks own top F) base before a x.0 x.1) (body_marks ss top F results (names_after own s) base (calls_after before s) x.0 b x.2)

  pub macro_marks : (top : Reader) → Marks top → (left : ℕ) → Enters (walk_macro macros top left)
  macro_marks top F zero m base a b g = grown_same a b g
  macro_marks top F (suc k) (MakeMacro name params results body) base a b g =
      body_marks (record { macros = macros; left = k; enter = walk_macro macros top k }) (macro_marks top F k) body top F results (param_names params) base [] a b g

  pub text_marks : (top : Reader) → Marks top → (t : TopText) (a b : Walk) → walk_text macros top t a ≡ Goes b → Grew a b
  text_marks top F t a b g = expr_marks (walk_at_top macros top) (macro_marks top F 64) t.value top F (first_target t.targets) [] (length t.targets) a b g

  seen_by : (i : ℕ) → Marks (reader_at macros defs i) → (c : Bool) (a b : Walk) →
      pick c Goes (λ w1. definition_walk macros defs i (record { calls = w1.calls; read = slice_set w1.read i true })) a ≡ Goes b → Grew a b
  seen_by i F true a b e = grown_same a b e
  seen_by i F false a b e =
      let a1 : Walk = record { calls = a.calls; read = slice_set a.read i true } in
      let g = text_marks (reader_at macros defs i) F (definition defs i) a1 b e in
      let own : Within b i = record { from = a1; to = b; goes = e; count = sym g.count; within = λ j h. h } in
      record {
        count = g.count ∙ length-set a.read i true;
        marks = λ j k. g.marks j (still_marked a.read i j k);
        fresh = λ j k. ⊎_elim (λ m. ⊎_elim (λ same. inr (subst (Within b) (sym same) own)) inl (marked a.read i j m)) inr (g.fresh j k);
      }

  named_by : (i : ℕ) → Marks (reader_at macros defs i) → (name : Text) (a b : Walk) (c : Bool) →
      pick c (read_definition macros (reader_at macros defs i) i (definition defs i)) (reader_at macros defs i name) a ≡ Goes b → Grew a b
  named_by i F name a b true e = seen_by i F (slice_index_or a.read i false) a b e
  named_by i F name a b false e = F name a b e

  pub reader_marks : (p : ℕ) → Marks (reader_at macros defs p)
  reader_marks zero name a b e = grown_same a b e
  reader_marks (suc i) name a b e = named_by i (reader_marks i) name a b (has (definition defs i).targets name) e

  -- ---- a name that is read marks its definition

  marks_itself : (i : ℕ) (c : Bool) (a b : Walk) → slice_index_or a.read i false ≡ c → i < length a.read →
      pick c Goes (λ w1. definition_walk macros defs i (record { calls = w1.calls; read = slice_set w1.read i true })) a ≡ Goes b → IsMarked b i
  marks_itself i true a b h lt e = let same : a ≡ b = cc in subst (λ (w : Walk). IsMarked w i) same h
  marks_itself i false a b h lt e =
      let a1 : Walk = record { calls = a.calls; read = slice_set a.read i true } in
      (text_marks (reader_at macros defs i) (reader_marks i) (definition defs i) a1 b e).marks i (get_or-set_same a.read i true false lt)

  named_marks : (q i : ℕ) (name : Text) (a b : Walk) (c : Bool) → q < length a.read → (if c then Some q else last_named defs q name) ≡ Some i →
      (reader_at macros defs q name a ≡ Goes b → last_named defs q name ≡ Some i → IsMarked b i) →
      pick c (read_definition macros (reader_at macros defs q) q (definition defs q)) (reader_at macros defs q name) a ≡ Goes b → IsMarked b i
  named_marks q i name a b true lt last go e = let same : q ≡ i = cc in subst (IsMarked b) same (marks_itself q (slice_index_or a.read q false) a b refl lt e)
  named_marks q i name a b false lt last go e = go e last

  pub read_marks : (p i : ℕ) (name : Text) (a b : Walk) → p ≤ length a.read → reader_at macros defs p name a ≡ Goes b → last_named defs p name ≡ Some i → IsMarked b i
  read_marks zero i name a b le e last = cc
  read_marks (suc q) i name a b le e last = named_marks q i name a b (has (definition defs q).targets name) (omega (arith, le)) last (read_marks q i name a b (omega (arith, le))) e
