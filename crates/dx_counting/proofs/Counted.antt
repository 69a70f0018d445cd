-- A walk counts each call of its text, and those of each definition that it marks, once.
use Rattle.std.proofs.Common.{◌≡◌, ℕ, zero, suc, ◌+◌, ◌<◌, ◌≤◌, List, [], ◌∷◌, ◌++◌, length, Option, Some, None, Bool, true, false, refl, subst, ◌∙◌, arith}
use Rattle.std.specs.Prelude.{slice_index_or, slice_set, nat_le, if◌then◌else◌}
use Rattle.std.proofs.lemmas.List.{length-set, length-replicate}
use Rattle.dx_ast.specs.Classes.{Text}
use Rattle.dx_ast.specs.Limits.{max_macro_steps, max_walk_calls}
use Rattle.dx_ast.specs.Syntax.{Expr, Constant, Name, Frame, CallOf, Call, MakeCall, Args, NoArg, AndArg, Stmt, Assigns, Calls, Defines, Includes as Including, Sets, Says, Sequences, Macro, MakeMacro, Stmts, NoStmt, AndStmt}
use Rattle.dx_base.specs.NameLists.{has}
use Rattle.dx_definitions.specs.TopTexts.{TopText, definition}
use Rattle.dx_signatures.specs.declared.fault.StaticFault.{StaticFault}
use Rattle.dx_signatures.specs.declared.fault.StaticFault.TheVariants as fault
use Rattle.dx_signatures.specs.Callees.{Callee, Unknown, CallsMacro, CallsFunction, param_names}
use Rattle.dx_signatures.specs.Faults.{fault_of_call, fault_of_callee, arg_names}
use Rattle.dx_macros.specs.Site.{Step, next_step, first_target}
use Rattle.dx_macros.specs.Names.{calls_in, calls_after, names_after}
use Rattle.dx_macros.specs.Dictionary.{Macros, callee}
use Rattle.dx_macros.specs.Walk.{Walk, Walked, Goes, and_then, walked_by, WalkUnder, Reader, enter_callee, walk_expr, walk_call, walk_args, walk_statement, walk_body, read_all, beside, pick, walk_macro, walk_at_top, walk_text, read_definition, reader_at, walk_begins}
use Rattle.dx_macros.proofs.BudgetLaw.{goes_inv}
use Rattle.dx_counting.specs.Counting.{count_callee, count_expr, count_call, count_args, count_statement, count_body, count_macro, count_text, count_marked, CountsAll}
use Rattle.dx_counting.proofs.Marking.{marked_above, none_marked}

-- ---- one call

room_by : (b : Bool) (o : Option StaticFault) → (if b then Some fault.Calls else o) ≡ None → b ≡ false
room_by true o e = cc
room_by false o e = refl

-- a call without a fault comes while there is room
room : (calls left targets : ℕ) (c : Callee) (names : List (Option Text)) → fault_of_call calls c left names targets ≡ None → calls < max_walk_calls
room calls left targets c names e = let test : nat_le 65536 calls ≡ false = room_by (nat_le 65536 calls) (fault_of_callee c left names targets) e in grind (arith, test)

-- between two states of a walk lie so many calls, and those of the definitions that were marked between them
record Counted (macros : Macros) (defs : List TopText) (n : ℕ) (a b : Walk) : Type 0 where
  pub count : length b.read ≡ length a.read
  pub sum : b.calls + count_marked macros defs a.read (length defs) ≡ (a.calls + n) + count_marked macros defs b.read (length defs)
  pub few : a.calls ≤ max_walk_calls → b.calls ≤ max_walk_calls

module _ (macros : Macros) (defs : List TopText) where
  abbrev Adds : ℕ → Walk → Walk → Type 0
  Adds n a b = Counted macros defs n a b

  -- there is a mark for each definition
  abbrev Long : Walk → Type 0
  Long a = length a.read ≡ length defs

  adds_none : (a b : Walk) → Goes a ≡ Goes b → Adds 0 a b
  adds_none a b e = let same : a ≡ b = cc in subst (Adds 0 a) same (record { count = refl; sum = omega arith; few = λ le. le })

  adds_one : (o : Option StaticFault) (site : List Step) (a b : Walk) → (o ≡ None → a.calls < max_walk_calls) → walked_by o site a ≡ Goes b → Adds 1 a b
  adds_one (Some f) site a b few e = cc
  adds_one None site a b few e =
      let x : Walk = record { calls = suc a.calls; read = a.read } in
      let same : x ≡ b = cc in
      subst (Adds 1 a) same (record { count = refl; sum = omega arith; few = λ le. few refl })

  adds_then : (m n : ℕ) (a b c : Walk) → Adds m a b → Adds n b c → Adds (m + n) a c
  adds_then m n a b c g h = record { count = h.count ∙ g.count; sum = omega (arith, g.sum, h.sum); few = λ le. h.few (g.few le) }

  adds_call : (m n : ℕ) (a b c d : Walk) → Adds 1 a b → Adds m b c → Adds n c d → Adds (suc (m + n)) a d
  adds_call m n a b c d f g h = record { count = h.count ∙ g.count ∙ f.count; sum = omega (arith, f.sum, g.sum, h.sum); few = λ le. h.few (g.few (f.few le)) }

  abbrev Reads : Reader → Type 0
  Reads read = (name : Text) (a b : Walk) → Long a → read name a ≡ Goes b → Adds 0 a b

  abbrev Enters : (Macro → List Step → Walk → Walked) → (Macro → ℕ) → Type 0
  Enters enter inside = (m : Macro) (base : List Step) (a b : Walk) → Long a → enter m base a ≡ Goes b → Adds (inside m) a b

  beside_adds : (own : List Text) (top : Reader) → Reads top → Reads (beside own top)
  beside_adds own top F name a b long e = own_by (has own name) e
    where
      own_by : (c : Bool) → pick c Goes (top name) a ≡ Goes b → Adds 0 a b
      own_by true h = adds_none a b h
      own_by false h = F name a b long h

  all_add : (read : Reader) → Reads read → (names : List Text) (a b : Walk) → Long a → read_all read names a ≡ Goes b → Adds 0 a b
  all_add read F [] a b long e = adds_none a b e
  all_add read F (n ∷ rest) a b long e =
      let x = goes_inv (read n a) (λ w. read_all read rest w) b e in
      let g = F n a x.0 long x.1 in
      adds_then 0 0 a x.0 b g (all_add read F rest x.0 b (g.count ∙ long) x.2)

  module _ (u : WalkUnder) (inside : Macro → ℕ) (H : Enters u.enter inside) where
    callee_adds : (c : Callee) (base : List Step) (a b : Walk) → Long a → enter_callee u base c a ≡ Goes b → Adds (count_callee inside c) a b
    callee_adds Unknown base a b long e = adds_none a b e
    callee_adds (CallsMacro m) base a b long e = H m base a b long e
    callee_adds (CallsFunction f) base a b long e = adds_none a b e

    mutual
      expr_adds : (e : Expr) (read : Reader) → Reads read → (base : List Step) (before : List Text) (targets : ℕ) (a b : Walk) → Long a → walk_expr u base read before targets e a ≡ Goes b → Adds (count_expr u.macros inside e) a b
      expr_adds (Constant c) read F base before targets a b long g = adds_none a b g
      expr_adds (Name x) read F base before targets a b long g = F x a b long g
      expr_adds (Frame v) read F base before targets a b long g = adds_none a b g
      expr_adds (CallOf c) read F base before targets a b long g = call_adds c read F base before targets a b long g

      call_adds : (c : Call) (read : Reader) → Reads read → (base : List Step) (before : List Text) (targets : ℕ) (a b : Walk) → Long a → walk_call u base read before targets c a ≡ Goes b → Adds (count_call u.macros inside c) a b
      call_adds (MakeCall name cache args) read F base before targets a b long g =
          let c = callee u.macros name in
          let step = next_step name before in
          let fault' = fault_of_call a.calls c u.left (arg_names args) targets in
          let x = goes_inv (walked_by fault' (base ++ step ∷ []) a) (λ w1. and_then (walk_args u base read (before ++ name ∷ []) args w1) (λ w2. enter_callee u (base ++ step ∷ []) c w2)) b g in
          let y = goes_inv (walk_args u base read (before ++ name ∷ []) args x.0) (λ w2. enter_callee u (base ++ step ∷ []) c w2) b x.2 in
          let one = adds_one fault' (base ++ step ∷ []) a x.0 (room a.calls u.left targets c (arg_names args)) x.1 in
          let more = args_add args read F base (before ++ name ∷ []) x.0 y.0 (one.count ∙ long) y.1 in
          adds_call (count_args u.macros inside args) (count_callee inside c) a x.0 y.0 b one more (callee_adds c (base ++ step ∷ []) y.0 b (more.count ∙ one.count ∙ long) y.2)

      args_add : (args : Args) (read : Reader) → Reads read → (base : List Step) (before : List Text) (a b : Walk) → Long a → walk_args u base read before args a ≡ Goes b → Adds (count_args u.macros inside args) a b
      args_add NoArg read F base before a b long g = adds_none a b g
      args_add (AndArg m e args) read F base before a b long g =
          let x = goes_inv (walk_expr u base read before 0 e a) (λ w1. walk_args u base read (before ++ calls_in e) args w1) b g in
          let first = expr_adds e read F base before 0 a x.0 long x.1 in
          adds_then (count_expr u.macros inside e) (count_args u.macros inside args) a x.0 b first (args_add args read F base (before ++ calls_in e) x.0 b (first.count ∙ long) x.2)

    statement_adds : (s : Stmt) (read : Reader) → Reads read → (base : List Step) (before : List Text) (a b : Walk) → Long a → walk_statement u base read before s a ≡ Goes b → Adds (count_statement u.macros inside s) a b
    statement_adds (Assigns ts e) read F base before a b long g = expr_adds e read F base before (length ts) a b long g
    statement_adds (Calls x) read F base before a b long g = call_adds x read F base before 0 a b long g
    statement_adds (Defines x) read F base before a b long g = adds_none a b g
    statement_adds (Including x) read F base before a b long g = adds_none a b g
    statement_adds (Sets v e) read F base before a b long g = adds_none a b g
    statement_adds (Says x) read F base before a b long g = adds_none a b g
    statement_adds (Sequences x) read F base before a b long g = adds_none a b g

    body_adds : (ss : Stmts) (top : Reader) → Reads top → (results own : List Text) (base : List Step) (before : List Text) (a b : Walk) → Long a → walk_body u base top results own before ss a ≡ Goes b → Adds (count_body u.macros inside ss) a b
    body_adds NoStmt top F results own base before a b long g = all_add (beside own top) (beside_adds own top F) results a b long g
    body_adds (AndStmt s ss) top F results own base before a b long g =
        let x = goes_inv (walk_statement u base (beside own top) before s a) (λ w1. walk_body u base top results (names_after own s) (calls_after before s) ss w1) b g in
        let first = statement_adds s (beside own top) (beside_adds own top F) base before a x.0 long x.1 in
        adds_then (count_statement u.macros inside s) (count_body u.macros inside ss) a x.0 b first (body_adds ss top F results (names_after own s) base (calls_after before s) x.0 b (first.count ∙ long) x.2)

  macro_adds : (top : Reader) → Reads top → (left : ℕ) → Enters (walk_macro macros top left) (count_macro macros left)
  macro_adds top F zero m base a b long g = adds_none a b g
  macro_adds top F (suc k) (MakeMacro name params results body) base a b long g =
      body_adds (record { macros = macros; left = k; enter = walk_macro macros top k }) (count_macro macros k) (macro_adds top F k) body top F results (param_names params) base [] a b long g

  text_adds : (top : Reader) → Reads top → (t : TopText) (a b : Walk) → Long a → walk_text macros top t a ≡ Goes b → Adds (count_text macros t) a b
  text_adds top F t a b long g = expr_adds (walk_at_top macros top) (count_macro macros max_macro_steps) (macro_adds top F max_macro_steps) t.value top F (first_target t.targets) [] (length t.targets) a b long g

  -- ---- a definition at its first reading

  seen_by : (i : ℕ) → i < length defs → Reads (reader_at macros defs i) → (c : Bool) (a b : Walk) → Long a → slice_index_or a.read i false ≡ c →
      pick c Goes (λ w1. walk_text macros (reader_at macros defs i) (definition defs i) (record { calls = w1.calls; read = slice_set w1.read i true })) a ≡ Goes b → Adds 0 a b
  seen_by i lt F true a b long flag e = adds_none a b e
  seen_by i lt F false a b long flag e =
      let a1 : Walk = record { calls = a.calls; read = slice_set a.read i true } in
      let g = text_adds (reader_at macros defs i) F (definition defs i) a1 b (length-set a.read i true ∙ long) e in
      let further = marked_above macros defs a.read i (length defs) lt (omega (arith, lt, long)) flag in
      record { count = g.count ∙ length-set a.read i true; sum = omega (arith, g.sum, further); few = g.few }

  named_by : (i : ℕ) → i < length defs → Reads (reader_at macros defs i) → (name : Text) (a b : Walk) (c : Bool) → Long a →
      pick c (read_definition macros (reader_at macros defs i) i (definition defs i)) (reader_at macros defs i name) a ≡ Goes b → Adds 0 a b
  named_by i lt F name a b true long e = seen_by i lt F (slice_index_or a.read i false) a b long refl e
  named_by i lt F name a b false long e = F name a b long e

  reader_adds : (p : ℕ) → p ≤ length defs → Reads (reader_at macros defs p)
  reader_adds zero le name a b long e = adds_none a b e
  reader_adds (suc i) le name a b long e = named_by i (omega (arith, le)) (reader_adds i (omega (arith, le))) name a b (has (definition defs i).targets name) long e

-- the law
pub all_counted : CountsAll
all_counted d t w e =
    let n = length d.definitions in
    let top = reader_at d.macros d.definitions n in
    let g = text_adds d.macros d.definitions top (reader_adds d.macros d.definitions n (omega arith)) t (walk_begins d) w (length-replicate n false) e in
    let none = none_marked d.macros d.definitions n n in
    let few = g.few (omega arith) in
    (omega (arith, g.sum, none), omega (arith, g.sum, none, few))
