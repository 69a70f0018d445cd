-- A session is the same, however its executions are told.
use Rattle.std.proofs.Common.{◌≡◌, ℕ, zero, suc, List, [], ◌∷◌, ◌++◌, map, Bool, true, false, Option, Some, None, refl, sym, ap, ◌∙◌}
use Rattle.std.proofs.lemmas.List.{map-append}
use Rattle.std.specs.Prelude.{ℤ, is_some, if◌then◌else◌}
use Rattle.dx_ast.specs.declared.sequencing.FrameVar.{FrameVar}
use Rattle.dx_ast.specs.declared.sequencing.Frames.{Frames}
use Rattle.dx_ast.specs.declared.sequencing.Word.{Word}
use Rattle.dx_ast.specs.declared.sequencing.Word.TheVariants as word
use Rattle.dx_ast.specs.Classes.{Text}
use Rattle.dx_ast.specs.Syntax.{Expr, Constant, Name, Frame, CallOf, Stmt, Assigns, Calls, Defines, Includes, Sets, Says, Sequences, Stmts, NoStmt, AndStmt}
use Rattle.dx_macros.specs.Dictionary.{Dictionary}
use Rattle.dx_macros.specs.Expansion.{effects}
use Rattle.dx_macros.specs.Walk.{Fault, first_fault}
use Rattle.dx_sequencer.specs.Sequencer as seq
use Rattle.dx_performing.specs.Course.{Fixed}
use Rattle.dx_performing.specs.Execution.{Current, execution, world_with}
use Rattle.dx_performing.specs.Kept.{Kept, current}
use Rattle.dx_performing.proofs.Executed.{leaves_what_is_meant}
use Rattle.dx_performing.proofs.LinksSound.{links_stay_right}
use Rattle.dx_shown.specs.Session as session
use Rattle.dx_shown.specs.Session.{State, Shown, Executes, Done, Making, and_then, silently, with_kept, with_sequencer}
use Rattle.dx_shown.specs.Made.{Meant, Coursed, meant, meant_unless, coursed, coursed_unless}
use Rattle.dx_shown.specs.Alike.{state_by, shown_by, done_by, meant_of, KeptRight}

-- ---- whatever is kept and told

module _ (K L X Y : Type 0) (f : K → L) (g : X → Y) (P : K → Type 0) (make : Making K X) (make' : Making L Y)
    (alike : (d : Dictionary) (frames : Frames) (s : Stmt) (k : K) → P k → make' d frames s (f k) ≡ (g (make d frames s k).0, f (make d frames s k).1))
    (stays : (d : Dictionary) (frames : Frames) (s : Stmt) (k : K) → P k → P (make d frames s k).1) where
  -- it comes to the same, and what is kept behind it is right
  record Same (d : Done K X) (d' : Done L Y) : Type 0 where
    same : d' ≡ done_by f g d
    right : P d.state.kept

  quiet : (st : State K) → P st.kept → Same (silently st) (silently (state_by f st))
  quiet st p = record { same = refl; right = p }

  executed_same : (st : State K) (s : Stmt) → P st.kept → Same (session.executed make st s) (session.executed make' (state_by f st) s)
  executed_same st s p = record {
    same = ap (λ (made : Y × L). record { shown = Executes made.0 ∷ []; state = with_kept made.1 (state_by f st) }) (alike st.dictionary (seq.frames_of st.sequencer) s st.kept p);
    right = stays st.dictionary (seq.frames_of st.sequencer) s st.kept p;
  }

  then_same : (first : Done K X) (first' : Done L Y) (next : State K → Done K X) (next' : State L → Done L Y) → Same first first' → ((st : State K) → P st.kept → Same (next st) (next' (state_by f st))) → Same (and_then first next) (and_then first' next')
  then_same first first' next next' one more =
      let two = more first.state one.right in
      record {
        same =
            ap (λ (d : Done L Y). and_then d next') one.same
            ∙ (ap (λ (d : Done L Y). record { shown = map (shown_by g) first.shown ++ d.shown; state = d.state }) two.same
            ∙ ap (λ (l : List (Shown Y)). record { shown = l; state = state_by f (next first.state).state }) (sym (map-append (shown_by g) first.shown (next first.state).shown)));
        right = two.right;
      }

  assigned_same : (targets : List Text) (e : Expr) (st : State K) → P st.kept → Same (session.assigned make targets e st) (session.assigned make' targets e (state_by f st))
  assigned_same targets (Constant c) st p = quiet (session.with_assignment targets (Constant c) st) p
  assigned_same targets (Name n) st p = quiet (session.with_assignment targets (Name n) st) p
  assigned_same targets (Frame v) st p = quiet (session.with_assignment targets (Frame v) st) p
  assigned_same targets (CallOf c) st p = then_same _ _ (λ next. silently (session.joined targets (CallOf c) next)) (λ next. silently (session.joined targets (CallOf c) next)) (executed_same st (Assigns targets (CallOf c)) p) joins
    where
      by : (b : Bool) (st : State K) → P st.kept → Same (silently (if b then st else session.with_assignment targets (CallOf c) st)) (silently (if b then state_by f st else session.with_assignment targets (CallOf c) (state_by f st)))
      by true st p = quiet st p
      by false st p = quiet (session.with_assignment targets (CallOf c) st) p

      joins : (st : State K) → P st.kept → Same (silently (session.joined targets (CallOf c) st)) (silently (session.joined targets (CallOf c) (state_by f st)))
      joins st p = by (is_some (first_fault st.dictionary (Assigns targets (CallOf c)))) st p

  set_same : (v : FrameVar) (x : ℤ) (st : State K) → P st.kept → Same (session.set v x st) (session.set v x (state_by f st))
  set_same v x st p = by (seq.is_refused v x)
    where
      by : (b : Bool) → Same (if b then session.refused session.FrameRange st else silently (with_sequencer (seq.with_var v x st.sequencer) st)) (if b then session.refused session.FrameRange (state_by f st) else silently (with_sequencer (seq.with_var v x st.sequencer) (state_by f st)))
      by true = record { same = refl; right = p }
      by false = quiet (with_sequencer (seq.with_var v x st.sequencer) st) p

  sequence_same : (s : Option Stmt) (st : State K) → P st.kept → Same (session.sequence_executed make s st) (session.sequence_executed make' s (state_by f st))
  sequence_same None st p = quiet st p
  sequence_same (Some s) st p = executed_same st s p

  at_frame_same : (frame : Option ℤ) (st : State K) → P st.kept → Same (session.at_frame make frame st) (session.at_frame make' frame (state_by f st))
  at_frame_same None st p = quiet st p
  at_frame_same (Some frame) st p = sequence_same st.sequence st p

  stepped_same : (st : State K) → P st.kept → Same (session.stepped make st) (session.stepped make' (state_by f st))
  stepped_same st p = at_frame_same (seq.step_frame st.sequencer) (with_sequencer (seq.after_step st.sequencer) st) p

  often_same : (n : ℕ) (st : State K) → P st.kept → Same (session.stepped_often make n st) (session.stepped_often make' n (state_by f st))
  often_same zero st p = quiet st p
  often_same (suc n) st p = then_same _ _ (session.stepped_often make n) (session.stepped_often make' n) (stepped_same st p) (often_same n)

  played_same : (st : State K) → P st.kept → Same (session.played make st) (session.played make' (state_by f st))
  played_same st p = by (seq.is_too_long (seq.at_play st.sequencer))
    where
      by : (b : Bool) → Same (if b then session.refused session.PlayTooLong st else session.stepped_often make (seq.play_steps (seq.at_play st.sequencer)) (with_sequencer (seq.at_play st.sequencer) st)) (if b then session.refused session.PlayTooLong (state_by f st) else session.stepped_often make' (seq.play_steps (seq.at_play st.sequencer)) (with_sequencer (seq.at_play st.sequencer) (state_by f st)))
      by true = record { same = refl; right = p }
      by false = often_same (seq.play_steps (seq.at_play st.sequencer)) (with_sequencer (seq.at_play st.sequencer) st) p

  told_same : (w : Word) (st : State K) → P st.kept → Same (session.told make w st) (session.told make' w (state_by f st))
  told_same word.Play st p = played_same st p
  told_same word.Step st p = stepped_same st p
  told_same word.Stop st p = quiet (with_sequencer (seq.rewound st.sequencer) st) p
  told_same word.Forward st p = quiet (with_sequencer (record st.sequencer { forward = true }) st) p
  told_same word.Backward st p = quiet (with_sequencer (record st.sequencer { forward = false }) st) p
  told_same word.LoopOn st p = quiet (with_sequencer (record st.sequencer { loops = true }) st) p
  told_same word.LoopOff st p = quiet (with_sequencer (record st.sequencer { loops = false }) st) p
  told_same word.PalindromeOn st p = quiet (with_sequencer (record st.sequencer { palindrome = true }) st) p
  told_same word.PalindromeOff st p = quiet (with_sequencer (record st.sequencer { palindrome = false }) st) p

  statement_same : (st : State K) (s : Stmt) → P st.kept → Same (session.statement make st s) (session.statement make' (state_by f st) s)
  statement_same st (Assigns targets e) p = assigned_same targets e st p
  statement_same st (Calls c) p = executed_same st (Calls c) p
  statement_same st (Defines m) p = record { same = refl; right = p }
  statement_same st (Includes name) p = quiet st p
  statement_same st (Sets v e) p = set_same v (session.setting (seq.frames_of st.sequencer) e) st p
  statement_same st (Says w) p = told_same w st p
  statement_same st (Sequences c) p = record { same = refl; right = p }

  statements_same : (st : State K) (ss : Stmts) → P st.kept → Same (session.statements make st ss) (session.statements make' (state_by f st) ss)
  statements_same st NoStmt p = quiet st p
  statements_same st (AndStmt s rest) p = then_same _ _ (λ next. session.statements make next rest) (λ next. session.statements make' next rest) (statement_same st s p) (λ next q. statements_same next rest q)

-- ---- the meaning and the machine

module _ (x : Fixed) where
  unless_alike : (fault : Option Fault) (d : Dictionary) (frames : Frames) (s : Stmt) (k : Kept) → KeptRight x k → meant_unless fault (execution (world_with (current k) x.answer x.file) (effects d frames s)) (current k) ≡ (meant_of (coursed_unless x fault (effects d frames s) k).0, current (coursed_unless x fault (effects d frames s) k).1)
  unless_alike None d frames s k p = ap (λ (now : Current). (record { execution = execution (world_with (current k) x.answer x.file) (effects d frames s); behind = now }, now)) (sym (leaves_what_is_meant x k (effects d frames s) p))
  unless_alike (Some fault) d frames s k p = refl

  makes_alike : (d : Dictionary) (frames : Frames) (s : Stmt) (k : Kept) → KeptRight x k → meant x.answer x.file d frames s (current k) ≡ (meant_of (coursed x d frames s k).0, current (coursed x d frames s k).1)
  makes_alike d frames s k p = unless_alike (first_fault d s) d frames s k p

  stays_unless : (fault : Option Fault) (d : Dictionary) (frames : Frames) (s : Stmt) (k : Kept) → KeptRight x k → KeptRight x (coursed_unless x fault (effects d frames s) k).1
  stays_unless None d frames s k p = links_stay_right x k (effects d frames s) p
  stays_unless (Some fault) d frames s k p = p

  stays_right : (d : Dictionary) (frames : Frames) (s : Stmt) (k : Kept) → KeptRight x k → KeptRight x (coursed x d frames s k).1
  stays_right d frames s k p = stays_unless (first_fault d s) d frames s k p

pub statements_are_meant : (x : Fixed) (st : State Kept) (s : Stmt) → KeptRight x st.kept → (session.statement (meant x.answer x.file) (state_by current st) s ≡ done_by current meant_of (session.statement (coursed x) st s)) × KeptRight x (session.statement (coursed x) st s).state.kept
statements_are_meant x st s p =
    let same = statement_same Kept Current Coursed Meant current meant_of (KeptRight x) (coursed x) (meant x.answer x.file) (makes_alike x) (stays_right x) st s p in
    (same.same, same.right)

pub sessions_are_meant : (x : Fixed) (st : State Kept) (ss : Stmts) → KeptRight x st.kept → (session.statements (meant x.answer x.file) (state_by current st) ss ≡ done_by current meant_of (session.statements (coursed x) st ss)) × KeptRight x (session.statements (coursed x) st ss).state.kept
sessions_are_meant x st ss p =
    let same = statements_same Kept Current Coursed Meant current meant_of (KeptRight x) (coursed x) (meant x.answer x.file) (makes_alike x) (stays_right x) st ss p in
    (same.same, same.right)
