-- Each execution reads the files that its Imports name, but for the names under which earlier ones have put a file.
use Rattle.std.proofs.Common.{◌≡◌, ℕ, zero, suc, List, [], ◌∷◌, ◌++◌, map, Bool, true, false, Option, Some, None, refl, sym, ap₂, ◌∙◌, subst}
use Rattle.std.specs.Prelude.{ℤ, is_some, if◌then◌else◌}
use Rattle.dx_ast.specs.declared.sequencing.FrameVar.{FrameVar}
use Rattle.dx_ast.specs.declared.sequencing.Frames.{Frames}
use Rattle.dx_ast.specs.declared.sequencing.Word.{Word}
use Rattle.dx_ast.specs.declared.sequencing.Word.TheVariants as word
use Rattle.dx_ast.specs.Classes.{Text}
use Rattle.dx_ast.specs.Syntax.{Expr, Constant, Name, Frame, CallOf, Stmt, Assigns, Calls, Defines, Includes, Sets, Says, Sequences, Stmts, NoStmt, AndStmt}
use Rattle.dx_demanded.specs.Reads.{HaveWhatWasPut}
use Rattle.dx_demanded.proofs.Reading.{runs_have_what_was_put, reads_not_put}
use Rattle.dx_getting.proofs.TellLaws.{reads-append}
use Rattle.dx_looking.specs.Setting.{fixed}
use Rattle.dx_machine.specs.Machine.{tasks_of, reads_in}
use Rattle.dx_macros.specs.Dictionary.{Dictionary}
use Rattle.dx_macros.specs.Expansion.{effects}
use Rattle.dx_macros.specs.Tree.{CallTree}
use Rattle.dx_macros.specs.Walk.{Fault, first_fault}
use Rattle.dx_performing.specs.Course.{Fixed, around_of, world_of, begins, course, committed, unless_full}
use Rattle.dx_performing.specs.Execution.{Export, execution, after_exports}
use Rattle.dx_performing.specs.Kept.{Kept, is_full, emptied, new as none_kept}
use Rattle.dx_performing.specs.Meant.{LinksRight}
use Rattle.dx_performing.proofs.LinksSound.{links_stay_right}
use Rattle.dx_sequencer.specs.Sequencer as seq
use Rattle.dx_shown.specs.Made.{Coursed, coursed, coursed_unless}
use Rattle.dx_shown.specs.Session as session
use Rattle.dx_shown.specs.Session.{State, Shown, Executes, PlayTooLong, FrameRange, Done, Making, and_then, silently, with_kept, with_sequencer, initial}
use Rattle.dx_telling.specs.declared.listings.Listings.{Listings}
use Rattle.dx_outcome.specs.Laws.{ReadsAreOfNamesNotPut, AllReadsAreOfNamesNotPut}
use Rattle.dx_outcome.specs.Outcome.{Seen, seen_of, listings_of, shown_of, outcome, runs_of}
use Rattle.dx_outcome.specs.Plan.{NoLine, Refuses, Performs}
use Rattle.dx_outcome.specs.Reads.{asked_behind, EachReads}

-- ---- executions one behind the other, each from what the one before it has left

module _ (K X : Type 0) (Good : K → Type 0) (Leads : K → X → K → Type 0) (make : Making K X)
    (makes : (d : Dictionary) (frames : Frames) (s : Stmt) (k : K) → Good k → Leads k (make d frames s k).0 (make d frames s k).1 × Good (make d frames s k).1) where
  abbrev pub Chain : K → List (Shown X) → K → Type 0
  Chain k [] end = k ≡ end
  Chain k (Executes x ∷ rest) end = (next : K) × Leads k x next × Chain next rest end
  Chain k (PlayTooLong ∷ rest) end = Chain k rest end
  Chain k (FrameRange ∷ rest) end = Chain k rest end

  chain_append : (k middle end : K) (xs ys : List (Shown X)) → Chain k xs middle → Chain middle ys end → Chain k (xs ++ ys) end
  chain_append k middle end [] ys p q = subst (λ (from : K). Chain from ys end) (sym p) q
  chain_append k middle end (Executes x ∷ rest) ys p q = (p.0, p.1, chain_append p.0 middle end rest ys p.2 q)
  chain_append k middle end (PlayTooLong ∷ rest) ys p q = chain_append k middle end rest ys p q
  chain_append k middle end (FrameRange ∷ rest) ys p q = chain_append k middle end rest ys p q

  record Chains (st : State K) (d : Done K X) : Type 0 where
    chain : Chain st.kept d.shown d.state.kept
    good : Good d.state.kept

  quiet : (st st' : State K) → st'.kept ≡ st.kept → Good st.kept → Chains st (silently st')
  quiet st st' e g = record { chain = sym e; good = subst Good (sym e) g }

  executed_chains : (st : State K) (s : Stmt) → Good st.kept → Chains st (session.executed make st s)
  executed_chains st s g =
      let made = makes st.dictionary (seq.frames_of st.sequencer) s st.kept g in
      record { chain = ((make st.dictionary (seq.frames_of st.sequencer) s st.kept).1, made.0, refl); good = made.1 }

  then_chains : (st : State K) (first : Done K X) (next : State K → Done K X) → Chains st first → ((st : State K) → Good st.kept → Chains st (next st)) → Chains st (and_then first next)
  then_chains st first next one more =
      let two = more first.state one.good in
      record { chain = chain_append st.kept first.state.kept (next first.state).state.kept first.shown (next first.state).shown one.chain two.chain; good = two.good }

  joined_chains : (targets : List Text) (e : Expr) (st : State K) → Good st.kept → Chains st (silently (session.joined targets e st))
  joined_chains targets e st g = by (is_some (first_fault st.dictionary (Assigns targets e)))
    where
      by : (b : Bool) → Chains st (silently (if b then st else session.with_assignment targets e st))
      by true = quiet st st refl g
      by false = quiet st (session.with_assignment targets e st) refl g

  assigned_chains : (targets : List Text) (e : Expr) (st : State K) → Good st.kept → Chains st (session.assigned make targets e st)
  assigned_chains targets (Constant c) st g = quiet st (session.with_assignment targets (Constant c) st) refl g
  assigned_chains targets (Name n) st g = quiet st (session.with_assignment targets (Name n) st) refl g
  assigned_chains targets (Frame v) st g = quiet st (session.with_assignment targets (Frame v) st) refl g
  assigned_chains targets (CallOf c) st g = then_chains st _ (λ next. silently (session.joined targets (CallOf c) next)) (executed_chains st (Assigns targets (CallOf c)) g) (λ next q. joined_chains targets (CallOf c) next q)

  set_chains : (v : FrameVar) (x : ℤ) (st : State K) → Good st.kept → Chains st (session.set v x st)
  set_chains v x st g = by (seq.is_refused v x)
    where
      by : (b : Bool) → Chains st (if b then session.refused session.FrameRange st else silently (with_sequencer (seq.with_var v x st.sequencer) st))
      by true = record { chain = refl; good = g }
      by false = quiet st (with_sequencer (seq.with_var v x st.sequencer) st) refl g

  sequence_chains : (s : Option Stmt) (st : State K) → Good st.kept → Chains st (session.sequence_executed make s st)
  sequence_chains None st g = quiet st st refl g
  sequence_chains (Some s) st g = executed_chains st s g

  at_frame_chains : (frame : Option ℤ) (st : State K) → Good st.kept → Chains st (session.at_frame make frame st)
  at_frame_chains None st g = quiet st st refl g
  at_frame_chains (Some frame) st g = sequence_chains st.sequence st g

  -- what the sequencer is told changes nothing that is kept
  behind_sequencer : (st : State K) (s : seq.State) (d : Done K X) → Chains (with_sequencer s st) d → Chains st d
  behind_sequencer st s d h = record { chain = h.chain; good = h.good }

  stepped_chains : (st : State K) → Good st.kept → Chains st (session.stepped make st)
  stepped_chains st g =
      let s = seq.after_step st.sequencer in
      behind_sequencer st s (session.stepped make st) (at_frame_chains (seq.step_frame st.sequencer) (with_sequencer s st) g)

  often_chains : (n : ℕ) (st : State K) → Good st.kept → Chains st (session.stepped_often make n st)
  often_chains zero st g = quiet st st refl g
  often_chains (suc n) st g = then_chains st _ (session.stepped_often make n) (stepped_chains st g) (often_chains n)

  played_chains : (st : State K) → Good st.kept → Chains st (session.played make st)
  played_chains st g = by (seq.is_too_long (seq.at_play st.sequencer))
    where
      by : (b : Bool) → Chains st (if b then session.refused session.PlayTooLong st else session.stepped_often make (seq.play_steps (seq.at_play st.sequencer)) (with_sequencer (seq.at_play st.sequencer) st))
      by true = record { chain = refl; good = g }
      by false =
          let s = seq.at_play st.sequencer in
          behind_sequencer st s (session.stepped_often make (seq.play_steps s) (with_sequencer s st)) (often_chains (seq.play_steps s) (with_sequencer s st) g)

  told_chains : (w : Word) (st : State K) → Good st.kept → Chains st (session.told make w st)
  told_chains word.Play st g = played_chains st g
  told_chains word.Step st g = stepped_chains st g
  told_chains word.Stop st g = quiet st _ refl g
  told_chains word.Forward st g = quiet st _ refl g
  told_chains word.Backward st g = quiet st _ refl g
  told_chains word.LoopOn st g = quiet st _ refl g
  told_chains word.LoopOff st g = quiet st _ refl g
  told_chains word.PalindromeOn st g = quiet st _ refl g
  told_chains word.PalindromeOff st g = quiet st _ refl g

  statement_chains : (st : State K) (s : Stmt) → Good st.kept → Chains st (session.statement make st s)
  statement_chains st (Assigns targets e) g = assigned_chains targets e st g
  statement_chains st (Calls c) g = executed_chains st (Calls c) g
  statement_chains st (Defines m) g = quiet st _ refl g
  statement_chains st (Includes name) g = quiet st st refl g
  statement_chains st (Sets v e) g = set_chains v (session.setting (seq.frames_of st.sequencer) e) st g
  statement_chains st (Says w) g = told_chains w st g
  statement_chains st (Sequences c) g = quiet st _ refl g

  statements_chain : (st : State K) (ss : Stmts) → Good st.kept → Chains st (session.statements make st ss)
  statements_chain st NoStmt g = quiet st st refl g
  statements_chain st (AndStmt s rest) g = then_chains st _ (λ next. session.statements make next rest) (statement_chains st s g) (λ next q. statements_chain next rest q)

  -- from the beginning of a session on
  pub all_chain : (k : K) (ss : Stmts) → Good k → Chain k (session.statements make (initial k) ss).shown (session.statements make (initial k) ss).state.kept
  all_chain k ss g = (statements_chain (initial k) ss g).chain

-- ---- an execution of the cache machine

abbrev IsRight : Fixed → Kept → Type 0
IsRight x k = LinksRight (around_of x k) k.links

-- its runs have what was put before it, and what it puts is written behind it
abbrev PutsBehind : Kept → Coursed → Kept → Type 0
PutsBehind k c next = HaveWhatWasPut k.written (tasks_of c.events) × (next.written ≡ after_exports k.written c.execution.exports)

written_stays : (k : Kept) → (unless_full k).written ≡ k.written
written_stays k = by (is_full k.terms)
  where
    by : (b : Bool) → (if b then emptied k else k).written ≡ k.written
    by true = refl
    by false = refl

makes_unless : (x : Fixed) (fault : Option Fault) (calls : List CallTree) (k : Kept) → IsRight x k → PutsBehind k (coursed_unless x fault calls k).0 (coursed_unless x fault calls k).1 × IsRight x (coursed_unless x fault calls k).1
makes_unless x None calls k r = ((runs_have_what_was_put x k calls r, written_stays (committed k (execution (world_of x k) calls) (course x k calls (begins k)))), links_stay_right x k calls r)
makes_unless x (Some f) calls k r = ((tt, refl), r)

makes : (x : Fixed) (d : Dictionary) (frames : Frames) (s : Stmt) (k : Kept) → IsRight x k → PutsBehind k (coursed x d frames s k).0 (coursed x d frames s k).1 × IsRight x (coursed x d frames s k).1
makes x d frames s k r = makes_unless x (first_fault d s) (effects d frames s) k r

abbrev Course : Fixed → Kept → List (Shown Coursed) → Kept → Type 0
Course x = Chain Kept Coursed (IsRight x) PutsBehind (coursed x) (makes x)

-- ---- what is read

each_reads : (x : Fixed) (asked : Listings) (k end : Kept) (shown : List (Shown Coursed)) → Course x k shown end → EachReads k.written (map (seen_of asked) shown)
each_reads x asked k end [] h = tt
each_reads x asked k end (Executes c ∷ rest) h =
    (reads_not_put k.written (tasks_of c.events) h.1.0, subst (λ (put : List Export). EachReads put (map (seen_of asked) rest)) h.1.1 (each_reads x asked h.0 end rest h.2))
each_reads x asked k end (PlayTooLong ∷ rest) h = (refl, each_reads x asked k end rest h)
each_reads x asked k end (FrameRange ∷ rest) h = (refl, each_reads x asked k end rest h)

pub reads_of_names_not_put : ReadsAreOfNamesNotPut
reads_of_names_not_put answer files NoLine = (refl, tt)
reads_of_names_not_put answer files (Refuses reads why) = (refl, tt)
reads_of_names_not_put answer files (Performs reads said ss) =
    let x = fixed answer files said.budget in
    each_reads x (listings_of said) none_kept (session.statements (coursed x) (initial none_kept) ss).state.kept (shown_of answer files said ss)
    (all_chain Kept Coursed (IsRight x) PutsBehind (coursed x) (makes x) none_kept ss tt)

all_read : (put : List Export) (seen : List Seen) → EachReads put seen → reads_in (runs_of seen) ≡ asked_behind put seen
all_read put [] h = refl
all_read put (s ∷ rest) h = reads-append s.runs (runs_of rest) ∙ ap₂ (λ xs ys. xs ++ ys) h.0 (all_read (after_exports put s.exports) rest h.1)

pub all_reads_of_names_not_put : AllReadsAreOfNamesNotPut
all_reads_of_names_not_put answer files p = all_read [] (outcome answer files p).seen (reads_of_names_not_put answer files p)
