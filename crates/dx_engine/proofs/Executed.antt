-- What the parts of an execution come to.
use Rattle.std.proofs.Common.{◌≡◌, inl, inr, ℕ, List, [], append-nil, true, Option, refl, sym, ap, ◌∙◌, subst, arith}
use Rattle.std.specs.Prelude.{Result, Ok, Err, IsErrAnd}
use Rattle.dx_base.specs.declared.code.Code.{Code}
use Rattle.dx_graph.specs.Graph.{Node}
use Rattle.dx_macros.specs.Tree.{CallTree}
use Rattle.dx_tags.specs.Closed.{GoesOn}
use Rattle.dx_machine.specs.Machine.{tasks_of}
use Rattle.dx_getting.specs.Told.{Adds}
use Rattle.dx_demand.specs.Memo.{site_of}
use Rattle.dx_io.specs.Devices.{Grows}
use Rattle.dx_io.proofs.Growing.{grows_by_nothing}
use Rattle.dx_performing.specs.Execution.{Error, Export, execution}
use Rattle.dx_performing.specs.Course.{Fixed, world_of, begins, executed}
use Rattle.dx_performing.specs.SoundEntries.{AreLawfulCalls}
use Rattle.dx_ending.specs.Putting.{ArePut, ArePutBefore, exports_of}
use Rattle.dx_engine.specs.Gathering.{error_of}
use Rattle.dx_engine.specs.Keeping.{StateFits, kept_of, IsSoundState}
use Rattle.dx_engine.specs.Beginning.{EffectsAre, GathersFit}
use Rattle.dx_engine.specs.Leaving.{LeavesSo}
use Rattle.dx_engine.specs.Fronts.{reads_ahead}
use Rattle.dx_engine.specs.Stopping.{printed_by, runs_by}
use Rattle.dx_engine.specs.Ending.{OnEnd, ErrorIs, CutsPuts, short_error}
use Rattle.dx_engine.specs.Executing.{Devices, EndsIn, IsExecuted, IsCutEarly, IsCutLate, NonePut, ExecutesSo}
use Rattle.dx_engine.specs.declared.exec_error.ExecError.{ExecError}
use Rattle.dx_engine.specs.declared.exec_error.ExecError.TheVariants.{Module, ReadFault, WriteFault, ExportFault, Memory}
use Rattle.dx_engine.specs.declared.gathered.Gathered.{Gathered}
use Rattle.dx_engine.specs.declared.short.Short.{Short}
use Rattle.dx_engine.specs.declared.short.Short.TheVariants as short
use Rattle.dx_engine.specs.declared.state.State.{State}
use Rattle.dx_engine.proofs.LeftBehind.{IsFinished, fits_left, kept_left, sound_left, events_left, told_left, current_left}
use Rattle.dx_engine.proofs.SoundBehind.{told_behind}

-- ---- cut short before its end

cut_so : (x : Fixed) (st st' : State) (effects : List CallTree) (was now : Devices) (s : Short) → IsCutEarly (reads_ahead s) x st effects was now → now.puts ≡ was.puts → st'.written ≡ st.written → ExecutesSo x st effects was (Err (short_error s)) st' now
cut_so x st st' effects was now s cut puts files = by s cut
  where
    none : NonePut st was st' now
    none = record { puts = puts; files = ap (λ w. w.files) files }

    by : (s : Short) → IsCutEarly (reads_ahead s) x st effects was now → ExecutesSo x st effects was (Err (short_error s)) st' now
    by short.ReadFault c = (c, none)
    by short.WriteFault c = (c, none)
    by short.Memory c = inl (c, none)

pub short_so : (x : Fixed) (st st' : State) (effects : List CallTree) (was now : Devices) (s : Short) (r : Result (Unit {0}) ExecError) → IsErrAnd r (λ e. e ≡ short_error s) → IsCutEarly (reads_ahead s) x st effects was now → now.puts ≡ was.puts → st'.written ≡ st.written → ExecutesSo x st effects was r st' now
short_so x st st' effects was now s (Ok u) is cut puts files = absurd is
short_so x st st' effects was now s (Err e) is cut puts files = subst (λ (y : ExecError). ExecutesSo x st effects was (Err y) st' now) (sym is) (cut_so x st st' effects was now s cut puts files)

-- ---- to its end

ends_in : (nodes : List Node) (e : Option (ℕ × Code)) (error : Option Error) (r : Result (Unit {0}) ExecError) → error_of nodes e ≡ error → ErrorIs nodes e r → EndsIn error r
ends_in nodes e error (Ok u) is h = sym is ∙ ap (error_of nodes) h
ends_in nodes e error (Err (Module site code)) is h = (site_of nodes h.0, sym is ∙ ap (error_of nodes) h.1, h.2)
ends_in nodes e error (Err ReadFault) is h = tt
ends_in nodes e error (Err WriteFault) is h = tt
ends_in nodes e error (Err ExportFault) is h = tt
ends_in nodes e error (Err Memory) is h = tt

-- run leaves what is kept as it is, but for terms and entries
pub record IsRun (st st' : State) : Type 0 where
  pub links : st'.links ≡ st.links
  pub bound : st'.bound ≡ st.bound
  pub written : st'.written ≡ st.written
  pub budget : st'.at.work.cache.budget ≡ st.at.work.cache.budget

finished : (st st' st2 : State) (g : Gathered) (was now : Option (List Export)) → IsRun st st' → LeavesSo st' g st2 → ArePut was now st'.written.files st2.written.files (exports_of g.puts.items) → IsFinished st st' g st2
finished st st' st2 g was now run left put = record { left = left; files = put.files; links = run.links; bound = run.bound; written = run.written; budget = run.budget }

module _ (x : Fixed) (st st' st2 : State) (effects : List CallTree) (nodes : List Node) (g : Gathered) (was now : Devices) (are : EffectsAre x st effects nodes was.told was.written g st' now.told now.written) (fits : StateFits st) (on : GoesOn st.at.tags st'.at.tags) (lawful : AreLawfulCalls effects) (sound : IsSoundState x st) (run : IsRun st st') where
  executed_so : (r : Result (Unit {0}) ExecError) → LeavesSo st' g st2 → ArePut was.puts now.puts st'.written.files st2.written.files (exports_of g.puts.items) → ErrorIs nodes g.error r → IsExecuted x st effects was r st2 now
  executed_so r left put error =
      let ends = finished st st' st2 g was.puts now.puts run left put in
      record {
        printed = are.printed;
        puts = subst (Grows was.puts now.puts) are.exports put.told;
        error = ends_in nodes g.error _ r are.error error;
        told = told_left st st' st2 g ends x effects nodes was.told was.written now.told now.written are fits on;
        events = events_left st st' st2 g ends x effects nodes was.told was.written now.told now.written are fits on;
        kept = kept_left st st' st2 g ends x effects nodes was.told was.written now.told now.written are fits on;
        current = current_left st st' st2 g ends x effects nodes was.told was.written now.told now.written are fits on sound;
        sound = sound_left st st' st2 g ends x effects nodes was.told was.written now.told now.written are fits on sound lawful;
      }

  told_all : Adds was.told now.told (tasks_of (executed x effects (kept_of st)).events)
  told_all = told_behind x st st' effects nodes was.told was.written g now.told now.written are

  put_before : ArePutBefore was.puts now.puts st'.written.files st2.written.files (exports_of g.puts.items) → ArePutBefore was.puts now.puts st.written.files st2.written.files (execution (world_of x (kept_of st)) effects).exports
  put_before p =
      subst (λ (es : List Export). ArePutBefore was.puts now.puts st.written.files st2.written.files es) are.exports
      (subst (λ y. ArePutBefore was.puts now.puts y st2.written.files (exports_of g.puts.items)) (ap (λ w. w.files) run.written) p)

  late : ArePutBefore was.puts now.puts st'.written.files st2.written.files (exports_of g.puts.items) → IsCutLate x st effects was st2 now
  late p = record { printed = are.printed; told = told_all; puts = put_before p }

  early : IsCutEarly true x st effects was now
  early = record {
    whole = effects;
    next = [];
    rest = [];
    all = sym (append-nil effects);
    few = omega arith;
    front = [];
    left = [];
    text = ap (printed_by x (kept_of st)) (append-nil effects) ∙ sym (append-nil (printed_by x (kept_of st) effects));
    printed = subst (Grows was.written now.written) (sym (append-nil (printed_by x (kept_of st) effects))) are.printed;
    told = inl (subst (λ cs. Adds was.told now.told (runs_by x (kept_of st) cs (begins (kept_of st)))) (sym (append-nil effects)) are.told);
  }

  none_put : ArePut was.puts now.puts st'.written.files st2.written.files [] → NonePut st was st2 now
  none_put p = record { puts = p.told ∙ sym (grows_by_nothing was.puts); files = p.files ∙ ap (λ w. w.files) run.written }

  pub execute_so : (r : Result (Unit {0}) ExecError) → OnEnd r (LeavesSo st' g st2) → OnEnd r (ArePut was.puts now.puts st'.written.files st2.written.files (exports_of g.puts.items)) → ErrorIs nodes g.error r → CutsPuts r was.puts now.puts st'.written.files st2.written.files (exports_of g.puts.items) → ¬ (r ≡ Err ReadFault) × ¬ (r ≡ Err WriteFault) → ExecutesSo x st effects was r st2 now
  execute_so (Ok u) left put error some faults = executed_so (Ok u) left put error
  execute_so (Err (Module site code)) left put error some faults = executed_so (Err (Module site code)) left put error
  execute_so (Err ReadFault) left put error some faults = absurd (faults.0 refl)
  execute_so (Err WriteFault) left put error some faults = absurd (faults.1 refl)
  execute_so (Err ExportFault) left put error cut faults = late cut
  execute_so (Err Memory) left put error (inl none) faults = inl (early, none_put none)
  execute_so (Err Memory) left put error (inr before) faults = inr (late before)

-- ---- what fits

pub fits_behind : (st st' st2 : State) (nodes : List Node) (g : Gathered) (r : Result (Unit {0}) ExecError) (was now : Option (List Export)) → IsRun st st' → StateFits st' → GathersFit nodes st' g → OnEnd r (LeavesSo st' g st2) → OnEnd r (ArePut was now st'.written.files st2.written.files (exports_of g.puts.items)) → OnEnd r (StateFits st2)
fits_behind st st' st2 nodes g (Ok u) was now run fits gathers left put = fits_left st st' st2 g (finished st st' st2 g was now run left put) fits gathers.changes
fits_behind st st' st2 nodes g (Err (Module site code)) was now run fits gathers left put = fits_left st st' st2 g (finished st st' st2 g was now run left put) fits gathers.changes
fits_behind st st' st2 nodes g (Err ReadFault) was now run fits gathers left put = tt
fits_behind st st' st2 nodes g (Err WriteFault) was now run fits gathers left put = tt
fits_behind st st' st2 nodes g (Err ExportFault) was now run fits gathers left put = tt
fits_behind st st' st2 nodes g (Err Memory) was now run fits gathers left put = tt
