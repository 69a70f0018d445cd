-- What an execution of a graph is, is made of its statement.
use Rattle.std.proofs.Common.{◌≡◌, inl, inr, ℕ, List, [], Bool, true, false, Option, Some, None, refl, sym, ap, subst}
use Rattle.std.specs.Prelude.{Result, Ok, Err, option_map}
use Rattle.dx_ast.specs.declared.sequencing.Frames.{Frames}
use Rattle.dx_ast.specs.Syntax.{Stmt}
use Rattle.dx_io.proofs.Growing.{grows_by_nothing}
use Rattle.dx_macros.specs.Checking.{told}
use Rattle.dx_macros.specs.Dictionary.{Dictionary}
use Rattle.dx_macros.specs.Expansion.{effects}
use Rattle.dx_macros.specs.Tree.{CallTree}
use Rattle.dx_macros.specs.Walk.{Fault, first_fault}
use Rattle.dx_signatures.specs.declared.fault.StaticFault.{StaticFault}
use Rattle.dx_machine.specs.Machine.{tasks_of}
use Rattle.dx_getting.proofs.TellLaws.{adds_none}
use Rattle.dx_performing.specs.Course.{Fixed}
use Rattle.dx_performing.specs.Execution as meant
use Rattle.dx_engine.specs.Keeping.{kept_of, IsSoundState}
use Rattle.dx_engine.specs.Executing.{Devices, ExecutesSo}
use Rattle.dx_engine.specs.Executing as engine
use Rattle.dx_engine.specs.declared.exec_error.ExecError.{ExecError}
use Rattle.dx_engine.specs.declared.exec_error.ExecError.TheVariants as exec
use Rattle.dx_engine.specs.declared.state.State.{State}
use Rattle.dx_engine.proofs.CutEarly.{early_printed, early_told}
use Rattle.dx_engine.proofs.Fronts.{front_all}
use Rattle.dx_shown.specs.Made.{coursed, coursed_by, coursed_unless}
use Rattle.dx_making.specs.Failing.{failing_of}
use Rattle.dx_making.specs.Making.{IsCutEarly, MakesSo}
use Rattle.dx_making.specs.declared.end.End.{End}
use Rattle.dx_making.specs.declared.end.End.TheVariants as end
use Rattle.dx_making.specs.declared.failing.Failing.{Failing}
use Rattle.dx_making.specs.declared.failing.Failing.TheVariants.{Faulty}

module _ (x : Fixed) (st st' : State) (was now : Devices) where
  -- what all of it prints and runs, from where it was cut short
  early : (ahead : Bool) (calls : List CallTree) → engine.IsCutEarly ahead x st calls was now → IsCutEarly ahead (coursed_by x calls (kept_of st)).0 was now
  early ahead calls cut = record { printed = early_printed ahead x st calls was now cut; told = early_told ahead x st calls was now cut }

  by_effects : (calls : List CallTree) (r : Result (Unit {0}) ExecError) → ExecutesSo x st calls was r st' now → MakesSo x st (coursed_by x calls (kept_of st)) was (failing_of r) st' now
  by_effects calls (Ok u) e = record { printed = e.printed; puts = e.puts; error = e.error; told = e.told; events = e.events; kept = e.kept; sound = e.sound }
  by_effects calls (Err (exec.Module site code)) e = record { printed = e.printed; puts = e.puts; error = e.error; told = e.told; events = e.events; kept = e.kept; sound = e.sound }
  by_effects calls (Err exec.ReadFault) e = (early true calls e.0, e.1)
  by_effects calls (Err exec.WriteFault) e = (early false calls e.0, e.1)
  by_effects calls (Err exec.ExportFault) e = record { printed = e.printed; told = e.told; puts = e.puts }
  by_effects calls (Err exec.Memory) (inl (cut, none)) = inl (early true calls cut, none)
  by_effects calls (Err exec.Memory) (inr late) = inr (record { printed = late.printed; told = late.told; puts = late.puts })

  pub made_so : (d : Dictionary) (frames : Frames) (s : Stmt) (calls : List CallTree) (r : Result (Unit {0}) ExecError) (made : Result (Option Failing) End) → made ≡ failing_of r → first_fault d s ≡ None → calls ≡ effects d frames s → ExecutesSo x st calls was r st' now → MakesSo x st (coursed x d frames s (kept_of st)) was made st' now
  made_so d frames s calls r made ends none same e =
      subst (λ (f : Option Fault). MakesSo x st (coursed_unless x f (effects d frames s) (kept_of st)) was made st' now) (sym none)
      (subst (λ (cs : List CallTree). MakesSo x st (coursed_by x cs (kept_of st)) was made st' now) same
      (subst (λ (y : Result (Option Failing) End). MakesSo x st (coursed_by x calls (kept_of st)) was y st' now) (sym ends) (by_effects calls r e)))

abbrev is_none : Option (List ℕ × StaticFault) → Type 0
is_none None = Unit {0}
is_none (Some y) = ⊥

abbrev pair_or : List ℕ × StaticFault → Option (List ℕ × StaticFault) → List ℕ × StaticFault
pair_or other None = other
pair_or other (Some y) = y

-- nothing was done
module _ (x : Fixed) (st : State) (was : Devices) where
  by_fault : (f : Option Fault) (calls : List CallTree) (site : List ℕ) (fault : StaticFault) → IsSoundState x st → option_map told f ≡ Some (site, fault) → MakesSo x st (coursed_unless x f calls (kept_of st)) was (Ok (Some (Faulty site fault))) st was
  by_fault None calls site fault sound e = absurd (subst is_none e tt)
  by_fault (Some f) calls site fault sound e = record {
    printed = grows_by_nothing was.written;
    puts = grows_by_nothing was.puts;
    error = (f.site, ap (λ (y : StaticFault). Some (record { site = f.site; failure = meant.Faulty y })) (ap (λ (y : List ℕ × StaticFault). y.1) (ap (pair_or (told f)) e)), ap (λ (y : List ℕ × StaticFault). y.0) (sym (ap (pair_or (told f)) e)));
    told = adds_none was.told;
    events = refl;
    kept = refl;
    sound = sound;
  }

  pub faulty_so : (d : Dictionary) (frames : Frames) (s : Stmt) (site : List ℕ) (fault : StaticFault) → IsSoundState x st → option_map told (first_fault d s) ≡ Some (site, fault) → MakesSo x st (coursed x d frames s (kept_of st)) was (Ok (Some (Faulty site fault))) st was
  faulty_so d frames s site fault sound e = by_fault (first_fault d s) (effects d frames s) site fault sound e

  pub unmade_so : (d : Dictionary) (frames : Frames) (s : Stmt) → MakesSo x st (coursed x d frames s (kept_of st)) was (Err end.Memory) st was
  unmade_so d frames s =
      let made = coursed x d frames s (kept_of st) in
      inl (
        record {
          printed = ([], made.0.execution.printed, refl, grows_by_nothing was.written);
          told = front_all true was.told was.told [] (tasks_of made.0.events) (tasks_of made.0.events) (adds_none was.told) refl;
        },
        record { puts = refl; files = refl },
      )
