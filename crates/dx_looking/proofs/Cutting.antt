-- What was told before a getting is a front of what is told by it.
use Rattle.dx_tags.specs.Closed.{ValueTerms}
use Rattle.dx_machine.specs.Machine.{Frame, State, Got, tasks_of, get_all}
use Rattle.dx_machine.proofs.Grows.{RunsGrow, all_grow}
use Rattle.dx_getting.specs.Told.{Told, Adds}
use Rattle.dx_getting.proofs.TellLaws.{some_all}
use Rattle.std.specs.Prelude.{Err}
use Rattle.dx_macros.specs.Tree.{Tree}
use Rattle.dx_meaning.specs.Forming.{Formings}
use Rattle.dx_performing.specs.Course.{Fixed, as_terms, sight_of, frame_with}
use Rattle.dx_performing.specs.Kept.{Kept}
use Rattle.dx_performing.specs.Selectors.{selectors}
use Rattle.dx_looking.specs.declared.cut.Cut.{Cut}
use Rattle.dx_looking.specs.declared.setup.Setup.{Setup}
use Rattle.dx_looking.specs.declared.progress.Progress.{Progress}
use Rattle.dx_looking.specs.Looking.{IsCutIn, LooksSo}

pub cut_by : (base now : Told) (s : State) (g : Got) → Adds base now (tasks_of s.events) → RunsGrow s g → IsCutIn base now g
cut_by base now s g h r = some_all base now (tasks_of s.events) r.more _ h r.runs

pub cut_now : (base now : Told) (s : State) (k : Frame) (ts : ValueTerms) → Adds base now (tasks_of s.events) → IsCutIn base now (get_all k ts s)
cut_now base now s k ts h = cut_by base now s (get_all k ts s) h (all_grow k ts s)

-- looking that was cut short before it got anything
pub looks_cut : (setup : Setup) (x : Fixed) (k : Kept) (base : Told) (t : Tree) (s : State) (f : Formings) (cut : Cut) (at : Progress) (now : Told) → Adds base now (tasks_of s.events) → LooksSo setup x k base t s f (Err cut) at now
looks_cut setup x k base t s f cut at now h = λ later same. cut_now base now s (frame_with x k later) (as_terms (selectors (sight_of x k) t)) h
