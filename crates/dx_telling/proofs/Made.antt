-- What the making of an execution answers and leaves tells of it.
use Rattle.std.proofs.Common.{◌≡◌, ◌∙◌, ◌∷◌, [], List, Option, Some, None, refl, sym, ap}
use Rattle.dx_ast.specs.declared.sequencing.Frames.{Frames}
use Rattle.dx_ast.specs.Syntax.{Stmt}
use Rattle.dx_engine.specs.declared.state.State.{State}
use Rattle.dx_engine.specs.Executing.{Devices}
use Rattle.dx_engine.specs.Keeping.{kept_of}
use Rattle.dx_links.specs.LinkMap.{LinkMap}
use Rattle.dx_looking.specs.Setting.{links_of}
use Rattle.dx_machine.specs.Machine.{Event}
use Rattle.dx_macros.specs.Dictionary.{Dictionary}
use Rattle.dx_macros.specs.Expansion.{effects}
use Rattle.dx_macros.specs.Tree.{CallTree}
use Rattle.dx_macros.specs.Walk.{Fault, first_fault}
use Rattle.dx_making.specs.declared.failing.Failing.{Failing}
use Rattle.dx_making.specs.declared.failing.Failing.TheVariants.{Faulty, Refused}
use Rattle.dx_making.specs.Making.{EventsAre, IsMade}
use Rattle.dx_performing.specs.Course.{Fixed}
use Rattle.dx_performing.specs.Execution.{Links, Current}
use Rattle.dx_performing.specs.Kept.{Kept, current, objects_of}
use Rattle.dx_shown.specs.Made.{coursed, coursed_unless}
use Rattle.dx_tags.specs.Closed.{Head, heads_of}
use Rattle.dx_telling.specs.Tells.{EventsTell, Tells, objects_in}

objects_are : (hs : List Head) (links : LinkMap) → objects_of (links_of hs links) ≡ objects_in links
objects_are hs [] = refl
objects_are hs (l ∷ ls) = ap (λ (rest : Links). (l.0, l.1.value) ∷ rest) (objects_are hs ls)

behind_is : (x : Fixed) (f : Option Fault) (calls : List CallTree) (k : Kept) → (coursed_unless x f calls k).0.behind ≡ current (coursed_unless x f calls k).1
behind_is x None calls k = refl
behind_is x (Some f) calls k = refl

events_tell : (failing : Option Failing) (st : State) (es : List Event) → EventsAre failing st es → EventsTell failing st.at.work.events.items es
events_tell None st es h = h
events_tell (Some (Faulty site fault)) st es h = h
events_tell (Some (Refused site code)) st es h = h

pub made_tells : (x : Fixed) (d : Dictionary) (frames : Frames) (s : Stmt) (st st' : State) (was now : Devices) (failing : Option Failing) →
    IsMade x st (coursed x d frames s (kept_of st)) was failing st' now → Tells (coursed x d frames s (kept_of st)).0 failing st'.at.work.events.items st'.links
made_tells x d frames s st st' was now failing m =
    let made = coursed x d frames s (kept_of st) in
    record {
      error = m.error;
      events = events_tell failing st' made.0.events m.events;
      objects =
          sym (objects_are (heads_of st'.at.tags) st'.links.links)
          ∙ ap (λ (k : Kept). objects_of k.links) m.kept
          ∙ sym (ap (λ (b : Current). b.links) (behind_is x (first_fault d s) (effects d frames s) (kept_of st)));
    }
