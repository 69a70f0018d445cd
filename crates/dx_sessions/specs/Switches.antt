-- The words of the sequencer that execute nothing.
use Rattle.std.specs.Prelude.{◌≡◌}
use Rattle.dx_ast.specs.declared.sequencing.Word.{Word}
use Rattle.dx_ast.specs.declared.sequencing.Word.TheVariants as word
use Rattle.dx_performing.specs.Kept.{Kept}
use Rattle.dx_sequencer.specs.Sequencer as seq
use Rattle.dx_shown.specs.Made.{Coursed}
use Rattle.dx_shown.specs.Session.{State, Making, told, silently, with_sequencer}

-- a step and a play are none of them
abbrev pub Switches : Word → seq.State → seq.State → Type 0
Switches word.Play old new = new ≡ old
Switches word.Step old new = new ≡ old
Switches w old new = (make : Making Kept Coursed) (st : State Kept) → told make w (with_sequencer old st) ≡ silently (with_sequencer new st)
