-- The words of the sequencer that are neither a step nor a play.
use Rattle.std.proofs.Common.{◌≡◌, refl}
use Rattle.dx_ast.specs.declared.sequencing.Word.{Word}
use Rattle.dx_ast.specs.declared.sequencing.Word.TheVariants as word
use Rattle.dx_performing.specs.Kept.{Kept}
use Rattle.dx_sequencer.specs.Sequencer as seq
use Rattle.dx_shown.specs.Made.{Coursed}
use Rattle.dx_shown.specs.Session.{State, Making, told, silently, with_sequencer}
use Rattle.dx_sessions.specs.Switches.{Switches}

pub switched : (w : Word) → (w ≡ word.Play → ⊥) → (w ≡ word.Step → ⊥) → (old new : seq.State) → Switches w old new → (make : Making Kept Coursed) (st : State Kept)
    → told make w (with_sequencer old st) ≡ silently (with_sequencer new st)
switched word.Play p s old new h make st = absurd (p refl)
switched word.Step p s old new h make st = absurd (s refl)
switched word.Stop p s old new h make st = h make st
switched word.Forward p s old new h make st = h make st
switched word.Backward p s old new h make st = h make st
switched word.LoopOn p s old new h make st = h make st
switched word.LoopOff p s old new h make st = h make st
switched word.PalindromeOn p s old new h make st = h make st
switched word.PalindromeOff p s old new h make st = h make st
