-- What stays over calls one behind the other.
use Rattle.std.proofs.Common.{◌≡◌, ℕ, ◌<◌, ◌≤◌, Option, refl, sym, ap, subst, ◌∙◌, inr}
use Rattle.dx_performing.specs.Kept.{Kept}
use Rattle.std.specs.Prelude.{Result, Ok, Err, OnErr, option_map}
use Rattle.dx_ast.specs.declared.statements.Stmt.{Stmt as CodeStmt}
use Rattle.dx_ast.specs.Plain.{plain_stmt}
use Rattle.dx_macros.specs.declared.dictionary.Dictionary.{Dictionary}
use Rattle.dx_macros.specs.DictionaryView.{dictionary_of}
use Rattle.dx_sessions.specs.Does.{OthersStay}
use Rattle.dx_sessions.specs.SessionView.{state_of}
use Rattle.dx_sessions.specs.declared.session.Session.{Session}
use Rattle.dx_sequencer.specs.Sequencer as seq
use Rattle.dx_sequencer.specs.Sequencer.{IsPlay, at_play, max_steps}
use Rattle.dx_sequencer.proofs.Playing.{steps_are}
use Rattle.dx_shown.specs.Session.{State}
use Rattle.dx_sessions.specs.Left.{LeavesPlay, Stays, after_steps}

pub stays_itself : (a : State Kept) → Stays a a
stays_itself a = record { dictionary = refl; sequence = refl }

pub stays_on : (a b c : State Kept) → Stays a b → Stays b c → Stays a c
stays_on a b c first second = record { dictionary = second.dictionary ∙ first.dictionary; sequence = second.sequence ∙ first.sequence }

pub stays_same : (a b : State Kept) → b ≡ a → Stays a b
stays_same a b same = record { dictionary = ap (λ (s : State Kept). s.dictionary) same; sequence = ap (λ (s : State Kept). s.sequence) same }

pub stays_by_others : (old new : Session) → OthersStay old new → Stays (state_of old) (state_of new)
stays_by_others old new others = record { dictionary = ap (λ (d : Dictionary). dictionary_of d) others.dictionary; sequence = ap (λ (s : Option CodeStmt). option_map plain_stmt s) others.sequence }

-- however it answers
pub on_err_with : {T E A : Type 0} (r : Result T E) → A → OnErr r A
on_err_with (Ok x) h = tt
on_err_with (Err e) h = h

-- ---- plays

pub play_left : (s new : seq.State) (n counted : ℕ) → IsPlay (at_play s) n → n ≤ max_steps → counted < n → new ≡ seq.after_step (after_steps counted (at_play s)) → LeavesPlay s new
play_left s new n counted play few lt moved = inr (counted, subst (λ (m : ℕ). counted < m) (sym (steps_are (at_play s) n play few)) lt, moved)
