-- What is done one behind the other.
use Rattle.std.proofs.Common.{◌≡◌, List, [], ◌∷◌, Bool, false, ◌||◌, Result, refl, sym, ap, ap₂, subst, ◌∙◌}
use Rattle.dx_performing.specs.Course.{Fixed}
use Rattle.dx_performing.specs.Kept.{Kept, current}
use Rattle.dx_engine.specs.Keeping.{IsSoundState}
use Rattle.dx_engine.specs.Executing.{Devices}
use Rattle.dx_ast.specs.Syntax.{Call, Stmt, Assigns, Calls, Defines, Includes, Sets, Says, Sequences}
use Rattle.dx_sequencer.specs.Sequencer as seq
use Rattle.dx_shown.specs.Made.{Coursed, coursed}
use Rattle.dx_shown.specs.Session.{Done, Shown, State, and_then, executed, silently, statement}
use Rattle.dx_making.specs.declared.end.End.{End}
use Rattle.dx_telling.specs.declared.listings.Listings.{Listings}
use Rattle.dx_sessions.specs.Does.{DoesSo, IsFront, IsCutAt, IsDone, ShowsSo}
use Rattle.dx_sessions.specs.Ended.{erred_of}
use Rattle.dx_sessions.specs.Left.{LeavesCurrent, LeavesSequencer}
use Rattle.dx_sessions.specs.Places.{here, in_statement}
use Rattle.dx_sessions.proofs.Statements.{IsDefining}
use Rattle.dx_sessions.specs.SessionView.{state_of}
use Rattle.dx_sessions.specs.declared.ended.Ended.{Ended}
use Rattle.dx_sessions.specs.declared.session.Session.{Session}
use Rattle.dx_sessions.proofs.Folding.{errors_append, none_whole, whole_on, cut_at_once, cut_in_one}

-- nothing is shown
pub silently_done : (x : Fixed) (l : Listings) (st : State Kept) (new : Session) (was : Devices) → state_of new ≡ st → IsSoundState x new.state → IsDone x l (silently st) was false new was
silently_done x l st new was same sound = record { whole = none_whole l was; erred = refl; state = same; sound = sound }

pub silently_by : (x : Fixed) (l : Listings) (done : Done Kept Coursed) (st : State Kept) (new : Session) (was : Devices) → done ≡ silently st → state_of new ≡ st → IsSoundState x new.state → IsDone x l done was false new was
silently_by x l done st new was is same sound = subst (λ (d : Done Kept Coursed). IsDone x l d was false new was) (sym is) (silently_done x l st new was same sound)

-- and then more
pub done_on : (x : Fixed) (l : Listings) (first : Done Kept Coursed) (next : State Kept → Done Kept Coursed) (mid new : Session) (was between now : Devices) (erred failed : Bool)
    → IsDone x l first was erred mid between → IsDone x l (next (state_of mid)) between failed new now
    → IsDone x l (and_then first next) was (erred || failed) new now
done_on x l first next mid new was between now erred failed a b =
    let later : IsDone x l (next first.state) between failed new now = subst (λ (st : State Kept). IsDone x l (next st) between failed new now) a.state b in
    record {
      whole = whole_on l first.shown (next first.state).shown was between now a.whole later.whole;
      erred = ap₂ (λ (p q : Bool). p || q) a.erred later.erred ∙ sym (errors_append first.shown (next first.state).shown);
      state = later.state;
      sound = later.sound;
    }

-- nothing was done, and macros, definitions and what is kept are as before
pub stays_at_once : (ahead : Bool) (x : Fixed) (l : Listings) (shown : List (Shown Coursed)) (was : Devices) (st : State Kept) (new : Session) → state_of new ≡ st → IsSoundState x new.state → IsCutAt ahead x l (here st) shown was new was
stays_at_once ahead x l shown was st new same sound = record {
  short = cut_at_once ahead l shown was;
  at = st;
  begins = (refl, refl);
  left = record {
    dictionary = ap (λ (s : State Kept). s.dictionary) same;
    sequencer = ap (λ (s : State Kept). s.sequencer) same;
    sequence = ap (λ (s : State Kept). s.sequence) same;
    current = ap (λ (s : State Kept). current s.kept) same;
  };
  sound = sound;
}

-- a line was cut short
pub stays_at_line : (ahead : Bool) (x : Fixed) (l : Listings) (s : Shown Coursed) (was now : Devices) (st : State Kept) (new : Session) → LeavesCurrent l (s ∷ []) was now (current st.kept) (current (state_of new).kept) → IsFront ahead l (s ∷ []) was now → state_of new ≡ st → IsSoundState x new.state → IsCutAt ahead x l (here st) (s ∷ []) was new now
stays_at_line ahead x l s was now st new leaves front same sound = record {
  short = cut_in_one ahead l s was now front;
  at = st;
  begins = (refl, refl);
  left = record {
    dictionary = ap (λ (s : State Kept). s.dictionary) same;
    sequencer = ap (λ (s : State Kept). s.sequencer) same;
    sequence = ap (λ (s : State Kept). s.sequence) same;
    current = leaves;
  };
  sound = sound;
}

-- the definition of a macro
pub defining_cut : (ahead : Bool) (x : Fixed) (l : Listings) (was : Devices) (st : State Kept) (new : Session) (t : Stmt) → IsDefining t → state_of new ≡ st → IsSoundState x new.state
    → IsCutAt ahead x l (in_statement (coursed x) st t) (statement (coursed x) st t).shown was new was
defining_cut ahead x l was st new (Defines m) d same sound = stays_at_once ahead x l [] was st new same sound
defining_cut ahead x l was st new (Assigns targets e) d same sound = absurd d
defining_cut ahead x l was st new (Calls c) d same sound = absurd d
defining_cut ahead x l was st new (Includes name) d same sound = absurd d
defining_cut ahead x l was st new (Sets v e) d same sound = absurd d
defining_cut ahead x l was st new (Says w) d same sound = absurd d
defining_cut ahead x l was st new (Sequences c) d same sound = absurd d

pub defining_stays : (t : Stmt) (s : seq.State) → IsDefining t → LeavesSequencer t s s
defining_stays (Defines m) s d = refl
defining_stays (Assigns targets e) s d = absurd d
defining_stays (Calls c) s d = absurd d
defining_stays (Includes name) s d = absurd d
defining_stays (Sets v e) s d = absurd d
defining_stays (Says w) s d = absurd d
defining_stays (Sequences c) s d = absurd d

-- ---- the statement that it is

pub statement_does : (x : Fixed) (l : Listings) (st : State Kept) (s t : Stmt) (was now : Devices) (r : Result Bool End) (new : Session) → s ≡ t
    → DoesSo x l (in_statement (coursed x) st t) (statement (coursed x) st t) was r new now → DoesSo x l (in_statement (coursed x) st s) (statement (coursed x) st s) was r new now
statement_does x l st s t was now r new is h = subst (λ (y : Stmt). DoesSo x l (in_statement (coursed x) st y) (statement (coursed x) st y) was r new now) (sym is) h

-- a call, which is executed as a statement of the code
pub call_does : (x : Fixed) (l : Listings) (st : State Kept) (s u : Stmt) (call : Call) (was now : Devices) (ended : Result Ended End) (erred : Result Bool End) (new : Session) → s ≡ Calls call → u ≡ Calls call
    → erred ≡ erred_of ended → ShowsSo x l st (executed (coursed x) st u) was ended new now → DoesSo x l (in_statement (coursed x) st s) (statement (coursed x) st s) was erred new now
call_does x l st s u call was now ended erred new is same tells h =
    statement_does x l st s (Calls call) was now erred new is
    (subst (λ (r : Result Bool End). DoesSo x l (here st) (executed (coursed x) st (Calls call)) was r new now) (sym tells)
    (subst (λ (y : Stmt). DoesSo x l (here st) (executed (coursed x) st y) was (erred_of ended) new now) same h))
