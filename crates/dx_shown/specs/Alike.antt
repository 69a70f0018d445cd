-- What the cache machine's sessions show is what is meant.
use Rattle.std.specs.Prelude.{◌≡◌, map}
use Rattle.dx_ast.specs.Syntax.{Stmt, Stmts}
use Rattle.dx_performing.specs.Course.{Fixed, around_of}
use Rattle.dx_performing.specs.Kept.{Kept, current}
use Rattle.dx_performing.specs.Meant.{LinksRight}
use Rattle.dx_shown.specs.Made.{Meant, Coursed, meant, coursed}
use Rattle.dx_shown.specs.Session.{State, Shown, Executes, PlayTooLong, FrameRange, Done, statement, statements}

-- the same of what is kept otherwise, and of executions that are told otherwise
abbrev pub state_by : {K L : Type 0} → (K → L) → State K → State L
state_by f st = record { dictionary = st.dictionary; sequencer = st.sequencer; sequence = st.sequence; kept = f st.kept }

abbrev pub shown_by : {X Y : Type 0} → (X → Y) → Shown X → Shown Y
shown_by g (Executes x) = Executes (g x)
shown_by g PlayTooLong = PlayTooLong
shown_by g FrameRange = FrameRange

abbrev pub done_by : {K L X Y : Type 0} → (K → L) → (X → Y) → Done K X → Done L Y
done_by f g d = record { shown = map (shown_by g) d.shown; state = state_by f d.state }

-- but for what happened
abbrev pub meant_of : Coursed → Meant
meant_of c = record { execution = c.execution; behind = c.behind }

abbrev pub KeptRight : Fixed → Kept → Type 0
KeptRight x k = LinksRight (around_of x k) k.links

-- one statement
abbrev pub StatementsAreMeant : Type 0
StatementsAreMeant = (x : Fixed) (st : State Kept) (s : Stmt) → KeptRight x st.kept
    → (statement (meant x.answer x.file) (state_by current st) s ≡ done_by current meant_of (statement (coursed x) st s)) × KeptRight x (statement (coursed x) st s).state.kept

-- all statements
abbrev pub SessionsAreMeant : Type 0
SessionsAreMeant = (x : Fixed) (st : State Kept) (ss : Stmts) → KeptRight x st.kept
    → (statements (meant x.answer x.file) (state_by current st) ss ≡ done_by current meant_of (statements (coursed x) st ss)) × KeptRight x (statements (coursed x) st ss).state.kept
