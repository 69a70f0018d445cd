-- What a call did of what is to be shown: all of it, or as much as was done before it was cut short.
use Rattle.std.specs.Prelude.{◌≡◌, ℕ, ◌≤◌, ℤ, length, List, [], ◌∷◌, ◌++◌, Option, Some, Result, Ok, Err, Bool, true}
use Rattle.dx_ast.specs.declared.sequencing.FrameVar.{FrameVar}
use Rattle.dx_io.specs.declared.fails.SinkFail.{SinkFail}
use Rattle.dx_io.specs.Devices.{FileMap as InputFiles, Grows, GrowsInto}
use Rattle.dx_objects.specs.Runs.{Ran}
use Rattle.dx_getting.specs.Stands.{Answers}
use Rattle.dx_getting.specs.Told.{Adds, told}
use Rattle.dx_performing.specs.Course.{Fixed}
use Rattle.dx_performing.specs.Execution.{Export}
use Rattle.dx_performing.specs.Kept.{Kept}
use Rattle.dx_engine.specs.Keeping.{IsSoundState}
use Rattle.dx_engine.specs.Executing.{Devices}
use Rattle.dx_engine.specs.Fronts.{AddsFront}
use Rattle.dx_engine.specs.declared.state.State.{State}
use Rattle.dx_shown.specs.Made.{Coursed}
use Rattle.dx_shown.specs.Listed.{all_exports, all_tasks, any_error}
use Rattle.dx_sequencer.specs.Sequencer.{is_refused}
use Rattle.dx_shown.specs.Session.{Shown, FrameRange, Done, State as SessionState, set}
use Rattle.dx_making.specs.Ends.{reads_ahead}
use Rattle.dx_making.specs.declared.end.End.{End}
use Rattle.dx_telling.specs.Shown.{shown_texts}
use Rattle.dx_telling.specs.declared.listings.Listings.{Listings}
use Rattle.dx_sessions.specs.Ended.{erred_of}
use Rattle.dx_sessions.specs.Left.{IsLeft}
use Rattle.dx_sessions.specs.Places.{here}
use Rattle.dx_sessions.specs.SessionView.{state_of}
use Rattle.dx_sessions.specs.declared.ended.Ended.{Ended}
use Rattle.dx_sessions.specs.declared.session.Session.{Session}

-- what is told of the devices
abbrev pub devices : Option (List Ran) → Option (List (List ℕ)) → Option (List ℕ) → Option (List Export) → Devices
devices done asked written puts = record { told = told done asked; written = written; puts = puts }

-- for files that tell their content, what modules answer, and a sound state
abbrev pub OverSound : Answers → Option InputFiles → State → (Fixed → Type 0) → Type 0
OverSound answer content st P = (x : Fixed) → x.answer ≡ answer → content ≡ Some x.file → IsSoundState x st → P x

-- all of it was printed, put and told
pub record IsWhole (listings : Listings) (shown : List (Shown Coursed)) (was now : Devices) : Type 0 where
  pub printed : Grows was.written now.written (shown_texts listings shown)
  pub puts : Grows was.puts now.puts (all_exports shown)
  pub told : Adds was.told now.told (all_tasks shown)

-- a front of it was printed, a front put, and a front told, with one name more at most where it may be read ahead
pub record IsFront (ahead : Bool) (listings : Listings) (shown : List (Shown Coursed)) (was now : Devices) : Type 0 where
  pub printed : GrowsInto was.written now.written (shown_texts listings shown)
  pub puts : GrowsInto was.puts now.puts (all_exports shown)
  pub told : AddsFront ahead was.told now.told (all_tasks shown)

-- so much was shown whole, and a front of what comes next, if anything does
pub record IsCutShort (ahead : Bool) (listings : Listings) (shown : List (Shown Coursed)) (was now : Devices) : Type 0 where
  pub before : List (Shown Coursed)
  pub next : List (Shown Coursed)
  pub rest : List (Shown Coursed)
  pub all : shown ≡ before ++ (next ++ rest)
  pub few : length next ≤ 1
  pub between : Devices
  pub whole : IsWhole listings before was between
  pub front : IsFront ahead listings next between now

-- all of it was done, and the state behind it is sound again
pub record IsDone (x : Fixed) (listings : Listings) (done : Done Kept Coursed) (was : Devices) (failed : Bool) (new : Session) (now : Devices) : Type 0 where
  pub whole : IsWhole listings done.shown was now
  pub erred : failed ≡ any_error done.shown
  pub state : state_of new ≡ done.state
  pub sound : IsSoundState x new.state

-- it was cut short, where what is shown next began at one of these places; the session is left there, and is sound again
pub record IsCutAt (ahead : Bool) (x : Fixed) (listings : Listings) (places : List (Shown Coursed) → SessionState Kept → Type 0) (shown : List (Shown Coursed)) (was : Devices) (new : Session) (now : Devices) : Type 0 where
  pub short : IsCutShort ahead listings shown was now
  pub at : SessionState Kept
  pub begins : places short.before at
  pub left : IsLeft listings short.next short.between now at (state_of new)
  pub sound : IsSoundState x new.state

abbrev pub DoesSo : Fixed → Listings → (List (Shown Coursed) → SessionState Kept → Type 0) → Done Kept Coursed → Devices → Result Bool End → Session → Devices → Type 0
DoesSo x listings places done was (Ok erred) new now = IsDone x listings done was erred new now
DoesSo x listings places done was (Err end) new now = IsCutAt (reads_ahead end) x listings places done.shown was new now

-- the same of an execution
abbrev pub ShowsSo : Fixed → Listings → SessionState Kept → Done Kept Coursed → Devices → Result Ended End → Session → Devices → Type 0
ShowsSo x listings old done was ended new now = DoesSo x listings (here old) done was (erred_of ended) new now

-- macros, definitions, the sequencer and the sequence call are as before
pub record OthersStay (old new : Session) : Type 0 where
  pub dictionary : new.dictionary ≡ old.dictionary
  pub sequencer : new.sequencer ≡ old.sequencer
  pub sequence : new.sequence ≡ old.sequence
  pub listings : new.listings ≡ old.listings

abbrev pub set_done : FrameVar → ℤ → Session → Done Kept Coursed
set_done v n old = set v n (state_of old)

-- a variable of the sequencer is set, or the line of a delta that is refused is printed, or a front of it
abbrev pub SetsSo : FrameVar → ℤ → Session → Session → Option (List ℕ) → Option (List ℕ) → Result Bool SinkFail → Type 0
SetsSo v n old new was now (Ok refused) =
    (refused ≡ is_refused v n) × (new.state ≡ old.state) × (new.listings ≡ old.listings)
    × (state_of new ≡ (set_done v n old).state) × Grows was now (shown_texts old.listings (set_done v n old).shown)
SetsSo v n old new was now (Err fail) = (is_refused v n ≡ true) × (new.state ≡ old.state) × (new.listings ≡ old.listings) × (state_of new ≡ state_of old) × GrowsInto was now (shown_texts old.listings (FrameRange ∷ []))

-- the same of a whole session, of which no state is left
abbrev pub PerformsSo : Listings → List (Shown Coursed) → Devices → Result Bool End → Devices → Type 0
PerformsSo listings shown was (Ok erred) now = IsWhole listings shown was now × (erred ≡ any_error shown)
PerformsSo listings shown was (Err end) now = IsCutShort (reads_ahead end) listings shown was now
