-- What a call did of one execution: all of it, or as much as was done before it was cut short.
use Rattle.std.specs.Prelude.{◌≡◌, [], ◌∷◌, is_some, Bool, Result, Ok, Err}
use Rattle.dx_performing.specs.Course.{Fixed}
use Rattle.dx_performing.specs.Kept.{Kept, current}
use Rattle.dx_engine.specs.Keeping.{kept_of, IsSoundState}
use Rattle.dx_engine.specs.Executing.{Devices}
use Rattle.dx_engine.specs.declared.state.State.{State}
use Rattle.dx_shown.specs.Made.{Coursed}
use Rattle.dx_shown.specs.Session.{Executes}
use Rattle.dx_making.specs.Ends.{reads_ahead}
use Rattle.dx_making.specs.declared.end.End.{End}
use Rattle.dx_telling.specs.declared.listings.Listings.{Listings}
use Rattle.dx_sessions.specs.Does.{IsWhole, IsFront}
use Rattle.dx_sessions.specs.Ended.{is_error}
use Rattle.dx_sessions.specs.Left.{LeavesCurrent}
use Rattle.dx_sessions.specs.declared.ended.Ended.{Ended}

-- all of it was done, and what is kept behind it is sound again
pub record IsExecuted (x : Fixed) (listings : Listings) (made : Coursed × Kept) (was : Devices) (ended : Ended) (st : State) (now : Devices) : Type 0 where
  pub whole : IsWhole listings (Executes made.0 ∷ []) was now
  pub error : is_error ended ≡ is_some made.0.execution.error
  pub kept : kept_of st ≡ made.1
  pub sound : IsSoundState x st

-- it was cut short: a front of it was done, the links and written files are left so, and what is kept is sound again
pub record IsCutIn (ahead : Bool) (x : Fixed) (listings : Listings) (k : Kept) (c : Coursed) (was : Devices) (st : State) (now : Devices) : Type 0 where
  pub front : IsFront ahead listings (Executes c ∷ []) was now
  pub current : LeavesCurrent listings (Executes c ∷ []) was now (current k) (current (kept_of st))
  pub sound : IsSoundState x st

abbrev pub ExecutesSo : Fixed → Listings → Kept → Coursed × Kept → Devices → Result Ended End → State → Devices → Type 0
ExecutesSo x listings k made was (Ok ended) st now = IsExecuted x listings made was ended st now
ExecutesSo x listings k made was (Err end) st now = IsCutIn (reads_ahead end) x listings k made.0 was st now
