-- What the code says of how an execution ended.
use Rattle.std.specs.Prelude.{Bool, true, false, Result, Ok, Err}
use Rattle.dx_making.specs.declared.end.End.{End}
use Rattle.dx_sessions.specs.declared.ended.Ended.{Ended}
use Rattle.dx_sessions.specs.declared.ended.Ended.TheVariants.{Whole, Refused, Faulty}

-- an error line was due
abbrev pub is_error : Ended → Bool
is_error Whole = false
is_error Refused = true
is_error Faulty = true

-- the statement has a static fault
abbrev pub is_faulty : Ended → Bool
is_faulty Whole = false
is_faulty Refused = false
is_faulty Faulty = true

-- the same of an execution that may have been cut short
abbrev pub erred_of : Result Ended End → Result Bool End
erred_of (Ok ended) = Ok (is_error ended)
erred_of (Err end) = Err end
