-- The code's session as a state.
use Rattle.std.specs.Prelude.{option_map}
use Rattle.dx_ast.specs.Plain.{plain_stmt}
use Rattle.dx_macros.specs.DictionaryView.{dictionary_of}
use Rattle.dx_performing.specs.Kept.{Kept}
use Rattle.dx_engine.specs.Keeping.{kept_of}
use Rattle.dx_shown.specs.Session.{State}
use Rattle.dx_sessions.specs.declared.session.Session.{Session}

abbrev pub state_of : Session → State Kept
state_of s = record { dictionary = dictionary_of s.dictionary; sequencer = s.sequencer; sequence = option_map plain_stmt s.sequence; kept = kept_of s.state }
