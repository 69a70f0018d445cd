-- The text of what a session shows.
use Rattle.std.specs.Prelude.{ℕ, List, [], ◌∷◌, ◌++◌, codes}
use Rattle.dx_print.specs.Errors.{error_line}
use Rattle.dx_shown.specs.Made.{Coursed}
use Rattle.dx_shown.specs.Session.{Shown, Executes, PlayTooLong, FrameRange}
use Rattle.dx_telling.specs.Behind.{behind_text}
use Rattle.dx_telling.specs.declared.listings.Listings.{Listings}

-- what comes behind the text of an execution's effects
abbrev pub behind_of : Listings → Coursed → List ℕ
behind_of asked c = behind_text asked c.execution.error c.events c.behind.links

-- a play of too many steps, and a delta below 1, are no executions and have a line alone
abbrev pub play_too_long : List ℕ
play_too_long = error_line (codes "play") (codes "PlayTooLong")

abbrev pub frame_range : List ℕ
frame_range = error_line (codes "@deltaframe") (codes "FrameRange")

abbrev pub text_of : Listings → Shown Coursed → List ℕ
text_of asked (Executes c) = c.execution.printed ++ behind_of asked c
text_of asked PlayTooLong = play_too_long
text_of asked FrameRange = frame_range

-- one after the other
abbrev pub shown_texts : Listings → List (Shown Coursed) → List ℕ
shown_texts asked [] = []
shown_texts asked (s ∷ rest) = text_of asked s ++ shown_texts asked rest
