-- What the outside sees of a line of words: what is printed, which files are put, which modules run, which files are asked for, and
-- the status with which it ends.
use Rattle.std.specs.Prelude.{◌≡◌, ℕ, List, [], ◌∷◌, ◌++◌, map, Bool, true, false}
use Rattle.dx_io.specs.Devices.{FileMap}
use Rattle.dx_ast.specs.Syntax.{Stmts}
use Rattle.dx_getting.specs.Stands.{Answers}
use Rattle.dx_include.specs.Loading.{Name}
use Rattle.dx_looking.specs.Setting.{fixed}
use Rattle.dx_machine.specs.Machine.{Task, tasks_of}
use Rattle.dx_performing.specs.Execution.{Export}
use Rattle.dx_performing.specs.Kept.{new as none_kept}
use Rattle.dx_shown.specs.Listed.{any_error}
use Rattle.dx_shown.specs.Made.{Coursed, coursed}
use Rattle.dx_shown.specs.Session.{Shown, Executes, PlayTooLong, FrameRange, initial, statements}
use Rattle.dx_telling.specs.Shown.{text_of, play_too_long, frame_range}
use Rattle.dx_telling.specs.declared.listings.Listings.{Listings}
use Rattle.dx_words.specs.declared.words.Words.{Words}
use Rattle.dx_outcome.specs.Lines.{usage_line, refusal_line}
use Rattle.dx_outcome.specs.Plan.{Plan, NoLine, Refuses, Performs, IsPlan}

-- what is seen of an execution, or of a line that is printed alone; runs are told with the files that they have of their own
pub record Seen : Type 0 where
  pub text : List ℕ
  pub exports : List Export
  pub runs : List Task

-- the files that loading asks for, what is seen one behind the other, and the status
pub record Outcome : Type 0 where
  pub reads : List Name
  pub seen : List Seen
  pub status : ℕ

-- ---- what is seen

abbrev pub line_alone : List ℕ → Seen
line_alone text = record { text = text; exports = []; runs = [] }

abbrev pub seen_of : Listings → Shown Coursed → Seen
seen_of asked (Executes c) = record { text = text_of asked (Executes c); exports = c.execution.exports; runs = tasks_of c.events }
seen_of asked PlayTooLong = line_alone play_too_long
seen_of asked FrameRange = line_alone frame_range

abbrev pub listings_of : Words → Listings
listings_of said = record { trace = said.trace; links = said.links }

-- ---- the outcome

-- what the cache machine shows of the statements, from the beginning of a session on
abbrev pub shown_of : Answers → FileMap → Words → Stmts → List (Shown Coursed)
shown_of answer files said ss = (statements (coursed (fixed answer files said.budget)) (initial none_kept) ss).shown

-- 1 exactly where an error line was due
abbrev pub status_of : Bool → ℕ
status_of false = 0
status_of true = 1

abbrev pub outcome : Answers → FileMap → Plan → Outcome
outcome answer files NoLine = record { reads = []; seen = line_alone usage_line ∷ []; status = 3 }
outcome answer files (Refuses reads why) = record { reads = reads; seen = line_alone (refusal_line why) ∷ []; status = 2 }
outcome answer files (Performs reads said ss) =
    let shown = shown_of answer files said ss in
    record { reads = reads; seen = map (seen_of (listings_of said)) shown; status = status_of (any_error shown) }

abbrev pub IsOutcome : List (List ℕ) → FileMap → Answers → Outcome → Type 0
IsOutcome words files answer o = (p : Plan) × IsPlan words files p × (o ≡ outcome answer files p)

-- ---- all of it

abbrev pub texts_of : List Seen → List ℕ
texts_of [] = []
texts_of (s ∷ rest) = s.text ++ texts_of rest

abbrev pub exports_of : List Seen → List Export
exports_of [] = []
exports_of (s ∷ rest) = s.exports ++ exports_of rest

abbrev pub runs_of : List Seen → List Task
runs_of [] = []
runs_of (s ∷ rest) = s.runs ++ runs_of rest
