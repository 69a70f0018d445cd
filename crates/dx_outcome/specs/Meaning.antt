-- What the language's meaning gives for a line of words, evaluated afresh at each execution. Nothing is kept but definitions, links,
-- written files and frames, so the budget isn't among what it is given.
use Rattle.std.specs.Prelude.{◌≡◌, ℕ, List, [], ◌∷◌, ◌++◌, Option, Some, None, is_some, Bool, true, false, ◌||◌, if◌then◌else◌}
use Rattle.std.specs.Bool.{MatchBool}
use Rattle.dx_cache.specs.Cached.{IsPartOf}
use Rattle.dx_demanded.specs.Ordered.{asked}
use Rattle.dx_engine.specs.Executing.{Devices}
use Rattle.dx_getting.specs.Stands.{Answers}
use Rattle.dx_getting.specs.Told.{TellsRuns}
use Rattle.dx_io.specs.Devices.{FileMap, Grows, GrowsInto}
use Rattle.dx_ast.specs.Syntax.{Stmts}
use Rattle.dx_meaning.specs.Outcome.{Use}
use Rattle.dx_objects.specs.Runs.{Ran}
use Rattle.dx_performing.specs.Execution.{Current, Export}
use Rattle.dx_shown.specs.Listed.{of_executions}
use Rattle.dx_shown.specs.Made.{Meant, meant}
use Rattle.dx_shown.specs.Session.{Shown, Executes, PlayTooLong, FrameRange, initial, statements}
use Rattle.dx_telling.specs.Behind.{error_text, if_asked, links_text}
use Rattle.dx_telling.specs.Shown.{play_too_long, frame_range}
use Rattle.dx_outcome.specs.Ends.{is_cut}
use Rattle.dx_outcome.specs.Lines.{usage_line, refusal_line}
use Rattle.dx_outcome.specs.Outcome.{status_of}
use Rattle.dx_outcome.specs.Plan.{Plan, NoLine, Refuses, Performs, IsPlan}

-- the text, unless the line asks for a trace of what the cache does; the files put; what each execution demands; and the status
pub record Meaning : Type 0 where
  pub text : Option (List ℕ)
  pub exports : List Export
  pub demanded : List (List Use)
  pub status : ℕ

-- ---- what is meant of what is shown

-- what its effects print, the line of its error, and the links behind it, where they are asked for
abbrev pub meant_text : Bool → Shown Meant → List ℕ
meant_text links (Executes m) = m.execution.printed ++ error_text m.execution.error ++ if_asked links (links_text m.behind.links)
meant_text links PlayTooLong = play_too_long
meant_text links FrameRange = frame_range

abbrev pub meant_texts : Bool → List (Shown Meant) → List ℕ
meant_texts links [] = []
meant_texts links (s ∷ rest) = meant_text links s ++ meant_texts links rest

abbrev pub ends_in_error : Shown Meant → Bool
ends_in_error (Executes m) = is_some m.execution.error
ends_in_error PlayTooLong = true
ends_in_error FrameRange = true

abbrev pub some_error : List (Shown Meant) → Bool
some_error [] = false
some_error (s ∷ rest) = ends_in_error s || some_error rest

-- ---- the meaning

-- no links, and no written files
abbrev pub nothing : Current
nothing = record { links = []; written = [] }

abbrev pub meant_of : Answers → FileMap → Stmts → List (Shown Meant)
meant_of answer files ss = (statements (meant answer files) (initial nothing) ss).shown

abbrev pub meaning : Answers → FileMap → Plan → Meaning
meaning answer files NoLine = record { text = Some usage_line; exports = []; demanded = []; status = 3 }
meaning answer files (Refuses reads why) = record { text = Some (refusal_line why); exports = []; demanded = []; status = 2 }
meaning answer files (Performs reads said ss) =
    let shown = meant_of answer files ss in
    record {
      text = if said.trace then None else Some (meant_texts said.links shown);
      exports = of_executions (λ m. m.execution.exports) shown;
      demanded = of_executions (λ m. m.execution.demanded ∷ []) shown;
      status = status_of (some_error shown);
    }

abbrev pub IsMeaning : List (List ℕ) → FileMap → Answers → Meaning → Type 0
IsMeaning words files answer m = (p : Plan) × IsPlan words files p × (m ≡ meaning answer files p)

-- ---- a call that ends so

abbrev pub IfSaid : Option (List ℕ) → (List ℕ → Type 0) → Type 0
IfSaid None P = Unit {0}
IfSaid (Some text) P = P text

-- all of its text was printed and all of its files put, with its status; or a front of each
abbrev pub EndsAsMeant : ℕ → Meaning → Devices → Devices → Type 0
EndsAsMeant status m was now =
    MatchBool (is_cut status)
    (IfSaid m.text (GrowsInto was.written now.written) × GrowsInto was.puts now.puts m.exports)
    ((status ≡ m.status) × IfSaid m.text (Grows was.written now.written) × Grows was.puts now.puts m.exports)

-- ---- runs that are demanded

-- they split into one part for each execution, which has some of the uses that it demands, in their order
abbrev pub AreSplit : List Ran → List (List Use) → Type 0
AreSplit runs [] = runs ≡ []
AreSplit runs (uses ∷ demanded) = (part rest : List Ran) × (runs ≡ part ++ rest) × IsPartOf part (asked uses) × AreSplit rest demanded

-- so do the runs that a library tells behind its earlier ones
abbrev pub AreDemanded : List (List Use) → Option (List Ran) → Option (List Ran) → Type 0
AreDemanded demanded was now = (runs : List Ran) × TellsRuns was now runs × AreSplit runs demanded
