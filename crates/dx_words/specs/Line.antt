-- Which words are a line, and what it says.
use Rattle.std.specs.Prelude.{ℕ, Bool, true, false, not, ◌&&◌, ◌||◌, List, [], ◌∷◌, length, drop, map, Option, Some, None, is_some, unwrap_or, String, string_bytes, nat_eq, codes, if◌then◌else◌}
use Rattle.std.specs.List.{starts_with}
use Rattle.std.specs.Str.{bytes_eq}
use Rattle.std.specs.declared.alloc.Global.{Global}
use Rattle.dx_words.specs.declared.line.Line.{Line}
use Rattle.dx_words.specs.declared.line.Reading.{Reading}
use Rattle.dx_words.specs.declared.line.Reading.TheVariants.{Options, Budget, Executions, Sessions}
use Rattle.dx_words.specs.declared.words.Words.{Words}
use Rattle.dx_words.specs.declared.words.Job.{Job}
use Rattle.dx_words.specs.declared.words.Job.TheVariants.{Session, Workload}
use Rattle.dx_words.specs.Values.{budget_of, executions_of}

-- the words as texts
abbrev pub texts : List (String Global) → List (List ℕ)
texts words = map (λ (w : String Global). string_bytes w) words

-- the first of them
abbrev pub text : List (String Global) → List ℕ
text [] = []
text (w ∷ ws) = string_bytes w

-- ---- one word

-- a word that names a session: one that doesn't begin with a dash, or is a dash alone
abbrev pub is_session : List ℕ → Bool
is_session word = not (starts_with nat_eq word (codes "-")) || bytes_eq word (codes "-")

-- behind this word each names a session
abbrev pub ends_options : List ℕ → Bool
ends_options word = bytes_eq word (codes "--")

-- an option, with the value that stands in its word
pub data Said : Type 0 where
  trace : Said
  links : Said
  memory : Option (List ℕ) → Said
  workload : Option (List ℕ) → Said

-- a word that begins so, with what stands behind
abbrev pub with_value : (List ℕ → Said) → List ℕ → List ℕ → Option Said → Option Said
with_value option front word other = if starts_with nat_eq word front then Some (option (drop (length front) word)) else other

abbrev pub is_word : Said → List ℕ → List ℕ → Option Said → Option Said
is_word option whole word other = if bytes_eq word whole then Some option else other

-- the option that a word is
abbrev pub said : List ℕ → Option Said
said word =
    is_word trace (codes "--trace") word
    (is_word links (codes "--links") word
    (is_word (memory None) (codes "--memory") word
    (is_word (workload None) (codes "--workload") word
    (with_value (λ v. memory (Some v)) (codes "--memory=") word
    (with_value (λ v. workload (Some v)) (codes "--workload=") word None)))))

-- ---- what the words from a place on say, where each thing is said once at most

abbrev pub nothing : Line
nothing = record { budget = None; trace = false; links = false; job = None }

abbrev pub with_trace : Option Line → Option Line
with_trace None = None
with_trace (Some l) = if l.trace then None else Some (record l { trace = true })

abbrev pub with_links : Option Line → Option Line
with_links None = None
with_links (Some l) = if l.links then None else Some (record l { links = true })

-- this budget, if there is one
abbrev pub with_budget : Option ℕ → Option Line → Option Line
with_budget None l = None
with_budget (Some n) None = None
with_budget (Some n) (Some l) = if is_some l.budget then None else Some (record l { budget = Some n })

abbrev pub with_job : Job → Option Line → Option Line
with_job job None = None
with_job job (Some l) = if is_some l.job then None else Some (record l { job = Some job })

abbrev pub with_workload : Option ℕ → Option Line → Option Line
with_workload None l = None
with_workload (Some n) l = with_job (Workload n) l

-- an option, and what the words behind it say, by what the next one is
abbrev pub with_said : Option Said → (Reading → Option Line) → Option Line
with_said None next = None
with_said (Some trace) next = with_trace (next Options)
with_said (Some links) next = with_links (next Options)
with_said (Some (memory None)) next = next Budget
with_said (Some (memory (Some v))) next = with_budget (budget_of v) (next Options)
with_said (Some (workload None)) next = next Executions
with_said (Some (workload (Some v))) next = with_workload (executions_of v) (next Options)

abbrev pub with_word : List ℕ → (Reading → Option Line) → Option Line
with_word word next =
    if ends_options word then next Sessions
    else if is_session word then with_job (Session word) (next Options)
    else with_said (said word) next

-- the words from a place on, by what the first of them is
abbrev pub line_from : Reading → List (List ℕ) → Option Line
line_from Options [] = Some nothing
line_from Options (w ∷ ws) = with_word w (λ next. line_from next ws)
line_from Budget [] = None
line_from Budget (w ∷ ws) = with_budget (budget_of w) (line_from Options ws)
line_from Executions [] = None
line_from Executions (w ∷ ws) = with_workload (executions_of w) (line_from Options ws)
line_from Sessions [] = Some nothing
line_from Sessions (w ∷ ws) = with_job (Session w) (line_from Sessions ws)

-- ---- the whole line

-- a session or a workload is there
abbrev pub with_usual : Line → Option Job → Option Words
with_usual l None = None
with_usual l (Some job) = Some (record { budget = unwrap_or l.budget 67108864; trace = l.trace; links = l.links; job = job })

abbrev pub whole : Option Line → Option Words
whole None = None
whole (Some l) = with_usual l l.job

-- what a list of words says, if it is a line
abbrev pub words_of : List (List ℕ) → Option Words
words_of words = whole (line_from Options words)

-- ---- two parts of a line, of which the second stands behind the first

abbrev pub both_say : Line → Line → Bool
both_say a b = (is_some a.budget && is_some b.budget) || (a.trace && b.trace) || (a.links && b.links) || (is_some a.job && is_some b.job)

abbrev pub first_of : {X : Type 0} → Option X → Option X → Option X
first_of None o = o
first_of (Some x) o = Some x

abbrev pub merged : Line → Line → Line
merged a b = record { budget = first_of a.budget b.budget; trace = a.trace || b.trace; links = a.links || b.links; job = first_of a.job b.job }

-- both, if they say no thing twice
abbrev pub joined : Line → Option Line → Option Line
joined a None = None
joined a (Some b) = if both_say a b then None else Some (merged a b)
