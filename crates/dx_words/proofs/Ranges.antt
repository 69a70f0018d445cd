-- A workload that a line names has 1 to 100,000 executions.
use Rattle.std.proofs.Common.{◌≡◌, ◌≤◌, ℕ, List, [], ◌∷◌, Bool, true, false, Option, Some, None, is_some, refl, subst, arith}
use Rattle.std.specs.Prelude.{◌&&◌, nat_le, if◌then◌else◌}
use Rattle.std.proofs.lemmas.Bool.Decides.{nat_tests}
use Rattle.dx_words.specs.declared.line.Line.{Line}
use Rattle.dx_words.specs.declared.line.Reading.{Reading}
use Rattle.dx_words.specs.declared.line.Reading.TheVariants.{Options, Budget, Executions, Sessions}
use Rattle.dx_words.specs.declared.words.Job.{Job}
use Rattle.dx_words.specs.declared.words.Job.TheVariants.{Session, Workload}
use Rattle.dx_words.specs.Line.{Said, trace, links, memory, workload, is_session, ends_options, said, with_trace, with_links, with_budget, with_job, with_workload, with_said, with_word, line_from}
use Rattle.dx_words.specs.Values.{digits_of, within, budget_of, executions_of}
use Rattle.dx_words.specs.Range.{IsInRange}

abbrev MayRange : Option ℕ → Type 0
MayRange None = Unit {0}
MayRange (Some n) = (1 ≤ n) × (n ≤ 100000)

abbrev JobFits : Option Job → Type 0
JobFits None = Unit {0}
JobFits (Some job) = IsInRange job

abbrev LineFits : Option Line → Type 0
LineFits None = Unit {0}
LineFits (Some l) = JobFits l.job

this_or : (b : Bool) (l m : Option Line) → LineFits l → LineFits m → LineFits (if b then l else m)
this_or true l m p q = p
this_or false l m p q = q

-- ---- values

within_fits : (o : Option ℕ) → MayRange (within 1 100000 o)
within_fits None = tt
within_fits (Some n) = by (nat_le 1 n) (nat_le n 100000) refl refl
  where
    by : (a b : Bool) → nat_le 1 n ≡ a → nat_le n 100000 ≡ b → MayRange (if a && b then Some n else None)
    by true true p q = (grind (arith, nat_tests, p), grind (arith, nat_tests, q))
    by true false p q = tt
    by false b p q = tt

executions_fit : (v : List ℕ) → MayRange (executions_of v)
executions_fit v = within_fits (digits_of 6 v)

-- ---- lines

trace_fits : (o : Option Line) → LineFits o → LineFits (with_trace o)
trace_fits None h = tt
trace_fits (Some l) h = this_or l.trace None (Some (record l { trace = true })) tt h

links_fit : (o : Option Line) → LineFits o → LineFits (with_links o)
links_fit None h = tt
links_fit (Some l) h = this_or l.links None (Some (record l { links = true })) tt h

budget_fits : (n : Option ℕ) (o : Option Line) → LineFits o → LineFits (with_budget n o)
budget_fits None o h = tt
budget_fits (Some n) None h = tt
budget_fits (Some n) (Some l) h = this_or (is_some l.budget) None (Some (record l { budget = Some n })) tt h

job_fits : (job : Job) (o : Option Line) → IsInRange job → LineFits o → LineFits (with_job job o)
job_fits job None p h = tt
job_fits job (Some l) p h = this_or (is_some l.job) None (Some (record l { job = Some job })) tt p

workload_fits : (n : Option ℕ) (o : Option Line) → MayRange n → LineFits o → LineFits (with_workload n o)
workload_fits None o p h = tt
workload_fits (Some n) o p h = job_fits (Workload n) o p h

said_fits : (o : Option Said) (next : Reading → Option Line) → ((r : Reading) → LineFits (next r)) → LineFits (with_said o next)
said_fits None next h = tt
said_fits (Some trace) next h = trace_fits (next Options) (h Options)
said_fits (Some links) next h = links_fit (next Options) (h Options)
said_fits (Some (memory None)) next h = h Budget
said_fits (Some (memory (Some v))) next h = budget_fits (budget_of v) (next Options) (h Options)
said_fits (Some (workload None)) next h = h Executions
said_fits (Some (workload (Some v))) next h = workload_fits (executions_of v) (next Options) (executions_fit v) (h Options)

word_fits : (w : List ℕ) (next : Reading → Option Line) → ((r : Reading) → LineFits (next r)) → LineFits (with_word w next)
word_fits w next h =
    this_or (ends_options w) (next Sessions) (if is_session w then with_job (Session w) (next Options) else with_said (said w) next) (h Sessions)
    (this_or (is_session w) (with_job (Session w) (next Options)) (with_said (said w) next) (job_fits (Session w) (next Options) tt (h Options)) (said_fits (said w) next h))

line_fits : (ws : List (List ℕ)) (r : Reading) → LineFits (line_from r ws)
line_fits [] Options = tt
line_fits [] Budget = tt
line_fits [] Executions = tt
line_fits [] Sessions = tt
line_fits (w ∷ ws) Options = word_fits w (λ r. line_from r ws) (line_fits ws)
line_fits (w ∷ ws) Budget = budget_fits (budget_of w) (line_from Options ws) (line_fits ws Options)
line_fits (w ∷ ws) Executions = workload_fits (executions_of w) (line_from Options ws) (executions_fit w) (line_fits ws Options)
line_fits (w ∷ ws) Sessions = job_fits (Session w) (line_from Sessions ws) tt (line_fits ws Sessions)

pub in_range : (words : List (List ℕ)) (l : Line) (job : Job) → line_from Options words ≡ Some l → l.job ≡ Some job → IsInRange job
in_range words l job e is = subst JobFits is (subst LineFits e (line_fits words Options))
