-- The plan that is computed is the one that a line has.
use Rattle.std.proofs.Common.{◌≡◌, ℕ, List, Option, Some, None, Result, Ok, Err, refl, sym, ap, ◌∙◌}
use Rattle.dx_io.specs.Devices.{FileMap}
use Rattle.dx_include.specs.declared.fail.LoadFail.{LoadFail}
use Rattle.dx_include.specs.declared.loaded.Loaded.{Loaded}
use Rattle.dx_include.specs.Loading.{Loading}
use Rattle.dx_include.specs.Computed.{loading_of}
use Rattle.dx_include.proofs.Loadings.{is_loading, is_the_loading}
use Rattle.dx_getting.specs.Stands.{Answers}
use Rattle.dx_words.specs.declared.words.Words.{Words}
use Rattle.dx_words.specs.declared.words.Job.{Job}
use Rattle.dx_words.specs.declared.words.Job.TheVariants.{Session, Workload}
use Rattle.dx_words.specs.Line.{words_of}
use Rattle.dx_outcome.specs.Plan.{Plan, workload_name, workload_file, LoadsJob, IsPlan}
use Rattle.dx_outcome.specs.Plan.IsPlan.{no_line, refused, performed}
use Rattle.dx_outcome.specs.Computed.{own_loading, job_loading, of_ends, of_loading, of_words, plan_of}
use Rattle.dx_outcome.specs.Outcome.{Outcome, outcome, IsOutcome}
use Rattle.dx_outcome.specs.Laws.{OnePlan, OneOutcome}

-- ---- jobs

loads_job : (files : FileMap) (job : Job) → LoadsJob files job (job_loading files job)
loads_job files (Session name) = is_loading files name
loads_job files (Workload n) = (loading_of (workload_file n) workload_name, is_loading (workload_file n) workload_name, refl)

the_job : (files : FileMap) (job : Job) (l : Loading) → LoadsJob files job l → l ≡ job_loading files job
the_job files (Session name) l h = is_the_loading files name l h
the_job files (Workload n) l h = h.2 ∙ ap own_loading (is_the_loading (workload_file n) workload_name h.0 h.1)

-- ---- plans

plan_of_ends : (words : List (List ℕ)) (files : FileMap) (said : Words) (l : Loading) → words_of words ≡ Some said → LoadsJob files said.job l → (ends : Result Loaded LoadFail) → l.ends ≡ ends → IsPlan words files (of_ends said l.reads ends)
plan_of_ends words files said l is loads (Ok loaded) e = performed said l loaded is loads e
plan_of_ends words files said l is loads (Err why) e = refused said l why is loads e

plan_of_words : (words : List (List ℕ)) (files : FileMap) (o : Option Words) → words_of words ≡ o → IsPlan words files (of_words files o)
plan_of_words words files None e = no_line e
plan_of_words words files (Some said) e = plan_of_ends words files said (job_loading files said.job) e (loads_job files said.job) (job_loading files said.job).ends refl

pub is_plan : (words : List (List ℕ)) (files : FileMap) → IsPlan words files (plan_of words files)
is_plan words files = plan_of_words words files (words_of words) refl

loaded_so : (words : List (List ℕ)) (files : FileMap) (said : Words) (l : Loading) → words_of words ≡ Some said → LoadsJob files said.job l → of_loading said l ≡ plan_of words files
loaded_so words files said l is loads = ap (of_loading said) (the_job files said.job l loads) ∙ sym (ap (of_words files) is)

pub is_the_plan : (words : List (List ℕ)) (files : FileMap) (p : Plan) → IsPlan words files p → p ≡ plan_of words files
is_the_plan words files _ (no_line e) = sym (ap (of_words files) e)
is_the_plan words files _ (refused said l why is loads ends) = sym (ap (of_ends said l.reads) ends) ∙ loaded_so words files said l is loads
is_the_plan words files _ (performed said l loaded is loads ends) = sym (ap (of_ends said l.reads) ends) ∙ loaded_so words files said l is loads

-- ---- there is one

pub one_plan : OnePlan
one_plan words files = ((plan_of words files, is_plan words files), λ p q a b. is_the_plan words files p a ∙ sym (is_the_plan words files q b))

pub is_the_outcome : (words : List (List ℕ)) (files : FileMap) (answer : Answers) (o : Outcome) → IsOutcome words files answer o → o ≡ outcome answer files (plan_of words files)
is_the_outcome words files answer o h = h.2 ∙ ap (outcome answer files) (is_the_plan words files h.0 h.1)

pub one_outcome : OneOutcome
one_outcome words files answer = (
  (outcome answer files (plan_of words files), (plan_of words files, is_plan words files, refl)),
  λ o p a b. is_the_outcome words files answer o a ∙ sym (is_the_outcome words files answer p b),
)
