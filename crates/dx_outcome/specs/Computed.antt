-- The plan of a line, as it is computed.
use Rattle.std.specs.Prelude.{ℕ, List, [], Option, Some, None, Result, Ok, Err}
use Rattle.dx_io.specs.Devices.{FileMap}
use Rattle.dx_ast.specs.Plain.{plain_stmts}
use Rattle.dx_include.specs.declared.fail.LoadFail.{LoadFail}
use Rattle.dx_include.specs.declared.loaded.Loaded.{Loaded}
use Rattle.dx_include.specs.Loading.{Name, Loading}
use Rattle.dx_include.specs.Computed.{loading_of}
use Rattle.dx_words.specs.declared.words.Words.{Words}
use Rattle.dx_words.specs.declared.words.Job.{Job}
use Rattle.dx_words.specs.declared.words.Job.TheVariants.{Session, Workload}
use Rattle.dx_words.specs.Line.{words_of}
use Rattle.dx_outcome.specs.Plan.{Plan, NoLine, Refuses, Performs, workload_name, workload_file}

-- a workload asks for no file of the folder
abbrev pub own_loading : Loading → Loading
own_loading l = record { reads = []; ends = l.ends }

abbrev pub job_loading : FileMap → Job → Loading
job_loading files (Session name) = loading_of files name
job_loading files (Workload n) = own_loading (loading_of (workload_file n) workload_name)

-- what a loading comes to
abbrev pub of_ends : Words → List Name → Result Loaded LoadFail → Plan
of_ends said reads (Ok loaded) = Performs reads said (plain_stmts loaded.statements)
of_ends said reads (Err why) = Refuses reads why

abbrev pub of_loading : Words → Loading → Plan
of_loading said l = of_ends said l.reads l.ends

-- what words come to, if they are a line
abbrev pub of_words : FileMap → Option Words → Plan
of_words files None = NoLine
of_words files (Some said) = of_loading said (job_loading files said.job)

abbrev pub plan_of : List (List ℕ) → FileMap → Plan
plan_of words files = of_words files (words_of words)
