-- What a line of words comes to before anything is executed: it is no line, loading is refused, or there are statements to perform.
use Rattle.std.specs.Prelude.{◌≡◌, ℕ, List, [], Some, None, Ok, Err, bytes_eq, codes, if◌then◌else◌}
use Rattle.dx_io.specs.Devices.{FileMap}
use Rattle.dx_ast.specs.Syntax.{Stmts}
use Rattle.dx_ast.specs.Plain.{plain_stmts}
use Rattle.dx_include.specs.declared.fail.LoadFail.{LoadFail}
use Rattle.dx_include.specs.declared.loaded.Loaded.{Loaded}
use Rattle.dx_include.specs.Loading.{Name, Loading, IsLoading}
use Rattle.dx_words.specs.declared.words.Words.{Words}
use Rattle.dx_words.specs.declared.words.Job.{Job}
use Rattle.dx_words.specs.declared.words.Job.TheVariants.{Session, Workload}
use Rattle.dx_words.specs.Line.{words_of}
use Rattle.dx_workload.specs.Workload.{workload_text}

pub data Plan : Type 0 where
  NoLine : Plan
  Refuses : (reads : List Name) → LoadFail → Plan
  Performs : (reads : List Name) → Words → Stmts → Plan

-- ---- what is loaded

abbrev pub workload_name : Name
workload_name = codes "workload"

-- one file
abbrev pub alone : Name → List ℕ → FileMap
alone own text name = if bytes_eq name own then Some text else None

-- the text of a workload is the one file there is
abbrev pub workload_file : ℕ → FileMap
workload_file n = alone workload_name (workload_text n)

-- a workload asks for no file of the folder
abbrev pub LoadsJob : FileMap → Job → Loading → Type 0
LoadsJob files (Session name) l = IsLoading files name l
LoadsJob files (Workload n) l = (own : Loading) × IsLoading (workload_file n) workload_name own × (l ≡ record { reads = []; ends = own.ends })

-- ---- the plan of a line

pub data IsPlan (words : List (List ℕ)) (files : FileMap) : Plan → Type 0 where
  no_line : words_of words ≡ None → IsPlan words files NoLine
  refused : (said : Words) (l : Loading) (why : LoadFail) → words_of words ≡ Some said → LoadsJob files said.job l → l.ends ≡ Err why
      → IsPlan words files (Refuses l.reads why)
  performed : (said : Words) (l : Loading) (loaded : Loaded) → words_of words ≡ Some said → LoadsJob files said.job l → l.ends ≡ Ok loaded
      → IsPlan words files (Performs l.reads said (plain_stmts loaded.statements))
