-- How an execution ends.
use Rattle.std.specs.Prelude.{◌≡◌, ◌⊎◌, ℕ, List, [], Option, Some, None, Result, Ok, Err}
use Rattle.dx_base.specs.declared.code.Code.{Code}
use Rattle.dx_graph.specs.Graph.{Node}
use Rattle.dx_io.specs.declared.fails.ExportFail.{ExportFail}
use Rattle.dx_io.specs.declared.fails.ExportFail.TheVariants as export
use Rattle.dx_macros.specs.Site.{steps_text}
use Rattle.dx_tags.specs.Files.{FileMap}
use Rattle.dx_demand.specs.Memo.{site_of}
use Rattle.dx_performing.specs.Execution.{Export}
use Rattle.dx_ending.specs.Putting.{ArePut, ArePutBefore}
use Rattle.dx_engine.specs.declared.exec_error.ExecError.{ExecError}
use Rattle.dx_engine.specs.declared.exec_error.ExecError.TheVariants.{Module, ReadFault, WriteFault, ExportFault, Memory}
use Rattle.dx_engine.specs.declared.short.Short.{Short}
use Rattle.dx_engine.specs.declared.short.Short.TheVariants as short

abbrev pub short_error : Short → ExecError
short_error short.ReadFault = ReadFault
short_error short.WriteFault = WriteFault
short_error short.Memory = Memory

abbrev pub export_error : ExportFail → ExecError
export_error export.Fault = ExportFault
export_error export.Memory = Memory

-- where it ends well, or with the error of a call
abbrev pub OnEnd : Result (Unit {0}) ExecError → Type 0 → Type 0
OnEnd (Ok _) P = P
OnEnd (Err (Module site code)) P = P
OnEnd (Err ReadFault) P = Unit {0}
OnEnd (Err WriteFault) P = Unit {0}
OnEnd (Err ExportFault) P = Unit {0}
OnEnd (Err Memory) P = Unit {0}

-- where it is cut short
abbrev pub OnCut : Result (Unit {0}) ExecError → Type 0 → Type 0
OnCut (Ok _) P = Unit {0}
OnCut (Err (Module site code)) P = Unit {0}
OnCut (Err ReadFault) P = P
OnCut (Err WriteFault) P = P
OnCut (Err ExportFault) P = P
OnCut (Err Memory) P = P

-- the error by its node and its code, with the text of the site
abbrev pub ErrorIs : List Node → Option (ℕ × Code) → Result (Unit {0}) ExecError → Type 0
ErrorIs nodes e (Ok _) = e ≡ None
ErrorIs nodes e (Err (Module site code)) = (n : ℕ) × (e ≡ Some (n, code)) × (site ≡ steps_text (site_of nodes n))
ErrorIs nodes e (Err ReadFault) = Unit {0}
ErrorIs nodes e (Err WriteFault) = Unit {0}
ErrorIs nodes e (Err ExportFault) = Unit {0}
ErrorIs nodes e (Err Memory) = Unit {0}

-- the site of an error and its code
abbrev pub SiteIs : List Node → Option (ℕ × Code) → Option (List ℕ × Code) → Type 0
SiteIs nodes e None = e ≡ None
SiteIs nodes e (Some s) = (n : ℕ) × (e ≡ Some (n, s.1)) × (s.0 ≡ steps_text (site_of nodes n))

-- where it is cut short in putting these files: at a put that failed, or for want of memory also before the first one
abbrev pub CutsPuts : Result (Unit {0}) ExecError → Option (List Export) → Option (List Export) → FileMap → FileMap → List Export → Type 0
CutsPuts (Ok _) was now before behind all = Unit {0}
CutsPuts (Err (Module site code)) was now before behind all = Unit {0}
CutsPuts (Err ReadFault) was now before behind all = Unit {0}
CutsPuts (Err WriteFault) was now before behind all = Unit {0}
CutsPuts (Err ExportFault) was now before behind all = ArePutBefore was now before behind all
CutsPuts (Err Memory) was now before behind all = ArePut was now before behind [] ⊎ ArePutBefore was now before behind all

-- some files were put, and are written files then, each over an earlier one of its name
pub record HasPut (was now : Option (List Export)) (before behind : FileMap) : Type 0 where
  pub files : List Export
  pub made : ArePut was now before behind files

abbrev pub ended_so : Option (List ℕ × Code) → Result (Unit {0}) ExecError → Type 0
ended_so None r = r ≡ Ok tt
ended_so (Some s) r = r ≡ Err (Module s.0 s.1)
