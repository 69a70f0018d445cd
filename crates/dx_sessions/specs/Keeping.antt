-- What each call leaves in order, whatever the files tell and however it ends.
use Rattle.std.specs.Prelude.{◌≡◌, ℕ, List, Option, Result}
use Rattle.dx_io.specs.Devices.{Cause, FileMap as InputFiles}
use Rattle.dx_performing.specs.Execution.{Export}
use Rattle.dx_engine.specs.Ending.{HasPut}
use Rattle.dx_engine.specs.Keeping.{StateFits}
use Rattle.dx_engine.specs.declared.state.State.{State}
use Rattle.dx_making.specs.declared.end.End.{End}
use Rattle.dx_making.specs.declared.end.End.TheVariants.{ReadFault, WriteFault, ExportFault}

-- the content of the files, how many reads, writes and puts have failed, and the files that were put
pub record Counts : Type 0 where
  pub content : Option InputFiles
  pub reads : ℕ
  pub writes : ℕ
  pub exports : ℕ
  pub puts : Option (List Export)

abbrev pub counts : Option InputFiles → ℕ → ℕ → ℕ → Option (List Export) → Counts
counts content reads writes exports puts = record { content = content; reads = reads; writes = writes; exports = exports; puts = puts }

-- the files are the same; a device's fault is answered exactly where its count has risen, and with any other answer the count is as it
-- was; what is kept fits together, and written files are those before with the files put since
pub record Keeps {T : Type 0} (old new : State) (was now : Counts) (result : Result T End) : Type 0 where
  pub same : now.content ≡ was.content
  pub read_cause : Cause ReadFault was.reads now.reads result
  pub write_cause : Cause WriteFault was.writes now.writes result
  pub export_cause : Cause ExportFault was.exports now.exports result
  pub fits : StateFits new
  pub written : HasPut was.puts now.puts old.written.files new.written.files
