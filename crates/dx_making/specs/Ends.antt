-- What cuts a session short.
use Rattle.std.specs.Prelude.{Bool, true, false}
use Rattle.dx_io.specs.declared.fails.SinkFail.{SinkFail}
use Rattle.dx_io.specs.declared.fails.SinkFail.TheVariants as sink
use Rattle.dx_making.specs.declared.end.End.{End}
use Rattle.dx_making.specs.declared.end.End.TheVariants.{ReadFault, WriteFault, ExportFault, Memory}

-- where a text can't be written
abbrev pub write_end : SinkFail → End
write_end sink.Fault = WriteFault
write_end sink.Memory = Memory

-- a file is read before its run, so where that can't be, or memory runs out, a name may have been read without one; texts are printed
-- between runs, and files put behind them
abbrev pub reads_ahead : End → Bool
reads_ahead ReadFault = true
reads_ahead WriteFault = false
reads_ahead ExportFault = false
reads_ahead Memory = true
