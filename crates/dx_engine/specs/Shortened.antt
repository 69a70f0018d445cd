-- What cuts the effects of an execution short.
use Rattle.dx_io.specs.declared.fails.SinkFail.{SinkFail}
use Rattle.dx_io.specs.declared.fails.SinkFail.TheVariants as sink
use Rattle.dx_looking.specs.declared.cut.Cut.{Cut}
use Rattle.dx_looking.specs.declared.cut.Cut.TheVariants as cut
use Rattle.dx_engine.specs.declared.short.Short.{Short}
use Rattle.dx_engine.specs.declared.short.Short.TheVariants.{ReadFault, WriteFault, Memory}

abbrev pub cut_short : Cut → Short
cut_short cut.ReadFault = ReadFault
cut_short cut.Memory = Memory

abbrev pub sink_short : SinkFail → Short
sink_short sink.Fault = WriteFault
sink_short sink.Memory = Memory
