-- What the devices in memory hold.
use Rattle.std.specs.Prelude.{ℕ, List}
use Rattle.dx_io.specs.declared.mem_exports.MemExports.{MemExports}
use Rattle.dx_io.specs.declared.mem_files.MemFiles.{MemFiles}
use Rattle.dx_io.specs.declared.mem_sink.MemSink.{MemSink}

abbrev pub kept_files : MemFiles → List (List ℕ × List ℕ)
kept_files m = m.files

abbrev pub failing_reads : MemFiles → List ℕ
failing_reads m = m.fail

abbrev pub asked_names : MemFiles → List (List ℕ)
asked_names m = m.asked.items

abbrev pub read_calls : MemFiles → ℕ
read_calls m = m.calls

abbrev pub read_faults : MemFiles → ℕ
read_faults m = m.faults

abbrev pub sink_bytes : MemSink → List ℕ
sink_bytes m = m.bytes.items

abbrev pub failing_writes : MemSink → List ℕ
failing_writes m = m.fail

abbrev pub write_calls : MemSink → ℕ
write_calls m = m.calls

abbrev pub write_faults : MemSink → ℕ
write_faults m = m.faults

-- the most bytes that a write takes
abbrev pub sink_limit : MemSink → ℕ
sink_limit m = m.limit

abbrev pub completed_puts : MemExports → List (List ℕ × List ℕ)
completed_puts m = m.puts.items

abbrev pub failing_puts : MemExports → List ℕ
failing_puts m = m.fail

abbrev pub put_calls : MemExports → ℕ
put_calls m = m.calls

abbrev pub put_faults : MemExports → ℕ
put_faults m = m.faults
