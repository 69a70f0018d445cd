use Rattle.dx_native_grammar.specs.Native.{beginning}
use Rattle.dx_native_sound.proofs.Clauses.{file_sound}
use Rattle.dx_native_read.proofs.read.contents_of.Goals as goal

pub object_of_file-requires : goal.object_of_file-requires
object_of_file-requires c = record { sound = file_sound (beginning c.args.bytes.now) c.in_ok-file.file c.in_ok-file.ensures.found.0 c.in_ok-file.ensures.found.1 }
