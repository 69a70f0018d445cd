-- An object of a file with its clause, as reading finds it.
use Rattle.std.specs.Prelude.{◌≡◌, Some, None, Result, Ok, Err}
use Rattle.dx_base.specs.Object.{Tree}
use Rattle.dx_objects.specs.Kinds.{array_of}
use Rattle.dx_native_lex.specs.declared.fault.NativeFail.{NativeFail}
use Rattle.dx_native_grammar.specs.Meaning.{tree_at}
use Rattle.dx_native_walk.specs.Answer.{IsKnown}
use Rattle.dx_native_read.specs.declared.read.Contents.{Contents}
use Rattle.dx_native_read.specs.declared.read.Checked.{Checked}

-- it is what its clause means, and so is what was built for it; the array of a clause that was asked for is kept no more
abbrev pub IsFound : Contents → Type 0
IsFound contents = (array_of contents.object ≡ None → IsKnown contents.clauses contents.memo) × (tree_at contents.clauses 64 contents.place ≡ Some contents.object)

abbrev pub read_tree : Result Contents NativeFail → Result Tree NativeFail
read_tree (Ok contents) = Ok contents.object
read_tree (Err e) = Err e

abbrev pub checked_object : Result Checked NativeFail → Result Tree NativeFail
checked_object (Ok checked) = Ok checked.object
checked_object (Err e) = Err e
