-- What Import answers.
use Rattle.std.specs.Prelude.{ℕ, List, [], ◌∷◌, length, codes, Bool, true, false, not, ◌&&◌, Option, Some, None, is_none, is_some, Result, Ok, Err, if◌then◌else◌}
use Rattle.std.specs.Str.{bytes_eq}
use Rattle.dx_base.specs.declared.code.Code.{Code}
use Rattle.dx_base.specs.declared.code.Code.TheVariants.{BadArgument, Unsupported, NoFile, BadFile, BadField}
use Rattle.dx_base.specs.Object.{Tree}
use Rattle.dx_objects.specs.Kinds.{text_of}
use Rattle.dx_objects.specs.Runs.{Values, Answer}
use Rattle.dx_objects.specs.Values.{value_at}
use Rattle.dx_places.specs.Grammar.{At}
use Rattle.dx_native_lex.specs.declared.fault.NativeError.{NativeError}
use Rattle.dx_native_grammar.specs.Grammar.{File, file}
use Rattle.dx_native_grammar.specs.Meaning.{meant}
use Rattle.dx_native_grammar.specs.Native.{beginning}
use Rattle.dx_native_fields.specs.Good.{good_fields}

-- ---- the inputs: name, variable, format, start, end, delta

-- the text of an input, if it is one
abbrev pub text_in : Option Tree → Option (List ℕ)
text_in None = None
text_in (Some t) = text_of t

abbrev pub is_null_or_text : Option Tree → Bool
is_null_or_text None = true
is_null_or_text (Some t) = is_some (text_of t)

-- the format that is read: that of Data Explorer's own files, which is also meant where none is named
abbrev pub is_native : Option (List ℕ) → Bool
is_native None = true
is_native (Some word) = bytes_eq word (codes "dx")

abbrev pub are_unused : Values → Bool
are_unused inputs = is_none (value_at inputs 3) && is_none (value_at inputs 4) && is_none (value_at inputs 5)

-- why the inputs are refused, if they are
abbrev pub refusal : Values → Option Code
refusal inputs =
    if not (is_some (text_in (value_at inputs 0))) then Some BadArgument
    else if not (is_null_or_text (value_at inputs 1)) then Some BadArgument
    else if not (is_null_or_text (value_at inputs 2)) then Some BadArgument
    else if not (is_native (text_in (value_at inputs 2))) then Some Unsupported
    else if not (are_unused inputs) then Some Unsupported
    else None

-- ---- what a file means

-- what the clauses mean that are found in a text, or the fault by which the grammar refuses it
abbrev pub meaning_found : List ℕ → Option (List ℕ) → Result (File × At) NativeError → Result Tree NativeError
meaning_found bytes which (Ok found) = meant found.0 which (length bytes)
meaning_found bytes which (Err fault) = Err fault

-- the object of a text that is asked for, or the fault of the text
unfoldable pub meaning : List ℕ → Option (List ℕ) → Result Tree NativeError
meaning bytes which = meaning_found bytes which (file.read (beginning bytes))

-- ---- the answer

-- an object, if neither it is a field with a fault nor one that its parts reach
abbrev pub by_fields : Bool → Tree → Answer
by_fields true t = Ok (Some t ∷ [])
by_fields false t = Err BadField

abbrev pub imported : Result Tree NativeError → Answer
imported (Ok t) = by_fields (good_fields t) t
imported (Err fault) = Err (BadFile fault.kind fault.at)

abbrev pub from_file : Option (List ℕ) → Option (List ℕ) → Answer
from_file which None = Err NoFile
from_file which (Some bytes) = imported (meaning bytes which)

abbrev pub unless_refused : Option Code → Answer → Answer
unless_refused None answer = answer
unless_refused (Some code) answer = Err code

abbrev pub import_answer : Values → Option (List ℕ) → Answer
import_answer inputs bytes = unless_refused (refusal inputs) (from_file (text_in (value_at inputs 1)) bytes)
