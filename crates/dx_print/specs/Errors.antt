-- The lines of errors: of a call, a file or a play, by its name and what is wrong with it; and the words of the codes.
use Rattle.std.specs.Prelude.{ℕ, List, ◌++◌, codes}
use Rattle.std.specs.Fmt.{decimal}
use Rattle.dx_base.specs.declared.code.Code.{Code}
use Rattle.dx_base.specs.declared.code.Code.TheVariants as code
use Rattle.dx_base.specs.declared.code.NativeKind.{NativeKind}
use Rattle.dx_base.specs.declared.code.NativeKind.TheVariants as native

-- an error of something that has a name
abbrev pub error_line : List ℕ → List ℕ → List ℕ
error_line name what = codes "error " ++ name ++ codes ": " ++ what ++ codes "\n"

abbrev pub native_kind_text : NativeKind → List ℕ
native_kind_text native.Syntax = codes "Syntax"
native_kind_text native.FloatType = codes "FloatType"
native_kind_text native.UnknownClass = codes "UnknownClass"
native_kind_text native.NoObject = codes "NoObject"
native_kind_text native.BadPart = codes "BadPart"
native_kind_text native.ValueRange = codes "ValueRange"
native_kind_text native.TooManyItems = codes "TooManyItems"
native_kind_text native.Truncated = codes "Truncated"
native_kind_text native.NoVariable = codes "NoVariable"
native_kind_text native.TooDeep = codes "TooDeep"
native_kind_text native.TooLarge = codes "TooLarge"
native_kind_text native.OtherFile = codes "OtherFile"

abbrev pub code_text : Code → List ℕ
code_text code.BadArgument = codes "BadArgument"
code_text code.Unsupported = codes "Unsupported"
code_text code.NoFile = codes "NoFile"
code_text (code.BadFile kind at) = codes "BadFile " ++ native_kind_text kind ++ codes " " ++ decimal at
code_text code.BadField = codes "BadField"
code_text code.Overflow = codes "Overflow"
code_text code.DivisionByZero = codes "DivisionByZero"
code_text code.ItemMismatch = codes "ItemMismatch"
code_text (code.BadExpression at) = codes "BadExpression " ++ decimal at
code_text code.NoComponent = codes "NoComponent"
code_text code.NoMember = codes "NoMember"
code_text code.NotRegular = codes "NotRegular"
code_text code.TooLarge = codes "TooLarge"
