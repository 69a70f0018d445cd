-- The lines that are printed in place of a session.
use Rattle.std.specs.Prelude.{ℕ, List, ◌++◌, codes}
use Rattle.std.specs.Fmt.{decimal}
use Rattle.dx_base.specs.declared.token.SyntaxError.{SyntaxError}
use Rattle.dx_base.specs.declared.token.SyntaxKind.{SyntaxKind}
use Rattle.dx_base.specs.declared.token.SyntaxKind.TheVariants as kind
use Rattle.dx_include.specs.declared.fail.LoadFail.{LoadFail}
use Rattle.dx_include.specs.declared.fail.LoadFail.TheVariants as fail
use Rattle.dx_print.specs.Errors.{error_line}

abbrev pub usage_line : List ℕ
usage_line = codes "usage: dxi [--memory BYTES] [--trace] [--links] (SESSION | --workload N)\n"

abbrev pub kind_text : SyntaxKind → List ℕ
kind_text kind.Syntax = codes "Syntax"
kind_text kind.FloatNumber = codes "FloatNumber"
kind_text kind.NumberRange = codes "NumberRange"
kind_text kind.MixedList = codes "MixedList"
kind_text kind.ListTooLong = codes "ListTooLong"

-- a place of a file
abbrev pub place_text : List ℕ → SyntaxError → List ℕ
place_text name e = name ++ codes ":" ++ decimal e.line ++ codes ":" ++ decimal e.column

-- why nothing is loaded; a fault of the files and want of memory print nothing
abbrev pub refusal_line : LoadFail → List ℕ
refusal_line (fail.Missing name) = error_line name (codes "Missing")
refusal_line (fail.Nested name) = error_line name (codes "Nested")
refusal_line (fail.TooLong name) = error_line name (codes "TooLong")
refusal_line (fail.Syntax name e) = error_line (place_text name e) (kind_text e.kind)
refusal_line fail.ReadFault = codes ""
refusal_line fail.Memory = codes ""
