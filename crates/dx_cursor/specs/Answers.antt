-- What a function answers beside what is read of the tokens: the same, unless memory runs out.
use Rattle.std.specs.Prelude.{◌≡◌, Result, Ok, Err}
use Rattle.dx_ast.specs.Script.{Tokens}
use Rattle.dx_script_grammar.specs.Reading.{Outcome}
use Rattle.dx_cursor.specs.declared.fail.ParseFail.{ParseFail}
use Rattle.dx_cursor.specs.declared.fail.ParseFail.TheVariants as fail

abbrev pub Fails : {A : Type 0} → Outcome A → ParseFail → Tokens → Type 0
Fails outcome (fail.Refused f) left = outcome ≡ Err (f, left)
Fails outcome fail.Memory left = Unit {0}

abbrev pub Reads : {A : Type 0} → Outcome A → Result A ParseFail → Tokens → Type 0
Reads outcome (Ok a) left = outcome ≡ Ok (a, left)
Reads outcome (Err f) left = Fails outcome f left
