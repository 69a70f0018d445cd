-- What the code says of an effect's act, and which values an effect has.
use Rattle.std.specs.Prelude.{◌≡◌, ◌+◌, ◌≤◌, length, Result, Ok, Err}
use Rattle.dx_base.specs.declared.function.Effect.{Effect}
use Rattle.dx_base.specs.declared.function.Function.TheVariants as function
use Rattle.dx_ast.specs.Table.{row_of}
use Rattle.dx_objects.specs.Runs.{Values}
use Rattle.dx_objects.specs.Values.{value_of}
use Rattle.dx_objects.specs.declared.run_fail.RunFail.{RunFail}
use Rattle.dx_objects.specs.declared.run_fail.RunFail.TheVariants as fail
use Rattle.dx_native_text.specs.Text as native
use Rattle.dx_performing.specs.Acts.{Act, Prints, Puts, Sets, Refuses}
use Rattle.dx_acts.specs.declared.act.Act.{Act as Done}
use Rattle.dx_acts.specs.declared.act.Act.TheVariants as done

-- as many values as the effect takes arguments
pub record AreValues (e : Effect) (values : Values) : Type 0 where
  pub enough : length (row_of (function.Effect e)).params ≤ length values
  pub few : length values ≤ length (row_of (function.Effect e)).params + (row_of (function.Effect e)).more

-- an object that is put has its canonical text
abbrev pub shown : Done → Act
shown (done.Prints text) = Prints text
shown (done.Puts name object) = Puts name (native.text_of object.value)
shown (done.Sets key v) = Sets key (value_of v)

-- it is this act, or the refusal
abbrev pub DoesSo : Act → Result Done RunFail → Type 0
DoesSo a (Ok x) = a ≡ shown x
DoesSo a (Err (fail.Code code)) = a ≡ Refuses code
DoesSo a (Err fail.Memory) = Unit {0}
