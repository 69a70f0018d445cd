-- What an effect does with the values of its arguments.
use Rattle.std.specs.Prelude.{ℕ, List, [], ◌∷◌, Option, Some, None, Bool, true, false, Result, Ok, Err, codes, bytes_eq, if◌then◌else◌}
use Rattle.dx_base.specs.Object.{Tree}
use Rattle.dx_base.specs.declared.code.Code.{Code}
use Rattle.dx_base.specs.declared.code.Code.TheVariants.{BadArgument, Unsupported}
use Rattle.dx_base.specs.declared.function.Effect.{Effect}
use Rattle.dx_base.specs.declared.function.Effect.TheVariants as effect
use Rattle.dx_macros.specs.Tree.{Place}
use Rattle.dx_objects.specs.Kinds.{text_of}
use Rattle.dx_objects.specs.Runs.{Values}
use Rattle.dx_links.specs.declared.key.Key.{Key}
use Rattle.dx_links.specs.declared.key.Key.TheVariants as key
use Rattle.dx_native_text.specs.Text as native
use Rattle.dx_print.specs.Printed.{print_of}
use Rattle.dx_print.specs.Echoed.{echo_of}
use Rattle.dx_meaning.specs.Outcome.{Value}
use Rattle.dx_meaning.specs.Picking.{key_in}

-- it prints a text, puts a file under a name, sets what a key of links holds, or refuses its arguments
pub data Act : Type 0 where
  Prints : (text : List ℕ) → Act
  Puts : (name : List ℕ) → (content : List ℕ) → Act
  Sets : Key → Value → Act
  Refuses : Code → Act

-- ---- Print

abbrev pub printing : Result (List ℕ) Code → Act
printing (Ok text) = Prints text
printing (Err code) = Refuses code

-- ---- SetLocal and SetGlobal: the link is a text

abbrev pub setting : (List ℕ → Key) → Value → Option (List ℕ) → Act
setting to_key v (Some name) = Sets (to_key name) v
setting to_key v None = Refuses BadArgument

abbrev pub text_in : Value → Option (List ℕ)
text_in None = None
text_in (Some t) = text_of t

abbrev pub set_of : (List ℕ → Key) → Values → Act
set_of to_key (v ∷ link ∷ []) = setting to_key v (text_in link)
set_of to_key other = Refuses BadArgument

-- ---- Export: an object, a name of at least one byte, and NULL or `dx` as the format; the first that doesn't fit decides

abbrev pub object_in : Value → Result Tree Code
object_in None = Err BadArgument
object_in (Some object) = Ok object

abbrev pub name_in : Option (List ℕ) → Result (List ℕ) Code
name_in None = Err BadArgument
name_in (Some []) = Err BadArgument
name_in (Some (b ∷ bs)) = Ok (b ∷ bs)

abbrev pub format_text : Option (List ℕ) → Option Code
format_text None = Some BadArgument
format_text (Some format) = if bytes_eq format (codes "dx") then None else Some Unsupported

-- the code of a format that isn't taken
abbrev pub format_code : Value → Option Code
format_code None = None
format_code (Some format) = format_text (text_of format)

abbrev pub putting : Result Tree Code → Result (List ℕ) Code → Option Code → Act
putting (Err code) name format = Refuses code
putting (Ok object) (Err code) format = Refuses code
putting (Ok object) (Ok name) (Some code) = Refuses code
putting (Ok object) (Ok name) None = Puts name (native.text_of object)

abbrev pub export_of : Values → Act
export_of (object ∷ name ∷ format ∷ []) = putting (object_in object) (name_in (text_in name)) (format_code format)
export_of other = Refuses BadArgument

-- ---- the five effects; a local link stands under the path of its Set

abbrev pub act : Effect → Place → Values → Act
act effect.Print p values = printing (print_of values)
act effect.Echo p values = Prints (echo_of values)
act effect.Export p values = export_of values
act effect.SetLocal p values = set_of (key_in p) values
act effect.SetGlobal p values = set_of key.Global values

abbrev pub is_refusal : Act → Bool
is_refusal (Prints text) = false
is_refusal (Puts name content) = false
is_refusal (Sets k v) = false
is_refusal (Refuses code) = true
