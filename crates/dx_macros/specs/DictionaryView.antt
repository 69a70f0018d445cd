-- The code's dictionary as a dictionary.
use Rattle.std.specs.Prelude.{ℕ, map, option_map}
use Rattle.dx_base.specs.NameTable.{under_name}
use Rattle.dx_ast.specs.Plain.{plain_macro}
use Rattle.dx_macros.specs.Dictionary as plain
use Rattle.dx_definitions.specs.Index.{text_of}
use Rattle.dx_macros.specs.declared.dictionary.Dictionary.{Dictionary}

abbrev pub dictionary_of : Dictionary → plain.Dictionary
dictionary_of d = record { macros = λ name. option_map plain_macro (under_name d.macros name); definitions = map text_of d.definitions.items }

-- how many more definitions there is room for
abbrev pub room_of : Dictionary → ℕ
room_of d = d.definitions.room
