-- The dictionary: macros by their names, and the definitions of the top level in order.
use Rattle.std.specs.Prelude.{List, [], ◌∷◌, ◌++◌, Option, Some, None}
use Rattle.dx_base.specs.NameTable.{changed_at}
use Rattle.dx_ast.specs.Classes.{Text}
use Rattle.dx_ast.specs.Table.{function_named}
use Rattle.dx_ast.specs.Syntax.{CallOf, Call, Stmt, Assigns, Calls, Sequences, Macro, MakeMacro}
use Rattle.dx_definitions.specs.TopTexts.{TopText}
use Rattle.dx_signatures.specs.Callees.{Callee, callee_by}

abbrev pub of_call : Call → TopText
of_call c = record { targets = []; value = CallOf c }

-- the text of a statement that is executed
abbrev pub top_text : Stmt → Option TopText
top_text (Assigns targets e) = Some (record { targets = targets; value = e })
top_text (Calls c) = Some (of_call c)
top_text (Sequences c) = Some (of_call c)
top_text other = None

-- an assignment, a call or a sequence call
abbrev pub IsExecuted : Stmt → Type 0
IsExecuted (Assigns targets e) = Unit {0}
IsExecuted (Calls c) = Unit {0}
IsExecuted (Sequences c) = Unit {0}
IsExecuted other = ⊥

-- each name has at most one macro
abbrev pub Macros : Type 0
Macros = Text → Option Macro

pub record Dictionary : Type 0 where
  pub macros : Macros
  pub definitions : List TopText

abbrev pub no_macros : Macros
no_macros name = None

abbrev pub empty : Dictionary
empty = record { macros = no_macros; definitions = [] }

abbrev pub macro_name : Macro → Text
macro_name (MakeMacro name params results body) = name

-- a macro replaces an earlier one of its name
abbrev pub with_macro : Macro → Macros → Macros
with_macro m macros = changed_at macros (macro_name m) (Some m)

abbrev pub defining : Macro → Dictionary → Dictionary
defining m d = record { macros = with_macro m d.macros; definitions = d.definitions }

-- a definition joins behind the others
abbrev pub with_definition : TopText → Dictionary → Dictionary
with_definition t d = record { macros = d.macros; definitions = d.definitions ++ t ∷ [] }

-- ---- what the name of a call means

abbrev pub callee : Macros → Text → Callee
callee macros name = callee_by (macros name) (function_named name)
