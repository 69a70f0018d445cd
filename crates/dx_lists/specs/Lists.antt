-- Elements and lists before they are shared, as the constants that they are.
use Rattle.std.specs.Prelude.{◌≤◌, length}
use Rattle.dx_ast.specs.declared.constants.Const.{Const}
use Rattle.dx_ast.specs.declared.constants.Const.TheVariants as const
use Rattle.dx_lists.specs.declared.lists.Element.TheInside as element
use Rattle.dx_lists.specs.declared.lists.ElementKind.{ElementKind}
use Rattle.dx_lists.specs.declared.lists.ElementKind.TheVariants as one
use Rattle.dx_lists.specs.declared.lists.Growing.TheInside as growing
use Rattle.dx_lists.specs.declared.lists.Elements.{Elements}
use Rattle.dx_lists.specs.declared.lists.Elements.TheVariants as all

-- a vector has at most 256 numbers
abbrev pub IsShort : Const → Type 0
IsShort (const.Vector numbers) = length numbers ≤ 256
IsShort other = Unit {0}

abbrev pub element_as : ElementKind → Const
element_as (one.Int n) = const.Int n
element_as (one.Text t) = const.Text t
element_as (one.Vector ns) = const.Vector ns

abbrev pub element_in : element.Inside → Const
element_in e = element_as e.kind

abbrev pub list_as : Elements → Const
list_as (all.Ints ns) = const.Ints ns
list_as (all.Texts ts) = const.Texts ts
list_as (all.Vectors width ns) = const.Vectors width ns

abbrev pub list_in : growing.Inside → Const
list_in l = list_as l.elements
