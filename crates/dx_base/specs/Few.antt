-- A list of few elements, as the list that it is.
use Rattle.std.specs.Prelude.{List}
use Rattle.dx_base.specs.declared.few.Elements.{Elements}
use Rattle.dx_base.specs.declared.few.Elements.TheVariants.{One, Many}

module _ {T : Type 0} where
  abbrev pub few_in : Elements T → List T
  few_in (One one) = one
  few_in (Many many) = many.items
