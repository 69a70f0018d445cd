use Rattle.std.proofs.Common.{refl, sym, ap}
use Rattle.std.specs.Prelude.{option_map}
use Rattle.dx_ast.specs.Plain.{plain_macro}
use Rattle.dx_macros.proofs.Empty.{nothing_under}
use Rattle.dx_macros.proofs.dictionary.Dictionary.macro_of.Goals as goal

pub returns-then-is_empty : goal.returns-then-is_empty
returns-then-is_empty c = ap (option_map plain_macro) (sym (nothing_under c.args.self.now.macros c.args.name.now (c.if-is_empty.ensures.0 refl)))
