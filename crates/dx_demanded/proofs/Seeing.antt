-- Seeing the links' terms, and each value that a term denotes.
use Rattle.std.proofs.Common.{◌≡◌, Option, Some, None, ap, ◌∙◌}
use Rattle.std.specs.Prelude.{Result, Ok, Err}
use Rattle.dx_base.specs.declared.code.Code.{Code}
use Rattle.dx_ast.specs.declared.constants.Const.TheVariants as const
use Rattle.dx_tags.specs.Closed.{ConstantTerm}
use Rattle.dx_meaning.specs.Outcome.{Value}
use Rattle.dx_meaning.specs.Meaning.{World}
use Rattle.dx_meaning.specs.Scan.{Sight, null_term, terms_in}
use Rattle.dx_meaning.specs.Term.{Names, terms_with}
use Rattle.dx_performing.specs.Course.{value_or_none}
use Rattle.dx_performing.specs.Meant.{IsFull}

pub same_shelf : (w : World) (n : Names) (s : Sight) → IsFull w n s → terms_in s ≡ terms_with w n
same_shelf w n s full = λ j. record { null = null_term; text = λ name. ConstantTerm (const.Text name); held = λ key. full.linked key j }

pub told_none : (o : Option Value) (r : Result Value Code) (code : Code) → o ≡ value_or_none r → r ≡ Err code → o ≡ None
told_none o r code e f = e ∙ ap value_or_none f

pub told_some : (o : Option Value) (r : Result Value Code) (v : Value) → o ≡ value_or_none r → r ≡ Ok v → o ≡ Some v
told_some o r v e f = e ∙ ap value_or_none f
