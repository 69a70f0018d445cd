-- Which terms there are, and which tags are values and arguments.
use Rattle.std.specs.Prelude.{◌≡◌, ◌⊎◌, ℕ, List, length, Option, None, false}
use Rattle.dx_base.specs.declared.function.Module.{Module}
use Rattle.dx_base.specs.declared.function.Module.TheVariants.{Import}
use Rattle.dx_tags.specs.declared.term.Term.{Term}
use Rattle.dx_tags.specs.declared.term.ValueTag.{ValueTag}
use Rattle.dx_tags.specs.Closed.{heads_of, head_at, Fits, AreEarlier, AllFormed, AreDistinct}
use Rattle.dx_tags.specs.Whole.{is_file, HaveNoFile, AllWhole}

-- each is formed of earlier ones, none stands twice, and a call has as many arguments as its module takes
pub record AreExact (terms : List Term) : Type 0 where
  pub formed : AllFormed terms
  pub distinct : AreDistinct terms
  pub whole : AllWhole terms

-- the tag of a term that is there, and that is no file
pub record IsValue (terms : List Term) (t : ValueTag) : Type 0 where
  pub fits : Fits terms t
  pub value : is_file (head_at (heads_of terms) t.tag) ≡ false

-- such tags, one behind the other
pub record AreArguments (terms : List Term) (ts : List ValueTag) : Type 0 where
  pub earlier : AreEarlier (heads_of terms) (length terms) ts
  pub values : HaveNoFile (heads_of terms) ts

-- a file stands behind the arguments of an Import alone
abbrev pub MayRead : Module → Option (List ℕ) → Type 0
MayRead m file = (m ≡ Import) ⊎ (file ≡ None)
