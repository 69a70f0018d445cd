-- Call terms that have as many arguments as the table allows.
use Rattle.std.specs.Prelude.{◌≡◌, List, [], ◌∷◌, ◌++◌, length, Bool, true, false, ◌⊎◌}
use Rattle.dx_base.specs.Modules.{Takes}
use Rattle.dx_base.specs.declared.function.Module.{Module}
use Rattle.dx_base.specs.declared.function.Module.TheVariants.{Import}
use Rattle.dx_tags.specs.declared.term.Term.{Term}
use Rattle.dx_tags.specs.declared.term.Term.TheVariants.{Constant, Held, Call, File}
use Rattle.dx_tags.specs.declared.term.ValueTag.{ValueTag}
use Rattle.dx_tags.specs.Closed.{Head, ConstantHead, HeldHead, CallHead, FileHead, head_at, heads_of}

abbrev pub is_file : Head → Bool
is_file (ConstantHead c) = false
is_file (HeldHead n) = false
is_file (CallHead c) = false
is_file (FileHead b) = true

-- none of these names a file
abbrev pub HaveNoFile : List Head → List ValueTag → Type 0
HaveNoFile hs [] = Unit {0}
HaveNoFile hs (t ∷ ts) = (is_file (head_at hs t.tag) ≡ false) × HaveNoFile hs ts

-- the table's number of values
abbrev pub HasInputs : List Head → Module → List ValueTag → Type 0
HasInputs hs m ts = Takes m (length ts) × HaveNoFile hs ts

-- an Import's values, and behind them a file
pub record ReadsFile (hs : List Head) (m : Module) (ts : List ValueTag) : Type 0 where
  pub reads : m ≡ Import
  pub values : List ValueTag
  pub file : ValueTag
  pub split : ts ≡ values ++ file ∷ []
  pub is : is_file (head_at hs file.tag) ≡ true
  pub inputs : HasInputs hs m values

-- a call has as many arguments as the table allows, and an Import may have a file behind them
abbrev pub IsWhole : List Head → Term → Type 0
IsWhole hs (Constant c) = Unit {0}
IsWhole hs (Held k) = Unit {0}
IsWhole hs (Call m ts) = HasInputs hs m ts ⊎ ReadsFile hs m ts
IsWhole hs (File b) = Unit {0}

-- each call term of a table is so
abbrev pub AreWhole : List Head → List Term → Type 0
AreWhole hs [] = Unit {0}
AreWhole hs (t ∷ ts) = IsWhole hs t × AreWhole hs ts

abbrev pub AllWhole : List Term → Type 0
AllWhole terms = AreWhole (heads_of terms) terms
