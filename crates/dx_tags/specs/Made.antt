-- The objects of constants that have a term.
use Rattle.std.specs.Prelude.{◌≡◌, ℕ, List, Option, Some, slice_get}
use Rattle.std.specs.declared.rc.Rc.{Rc}
use Rattle.std.specs.declared.alloc.Global.{Global}
use Rattle.dx_base.specs.Object.{Tree}
use Rattle.dx_ast.specs.declared.constants.Const.{Const}
use Rattle.dx_ast.specs.Lawful.{IsLawfulConst}
use Rattle.dx_ast.specs.Value.{value_of}
use Rattle.dx_tags.specs.declared.term.Term.{Term}
use Rattle.dx_tags.specs.declared.term.Term.TheVariants.{Constant, Held, Call, File}

-- the term at this place is a constant, whose value is this object
abbrev pub IsMade : List Term → ℕ → Tree → Type 0
IsMade terms i o = (c : Const) × (slice_get terms i ≡ Some (Constant c)) × (value_of c ≡ Some o)

-- each object that is kept at a place is that of the constant there
abbrev pub AreMade : List Term → List (Option (Rc Tree Global)) → Type 0
AreMade terms objects = (i : ℕ) (o : Rc Tree Global) → slice_get objects i ≡ Some (Some o) → IsMade terms i o.value

-- a constant is one that a script can have
abbrev pub IsLawfulTerm : Term → Type 0
IsLawfulTerm (Constant c) = ∥ IsLawfulConst c ∥₁
IsLawfulTerm (Held k) = Unit {0}
IsLawfulTerm (Call m ts) = Unit {0}
IsLawfulTerm (File b) = Unit {0}
