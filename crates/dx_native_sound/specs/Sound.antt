-- Clauses as the grammar lets them stand.
use Rattle.std.specs.Prelude.{◌≡◌, ℕ, List, [], ◌∷◌, is_some, is_none, false, true, bytes_eq}
use Rattle.std.specs.List.{list_any}
use Rattle.dx_base.specs.ObjectNumbers.{has_int_steps}
use Rattle.dx_native_grammar.specs.Names.{part_names, attribute_names}
use Rattle.dx_native_grammar.specs.declared.clause.Body.{Body}
use Rattle.dx_native_grammar.specs.declared.clause.Body.TheVariants as body
use Rattle.dx_native_grammar.specs.declared.clause.Clause.{Clause}
use Rattle.dx_native_grammar.specs.declared.clause.ListClass.{ListClass}
use Rattle.dx_native_grammar.specs.declared.clause.ListClass.TheVariants as listing
use Rattle.dx_native_grammar.specs.declared.clause.Part.{Part}

-- each of them is so
abbrev pub Every : {X : Type 0} → (X → Type 0) → List X → Type 0
Every P [] = Unit {0}
Every P (x ∷ xs) = P x × Every P xs

-- no name stands twice
abbrev pub Distinct : List (List ℕ) → Type 0
Distinct [] = Unit {0}
Distinct (n ∷ ns) = (list_any (bytes_eq n) ns ≡ false) × Distinct ns

-- components have names, and members of a series have none
abbrev pub IsNamedIn : ListClass → Part → Type 0
IsNamedIn listing.Field p = is_some p.name ≡ true
IsNamedIn listing.Group p = Unit {0}
IsNamedIn listing.Composite p = Unit {0}
IsNamedIn listing.Series p = is_none p.name ≡ true

abbrev pub IsSoundBody : Body → Type 0
IsSoundBody (body.Array a) = has_int_steps a.class ≡ true
IsSoundBody (body.Text b) = Unit {0}
IsSoundBody (body.Parts k ps) = Distinct (part_names ps) × Every (IsNamedIn k) ps

pub record IsSound (c : Clause) : Type 0 where
  pub of_body : IsSoundBody c.content.body
  pub attributes : Distinct (attribute_names c.content.attributes)
