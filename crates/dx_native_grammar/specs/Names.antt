-- Names of parts, of attributes and of clauses.
use Rattle.std.specs.Prelude.{ℕ, Bool, false, List, [], ◌∷◌, map, Option, Some, None, bytes_eq}
use Rattle.std.specs.List.{list_any}
use Rattle.dx_native_grammar.specs.declared.clause.Part.{Part}
use Rattle.dx_native_grammar.specs.declared.clause.Attribute.{Attribute}
use Rattle.dx_native_grammar.specs.declared.clause.Clause.{Clause}

abbrev pub name_before : Option (List ℕ) → List (List ℕ) → List (List ℕ)
name_before None ns = ns
name_before (Some n) ns = n ∷ ns

abbrev pub part_names : List Part → List (List ℕ)
part_names [] = []
part_names (p ∷ ps) = name_before p.name (part_names ps)

abbrev pub attribute_names : List Attribute → List (List ℕ)
attribute_names xs = map (λ (a : Attribute). a.name) xs

abbrev pub clause_names : List Clause → List (List ℕ)
clause_names cs = map (λ (c : Clause). c.name.text) cs

-- a part has this name, an attribute has it, a clause has it
abbrev pub has_part : List ℕ → List Part → Bool
has_part n ps = list_any (bytes_eq n) (part_names ps)

abbrev pub has_attribute : List ℕ → List Attribute → Bool
has_attribute n xs = list_any (bytes_eq n) (attribute_names xs)

abbrev pub has_clause : List ℕ → List Clause → Bool
has_clause n cs = list_any (bytes_eq n) (clause_names cs)

-- a part has this name, where it is one
abbrev pub has_label : Option (List ℕ) → List Part → Bool
has_label None ps = false
has_label (Some n) ps = has_part n ps
