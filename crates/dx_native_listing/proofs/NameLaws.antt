-- The names of a list with one more element.
use Rattle.std.proofs.Common.{◌≡◌, ℕ, List, [], ◌∷◌, ◌++◌, Option, Some, None, refl, ap, ◌∙◌}
use Rattle.dx_native_grammar.specs.declared.clause.Part.{Part}
use Rattle.dx_native_grammar.specs.declared.clause.Attribute.{Attribute}
use Rattle.dx_native_grammar.specs.Names.{name_before, part_names, attribute_names}

before_append : (n : Option (List ℕ)) (xs ys : List (List ℕ)) → name_before n (xs ++ ys) ≡ name_before n xs ++ ys
before_append None xs ys = refl
before_append (Some n) xs ys = refl

pub part_names_push : (ps : List Part) (p : Part) → part_names (ps ++ p ∷ []) ≡ part_names ps ++ name_before p.name []
part_names_push [] p = refl
part_names_push (q ∷ ps) p = ap (name_before q.name) (part_names_push ps p) ∙ before_append q.name (part_names ps) (name_before p.name [])

pub attribute_names_push : (xs : List Attribute) (a : Attribute) → attribute_names (xs ++ a ∷ []) ≡ attribute_names xs ++ a.name ∷ []
attribute_names_push [] a = refl
attribute_names_push (x ∷ xs) a = ap (λ ns. x.name ∷ ns) (attribute_names_push xs a)
