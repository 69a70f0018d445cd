-- The names of clauses with one more clause.
use Rattle.std.proofs.Common.{◌≡◌, List, [], ◌∷◌, ◌++◌, refl, ap}
use Rattle.dx_native_grammar.specs.declared.clause.Clause.{Clause}
use Rattle.dx_native_grammar.specs.Names.{clause_names}

pub clause_names_push : (cs : List Clause) (c : Clause) → clause_names (cs ++ c ∷ []) ≡ clause_names cs ++ c.name.text ∷ []
clause_names_push [] c = refl
clause_names_push (x ∷ cs) c = ap (λ ns. x.name.text ∷ ns) (clause_names_push cs c)
