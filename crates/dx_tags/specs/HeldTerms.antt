-- The terms that an emptying leaves.
use Rattle.std.specs.Prelude.{ℕ, zero, suc, List, [], ◌∷◌, ◌++◌}
use Rattle.dx_tags.specs.declared.term.Term.{Term}
use Rattle.dx_tags.specs.declared.term.Term.TheVariants.{Held as HeldBy}

-- the terms of so many held values, in order
abbrev pub held_terms : ℕ → List Term
held_terms zero = []
held_terms (suc n) = held_terms n ++ HeldBy n ∷ []
