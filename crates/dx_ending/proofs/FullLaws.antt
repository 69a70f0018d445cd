-- How many terms were formed.
use Rattle.std.proofs.Common.{◌≡◌, ℕ, suc, List, [], ◌∷◌, length, nat_lt, refl, sym, ap, ◌∙◌}
use Rattle.std.specs.Prelude.{map}
use Rattle.dx_tags.specs.declared.term.Term.{Term}
use Rattle.dx_tags.specs.Closed.{heads_of, result_of_head}
use Rattle.dx_demand.specs.Forming.{named_terms}
use Rattle.dx_demand.proofs.FormedTerms.{heads_length}
use Rattle.dx_performing.specs.Kept.{is_full}

mapped_length : {A B : Type 0} (f : A → B) (xs : List A) → length (map f xs) ≡ length xs
mapped_length f [] = refl
mapped_length f (x ∷ xs) = ap suc (mapped_length f xs)

pub full_alike : (terms : List Term) (n : ℕ) → n ≡ length terms → nat_lt 65536 n ≡ is_full (named_terms terms)
full_alike terms n e = ap (nat_lt 65536) (e ∙ sym (mapped_length (λ h. result_of_head h 0) (heads_of terms) ∙ heads_length terms))
