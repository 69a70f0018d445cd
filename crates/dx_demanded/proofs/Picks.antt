-- What is picked, and what its term needs.
use Rattle.std.proofs.Common.{◌≡◌, ℕ, zero, suc, ℤ, pos, negsuc, List, Option, Some, None, Bool, true, false, refl}
use Rattle.std.specs.Prelude.{option_map, if◌then◌else◌, ◌==◌, []}
use Rattle.dx_base.specs.Object.{Tree as Object}
use Rattle.dx_base.specs.ObjectNumbers.{as_number}
use Rattle.dx_links.specs.declared.key.Key.{Key}
use Rattle.dx_links.specs.Denotes.{Around}
use Rattle.dx_tags.specs.Closed.{ValueTerm}
use Rattle.dx_machine.specs.Agree.{Runs, demanded}
use Rattle.dx_meaning.specs.Outcome.{Value}
use Rattle.dx_meaning.specs.Picking.{Pick, PickThis, PickInput, PickOff, PickFault, numbered, switch_number, switch_pick, routed, route_number, route_pick, held_or, get_pick}
use Rattle.dx_meaning.specs.Meaning.{World, values_in}
use Rattle.dx_meaning.specs.Scan.{null_term}
use Rattle.dx_meaning.specs.Term.{Names, around, terms_with}
use Rattle.dx_demanded.specs.Found.{AreLinks}
use Rattle.dx_demanded.proofs.Ends.{link_needs_none}

-- the same is picked, and what is picked at once needs nothing
abbrev pub PickNeeds : Around → List ValueTerm → Pick Value → Pick ValueTerm → Type 0
PickNeeds a links (PickThis v) (PickThis t) = demanded a links t ≡ Runs []
PickNeeds a links (PickInput k) (PickInput l) = k ≡ l
PickNeeds a links PickOff PickOff = Unit {0}
PickNeeds a links PickFault PickFault = Unit {0}
PickNeeds a links p q = ⊥

module _ (a : Around) (links : List ValueTerm) where
  numbered_needs : (k : ℤ) → PickNeeds a links (numbered None k) (numbered null_term k)
  numbered_needs (pos zero) = refl
  numbered_needs (pos (suc k)) = refl
  numbered_needs (negsuc k) = refl

  switch_number_needs : (o : Option ℤ) → PickNeeds a links (switch_number None o) (switch_number null_term o)
  switch_number_needs (Some k) = numbered_needs k
  switch_number_needs None = tt

  pub switch_needs : (v : Value) → PickNeeds a links (switch_pick None v) (switch_pick null_term v)
  switch_needs None = refl
  switch_needs (Some t) = switch_number_needs (as_number t)

  routed_needs : (result : ℕ) (k : ℤ) → PickNeeds a links (routed result k) (routed result k)
  routed_needs result (pos k) = go (k == suc result)
    where
      go : (b : Bool) → PickNeeds a links (if b then PickInput 1 else PickOff) (if b then PickInput 1 else PickOff)
      go true = refl
      go false = tt
  routed_needs result (negsuc k) = tt

  route_number_needs : (result : ℕ) (o : Option ℤ) → PickNeeds a links (route_number result o) (route_number result o)
  route_number_needs result (Some k) = routed_needs result k
  route_number_needs result None = tt

  pub route_needs : (result : ℕ) (v : Value) → PickNeeds a links (route_pick result v) (route_pick result v)
  route_needs result None = tt
  route_needs result (Some t) = route_number_needs result (as_number t)

  held_needs : (t : ValueTerm) (o : Option Object) → ((v : Object) → o ≡ Some v → demanded a links t ≡ Runs []) → PickNeeds a links (held_or (option_map (λ v. Some v) o)) (held_or (option_map (λ (v : Object). t) o))
  held_needs t (Some v) h = h v refl
  held_needs t None h = refl

pub get_needs : (w : World) (n : Names) (links : List ValueTerm) → AreLinks w n links → (to_key : List ℕ → Key) (result : ℕ) (name : Option (List ℕ)) → PickNeeds (around w n) links (get_pick (values_in w) to_key result name) (get_pick (terms_with w n) to_key result name)
get_needs w n links l to_key result None = tt
get_needs w n links l to_key zero (Some name) = held_needs (around w n) links (n.term (to_key name)) (w.link (to_key name)) (λ v e. link_needs_none (around w n) links (n.term (to_key name)) (l.listed (to_key name) v e))
get_needs w n links l to_key (suc k) (Some name) = refl
