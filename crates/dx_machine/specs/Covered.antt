-- The calls that getting a term can reach.
use Rattle.std.specs.Prelude.{◌≡◌, List, [], ◌∷◌, Bool, true, false, ◌||◌}
use Rattle.dx_tags.specs.Closed.{ValueTerm, ConstantTerm, HeldTerm, ResultTerm, FileTerm, CallTerm, CallOf, ValueTerms, NoTerm, AndTerm}
use Rattle.dx_links.specs.Getting.{same_call, has_value}
use Rattle.dx_machine.specs.Machine.{FormedCall}

abbrev pub is_formed : List FormedCall → CallTerm → Bool
is_formed [] c = false
is_formed (f ∷ fs) c = same_call f.call c || is_formed fs c

-- each call that getting the term can reach, whatever is kept, was formed
abbrev mutual
  pub IsCovered : List FormedCall → (links : List ValueTerm) → ValueTerm → Type 0
  IsCovered fs links (ConstantTerm c) = Unit {0}
  IsCovered fs links (HeldTerm n) = Unit {0}
  IsCovered fs links (FileTerm bytes) = Unit {0}
  IsCovered fs links (ResultTerm result c) = has_value links (ResultTerm result c) ≡ false → IsCoveredCall fs links c

  pub IsCoveredCall : List FormedCall → (links : List ValueTerm) → CallTerm → Type 0
  IsCoveredCall fs links (CallOf m ts) = (is_formed fs (CallOf m ts) ≡ true) × AreCovered fs links ts

  pub AreCovered : List FormedCall → (links : List ValueTerm) → ValueTerms → Type 0
  AreCovered fs links NoTerm = Unit {0}
  AreCovered fs links (AndTerm t ts) = IsCovered fs links t × AreCovered fs links ts
