-- Looking by all values, and the course of an execution, come to what the meaning says.
use Rattle.std.specs.Prelude.{◌≡◌, ℕ, List, [], ◌∷◌, Some, option_map, Ok, Err}
use Rattle.dx_base.specs.Object.{Tree as Object}
use Rattle.dx_base.specs.declared.code.Code.{Code}
use Rattle.dx_macros.specs.Site.{Step}
use Rattle.dx_macros.specs.Tree.{Tree, CallTree, Trees}
use Rattle.dx_objects.specs.Runs.{Values}
use Rattle.dx_tags.specs.Closed.{ValueTerm, ValueTerms}
use Rattle.dx_links.specs.declared.key.Key.{Key}
use Rattle.dx_links.specs.Denotes.{Around, denotes}
use Rattle.dx_meaning.specs.Outcome.{Decided, Val, ErrAt, Off, HaltAt}
use Rattle.dx_meaning.specs.Meaning.{World, outcome, outcomes, together}
use Rattle.dx_meaning.specs.Scan.{Sight, IsOff, Stops, Needs, Scanned, Forms, Ends, scan, scan_each, all_scanned}
use Rattle.dx_meaning.specs.Term.{Names, around, term_of, terms_of, LinksDenote}
use Rattle.dx_performing.specs.Execution.{execution, behind}
use Rattle.dx_performing.specs.Kept.{Kept, LinkTerms, current}
use Rattle.dx_performing.specs.Course.{Fixed, Came, HasValues, PassedOver, IsRefused, value_or_none, around_of, world_of, came, executed}

-- ---- looking

-- the links' terms, what was written, and each value that a term denotes
pub record IsFull (w : World) (n : Names) (s : Sight) : Type 0 where
  pub linked : (k : Key) → s.linked k ≡ option_map (λ (o : Object). n.term k) (w.link k)
  pub written : (name : List ℕ) → s.written name ≡ w.written name
  pub told : (t : ValueTerm) → s.told t ≡ value_or_none (denotes (around w n) t)

-- a selector that doesn't fit, or one that is refused with the code
abbrev pub IsHalted : {T : Type 0} → Around → List Step → Code → Scanned T → Type 0
IsHalted a site code (Forms t) = ⊥
IsHalted a site code (Ends IsOff) = ⊥
IsHalted a site code (Ends (Stops place c)) = (place ≡ site) × (c ≡ code)
IsHalted a site code (Ends (Needs place t)) = denotes a t ≡ Err code

-- there is a term where there is a value or a refusal, and else what looking ends in is meant
abbrev pub Means : {A T : Type 0} → Around → Decided A → T → Scanned T → Type 0
Means a (Val v) t x = x ≡ Forms t
Means a (ErrAt site code) t x = x ≡ Forms t
Means a Off t x = x ≡ Ends IsOff
Means a (HaltAt site code) t x = IsHalted a site code x

abbrev pub ScansAreMeant : Type 0
ScansAreMeant = (w : World) (n : Names) (s : Sight) → LinksDenote w n → IsFull w n s → (t : Tree) → Means (around w n) (outcome w t).decided (term_of w n t) (scan s t)

-- ---- an effect

abbrev pub CameSo : Decided Values → ValueTerms → Came → Type 0
CameSo (Val vs) ts c = c ≡ HasValues ts vs
CameSo (ErrAt site code) ts c = c ≡ IsRefused
CameSo Off ts c = c ≡ PassedOver
CameSo (HaltAt site code) ts c = c ≡ IsRefused

abbrev pub EffectsComeSo : Type 0
EffectsComeSo = (w : World) (n : Names) (s : Sight) → LinksDenote w n → IsFull w n s → (args : Trees) → CameSo (together (outcomes w args)).decided (terms_of w n args) (came (around w n) (all_scanned (scan_each s args)))

-- ---- an execution

-- each link's object is what its term denotes
abbrev pub LinksRight : Around → LinkTerms → Type 0
LinksRight a [] = Unit {0}
LinksRight a (l ∷ ls) = (denotes a l.1.term ≡ Ok (Some l.1.object)) × LinksRight a ls

-- behind an execution the links hold, and there is written, what the meaning says
abbrev pub LeavesWhatIsMeant : Type 0
LeavesWhatIsMeant = (x : Fixed) (k : Kept) (effects : List CallTree) → LinksRight (around_of x k) k.links → current (executed x effects k).kept ≡ behind (execution (world_of x k) effects) (current k)
