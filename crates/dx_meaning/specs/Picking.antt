-- What a selector's value picks among the inputs of its call.
use Rattle.std.specs.Prelude.{ℕ, zero, suc, ℤ, pos, negsuc, List, ◌∷◌, Option, Some, None, is_some, Bool, IsTrue, ◌==◌, if◌then◌else◌}
use Rattle.dx_base.specs.Object.{Tree}
use Rattle.dx_base.specs.ObjectNumbers.{as_number}
use Rattle.dx_base.specs.declared.function.Function.{Function}
use Rattle.dx_base.specs.declared.function.Function.TheVariants as function
use Rattle.dx_base.specs.declared.function.Module.{Module}
use Rattle.dx_base.specs.declared.function.Module.TheVariants as computing
use Rattle.dx_objects.specs.Kinds.{text_of}
use Rattle.dx_macros.specs.Site.{steps_text}
use Rattle.dx_macros.specs.Tree.{Place}
use Rattle.dx_links.specs.declared.key.Key.{Key}
use Rattle.dx_links.specs.declared.key.Key.TheVariants as key
use Rattle.dx_meaning.specs.Outcome.{Value}

-- ---- which input is a call's selector

-- of a module only the name of Import
abbrev pub module_selector : Module → Option ℕ
module_selector computing.Import = Some 0
module_selector other = None

-- the number of the input that is the selector, if the call has one
abbrev pub selector_place : Function → Option ℕ
selector_place (function.Module m) = module_selector m
selector_place (function.Effect e) = None
selector_place function.Switch = Some 0
selector_place function.Route = Some 0
selector_place function.GetLocal = Some 1
selector_place function.GetGlobal = Some 1

abbrev pub or_first : Option ℕ → ℕ
or_first (Some n) = n
or_first None = 0

-- the selector's number, or 0
abbrev pub selector_at : Function → ℕ
selector_at f = or_first (selector_place f)

-- the functions that look at a selector
abbrev pub IsSelecting : Function → Type 0
IsSelecting f = IsTrue (is_some (selector_place f))

-- ---- what it picks

-- something at once, an input, nothing, or no choice that fits
pub data Pick (A : Type 0) : Type 0 where
  PickThis : A → Pick A
  PickInput : ℕ → Pick A
  PickOff : Pick A
  PickFault : Pick A

-- what is picked at once: NULL, a text, or what a link holds
pub record Shelf (A : Type 0) : Type 0 where
  pub null : A
  pub text : List ℕ → A
  pub held : Key → Option A

-- the input with this number, counted from 1, the selector being input 0; other numbers pick NULL
abbrev pub numbered : {A : Type 0} → A → ℤ → Pick A
numbered null (pos zero) = PickThis null
numbered null (pos (suc k)) = PickInput (suc k)
numbered null (negsuc k) = PickThis null

abbrev pub switch_number : {A : Type 0} → A → Option ℤ → Pick A
switch_number null (Some n) = numbered null n
switch_number null None = PickFault

abbrev pub switch_pick : {A : Type 0} → A → Value → Pick A
switch_pick null None = PickThis null
switch_pick null (Some t) = switch_number null (as_number t)

-- the results of a Route are counted from 1 by its selector
abbrev pub routed : {A : Type 0} → ℕ → ℤ → Pick A
routed result (pos k) = if k == suc result then PickInput 1 else PickOff
routed result (negsuc k) = PickOff

abbrev pub route_number : {A : Type 0} → ℕ → Option ℤ → Pick A
route_number result (Some n) = routed result n
route_number result None = PickFault

abbrev pub route_pick : {A : Type 0} → ℕ → Value → Pick A
route_pick result None = PickOff
route_pick result (Some t) = route_number result (as_number t)

-- the name of a link: that of its call where it is NULL; none where the value is neither a text nor NULL
abbrev pub link_name : Place → Value → Option (List ℕ)
link_name p None = Some (35 ∷ steps_text p.site)
link_name p (Some t) = text_of t

-- what a link holds, else the input `initial`
abbrev pub held_or : {A : Type 0} → Option A → Pick A
held_or (Some a) = PickThis a
held_or None = PickInput 0

-- result 0 is the value, and result 1 the name
abbrev pub get_pick : {A : Type 0} → Shelf A → (List ℕ → Key) → ℕ → Option (List ℕ) → Pick A
get_pick shelf to_key result None = PickFault
get_pick shelf to_key zero (Some name) = held_or (shelf.held (to_key name))
get_pick shelf to_key (suc n) (Some name) = PickThis (shelf.text name)

-- the key of a local link that a Get looks at
abbrev pub key_in : Place → List ℕ → Key
key_in p name = key.Local (steps_text p.path) name

-- what the value of its selector picks for a result of a call
abbrev pub pick : {A : Type 0} → Shelf A → Function → Place → ℕ → Value → Pick A
pick shelf function.Switch p result v = switch_pick shelf.null v
pick shelf function.Route p result v = route_pick result v
pick shelf function.GetLocal p result v = get_pick shelf (key_in p) result (link_name p v)
pick shelf function.GetGlobal p result v = get_pick shelf key.Global result (link_name p v)
pick shelf other p result v = PickFault
