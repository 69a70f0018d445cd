-- The uses of control of a call.
use Rattle.std.proofs.Common.{◌≡◌, ℕ, List, ◌++◌, refl}
use Rattle.dx_base.specs.declared.function.Module.{Module}
use Rattle.dx_macros.specs.Site.{Step}
use Rattle.dx_objects.specs.Runs.{Values}
use Rattle.dx_meaning.specs.Outcome.{Value, Use, Decided, Val, ErrAt, Off, HaltAt, Outcome}
use Rattle.dx_meaning.specs.Meaning.{World, control_beside, selected_with, module_rule, after_selector}

-- the uses of control of what a selector leads to
abbrev pub after_control : Decided Value → List Use → List Use → (Value → List Use) → List Use
after_control Off cu du more = cu
after_control (HaltAt s c) cu du more = cu
after_control (ErrAt s c) cu du more = cu ++ du
after_control (Val v) cu du more = (cu ++ du) ++ more v

pub after_same : (d : Decided Value) (cu du : List Use) (go : Value → Outcome Value) → after_control d cu du (λ v. (go v).control_uses) ≡ (after_selector (selected_with d cu du).decided (selected_with d cu du).control_uses go).control_uses
after_same Off cu du go = refl
after_same (HaltAt s c) cu du go = refl
after_same (ErrAt s c) cu du go = refl
after_same (Val v) cu du go = refl

pub named_same : (d : Decided Value) (cu du more : List Use) → after_control d cu du (λ v. more) ≡ control_beside (selected_with d cu du).decided (selected_with d cu du).control_uses more
named_same Off cu du more = refl
named_same (HaltAt s c) cu du more = refl
named_same (ErrAt s c) cu du more = refl
named_same (Val v) cu du more = refl

pub module_same : (w : World) (m : Module) (site : List Step) (result : ℕ) (d : Decided Values) (cu du : List Use) → cu ≡ (module_rule w m site result d cu du).control_uses
module_same w m site result Off cu du = refl
module_same w m site result (HaltAt s c) cu du = refl
module_same w m site result (ErrAt s c) cu du = refl
module_same w m site result (Val vs) cu du = refl
