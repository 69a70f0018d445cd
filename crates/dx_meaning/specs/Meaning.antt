-- The outcome of a tree of calls, evaluated afresh.
use Rattle.std.specs.Prelude.{ℕ, zero, suc, List, [], ◌∷◌, ◌++◌, Option, Some, None, option_map, Result, Ok, Err}
use Rattle.dx_base.specs.Object.{Tree as Object, text, no_parts}
use Rattle.dx_base.specs.declared.code.Code.{Code}
use Rattle.dx_base.specs.declared.code.Code.TheVariants.{BadArgument}
use Rattle.dx_base.specs.declared.function.Function.{Function}
use Rattle.dx_base.specs.declared.function.Function.TheVariants as function
use Rattle.dx_base.specs.declared.function.Module.{Module}
use Rattle.dx_base.specs.declared.function.Module.TheVariants as computing
use Rattle.dx_base.specs.declared.function.Effect.{Effect}
use Rattle.dx_base.specs.declared.function.Effect.TheVariants as effect
use Rattle.dx_ast.specs.Value.{value_of}
use Rattle.dx_macros.specs.Site.{Step}
use Rattle.dx_macros.specs.Tree.{Place, Tree, ConstantTree, ResultTree, CallTree, TreeCall, Trees, NoTree, AndTree}
use Rattle.dx_objects.specs.Kinds.{text_of}
use Rattle.dx_objects.specs.Runs.{Values, Answer}
use Rattle.dx_objects.specs.Values.{value_at}
use Rattle.dx_links.specs.declared.key.Key.{Key}
use Rattle.dx_meaning.specs.Outcome.{Value, Use, Decided, Val, ErrAt, Off, HaltAt, Outcome, plainly}
use Rattle.dx_meaning.specs.Picking.{Pick, PickThis, PickInput, PickOff, PickFault, Shelf, pick, selector_at}

-- what the meaning is given: what links held and what was written before the execution; what files hold; what the library answers
pub record World : Type 0 where
  pub link : Key → Option Object
  pub written : List ℕ → Option (List ℕ)
  pub file : List ℕ → Option (List ℕ)
  pub answer : Module → Values → Option (List ℕ) → Answer

-- ---- the arguments of a call, in order

-- the first of the arguments that is Off or Halt decides, else the first that is Err
abbrev pub decided_beside : Decided Value → Decided Values → Decided Values
decided_beside Off rest = Off
decided_beside (HaltAt s c) rest = HaltAt s c
decided_beside (ErrAt s c) Off = Off
decided_beside (ErrAt s c) (HaltAt s' c') = HaltAt s' c'
decided_beside (ErrAt s c) (ErrAt s' c') = ErrAt s c
decided_beside (ErrAt s c) (Val vs) = ErrAt s c
decided_beside (Val v) Off = Off
decided_beside (Val v) (HaltAt s c) = HaltAt s c
decided_beside (Val v) (ErrAt s c) = ErrAt s c
decided_beside (Val v) (Val vs) = Val (v ∷ vs)

-- the uses of control, argument by argument: those of an argument behind the first that is Off or Halt are left out
abbrev pub control_beside : Decided Value → List Use → List Use → List Use
control_beside Off own rest = own
control_beside (HaltAt s c) own rest = own
control_beside (ErrAt s c) own rest = own ++ rest
control_beside (Val v) own rest = own ++ rest

-- the uses of data, up to and including the first that is Err, where none is Off or Halt
abbrev pub data_beside : Decided Value → Decided Values → List Use → List Use → List Use
data_beside Off rest own others = []
data_beside (HaltAt s c) rest own others = []
data_beside (ErrAt s c) Off own others = []
data_beside (ErrAt s c) (HaltAt s' c') own others = []
data_beside (ErrAt s c) (ErrAt s' c') own others = own
data_beside (ErrAt s c) (Val vs) own others = own
data_beside (Val v) Off own others = []
data_beside (Val v) (HaltAt s c) own others = []
data_beside (Val v) (ErrAt s c) own others = own ++ others
data_beside (Val v) (Val vs) own others = own ++ others

abbrev pub beside : Outcome Value → Outcome Values → Outcome Values
beside o rest = record {
  decided = decided_beside o.decided rest.decided;
  control_uses = control_beside o.decided o.control_uses rest.control_uses;
  data_uses = data_beside o.decided rest.decided o.data_uses rest.data_uses;
}

-- all arguments together
abbrev pub together : List (Outcome Value) → Outcome Values
together [] = plainly (Val [])
together (o ∷ os) = beside o (together os)

-- argument number n, or NULL past the end
abbrev pub outcome_at : List (Outcome Value) → ℕ → Outcome Value
outcome_at [] n = plainly (Val None)
outcome_at (o ∷ os) zero = o
outcome_at (o ∷ os) (suc n) = outcome_at os n

-- ---- looking at a selector

-- what a selector rests on is control, and it ends in no Err
abbrev pub selected_with : Decided Value → List Use → List Use → Outcome Value
selected_with Off control_uses data_uses = record { decided = Off; control_uses = control_uses; data_uses = [] }
selected_with (HaltAt s c) control_uses data_uses = record { decided = HaltAt s c; control_uses = control_uses; data_uses = [] }
selected_with (ErrAt s c) control_uses data_uses = record { decided = HaltAt s c; control_uses = control_uses ++ data_uses; data_uses = [] }
selected_with (Val v) control_uses data_uses = record { decided = Val v; control_uses = control_uses ++ data_uses; data_uses = [] }

abbrev pub as_selector : Outcome Value → Outcome Value
as_selector o = selected_with o.decided o.control_uses o.data_uses

-- ---- a call of a module

-- the first value of an Import is its name, which is a selector
abbrev pub with_name : List (Outcome Value) → List (Outcome Value)
with_name [] = []
with_name (o ∷ os) = as_selector o ∷ os

abbrev pub arguments : Module → List (Outcome Value) → List (Outcome Value)
arguments computing.Import os = with_name os
arguments other os = os

-- what was written under a name, else what the files hold
abbrev pub written_or : Option (List ℕ) → Option (List ℕ) → Option (List ℕ)
written_or (Some bytes) file = Some bytes
written_or None file = file

abbrev pub file_under : World → Option (List ℕ) → Option (List ℕ)
file_under w (Some name) = written_or (w.written name) (w.file name)
file_under w None = None

abbrev pub file_of_value : World → Value → Option (List ℕ)
file_of_value w (Some t) = file_under w (text_of t)
file_of_value w None = None

-- the file that a module reads: an Import reads the one that its first value names
abbrev pub file_for : World → Module → Values → Option (List ℕ)
file_for w computing.Import (v ∷ rest) = file_of_value w v
file_for w other values = None

-- the result asked for, NULL past the list, or the code at the site of the call
abbrev pub answered : List Step → ℕ → Answer → Decided Value
answered site result (Ok values) = Val (value_at values result)
answered site result (Err code) = ErrAt site code

abbrev pub module_rule : World → Module → List Step → ℕ → Decided Values → List Use → List Use → Outcome Value
module_rule w m site result Off control_uses data_uses = record { decided = Off; control_uses = control_uses; data_uses = [] }
module_rule w m site result (HaltAt s c) control_uses data_uses = record { decided = HaltAt s c; control_uses = control_uses; data_uses = [] }
module_rule w m site result (ErrAt s c) control_uses data_uses = record { decided = ErrAt s c; control_uses = control_uses; data_uses = data_uses }
module_rule w m site result (Val values) control_uses data_uses = record {
  decided = answered site result (w.answer m values (file_for w m values));
  control_uses = control_uses;
  data_uses = data_uses ++ record { site = site; called = m; inputs = values } ∷ [];
}

abbrev pub module_outcome : World → Module → List Step → ℕ → Outcome Values → Outcome Value
module_outcome w m site result all = module_rule w m site result all.decided all.control_uses all.data_uses

-- ---- a call that picks by a selector

-- goes on with the selector's value
abbrev pub after_selector : Decided Value → List Use → (Value → Outcome Value) → Outcome Value
after_selector Off control_uses go = record { decided = Off; control_uses = control_uses; data_uses = [] }
after_selector (HaltAt s c) control_uses go = record { decided = HaltAt s c; control_uses = control_uses; data_uses = [] }
after_selector (ErrAt s c) control_uses go = record { decided = HaltAt s c; control_uses = control_uses; data_uses = [] }
after_selector (Val v) control_uses go =
    let chosen = go v in
    record { decided = chosen.decided; control_uses = control_uses ++ chosen.control_uses; data_uses = chosen.data_uses }

abbrev pub by_selector : Outcome Value → (Value → Outcome Value) → Outcome Value
by_selector selector go = after_selector selector.decided selector.control_uses go

abbrev pub picked : List Step → List (Outcome Value) → Pick Value → Outcome Value
picked site os (PickThis v) = plainly (Val v)
picked site os (PickInput n) = outcome_at os n
picked site os PickOff = plainly Off
picked site os PickFault = plainly (HaltAt site BadArgument)

abbrev pub values_in : World → Shelf Value
values_in w = record { null = None; text = λ name. Some (text name no_parts); held = λ k. option_map (λ o. Some o) (w.link k) }

abbrev pub selector_rule : World → Function → Place → ℕ → List (Outcome Value) → Outcome Value
selector_rule w f p result os = by_selector (as_selector (outcome_at os (selector_at f))) (λ v. picked p.site os (pick (values_in w) f p result v))

-- ---- the result of an effect

-- that of a Set is its link argument's
abbrev pub effect_rule : Effect → List (Outcome Value) → Outcome Value
effect_rule effect.SetLocal os = outcome_at os 1
effect_rule effect.SetGlobal os = outcome_at os 1
effect_rule other os = plainly (Val None)

-- ---- trees

-- the rule of a call, whose arguments have these outcomes
abbrev pub by_rule : World → Function → Place → ℕ → List (Outcome Value) → Outcome Value
by_rule w (function.Module m) p result os = module_outcome w m p.site result (together (arguments m os))
by_rule w (function.Effect e) p result os = effect_rule e os
by_rule w function.Switch p result os = selector_rule w function.Switch p result os
by_rule w function.Route p result os = selector_rule w function.Route p result os
by_rule w function.GetLocal p result os = selector_rule w function.GetLocal p result os
by_rule w function.GetGlobal p result os = selector_rule w function.GetGlobal p result os

abbrev mutual
  pub outcome : World → Tree → Outcome Value
  outcome w (ConstantTree c) = plainly (Val (value_of c))
  outcome w (ResultTree result (TreeCall f p args)) = by_rule w f p result (outcomes w args)

  pub outcomes : World → Trees → List (Outcome Value)
  outcomes w NoTree = []
  outcomes w (AndTree t ts) = outcome w t ∷ outcomes w ts
