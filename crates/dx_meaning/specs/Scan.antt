-- Looking at a tree for control, by the values that are told of terms: the term of its value, or why there is none.
use Rattle.std.specs.Prelude.{◌≡◌, ℕ, zero, suc, List, [], ◌∷◌, ◌++◌, Option, Some, None}
use Rattle.dx_base.specs.Object.{Tree as Object}
use Rattle.dx_base.specs.declared.code.Code.{Code}
use Rattle.dx_base.specs.declared.code.Code.TheVariants.{BadArgument}
use Rattle.dx_base.specs.declared.function.Function.{Function}
use Rattle.dx_base.specs.declared.function.Function.TheVariants as function
use Rattle.dx_base.specs.declared.function.Module.{Module}
use Rattle.dx_base.specs.declared.function.Module.TheVariants as computing
use Rattle.dx_base.specs.declared.function.Effect.{Effect}
use Rattle.dx_base.specs.declared.function.Effect.TheVariants as effect
use Rattle.dx_ast.specs.declared.constants.Const.TheVariants as const
use Rattle.dx_macros.specs.Site.{Step}
use Rattle.dx_macros.specs.Tree.{Place, Tree, ConstantTree, ResultTree, CallTree, TreeCall, Trees, NoTree, AndTree}
use Rattle.dx_objects.specs.Kinds.{text_of}
use Rattle.dx_links.specs.declared.key.Key.{Key}
use Rattle.dx_tags.specs.Closed.{ValueTerm, ConstantTerm, ResultTerm, FileTerm, CallOf, ValueTerms, NoTerm, AndTerm}
use Rattle.dx_meaning.specs.Outcome.{Value}
use Rattle.dx_meaning.specs.Picking.{Pick, PickThis, PickInput, PickOff, PickFault, Shelf, pick, selector_at}

-- the terms of the links' values, the files that were written, and the values that are told of terms
pub record Sight : Type 0 where
  pub linked : Key → Option ValueTerm
  pub written : List ℕ → Option (List ℕ)
  pub told : ValueTerm → Option Value

-- why no term is formed: nothing, a selector that doesn't fit, or one whose value isn't told, with the site of its call
pub data Stop : Type 0 where
  IsOff : Stop
  Stops : (site : List Step) → Code → Stop
  Needs : (site : List Step) → ValueTerm → Stop

pub data Scanned (A : Type 0) : Type 0 where
  Forms : A → Scanned A
  Ends : Stop → Scanned A

-- ---- the inputs of a call, in order

-- the first that forms no term decides
abbrev pub scanned_beside : Scanned ValueTerm → Scanned ValueTerms → Scanned ValueTerms
scanned_beside (Ends e) rest = Ends e
scanned_beside (Forms t) (Ends e) = Ends e
scanned_beside (Forms t) (Forms ts) = Forms (AndTerm t ts)

abbrev pub all_scanned : List (Scanned ValueTerm) → Scanned ValueTerms
all_scanned [] = Forms NoTerm
all_scanned (s ∷ ss) = scanned_beside s (all_scanned ss)

abbrev pub null_term : ValueTerm
null_term = ConstantTerm const.Null

-- input number n, or NULL past the end
abbrev pub scanned_at : List (Scanned ValueTerm) → ℕ → Scanned ValueTerm
scanned_at [] n = Forms null_term
scanned_at (s ∷ ss) zero = s
scanned_at (s ∷ ss) (suc n) = scanned_at ss n

-- ---- a call of a module

-- the bytes of a file stand behind the arguments
abbrev pub with_file : ValueTerms → Option (List ℕ) → ValueTerms
with_file NoTerm None = NoTerm
with_file NoTerm (Some bytes) = AndTerm (FileTerm bytes) NoTerm
with_file (AndTerm t ts) file = AndTerm t (with_file ts file)

abbrev pub call_scanned : Module → Option (List ℕ) → ℕ → Scanned ValueTerms → Scanned ValueTerm
call_scanned m file result (Forms ts) = Forms (ResultTerm result (CallOf m (with_file ts file)))
call_scanned m file result (Ends e) = Ends e

abbrev pub written_under : Sight → Option (List ℕ) → Option (List ℕ)
written_under s (Some name) = s.written name
written_under s None = None

-- the file that was written under the name that a value is
abbrev pub written_for : Sight → Value → Option (List ℕ)
written_for s (Some t) = written_under s (text_of t)
written_for s None = None

-- ---- a call that looks at a selector

abbrev pub picked_scanned : Place → List (Scanned ValueTerm) → Pick ValueTerm → Scanned ValueTerm
picked_scanned p ss (PickThis t) = Forms t
picked_scanned p ss (PickInput n) = scanned_at ss n
picked_scanned p ss PickOff = Ends IsOff
picked_scanned p ss PickFault = Ends (Stops p.site BadArgument)

abbrev pub terms_in : Sight → Shelf ValueTerm
terms_in s = record { null = null_term; text = λ name. ConstantTerm (const.Text name); held = s.linked }

-- what the value of its selector comes to: an Import forms a call in any case, and has the file that was written under its name
abbrev pub valued : Sight → Function → Place → ℕ → List (Scanned ValueTerm) → Value → Scanned ValueTerm
valued s (function.Module m) p result ss v = call_scanned m (written_for s v) result (all_scanned ss)
valued s other p result ss v = picked_scanned p ss (pick (terms_in s) other p result v)

abbrev pub told_scanned : Sight → Function → Place → ℕ → List (Scanned ValueTerm) → ValueTerm → Option Value → Scanned ValueTerm
told_scanned s f p result ss t (Some v) = valued s f p result ss v
told_scanned s f p result ss t None = Ends (Needs p.site t)

abbrev pub selected : Sight → Function → Place → ℕ → List (Scanned ValueTerm) → Scanned ValueTerm → Scanned ValueTerm
selected s f p result ss (Forms t) = told_scanned s f p result ss t (s.told t)
selected s f p result ss (Ends e) = Ends e

abbrev pub selector_scanned : Sight → Function → Place → ℕ → List (Scanned ValueTerm) → Scanned ValueTerm
selector_scanned s f p result ss = selected s f p result ss (scanned_at ss (selector_at f))

-- ---- rules

abbrev pub effect_scanned : Effect → List (Scanned ValueTerm) → Scanned ValueTerm
effect_scanned effect.SetLocal ss = scanned_at ss 1
effect_scanned effect.SetGlobal ss = scanned_at ss 1
effect_scanned other ss = Forms null_term

abbrev pub module_scanned : Sight → Module → Place → ℕ → List (Scanned ValueTerm) → Scanned ValueTerm
module_scanned s computing.Import p result ss = selector_scanned s (function.Module computing.Import) p result ss
module_scanned s other p result ss = call_scanned other None result (all_scanned ss)

abbrev pub rule_scanned : Sight → Function → Place → ℕ → List (Scanned ValueTerm) → Scanned ValueTerm
rule_scanned s (function.Module m) p result ss = module_scanned s m p result ss
rule_scanned s (function.Effect e) p result ss = effect_scanned e ss
rule_scanned s function.Switch p result ss = selector_scanned s function.Switch p result ss
rule_scanned s function.Route p result ss = selector_scanned s function.Route p result ss
rule_scanned s function.GetLocal p result ss = selector_scanned s function.GetLocal p result ss
rule_scanned s function.GetGlobal p result ss = selector_scanned s function.GetGlobal p result ss

abbrev mutual
  pub scan : Sight → Tree → Scanned ValueTerm
  scan s (ConstantTree c) = Forms (ConstantTerm c)
  scan s (ResultTree result (TreeCall f p args)) = rule_scanned s f p result (scan_each s args)

  pub scan_each : Sight → Trees → List (Scanned ValueTerm)
  scan_each s NoTree = []
  scan_each s (AndTree t ts) = scan s t ∷ scan_each s ts
