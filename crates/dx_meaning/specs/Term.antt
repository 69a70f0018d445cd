-- The term of a tree's value.
use Rattle.std.specs.Prelude.{◌≡◌, ℕ, zero, suc, List, [], ◌∷◌, Option, Some, None, option_map, Result, Ok, Err}
use Rattle.dx_base.specs.Object.{Tree as Object}
use Rattle.dx_base.specs.declared.code.Code.{Code}
use Rattle.dx_base.specs.declared.function.Function.{Function}
use Rattle.dx_base.specs.declared.function.Function.TheVariants as function
use Rattle.dx_base.specs.declared.function.Module.{Module}
use Rattle.dx_base.specs.declared.function.Module.TheVariants as computing
use Rattle.dx_base.specs.declared.function.Effect.{Effect}
use Rattle.dx_base.specs.declared.function.Effect.TheVariants as effect
use Rattle.dx_ast.specs.declared.constants.Const.TheVariants as const
use Rattle.dx_macros.specs.Site.{Step}
use Rattle.dx_macros.specs.Tree.{Place, Tree, ConstantTree, ResultTree, CallTree, TreeCall, Trees, NoTree, AndTree}
use Rattle.dx_objects.specs.Kinds.{text_of}
use Rattle.dx_links.specs.declared.key.Key.{Key}
use Rattle.dx_links.specs.Denotes.{Around, denotes}
use Rattle.dx_tags.specs.Closed.{ValueTerm, ConstantTerm, ResultTerm, CallOf, ValueTerms, NoTerm, AndTerm}
use Rattle.dx_meaning.specs.Outcome.{Value, Decided, Val, ErrAt, Off, HaltAt, Outcome}
use Rattle.dx_meaning.specs.Picking.{Pick, PickThis, PickInput, PickOff, PickFault, Shelf, pick, selector_at}
use Rattle.dx_meaning.specs.Meaning.{World, outcome, outcomes, outcome_at}
use Rattle.dx_meaning.specs.Scan.{null_term, with_file}

-- the terms of links, and the held values
pub record Names : Type 0 where
  pub term : Key → ValueTerm
  pub held : ℕ → Value

-- what terms depend on
abbrev pub around : World → Names → Around
around w n = record { answer = w.answer; file = w.file; held = n.held }

-- ---- the terms of arguments

-- term number n, or NULL past the end
abbrev pub term_at : ValueTerms → ℕ → ValueTerm
term_at NoTerm n = null_term
term_at (AndTerm t ts) zero = t
term_at (AndTerm t ts) (suc n) = term_at ts n

-- ---- a call of a module

abbrev pub written_under : World → Option (List ℕ) → Option (List ℕ)
written_under w (Some name) = w.written name
written_under w None = None

-- what was written under the name that a value is
abbrev pub written_as : World → Value → Option (List ℕ)
written_as w (Some t) = written_under w (text_of t)
written_as w None = None

abbrev pub written_by : World → Decided Value → Option (List ℕ)
written_by w (Val v) = written_as w v
written_by w (ErrAt s c) = None
written_by w Off = None
written_by w (HaltAt s c) = None

-- the file that stands behind the arguments: what was written under the name of an Import
abbrev pub own_file_of : World → Module → List (Outcome Value) → Option (List ℕ)
own_file_of w computing.Import os = written_by w (outcome_at os 0).decided
own_file_of w other os = None

-- ---- a call with a selector

-- it counts for nothing where nothing is picked
abbrev pub picked_term : ValueTerms → Pick ValueTerm → ValueTerm
picked_term ts (PickThis t) = t
picked_term ts (PickInput n) = term_at ts n
picked_term ts PickOff = null_term
picked_term ts PickFault = null_term

-- it counts for nothing where the selector has no value
abbrev pub selected_term : Decided Value → (Value → ValueTerm) → ValueTerm
selected_term (Val v) go = go v
selected_term (ErrAt s c) go = null_term
selected_term Off go = null_term
selected_term (HaltAt s c) go = null_term

abbrev pub terms_with : World → Names → Shelf ValueTerm
terms_with w n = record { null = null_term; text = λ name. ConstantTerm (const.Text name); held = λ k. option_map (λ (o : Object). n.term k) (w.link k) }

abbrev pub selector_term : World → Names → Function → Place → ℕ → List (Outcome Value) → ValueTerms → ValueTerm
selector_term w n f p result os ts = selected_term (outcome_at os (selector_at f)).decided (λ v. picked_term ts (pick (terms_with w n) f p result v))

-- ---- rules

abbrev pub effect_term : Effect → ValueTerms → ValueTerm
effect_term effect.SetLocal ts = term_at ts 1
effect_term effect.SetGlobal ts = term_at ts 1
effect_term other ts = null_term

abbrev pub term_rule : World → Names → Function → Place → ℕ → List (Outcome Value) → ValueTerms → ValueTerm
term_rule w n (function.Module m) p result os ts = ResultTerm result (CallOf m (with_file ts (own_file_of w m os)))
term_rule w n (function.Effect e) p result os ts = effect_term e ts
term_rule w n function.Switch p result os ts = selector_term w n function.Switch p result os ts
term_rule w n function.Route p result os ts = selector_term w n function.Route p result os ts
term_rule w n function.GetLocal p result os ts = selector_term w n function.GetLocal p result os ts
term_rule w n function.GetGlobal p result os ts = selector_term w n function.GetGlobal p result os ts

abbrev mutual
  pub term_of : World → Names → Tree → ValueTerm
  term_of w n (ConstantTree c) = ConstantTerm c
  term_of w n (ResultTree result (TreeCall f p args)) = term_rule w n f p result (outcomes w args) (terms_of w n args)

  pub terms_of : World → Names → Trees → ValueTerms
  terms_of w n NoTree = NoTerm
  terms_of w n (AndTree t ts) = AndTerm (term_of w n t) (terms_of w n ts)

-- ---- terms are right

-- each link's value is what its term denotes
abbrev pub LinksDenote : World → Names → Type 0
LinksDenote w n = (k : Key) (o : Object) → w.link k ≡ Some o → denotes (around w n) (n.term k) ≡ Ok (Some o)

-- a value or a code is decided exactly so
abbrev pub Agrees : {A : Type 0} → Decided A → Result A Code → Type 0
Agrees (Val v) a = a ≡ Ok v
Agrees (ErrAt site code) a = a ≡ Err code
Agrees Off a = Unit {0}
Agrees (HaltAt site code) a = Unit {0}

-- a tree that is neither Off nor Halt is what its term denotes
abbrev pub TermsAreRight : Type 0
TermsAreRight = (w : World) (n : Names) → LinksDenote w n → (t : Tree) → Agrees (outcome w t).decided (denotes (around w n) (term_of w n t))
