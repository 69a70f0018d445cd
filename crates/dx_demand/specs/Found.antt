-- Which values can be got: those that need no call, those of links, and those whose call was formed in this execution.
use Rattle.std.specs.Prelude.{◌≡◌, ◌⊎◌, ℕ, List, [], ◌∷◌, Some, slice_get}
use Rattle.dx_base.specs.declared.function.Module.{Module}
use Rattle.dx_tags.specs.declared.term.Term.{Term}
use Rattle.dx_tags.specs.declared.term.Term.TheVariants.{Call}
use Rattle.dx_tags.specs.declared.term.ValueTag.{ValueTag}
use Rattle.dx_tags.specs.Closed.{Head, ConstantHead, HeldHead, CallHead, FileHead, head_at, heads_of}
use Rattle.dx_links.specs.declared.key.Key.{Key}
use Rattle.dx_links.specs.Holding.{Holding}
use Rattle.dx_links.specs.LinkMap.{LinkMap, held_at}
use Rattle.dx_demand.specs.Memo.{FirstNodes, answers_of, selector_of, formed_of}
use Rattle.dx_demand.specs.declared.settled.Port.{Port}
use Rattle.dx_demand.specs.declared.settled.Answer.{Answer}
use Rattle.dx_demand.specs.declared.settled.Settled.{Settled}
use Rattle.dx_demand.specs.declared.settled.Settled.TheVariants as settled
use Rattle.dx_demand.specs.declared.settled.Resolved.{Resolved}
use Rattle.dx_demand.specs.declared.settled.Resolved.TheVariants as resolved
use Rattle.dx_demand.specs.declared.seen.Frame.{Frame}
use Rattle.dx_demand.specs.declared.seen.Memo.{Memo}
use Rattle.dx_demand.specs.declared.seen.Seen.{Seen}
use Rattle.dx_demand.specs.declared.pick.Pick.{Pick}
use Rattle.dx_demand.specs.declared.pick.Pick.TheVariants as pick
use Rattle.dx_demand.specs.declared.step.Known.{Known}
use Rattle.dx_demand.specs.declared.step.Known.TheVariants as known
use Rattle.dx_demand.specs.declared.step.Selection.{Selection}
use Rattle.dx_demand.specs.declared.step.Selection.TheVariants as selection
use Rattle.dx_demand.specs.declared.step.Step.{Step}
use Rattle.dx_demand.specs.declared.step.Step.TheVariants as step

-- a constant, a held value or a file: to get it does nothing
abbrev pub NeedsNoCall : Head → Type 0
NeedsNoCall (ConstantHead c) = Unit {0}
NeedsNoCall (HeldHead n) = Unit {0}
NeedsNoCall (FileHead b) = Unit {0}
NeedsNoCall (CallHead c) = ⊥

-- the value of a link
pub record IsLinked (links : LinkMap) (t : ValueTag) : Type 0 where
  pub key : Key
  pub held : Holding
  pub at : held_at key links ≡ Some held
  pub tag : held.tag ≡ t

-- a node formed this call term first
pub record IsFirst (first : FirstNodes) (tag : ℕ) : Type 0 where
  pub node : ℕ
  pub at : first tag ≡ Some node

-- what was formed first stays so
abbrev pub Kept : FirstNodes → FirstNodes → Type 0
Kept first first' = (t n : ℕ) → first t ≡ Some n → first' t ≡ Some n

-- a value whose getting finds its call, if it needs one
abbrev pub IsFound : LinkMap → List Term → FirstNodes → ValueTag → Type 0
IsFound links terms first t = NeedsNoCall (head_at (heads_of terms) t.tag) ⊎ (IsLinked links t ⊎ IsFirst first t.tag)

abbrev pub AllFound : LinkMap → List Term → FirstNodes → List ValueTag → Type 0
AllFound links terms first [] = Unit {0}
AllFound links terms first (t ∷ ts) = IsFound links terms first t × AllFound links terms first ts

-- so are the arguments of a call
abbrev pub ArgumentsFound : LinkMap → List Term → FirstNodes → ℕ → Type 0
ArgumentsFound links terms first tag = (m : Module) (ts : List ValueTag) → slice_get terms tag ≡ Some (Call m ts) → AllFound links terms first ts

-- ---- what is kept

abbrev pub SettledFound : LinkMap → List Term → FirstNodes → Settled → Type 0
SettledFound links terms first (settled.Value t) = IsFound links terms first t
SettledFound links terms first settled.Off = Unit {0}
SettledFound links terms first (settled.Halt n code) = Unit {0}

-- the values that are kept, and the arguments of each call that was formed
pub record MemoFound (links : LinkMap) (terms : List Term) (m : Memo) : Type 0 where
  pub answers : (p : Port) (a : Answer) → answers_of m p ≡ Some a → SettledFound links terms (formed_of m) a.settled
  pub selectors : (n : ℕ) (t : ValueTag) → selector_of m n ≡ Some t → IsFound links terms (formed_of m) t
  pub formed : (tag n : ℕ) → formed_of m tag ≡ Some n → ArgumentsFound links terms (formed_of m) tag

abbrev pub StackFound : LinkMap → List Term → FirstNodes → List Frame → Type 0
StackFound links terms first [] = Unit {0}
StackFound links terms first (f ∷ fs) = AllFound links terms first f.arguments × StackFound links terms first fs

-- each call that getting a kept value can reach, where nothing is cached, was formed or is a link's
pub record IsClosed (links : LinkMap) (terms : List Term) (seen : Seen) : Type 0 where
  pub memo : MemoFound links terms seen.memo
  pub stack : StackFound links terms (formed_of seen.memo) seen.stack.items

-- ---- what steps give

abbrev pub PickFound : LinkMap → Pick → Type 0
PickFound links (pick.Held t) = IsLinked links t
PickFound links other = Unit {0}

abbrev pub KnownFound : LinkMap → List Term → FirstNodes → Known → Type 0
KnownFound links terms first (known.Settled a) = SettledFound links terms first a
KnownFound links terms first (known.Open p) = Unit {0}

abbrev pub StepFound : LinkMap → List Term → FirstNodes → Step → Type 0
StepFound links terms first (step.Settles a) = SettledFound links terms first a.settled
StepFound links terms first (step.Awaits q) = Unit {0}
StepFound links terms first (step.Needs t) = IsFound links terms first t

abbrev pub SelectionFound : LinkMap → List Term → FirstNodes → Selection → Type 0
SelectionFound links terms first (selection.Selects t) = IsFound links terms first t
SelectionFound links terms first (selection.Before x) = StepFound links terms first x

abbrev pub ResolvedFound : LinkMap → List Term → FirstNodes → Resolved → Type 0
ResolvedFound links terms first (resolved.Value t) = IsFound links terms first t
ResolvedFound links terms first resolved.Off = Unit {0}
ResolvedFound links terms first (resolved.Halt n code) = Unit {0}
ResolvedFound links terms first (resolved.Need t n) = IsFound links terms first t
