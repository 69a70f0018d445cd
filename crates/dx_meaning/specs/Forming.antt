-- The terms that looking at a tree forms, in order, and what there is after them.
use Rattle.std.specs.Prelude.{◌≡◌, ℕ, zero, suc, List, [], ◌∷◌, ◌++◌, Bool, true, false, ◌||◌, if◌then◌else◌, Option, Some, None, option_map}
use Rattle.dx_base.specs.declared.function.Function.{Function}
use Rattle.dx_base.specs.declared.function.Function.TheVariants as function
use Rattle.dx_base.specs.declared.function.Effect.{Effect}
use Rattle.dx_base.specs.declared.function.Effect.TheVariants as effect
use Rattle.dx_base.specs.declared.function.Module.{Module}
use Rattle.dx_base.specs.declared.function.Module.TheVariants as computing
use Rattle.dx_ast.specs.declared.constants.Const.TheVariants as const
use Rattle.dx_macros.specs.Tree.{Place, Tree, ConstantTree, ResultTree, CallTree, TreeCall, Trees, NoTree, AndTree}
use Rattle.dx_links.specs.Getting.{same_call, has_value}
use Rattle.dx_tags.specs.Closed.{ValueTerm, ConstantTerm, ResultTerm, FileTerm, CallTerm, CallOf, ValueTerms}
use Rattle.dx_meaning.specs.Outcome.{Value}
use Rattle.dx_meaning.specs.Picking.{Pick, PickThis, PickInput, PickOff, PickFault, Shelf, pick, selector_at}
use Rattle.dx_meaning.specs.Scan.{Sight, IsOff, Stops, Needs, Scanned, Forms, Ends, null_term, scanned_at, all_scanned, with_file, written_for, scan, scan_each}
use Rattle.dx_meaning.specs.More.{More}
use Rattle.dx_meaning.specs.Met.{Called}

-- a constant or the bytes of a file, or a call of a module with its term
pub data Formed : Type 0 where
  FormsValue : ValueTerm → Formed
  FormsCall : Called → Formed

-- ---- inputs

abbrev pub null_forms : List Formed
null_forms = FormsValue null_term ∷ []

-- those of input number n, or NULL past the end
abbrev pub forms_at : List (List Formed) → ℕ → List Formed
forms_at [] n = null_forms
forms_at (fs ∷ each) zero = fs
forms_at (fs ∷ each) (suc n) = forms_at each n

-- nothing is looked at behind an input that forms no term
abbrev pub forms_beside : Scanned ValueTerm → List Formed → List Formed → List Formed
forms_beside (Forms t) own rest = own ++ rest
forms_beside (Ends e) own rest = own

abbrev pub all_forms : List (Scanned ValueTerm) → List (List Formed) → List Formed
all_forms [] each = []
all_forms (s ∷ ss) [] = []
all_forms (s ∷ ss) (fs ∷ each) = forms_beside s fs (all_forms ss each)

-- ---- a call of a module

-- a file is formed directly before its call
abbrev pub file_forms : Option (List ℕ) → List Formed
file_forms None = []
file_forms (Some bytes) = FormsValue (FileTerm bytes) ∷ []

abbrev pub call_formed : Place → Module → Option (List ℕ) → ValueTerms → Formed
call_formed p m file ts = FormsCall (record { place = p; call = CallOf m (with_file ts file) })

-- the call is formed where all its inputs are
abbrev pub call_forms : Place → Module → Option (List ℕ) → Scanned ValueTerms → List Formed
call_forms p m file (Forms ts) = file_forms file ++ call_formed p m file ts ∷ []
call_forms p m file (Ends e) = []

abbrev pub called_forms : Place → Module → Option (List ℕ) → List (Scanned ValueTerm) → List (List Formed) → List Formed
called_forms p m file ss each = all_forms ss each ++ call_forms p m file (all_scanned ss)

-- ---- a call that looks at a selector

-- NULL and a text are formed, and the term of a link's value is there
abbrev pub forms_in : Sight → Shelf (List Formed)
forms_in s = record {
  null = null_forms;
  text = λ name. FormsValue (ConstantTerm (const.Text name)) ∷ [];
  held = λ k. option_map (λ (t : ValueTerm). []) (s.linked k);
}

abbrev pub picked_forms : List (List Formed) → Pick (List Formed) → List Formed
picked_forms each (PickThis fs) = fs
picked_forms each (PickInput n) = forms_at each n
picked_forms each PickOff = []
picked_forms each PickFault = []

abbrev pub valued_forms : Sight → Function → Place → ℕ → List (Scanned ValueTerm) → List (List Formed) → Value → List Formed
valued_forms s (function.Module m) p result ss each v = called_forms p m (written_for s v) ss each
valued_forms s other p result ss each v = picked_forms each (pick (forms_in s) other p result v)

abbrev pub told_forms : Sight → Function → Place → ℕ → List (Scanned ValueTerm) → List (List Formed) → Option Value → List Formed
told_forms s f p result ss each (Some v) = valued_forms s f p result ss each v
told_forms s f p result ss each None = []

abbrev pub selected_forms : Sight → Function → Place → ℕ → List (Scanned ValueTerm) → List (List Formed) → Scanned ValueTerm → List Formed
selected_forms s f p result ss each (Forms t) = told_forms s f p result ss each (s.told t)
selected_forms s f p result ss each (Ends e) = []

-- those of the selector come first
abbrev pub selector_forms : Sight → Function → Place → ℕ → List (Scanned ValueTerm) → List (List Formed) → List Formed
selector_forms s f p result ss each = forms_at each (selector_at f) ++ selected_forms s f p result ss each (scanned_at ss (selector_at f))

-- ---- rules

abbrev pub effect_forms : Effect → List (List Formed) → List Formed
effect_forms effect.SetLocal each = forms_at each 1
effect_forms effect.SetGlobal each = forms_at each 1
effect_forms other each = null_forms

abbrev pub module_forms : Sight → Module → Place → ℕ → List (Scanned ValueTerm) → List (List Formed) → List Formed
module_forms s computing.Import p result ss each = selector_forms s (function.Module computing.Import) p result ss each
module_forms s other p result ss each = called_forms p other None ss each

abbrev pub rule_forms : Sight → Function → Place → ℕ → List (Scanned ValueTerm) → List (List Formed) → List Formed
rule_forms s (function.Module m) p result ss each = module_forms s m p result ss each
rule_forms s (function.Effect e) p result ss each = effect_forms e each
rule_forms s function.Switch p result ss each = selector_forms s function.Switch p result ss each
rule_forms s function.Route p result ss each = selector_forms s function.Route p result ss each
rule_forms s function.GetLocal p result ss each = selector_forms s function.GetLocal p result ss each
rule_forms s function.GetGlobal p result ss each = selector_forms s function.GetGlobal p result ss each

abbrev mutual
  -- what looking at a tree forms by what is told, in the order in which it meets it; a term may stand there more than once
  pub forms : Sight → Tree → List Formed
  forms s (ConstantTree c) = FormsValue (ConstantTerm c) ∷ []
  forms s (ResultTree result (TreeCall f p args)) = rule_forms s f p result (scan_each s args) (each_forms s args)

  pub each_forms : Sight → Trees → List (List Formed)
  each_forms s NoTree = []
  each_forms s (AndTree t ts) = forms s t ∷ each_forms s ts

-- ---- what there is after them

-- the terms that are there, a call standing as its first result, and the calls that formed theirs first, in order
pub record Formings : Type 0 where
  pub terms : List ValueTerm
  pub calls : List Called

-- a call formed this term
abbrev pub is_called : List Called → CallTerm → Bool
is_called [] c = false
is_called (d ∷ ds) c = same_call d.call c || is_called ds c

abbrev pub with_term : ValueTerm → List ValueTerm → List ValueTerm
with_term t ts = if has_value ts t then ts else ts ++ t ∷ []

-- the first call of a term stays
abbrev pub with_called : Called → List Called → List Called
with_called c cs = if is_called cs c.call then cs else cs ++ c ∷ []

-- to form what is there changes nothing
abbrev pub forming : Formed → Formings → Formings
forming (FormsValue t) was = record { terms = with_term t was.terms; calls = was.calls }
forming (FormsCall c) was = record { terms = with_term (ResultTerm 0 c.call) was.terms; calls = with_called c was.calls }

abbrev pub after : List Formed → Formings → Formings
after [] was = was
after (f ∷ fs) was = after fs (forming f was)

-- it is there, in full
abbrev pub Has : Formings → Formed → Type 0
Has was (FormsValue t) = has_value was.terms t ≡ true
Has was (FormsCall c) = (has_value was.terms (ResultTerm 0 c.call) ≡ true) × (is_called was.calls c.call ≡ true)

abbrev pub HasAll : Formings → List Formed → Type 0
HasAll was [] = Unit {0}
HasAll was (f ∷ fs) = Has was f × HasAll was fs

-- what is there stays
abbrev pub Grows : Formings → Formings → Type 0
Grows was now = (f : Formed) → Has was f → Has now f

-- ---- as more is told

abbrev pub IsFront : List Formed → List Formed → Type 0
IsFront fs gs = (more : List Formed) × (gs ≡ fs ++ more)

-- what a tree forms stays where that rests on no value that isn't told, and else is a front of what it forms then
abbrev pub FormsKeep : {A : Type 0} → Scanned A → List Formed → List Formed → Type 0
FormsKeep (Forms x) fs gs = gs ≡ fs
FormsKeep (Ends IsOff) fs gs = gs ≡ fs
FormsKeep (Ends (Stops site code)) fs gs = gs ≡ fs
FormsKeep (Ends (Needs site t)) fs gs = IsFront fs gs

abbrev pub FormsStay : Type 0
FormsStay = (s s' : Sight) → More s s' → (t : Tree) → FormsKeep (scan s t) (forms s t) (forms s' t)

-- so looking may start anew: what was formed before is formed again, and that changes nothing
abbrev pub FormsOnce : Type 0
FormsOnce = (s s' : Sight) → More s s' → (t : Tree) (was : Formings) → after (forms s' t) (after (forms s t) was) ≡ after (forms s' t) was
