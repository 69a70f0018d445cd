-- Where looking at a tree ends as a selector is refused, the last use of control is at the site, and is what the refused call was run on.
use Rattle.std.proofs.Common.{◌≡◌, ℕ, zero, suc, List, [], ◌∷◌, ◌++◌, Option, None, refl, sym, subst}
use Rattle.std.specs.Prelude.{Ok, Err}
use Rattle.dx_base.specs.declared.code.Code.{Code}
use Rattle.dx_base.specs.declared.function.Function.{Function}
use Rattle.dx_base.specs.declared.function.Function.TheVariants as function
use Rattle.dx_base.specs.declared.function.Module.{Module}
use Rattle.dx_base.specs.declared.function.Module.TheVariants as computing
use Rattle.dx_base.specs.declared.function.Effect.{Effect}
use Rattle.dx_base.specs.declared.function.Effect.TheVariants as effect
use Rattle.dx_macros.specs.Site.{Step}
use Rattle.dx_macros.specs.Tree.{Place, Tree, ConstantTree, ResultTree, TreeCall, Trees, NoTree, AndTree}
use Rattle.dx_objects.specs.Runs.{Values, Answer}
use Rattle.dx_links.specs.declared.key.Key.TheVariants as key
use Rattle.dx_links.specs.Denotes.{Around, denotes}
use Rattle.dx_tags.specs.Closed.{ValueTerm, ValueTerms}
use Rattle.dx_machine.specs.Agree.{Demanded, Runs, Refuses, demanded}
use Rattle.dx_meaning.specs.Outcome.{Value, Use, Decided, Val, ErrAt, Off, HaltAt, Outcome}
use Rattle.dx_meaning.specs.Picking.{Pick, PickThis, PickInput, PickOff, PickFault, Shelf, link_name, key_in, pick, selector_at}
use Rattle.dx_meaning.specs.Meaning.{World, outcome, outcomes, outcome_at, together, decided_beside, control_beside, selected_with, with_name, answered, module_rule, after_selector, picked, values_in, selector_rule, effect_rule, by_rule, file_for}
use Rattle.dx_meaning.specs.Scan.{Sight, IsOff, Stops, Needs, Scanned, Forms, Ends, scanned_beside, all_scanned, scanned_at, call_scanned, written_for, picked_scanned, terms_in, valued, selected, selector_scanned, effect_scanned, module_scanned, rule_scanned, scan, scan_each}
use Rattle.dx_meaning.specs.Term.{Names, around, term_at, terms_with, term_of, terms_of, Agrees}
use Rattle.dx_meaning.proofs.Terms.{tree_right}
use Rattle.dx_performing.specs.Meant.{IsFull, IsHalted, Means}
use Rattle.dx_performing.proofs.Meant.{tree_means}
use Rattle.dx_demanded.specs.Found.{AreLinks}
use Rattle.dx_demanded.proofs.LastUses.{LastUse, tree_last}
use Rattle.dx_demanded.proofs.Picks.{PickNeeds, switch_needs, route_needs, get_needs}
use Rattle.dx_demanded.proofs.Refused.{last_behind}
use Rattle.dx_demanded.proofs.Seeing.{same_shelf, told_none, told_some}

-- where looking ends at a selector whose value is needed
abbrev pub ScanLast : {T : Type 0} → Around → List ValueTerm → List Step → Code → List Use → Scanned T → Type 0
ScanLast a links site code us (Forms t) = Unit {0}
ScanLast a links site code us (Ends IsOff) = Unit {0}
ScanLast a links site code us (Ends (Stops place c)) = Unit {0}
ScanLast a links site code us (Ends (Needs place u)) = LastUse {A = Value} a (ErrAt site code) us (demanded a links u)

abbrev pub HaltLast : {A T : Type 0} → Around → List ValueTerm → Decided A → List Use → Scanned T → Type 0
HaltLast a links (HaltAt site code) us x = ScanLast a links site code us x
HaltLast a links (Val v) us x = Unit {0}
HaltLast a links (ErrAt site code) us x = Unit {0}
HaltLast a links Off us x = Unit {0}

-- ---- uses before

use_behind : (a : Around) (site : List Step) (code : Code) (us vs : List Use) (d : Demanded) → LastUse {A = Value} a (ErrAt site code) vs d → LastUse {A = Value} a (ErrAt site code) (us ++ vs) d
use_behind a site code us vs (Runs ts) h = tt
use_behind a site code us vs (Refuses ts c code') h = (h.0, last_behind h.0 us vs h.1, h.2, h.3)

scan_behind : {T : Type 0} (a : Around) (links : List ValueTerm) (site : List Step) (code : Code) (us vs : List Use) (x : Scanned T) → ScanLast a links site code vs x → ScanLast a links site code (us ++ vs) x
scan_behind a links site code us vs (Forms t) h = tt
scan_behind a links site code us vs (Ends IsOff) h = tt
scan_behind a links site code us vs (Ends (Stops place c)) h = tt
scan_behind a links site code us vs (Ends (Needs place u)) h = use_behind a site code us vs (demanded a links u) h

halt_behind : {A T : Type 0} (a : Around) (links : List ValueTerm) (d : Decided A) (us vs : List Use) (x : Scanned T) → HaltLast a links d vs x → HaltLast a links d (us ++ vs) x
halt_behind a links (HaltAt site code) us vs x h = scan_behind a links site code us vs x h
halt_behind a links (Val v) us vs x h = tt
halt_behind a links (ErrAt site code) us vs x h = tt
halt_behind a links Off us vs x h = tt

module _ (a : Around) (links : List ValueTerm) where
  -- ---- the arguments of a call

  first_last : (site : List Step) (code : Code) (us : List Use) (x : Scanned ValueTerm) (r : Scanned ValueTerms) → IsHalted a site code x → ScanLast a links site code us x → ScanLast a links site code us (scanned_beside x r)
  first_last site code us (Forms t) r m h = absurd m
  first_last site code us (Ends IsOff) r m h = absurd m
  first_last site code us (Ends (Stops place c)) r m h = tt
  first_last site code us (Ends (Needs place u)) r m h = h

  rest_last : (site : List Step) (code : Code) (us : List Use) (t : ValueTerm) (r : Scanned ValueTerms) → ScanLast a links site code us r → ScanLast a links site code us (scanned_beside (Forms t) r)
  rest_last site code us t (Forms ts) h = tt
  rest_last site code us t (Ends IsOff) h = tt
  rest_last site code us t (Ends (Stops place c)) h = tt
  rest_last site code us t (Ends (Needs place u)) h = h

  formed_last : (site : List Step) (code : Code) (cu more : List Use) (t : ValueTerm) (x : Scanned ValueTerm) (r : Scanned ValueTerms) → x ≡ Forms t → ScanLast a links site code more r → ScanLast a links site code (cu ++ more) (scanned_beside x r)
  formed_last site code cu more t x r e h = subst (λ y. ScanLast a links site code (cu ++ more) (scanned_beside y r)) (sym e) (rest_last site code (cu ++ more) t r (scan_behind a links site code cu more r h))

  beside_halt : (d : Decided Value) (e : Decided Values) (cu more : List Use) (t : ValueTerm) (x : Scanned ValueTerm) (r : Scanned ValueTerms) → Means a d t x → HaltLast a links d cu x → HaltLast a links e more r → HaltLast a links (decided_beside d e) (control_beside d cu more) (scanned_beside x r)
  beside_halt Off e cu more t x r m p q = tt
  beside_halt (HaltAt s c) e cu more t x r m p q = first_last s c cu x r m p
  beside_halt (ErrAt s c) Off cu more t x r m p q = tt
  beside_halt (ErrAt s c) (HaltAt s' c') cu more t x r m p q = formed_last s' c' cu more t x r m q
  beside_halt (ErrAt s c) (ErrAt s' c') cu more t x r m p q = tt
  beside_halt (ErrAt s c) (Val vs) cu more t x r m p q = tt
  beside_halt (Val v) Off cu more t x r m p q = tt
  beside_halt (Val v) (HaltAt s c) cu more t x r m p q = formed_last s c cu more t x r m q
  beside_halt (Val v) (ErrAt s c) cu more t x r m p q = tt
  beside_halt (Val v) (Val vs) cu more t x r m p q = tt

  -- ---- a call of a module

  answered_halt : (site : List Step) (result : ℕ) (b : Answer) (us : List Use) (x : Scanned ValueTerm) → HaltLast a links (answered site result b) us x
  answered_halt site result (Ok values) us x = tt
  answered_halt site result (Err code) us x = tt

  call_halt : (site : List Step) (code : Code) (us : List Use) (m : Module) (file : Option (List ℕ)) (result : ℕ) (r : Scanned ValueTerms) → ScanLast a links site code us r → ScanLast a links site code us (call_scanned m file result r)
  call_halt site code us m file result (Forms ts) h = tt
  call_halt site code us m file result (Ends IsOff) h = tt
  call_halt site code us m file result (Ends (Stops place c)) h = tt
  call_halt site code us m file result (Ends (Needs place u)) h = h

  called_halt : (w : World) (m : Module) (site : List Step) (result : ℕ) (file : Option (List ℕ)) (d : Decided Values) (cu du : List Use) (r : Scanned ValueTerms) → HaltLast a links d cu r → HaltLast a links (module_rule w m site result d cu du).decided (module_rule w m site result d cu du).control_uses (call_scanned m file result r)
  called_halt w m site result file Off cu du r h = tt
  called_halt w m site result file (HaltAt s c) cu du r h = call_halt s c cu m file result r h
  called_halt w m site result file (ErrAt s c) cu du r h = tt
  called_halt w m site result file (Val values) cu du r h = answered_halt site result (w.answer m values (file_for w m values)) cu (call_scanned m file result r)

-- an input of a call
pub record HaltsSo (a : Around) (links : List ValueTerm) (o : Outcome Value) (t : ValueTerm) (x : Scanned ValueTerm) : Type 0 where
  pub means : Means a o.decided t x
  pub agrees : Agrees o.decided (denotes a t)
  pub last : LastUse a o.decided o.data_uses (demanded a links t)
  pub halted : HaltLast a links o.decided o.control_uses x

module _ (w : World) (n : Names) (s : Sight) (links : List ValueTerm) (l : AreLinks w n links) (full : IsFull w n s) where
  abbrev a : Around
  a = around w n

  -- ---- a selector

  halted_selector : (f : Function) (p : Place) (result : ℕ) (xs : List (Scanned ValueTerm)) (site : List Step) (code : Code) (us : List Use) (x : Scanned ValueTerm) → IsHalted a site code x → ScanLast a links site code us x → ScanLast a links site code us (selected s f p result xs x)
  halted_selector f p result xs site code us (Forms t) m h = absurd m
  halted_selector f p result xs site code us (Ends IsOff) m h = absurd m
  halted_selector f p result xs site code us (Ends (Stops place c)) m h = tt
  halted_selector f p result xs site code us (Ends (Needs place u)) m h = h

  refused_selector : (f : Function) (p : Place) (result : ℕ) (xs : List (Scanned ValueTerm)) (site : List Step) (code : Code) (cu du : List Use) (t : ValueTerm) (x : Scanned ValueTerm) → x ≡ Forms t → denotes a t ≡ Err code → LastUse {A = Value} a (ErrAt site code) du (demanded a links t) →
      ScanLast a links site code (cu ++ du) (selected s f p result xs x)
  refused_selector f p result xs site code cu du t x e d h = rw (e, told_none (s.told t) (denotes a t) code (full.told t) d) (use_behind a site code cu du (demanded a links t) h)

  value_selector : (f : Function) (p : Place) (result : ℕ) (xs : List (Scanned ValueTerm)) (d : Decided Value) (us : List Use) (v : Value) (t : ValueTerm) (x : Scanned ValueTerm) → x ≡ Forms t → denotes a t ≡ Ok v → HaltLast a links d us (valued s f p result xs v) →
      HaltLast a links d us (selected s f p result xs x)
  value_selector f p result xs d us v t x e q h = rw (e, told_some (s.told t) (denotes a t) v (full.told t) q) h

  selected_halt : (f : Function) (p : Place) (result : ℕ) (xs : List (Scanned ValueTerm)) (d : Decided Value) (cu du : List Use) (t : ValueTerm) (x : Scanned ValueTerm) (out : Value → Outcome Value) → HaltsSo a links (record { decided = d; control_uses = cu; data_uses = du }) t x →
      ((v : Value) → HaltLast a links (out v).decided (out v).control_uses (valued s f p result xs v)) →
      HaltLast a links (after_selector (selected_with d cu du).decided (selected_with d cu du).control_uses out).decided (after_selector (selected_with d cu du).decided (selected_with d cu du).control_uses out).control_uses (selected s f p result xs x)
  selected_halt f p result xs Off cu du t x out i k = tt
  selected_halt f p result xs (HaltAt site code) cu du t x out i k = halted_selector f p result xs site code cu x i.means i.halted
  selected_halt f p result xs (ErrAt site code) cu du t x out i k = refused_selector f p result xs site code cu du t x i.means i.agrees i.last
  selected_halt f p result xs (Val v) cu du t x out i k = value_selector f p result xs (out v).decided ((cu ++ du) ++ (out v).control_uses) v t x i.means i.agrees (halt_behind a links (out v).decided (cu ++ du) (out v).control_uses (valued s f p result xs v) (k v))

  -- an Import whose name is the first of these
  import_halt : (p : Place) (result : ℕ) (xs : List (Scanned ValueTerm)) (d : Decided Value) (cu du : List Use) (e : Decided Values) (more others : List Use) (t : ValueTerm) (x : Scanned ValueTerm) → HaltsSo a links (record { decided = d; control_uses = cu; data_uses = du }) t x → HaltLast a links e more (all_scanned xs) →
      HaltLast a links (module_rule w computing.Import p.site result (decided_beside (selected_with d cu du).decided e) (control_beside (selected_with d cu du).decided (selected_with d cu du).control_uses more) others).decided
      (module_rule w computing.Import p.site result (decided_beside (selected_with d cu du).decided e) (control_beside (selected_with d cu du).decided (selected_with d cu du).control_uses more) others).control_uses
      (selected s (function.Module computing.Import) p result (x ∷ xs) x)
  import_halt p result xs Off cu du e more others t x i k = tt
  import_halt p result xs (HaltAt site code) cu du e more others t x i k = halted_selector (function.Module computing.Import) p result (x ∷ xs) site code cu x i.means i.halted
  import_halt p result xs (ErrAt site code) cu du e more others t x i k = refused_selector (function.Module computing.Import) p result (x ∷ xs) site code cu du t x i.means i.agrees i.last
  import_halt p result xs (Val v) cu du e more others t x i k =
      value_selector (function.Module computing.Import) p result (x ∷ xs) (module_rule w computing.Import p.site result (decided_beside (Val v) e) ((cu ++ du) ++ more) others).decided (module_rule w computing.Import p.site result (decided_beside (Val v) e) ((cu ++ du) ++ more) others).control_uses v t x i.means i.agrees
      (called_halt a links w computing.Import p.site result (written_for s v) (decided_beside (Val v) e) ((cu ++ du) ++ more) others (all_scanned (x ∷ xs))
      (beside_halt a links (Val v) e (cu ++ du) more t x (all_scanned xs) i.means tt k))

  -- ---- rules

  pub record Inputs (os : List (Outcome Value)) (ts : ValueTerms) (xs : List (Scanned ValueTerm)) : Type 0 where
    pub at : (k : ℕ) → HaltsSo (around w n) links (outcome_at os k) (term_at ts k) (scanned_at xs k)
    pub all : HaltLast (around w n) links (together os).decided (together os).control_uses (all_scanned xs)

  module _ (os : List (Outcome Value)) (ts : ValueTerms) (xs : List (Scanned ValueTerm)) (i : Inputs os ts xs) where
    abbrev Ends_so : Function → Place → ℕ → Type 0
    Ends_so f p result = HaltLast (around w n) links (by_rule w f p result os).decided (by_rule w f p result os).control_uses (rule_scanned s f p result xs)

    module_halt : (m : Module) (p : Place) (result : ℕ) → Ends_so (function.Module computing.Import) p result → Ends_so (function.Module m) p result
    module_halt computing.Import p result h = h
    module_halt m p result h = called_halt a links w m p.site result None (together os).decided (together os).control_uses (together os).data_uses (all_scanned xs) i.all

    picked_halt : (p : Place) (b : Pick Value) (c : Pick ValueTerm) → PickNeeds a links b c → HaltLast a links (picked p.site os b).decided (picked p.site os b).control_uses (picked_scanned p xs c)
    picked_halt p (PickThis v) c r = tt
    picked_halt p PickOff c r = tt
    picked_halt p (PickInput k) (PickInput m) r = subst (λ j. HaltLast a links (outcome_at os k).decided (outcome_at os k).control_uses (scanned_at xs j)) r (i.at k).halted
    picked_halt p (PickInput k) (PickThis t) r = absurd r
    picked_halt p (PickInput k) PickOff r = absurd r
    picked_halt p (PickInput k) PickFault r = absurd r
    picked_halt p PickFault PickFault r = tt
    picked_halt p PickFault (PickThis t) r = absurd r
    picked_halt p PickFault (PickInput m) r = absurd r
    picked_halt p PickFault PickOff r = absurd r

    shelf_halt : (p : Place) (b : Pick Value) (c : Shelf ValueTerm → Pick ValueTerm) → PickNeeds a links b (c (terms_with w n)) → HaltLast a links (picked p.site os b).decided (picked p.site os b).control_uses (picked_scanned p xs (c (terms_in s)))
    shelf_halt p b c r = rw (same_shelf w n s full) (picked_halt p b (c (terms_with w n)) r)

    picking_halt : (f : Function) (p : Place) (result : ℕ) → ((v : Value) → HaltLast a links (picked p.site os (pick (values_in w) f p result v)).decided (picked p.site os (pick (values_in w) f p result v)).control_uses (valued s f p result xs v)) →
        HaltLast a links (selector_rule w f p result os).decided (selector_rule w f p result os).control_uses (selector_scanned s f p result xs)
    picking_halt f p result k =
        let o = outcome_at os (selector_at f) in
        selected_halt f p result xs o.decided o.control_uses o.data_uses (term_at ts (selector_at f)) (scanned_at xs (selector_at f)) (λ v. picked p.site os (pick (values_in w) f p result v)) (i.at (selector_at f)) k

    effect_halt : (e : Effect) → HaltLast a links (effect_rule e os).decided (effect_rule e os).control_uses (effect_scanned e xs)
    effect_halt effect.SetLocal = (i.at 1).halted
    effect_halt effect.SetGlobal = (i.at 1).halted
    effect_halt effect.Print = tt
    effect_halt effect.Echo = tt
    effect_halt effect.Export = tt

    rule_halt : (f : Function) (p : Place) (result : ℕ) → Ends_so (function.Module computing.Import) p result → Ends_so f p result
    rule_halt (function.Module m) p result h = module_halt m p result h
    rule_halt (function.Effect e) p result h = effect_halt e
    rule_halt function.Switch p result h = picking_halt function.Switch p result (λ v. shelf_halt p (pick (values_in w) function.Switch p result v) (λ shelf. pick shelf function.Switch p result v) (switch_needs a links v))
    rule_halt function.Route p result h = picking_halt function.Route p result (λ v. shelf_halt p (pick (values_in w) function.Route p result v) (λ shelf. pick shelf function.Route p result v) (route_needs a links result v))
    rule_halt function.GetLocal p result h = picking_halt function.GetLocal p result (λ v. shelf_halt p (pick (values_in w) function.GetLocal p result v) (λ shelf. pick shelf function.GetLocal p result v) (get_needs w n links l (key_in p) result (link_name p v)))
    rule_halt function.GetGlobal p result h = picking_halt function.GetGlobal p result (λ v. shelf_halt p (pick (values_in w) function.GetGlobal p result v) (λ shelf. pick shelf function.GetGlobal p result v) (get_needs w n links l key.Global result (link_name p v)))

  -- ---- trees

  input_halt : (t : Tree) → HaltLast a links (outcome w t).decided (outcome w t).control_uses (scan s t) → HaltsSo a links (outcome w t) (term_of w n t) (scan s t)
  input_halt t h = record { means = tree_means w n s l.denote full t; agrees = (tree_right w n l.denote t).0; last = tree_last w n s links l full t; halted = h }

  mutual
    pub tree_halt : (t : Tree) → HaltLast a links (outcome w t).decided (outcome w t).control_uses (scan s t)
    tree_halt (ConstantTree c) = tt
    tree_halt (ResultTree result (TreeCall f p args)) = rule_halt (outcomes w args) (terms_of w n args) (scan_each s args) (record { at = at_halt args; all = all_halt args }) f p result (name_halt p result args)

    at_halt : (ts : Trees) → (k : ℕ) → HaltsSo a links (outcome_at (outcomes w ts) k) (term_at (terms_of w n ts) k) (scanned_at (scan_each s ts) k)
    at_halt NoTree k = record { means = refl; agrees = refl; last = tt; halted = tt }
    at_halt (AndTree t ts) zero = input_halt t (tree_halt t)
    at_halt (AndTree t ts) (suc k) = at_halt ts k

    pub all_halt : (ts : Trees) → HaltLast a links (together (outcomes w ts)).decided (together (outcomes w ts)).control_uses (all_scanned (scan_each s ts))
    all_halt NoTree = tt
    all_halt (AndTree t ts) =
        let o = outcome w t in
        let rest = together (outcomes w ts) in
        beside_halt a links o.decided rest.decided o.control_uses rest.control_uses (term_of w n t) (scan s t) (all_scanned (scan_each s ts)) (tree_means w n s l.denote full t) (tree_halt t) (all_halt ts)

    name_halt : (p : Place) (result : ℕ) (ts : Trees) → HaltLast a links (by_rule w (function.Module computing.Import) p result (outcomes w ts)).decided (by_rule w (function.Module computing.Import) p result (outcomes w ts)).control_uses (rule_scanned s (function.Module computing.Import) p result (scan_each s ts))
    name_halt p result NoTree = answered_halt a links p.site result (w.answer computing.Import [] (file_for w computing.Import [])) [] (module_scanned s computing.Import p result [])
    name_halt p result (AndTree t ts) =
        let o = outcome w t in
        let rest = together (outcomes w ts) in
        import_halt p result (scan_each s ts) o.decided o.control_uses o.data_uses rest.decided rest.control_uses (together (with_name (outcomes w (AndTree t ts)))).data_uses (term_of w n t) (scan s t) (input_halt t (tree_halt t)) (all_halt ts)
