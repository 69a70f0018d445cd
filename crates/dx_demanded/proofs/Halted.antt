-- The call that is refused in a selector is found.
use Rattle.std.proofs.Common.{◌≡◌, ℕ, zero, suc, List, [], ◌∷◌, Option, None, refl, sym, subst}
use Rattle.std.specs.Prelude.{Ok, Err}
use Rattle.dx_base.specs.declared.code.Code.{Code}
use Rattle.dx_base.specs.declared.function.Function.{Function}
use Rattle.dx_base.specs.declared.function.Function.TheVariants as function
use Rattle.dx_base.specs.declared.function.Module.{Module}
use Rattle.dx_base.specs.declared.function.Module.TheVariants as computing
use Rattle.dx_base.specs.declared.function.Effect.{Effect}
use Rattle.dx_base.specs.declared.function.Effect.TheVariants as effect
use Rattle.dx_macros.specs.Site.{Step}
use Rattle.dx_macros.specs.Tree.{Place, Tree, ConstantTree, ResultTree, TreeCall, Trees, NoTree, AndTree}
use Rattle.dx_objects.specs.Runs.{Values, Answer}
use Rattle.dx_links.specs.declared.key.Key.TheVariants as key
use Rattle.dx_links.specs.Denotes.{Around, denotes}
use Rattle.dx_tags.specs.Closed.{ValueTerm, ValueTerms}
use Rattle.dx_machine.specs.Agree.{demanded}
use Rattle.dx_meaning.specs.Outcome.{Value, Use, Decided, Val, ErrAt, Off, HaltAt, Outcome}
use Rattle.dx_meaning.specs.Picking.{Pick, PickThis, PickInput, PickOff, PickFault, Shelf, link_name, key_in, pick, selector_at}
use Rattle.dx_meaning.specs.Meaning.{World, outcome, outcomes, outcome_at, together, decided_beside, selected_with, with_name, answered, module_rule, module_outcome, after_selector, picked, values_in, selector_rule, effect_rule, by_rule, file_for}
use Rattle.dx_meaning.specs.Scan.{Sight, IsOff, Stops, Needs, Scanned, Forms, Ends, scanned_beside, all_scanned, scanned_at, call_scanned, written_for, picked_scanned, terms_in, valued, selected, selector_scanned, effect_scanned, module_scanned, rule_scanned, scan, scan_each}
use Rattle.dx_meaning.specs.Met.{Called, met_at, picked_met, effect_met, met, each_met}
use Rattle.dx_meaning.specs.Term.{Names, around, term_at, terms_with, term_of, terms_of, Agrees}
use Rattle.dx_meaning.proofs.Terms.{tree_right}
use Rattle.dx_performing.specs.Meant.{IsFull, IsHalted, Means}
use Rattle.dx_performing.proofs.Executed.{full}
use Rattle.dx_performing.proofs.Meant.{tree_means}
use Rattle.dx_demanded.specs.Found.{AreLinks, RefusesAt, Finds}
use Rattle.dx_meaning.specs.Halted.{halted_beside, all_halted, selected_halted, picking_halted, module_halted, rule_halted, halted_met, each_halted, halted_all}
use Rattle.dx_demanded.specs.Halted.{SelectorRefuses, HaltFinds, HaltsAreFound}
use Rattle.dx_demanded.proofs.Picks.{PickNeeds, switch_needs, route_needs, get_needs}
use Rattle.dx_demanded.proofs.Seeing.{same_shelf, told_none, told_some}
use Rattle.dx_demanded.proofs.Trees.{tree_needs}

module _ (a : Around) (links : List ValueTerm) where
  -- ---- the arguments of a call

  first_halts : (site : List Step) (code : Code) (own rest : List Called) (x : Scanned ValueTerm) (r : Scanned ValueTerms) → IsHalted a site code x → SelectorRefuses a links own site code x → SelectorRefuses a links (halted_beside x own rest) site code (scanned_beside x r)
  first_halts site code own rest (Forms t) r h k = absurd h
  first_halts site code own rest (Ends IsOff) r h k = absurd h
  first_halts site code own rest (Ends (Stops place c)) r h k = tt
  first_halts site code own rest (Ends (Needs place u)) r h k = k

  rest_halts : (site : List Step) (code : Code) (own rest : List Called) (t : ValueTerm) (r : Scanned ValueTerms) → SelectorRefuses a links rest site code r → SelectorRefuses a links rest site code (scanned_beside (Forms t) r)
  rest_halts site code own rest t (Forms ts) k = tt
  rest_halts site code own rest t (Ends IsOff) k = tt
  rest_halts site code own rest t (Ends (Stops place c)) k = tt
  rest_halts site code own rest t (Ends (Needs place u)) k = k

  formed_halts : (site : List Step) (code : Code) (own rest : List Called) (t : ValueTerm) (x : Scanned ValueTerm) (r : Scanned ValueTerms) → x ≡ Forms t → SelectorRefuses a links rest site code r → SelectorRefuses a links (halted_beside x own rest) site code (scanned_beside x r)
  formed_halts site code own rest t x r h k = subst (λ y. SelectorRefuses a links (halted_beside y own rest) site code (scanned_beside y r)) (sym h) (rest_halts site code own rest t r k)

  beside_halts : (d : Decided Value) (e : Decided Values) (t : ValueTerm) (own rest : List Called) (x : Scanned ValueTerm) (r : Scanned ValueTerms) → Means a d t x → HaltFinds a links d own x → HaltFinds a links e rest r → HaltFinds a links (decided_beside d e) (halted_beside x own rest) (scanned_beside x r)
  beside_halts Off e t own rest x r h p q = tt
  beside_halts (HaltAt s c) e t own rest x r h p q = first_halts s c own rest x r h p
  beside_halts (ErrAt s c) Off t own rest x r h p q = tt
  beside_halts (ErrAt s c) (HaltAt s' c') t own rest x r h p q = formed_halts s' c' own rest t x r h q
  beside_halts (ErrAt s c) (ErrAt s' c') t own rest x r h p q = tt
  beside_halts (ErrAt s c) (Val vs) t own rest x r h p q = tt
  beside_halts (Val v) Off t own rest x r h p q = tt
  beside_halts (Val v) (HaltAt s c) t own rest x r h p q = formed_halts s c own rest t x r h q
  beside_halts (Val v) (ErrAt s c) t own rest x r h p q = tt
  beside_halts (Val v) (Val vs) t own rest x r h p q = tt

  -- ---- a call of a module

  answered_halts : (site : List Step) (result : ℕ) (b : Answer) (calls : List Called) (x : Scanned ValueTerm) → HaltFinds a links (answered site result b) calls x
  answered_halts site result (Ok values) calls x = tt
  answered_halts site result (Err code) calls x = tt

  call_halts : (site : List Step) (code : Code) (calls : List Called) (m : Module) (file : Option (List ℕ)) (result : ℕ) (r : Scanned ValueTerms) → SelectorRefuses a links calls site code r → SelectorRefuses a links calls site code (call_scanned m file result r)
  call_halts site code calls m file result (Forms ts) k = tt
  call_halts site code calls m file result (Ends IsOff) k = tt
  call_halts site code calls m file result (Ends (Stops place c)) k = tt
  call_halts site code calls m file result (Ends (Needs place u)) k = k

  called_halts : (w : World) (m : Module) (site : List Step) (result : ℕ) (file : Option (List ℕ)) (d : Decided Values) (cu du : List Use) (calls : List Called) (r : Scanned ValueTerms) → HaltFinds a links d calls r → HaltFinds a links (module_rule w m site result d cu du).decided calls (call_scanned m file result r)
  called_halts w m site result file Off cu du calls r h = tt
  called_halts w m site result file (HaltAt s c) cu du calls r h = call_halts s c calls m file result r h
  called_halts w m site result file (ErrAt s c) cu du calls r h = tt
  called_halts w m site result file (Val values) cu du calls r h = answered_halts site result (w.answer m values (file_for w m values)) calls (call_scanned m file result r)

-- an input of a call
pub record Halts (a : Around) (links : List ValueTerm) (d : Decided Value) (t : ValueTerm) (x : Scanned ValueTerm) (mets halts : List Called) : Type 0 where
  pub means : Means a d t x
  pub agrees : Agrees d (denotes a t)
  pub found : Finds a d mets (demanded a links t)
  pub halted : HaltFinds a links d halts x

module _ (w : World) (n : Names) (s : Sight) (links : List ValueTerm) (l : AreLinks w n links) (full : IsFull w n s) where
  abbrev a : Around
  a = around w n

  -- ---- a selector

  halted_selector : (f : Function) (p : Place) (result : ℕ) (xs : List (Scanned ValueTerm)) (site : List Step) (code : Code) (x : Scanned ValueTerm) (within own : List Called) (go : Value → List Called) → IsHalted a site code x → SelectorRefuses a links within site code x →
      SelectorRefuses a links (selected_halted s x within own go) site code (selected s f p result xs x)
  halted_selector f p result xs site code (Forms t) within own go h k = absurd h
  halted_selector f p result xs site code (Ends IsOff) within own go h k = absurd h
  halted_selector f p result xs site code (Ends (Stops place c)) within own go h k = tt
  halted_selector f p result xs site code (Ends (Needs place u)) within own go h k = k

  refused_selector : (f : Function) (p : Place) (result : ℕ) (xs : List (Scanned ValueTerm)) (site : List Step) (code : Code) (t : ValueTerm) (x : Scanned ValueTerm) (within own : List Called) (go : Value → List Called) → x ≡ Forms t → denotes a t ≡ Err code → RefusesAt a own site code (demanded a links t) →
      SelectorRefuses a links (selected_halted s x within own go) site code (selected s f p result xs x)
  refused_selector f p result xs site code t x within own go e d k = rw (e, told_none (s.told t) (denotes a t) code (full.told t) d) k

  value_selector : (f : Function) (p : Place) (result : ℕ) (xs : List (Scanned ValueTerm)) (d : Decided Value) (v : Value) (t : ValueTerm) (x : Scanned ValueTerm) (within own : List Called) (go : Value → List Called) → x ≡ Forms t → denotes a t ≡ Ok v → HaltFinds a links d (go v) (valued s f p result xs v) →
      HaltFinds a links d (selected_halted s x within own go) (selected s f p result xs x)
  value_selector f p result xs d v t x within own go e q k = rw (e, told_some (s.told t) (denotes a t) v (full.told t) q) k

  selected_halts : (f : Function) (p : Place) (result : ℕ) (xs : List (Scanned ValueTerm)) (d : Decided Value) (cu du : List Use) (t : ValueTerm) (x : Scanned ValueTerm) (within own : List Called) (out : Value → Outcome Value) (go : Value → List Called) → Halts a links d t x own within →
      ((v : Value) → HaltFinds a links (out v).decided (go v) (valued s f p result xs v)) →
      HaltFinds a links (after_selector (selected_with d cu du).decided (selected_with d cu du).control_uses out).decided (selected_halted s x within own go) (selected s f p result xs x)
  selected_halts f p result xs Off cu du t x within own out go i k = tt
  selected_halts f p result xs (HaltAt site code) cu du t x within own out go i k = halted_selector f p result xs site code x within own go i.means i.halted
  selected_halts f p result xs (ErrAt site code) cu du t x within own out go i k = refused_selector f p result xs site code t x within own go i.means i.agrees i.found
  selected_halts f p result xs (Val v) cu du t x within own out go i k = value_selector f p result xs (out v).decided v t x within own go i.means i.agrees (k v)

  -- an Import whose name is the first of these
  import_halts : (p : Place) (result : ℕ) (xs : List (Scanned ValueTerm)) (d : Decided Value) (us vs : List Use) (e : Decided Values) (cu du : List Use) (t : ValueTerm) (x : Scanned ValueTerm) (within own : List Called) (halts : List (List Called)) → Halts a links d t x own within → HaltFinds a links e (all_halted xs halts) (all_scanned xs) →
      HaltFinds a links (module_rule w computing.Import p.site result (decided_beside (selected_with d us vs).decided e) cu du).decided (selected_halted s x within own (λ v. all_halted (x ∷ xs) (within ∷ halts))) (selected s (function.Module computing.Import) p result (x ∷ xs) x)
  import_halts p result xs Off us vs e cu du t x within own halts i k = tt
  import_halts p result xs (HaltAt site code) us vs e cu du t x within own halts i k = halted_selector (function.Module computing.Import) p result (x ∷ xs) site code x within own (λ v. all_halted (x ∷ xs) (within ∷ halts)) i.means i.halted
  import_halts p result xs (ErrAt site code) us vs e cu du t x within own halts i k = refused_selector (function.Module computing.Import) p result (x ∷ xs) site code t x within own (λ v. all_halted (x ∷ xs) (within ∷ halts)) i.means i.agrees i.found
  import_halts p result xs (Val v) us vs e cu du t x within own halts i k =
      value_selector (function.Module computing.Import) p result (x ∷ xs) (module_rule w computing.Import p.site result (decided_beside (Val v) e) cu du).decided v t x within own (λ u. all_halted (x ∷ xs) (within ∷ halts)) i.means i.agrees
      (called_halts a links w computing.Import p.site result (written_for s v) (decided_beside (Val v) e) cu du (all_halted (x ∷ xs) (within ∷ halts)) (all_scanned (x ∷ xs))
      (beside_halts a links (Val v) e t within (all_halted xs halts) x (all_scanned xs) i.means tt k))

  -- an Import with no name
  no_name_halts : (p : Place) (result : ℕ) → HaltFinds a links (module_outcome w computing.Import p.site result (together [])).decided (module_halted s computing.Import [] [] []) (module_scanned s computing.Import p result [])
  no_name_halts p result = answered_halts a links p.site result (w.answer computing.Import [] (file_for w computing.Import [])) (module_halted s computing.Import [] [] []) (module_scanned s computing.Import p result [])

  -- ---- rules

  pub record Inputs (os : List (Outcome Value)) (ts : ValueTerms) (xs : List (Scanned ValueTerm)) (mets halts : List (List Called)) : Type 0 where
    pub at : (k : ℕ) → Halts (around w n) links (outcome_at os k).decided (term_at ts k) (scanned_at xs k) (met_at mets k) (met_at halts k)
    pub all : HaltFinds (around w n) links (together os).decided (all_halted xs halts) (all_scanned xs)

  module _ (os : List (Outcome Value)) (ts : ValueTerms) (xs : List (Scanned ValueTerm)) (mets halts : List (List Called)) (i : Inputs os ts xs mets halts) where
    module_halts : (m : Module) (p : Place) (result : ℕ) →
        HaltFinds a links (by_rule w (function.Module computing.Import) p result os).decided (module_halted s computing.Import xs mets halts) (module_scanned s computing.Import p result xs) →
        HaltFinds a links (by_rule w (function.Module m) p result os).decided (module_halted s m xs mets halts) (module_scanned s m p result xs)
    module_halts computing.Import p result h = h
    module_halts m p result h = called_halts a links w m p.site result None (together os).decided (together os).control_uses (together os).data_uses (all_halted xs halts) (all_scanned xs) i.all

    picked_halts : (p : Place) (b : Pick Value) (c : Pick ValueTerm) → PickNeeds a links b c → HaltFinds a links (picked p.site os b).decided (picked_met halts c) (picked_scanned p xs c)
    picked_halts p (PickThis v) c r = tt
    picked_halts p PickOff c r = tt
    picked_halts p (PickInput k) (PickInput m) r = subst (λ j. HaltFinds a links (outcome_at os k).decided (met_at halts j) (scanned_at xs j)) r (i.at k).halted
    picked_halts p (PickInput k) (PickThis t) r = absurd r
    picked_halts p (PickInput k) PickOff r = absurd r
    picked_halts p (PickInput k) PickFault r = absurd r
    picked_halts p PickFault PickFault r = tt
    picked_halts p PickFault (PickThis t) r = absurd r
    picked_halts p PickFault (PickInput m) r = absurd r
    picked_halts p PickFault PickOff r = absurd r

    shelf_halts : (p : Place) (b : Pick Value) (c : Shelf ValueTerm → Pick ValueTerm) → PickNeeds a links b (c (terms_with w n)) → HaltFinds a links (picked p.site os b).decided (picked_met halts (c (terms_in s))) (picked_scanned p xs (c (terms_in s)))
    shelf_halts p b c r = rw (same_shelf w n s full) (picked_halts p b (c (terms_with w n)) r)

    picking_halts : (f : Function) (p : Place) (result : ℕ) → ((v : Value) → HaltFinds a links (picked p.site os (pick (values_in w) f p result v)).decided (picked_met halts (pick (terms_in s) f p result v)) (valued s f p result xs v)) →
        HaltFinds a links (selector_rule w f p result os).decided (picking_halted s f p result xs mets halts) (selector_scanned s f p result xs)
    picking_halts f p result k =
        let o = outcome_at os (selector_at f) in
        selected_halts f p result xs o.decided o.control_uses o.data_uses (term_at ts (selector_at f)) (scanned_at xs (selector_at f)) (met_at halts (selector_at f)) (met_at mets (selector_at f))
        (λ v. picked p.site os (pick (values_in w) f p result v)) (λ v. picked_met halts (pick (terms_in s) f p result v)) (i.at (selector_at f)) k

    effect_halts : (e : Effect) → HaltFinds a links (effect_rule e os).decided (effect_met e halts) (effect_scanned e xs)
    effect_halts effect.SetLocal = (i.at 1).halted
    effect_halts effect.SetGlobal = (i.at 1).halted
    effect_halts effect.Print = tt
    effect_halts effect.Echo = tt
    effect_halts effect.Export = tt

    rule_halts : (f : Function) (p : Place) (result : ℕ) →
        HaltFinds a links (by_rule w (function.Module computing.Import) p result os).decided (module_halted s computing.Import xs mets halts) (module_scanned s computing.Import p result xs) →
        HaltFinds a links (by_rule w f p result os).decided (rule_halted s f p result xs mets halts) (rule_scanned s f p result xs)
    rule_halts (function.Module m) p result h = module_halts m p result h
    rule_halts (function.Effect e) p result h = effect_halts e
    rule_halts function.Switch p result h = picking_halts function.Switch p result (λ v. shelf_halts p (pick (values_in w) function.Switch p result v) (λ shelf. pick shelf function.Switch p result v) (switch_needs a links v))
    rule_halts function.Route p result h = picking_halts function.Route p result (λ v. shelf_halts p (pick (values_in w) function.Route p result v) (λ shelf. pick shelf function.Route p result v) (route_needs a links result v))
    rule_halts function.GetLocal p result h = picking_halts function.GetLocal p result (λ v. shelf_halts p (pick (values_in w) function.GetLocal p result v) (λ shelf. pick shelf function.GetLocal p result v) (get_needs w n links l (key_in p) result (link_name p v)))
    rule_halts function.GetGlobal p result h = picking_halts function.GetGlobal p result (λ v. shelf_halts p (pick (values_in w) function.GetGlobal p result v) (λ shelf. pick shelf function.GetGlobal p result v) (get_needs w n links l key.Global result (link_name p v)))

  -- ---- trees

  input_halts : (t : Tree) → HaltFinds a links (outcome w t).decided (halted_met s t) (scan s t) → Halts a links (outcome w t).decided (term_of w n t) (scan s t) (met s t) (halted_met s t)
  input_halts t h = record { means = tree_means w n s l.denote full t; agrees = (tree_right w n l.denote t).0; found = (tree_needs w n s links l full t).found; halted = h }

  mutual
    pub tree_halts : (t : Tree) → HaltFinds a links (outcome w t).decided (halted_met s t) (scan s t)
    tree_halts (ConstantTree c) = tt
    tree_halts (ResultTree result (TreeCall f p args)) =
        rule_halts (outcomes w args) (terms_of w n args) (scan_each s args) (each_met s args) (each_halted s args) (record { at = at_halts args; all = all_halts args }) f p result (name_halts p result args)

    at_halts : (ts : Trees) → (k : ℕ) → Halts a links (outcome_at (outcomes w ts) k).decided (term_at (terms_of w n ts) k) (scanned_at (scan_each s ts) k) (met_at (each_met s ts) k) (met_at (each_halted s ts) k)
    at_halts NoTree k = record { means = refl; agrees = refl; found = tt; halted = tt }
    at_halts (AndTree t ts) zero = input_halts t (tree_halts t)
    at_halts (AndTree t ts) (suc k) = at_halts ts k

    pub all_halts : (ts : Trees) → HaltFinds a links (together (outcomes w ts)).decided (halted_all s ts) (all_scanned (scan_each s ts))
    all_halts NoTree = tt
    all_halts (AndTree t ts) = beside_halts a links (outcome w t).decided (together (outcomes w ts)).decided (term_of w n t) (halted_met s t) (halted_all s ts) (scan s t) (all_scanned (scan_each s ts)) (tree_means w n s l.denote full t) (tree_halts t) (all_halts ts)

    name_halts : (p : Place) (result : ℕ) (ts : Trees) → HaltFinds a links (by_rule w (function.Module computing.Import) p result (outcomes w ts)).decided (module_halted s computing.Import (scan_each s ts) (each_met s ts) (each_halted s ts)) (module_scanned s computing.Import p result (scan_each s ts))
    name_halts p result NoTree = no_name_halts p result
    name_halts p result (AndTree t ts) =
        let o = outcome w t in
        let all = together (with_name (outcomes w (AndTree t ts))) in
        import_halts p result (scan_each s ts) o.decided o.control_uses o.data_uses (together (outcomes w ts)).decided all.control_uses all.data_uses (term_of w n t) (scan s t) (halted_met s t) (met s t) (each_halted s ts) (input_halts t (tree_halts t)) (all_halts ts)

pub halts_found : HaltsAreFound
halts_found w n s links l full = (tree_halts w n s links l full, all_halts w n s links l full)
