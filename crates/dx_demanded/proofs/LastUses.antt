-- Where a tree comes to an error, the last use of its data is at the site, and is what the call that its term finds refused was run on.
use Rattle.std.proofs.Common.{◌≡◌, ℕ, zero, suc, List, [], ◌∷◌, ◌++◌, Bool, true, false, refl, sym, ◌∙◌, subst}
use Rattle.std.specs.Prelude.{Ok, Err}
use Rattle.dx_base.specs.declared.code.Code.{Code}
use Rattle.dx_base.specs.declared.function.Function.{Function}
use Rattle.dx_base.specs.declared.function.Function.TheVariants as function
use Rattle.dx_base.specs.declared.function.Module.{Module}
use Rattle.dx_base.specs.declared.function.Module.TheVariants as computing
use Rattle.dx_base.specs.declared.function.Effect.{Effect}
use Rattle.dx_base.specs.declared.function.Effect.TheVariants as effect
use Rattle.dx_macros.specs.Site.{Step}
use Rattle.dx_macros.specs.Tree.{Place, Tree, ConstantTree, ResultTree, TreeCall, Trees, NoTree, AndTree}
use Rattle.dx_objects.specs.Runs.{Values, Answer}
use Rattle.dx_links.specs.declared.key.Key.TheVariants as key
use Rattle.dx_links.specs.Denotes.{Around, own_file, file_of, all_denote}
use Rattle.dx_links.specs.Getting.{has_value}
use Rattle.dx_tags.specs.Closed.{ValueTerm, ResultTerm, CallOf, ValueTerms}
use Rattle.dx_machine.specs.Machine.{Task, task_of}
use Rattle.dx_machine.specs.Agree.{Demanded, Runs, Refuses, more_of, then_of, answered as task_answered, run_demanded, unless, demanded, call_demanded, all_demanded}
use Rattle.dx_meaning.specs.Outcome.{Value, Use, Decided, Val, ErrAt, Off, HaltAt, Outcome}
use Rattle.dx_meaning.specs.Picking.{Pick, PickThis, PickInput, PickOff, PickFault, link_name, key_in, pick, selector_at}
use Rattle.dx_meaning.specs.Meaning.{World, outcome, outcomes, outcome_at, together, decided_beside, data_beside, selected_with, with_name, arguments, answered, module_rule, module_outcome, after_selector, picked, values_in, selector_rule, effect_rule, by_rule, file_for}
use Rattle.dx_meaning.specs.Scan.{Sight, with_file}
use Rattle.dx_meaning.specs.Met.{Called, all_met, arguments_met, met, each_met}
use Rattle.dx_meaning.specs.Term.{Names, around, term_at, own_file_of, picked_term, selected_term, terms_with, selector_term, effect_term, term_rule, term_of, terms_of, Agrees}
use Rattle.dx_performing.specs.Meant.{IsFull}
use Rattle.dx_performing.proofs.Meant.{all_agree}
use Rattle.dx_demanded.specs.Found.{AreLinks, Finds}
use Rattle.dx_demanded.specs.Last.{IsLast}
use Rattle.dx_demanded.proofs.Ends.{file_needs_none, file_denotes_none}
use Rattle.dx_demanded.proofs.Picks.{PickNeeds, switch_needs, route_needs, get_needs}
use Rattle.dx_demanded.proofs.Refused.{IsRunOf, last_behind}
use Rattle.dx_demanded.proofs.Trees.{tree_needs, all_need, named_need, named_all_agree}

-- where there is an error and a call that refuses
abbrev pub LastUse : {A : Type 0} → Around → Decided A → List Use → Demanded → Type 0
LastUse a (ErrAt site code) us (Refuses ts c code') = (u : Use) × IsLast u us × (u.site ≡ site) × IsRunOf a c (u.called, u.inputs)
LastUse a (ErrAt site code) us (Runs ts) = Unit {0}
LastUse a (Val v) us d = Unit {0}
LastUse a Off us d = Unit {0}
LastUse a (HaltAt site code) us d = Unit {0}

-- ---- the arguments of a call

more_last : (a : Around) (s : List Step) (c : Code) (us vs : List Use) (ts : List Task) (d : Demanded) → LastUse {A = Values} a (ErrAt s c) vs d → LastUse {A = Values} a (ErrAt s c) (us ++ vs) (more_of ts d)
more_last a s c us vs ts (Runs rs) h = tt
more_last a s c us vs ts (Refuses rs r code) h = (h.0, last_behind h.0 us vs h.1, h.2, h.3)

beside_last : (a : Around) (d : Decided Value) (e : Decided Values) (du others : List Use) (calls : List Called) (g h : Demanded) → Finds a d calls g → LastUse a d du g → LastUse a e others h → LastUse a (decided_beside d e) (data_beside d e du others) (then_of g h)
beside_last a Off e du others calls g h f p q = tt
beside_last a (HaltAt s c) e du others calls g h f p q = tt
beside_last a (ErrAt s c) Off du others calls g h f p q = tt
beside_last a (ErrAt s c) (HaltAt s' c') du others calls g h f p q = tt
beside_last a (ErrAt s c) (ErrAt s' c') du others calls (Runs ts) h f p q = absurd f
beside_last a (ErrAt s c) (ErrAt s' c') du others calls (Refuses ts r code) h f p q = p
beside_last a (ErrAt s c) (Val vs) du others calls (Runs ts) h f p q = absurd f
beside_last a (ErrAt s c) (Val vs) du others calls (Refuses ts r code) h f p q = p
beside_last a (Val v) Off du others calls g h f p q = tt
beside_last a (Val v) (HaltAt s c) du others calls g h f p q = tt
beside_last a (Val v) (ErrAt s c) du others calls (Refuses ts r code) h f p q = absurd f
beside_last a (Val v) (ErrAt s c) du others calls (Runs ts) h f p q = more_last a s c du others ts h q
beside_last a (Val v) (Val vs) du others calls g h f p q = tt

-- the name of an Import
name_finds : (a : Around) (d : Decided Value) (cu du : List Use) (calls : List Called) (g : Demanded) → Finds a d calls g → Finds a (selected_with d cu du).decided [] g
name_finds a Off cu du calls g f = tt
name_finds a (HaltAt s c) cu du calls g f = tt
name_finds a (ErrAt s c) cu du calls g f = tt
name_finds a (Val v) cu du calls (Runs ts) f = tt
name_finds a (Val v) cu du calls (Refuses ts c code) f = f

name_last : (a : Around) (d : Decided Value) (cu du : List Use) (g : Demanded) → LastUse a (selected_with d cu du).decided (selected_with d cu du).data_uses g
name_last a Off cu du g = tt
name_last a (HaltAt s c) cu du g = tt
name_last a (ErrAt s c) cu du g = tt
name_last a (Val v) cu du g = tt

-- ---- a call of a module

-- its own use is the last
own_last : (a : Around) (site : List Step) (result : ℕ) (m : Module) (ts : ValueTerms) (values : Values) (du : List Use) (us : List Task) (all b : Answer) → all_denote a ts ≡ all → all ≡ Ok values →
    LastUse a (answered site result b) (du ++ record { site = site; called = m; inputs = values } ∷ []) (more_of us (run_demanded a m ts all))
own_last a site result m ts values du us all (Ok results) e q = tt
own_last a site result m ts values du us (Err code') (Err code) e q = cc
own_last a site result m ts values du us (Ok vs) (Err code) e q = by (a.answer m vs (file_of a m vs (own_file ts)))
  where
    by : (r : Answer) → LastUse {A = Value} a (ErrAt site code) (du ++ record { site = site; called = m; inputs = values } ∷ []) (more_of us (task_answered (CallOf m ts) (task_of m ts vs) r))
    by (Ok results) = tt
    by (Err code') = (record { site = site; called = m; inputs = values }, (du, refl), refl, (refl, e ∙ q))

called_last : (w : World) (a : Around) (p : Place) (result : ℕ) (m : Module) (ts : ValueTerms) (d : Decided Values) (cu du : List Use) (calls : List Called) (g : Demanded) → Finds a d calls g → LastUse a d du g → Agrees d (all_denote a ts) →
    LastUse a (module_rule w m p.site result d cu du).decided (module_rule w m p.site result d cu du).data_uses (then_of g (run_demanded a m ts (all_denote a ts)))
called_last w a p result m ts Off cu du calls g f u h = tt
called_last w a p result m ts (HaltAt s c) cu du calls g f u h = tt
called_last w a p result m ts (ErrAt s c) cu du calls (Runs us) f u h = absurd f
called_last w a p result m ts (ErrAt s c) cu du calls (Refuses us r code) f u h = u
called_last w a p result m ts (Val values) cu du calls (Refuses us r code) f u h = absurd f
called_last w a p result m ts (Val values) cu du calls (Runs us) f u h = own_last a p.site result m ts values du us (all_denote a ts) (w.answer m values (file_for w m values)) refl h

unless_last : (a : Around) (d : Decided Value) (us : List Use) (b : Bool) (g : Demanded) → LastUse a d us g → LastUse a d us (unless b g)
unless_last a d us false g h = h
unless_last a Off us true g h = tt
unless_last a (HaltAt s c) us true g h = tt
unless_last a (ErrAt s c) us true g h = tt
unless_last a (Val v) us true g h = tt

-- ---- rules

pub record Inputs (a : Around) (links : List ValueTerm) (os : List (Outcome Value)) (ts : ValueTerms) (mets : List (List Called)) : Type 0 where
  pub at : (k : ℕ) → LastUse a (outcome_at os k).decided (outcome_at os k).data_uses (demanded a links (term_at ts k))
  pub all : LastUse a (together os).decided (together os).data_uses (all_demanded a links ts)
  pub all_found : Finds a (together os).decided (all_met mets) (all_demanded a links ts)
  pub agree : Agrees (together os).decided (all_denote a ts)
  pub named : LastUse a (together (with_name os)).decided (together (with_name os)).data_uses (all_demanded a links ts)
  pub named_found : Finds a (together (with_name os)).decided (all_met (arguments_met computing.Import mets)) (all_demanded a links ts)
  pub named_agree : Agrees (together (with_name os)).decided (all_denote a ts)

module _ (w : World) (n : Names) (s : Sight) (links : List ValueTerm) (l : AreLinks w n links) (full : IsFull w n s) where
  abbrev a : Around
  a = around w n

  module _ (os : List (Outcome Value)) (ts : ValueTerms) (mets : List (List Called)) (i : Inputs (around w n) links os ts mets) where
    arguments_last : (m : Module) → LastUse a (together (arguments m os)).decided (together (arguments m os)).data_uses (all_demanded a links ts)
    arguments_last computing.Import = i.named
    arguments_last m = i.all

    arguments_found : (m : Module) → Finds a (together (arguments m os)).decided (all_met (arguments_met m mets)) (all_demanded a links ts)
    arguments_found computing.Import = i.named_found
    arguments_found m = i.all_found

    arguments_agree : (m : Module) → Agrees (together (arguments m os)).decided (all_denote a ts)
    arguments_agree computing.Import = i.named_agree
    arguments_agree m = i.agree

    module_last : (m : Module) (p : Place) (result : ℕ) → LastUse a (by_rule w (function.Module m) p result os).decided (by_rule w (function.Module m) p result os).data_uses (demanded a links (term_rule w n (function.Module m) p result os ts))
    module_last m p result =
        let file = own_file_of w m os in
        let us = with_file ts file in
        let c = CallOf m us in
        let o = together (arguments m os) in
        let d = module_outcome w m p.site result o in
        let calls = all_met (arguments_met m mets) in
        let found = subst (λ g. Finds a o.decided calls g) (sym (file_needs_none a links ts file)) (arguments_found m) in
        let last = subst (λ g. LastUse a o.decided o.data_uses g) (sym (file_needs_none a links ts file)) (arguments_last m) in
        let agree = subst (λ r. Agrees o.decided r) (sym (file_denotes_none a ts file)) (arguments_agree m) in
        unless_last a d.decided d.data_uses (has_value links (ResultTerm result c)) (call_demanded a links c)
        (called_last w a p result m us o.decided o.control_uses o.data_uses calls (all_demanded a links us) found last agree)

    -- what a selector rests on is control
    selected_last : (d : Decided Value) (cu du : List Use) (out : Value → Outcome Value) (go_term : Value → ValueTerm) → ((v : Value) → LastUse a (out v).decided (out v).data_uses (demanded a links (go_term v))) →
        LastUse a (after_selector (selected_with d cu du).decided (selected_with d cu du).control_uses out).decided (after_selector (selected_with d cu du).decided (selected_with d cu du).control_uses out).data_uses (demanded a links (selected_term d go_term))
    selected_last Off cu du out go_term k = tt
    selected_last (HaltAt site code) cu du out go_term k = tt
    selected_last (ErrAt site code) cu du out go_term k = tt
    selected_last (Val v) cu du out go_term k = k v

    picked_last : (p : Place) (b : Pick Value) (c : Pick ValueTerm) → PickNeeds a links b c → LastUse a (picked p.site os b).decided (picked p.site os b).data_uses (demanded a links (picked_term ts c))
    picked_last p (PickThis v) c r = tt
    picked_last p PickOff c r = tt
    picked_last p PickFault c r = tt
    picked_last p (PickInput k) (PickInput m) r = subst (λ j. LastUse a (outcome_at os k).decided (outcome_at os k).data_uses (demanded a links (term_at ts j))) r (i.at k)
    picked_last p (PickInput k) (PickThis t) r = absurd r
    picked_last p (PickInput k) PickOff r = absurd r
    picked_last p (PickInput k) PickFault r = absurd r

    picking_last : (f : Function) (p : Place) (result : ℕ) → ((v : Value) → PickNeeds a links (pick (values_in w) f p result v) (pick (terms_with w n) f p result v)) →
        LastUse a (selector_rule w f p result os).decided (selector_rule w f p result os).data_uses (demanded a links (selector_term w n f p result os ts))
    picking_last f p result r =
        let o = outcome_at os (selector_at f) in
        selected_last o.decided o.control_uses o.data_uses (λ v. picked p.site os (pick (values_in w) f p result v)) (λ v. picked_term ts (pick (terms_with w n) f p result v))
        (λ v. picked_last p (pick (values_in w) f p result v) (pick (terms_with w n) f p result v) (r v))

    effect_last : (e : Effect) → LastUse a (effect_rule e os).decided (effect_rule e os).data_uses (demanded a links (effect_term e ts))
    effect_last effect.SetLocal = i.at 1
    effect_last effect.SetGlobal = i.at 1
    effect_last effect.Print = tt
    effect_last effect.Echo = tt
    effect_last effect.Export = tt

    rule_last : (f : Function) (p : Place) (result : ℕ) → LastUse a (by_rule w f p result os).decided (by_rule w f p result os).data_uses (demanded a links (term_rule w n f p result os ts))
    rule_last (function.Module m) p result = module_last m p result
    rule_last (function.Effect e) p result = effect_last e
    rule_last function.Switch p result = picking_last function.Switch p result (λ v. switch_needs a links v)
    rule_last function.Route p result = picking_last function.Route p result (λ v. route_needs a links result v)
    rule_last function.GetLocal p result = picking_last function.GetLocal p result (λ v. get_needs w n links l (key_in p) result (link_name p v))
    rule_last function.GetGlobal p result = picking_last function.GetGlobal p result (λ v. get_needs w n links l key.Global result (link_name p v))

  -- ---- trees

  mutual
    pub tree_last : (t : Tree) → LastUse a (outcome w t).decided (outcome w t).data_uses (demanded a links (term_of w n t))
    tree_last (ConstantTree c) = tt
    tree_last (ResultTree result (TreeCall f p args)) =
        rule_last (outcomes w args) (terms_of w n args) (each_met s args)
        (record { at = at_last args; all = all_last args; all_found = (all_need w n s links l full args).found; agree = all_agree w n s l.denote full args; named = named_last args; named_found = (named_need w n s links l full args).found; named_agree = named_all_agree w n s links l full args })
        f p result

    at_last : (ts : Trees) → (k : ℕ) → LastUse a (outcome_at (outcomes w ts) k).decided (outcome_at (outcomes w ts) k).data_uses (demanded a links (term_at (terms_of w n ts) k))
    at_last NoTree k = tt
    at_last (AndTree t ts) zero = tree_last t
    at_last (AndTree t ts) (suc k) = at_last ts k

    pub all_last : (ts : Trees) → LastUse a (together (outcomes w ts)).decided (together (outcomes w ts)).data_uses (all_demanded a links (terms_of w n ts))
    all_last NoTree = tt
    all_last (AndTree t ts) =
        let o = outcome w t in
        let rest = together (outcomes w ts) in
        beside_last a o.decided rest.decided o.data_uses rest.data_uses (met s t) (demanded a links (term_of w n t)) (all_demanded a links (terms_of w n ts)) (tree_needs w n s links l full t).found (tree_last t) (all_last ts)

    named_last : (ts : Trees) → LastUse a (together (with_name (outcomes w ts))).decided (together (with_name (outcomes w ts))).data_uses (all_demanded a links (terms_of w n ts))
    named_last NoTree = tt
    named_last (AndTree t ts) =
        let o = outcome w t in
        let name = selected_with o.decided o.control_uses o.data_uses in
        let rest = together (outcomes w ts) in
        beside_last a name.decided rest.decided name.data_uses rest.data_uses [] (demanded a links (term_of w n t)) (all_demanded a links (terms_of w n ts))
        (name_finds a o.decided o.control_uses o.data_uses (met s t) (demanded a links (term_of w n t)) (tree_needs w n s links l full t).found)
        (name_last a o.decided o.control_uses o.data_uses (demanded a links (term_of w n t))) (all_last ts)
