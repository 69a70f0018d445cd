-- Where the names of Imports need nothing, a term needs some of the uses of its tree's data, in their order.
use Rattle.std.proofs.Common.{◌≡◌, ℕ, zero, suc, List, [], ◌∷◌, ◌++◌, Bool, true, false, refl, sym, ap, ◌∙◌, subst}
use Rattle.std.specs.Prelude.{Ok, Err, ◌||◌}
use Rattle.dx_base.specs.declared.function.Function.{Function}
use Rattle.dx_base.specs.declared.function.Function.TheVariants as function
use Rattle.dx_base.specs.declared.function.Module.{Module}
use Rattle.dx_base.specs.declared.function.Module.TheVariants as computing
use Rattle.dx_base.specs.declared.function.Effect.{Effect}
use Rattle.dx_base.specs.declared.function.Effect.TheVariants as effect
use Rattle.dx_macros.specs.Site.{Step}
use Rattle.dx_macros.specs.Tree.{Place, Tree, ConstantTree, ResultTree, TreeCall, Trees, NoTree, AndTree}
use Rattle.dx_objects.specs.Runs.{Values, Answer, Ran}
use Rattle.dx_links.specs.declared.key.Key.TheVariants as key
use Rattle.dx_links.specs.Denotes.{Around, own_file, file_of, denotes, all_denote}
use Rattle.dx_links.specs.Getting.{same_value, has_value}
use Rattle.dx_tags.specs.Closed.{ValueTerm, ResultTerm, CallTerm, CallOf, ValueTerms}
use Rattle.dx_cache.specs.Cached.{IsPartOf, part_none, part_keep}
use Rattle.dx_machine.specs.Machine.{Task, task_of, runs_in}
use Rattle.dx_machine.specs.Agree.{Demanded, Runs, Refuses, more_of, then_of, answered as task_answered, run_demanded, unless, demanded, call_demanded, all_demanded}
use Rattle.dx_machine.proofs.SameTerms.{value_itself}
use Rattle.dx_meaning.specs.Outcome.{Value, Use, Decided, Val, ErrAt, Off, HaltAt, Outcome}
use Rattle.dx_meaning.specs.Picking.{Pick, PickThis, PickInput, PickOff, PickFault, Shelf, link_name, key_in, pick, selector_at}
use Rattle.dx_meaning.specs.Meaning.{World, outcome, outcomes, outcome_at, together, decided_beside, data_beside, selected_with, with_name, arguments, answered, module_rule, module_outcome, after_selector, picked, values_in, selector_rule, effect_rule, by_rule, file_for}
use Rattle.dx_meaning.specs.Scan.{Sight, Scanned, Forms, scanned_at, with_file, terms_in, scan, scan_each}
use Rattle.dx_meaning.specs.Met.{Called, all_met, arguments_met, each_met, met}
use Rattle.dx_meaning.specs.Term.{Names, around, term_at, own_file_of, picked_term, selected_term, terms_with, selector_term, effect_term, term_rule, term_of, terms_of, Agrees}
use Rattle.dx_meaning.proofs.Terms.{tree_right}
use Rattle.dx_performing.specs.Meant.{IsFull, Means}
use Rattle.dx_performing.specs.Selectors.{selectors_at, told_selectors, picked_selectors, effect_selectors}
use Rattle.dx_performing.proofs.Meant.{tree_means, all_agree}
use Rattle.dx_demanded.specs.Found.{AreLinks, Finds}
use Rattle.dx_demanded.specs.Ordered.{asked, all_names, name_of, module_names, picking_names, selector_names, rule_names, names, names_each}
use Rattle.dx_demanded.specs.Used.{tasks_in}
use Rattle.dx_demanded.proofs.Ends.{file_needs_none, file_denotes_none, link_needs_none}
use Rattle.dx_demanded.proofs.Parts.{none_part, part_append, runs_append, asked_append}
use Rattle.dx_demanded.proofs.Picks.{PickNeeds, switch_needs, route_needs, get_needs}
use Rattle.dx_demanded.proofs.Seeing.{same_shelf, told_some}
use Rattle.dx_demanded.proofs.Trees.{tree_needs, all_need, named_need, named_all_agree}

-- ---- terms that need nothing

abbrev pub NeedNothing : Around → List ValueTerm → List ValueTerm → Type 0
NeedNothing a links [] = Unit {0}
NeedNothing a links (t ∷ ts) = (demanded a links t ≡ Runs []) × NeedNothing a links ts

or_behind : (b r : Bool) → r ≡ true → (b || r) ≡ true
or_behind true r e = refl
or_behind false r e = e

-- those of links
pub links_need_nothing : (a : Around) (links ts : List ValueTerm) → ((t : ValueTerm) → has_value ts t ≡ true → has_value links t ≡ true) → NeedNothing a links ts
links_need_nothing a links [] h = tt
links_need_nothing a links (t ∷ ts) h =
    (link_needs_none a links t (h t (ap (λ b. b || has_value ts t) (value_itself t))), links_need_nothing a links ts (λ u e. h u (or_behind (same_value t u) (has_value ts u) e)))

need_front : (a : Around) (links ts us : List ValueTerm) → NeedNothing a links (ts ++ us) → NeedNothing a links ts
need_front a links [] us h = tt
need_front a links (t ∷ ts) us h = (h.0, need_front a links ts us h.1)

need_behind : (a : Around) (links ts us : List ValueTerm) → NeedNothing a links (ts ++ us) → NeedNothing a links us
need_behind a links [] us h = h
need_behind a links (t ∷ ts) us h = need_behind a links ts us h.1

-- ---- what is needed, in order

-- where there is a value or an error, the tasks are some of these uses
abbrev pub InOrder : {A : Type 0} → Decided A → List Use → Demanded → Type 0
InOrder (Val v) us d = IsPartOf (runs_in (tasks_in d)) (asked us)
InOrder (ErrAt site code) us d = IsPartOf (runs_in (tasks_in d)) (asked us)
InOrder Off us d = Unit {0}
InOrder (HaltAt site code) us d = Unit {0}

more_part : (us vs : List Use) (ts : List Task) (d : Demanded) → IsPartOf (runs_in ts) (asked us) → IsPartOf (runs_in (tasks_in d)) (asked vs) → IsPartOf (runs_in (tasks_in (more_of ts d))) (asked (us ++ vs))
more_part us vs ts (Runs rs) p q = rw (runs_append ts rs, asked_append us vs) (part_append (runs_in rs) (asked vs) p q)
more_part us vs ts (Refuses rs c code) p q = rw (runs_append ts rs, asked_append us vs) (part_append (runs_in rs) (asked vs) p q)

beside_order : (a : Around) (d : Decided Value) (e : Decided Values) (du others : List Use) (calls : List Called) (g h : Demanded) → Finds a d calls g → InOrder d du g → InOrder e others h → InOrder (decided_beside d e) (data_beside d e du others) (then_of g h)
beside_order a Off e du others calls g h f p q = tt
beside_order a (HaltAt s c) e du others calls g h f p q = tt
beside_order a (ErrAt s c) Off du others calls g h f p q = tt
beside_order a (ErrAt s c) (HaltAt s' c') du others calls g h f p q = tt
beside_order a (ErrAt s c) (ErrAt s' c') du others calls (Runs ts) h f p q = absurd f
beside_order a (ErrAt s c) (ErrAt s' c') du others calls (Refuses ts r code) h f p q = p
beside_order a (ErrAt s c) (Val vs) du others calls (Runs ts) h f p q = absurd f
beside_order a (ErrAt s c) (Val vs) du others calls (Refuses ts r code) h f p q = p
beside_order a (Val v) Off du others calls g h f p q = tt
beside_order a (Val v) (HaltAt s c) du others calls g h f p q = tt
beside_order a (Val v) (ErrAt s c) du others calls (Refuses ts r code) h f p q = absurd f
beside_order a (Val v) (ErrAt s c) du others calls (Runs ts) h f p q = more_part du others ts h p q
beside_order a (Val v) (Val vs) du others calls (Refuses ts r code) h f p q = absurd f
beside_order a (Val v) (Val vs) du others calls (Runs ts) h f p q = more_part du others ts h p q

-- ---- a call of a module

answered_part : (c : CallTerm) (task : Task) (r : Answer) (rs : List Ran) → IsPartOf (task.run ∷ []) rs → IsPartOf (runs_in (tasks_in (task_answered c task r))) rs
answered_part c task (Ok results) rs p = p
answered_part c task (Err code) rs p = p

run_part : (a : Around) (site : List Step) (m : Module) (ts : ValueTerms) (values : Values) (all : Answer) → all ≡ Ok values → IsPartOf (runs_in (tasks_in (run_demanded a m ts all))) (asked (record { site = site; called = m; inputs = values } ∷ []))
run_part a site m ts values (Err code) e = none_part (asked (record { site = site; called = m; inputs = values } ∷ []))
run_part a site m ts values (Ok vs) e =
    let same : vs ≡ values = cc in
    answered_part (CallOf m ts) (task_of m ts vs) (a.answer m vs (file_of a m vs (own_file ts))) (asked (record { site = site; called = m; inputs = values } ∷ []))
    (subst (λ us. IsPartOf ((task_of m ts vs).run ∷ []) (asked (record { site = site; called = m; inputs = us } ∷ []))) same (part_keep part_none))

answered_order : (site : List Step) (result : ℕ) (b : Answer) (us : List Use) (d : Demanded) → IsPartOf (runs_in (tasks_in d)) (asked us) → InOrder (answered site result b) us d
answered_order site result (Ok values) us d h = h
answered_order site result (Err code) us d h = h

called_order : (w : World) (a : Around) (p : Place) (result : ℕ) (m : Module) (ts : ValueTerms) (d : Decided Values) (cu du : List Use) (calls : List Called) (g : Demanded) (all : Answer) → Finds a d calls g → InOrder d du g → Agrees d all →
    InOrder (module_rule w m p.site result d cu du).decided (module_rule w m p.site result d cu du).data_uses (then_of g (run_demanded a m ts all))
called_order w a p result m ts Off cu du calls g all f u h = tt
called_order w a p result m ts (HaltAt s c) cu du calls g all f u h = tt
called_order w a p result m ts (ErrAt s c) cu du calls (Runs us) all f u h = absurd f
called_order w a p result m ts (ErrAt s c) cu du calls (Refuses us r code) all f u h = u
called_order w a p result m ts (Val values) cu du calls (Refuses us r code) all f u h = absurd f
called_order w a p result m ts (Val values) cu du calls (Runs us) all f u h =
    let own : Use = record { site = p.site; called = m; inputs = values } in
    answered_order p.site result (w.answer m values (file_for w m values)) (du ++ own ∷ []) (more_of us (run_demanded a m ts all))
    (more_part du (own ∷ []) us (run_demanded a m ts all) u (run_part a p.site m ts values all h))

unless_order : (d : Decided Value) (us : List Use) (b : Bool) (g : Demanded) → InOrder d us g → InOrder d us (unless b g)
unless_order d us false g h = h
unless_order Off us true g h = tt
unless_order (HaltAt s c) us true g h = tt
unless_order (ErrAt s c) us true g h = none_part (asked us)
unless_order (Val v) us true g h = none_part (asked us)

-- ---- rules

-- an input of a call
pub record Orders (a : Around) (links : List ValueTerm) (o : Outcome Value) (t : ValueTerm) (x : Scanned ValueTerm) (own : List ValueTerm) : Type 0 where
  pub means : Means a o.decided t x
  pub agrees : Agrees o.decided (denotes a t)
  pub order : NeedNothing a links own → InOrder o.decided o.data_uses (demanded a links t)

pub record Inputs (a : Around) (links : List ValueTerm) (s : Sight) (os : List (Outcome Value)) (ts : ValueTerms) (xs : List (Scanned ValueTerm)) (each : List (List ValueTerm)) (mets : List (List Called)) : Type 0 where
  pub at : (k : ℕ) → Orders a links (outcome_at os k) (term_at ts k) (scanned_at xs k) (selectors_at each k)
  pub all : NeedNothing a links (all_names each) → InOrder (together os).decided (together os).data_uses (all_demanded a links ts)
  pub all_found : Finds a (together os).decided (all_met mets) (all_demanded a links ts)
  pub agree : Agrees (together os).decided (all_denote a ts)
  pub named : NeedNothing a links (module_names computing.Import xs each) → InOrder (together (with_name os)).decided (together (with_name os)).data_uses (all_demanded a links ts)
  pub named_found : Finds a (together (with_name os)).decided (all_met (arguments_met computing.Import mets)) (all_demanded a links ts)
  pub named_agree : Agrees (together (with_name os)).decided (all_denote a ts)

module _ (w : World) (n : Names) (s : Sight) (links : List ValueTerm) (l : AreLinks w n links) (full : IsFull w n s) where
  abbrev a : Around
  a = around w n

  -- what a selector with a value leads to needs nothing
  told_needs : (v : Value) (t : ValueTerm) (x : Scanned ValueTerm) (go : Value → List ValueTerm) → x ≡ Forms t → denotes a t ≡ Ok v → NeedNothing a links (picking_names s x go) → NeedNothing a links (go v)
  told_needs v t x go e q h =
      let formed = subst (λ y. NeedNothing a links (picking_names s y go)) e h in
      subst (λ o. NeedNothing a links (told_selectors o go)) (told_some (s.told t) (denotes a t) v (full.told t) q) formed

  nothing_more : (us : List Use) (e : Decided Values) (g h : Demanded) → g ≡ Runs [] → InOrder e us h → InOrder e us (then_of g h)
  nothing_more us e g h q p = subst (λ y. InOrder e us (then_of y h)) (sym q) (same e h p)
    where
      same : (e : Decided Values) (h : Demanded) → InOrder e us h → InOrder e us (more_of [] h)
      same Off h p = tt
      same (HaltAt site code) h p = tt
      same (Val vs) (Runs ts) p = p
      same (Val vs) (Refuses ts c code) p = p
      same (ErrAt site code) (Runs ts) p = p
      same (ErrAt site code) (Refuses ts c code') p = p

  -- the name of an Import, and its other arguments
  named_needs : (t : ValueTerm) (x : Scanned ValueTerm) (rest : List ValueTerm) → x ≡ Forms t → NeedNothing a links (name_of x ++ rest) → NeedNothing a links (t ∷ rest)
  named_needs t x rest e h = subst (λ y. NeedNothing a links (name_of y ++ rest)) e h

  named_order : (d : Decided Value) (cu du : List Use) (e : Decided Values) (others : List Use) (t : ValueTerm) (x : Scanned ValueTerm) (rest : List ValueTerm) (g h : Demanded) → g ≡ demanded a links t → Means a d t x → NeedNothing a links (name_of x ++ rest) → (NeedNothing a links rest → InOrder e others h) →
      InOrder (decided_beside (selected_with d cu du).decided e) (data_beside (selected_with d cu du).decided e (selected_with d cu du).data_uses others) (then_of g h)
  named_order Off cu du e others t x rest g h i m k p = tt
  named_order (HaltAt site code) cu du e others t x rest g h i m k p = tt
  named_order (ErrAt site code) cu du e others t x rest g h i m k p = tt
  named_order (Val v) cu du Off others t x rest g h i m k p = tt
  named_order (Val v) cu du (HaltAt site code) others t x rest g h i m k p = tt
  named_order (Val v) cu du (ErrAt site code) others t x rest g h i m k p = let needs = named_needs t x rest m k in nothing_more others (ErrAt site code) g h (i ∙ needs.0) (p needs.1)
  named_order (Val v) cu du (Val vs) others t x rest g h i m k p = let needs = named_needs t x rest m k in nothing_more others (Val (v ∷ vs)) g h (i ∙ needs.0) (p needs.1)

  module _ (os : List (Outcome Value)) (ts : ValueTerms) (xs : List (Scanned ValueTerm)) (each : List (List ValueTerm)) (mets : List (List Called)) (i : Inputs (around w n) links s os ts xs each mets) where
    arguments_order : (m : Module) → NeedNothing a links (module_names m xs each) → InOrder (together (arguments m os)).decided (together (arguments m os)).data_uses (all_demanded a links ts)
    arguments_order computing.Import = i.named
    arguments_order m = i.all

    arguments_found : (m : Module) → Finds a (together (arguments m os)).decided (all_met (arguments_met m mets)) (all_demanded a links ts)
    arguments_found computing.Import = i.named_found
    arguments_found m = i.all_found

    arguments_agree : (m : Module) → Agrees (together (arguments m os)).decided (all_denote a ts)
    arguments_agree computing.Import = i.named_agree
    arguments_agree m = i.agree

    module_order : (m : Module) (p : Place) (result : ℕ) → NeedNothing a links (module_names m xs each) → InOrder (by_rule w (function.Module m) p result os).decided (by_rule w (function.Module m) p result os).data_uses (demanded a links (term_rule w n (function.Module m) p result os ts))
    module_order m p result h =
        let file = own_file_of w m os in
        let us = with_file ts file in
        let c = CallOf m us in
        let o = together (arguments m os) in
        let d = module_outcome w m p.site result o in
        let calls = all_met (arguments_met m mets) in
        let found = subst (λ g. Finds a o.decided calls g) (sym (file_needs_none a links ts file)) (arguments_found m) in
        let order = subst (λ g. InOrder o.decided o.data_uses g) (sym (file_needs_none a links ts file)) (arguments_order m h) in
        let agree = subst (λ r. Agrees o.decided r) (sym (file_denotes_none a ts file)) (arguments_agree m) in
        unless_order d.decided d.data_uses (has_value links (ResultTerm result c)) (call_demanded a links c)
        (called_order w a p result m us o.decided o.control_uses o.data_uses calls (all_demanded a links us) (all_denote a us) found order agree)

    selected_order : (d : Decided Value) (cu du : List Use) (t : ValueTerm) (x : Scanned ValueTerm) (out : Value → Outcome Value) (go_term : Value → ValueTerm) (go : Value → List ValueTerm) → Means a d t x → Agrees d (denotes a t) → NeedNothing a links (picking_names s x go) →
        ((v : Value) → NeedNothing a links (go v) → InOrder (out v).decided (out v).data_uses (demanded a links (go_term v))) →
        InOrder (after_selector (selected_with d cu du).decided (selected_with d cu du).control_uses out).decided (after_selector (selected_with d cu du).decided (selected_with d cu du).control_uses out).data_uses (demanded a links (selected_term d go_term))
    selected_order Off cu du t x out go_term go m q h k = tt
    selected_order (HaltAt site code) cu du t x out go_term go m q h k = tt
    selected_order (ErrAt site code) cu du t x out go_term go m q h k = tt
    selected_order (Val v) cu du t x out go_term go m q h k = k v (told_needs v t x go m q h)

    picked_order : (p : Place) (b : Pick Value) (c : Pick ValueTerm) → PickNeeds a links b c → NeedNothing a links (picked_selectors each c) → InOrder (picked p.site os b).decided (picked p.site os b).data_uses (demanded a links (picked_term ts c))
    picked_order p (PickThis v) (PickThis t) r h = subst (λ g. InOrder (Val v) [] g) (sym r) part_none
    picked_order p (PickInput k) (PickInput m) r h = subst (λ j. NeedNothing a links (selectors_at each j) → InOrder (outcome_at os k).decided (outcome_at os k).data_uses (demanded a links (term_at ts j))) r (i.at k).order h
    picked_order p PickOff c r h = tt
    picked_order p PickFault c r h = tt
    picked_order p (PickThis v) (PickInput m) r h = absurd r
    picked_order p (PickThis v) PickOff r h = absurd r
    picked_order p (PickThis v) PickFault r h = absurd r
    picked_order p (PickInput k) (PickThis t) r h = absurd r
    picked_order p (PickInput k) PickOff r h = absurd r
    picked_order p (PickInput k) PickFault r h = absurd r

    shelf_order : (p : Place) (b : Pick Value) (c : Shelf ValueTerm → Pick ValueTerm) → PickNeeds a links b (c (terms_with w n)) → NeedNothing a links (picked_selectors each (c (terms_in s))) → InOrder (picked p.site os b).decided (picked p.site os b).data_uses (demanded a links (picked_term ts (c (terms_with w n))))
    shelf_order p b c r h = picked_order p b (c (terms_with w n)) r (subst (λ shelf. NeedNothing a links (picked_selectors each (c shelf))) (same_shelf w n s full) h)

    picking_order : (f : Function) (p : Place) (result : ℕ) → ((v : Value) → PickNeeds a links (pick (values_in w) f p result v) (pick (terms_with w n) f p result v)) → NeedNothing a links (selector_names s f p result xs each) →
        InOrder (selector_rule w f p result os).decided (selector_rule w f p result os).data_uses (demanded a links (selector_term w n f p result os ts))
    picking_order f p result r h =
        let o = outcome_at os (selector_at f) in
        let at = i.at (selector_at f) in
        selected_order o.decided o.control_uses o.data_uses (term_at ts (selector_at f)) (scanned_at xs (selector_at f))
        (λ v. picked p.site os (pick (values_in w) f p result v)) (λ v. picked_term ts (pick (terms_with w n) f p result v)) (λ v. picked_selectors each (pick (terms_in s) f p result v)) at.means at.agrees h
        (λ v. shelf_order p (pick (values_in w) f p result v) (λ shelf. pick shelf f p result v) (r v))

    effect_order : (e : Effect) → NeedNothing a links (effect_selectors e each) → InOrder (effect_rule e os).decided (effect_rule e os).data_uses (demanded a links (effect_term e ts))
    effect_order effect.SetLocal h = (i.at 1).order h
    effect_order effect.SetGlobal h = (i.at 1).order h
    effect_order effect.Print h = part_none
    effect_order effect.Echo h = part_none
    effect_order effect.Export h = part_none

    rule_order : (f : Function) (p : Place) (result : ℕ) → NeedNothing a links (rule_names s f p result xs each) → InOrder (by_rule w f p result os).decided (by_rule w f p result os).data_uses (demanded a links (term_rule w n f p result os ts))
    rule_order (function.Module m) p result h = module_order m p result h
    rule_order (function.Effect e) p result h = effect_order e h
    rule_order function.Switch p result h = picking_order function.Switch p result (λ v. switch_needs a links v) h
    rule_order function.Route p result h = picking_order function.Route p result (λ v. route_needs a links result v) h
    rule_order function.GetLocal p result h = picking_order function.GetLocal p result (λ v. get_needs w n links l (key_in p) result (link_name p v)) h
    rule_order function.GetGlobal p result h = picking_order function.GetGlobal p result (λ v. get_needs w n links l key.Global result (link_name p v)) h

  -- ---- trees

  mutual
    pub tree_order : (t : Tree) → NeedNothing a links (names s t) → InOrder (outcome w t).decided (outcome w t).data_uses (demanded a links (term_of w n t))
    tree_order (ConstantTree c) h = part_none
    tree_order (ResultTree result (TreeCall f p args)) h =
        rule_order (outcomes w args) (terms_of w n args) (scan_each s args) (names_each s args) (each_met s args)
        (record { at = at_order args; all = all_order args; all_found = (all_need w n s links l full args).found; agree = all_agree w n s l.denote full args; named = name_order args; named_found = (named_need w n s links l full args).found; named_agree = named_all_agree w n s links l full args })
        f p result h

    at_order : (ts : Trees) → (k : ℕ) → Orders a links (outcome_at (outcomes w ts) k) (term_at (terms_of w n ts) k) (scanned_at (scan_each s ts) k) (selectors_at (names_each s ts) k)
    at_order NoTree k = record { means = refl; agrees = refl; order = λ h. part_none }
    at_order (AndTree t ts) zero = record { means = tree_means w n s l.denote full t; agrees = (tree_right w n l.denote t).0; order = tree_order t }
    at_order (AndTree t ts) (suc k) = at_order ts k

    pub all_order : (ts : Trees) → NeedNothing a links (all_names (names_each s ts)) → InOrder (together (outcomes w ts)).decided (together (outcomes w ts)).data_uses (all_demanded a links (terms_of w n ts))
    all_order NoTree h = part_none
    all_order (AndTree t ts) h =
        beside_order a (outcome w t).decided (together (outcomes w ts)).decided (outcome w t).data_uses (together (outcomes w ts)).data_uses (met s t) (demanded a links (term_of w n t)) (all_demanded a links (terms_of w n ts))
        (tree_needs w n s links l full t).found (tree_order t (need_front a links (names s t) (all_names (names_each s ts)) h)) (all_order ts (need_behind a links (names s t) (all_names (names_each s ts)) h))

    name_order : (ts : Trees) → NeedNothing a links (module_names computing.Import (scan_each s ts) (names_each s ts)) → InOrder (together (with_name (outcomes w ts))).decided (together (with_name (outcomes w ts))).data_uses (all_demanded a links (terms_of w n ts))
    name_order NoTree h = part_none
    name_order (AndTree t ts) h =
        let o = outcome w t in
        named_order o.decided o.control_uses o.data_uses (together (outcomes w ts)).decided (together (outcomes w ts)).data_uses (term_of w n t) (scan s t) (all_names (names_each s ts)) (demanded a links (term_of w n t)) (all_demanded a links (terms_of w n ts)) refl
        (tree_means w n s l.denote full t) h (all_order ts)
