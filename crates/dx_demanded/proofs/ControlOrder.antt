-- Getting the selectors that looking meets runs some of the uses of control, in their order.
use Rattle.std.proofs.Common.{◌≡◌, ℕ, zero, suc, List, [], ◌∷◌, ◌++◌, Option, Some, None, refl, sym, ap, ◌∙◌, subst, append_assoc, append-nil}
use Rattle.dx_base.specs.declared.code.Code.{Code}
use Rattle.dx_base.specs.declared.function.Function.{Function}
use Rattle.dx_base.specs.declared.function.Function.TheVariants as function
use Rattle.dx_base.specs.declared.function.Module.{Module}
use Rattle.dx_base.specs.declared.function.Module.TheVariants as computing
use Rattle.dx_base.specs.declared.function.Effect.{Effect}
use Rattle.dx_base.specs.declared.function.Effect.TheVariants as effect
use Rattle.dx_macros.specs.Site.{Step}
use Rattle.dx_macros.specs.Tree.{Place, Tree, ConstantTree, ResultTree, TreeCall, Trees, NoTree, AndTree}
use Rattle.dx_objects.specs.Runs.{Values}
use Rattle.dx_links.specs.declared.key.Key.TheVariants as key
use Rattle.dx_links.specs.Denotes.{Around, denotes}
use Rattle.dx_tags.specs.Closed.{ValueTerm, ValueTerms}
use Rattle.dx_cache.specs.Cached.{IsPartOf}
use Rattle.dx_machine.specs.Machine.{FormedCall, Frame, State, Got, Went, Stopped, and_then, state_at, runs_in, get, get_all}
use Rattle.dx_machine.specs.Sound.{HaveAttributes, IsSound}
use Rattle.dx_machine.specs.Agree.{demanded, all_demanded}
use Rattle.dx_machine.proofs.Agreeing.{getting_agrees}
use Rattle.dx_machine.proofs.Keeping.{getting_all_keeps}
use Rattle.dx_meaning.specs.Outcome.{Value, Use, Decided, Val, ErrAt, Off, HaltAt, Outcome}
use Rattle.dx_meaning.specs.Picking.{Pick, PickThis, PickInput, PickOff, PickFault, Shelf, link_name, key_in, pick, selector_at}
use Rattle.dx_meaning.specs.Meaning.{World, outcome, outcomes, outcome_at, together, control_beside, with_name, picked, values_in, selector_rule, effect_rule, by_rule}
use Rattle.dx_meaning.specs.Scan.{Sight, Scanned, Forms, Ends, null_term, scanned_at, terms_in, scan, scan_each, all_scanned}
use Rattle.dx_meaning.specs.Term.{Names, around, term_at, terms_with, term_of, terms_of, Agrees}
use Rattle.dx_meaning.proofs.Terms.{tree_right}
use Rattle.dx_performing.specs.Course.{value_or_none, as_terms}
use Rattle.dx_performing.specs.Meant.{IsFull, IsHalted, Means}
use Rattle.dx_performing.specs.Selectors.{selectors_at, selectors_beside, all_selectors, told_selectors, got_selectors, picked_selectors, picking_selectors, module_selectors, effect_selectors, rule_selectors, selectors, selectors_each}
use Rattle.dx_performing.proofs.Meant.{tree_means, all_means}
use Rattle.dx_demanded.specs.Found.{AreLinks}
use Rattle.dx_demanded.specs.Ordered.{asked, RanPart, AreReady, all_names, names, names_each}
use Rattle.dx_demanded.specs.Used.{tasks_in}
use Rattle.dx_demanded.proofs.Control.{after_control, after_same, named_same, module_same}
use Rattle.dx_demanded.proofs.DataOrder.{NeedNothing, links_need_nothing, InOrder, tree_order, all_order}
use Rattle.dx_demanded.proofs.Got.{getting_all_agrees}
use Rattle.dx_demanded.proofs.NamesReady.{names_ready, all_names_ready}
use Rattle.dx_demanded.proofs.Parts.{asked_append, ran_none, ran_front, then_ran, got_part}
use Rattle.dx_demanded.proofs.Picks.{PickNeeds, switch_needs, route_needs, get_needs}
use Rattle.dx_demanded.proofs.Seeing.{same_shelf}
use Rattle.dx_demanded.proofs.Ready.{with_links, all_got_ready, get_alike, all_alike, links_with, behind_links}

module _ (k : Frame) where
  -- these terms, got in any sound state, run some of these
  abbrev pub Gets : List Use → List ValueTerm → Type 0
  Gets us ts = (s : State) → IsSound k.around k.budget s → RanPart s (asked us) (state_at (get_all k (as_terms ts) s))

  -- a term so, where some are ready
  abbrev pub GetsAfter : List ValueTerm → List Use → ValueTerm → Type 0
  GetsAfter own us t = (s : State) → IsSound k.around k.budget s → AreReady k s own → RanPart s (asked us) (state_at (get k t s))

  -- where there is a value or an error
  abbrev pub GetsData : Decided Value → List ValueTerm → List Use → ValueTerm → Type 0
  GetsData (Val v) own us t = GetsAfter own us t
  GetsData (ErrAt site code) own us t = GetsAfter own us t
  GetsData Off own us t = Unit {0}
  GetsData (HaltAt site code) own us t = Unit {0}

  -- all arguments so
  abbrev pub AllRan : Decided Values → List Use → ValueTerms → State → Type 0
  AllRan (Val vs) us ts st = RanPart st (asked us) (state_at (get_all k ts st))
  AllRan (ErrAt site code) us ts st = RanPart st (asked us) (state_at (get_all k ts st))
  AllRan Off us ts st = Unit {0}
  AllRan (HaltAt site code) us ts st = Unit {0}

  then_assoc : (g : Got) (f h : State → Got) → and_then (and_then g f) h ≡ and_then g (λ s. and_then (f s) h)
  then_assoc (Went s) f h = refl
  then_assoc (Stopped c code s) f h = refl

  pub gets_append : (ts us : List ValueTerm) (s : State) → get_all k (as_terms (ts ++ us)) s ≡ and_then (get_all k (as_terms ts) s) (get_all k (as_terms us))
  gets_append [] us s = refl
  gets_append (t ∷ ts) us s = ap (and_then (get k t s)) (λ i s1. gets_append ts us s1 i) ∙ sym (then_assoc (get k t s) (get_all k (as_terms ts)) (get_all k (as_terms us)))

  gets_none : (us : List Use) → Gets us []
  gets_none us s i = ran_none s (asked us)

  gets_front : (us vs : List Use) (ts : List ValueTerm) → Gets us ts → Gets (us ++ vs) ts
  gets_front us vs ts h s i = subst (λ rs. RanPart s rs (state_at (get_all k (as_terms ts) s))) (sym (asked_append us vs)) (ran_front s (state_at (get_all k (as_terms ts) s)) (asked us) (asked vs) (h s i))

  module _ (attributes : HaveAttributes k.formed) where
    still_sound : (ts : List ValueTerm) (s s1 : State) → IsSound k.around k.budget s → get_all k (as_terms ts) s ≡ Went s1 → IsSound k.around k.budget s1
    still_sound ts s s1 i e = subst (λ g. IsSound k.around k.budget (state_at g)) e (getting_all_keeps k (as_terms ts) s attributes i)

    gets_both : (us vs : List Use) (ts rs : List ValueTerm) → Gets us ts → Gets vs rs → Gets (us ++ vs) (ts ++ rs)
    gets_both us vs ts rs p q s i =
        subst (λ g. RanPart s (asked (us ++ vs)) (state_at g)) (sym (gets_append ts rs s))
        (subst (λ all. RanPart s all (state_at (and_then (get_all k (as_terms ts) s) (get_all k (as_terms rs))))) (sym (asked_append us vs))
        (then_ran s (asked us) (asked vs) (get_all k (as_terms ts) s) (get_all k (as_terms rs)) (p s i) (λ s1 e. q s1 (still_sound ts s s1 i e))))

    -- a term behind those that it needs
    and_then_went : (g : Got) → and_then g (λ s1. Went s1) ≡ g
    and_then_went (Went s1) = refl
    and_then_went (Stopped c code s1) = refl

    gets_one : (us vs : List Use) (own : List ValueTerm) (t : ValueTerm) → Gets us own → GetsAfter own vs t → Gets (us ++ vs) (own ++ t ∷ [])
    gets_one us vs own t p q s i =
        subst (λ g. RanPart s (asked (us ++ vs)) (state_at g)) (sym (gets_append own (t ∷ []) s))
        (subst (λ all. RanPart s all (state_at (and_then (get_all k (as_terms own) s) (get_all k (as_terms (t ∷ [])))))) (sym (asked_append us vs))
        (then_ran s (asked us) (asked vs) (get_all k (as_terms own) s) (get_all k (as_terms (t ∷ []))) (p s i)
        (λ s1 e. subst (λ g. RanPart s1 (asked vs) (state_at g)) (sym (and_then_went (get k t s1))) (q s1 (still_sound own s s1 i e) (all_got_ready k own s s1 e)))))

    gets_chosen : (us vs ws : List Use) (own : List ValueTerm) (t : ValueTerm) (rest : List ValueTerm) → Gets us own → GetsAfter own vs t → Gets ws rest → Gets ((us ++ vs) ++ ws) (own ++ t ∷ rest)
    gets_chosen us vs ws own t rest p q h = subst (Gets ((us ++ vs) ++ ws)) (append_assoc own (t ∷ []) rest) (gets_both (us ++ vs) ws (own ++ t ∷ []) rest (gets_one us vs own t p q) h)

    -- ---- the arguments of a call

    halted_gets : (a : Around) (site : List Step) (code : Code) (cu : List Use) (x : Scanned ValueTerm) (own rest : List ValueTerm) → IsHalted a site code x → Gets cu own → Gets cu (selectors_beside x own rest)
    halted_gets a site code cu (Forms t) own rest h p = absurd h
    halted_gets a site code cu (Ends e) own rest h p = p

    beside_gets : (a : Around) (d : Decided Value) (cu more : List Use) (t : ValueTerm) (x : Scanned ValueTerm) (own rest : List ValueTerm) → Means a d t x → Gets cu own → Gets more rest → Gets (control_beside d cu more) (selectors_beside x own rest)
    beside_gets a Off cu more t x own rest h p q = subst (λ y. Gets cu (selectors_beside y own rest)) (sym h) p
    beside_gets a (HaltAt site code) cu more t x own rest h p q = halted_gets a site code cu x own rest h p
    beside_gets a (ErrAt site code) cu more t x own rest h p q = subst (λ y. Gets (cu ++ more) (selectors_beside y own rest)) (sym h) (gets_both cu more own rest p q)
    beside_gets a (Val v) cu more t x own rest h p q = subst (λ y. Gets (cu ++ more) (selectors_beside y own rest)) (sym h) (gets_both cu more own rest p q)

    -- ---- a call that looks at a selector

    halted_got : (a : Around) (s : Sight) (site : List Step) (code : Code) (cu : List Use) (x : Scanned ValueTerm) (own : List ValueTerm) (go : Value → List ValueTerm) → IsHalted a site code x → Gets cu own → Gets cu (own ++ got_selectors s x go)
    halted_got a s site code cu (Forms t) own go h p = absurd h
    halted_got a s site code cu (Ends e) own go h p = subst (Gets cu) (sym (append-nil own)) p

    selected_gets : (a : Around) (s : Sight) → ((u : ValueTerm) → s.told u ≡ value_or_none (denotes a u)) → (d : Decided Value) (cu du : List Use) (t : ValueTerm) (x : Scanned ValueTerm) (own : List ValueTerm) (more : Value → List Use) (go : Value → List ValueTerm) → Means a d t x → Agrees d (denotes a t) →
        GetsData d own du t → Gets cu own → ((v : Value) → Gets (more v) (go v)) → Gets (after_control d cu du more) (own ++ got_selectors s x go)
    selected_gets a s told Off cu du t x own more go h g u p q = subst (λ y. Gets cu (own ++ got_selectors s y go)) (sym h) (subst (Gets cu) (sym (append-nil own)) p)
    selected_gets a s told (HaltAt site code) cu du t x own more go h g u p q = halted_got a s site code cu x own go h p
    selected_gets a s told (ErrAt site code) cu du t x own more go h g u p q =
        subst (λ y. Gets (cu ++ du) (own ++ got_selectors s y go)) (sym h)
        (subst (λ o. Gets (cu ++ du) (own ++ t ∷ told_selectors o go)) (sym (told t ∙ ap value_or_none g)) (gets_one cu du own t p u))
    selected_gets a s told (Val v) cu du t x own more go h g u p q =
        subst (λ y. Gets ((cu ++ du) ++ more v) (own ++ got_selectors s y go)) (sym h)
        (subst (λ o. Gets ((cu ++ du) ++ more v) (own ++ t ∷ told_selectors o go)) (sym (told t ∙ ap value_or_none g)) (gets_chosen cu du (more v) own t (go v) p u (q v)))

-- an input of a call
pub record Looks (k : Frame) (o : Outcome Value) (t : ValueTerm) (x : Scanned ValueTerm) (own : List ValueTerm) : Type 0 where
  pub means : Means k.around o.decided t x
  pub agrees : Agrees o.decided (denotes k.around t)
  pub data_got : GetsData k o.decided own o.data_uses t
  pub own_got : Gets k o.control_uses own

pub record Inputs (k : Frame) (s : Sight) (os : List (Outcome Value)) (ts : ValueTerms) (xs : List (Scanned ValueTerm)) (each : List (List ValueTerm)) : Type 0 where
  pub at : (m : ℕ) → Looks k (outcome_at os m) (term_at ts m) (scanned_at xs m) (selectors_at each m)
  pub all : Gets k (together os).control_uses (all_selectors xs each)
  pub named : Gets k (together (with_name os)).control_uses (module_selectors s computing.Import xs each)

abbrev pub frame : World → Names → List ValueTerm → List FormedCall → ℕ → Frame
frame w n links formed budget = record { around = around w n; links = links; formed = formed; budget = budget }

module _ (w : World) (n : Names) (s : Sight) (links : List ValueTerm) (l : AreLinks w n links) (full : IsFull w n s) (formed : List FormedCall) (attributes : HaveAttributes formed) (budget : ℕ) where
  abbrev a : Around
  a = around w n

  abbrev k : Frame
  k = frame w n links formed budget

  -- ---- data, where the names of Imports are ready

  order_ran : (own : List ValueTerm) (us : List Use) (t : ValueTerm) (st : State) → IsSound a budget st → AreReady k st own → IsPartOf (runs_in (tasks_in (demanded a (links ++ own) t))) (asked us) → RanPart st (asked us) (state_at (get k t st))
  order_ran own us t st i r p =
      subst (λ g. RanPart st (asked us) (state_at g)) (get_alike k own t st r)
      (got_part st (demanded a (links ++ own) t) (get (with_links k own) t st) (asked us) (getting_agrees (with_links k own) t st attributes i) p)

  by_order : (d : Decided Value) (own : List ValueTerm) (us : List Use) (t : ValueTerm) → ((st : State) → IsSound a budget st → AreReady k st own → InOrder d us (demanded a (links ++ own) t)) → GetsData k d own us t
  by_order Off own us t f = tt
  by_order (HaltAt site code) own us t f = tt
  by_order (ErrAt site code) own us t f = λ st i r. order_ran own us t st i r (f st i r)
  by_order (Val v) own us t f = λ st i r. order_ran own us t st i r (f st i r)

  own_needs_nothing : (own : List ValueTerm) → NeedNothing a (links ++ own) own
  own_needs_nothing own = links_need_nothing a (links ++ own) own (λ u e. behind_links links own u e)

  pub named_gets : (t : Tree) → GetsData k (outcome w t).decided (names s t) (outcome w t).data_uses (term_of w n t)
  named_gets t = by_order (outcome w t).decided (names s t) (outcome w t).data_uses (term_of w n t) (λ st i r. tree_order w n s (links ++ names s t) (links_with w n k (names s t) st refl l i r) full t (own_needs_nothing (names s t)))

  -- and so where its selectors are ready
  by_selectors : (d : Decided Value) (own its : List ValueTerm) (us : List Use) (t : ValueTerm) (x : Scanned ValueTerm) → Means a d t x → ((st : State) (u : ValueTerm) → x ≡ Forms u → AreReady k st own → AreReady k st its) → GetsData k d its us t → GetsData k d own us t
  by_selectors Off own its us t x m f g = tt
  by_selectors (HaltAt site code) own its us t x m f g = tt
  by_selectors (ErrAt site code) own its us t x m f g = λ st i r. g st i (f st t m r)
  by_selectors (Val v) own its us t x m f g = λ st i r. g st i (f st t m r)

  data_gets : (t : Tree) → GetsData k (outcome w t).decided (selectors s t) (outcome w t).data_uses (term_of w n t)
  data_gets t = by_selectors (outcome w t).decided (selectors s t) (names s t) (outcome w t).data_uses (term_of w n t) (scan s t) (tree_means w n s l.denote full t) (λ st u e r. names_ready k st s t u e r) (named_gets t)

  all_order_ran : (own : List ValueTerm) (us : List Use) (ts : ValueTerms) (st : State) → IsSound a budget st → AreReady k st own → IsPartOf (runs_in (tasks_in (all_demanded a (links ++ own) ts))) (asked us) → RanPart st (asked us) (state_at (get_all k ts st))
  all_order_ran own us ts st i r p =
      subst (λ g. RanPart st (asked us) (state_at g)) (all_alike k own ts st r)
      (got_part st (all_demanded a (links ++ own) ts) (get_all (with_links k own) ts st) (asked us) (getting_all_agrees (with_links k own) ts st attributes i) p)

  by_all_order : (d : Decided Values) (its : List ValueTerm) (us : List Use) (ts : ValueTerms) (x : Scanned ValueTerms) (st : State) → IsSound a budget st → Means a d ts x → ((vs : ValueTerms) → x ≡ Forms vs → AreReady k st its) → (AreReady k st its → InOrder d us (all_demanded a (links ++ its) ts)) → AllRan k d us ts st
  by_all_order Off its us ts x st i m f g = tt
  by_all_order (HaltAt site code) its us ts x st i m f g = tt
  by_all_order (ErrAt site code) its us ts x st i m f g = let r = f ts m in all_order_ran its us ts st i r (g r)
  by_all_order (Val vs) its us ts x st i m f g = let r = f ts m in all_order_ran its us ts st i r (g r)

  pub named_all_ran : (ts : Trees) (st : State) → IsSound a budget st → AreReady k st (all_names (names_each s ts)) → AllRan k (together (outcomes w ts)).decided (together (outcomes w ts)).data_uses (terms_of w n ts) st
  named_all_ran ts st i r =
      let its = all_names (names_each s ts) in
      by_all_order (together (outcomes w ts)).decided its (together (outcomes w ts)).data_uses (terms_of w n ts) (all_scanned (scan_each s ts)) st i (all_means w n s l.denote full ts) (λ vs e. r)
      (λ q. all_order w n s (links ++ its) (links_with w n k its st refl l i q) full ts (own_needs_nothing its))

  pub all_data_ran : (ts : Trees) (st : State) → IsSound a budget st → AreReady k st (all_selectors (scan_each s ts) (selectors_each s ts)) → AllRan k (together (outcomes w ts)).decided (together (outcomes w ts)).data_uses (terms_of w n ts) st
  all_data_ran ts st i r =
      let its = all_names (names_each s ts) in
      by_all_order (together (outcomes w ts)).decided its (together (outcomes w ts)).data_uses (terms_of w n ts) (all_scanned (scan_each s ts)) st i (all_means w n s l.denote full ts) (λ vs e. all_names_ready k st s ts vs e r)
      (λ q. all_order w n s (links ++ its) (links_with w n k its st refl l i q) full ts (own_needs_nothing its))

  -- ---- rules

  module _ (os : List (Outcome Value)) (ts : ValueTerms) (xs : List (Scanned ValueTerm)) (each : List (List ValueTerm)) (i : Inputs (frame w n links formed budget) s os ts xs each) where
    module_gets : (m : Module) (p : Place) (result : ℕ) → Gets k (by_rule w (function.Module m) p result os).control_uses (module_selectors s m xs each)
    module_gets computing.Import p result = subst (λ us. Gets k us (module_selectors s computing.Import xs each)) (module_same w computing.Import p.site result (together (with_name os)).decided (together (with_name os)).control_uses (together (with_name os)).data_uses) i.named
    module_gets m p result = subst (λ us. Gets k us (all_selectors xs each)) (module_same w m p.site result (together os).decided (together os).control_uses (together os).data_uses) i.all

    picked_gets : (p : Place) (b : Pick Value) (c : Pick ValueTerm) → PickNeeds a links b c → Gets k (picked p.site os b).control_uses (picked_selectors each c)
    picked_gets p (PickInput m) (PickInput j) r = subst (λ h. Gets k (outcome_at os m).control_uses (selectors_at each h)) r (i.at m).own_got
    picked_gets p b (PickThis t) r = gets_none k (picked p.site os b).control_uses
    picked_gets p b PickOff r = gets_none k (picked p.site os b).control_uses
    picked_gets p b PickFault r = gets_none k (picked p.site os b).control_uses
    picked_gets p (PickThis v) (PickInput m) r = absurd r
    picked_gets p PickOff (PickInput m) r = absurd r
    picked_gets p PickFault (PickInput m) r = absurd r

    shelf_gets : (p : Place) (b : Pick Value) (c : Shelf ValueTerm → Pick ValueTerm) → PickNeeds a links b (c (terms_with w n)) → Gets k (picked p.site os b).control_uses (picked_selectors each (c (terms_in s)))
    shelf_gets p b c r = subst (λ shelf. Gets k (picked p.site os b).control_uses (picked_selectors each (c shelf))) (sym (same_shelf w n s full)) (picked_gets p b (c (terms_with w n)) r)

    picking_gets : (f : Function) (p : Place) (result : ℕ) → ((v : Value) → PickNeeds a links (pick (values_in w) f p result v) (pick (terms_with w n) f p result v)) → Gets k (selector_rule w f p result os).control_uses (picking_selectors s f p result xs each)
    picking_gets f p result r =
        let o = outcome_at os (selector_at f) in
        let at = i.at (selector_at f) in
        let go : Value → Outcome Value = λ v. picked p.site os (pick (values_in w) f p result v) in
        subst (λ us. Gets k us (picking_selectors s f p result xs each)) (after_same o.decided o.control_uses o.data_uses go)
        (selected_gets k attributes a s full.told o.decided o.control_uses o.data_uses (term_at ts (selector_at f)) (scanned_at xs (selector_at f)) (selectors_at each (selector_at f)) (λ v. (go v).control_uses) (λ v. picked_selectors each (pick (terms_in s) f p result v)) at.means at.agrees at.data_got at.own_got
        (λ v. shelf_gets p (pick (values_in w) f p result v) (λ shelf. pick shelf f p result v) (r v)))

    effect_gets : (e : Effect) → Gets k (effect_rule e os).control_uses (effect_selectors e each)
    effect_gets effect.SetLocal = (i.at 1).own_got
    effect_gets effect.SetGlobal = (i.at 1).own_got
    effect_gets effect.Print = gets_none k []
    effect_gets effect.Echo = gets_none k []
    effect_gets effect.Export = gets_none k []

    rule_gets : (f : Function) (p : Place) (result : ℕ) → Gets k (by_rule w f p result os).control_uses (rule_selectors s f p result xs each)
    rule_gets (function.Module m) p result = module_gets m p result
    rule_gets (function.Effect e) p result = effect_gets e
    rule_gets function.Switch p result = picking_gets function.Switch p result (λ v. switch_needs a links v)
    rule_gets function.Route p result = picking_gets function.Route p result (λ v. route_needs a links result v)
    rule_gets function.GetLocal p result = picking_gets function.GetLocal p result (λ v. get_needs w n links l (key_in p) result (link_name p v))
    rule_gets function.GetGlobal p result = picking_gets function.GetGlobal p result (λ v. get_needs w n links l key.Global result (link_name p v))

  nothing_told : (o : Option Value) → Gets k [] (null_term ∷ told_selectors o (λ v. []))
  nothing_told (Some v) st i = ran_none st []
  nothing_told None st i = ran_none st []

  -- ---- trees

  mutual
    pub selectors_got : (t : Tree) → Gets k (outcome w t).control_uses (selectors s t)
    selectors_got (ConstantTree c) = gets_none k []
    selectors_got (ResultTree result (TreeCall f p args)) =
        rule_gets (outcomes w args) (terms_of w n args) (scan_each s args) (selectors_each s args) (record { at = at_got args; all = all_got args; named = named_got args }) f p result

    at_got : (ts : Trees) → (m : ℕ) → Looks k (outcome_at (outcomes w ts) m) (term_at (terms_of w n ts) m) (scanned_at (scan_each s ts) m) (selectors_at (selectors_each s ts) m)
    at_got NoTree m = record { means = refl; agrees = refl; data_got = λ st i r. ran_none st []; own_got = gets_none k [] }
    at_got (AndTree t ts) zero = record { means = tree_means w n s l.denote full t; agrees = (tree_right w n l.denote t).0; data_got = data_gets t; own_got = selectors_got t }
    at_got (AndTree t ts) (suc m) = at_got ts m

    pub all_got : (ts : Trees) → Gets k (together (outcomes w ts)).control_uses (all_selectors (scan_each s ts) (selectors_each s ts))
    all_got NoTree = gets_none k []
    all_got (AndTree t ts) = beside_gets k attributes a (outcome w t).decided (outcome w t).control_uses (together (outcomes w ts)).control_uses (term_of w n t) (scan s t) (selectors s t) (all_selectors (scan_each s ts) (selectors_each s ts)) (tree_means w n s l.denote full t) (selectors_got t) (all_got ts)

    named_got : (ts : Trees) → Gets k (together (with_name (outcomes w ts))).control_uses (module_selectors s computing.Import (scan_each s ts) (selectors_each s ts))
    named_got NoTree = nothing_told (s.told null_term)
    named_got (AndTree t ts) =
        let o = outcome w t in
        let rest = (together (outcomes w ts)).control_uses in
        subst (λ us. Gets k us (selectors s t ++ got_selectors s (scan s t) (λ v. all_selectors (scan_each s ts) (selectors_each s ts)))) (named_same o.decided o.control_uses o.data_uses rest)
        (selected_gets k attributes a s full.told o.decided o.control_uses o.data_uses (term_of w n t) (scan s t) (selectors s t) (λ v. rest) (λ v. all_selectors (scan_each s ts) (selectors_each s ts)) (tree_means w n s l.denote full t) (tree_right w n l.denote t).0 (data_gets t) (selectors_got t) (λ v. all_got ts))
