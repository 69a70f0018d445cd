-- What the terms of trees need: the call that an error names, and the uses.
use Rattle.std.proofs.Common.{◌≡◌, inl, ℕ, zero, suc, List, [], ◌∷◌, ◌++◌, None, Bool, true, false, refl, sym, ◌∙◌, subst}
use Rattle.std.specs.Prelude.{Result, Ok, Err}
use Rattle.dx_base.specs.declared.code.Code.{Code}
use Rattle.dx_base.specs.declared.function.Function.{Function}
use Rattle.dx_base.specs.declared.function.Function.TheVariants as function
use Rattle.dx_base.specs.declared.function.Module.{Module}
use Rattle.dx_base.specs.declared.function.Module.TheVariants as computing
use Rattle.dx_base.specs.declared.function.Effect.{Effect}
use Rattle.dx_base.specs.declared.function.Effect.TheVariants as effect
use Rattle.dx_ast.specs.Value.{value_of}
use Rattle.dx_macros.specs.Site.{Step}
use Rattle.dx_macros.specs.Tree.{Place, Tree, ConstantTree, ResultTree, TreeCall, Trees, NoTree, AndTree}
use Rattle.dx_objects.specs.Runs.{Values, Answer}
use Rattle.dx_objects.specs.Values.{value_at}
use Rattle.dx_links.specs.declared.key.Key.TheVariants as key
use Rattle.dx_links.specs.Denotes.{Around, own_file, file_of, denotes, denoted_result, denoted_beside, results_of, all_denote}
use Rattle.dx_links.specs.Getting.{has_value}
use Rattle.dx_tags.specs.Closed.{ValueTerm, ResultTerm, CallTerm, CallOf, ValueTerms}
use Rattle.dx_machine.specs.Machine.{Task, task_of}
use Rattle.dx_machine.specs.Agree.{Demanded, Runs, Refuses, more_of, then_of, answered as task_answered, run_demanded, unless, demanded, call_demanded, all_demanded}
use Rattle.dx_meaning.specs.Outcome.{Value, Use, Decided, Val, ErrAt, Off, HaltAt, Outcome}
use Rattle.dx_meaning.specs.Picking.{Pick, PickThis, PickInput, PickOff, PickFault, Shelf, link_name, key_in, pick, selector_at}
use Rattle.dx_meaning.specs.Meaning.{World, outcome, outcomes, outcome_at, together, decided_beside, control_beside, data_beside, selected_with, as_selector, with_name, arguments, answered, module_rule, module_outcome, after_selector, picked, values_in, selector_rule, effect_rule, by_rule, file_for}
use Rattle.dx_meaning.specs.Scan.{Sight, Scanned, Forms, scanned_at, with_file, terms_in, rule_scanned, scan_each}
use Rattle.dx_meaning.specs.Term.{Names, around, term_at, own_file_of, picked_term, selected_term, terms_with, selector_term, effect_term, term_rule, term_of, terms_of, Agrees}
use Rattle.dx_meaning.specs.Met.{Called, met_at, all_met, arguments_met, own_met, picked_met, selected_met, selector_met, effect_met, met_rule, met, each_met}
use Rattle.dx_meaning.proofs.Terms.{tree_right}
use Rattle.dx_performing.specs.Meant.{IsFull, Means}
use Rattle.dx_performing.proofs.Meant.{tree_means, no_file_first, all_agree}
use Rattle.dx_demanded.specs.Found.{AreLinks, HaveAllResults, RefusesAt, RunsAll, Finds}
use Rattle.dx_demanded.specs.Used.{AreUsed, tasks_in, Uses}
use Rattle.dx_demanded.proofs.Ends.{EndsAs, call_ends, result_ends, file_needs_none, file_denotes_none}
use Rattle.dx_demanded.proofs.Picks.{PickNeeds, switch_needs, route_needs, get_needs}
use Rattle.dx_demanded.proofs.Places.{have_append, stands_behind, stands_first, stands_itself}
use Rattle.dx_demanded.proofs.Seeing.{same_shelf, told_some}
use Rattle.dx_demanded.proofs.Uses.{Within, in_front, behind, both_within, used_within, used_more, own_within, others_within, own_alone_within, chosen_within}

-- what a term needs is found and used as it should be, beside what its tree comes to, its uses, and the calls that it meets
pub record Needs {A : Type 0} (a : Around) (d : Decided A) (cu du : List Use) (calls : List Called) (needed : Demanded) : Type 0 where
  pub found : Finds a d calls needed
  pub used : Uses d (cu ++ du) needed

-- ---- the arguments of a call

next_finds : (a : Around) (site : List Step) (code : Code) (own others : List Called) (ts : List Task) (e : Demanded) → HaveAllResults a own → RefusesAt a others site code e → RefusesAt a (own ++ others) site code (more_of ts e)
next_finds a site code own others ts (Runs us) h k = k
next_finds a site code own others ts (Refuses us c code') h k = (k.0, k.1, stands_behind a own others c code site h k.1 k.2)

all_find : (a : Around) (own others : List Called) (ts : List Task) (e : Demanded) → HaveAllResults a own → RunsAll a others e → RunsAll a (own ++ others) (more_of ts e)
all_find a own others ts (Runs us) h k = have_append a own others h k
all_find a own others ts (Refuses us c code) h k = k

beside_finds : (a : Around) (d : Decided Value) (e : Decided Values) (own others : List Called) (g h : Demanded) → Finds a d own g → Finds a e others h → Finds a (decided_beside d e) (own ++ others) (then_of g h)
beside_finds a Off e own others g h p q = tt
beside_finds a (HaltAt s c) e own others g h p q = tt
beside_finds a (ErrAt s c) Off own others g h p q = tt
beside_finds a (ErrAt s c) (HaltAt s' c') own others g h p q = tt
beside_finds a (ErrAt s c) (ErrAt s' c') own others (Runs ts) h p q = absurd p
beside_finds a (ErrAt s c) (ErrAt s' c') own others (Refuses ts r code) h p q = (p.0, p.1, stands_first own others r s p.2)
beside_finds a (ErrAt s c) (Val vs) own others (Runs ts) h p q = absurd p
beside_finds a (ErrAt s c) (Val vs) own others (Refuses ts r code) h p q = (p.0, p.1, stands_first own others r s p.2)
beside_finds a (Val v) Off own others g h p q = tt
beside_finds a (Val v) (HaltAt s c) own others g h p q = tt
beside_finds a (Val v) (ErrAt s c) own others (Refuses ts r code) h p q = absurd p
beside_finds a (Val v) (ErrAt s c) own others (Runs ts) h p q = next_finds a s c own others ts h p q
beside_finds a (Val v) (Val vs) own others (Refuses ts r code) h p q = absurd p
beside_finds a (Val v) (Val vs) own others (Runs ts) h p q = all_find a own others ts h p q

-- the runs of both
both_used : (cu du more others : List Use) (ts : List Task) (h : Demanded) → AreUsed (cu ++ du) ts → AreUsed (more ++ others) (tasks_in h) → AreUsed ((cu ++ more) ++ (du ++ others)) (tasks_in (more_of ts h))
both_used cu du more others ts h p q =
    used_more ((cu ++ more) ++ (du ++ others)) ts h
    (used_within (cu ++ du) ((cu ++ more) ++ (du ++ others)) ts (own_within cu du more others) p)
    (used_within (more ++ others) ((cu ++ more) ++ (du ++ others)) (tasks_in h) (others_within cu du more others) q)

beside_uses : (a : Around) (d : Decided Value) (e : Decided Values) (cu du more others : List Use) (own : List Called) (g h : Demanded) → Finds a d own g → Uses d (cu ++ du) g → Uses e (more ++ others) h →
    Uses (decided_beside d e) (control_beside d cu more ++ data_beside d e du others) (then_of g h)
beside_uses a Off e cu du more others own g h f p q = tt
beside_uses a (HaltAt s c) e cu du more others own g h f p q = tt
beside_uses a (ErrAt s c) Off cu du more others own g h f p q = tt
beside_uses a (ErrAt s c) (HaltAt s' c') cu du more others own g h f p q = tt
beside_uses a (ErrAt s c) (ErrAt s' c') cu du more others own (Runs ts) h f p q = absurd f
beside_uses a (ErrAt s c) (ErrAt s' c') cu du more others own (Refuses ts r code) h f p q = used_within (cu ++ du) ((cu ++ more) ++ du) ts (own_alone_within cu du more others) p
beside_uses a (ErrAt s c) (Val vs) cu du more others own (Runs ts) h f p q = absurd f
beside_uses a (ErrAt s c) (Val vs) cu du more others own (Refuses ts r code) h f p q = used_within (cu ++ du) ((cu ++ more) ++ du) ts (own_alone_within cu du more others) p
beside_uses a (Val v) Off cu du more others own g h f p q = tt
beside_uses a (Val v) (HaltAt s c) cu du more others own g h f p q = tt
beside_uses a (Val v) (ErrAt s c) cu du more others own (Refuses ts r code) h f p q = absurd f
beside_uses a (Val v) (ErrAt s c) cu du more others own (Runs ts) h f p q = both_used cu du more others ts h p q
beside_uses a (Val v) (Val vs) cu du more others own (Refuses ts r code) h f p q = absurd f
beside_uses a (Val v) (Val vs) cu du more others own (Runs ts) h f p q = both_used cu du more others ts h p q

beside_needs : (a : Around) (d : Decided Value) (e : Decided Values) (cu du more others : List Use) (own calls : List Called) (g h : Demanded) → Needs a d cu du own g → Needs a e more others calls h →
    Needs a (decided_beside d e) (control_beside d cu more) (data_beside d e du others) (own ++ calls) (then_of g h)
beside_needs a d e cu du more others own calls g h p q = record {
  found = beside_finds a d e own calls g h p.found q.found;
  used = beside_uses a d e cu du more others own g h p.found p.used q.used;
}

besides_agree : (d : Decided Value) (e : Decided Values) (x : Result Value Code) (y : Answer) → Agrees d x → Agrees e y → Agrees (decided_beside d e) (denoted_beside x y)
besides_agree Off e x y p q = tt
besides_agree (HaltAt u c) e x y p q = tt
besides_agree (ErrAt u c) Off x y p q = tt
besides_agree (ErrAt u c) (HaltAt u' c') x y p q = tt
besides_agree (ErrAt u c) (ErrAt u' c') x y p q = rw p refl
besides_agree (ErrAt u c) (Val vs) x y p q = rw p refl
besides_agree (Val v) Off x y p q = tt
besides_agree (Val v) (HaltAt u c) x y p q = tt
besides_agree (Val v) (ErrAt u c) x y p q = rw (p, q) refl
besides_agree (Val v) (Val vs) x y p q = rw (p, q) refl

-- the name of an Import is control, and none of its calls count
nothing_met : (a : Around) (calls : List Called) (d : Demanded) → RunsAll a calls d → RunsAll a [] d
nothing_met a calls (Runs ts) h = tt
nothing_met a calls (Refuses ts c code) h = h

all_control : (cu du : List Use) (ts : List Task) → AreUsed (cu ++ du) ts → AreUsed ((cu ++ du) ++ []) ts
all_control cu du ts h = used_within (cu ++ du) ((cu ++ du) ++ []) ts (in_front (cu ++ du) []) h

named_needs : (a : Around) (d : Decided Value) (cu du : List Use) (calls : List Called) (g : Demanded) → Needs a d cu du calls g → Needs a (selected_with d cu du).decided (selected_with d cu du).control_uses (selected_with d cu du).data_uses [] g
named_needs a Off cu du calls g p = record { found = tt; used = tt }
named_needs a (HaltAt s c) cu du calls g p = record { found = tt; used = tt }
named_needs a (ErrAt s c) cu du calls g p = record { found = tt; used = tt }
named_needs a (Val v) cu du calls g p = record { found = nothing_met a calls g p.found; used = all_control cu du (tasks_in g) p.used }

named_agrees : (d : Decided Value) (cu du : List Use) (x : Result Value Code) → Agrees d x → Agrees (selected_with d cu du).decided x
named_agrees Off cu du x h = tt
named_agrees (HaltAt s c) cu du x h = tt
named_agrees (ErrAt s c) cu du x h = tt
named_agrees (Val v) cu du x h = h

-- ---- a call of a module

-- the call itself is the one that refuses
own_refuses : (a : Around) (p : Place) (m : Module) (ts : ValueTerms) (calls : List Called) (code : Code) (us : List Task) (all : Answer) → HaveAllResults a calls → EndsAs {A = Value} a (Err code) (more_of us (run_demanded a m ts all)) →
    RefusesAt a (calls ++ record { place = p; call = CallOf m ts } ∷ []) p.site code (more_of us (run_demanded a m ts all))
own_refuses a p m ts calls code us (Err code') h e = (e.0, e.1, stands_behind a calls (record { place = p; call = CallOf m ts } ∷ []) (CallOf m ts) code p.site h e.1 (stands_itself p (CallOf m ts)))
own_refuses a p m ts calls code us (Ok values) h e = by (a.answer m values (file_of a m values (own_file ts))) e
  where
    by : (r : Answer) → EndsAs {A = Value} a (Err code) (more_of us (task_answered (CallOf m ts) (task_of m ts values) r)) → RefusesAt a (calls ++ record { place = p; call = CallOf m ts } ∷ []) p.site code (more_of us (task_answered (CallOf m ts) (task_of m ts values) r))
    by (Ok results) q = absurd q
    by (Err code') q = (q.0, q.1, stands_behind a calls (record { place = p; call = CallOf m ts } ∷ []) (CallOf m ts) code p.site h q.1 (stands_itself p (CallOf m ts)))

all_run : (a : Around) (calls : List Called) (v : Value) (d : Demanded) → HaveAllResults a calls → EndsAs {A = Value} a (Ok v) d → RunsAll a calls d
all_run a calls v (Runs ts) h e = h
all_run a calls v (Refuses ts c code) h e = e

result_ok : (result : ℕ) (r : Answer) (v : Value) → denoted_result result r ≡ Ok v → (values : Values) × (r ≡ Ok values)
result_ok result (Ok values) v e = (values, refl)
result_ok result (Err code) v e = cc

answered_finds : (a : Around) (p : Place) (result : ℕ) (m : Module) (ts : ValueTerms) (calls : List Called) (us : List Task) (all b : Answer) → HaveAllResults a calls → EndsAs a (denotes a (ResultTerm result (CallOf m ts))) (more_of us (run_demanded a m ts all)) →
    Agrees (answered p.site result b) (denotes a (ResultTerm result (CallOf m ts))) → Finds a (answered p.site result b) (calls ++ record { place = p; call = CallOf m ts } ∷ []) (more_of us (run_demanded a m ts all))
answered_finds a p result m ts calls us all (Ok values) h e g =
    all_run a (calls ++ record { place = p; call = CallOf m ts } ∷ []) (value_at values result) (more_of us (run_demanded a m ts all))
    (have_append a calls (record { place = p; call = CallOf m ts } ∷ []) h (result_ok result (results_of a (CallOf m ts)) (value_at values result) g, tt))
    (subst (λ r. EndsAs a r (more_of us (run_demanded a m ts all))) g e)
answered_finds a p result m ts calls us all (Err code) h e g = own_refuses a p m ts calls code us all h (subst (λ r. EndsAs a r (more_of us (run_demanded a m ts all))) g e)

called_finds : (w : World) (a : Around) (p : Place) (result : ℕ) (m : Module) (ts : ValueTerms) (d : Decided Values) (cu du : List Use) (calls : List Called) (g : Demanded) (all : Answer) → Finds a d calls g → EndsAs a (denotes a (ResultTerm result (CallOf m ts))) (then_of g (run_demanded a m ts all)) →
    Agrees (module_rule w m p.site result d cu du).decided (denotes a (ResultTerm result (CallOf m ts))) → Finds a (module_rule w m p.site result d cu du).decided (calls ++ record { place = p; call = CallOf m ts } ∷ []) (then_of g (run_demanded a m ts all))
called_finds w a p result m ts Off cu du calls g all f e h = tt
called_finds w a p result m ts (HaltAt s c) cu du calls g all f e h = tt
called_finds w a p result m ts (ErrAt s c) cu du calls (Runs us) all f e h = absurd f
called_finds w a p result m ts (ErrAt s c) cu du calls (Refuses us r code) all f e h = (f.0, f.1, stands_first calls (record { place = p; call = CallOf m ts } ∷ []) r s f.2)
called_finds w a p result m ts (Val values) cu du calls (Refuses us r code) all f e h = absurd f
called_finds w a p result m ts (Val values) cu du calls (Runs us) all f e h = answered_finds a p result m ts calls us all (w.answer m values (file_for w m values)) f e h

-- its run is its own use
answered_used : (uses : List Use) (c : CallTerm) (task : Task) (r : Answer) → AreUsed uses (task ∷ []) → AreUsed uses (tasks_in (task_answered c task r))
answered_used uses c task (Ok results) h = h
answered_used uses c task (Err code) h = h

run_used : (a : Around) (site : List Step) (m : Module) (ts : ValueTerms) (cu du : List Use) (values : Values) (all : Answer) → all ≡ Ok values → AreUsed (cu ++ (du ++ record { site = site; called = m; inputs = values } ∷ [])) (tasks_in (run_demanded a m ts all))
run_used a site m ts cu du values (Err code) e = tt
run_used a site m ts cu du values (Ok vs) e =
    let own : Use = record { site = site; called = m; inputs = values } in
    let same : values ≡ vs = cc in
    answered_used (cu ++ (du ++ own ∷ [])) (CallOf m ts) (task_of m ts vs) (a.answer m vs (file_of a m vs (own_file ts)))
    (behind cu (du ++ own ∷ []) (task_of m ts vs) (behind du (own ∷ []) (task_of m ts vs) (inl (refl, same))), tt)

earlier_used : (cu du : List Use) (u : Use) (ts : List Task) → AreUsed (cu ++ du) ts → AreUsed (cu ++ (du ++ u ∷ [])) ts
earlier_used cu du u ts h = used_within (cu ++ du) (cu ++ (du ++ u ∷ [])) ts (both_within cu du (cu ++ (du ++ u ∷ [])) (in_front cu (du ++ u ∷ [])) (λ t k. behind cu (du ++ u ∷ []) t (in_front du (u ∷ []) t k))) h

answered_uses : (site : List Step) (result : ℕ) (b : Answer) (uses : List Use) (d : Demanded) → AreUsed uses (tasks_in d) → Uses (answered site result b) uses d
answered_uses site result (Ok values) uses d h = h
answered_uses site result (Err code) uses d h = h

called_uses : (w : World) (a : Around) (p : Place) (result : ℕ) (m : Module) (ts : ValueTerms) (d : Decided Values) (cu du : List Use) (calls : List Called) (g : Demanded) (all : Answer) → Finds a d calls g → Uses d (cu ++ du) g → Agrees d all →
    Uses (module_rule w m p.site result d cu du).decided ((module_rule w m p.site result d cu du).control_uses ++ (module_rule w m p.site result d cu du).data_uses) (then_of g (run_demanded a m ts all))
called_uses w a p result m ts Off cu du calls g all f u h = tt
called_uses w a p result m ts (HaltAt s c) cu du calls g all f u h = tt
called_uses w a p result m ts (ErrAt s c) cu du calls (Runs us) all f u h = absurd f
called_uses w a p result m ts (ErrAt s c) cu du calls (Refuses us r code) all f u h = u
called_uses w a p result m ts (Val values) cu du calls (Refuses us r code) all f u h = absurd f
called_uses w a p result m ts (Val values) cu du calls (Runs us) all f u h =
    let own : Use = record { site = p.site; called = m; inputs = values } in
    answered_uses p.site result (w.answer m values (file_for w m values)) (cu ++ (du ++ own ∷ [])) (more_of us (run_demanded a m ts all))
    (used_more (cu ++ (du ++ own ∷ [])) us (run_demanded a m ts all) (earlier_used cu du own us u) (run_used a p.site m ts cu du values all h))

-- a link's term needs nothing, and denotes a value
unless_finds : (a : Around) (d : Decided Value) (calls : List Called) (b : Bool) (t : ValueTerm) (g : Demanded) → (b ≡ true → (v : Value) × (denotes a t ≡ Ok v)) → Agrees d (denotes a t) → Finds a d calls g → Finds a d calls (unless b g)
unless_finds a d calls false t g k h f = f
unless_finds a Off calls true t g k h f = tt
unless_finds a (HaltAt s c) calls true t g k h f = tt
unless_finds a (ErrAt s c) calls true t g k h f = let v = k refl in let clash : Ok v.0 ≡ Err c = sym v.1 ∙ h in cc
unless_finds a (Val v) calls true t (Runs ts) k h f = f
unless_finds a (Val v) calls true t (Refuses ts c code) k h f = absurd f

unless_uses : (d : Decided Value) (us : List Use) (b : Bool) (g : Demanded) → Uses d us g → Uses d us (unless b g)
unless_uses d us false g h = h
unless_uses Off us true g h = tt
unless_uses (HaltAt s c) us true g h = tt
unless_uses (ErrAt s c) us true g h = tt
unless_uses (Val v) us true g h = tt

uses_within : (d : Decided Value) (us vs : List Use) (g : Demanded) → Within us vs → Uses d us g → Uses d vs g
uses_within Off us vs g p h = tt
uses_within (HaltAt s c) us vs g p h = tt
uses_within (ErrAt s c) us vs g p h = used_within us vs (tasks_in g) p h
uses_within (Val v) us vs g p h = used_within us vs (tasks_in g) p h

-- the call of the term that is formed
own_finds : (a : Around) (p : Place) (d : Decided Value) (result : ℕ) (c : CallTerm) (x : Scanned ValueTerm) (calls : List Called) (g : Demanded) → Means a d (ResultTerm result c) x → Finds a d (calls ++ record { place = p; call = c } ∷ []) g → Finds a d (calls ++ own_met p x) g
own_finds a p Off result c x calls g h f = tt
own_finds a p (HaltAt s code) result c x calls g h f = tt
own_finds a p (ErrAt s code) result c x calls g h f = subst (λ y. Finds {A = Value} a (ErrAt s code) (calls ++ own_met p y) g) (sym h) f
own_finds a p (Val v) result c x calls g h f = subst (λ y. Finds a (Val v) (calls ++ own_met p y) g) (sym h) f

-- ---- rules

abbrev NeedsSo : Around → Outcome Value → List Called → Demanded → Type 0
NeedsSo a o calls g = Needs a o.decided o.control_uses o.data_uses calls g

abbrev AllNeedSo : Around → Outcome Values → List Called → Demanded → Type 0
AllNeedSo a o calls g = Needs a o.decided o.control_uses o.data_uses calls g

nothing_needed : (a : Around) (v : Value) → Needs a (Val v) [] [] [] (Runs [])
nothing_needed a v = record { found = tt; used = tt }

-- an input of a call
pub record Argument (a : Around) (links : List ValueTerm) (o : Outcome Value) (t : ValueTerm) (x : Scanned ValueTerm) (calls : List Called) : Type 0 where
  pub means : Means a o.decided t x
  pub agrees : Agrees o.decided (denotes a t)
  pub needs : Needs a o.decided o.control_uses o.data_uses calls (demanded a links t)

pub record Inputs (a : Around) (links : List ValueTerm) (os : List (Outcome Value)) (ts : ValueTerms) (xs : List (Scanned ValueTerm)) (each : List (List Called)) : Type 0 where
  pub at : (k : ℕ) → Argument a links (outcome_at os k) (term_at ts k) (scanned_at xs k) (met_at each k)
  pub all : AllNeedSo a (together os) (all_met each) (all_demanded a links ts)
  pub agree : Agrees (together os).decided (all_denote a ts)
  pub named : AllNeedSo a (together (with_name os)) (all_met (arguments_met computing.Import each)) (all_demanded a links ts)
  pub named_agree : Agrees (together (with_name os)).decided (all_denote a ts)

module _ (w : World) (n : Names) (s : Sight) (links : List ValueTerm) (l : AreLinks w n links) (full : IsFull w n s) where
  abbrev a : Around
  a = around w n

  module _ (os : List (Outcome Value)) (ts : ValueTerms) (xs : List (Scanned ValueTerm)) (each : List (List Called)) (i : Inputs (around w n) links os ts xs each) where
    arguments_need : (m : Module) → AllNeedSo a (together (arguments m os)) (all_met (arguments_met m each)) (all_demanded a links ts)
    arguments_need computing.Import = i.named
    arguments_need m = i.all

    arguments_agree : (m : Module) → Agrees (together (arguments m os)).decided (all_denote a ts)
    arguments_agree computing.Import = i.named_agree
    arguments_agree m = i.agree

    module_needs : (m : Module) (p : Place) (result : ℕ) →
        Agrees (by_rule w (function.Module m) p result os).decided (denotes a (term_rule w n (function.Module m) p result os ts)) →
        Means a (by_rule w (function.Module m) p result os).decided (term_rule w n (function.Module m) p result os ts) (rule_scanned s (function.Module m) p result xs) →
        NeedsSo a (by_rule w (function.Module m) p result os) (met_rule s (function.Module m) p result xs each) (demanded a links (term_rule w n (function.Module m) p result os ts))
    module_needs m p result right means =
        let file = own_file_of w m os in
        let us = with_file ts file in
        let c = CallOf m us in
        let o = together (arguments m os) in
        let calls = all_met (arguments_met m each) in
        let needs = arguments_need m in
        let found = subst (λ g. Finds a o.decided calls g) (sym (file_needs_none a links ts file)) needs.found in
        let used = subst (λ g. Uses o.decided (o.control_uses ++ o.data_uses) g) (sym (file_needs_none a links ts file)) needs.used in
        let agree = subst (λ r. Agrees o.decided r) (sym (file_denotes_none a ts file)) (arguments_agree m) in
        let d = module_outcome w m p.site result o in
        record {
          found = unless_finds a d.decided (met_rule s (function.Module m) p result xs each) (has_value links (ResultTerm result c)) (ResultTerm result c) (call_demanded a links c) (l.valued (ResultTerm result c)) right
              (own_finds a p d.decided result c (rule_scanned s (function.Module m) p result xs) calls (call_demanded a links c) means
              (called_finds w a p result m us o.decided o.control_uses o.data_uses calls (all_demanded a links us) (all_denote a us) found (result_ends a result (results_of a c) (call_demanded a links c) (call_ends a links l.valued c)) right));
          used = unless_uses d.decided (d.control_uses ++ d.data_uses) (has_value links (ResultTerm result c)) (call_demanded a links c)
              (called_uses w a p result m us o.decided o.control_uses o.data_uses calls (all_demanded a links us) (all_denote a us) found used agree);
        }

    -- ---- a call with a selector

    value_met : (f : Function) (p : Place) (result : ℕ) (v : Value) (t : ValueTerm) (x : Scanned ValueTerm) → x ≡ Forms t → denotes a t ≡ Ok v → selected_met s f p result each x ≡ picked_met each (pick (terms_in s) f p result v)
    value_met f p result v t x e d = rw (e, told_some (s.told t) (denotes a t) v (full.told t) d) refl

    selected_needs : (f : Function) (p : Place) (result : ℕ) (d : Decided Value) (cu du : List Use) (t : ValueTerm) (x : Scanned ValueTerm) → Means a d t x → Agrees d (denotes a t) → (go : Value → Outcome Value) (go_term : Value → ValueTerm) →
        ((v : Value) → NeedsSo a (go v) (picked_met each (pick (terms_in s) f p result v)) (demanded a links (go_term v))) →
        NeedsSo a (after_selector (selected_with d cu du).decided (selected_with d cu du).control_uses go) (selected_met s f p result each x) (demanded a links (selected_term d go_term))
    selected_needs f p result Off cu du t x h g go go_term k = record { found = tt; used = tt }
    selected_needs f p result (HaltAt site code) cu du t x h g go go_term k = record { found = tt; used = tt }
    selected_needs f p result (ErrAt site code) cu du t x h g go go_term k = record { found = tt; used = tt }
    selected_needs f p result (Val v) cu du t x h g go go_term k = record {
      found = subst (λ calls. Finds a (go v).decided calls (demanded a links (go_term v))) (sym (value_met f p result v t x h g)) (k v).found;
      used = uses_within (go v).decided ((go v).control_uses ++ (go v).data_uses) (((cu ++ du) ++ (go v).control_uses) ++ (go v).data_uses) (demanded a links (go_term v)) (chosen_within (cu ++ du) [] (go v).control_uses (go v).data_uses) (k v).used;
    }

    picked_needs : (p : Place) (b : Pick Value) (c : Pick ValueTerm) → PickNeeds a links b c → NeedsSo a (picked p.site os b) (picked_met each c) (demanded a links (picked_term ts c))
    picked_needs p (PickThis v) (PickThis t) r = subst (λ g. Needs a (Val v) [] [] [] g) (sym r) (nothing_needed a v)
    picked_needs p (PickInput k) (PickInput m) r = subst (λ j. NeedsSo a (outcome_at os k) (met_at each j) (demanded a links (term_at ts j))) r (i.at k).needs
    picked_needs p PickOff PickOff r = record { found = tt; used = tt }
    picked_needs p PickFault PickFault r = record { found = tt; used = tt }
    picked_needs p (PickThis v) (PickInput m) r = absurd r
    picked_needs p (PickThis v) PickOff r = absurd r
    picked_needs p (PickThis v) PickFault r = absurd r
    picked_needs p (PickInput k) (PickThis t) r = absurd r
    picked_needs p (PickInput k) PickOff r = absurd r
    picked_needs p (PickInput k) PickFault r = absurd r
    picked_needs p PickOff (PickThis t) r = absurd r
    picked_needs p PickOff (PickInput m) r = absurd r
    picked_needs p PickOff PickFault r = absurd r
    picked_needs p PickFault (PickThis t) r = absurd r
    picked_needs p PickFault (PickInput m) r = absurd r
    picked_needs p PickFault PickOff r = absurd r

    shelf_needs : (p : Place) (b : Pick Value) (c : Shelf ValueTerm → Pick ValueTerm) → PickNeeds a links b (c (terms_with w n)) → NeedsSo a (picked p.site os b) (picked_met each (c (terms_in s))) (demanded a links (picked_term ts (c (terms_with w n))))
    shelf_needs p b c r = rw (same_shelf w n s full) (picked_needs p b (c (terms_with w n)) r)

    picking_needs : (f : Function) (p : Place) (result : ℕ) → ((v : Value) → PickNeeds a links (pick (values_in w) f p result v) (pick (terms_with w n) f p result v)) →
        NeedsSo a (selector_rule w f p result os) (selector_met s f p result xs each) (demanded a links (selector_term w n f p result os ts))
    picking_needs f p result r =
        let o = outcome_at os (selector_at f) in
        let at = i.at (selector_at f) in
        selected_needs f p result o.decided o.control_uses o.data_uses (term_at ts (selector_at f)) (scanned_at xs (selector_at f)) at.means at.agrees
        (λ v. picked p.site os (pick (values_in w) f p result v)) (λ v. picked_term ts (pick (terms_with w n) f p result v))
        (λ v. shelf_needs p (pick (values_in w) f p result v) (λ shelf. pick shelf f p result v) (r v))

    effect_needs : (e : Effect) → NeedsSo a (effect_rule e os) (effect_met e each) (demanded a links (effect_term e ts))
    effect_needs effect.SetLocal = (i.at 1).needs
    effect_needs effect.SetGlobal = (i.at 1).needs
    effect_needs effect.Print = nothing_needed a None
    effect_needs effect.Echo = nothing_needed a None
    effect_needs effect.Export = nothing_needed a None

    rule_needs : (f : Function) (p : Place) (result : ℕ) →
        Agrees (by_rule w f p result os).decided (denotes a (term_rule w n f p result os ts)) →
        Means a (by_rule w f p result os).decided (term_rule w n f p result os ts) (rule_scanned s f p result xs) →
        NeedsSo a (by_rule w f p result os) (met_rule s f p result xs each) (demanded a links (term_rule w n f p result os ts))
    rule_needs (function.Module m) p result right means = module_needs m p result right means
    rule_needs (function.Effect e) p result right means = effect_needs e
    rule_needs function.Switch p result right means = picking_needs function.Switch p result (λ v. switch_needs a links v)
    rule_needs function.Route p result right means = picking_needs function.Route p result (λ v. route_needs a links result v)
    rule_needs function.GetLocal p result right means = picking_needs function.GetLocal p result (λ v. get_needs w n links l (key_in p) result (link_name p v))
    rule_needs function.GetGlobal p result right means = picking_needs function.GetGlobal p result (λ v. get_needs w n links l key.Global result (link_name p v))

  -- ---- trees

  pub named_all_agree : (ts : Trees) → Agrees (together (with_name (outcomes w ts))).decided (all_denote a (terms_of w n ts))
  named_all_agree NoTree = refl
  named_all_agree (AndTree t ts) =
      let o = outcome w t in
      let r = tree_right w n l.denote t in
      subst (Agrees (decided_beside (selected_with o.decided o.control_uses o.data_uses).decided (together (outcomes w ts)).decided)) (sym (no_file_first w n s l.denote full (term_of w n t) (terms_of w n ts) r.1))
      (besides_agree (selected_with o.decided o.control_uses o.data_uses).decided (together (outcomes w ts)).decided (denotes a (term_of w n t)) (all_denote a (terms_of w n ts)) (named_agrees o.decided o.control_uses o.data_uses (denotes a (term_of w n t)) r.0) (all_agree w n s l.denote full ts))

  mutual
    pub tree_needs : (t : Tree) → NeedsSo a (outcome w t) (met s t) (demanded a links (term_of w n t))
    tree_needs (ConstantTree c) = nothing_needed a (value_of c)
    tree_needs (ResultTree result (TreeCall f p args)) =
        rule_needs (outcomes w args) (terms_of w n args) (scan_each s args) (each_met s args)
        (record { at = at_needs args; all = all_need args; agree = all_agree w n s l.denote full args; named = named_need args; named_agree = named_all_agree args })
        f p result (tree_right w n l.denote (ResultTree result (TreeCall f p args))).0 (tree_means w n s l.denote full (ResultTree result (TreeCall f p args)))

    at_needs : (ts : Trees) → (k : ℕ) → Argument a links (outcome_at (outcomes w ts) k) (term_at (terms_of w n ts) k) (scanned_at (scan_each s ts) k) (met_at (each_met s ts) k)
    at_needs NoTree k = record { means = refl; agrees = refl; needs = nothing_needed a None }
    at_needs (AndTree t ts) zero = record { means = tree_means w n s l.denote full t; agrees = (tree_right w n l.denote t).0; needs = tree_needs t }
    at_needs (AndTree t ts) (suc k) = at_needs ts k

    pub all_need : (ts : Trees) → AllNeedSo a (together (outcomes w ts)) (all_met (each_met s ts)) (all_demanded a links (terms_of w n ts))
    all_need NoTree = record { found = tt; used = tt }
    all_need (AndTree t ts) =
        let o = outcome w t in
        let rest = together (outcomes w ts) in
        beside_needs a o.decided rest.decided o.control_uses o.data_uses rest.control_uses rest.data_uses (met s t) (all_met (each_met s ts)) (demanded a links (term_of w n t)) (all_demanded a links (terms_of w n ts)) (tree_needs t) (all_need ts)

    pub named_need : (ts : Trees) → AllNeedSo a (together (with_name (outcomes w ts))) (all_met (arguments_met computing.Import (each_met s ts))) (all_demanded a links (terms_of w n ts))
    named_need NoTree = record { found = tt; used = tt }
    named_need (AndTree t ts) =
        let o = as_selector (outcome w t) in
        let rest = together (outcomes w ts) in
        beside_needs a o.decided rest.decided o.control_uses o.data_uses rest.control_uses rest.data_uses [] (all_met (each_met s ts)) (demanded a links (term_of w n t)) (all_demanded a links (terms_of w n ts))
        (named_needs a (outcome w t).decided (outcome w t).control_uses (outcome w t).data_uses (met s t) (demanded a links (term_of w n t)) (tree_needs t)) (all_need ts)
