-- Getting with entries and known calls agrees with getting without.
use Rattle.std.proofs.Common.{◌≡◌, ◌⊎◌, ℕ, List, [], ◌∷◌, ◌++◌, Bool, true, false, Option, Some, None, refl, sym, ap, ap₂, ◌∙◌, subst, true≢false, append_assoc, append-nil}
use Rattle.std.specs.Prelude.{Result, Ok, Err, ◌||◌}
use Rattle.dx_base.specs.Object.{Tree}
use Rattle.dx_base.specs.declared.function.Module.{Module}
use Rattle.dx_base.specs.declared.code.Code.{Code}
use Rattle.dx_ast.specs.Value.{value_of}
use Rattle.dx_objects.specs.Runs.{Values, Answer}
use Rattle.dx_tags.specs.Closed.{ValueTerm, ConstantTerm, HeldTerm, ResultTerm, FileTerm, CallTerm, CallOf, ValueTerms, NoTerm, AndTerm}
use Rattle.dx_links.specs.Denotes.{Around, denotes, results_of, own_file, file_of, all_denote, denoted_result, denoted_beside, denoted_call}
use Rattle.dx_links.specs.Getting.{same_call, has_value, has_call}
use Rattle.dx_links.specs.Getting as plain
use Rattle.dx_cache.specs.Cached.{IsPartOf, part_none, part_keep, part_skip}
use Rattle.dx_cache.proofs.Places.{cases}
use Rattle.dx_machine.specs.Machine.{Cached, Event, RanAt, HitAt, Task, task_of, Frame, State, Got, Went, Stopped, and_then, state_at, tasks_of, site_of, has_entry, hit, store, entry_for, with_known, with_event, after_run, run_call, obtain, unless_link, get, get_call, get_all}
use Rattle.dx_machine.specs.Sound.{AreRight, HasResults, HaveResults, HaveAttributes, IsSound}
use Rattle.dx_machine.specs.Agree.{Demanded, Runs, Refuses, more_of, then_of, answered, run_demanded, unless, demanded, call_demanded, all_demanded, Agrees, EndsSo, GettingAgrees, PlainAgrees}
use Rattle.dx_machine.proofs.SameTerms.{call_is}
use Rattle.dx_machine.proofs.Grows.{tasks-append, store_tasks}
use Rattle.dx_machine.proofs.Keeping.{get_keeps, found_results}

-- ---- some of a list

none_part : {A : Type 0} (xs : List A) → IsPartOf [] xs
none_part [] = part_none
none_part (x ∷ xs) = part_skip (none_part xs)

part_append : {A : Type 0} {xs ys : List A} (zs ws : List A) → IsPartOf xs ys → IsPartOf zs ws → IsPartOf (xs ++ zs) (ys ++ ws)
part_append zs ws part_none q = q
part_append zs ws (part_keep {x = x} {xs = xs} {ys = ys} p) q = part_keep (part_append zs ws p q)
part_append zs ws (part_skip {y = y} {xs = xs} {ys = ys} p) q = part_skip (part_append zs ws p q)

-- ---- a call that denotes results refuses nowhere

-- the runs of what goes well
abbrev IsWell : Demanded → Type 0
IsWell (Runs ts) = Unit {0}
IsWell (Refuses ts c code) = ⊥

more_well : (before : List Task) (d : Demanded) → IsWell d → IsWell (more_of before d)
more_well before (Runs ts) h = tt
more_well before (Refuses ts c code) h = h

then_well : (d e : Demanded) → IsWell d → IsWell e → IsWell (then_of d e)
then_well (Runs ts) e h k = more_well ts e k
then_well (Refuses ts c code) e h k = h

unless_well : (b : Bool) (d : Demanded) → (b ≡ false → IsWell d) → IsWell (unless b d)
unless_well true d h = tt
unless_well false d h = h refl

result_ok : (r : ℕ) (a : Answer) (v : Option Tree) → denoted_result r a ≡ Ok v → (values : Values) × (a ≡ Ok values)
result_ok r (Ok values) v e = (values, refl)
result_ok r (Err code) v e = cc

beside_ok : (d : Result (Option Tree) Code) (rest : Answer) (vs : Values) → denoted_beside d rest ≡ Ok vs → ((v : Option Tree) × (d ≡ Ok v)) × ((ws : Values) × (rest ≡ Ok ws))
beside_ok (Err code) rest vs e = cc
beside_ok (Ok v) (Err code) vs e = cc
beside_ok (Ok v) (Ok ws) vs e = ((v, refl), (ws, refl))

call_ok : (a : Around) (m : Module) (own : Option (List ℕ)) (all : Answer) (values : Values) → denoted_call a m own all ≡ Ok values → (ws : Values) × (all ≡ Ok ws) × (a.answer m ws (file_of a m ws own) ≡ Ok values)
call_ok a m own (Ok ws) values e = (ws, refl, e)
call_ok a m own (Err code) values e = cc

run_well : (a : Around) (m : Module) (ts : ValueTerms) (all : Answer) (ws values : Values) → all ≡ Ok ws → a.answer m ws (file_of a m ws (own_file ts)) ≡ Ok values → IsWell (run_demanded a m ts all)
run_well a m ts (Ok us) ws values e q = let same : us ≡ ws = cc in rw same (rw q tt)
run_well a m ts (Err code) ws values e q = cc

mutual
  value_well : (a : Around) (links : List ValueTerm) (t : ValueTerm) (v : Option Tree) → denotes a t ≡ Ok v → IsWell (demanded a links t)
  value_well a links (ConstantTerm c) v e = tt
  value_well a links (HeldTerm n) v e = tt
  value_well a links (FileTerm b) v e = tt
  value_well a links (ResultTerm r c) v e = let k = result_ok r (results_of a c) v e in unless_well (has_value links (ResultTerm r c)) (call_demanded a links c) (λ q. call_well a links c k.0 k.1)

  call_well : (a : Around) (links : List ValueTerm) (c : CallTerm) (values : Values) → results_of a c ≡ Ok values → IsWell (call_demanded a links c)
  call_well a links (CallOf m ts) values e =
      let k = call_ok a m (own_file ts) (all_denote a ts) values e in
      then_well (all_demanded a links ts) (run_demanded a m ts (all_denote a ts)) (values_well a links ts k.0 k.1) (run_well a m ts (all_denote a ts) k.0 values k.1 k.2)

  values_well : (a : Around) (links : List ValueTerm) (ts : ValueTerms) (vs : Values) → all_denote a ts ≡ Ok vs → IsWell (all_demanded a links ts)
  values_well a links NoTerm vs e = tt
  values_well a links (AndTerm (FileTerm b) ts) vs e = more_well [] (all_demanded a links ts) (values_well a links ts vs e)
  values_well a links (AndTerm (ConstantTerm c) ts) vs e = let k = beside_ok (Ok (value_of c)) (all_denote a ts) vs e in more_well [] (all_demanded a links ts) (values_well a links ts k.1.0 k.1.1)
  values_well a links (AndTerm (HeldTerm n) ts) vs e = let k = beside_ok (Ok (a.held n)) (all_denote a ts) vs e in more_well [] (all_demanded a links ts) (values_well a links ts k.1.0 k.1.1)
  values_well a links (AndTerm (ResultTerm r c) ts) vs e =
      let k = beside_ok (denoted_result r (results_of a c)) (all_denote a ts) vs e in
      let q = result_ok r (results_of a c) k.0.0 k.0.1 in
      then_well (unless (has_value links (ResultTerm r c)) (call_demanded a links c)) (all_demanded a links ts) (unless_well (has_value links (ResultTerm r c)) (call_demanded a links c) (λ b. call_well a links c q.0 q.1)) (values_well a links ts k.1.0 k.1.1)

-- ---- getting with entries

-- nothing was run
agrees_none : (s s' : State) (d : Demanded) → IsWell d → tasks_of s'.events ≡ tasks_of s.events → Agrees s d (Went s')
agrees_none s s' (Runs ts) h e = ([], e ∙ sym (append-nil (tasks_of s.events)), none_part ts)
agrees_none s s' (Refuses ts c code) h e = absurd h

agrees_more : (s s1 : State) (ts more : List Task) → tasks_of s1.events ≡ tasks_of s.events ++ more → IsPartOf more ts → (d : Demanded) (g : Got) → Agrees s1 d g → Agrees s (more_of ts d) g
agrees_more s s1 ts more e p (Runs us) (Went s2) h = (more ++ h.0, h.1 ∙ ap (λ xs. xs ++ h.0) e ∙ append_assoc (tasks_of s.events) more h.0, part_append h.0 us p h.2)
agrees_more s s1 ts more e p (Refuses us c code) (Stopped d code' s2) h = (h.0, h.1, (more ++ h.2.0, h.2.1 ∙ ap (λ xs. xs ++ h.2.0) e ∙ append_assoc (tasks_of s.events) more h.2.0, part_append h.2.0 us p h.2.2))
agrees_more s s1 ts more e p (Runs us) (Stopped d code s2) h = absurd h
agrees_more s s1 ts more e p (Refuses us c code) (Went s2) h = absurd h

-- one getting behind another
agrees_then : (s : State) (d e : Demanded) (g : Got) (next : State → Got) → Agrees s d g → ((s1 : State) → g ≡ Went s1 → Agrees s1 e (next s1)) → Agrees s (then_of d e) (and_then g next)
agrees_then s (Runs ts) e (Went s1) next h f = agrees_more s s1 ts h.0 h.1 h.2 e (next s1) (f s1 refl)
agrees_then s (Refuses ts c code) e (Stopped d code' s1) next h f = h
agrees_then s (Runs ts) e (Stopped d code s1) next h f = absurd h
agrees_then s (Refuses ts c code) e (Went s1) next h f = absurd h

run_agrees : (k : Frame) (m : Module) (ts : ValueTerms) (all : Answer) (s : State) → Agrees s (run_demanded k.around m ts all) (run_call k m ts all s)
run_agrees k m ts (Err code) s = (refl, refl, ([], sym (append-nil (tasks_of s.events)), part_none))
run_agrees k m ts (Ok values) s = after (k.around.answer m values (file_of k.around m values (own_file ts)))
  where
    after : (a : Answer) → Agrees s (answered (CallOf m ts) (task_of m ts values) a) (after_run k (CallOf m ts) a (with_event (RanAt (site_of k.formed (CallOf m ts)) (task_of m ts values)) s))
    after (Err code) = (refl, refl, (task_of m ts values ∷ [], tasks-append s.events (RanAt (site_of k.formed (CallOf m ts)) (task_of m ts values) ∷ []), part_keep part_none))
    after (Ok results) = (task_of m ts values ∷ [], store_tasks k.budget (entry_for k (CallOf m ts) results) (with_known (CallOf m ts) (with_event (RanAt (site_of k.formed (CallOf m ts)) (task_of m ts values)) s)) ∙ tasks-append s.events (RanAt (site_of k.formed (CallOf m ts)) (task_of m ts values) ∷ []), part_keep part_none)

known_results : (a : Around) (cs : List CallTerm) (c : CallTerm) → HaveResults a cs → has_call cs c ≡ true → HasResults a c
known_results a [] c h e = absurd (true≢false (sym e))
known_results a (d ∷ cs) c h e = cases (same_call d c)
    (λ q. (h.0.0, ap (results_of a) (sym (call_is d c q)) ∙ h.0.1))
    (λ q. let e1 : has_call cs c ≡ true = rw q at e in known_results a cs c h.1 e1)

link_agrees : (b : Bool) (s : State) (d : Demanded) (g : Got) → Agrees s d g → Agrees s (unless b d) (unless_link b s g)
link_agrees true s d g h = ([], sym (append-nil (tasks_of s.events)), part_none)
link_agrees false s d g h = h

module _ (k : Frame) (attributes : HaveAttributes k.formed) where
  obtain_agrees : (b0 b1 : Bool) (m : Module) (ts : ValueTerms) (s : State) → has_call s.known (CallOf m ts) ≡ b0 → has_entry s.entries (CallOf m ts) ≡ b1 → IsSound k.around k.budget s → Agrees s (all_demanded k.around k.links ts) (get_all k ts s) → Agrees s (call_demanded k.around k.links (CallOf m ts)) (obtain b0 b1 k m ts s (get_all k ts s))
  obtain_agrees true b1 m ts s p q h a =
      let r = known_results k.around s.known (CallOf m ts) h.known p in
      agrees_none s s (call_demanded k.around k.links (CallOf m ts)) (call_well k.around k.links (CallOf m ts) r.0 r.1) refl
  obtain_agrees false true m ts s p q h a =
      let r = found_results k attributes s.entries (CallOf m ts) h.entries q in
      agrees_none s (hit k (CallOf m ts) s) (call_demanded k.around k.links (CallOf m ts)) (call_well k.around k.links (CallOf m ts) r.0 r.1) (tasks-append s.events (HitAt (site_of k.formed (CallOf m ts)) ∷ []) ∙ append-nil (tasks_of s.events))
  obtain_agrees false false m ts s p q h a = agrees_then s (all_demanded k.around k.links ts) (run_demanded k.around m ts (all_denote k.around ts)) (get_all k ts s) (run_call k m ts (all_denote k.around ts)) a (λ s1 e. run_agrees k m ts (all_denote k.around ts) s1)

  mutual
    get_agrees : (t : ValueTerm) (s : State) → IsSound k.around k.budget s → Agrees s (demanded k.around k.links t) (get k t s)
    get_agrees (ConstantTerm c) s h = ([], sym (append-nil (tasks_of s.events)), part_none)
    get_agrees (HeldTerm n) s h = ([], sym (append-nil (tasks_of s.events)), part_none)
    get_agrees (FileTerm b) s h = ([], sym (append-nil (tasks_of s.events)), part_none)
    get_agrees (ResultTerm r c) s h = link_agrees (has_value k.links (ResultTerm r c)) s (call_demanded k.around k.links c) (get_call k c s) (call_agrees c s h)

    call_agrees : (c : CallTerm) (s : State) → IsSound k.around k.budget s → Agrees s (call_demanded k.around k.links c) (get_call k c s)
    call_agrees (CallOf m ts) s h = obtain_agrees (has_call s.known (CallOf m ts)) (has_entry s.entries (CallOf m ts)) m ts s refl refl h (all_agree ts s h)

    all_agree : (ts : ValueTerms) (s : State) → IsSound k.around k.budget s → Agrees s (all_demanded k.around k.links ts) (get_all k ts s)
    all_agree NoTerm s h = ([], sym (append-nil (tasks_of s.events)), part_none)
    all_agree (AndTerm t ts) s h = agrees_then s (demanded k.around k.links t) (all_demanded k.around k.links ts) (get k t s) (get_all k ts) (get_agrees t s h) (λ s1 e. all_agree ts s1 (subst (λ g. IsSound k.around k.budget (state_at g)) e (get_keeps k attributes t s h)))

pub getting_agrees : GettingAgrees
getting_agrees k t s attributes h = get_agrees k attributes t s h

-- ---- getting without

abbrev StillHave : Around → plain.Got → Type 0
StillHave a (plain.Went ran) = HaveResults a ran
StillHave a (plain.Stopped ran c code) = Unit {0}

abbrev Ends : Around → Demanded → plain.Got → Type 0
Ends a d g = EndsSo d g × StillHave a g

more_ends : (ts : List Task) (e : Demanded) (g : plain.Got) → EndsSo e g → EndsSo (more_of ts e) g
more_ends ts (Runs us) (plain.Went ran) h = h
more_ends ts (Refuses us c code) (plain.Stopped ran d code') h = h
more_ends ts (Runs us) (plain.Stopped ran d code) h = h
more_ends ts (Refuses us c code) (plain.Went ran) h = h

ends_then : (a : Around) (d e : Demanded) (g : plain.Got) (next : List CallTerm → plain.Got) → Ends a d g → ((ran : List CallTerm) → HaveResults a ran → Ends a e (next ran)) → Ends a (then_of d e) (plain.and_then g next)
ends_then a (Runs ts) e (plain.Went ran) next h f = let r = f ran h.1 in (more_ends ts e (next ran) r.0, r.1)
ends_then a (Refuses ts c code) e (plain.Stopped ran d code') next h f = h
ends_then a (Runs ts) e (plain.Stopped ran d code) next h f = absurd h.0
ends_then a (Refuses ts c code) e (plain.Went ran) next h f = absurd h.0

results_more : (a : Around) (cs : List CallTerm) (c : CallTerm) → HaveResults a cs → HasResults a c → HaveResults a (cs ++ c ∷ [])
results_more a [] c h r = (r, tt)
results_more a (d ∷ cs) c h r = (h.0, results_more a cs c h.1 r)

run_ends : (a : Around) (m : Module) (ts : ValueTerms) (all : Answer) (ran : List CallTerm) → all_denote a ts ≡ all → HaveResults a ran → Ends a (run_demanded a m ts all) (plain.run_of (CallOf m ts) (denoted_call a m (own_file ts) all) ran)
run_ends a m ts (Err code) ran e h = ((refl, refl), tt)
run_ends a m ts (Ok values) ran e h = after (a.answer m values (file_of a m values (own_file ts))) refl
  where
    after : (r : Answer) → a.answer m values (file_of a m values (own_file ts)) ≡ r → Ends a (answered (CallOf m ts) (task_of m ts values) r) (plain.run_of (CallOf m ts) r ran)
    after (Ok results) q = (tt, results_more a ran (CallOf m ts) h (results, ap (denoted_call a m (own_file ts)) e ∙ q))
    after (Err code) q = ((refl, refl), tt)

ends_none : (a : Around) (d : Demanded) (ran : List CallTerm) → IsWell d → HaveResults a ran → Ends a d (plain.Went ran)
ends_none a (Runs ts) ran w h = (tt, h)
ends_none a (Refuses ts c code) ran w h = absurd w

link_ends : (a : Around) (b : Bool) (d : Demanded) (ran : List CallTerm) (g : plain.Got) → HaveResults a ran → Ends a d g → Ends a (unless b d) (plain.unless b ran g)
link_ends a true d ran g h e = (tt, h)
link_ends a false d ran g h e = e

call_unless : (a : Around) (links : List ValueTerm) (b : Bool) (m : Module) (ts : ValueTerms) (ran : List CallTerm) (g : plain.Got) → has_call ran (CallOf m ts) ≡ b → HaveResults a ran → Ends a (call_demanded a links (CallOf m ts)) g → Ends a (call_demanded a links (CallOf m ts)) (plain.unless b ran g)
call_unless a links true m ts ran g q h e = let r = known_results a ran (CallOf m ts) h q in ends_none a (call_demanded a links (CallOf m ts)) ran (call_well a links (CallOf m ts) r.0 r.1) h
call_unless a links false m ts ran g q h e = e

mutual
  get_ends : (a : Around) (links : List ValueTerm) (t : ValueTerm) (ran : List CallTerm) → HaveResults a ran → Ends a (demanded a links t) (plain.get a links t ran)
  get_ends a links (ConstantTerm c) ran h = (tt, h)
  get_ends a links (HeldTerm n) ran h = (tt, h)
  get_ends a links (FileTerm b) ran h = (tt, h)
  get_ends a links (ResultTerm r c) ran h = link_ends a (has_value links (ResultTerm r c)) (call_demanded a links c) ran (plain.get_call a links c ran) h (call_ends a links c ran h)

  call_ends : (a : Around) (links : List ValueTerm) (c : CallTerm) (ran : List CallTerm) → HaveResults a ran → Ends a (call_demanded a links c) (plain.get_call a links c ran)
  call_ends a links (CallOf m ts) ran h = call_unless a links (has_call ran (CallOf m ts)) m ts ran (plain.and_then (plain.get_all a links ts ran) (plain.run_of (CallOf m ts) (results_of a (CallOf m ts)))) refl h (ends_then a (all_demanded a links ts) (run_demanded a m ts (all_denote a ts)) (plain.get_all a links ts ran) (plain.run_of (CallOf m ts) (results_of a (CallOf m ts))) (all_ends a links ts ran h) (λ ran1 h1. run_ends a m ts (all_denote a ts) ran1 refl h1))

  all_ends : (a : Around) (links : List ValueTerm) (ts : ValueTerms) (ran : List CallTerm) → HaveResults a ran → Ends a (all_demanded a links ts) (plain.get_all a links ts ran)
  all_ends a links NoTerm ran h = (tt, h)
  all_ends a links (AndTerm t ts) ran h = ends_then a (demanded a links t) (all_demanded a links ts) (plain.get a links t ran) (plain.get_all a links ts) (get_ends a links t ran h) (λ ran1 h1. all_ends a links ts ran1 h1)

pub plain_agrees : PlainAgrees
plain_agrees a links t ran h = (get_ends a links t ran h).0
