-- A getting that is refused runs the call that refuses, and runs it last.
use Rattle.std.proofs.Common.{◌≡◌, List, [], ◌∷◌, ◌++◌, Bool, true, false, refl, sym, ap, ◌∙◌, subst, append_assoc}
use Rattle.std.specs.Prelude.{Result, Ok, Err}
use Rattle.dx_base.specs.declared.code.Code.{Code}
use Rattle.dx_base.specs.declared.function.Module.{Module}
use Rattle.dx_objects.specs.Runs.{Values, Ran, Answer}
use Rattle.dx_tags.specs.Closed.{ValueTerm, ConstantTerm, HeldTerm, ResultTerm, FileTerm, CallTerm, CallOf, ValueTerms, NoTerm, AndTerm}
use Rattle.dx_links.specs.Denotes.{Around, own_file, file_of, all_denote}
use Rattle.dx_links.specs.Getting.{has_value, has_call}
use Rattle.dx_machine.specs.Machine.{RanAt, Task, task_of, Frame, State, Got, Went, Stopped, and_then, state_at, tasks_of, runs_in, site_of, has_entry, with_event, after_run, run_call, obtain, unless_link, get, get_call, get_all}
use Rattle.dx_machine.specs.Sound.{HaveAttributes, IsSound}
use Rattle.dx_machine.specs.Agree.{Demanded, Runs, Refuses, all_demanded, Agrees}
use Rattle.dx_machine.proofs.Grows.{RunsGrow, tasks-append, get_grows, all_grow}
use Rattle.dx_machine.proofs.Keeping.{getting_keeps}
use Rattle.dx_demanded.specs.Last.{IsLast, RanLast}
use Rattle.dx_demanded.proofs.Ends.{EndsAs, AreValued, terms_end}
use Rattle.dx_demanded.proofs.Got.{getting_all_agrees}
use Rattle.dx_demanded.proofs.Parts.{runs_append}

-- ---- the last of a list

pub last_behind : {A : Type 0} (x : A) (xs ys : List A) → IsLast x ys → IsLast x (xs ++ ys)
last_behind x xs ys h = (xs ++ h.0, ap (λ zs. xs ++ zs) h.1 ∙ sym (append_assoc xs h.0 (x ∷ [])))

ran_last_behind : (s s1 s2 : State) (more : List Task) (r : Ran) → tasks_of s1.events ≡ tasks_of s.events ++ more → RanLast s1 r s2 → RanLast s r s2
ran_last_behind s s1 s2 more r e h =
    (more ++ h.0, h.1 ∙ ap (λ xs. xs ++ h.0) e ∙ append_assoc (tasks_of s.events) more h.0, subst (IsLast r) (sym (runs_append more h.0)) (last_behind r (runs_in more) (runs_in h.0) h.2))

-- ---- the run of a call

-- of its module, on the values of its arguments
abbrev pub IsRunOf : Around → CallTerm → Ran → Type 0
IsRunOf a (CallOf m ts) r = (r.0 ≡ m) × (all_denote a ts ≡ Ok r.1)

-- where a call refuses, it was run last
abbrev pub RefusesLast : Around → State → Got → Type 0
RefusesLast a s (Went s1) = Unit {0}
RefusesLast a s (Stopped c code s1) = (r : Ran) × IsRunOf a c r × RanLast s r s1

refuses_behind : (a : Around) (s s1 : State) (more : List Task) → tasks_of s1.events ≡ tasks_of s.events ++ more → (g : Got) → RefusesLast a s1 g → RefusesLast a s g
refuses_behind a s s1 more e (Went s2) h = tt
refuses_behind a s s1 more e (Stopped c code s2) h = (h.0, h.1, ran_last_behind s s1 s2 more h.0 e h.2)

then_refuses : (a : Around) (s : State) (g : Got) (next : State → Got) → RunsGrow s g → RefusesLast a s g → ((s1 : State) → g ≡ Went s1 → RefusesLast a s1 (next s1)) → RefusesLast a s (and_then g next)
then_refuses a s (Went s1) next grows h f = refuses_behind a s s1 grows.more grows.runs (next s1) (f s1 refl)
then_refuses a s (Stopped c code s1) next grows h f = h

-- what was got to its end denotes values
went_values : {A : Type 0} (a : Around) (r : Result A Code) (d : Demanded) (s s1 : State) → EndsAs a r d → Agrees s d (Went s1) → (v : A) × (r ≡ Ok v)
went_values a (Ok v) d s s1 h k = (v, refl)
went_values a (Err code) (Runs ts) s s1 h k = absurd h
went_values a (Err code) (Refuses ts c code') s s1 h k = absurd k

run_refuses : (k : Frame) (m : Module) (ts : ValueTerms) (all : Answer) (values : Values) (s : State) → all_denote k.around ts ≡ all → all ≡ Ok values → RefusesLast k.around s (run_call k m ts all s)
run_refuses k m ts (Err code) values s e q = cc
run_refuses k m ts (Ok vs) values s e q = after (k.around.answer m vs (file_of k.around m vs (own_file ts)))
  where
    after : (b : Answer) → RefusesLast k.around s (after_run k (CallOf m ts) b (with_event (RanAt (site_of k.formed (CallOf m ts)) (task_of m ts vs)) s))
    after (Ok results) = tt
    after (Err code) = ((m, vs), (refl, e), (task_of m ts vs ∷ [], tasks-append s.events (RanAt (site_of k.formed (CallOf m ts)) (task_of m ts vs) ∷ []), ([], refl)))

link_refuses : (a : Around) (b : Bool) (s : State) (g : Got) → RefusesLast a s g → RefusesLast a s (unless_link b s g)
link_refuses a true s g h = tt
link_refuses a false s g h = h

-- ---- getting, where each link's term denotes a value

module _ (k : Frame) (attributes : HaveAttributes k.formed) (valued : AreValued k.around k.links) where
  behind_arguments : (m : Module) (ts : ValueTerms) (s s1 : State) → IsSound k.around k.budget s → get_all k ts s ≡ Went s1 → RefusesLast k.around s1 (run_call k m ts (all_denote k.around ts) s1)
  behind_arguments m ts s s1 h e =
      let agrees = subst (Agrees s (all_demanded k.around k.links ts)) e (getting_all_agrees k ts s attributes h) in
      let values = went_values k.around (all_denote k.around ts) (all_demanded k.around k.links ts) s s1 (terms_end k.around k.links valued ts) agrees in
      run_refuses k m ts (all_denote k.around ts) values.0 s1 refl values.1

  obtain_refuses : (known entry : Bool) (m : Module) (ts : ValueTerms) (s : State) → IsSound k.around k.budget s → RefusesLast k.around s (get_all k ts s) → RefusesLast k.around s (obtain known entry k m ts s (get_all k ts s))
  obtain_refuses true entry m ts s h r = tt
  obtain_refuses false true m ts s h r = tt
  obtain_refuses false false m ts s h r = then_refuses k.around s (get_all k ts s) (run_call k m ts (all_denote k.around ts)) (all_grow k ts s) r (λ s1 e. behind_arguments m ts s s1 h e)

  mutual
    pub get_refuses : (t : ValueTerm) (s : State) → IsSound k.around k.budget s → RefusesLast k.around s (get k t s)
    get_refuses (ConstantTerm c) s h = tt
    get_refuses (HeldTerm n) s h = tt
    get_refuses (FileTerm b) s h = tt
    get_refuses (ResultTerm r c) s h = link_refuses k.around (has_value k.links (ResultTerm r c)) s (get_call k c s) (call_refuses c s h)

    call_refuses : (c : CallTerm) (s : State) → IsSound k.around k.budget s → RefusesLast k.around s (get_call k c s)
    call_refuses (CallOf m ts) s h = obtain_refuses (has_call s.known (CallOf m ts)) (has_entry s.entries (CallOf m ts)) m ts s h (all_refuse ts s h)

    pub all_refuse : (ts : ValueTerms) (s : State) → IsSound k.around k.budget s → RefusesLast k.around s (get_all k ts s)
    all_refuse NoTerm s h = tt
    all_refuse (AndTerm t ts) s h =
        then_refuses k.around s (get k t s) (get_all k ts) (get_grows k t s) (get_refuses t s h)
        (λ s1 e. all_refuse ts s1 (subst (λ g. IsSound k.around k.budget (state_at g)) e (getting_keeps k t s attributes h)))
