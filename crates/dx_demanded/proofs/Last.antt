-- A getting that is refused ends with the run of the last use.
use Rattle.std.proofs.Common.{◌≡◌, List, sym, ap₂, ◌∙◌, subst}
use Rattle.dx_objects.specs.Runs.{Ran}
use Rattle.dx_tags.specs.Closed.{CallTerm, CallOf}
use Rattle.dx_links.specs.Denotes.{Around}
use Rattle.dx_machine.specs.Machine.{State, Got, Went, Stopped, get, get_all}
use Rattle.dx_machine.specs.Agree.{Demanded, Runs, Refuses, demanded, all_demanded, Agrees}
use Rattle.dx_machine.proofs.Agreeing.{getting_agrees}
use Rattle.dx_meaning.specs.Outcome.{Use, Decided, Val, ErrAt, Off, HaltAt}
use Rattle.dx_meaning.specs.Meaning.{outcome, outcomes, together}
use Rattle.dx_meaning.specs.Met.{Called, met, each_met, all_met}
use Rattle.dx_meaning.specs.More.{Keeps}
use Rattle.dx_meaning.specs.Scan.{Scanned, Forms, scan, scan_each, all_scanned}
use Rattle.dx_meaning.specs.Term.{term_of, terms_of}
use Rattle.dx_meaning.proofs.Keeping.{scan_keeps, all_keeps, each_keeps, forms_kept}
use Rattle.dx_performing.specs.Course.{around_of, world_of, sight_of, frame_with}
use Rattle.dx_performing.specs.Meant.{IsHalted, Means}
use Rattle.dx_performing.proofs.Executed.{names_of, full}
use Rattle.dx_performing.proofs.Meant.{tree_means, all_means}
use Rattle.dx_demanded.specs.Found.{Goes, Finds}
use Rattle.dx_demanded.specs.Last.{RanLast, StopsLast, GotLast, TermsStopLast, ArgumentsStopLast}
use Rattle.dx_demanded.proofs.Got.{getting_all_agrees}
use Rattle.dx_demanded.proofs.Kept.{terms_in, are_links}
use Rattle.dx_demanded.proofs.LastUses.{LastUse, tree_last, all_last}
use Rattle.dx_demanded.proofs.Refused.{IsRunOf, RefusesLast, get_refuses, all_refuse}
use Rattle.dx_demanded.proofs.Trees.{tree_needs, all_need}

-- a call has one run
pub same_run : (a : Around) (c : CallTerm) (r q : Ran) → IsRunOf a c r → IsRunOf a c q → r ≡ q
same_run a (CallOf m ts) r q h k = let same : r.1 ≡ q.1 = cc in ap₂ (λ called values. (called, values)) (h.0 ∙ sym k.0) same

-- where there is a value or an error
abbrev GotSo : {A : Type 0} → Decided A → List Use → State → Got → Type 0
GotSo (Val v) us s g = Goes g
GotSo (ErrAt site code) us s g = StopsLast site code us s g
GotSo Off us s g = Unit {0}
GotSo (HaltAt site code) us s g = Unit {0}

got_so : {A : Type 0} (a : Around) (s : State) (d : Decided A) (us : List Use) (calls : List Called) (needed : Demanded) (g : Got) → Finds a d calls needed → LastUse a d us needed → Agrees s needed g → RefusesLast a s g → GotSo d us s g
got_so a s Off us calls needed g f l h r = tt
got_so a s (HaltAt site code) us calls needed g f l h r = tt
got_so a s (Val v) us calls (Runs ts) (Went s1) f l h r = tt
got_so a s (Val v) us calls (Runs ts) (Stopped c code s1) f l h r = h
got_so a s (Val v) us calls (Refuses ts c code) g f l h r = absurd f
got_so a s (ErrAt site code) us calls (Runs ts) g f l h r = absurd f
got_so a s (ErrAt site code) us calls (Refuses ts c code') (Went s1) f l h r = h
got_so a s (ErrAt site code) us calls (Refuses ts c code') (Stopped d code'' s1) f l h r =
    let own = subst (λ e. IsRunOf a e r.0) h.0 r.1 in
    (h.1 ∙ f.0, (l.0, l.1, l.2, subst (λ q. RanLast s q s1) (same_run a c r.0 (l.0.called, l.0.inputs) own l.3) r.2))

-- the terms that are got are those that are meant
by_means : {A T : Type 0} (a : Around) (d : Decided A) (us : List Use) (s : State) (t u : T) (x : Scanned T) (go : T → Got) → Means a d t x → x ≡ Forms u → GotSo d us s (go t) → GotLast d us s (go u)
by_means a Off us s t u x go m e h = cc
by_means a (HaltAt site code) us s t u x go m e h = absurd (subst (IsHalted a site code) e m)
by_means a (Val v) us s t u x go m e h = let same : t ≡ u = cc in subst (λ r. GotLast (Val v) us s (go r)) same h
by_means {A = A} a (ErrAt site code) us s t u x go m e h = let same : t ≡ u = cc in subst (λ r. GotLast {A = A} (ErrAt site code) us s (go r)) same h

pub terms_stop_last : TermsStopLast
terms_stop_last x k told formed t u s r more f h e =
    let w = world_of x k in
    let n = names_of k in
    let sight = sight_of x k in
    let links = terms_in k.links in
    let l = are_links x k r in
    let frame = frame_with x k formed in
    let o = outcome w t in
    let meant = term_of w n t in
    by_means (around_of x k) o.decided o.data_uses s meant u (scan sight t) (λ v. get frame v s) (tree_means w n sight l.denote (full x k) t) (forms_kept (scan told t) (scan sight t) u (scan_keeps told sight more t) e)
    (got_so (around_of x k) s o.decided o.data_uses (met sight t) (demanded (around_of x k) links meant) (get frame meant s) (tree_needs w n sight links l (full x k) t).found (tree_last w n sight links l (full x k) t)
    (getting_agrees frame meant s f h) (get_refuses frame f l.valued meant s h))

pub arguments_stop_last : ArgumentsStopLast
arguments_stop_last x k told formed args ts s r more f h e =
    let w = world_of x k in
    let n = names_of k in
    let sight = sight_of x k in
    let links = terms_in k.links in
    let l = are_links x k r in
    let frame = frame_with x k formed in
    let o = together (outcomes w args) in
    let meant = terms_of w n args in
    let keeps : Keeps (all_scanned (scan_each told args)) (all_scanned (scan_each sight args)) = all_keeps (scan_each told args) (scan_each sight args) (each_keeps told sight more args) in
    by_means (around_of x k) o.decided o.data_uses s meant ts (all_scanned (scan_each sight args)) (λ us. get_all frame us s) (all_means w n sight l.denote (full x k) args) (forms_kept (all_scanned (scan_each told args)) (all_scanned (scan_each sight args)) ts keeps e)
    (got_so (around_of x k) s o.decided o.data_uses (all_met (each_met sight args)) (all_demanded (around_of x k) links meant) (get_all frame meant s) (all_need w n sight links l (full x k) args).found (all_last w n sight links l (full x k) args)
    (getting_all_agrees frame meant s f h) (all_refuse frame f l.valued meant s h))
