-- The runs of an execution are some of the uses that it demands, in their order.
use Rattle.std.proofs.Common.{◌≡◌, ℕ, ◌⊎◌, inl, inr, List, [], ◌∷◌, ◌++◌, Bool, true, false, refl, sym, ap, ◌∙◌, subst, append-nil}
use Rattle.std.specs.Prelude.{if◌then◌else◌}
use Rattle.dx_base.specs.declared.code.Code.{Code}
use Rattle.dx_base.specs.declared.function.Effect.{Effect}
use Rattle.dx_base.specs.declared.function.Function.TheVariants as function
use Rattle.dx_macros.specs.Site.{Step}
use Rattle.dx_macros.specs.Tree.{Place, CallTree, TreeCall, Trees}
use Rattle.dx_objects.specs.Runs.{Values, Ran}
use Rattle.dx_tags.specs.Closed.{ValueTerm, ValueTerms}
use Rattle.dx_links.specs.Denotes.{Around}
use Rattle.dx_cache.specs.Cached.{IsPartOf, part_none, part_keep, part_skip}
use Rattle.dx_machine.specs.Machine.{Task, Cleared, FormedCall, Frame, State, state_at, tasks_of, runs_in, get, get_all}
use Rattle.dx_machine.specs.Sound.{HaveAttributes, IsSound}
use Rattle.dx_machine.proofs.Grows.{tasks-append}
use Rattle.dx_machine.proofs.Keeping.{getting_all_keeps}
use Rattle.dx_meaning.specs.Outcome.{Value, Use, Decided, Val, ErrAt, Off, HaltAt, demand}
use Rattle.dx_meaning.specs.Meaning.{World, outcome, outcomes, together}
use Rattle.dx_meaning.specs.Scan.{Scanned, Forms, Ends, scan, scan_each, all_scanned}
use Rattle.dx_meaning.specs.Forming.{after}
use Rattle.dx_meaning.specs.Term.{Names, around, term_of, terms_of}
use Rattle.dx_performing.specs.Acts.{Act, Prints, Puts, Sets, Refuses, act, is_refusal}
use Rattle.dx_performing.specs.Execution.{Execution, execution, performing, deciding}
use Rattle.dx_performing.specs.Kept.{Kept, is_full}
use Rattle.dx_performing.specs.Course.{Fixed, At, Came, world_of, around_of, sight_of, frame_with, begins, formed_calls, as_terms, look_at, get_scanned, effect_got, came, ends_by, worked, unless, course, committed, clearing}
use Rattle.dx_performing.specs.Meant.{IsHalted, Means, CameSo, LinksRight}
use Rattle.dx_performing.specs.Selectors.{selectors_all}
use Rattle.dx_performing.specs.SoundEntries.{AreLawfulCalls}
use Rattle.dx_performing.proofs.EntriesSound.{StandsSound}
use Rattle.dx_performing.proofs.Executed.{names_of, full, denote}
use Rattle.dx_performing.proofs.Meant.{tree_means, all_means, effect_comes}
use Rattle.dx_demanded.specs.Ordered.{asked, RanPart, AreReady, SelectorsInOrder, TermsInOrder, ArgumentsInOrder, ExecutionsInOrder, names}
use Rattle.dx_demanded.specs.Used.{IsUsed, AreUsed, RunsAreDemanded}
use Rattle.dx_demanded.proofs.ControlOrder.{GetsData, frame, AllRan, selectors_got, all_got, named_gets, named_all_ran, all_data_ran}
use Rattle.dx_demanded.proofs.Kept.{terms_in, are_links}
use Rattle.dx_demanded.proofs.Parts.{asked_append, ran_none, ran_then, then_ran}
use Rattle.dx_demanded.proofs.Ready.{all_got_ready}
use Rattle.dx_demanded.proofs.Sound.{worked_sound}

-- ---- trees

pub selectors_in_order : SelectorsInOrder
selectors_in_order x k formed t s r f h =
    let l = are_links x k r in
    selectors_got (world_of x k) (names_of k) (sight_of x k) (terms_in k.links) l (full x k) formed f x.budget t s h

data_ran : (a : Around) (k : Frame) (d : Decided Value) (own : List ValueTerm) (us : List Use) (t u : ValueTerm) (x : Scanned ValueTerm) (s : State) → Means a d t x → x ≡ Forms u → IsSound k.around k.budget s → AreReady k s own → GetsData k d own us t → RanPart s (asked us) (state_at (get k u s))
data_ran a k Off own us t u x s m e i r g = cc
data_ran a k (HaltAt site code) own us t u x s m e i r g = absurd (subst (IsHalted a site code) e m)
data_ran a k (ErrAt site code) own us t u x s m e i r g = let same : t ≡ u = cc in subst (λ v. RanPart s (asked us) (state_at (get k v s))) same (g s i r)
data_ran a k (Val v) own us t u x s m e i r g = let same : t ≡ u = cc in subst (λ v. RanPart s (asked us) (state_at (get k v s))) same (g s i r)

pub terms_in_order : TermsInOrder
terms_in_order x k formed t u s r f h e ready =
    let w = world_of x k in
    let n = names_of k in
    let sight = sight_of x k in
    let l = are_links x k r in
    data_ran (around_of x k) (frame_with x k formed) (outcome w t).decided (names sight t) (outcome w t).data_uses (term_of w n t) u (scan sight t) s (tree_means w n sight l.denote (full x k) t) e h ready
    (named_gets w n sight (terms_in k.links) l (full x k) formed f x.budget t)

all_ran : (a : Around) (k : Frame) (d : Decided Values) (us : List Use) (ts vs : ValueTerms) (x : Scanned ValueTerms) (s : State) → Means a d ts x → x ≡ Forms vs → AllRan k d us ts s → RanPart s (asked us) (state_at (get_all k vs s))
all_ran a k Off us ts vs x s m e g = cc
all_ran a k (HaltAt site code) us ts vs x s m e g = absurd (subst (IsHalted a site code) e m)
all_ran a k (ErrAt site code) us ts vs x s m e g = let same : ts ≡ vs = cc in subst (λ y. RanPart s (asked us) (state_at (get_all k y s))) same g
all_ran a k (Val values) us ts vs x s m e g = let same : ts ≡ vs = cc in subst (λ y. RanPart s (asked us) (state_at (get_all k y s))) same g

pub arguments_in_order : ArgumentsInOrder
arguments_in_order x k formed args ts s r f h e ready =
    let w = world_of x k in
    let n = names_of k in
    let sight = sight_of x k in
    let l = are_links x k r in
    let o = together (outcomes w args) in
    all_ran (around_of x k) (frame_with x k formed) o.decided o.data_uses (terms_of w n args) ts (all_scanned (scan_each sight args)) s (all_means w n sight l.denote (full x k) args) e
    (named_all_ran w n sight (terms_in k.links) l (full x k) formed f x.budget args s h ready)

-- ---- an effect

halted_ran : (a : Around) (k : Frame) (rs : List Ran) (site : List Step) (code : Code) (x : Scanned ValueTerms) (s : State) → IsHalted a site code x → RanPart s rs (state_at (get_scanned k x s))
halted_ran a k rs site code (Forms ts) s h = absurd h
halted_ran a k rs site code (Ends e) s h = ran_none s rs

-- the arguments, behind the selectors
arguments_ran : (w : World) (n : Names) (links : List ValueTerm) (formed : List FormedCall) (budget : ℕ) (us : List Use) (d : Decided Values) (ts : ValueTerms) (x : Scanned ValueTerms) (s : State) → Means (around w n) d ts x → AllRan (frame w n links formed budget) d us ts s → RanPart s (asked us) (state_at (get_scanned (frame w n links formed budget) x s))
arguments_ran w n links formed budget us Off ts x s m p = subst (λ y. RanPart s (asked us) (state_at (get_scanned (frame w n links formed budget) y s))) (sym m) (ran_none s (asked us))
arguments_ran w n links formed budget us (HaltAt site code) ts x s m p = halted_ran (around w n) (frame w n links formed budget) (asked us) site code x s m
arguments_ran w n links formed budget us (ErrAt site code) ts x s m p = subst (λ y. RanPart s (asked us) (state_at (get_scanned (frame w n links formed budget) y s))) (sym m) p
arguments_ran w n links formed budget us (Val vs) ts x s m p = subst (λ y. RanPart s (asked us) (state_at (get_scanned (frame w n links formed budget) y s))) (sym m) p

effect_ran : (x : Fixed) (k : Kept) → LinksRight (around_of x k) k.links → (formed : List FormedCall) (args : Trees) (s : State) → HaveAttributes formed → IsSound (around_of x k) x.budget s →
    RanPart s (asked (demand (together (outcomes (world_of x k) args)))) (state_at (effect_got (frame_with x k formed) (look_at (sight_of x k) args) s))
effect_ran x k r formed args s f h =
    let w = world_of x k in
    let n = names_of k in
    let a = around_of x k in
    let links = terms_in k.links in
    let l = are_links x k r in
    let o = together (outcomes w args) in
    let frame = frame_with x k formed in
    let sight = sight_of x k in
    let own = selectors_all sight args in
    subst (λ rs. RanPart s rs (state_at (effect_got frame (look_at sight args) s))) (sym (asked_append o.control_uses o.data_uses))
    (then_ran s (asked o.control_uses) (asked o.data_uses) (get_all frame (as_terms own) s) (get_scanned frame (look_at sight args).terms) (all_got w n sight links l (full x k) formed f x.budget args s h)
    (λ s1 e.
    let i = subst (λ g. IsSound a x.budget (state_at g)) e (getting_all_keeps frame (as_terms own) s f h) in
    let ready = all_got_ready frame own s s1 e in
    arguments_ran w n links formed x.budget o.data_uses o.decided (terms_of w n args) (look_at sight args).terms s1 (all_means w n sight l.denote (full x k) args) (all_data_ran w n sight links l (full x k) formed f x.budget args s1 i ready)))

-- ---- an execution

by_act : (site : List Step) (b : Act) (rest : Execution) (now later : At) → RanPart now.state (asked rest.demanded) later.state → RanPart now.state (asked (performing site b rest).demanded) (unless (is_refusal b) now later).state
by_act site (Prints text) rest now later p = p
by_act site (Puts name content) rest now later p = p
by_act site (Sets name v) rest now later p = p
by_act site (Refuses code) rest now later p = ran_none now.state []

by_decided : (e : Effect) (p : Place) (d : Decided Values) (ts : ValueTerms) (c : Came) (rest : Execution) (now later : At) → CameSo d ts c → RanPart now.state (asked rest.demanded) later.state → RanPart now.state (asked (deciding e p d rest).demanded) (unless (ends_by e p c) now later).state
by_decided e p Off ts c rest now later m h = subst (λ y. RanPart now.state (asked rest.demanded) (unless (ends_by e p y) now later).state) (sym m) h
by_decided e p (HaltAt site code) ts c rest now later m h = subst (λ y. RanPart now.state [] (unless (ends_by e p y) now later).state) (sym m) (ran_none now.state [])
by_decided e p (ErrAt site code) ts c rest now later m h = subst (λ y. RanPart now.state [] (unless (ends_by e p y) now later).state) (sym m) (ran_none now.state [])
by_decided e p (Val vs) ts c rest now later m h = subst (λ y. RanPart now.state (asked (deciding e p (Val vs) rest).demanded) (unless (ends_by e p y) now later).state) (sym m) (by_act p.site (act e p vs) rest now later h)

course_ran : (x : Fixed) (k : Kept) → LinksRight (around_of x k) k.links → (effects : List CallTree) → AreLawfulCalls effects → (at : At) → StandsSound x k at → RanPart at.state (asked (execution (world_of x k) effects).demanded) (course x k effects at).state
course_ran x k r [] h at i = ran_none at.state []
course_ran x k r (TreeCall (function.Effect e) p args ∷ cs) h at i =
    let w = world_of x k in
    let looked = look_at (sight_of x k) args in
    let now = worked x k e p looked at in
    let stands = worked_sound x k e p args at h.0.1 i in
    let o = together (outcomes w args) in
    let rest = execution w cs in
    let later = course x k cs now in
    let c = came (around_of x k) looked.terms in
    let end = unless (ends_by e p c) now later in
    subst (λ rs. RanPart at.state rs end.state) (sym (asked_append (demand o) (deciding e p o.decided rest).demanded))
    (ran_then at.state now.state end.state (asked (demand o)) (asked (deciding e p o.decided rest).demanded) (effect_ran x k r (formed_calls (after looked.forms at.formings)) args at.state stands.formed i.state)
    (by_decided e p o.decided (terms_of w (names_of k) args) c rest now later (effect_comes w (names_of k) (sight_of x k) (denote x k r) (full x k) args) (course_ran x k r cs h.1 now stands)))
course_ran x k r (TreeCall (function.Module m) p args ∷ cs) h at i = course_ran x k r cs h.1 at i
course_ran x k r (TreeCall function.Switch p args ∷ cs) h at i = course_ran x k r cs h.1 at i
course_ran x k r (TreeCall function.Route p args ∷ cs) h at i = course_ran x k r cs h.1 at i
course_ran x k r (TreeCall function.GetLocal p args ∷ cs) h at i = course_ran x k r cs h.1 at i
course_ran x k r (TreeCall function.GetGlobal p args ∷ cs) h at i = course_ran x k r cs h.1 at i

-- an emptying runs nothing
pub cleared_runs_none : (k : Kept) → tasks_of (clearing k) ≡ []
cleared_runs_none k = by (is_full k.terms)
  where
    by : (b : Bool) → tasks_of (if b then Cleared ∷ [] else []) ≡ []
    by true = refl
    by false = refl

pub executions_in_order : ExecutionsInOrder
executions_in_order x k effects lawful r h =
    let w = world_of x k in
    let us = (execution w effects).demanded in
    let at = course x k effects (begins k) in
    let behind_it = committed k (execution w effects) at in
    let ran = course_ran x k r effects lawful (begins k) (record { state = h; formed = tt }) in
    let tasks : tasks_of (at.state.events ++ clearing behind_it) ≡ ran.0 = tasks-append at.state.events (clearing behind_it) ∙ ap (λ ts. tasks_of at.state.events ++ ts) (cleared_runs_none behind_it) ∙ append-nil (tasks_of at.state.events) ∙ ran.1 in
    subst (λ ts. IsPartOf (runs_in ts) (asked us)) (sym tasks) ran.2

-- ---- so each of them is one of these uses

abbrev IsAmong : Ran → List Ran → Type 0
IsAmong r [] = ⊥
IsAmong r (q ∷ qs) = (q ≡ r) ⊎ IsAmong r qs

abbrev AreAmong : List Ran → List Ran → Type 0
AreAmong [] qs = Unit {0}
AreAmong (r ∷ rs) qs = IsAmong r qs × AreAmong rs qs

among_more : (q : Ran) (rs qs : List Ran) → AreAmong rs qs → AreAmong rs (q ∷ qs)
among_more q [] qs h = tt
among_more q (r ∷ rs) qs h = (inr h.0, among_more q rs qs h.1)

part_among : {rs qs : List Ran} → IsPartOf rs qs → AreAmong rs qs
part_among part_none = tt
part_among (part_keep {x = x} {xs = xs} {ys = ys} p) = (inl refl, among_more x xs ys (part_among p))
part_among (part_skip {y = y} {xs = xs} {ys = ys} p) = among_more y xs ys (part_among p)

among_used : (us : List Use) (t : Task) → IsAmong t.run (asked us) → IsUsed us t
among_used [] t h = absurd h
among_used (u ∷ us) t (inl e) = inl (ap (λ (r : Ran). r.0) e, ap (λ (r : Ran). r.1) e)
among_used (u ∷ us) t (inr h) = inr (among_used us t h)

all_used : (us : List Use) (ts : List Task) → AreAmong (runs_in ts) (asked us) → AreUsed us ts
all_used us [] h = tt
all_used us (t ∷ ts) h = (among_used us t h.0, all_used us ts h.1)

pub runs_demanded : RunsAreDemanded
runs_demanded x k effects lawful r h = all_used (execution (world_of x k) effects).demanded _ (part_among (executions_in_order x k effects lawful r h))
