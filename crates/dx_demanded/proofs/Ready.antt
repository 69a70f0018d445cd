-- Terms that are ready may be taken for terms of links.
use Rattle.std.proofs.Common.{◌≡◌, ℕ, List, [], ◌∷◌, ◌++◌, Bool, true, false, None, refl, sym, ap, ◌∙◌, subst, true≢false}
use Rattle.std.specs.Prelude.{◌||◌, Ok, Err}
use Rattle.dx_base.specs.declared.function.Module.{Module}
use Rattle.dx_ast.specs.Value.{value_of}
use Rattle.dx_objects.specs.Values.{value_at}
use Rattle.dx_tags.specs.Closed.{ValueTerm, ConstantTerm, HeldTerm, ResultTerm, FileTerm, CallTerm, CallOf, ValueTerms, NoTerm, AndTerm}
use Rattle.dx_objects.specs.Runs.{Answer}
use Rattle.dx_links.specs.Denotes.{Around, own_file, file_of, denotes, denoted_result, results_of, all_denote}
use Rattle.dx_links.specs.Getting.{same_value, same_call, has_value, has_call}
use Rattle.dx_cache.proofs.Places.{cases}
use Rattle.dx_machine.specs.Machine.{Frame, State, Got, Went, Stopped, and_then, state_at, RanAt, with_event, task_of, site_of, after_run, run_call, has_entry, obtain, unless_link, get, get_call, get_all}
use Rattle.dx_machine.specs.Sound.{HasResults, HaveResults, IsSound}
use Rattle.dx_machine.proofs.SameTerms.{value_is, call_is}
use Rattle.dx_meaning.specs.Outcome.{Value}
use Rattle.dx_meaning.specs.Meaning.{World}
use Rattle.dx_meaning.specs.Term.{Names, around}
use Rattle.dx_performing.specs.Course.{as_terms}
use Rattle.dx_performing.specs.Resuming.{is_ready}
use Rattle.dx_performing.proofs.Ready.{ready_gives, ready_stays, got_ready}
use Rattle.dx_demanded.specs.Found.{AreLinks}
use Rattle.dx_demanded.specs.Ordered.{AreReady}

-- ---- readiness stays

pub ready_append : (k : Frame) (s : State) (ts us : List ValueTerm) → AreReady k s ts → AreReady k s us → AreReady k s (ts ++ us)
ready_append k s [] us p q = q
ready_append k s (t ∷ ts) us p q = (p.0, ready_append k s ts us p.1 q)

pub ready_front : (k : Frame) (s : State) (ts us : List ValueTerm) → AreReady k s (ts ++ us) → AreReady k s ts
ready_front k s [] us p = tt
ready_front k s (t ∷ ts) us p = (p.0, ready_front k s ts us p.1)

pub are_ready_still : (k : Frame) (t : ValueTerm) (s s1 : State) → get k t s ≡ Went s1 → (ts : List ValueTerm) → AreReady k s ts → AreReady k s1 ts
are_ready_still k t s s1 e [] h = tt
are_ready_still k t s s1 e (u ∷ ts) h = ((ready_stays k t s s1 e).1 u h.0, are_ready_still k t s s1 e ts h.1)

and_then_went : (g : Got) (next : State → Got) (s2 : State) → and_then g next ≡ Went s2 → (s1 : State) × (g ≡ Went s1) × (next s1 ≡ Went s2)
and_then_went (Went s1) next s2 e = (s1, refl, e)
and_then_went (Stopped c code s1) next s2 e = cc

all_ready_still : (k : Frame) (us : List ValueTerm) (s s1 : State) → get_all k (as_terms us) s ≡ Went s1 → (ts : List ValueTerm) → AreReady k s ts → AreReady k s1 ts
all_ready_still k [] s s1 e ts h = subst (λ g. AreReady k (state_at g) ts) e h
all_ready_still k (u ∷ us) s s1 e ts h = let q = and_then_went (get k u s) (get_all k (as_terms us)) s1 e in all_ready_still k us q.0 s1 q.2 ts (are_ready_still k u s q.0 q.1 ts h)

-- what was got is ready
pub all_got_ready : (k : Frame) (ts : List ValueTerm) (s s1 : State) → get_all k (as_terms ts) s ≡ Went s1 → AreReady k s1 ts
all_got_ready k [] s s1 e = tt
all_got_ready k (t ∷ ts) s s1 e =
    let q = and_then_went (get k t s) (get_all k (as_terms ts)) s1 e in
    ((all_ready_still k ts q.0 s1 q.2 (t ∷ []) (got_ready k t s q.0 q.1, tt)).0, all_got_ready k ts q.0 s1 q.2)

-- ---- getting with them among the links

abbrev pub with_links : Frame → List ValueTerm → Frame
with_links k ts = record { around = k.around; links = k.links ++ ts; formed = k.formed; budget = k.budget }

front_by : (b r r' : Bool) → (r ≡ true → r' ≡ true) → (b || r) ≡ true → (b || r') ≡ true
front_by true r r' f e = refl
front_by false r r' f e = f e

has_front : (us ts : List ValueTerm) (t : ValueTerm) → has_value us t ≡ true → has_value (us ++ ts) t ≡ true
has_front [] ts t e = absurd (true≢false (sym e))
has_front (u ∷ us) ts t e = front_by (same_value u t) (has_value us t) (has_value (us ++ ts) t) (has_front us ts t) e

behind_by : (b r r' q : Bool) → (r ≡ false → r' ≡ q) → (b || r) ≡ false → (b || r') ≡ q
behind_by true r r' q f e = absurd (true≢false e)
behind_by false r r' q f e = f e

has_behind : (us ts : List ValueTerm) (t : ValueTerm) → has_value us t ≡ false → has_value (us ++ ts) t ≡ has_value ts t
has_behind [] ts t e = refl
has_behind (u ∷ us) ts t e = behind_by (same_value u t) (has_value us t) (has_value (us ++ ts) t) (has_value ts t) (has_behind us ts t) e

-- each of them is ready
ready_by : (b : Bool) (k : Frame) (s : State) (u t : ValueTerm) (rest : Bool) → same_value u t ≡ b → is_ready k s u ≡ true → (rest ≡ true → is_ready k s t ≡ true) → (b || rest) ≡ true → is_ready k s t ≡ true
ready_by true k s u t rest q r f e = ap (is_ready k s) (sym (value_is u t q)) ∙ r
ready_by false k s u t rest q r f e = f e

has_ready : (k : Frame) (s : State) (ts : List ValueTerm) → AreReady k s ts → (t : ValueTerm) → has_value ts t ≡ true → is_ready k s t ≡ true
has_ready k s [] h t e = absurd (true≢false (sym e))
has_ready k s (u ∷ ts) h t e = ready_by (same_value u t) k s u t (has_value ts t) refl h.0 (has_ready k s ts h.1 t) e

then_alike : (g g' : Got) (go go' : State → Got) → g' ≡ g → ((s1 : State) → g ≡ Went s1 → go' s1 ≡ go s1) → and_then g' go' ≡ and_then g go
then_alike (Went s1) g' go go' p q = ap (λ x. and_then x go') p ∙ q s1 refl
then_alike (Stopped c code s1) g' go go' p q = ap (λ x. and_then x go') p

module _ (k : Frame) (ts : List ValueTerm) where
  obtain_alike : (b0 b1 : Bool) (m : Module) (us : ValueTerms) (s : State) (g g' : Got) → g' ≡ g → obtain b0 b1 (with_links k ts) m us s g' ≡ obtain b0 b1 k m us s g
  obtain_alike true b1 m us s g g' p = refl
  obtain_alike false true m us s g g' p = refl
  obtain_alike false false m us s g g' p = then_alike g g' (run_call k m us (all_denote k.around us)) (run_call (with_links k ts) m us (all_denote k.around us)) p (λ s1 e. by m us (all_denote k.around us) s1)
    where
      by : (m : Module) (us : ValueTerms) (all : Answer) (s1 : State) → run_call (with_links k ts) m us all s1 ≡ run_call k m us all s1
      by m us (Ok values) s1 = after_alike (CallOf m us) (k.around.answer m values (file_of k.around m values (own_file us))) (with_event (RanAt (site_of k.formed (CallOf m us)) (task_of m us values)) s1)
        where
          after_alike : (c : CallTerm) (a : Answer) (s2 : State) → after_run (with_links k ts) c a s2 ≡ after_run k c a s2
          after_alike c (Ok results) s2 = refl
          after_alike c (Err code) s2 = refl
      by m us (Err code) s1 = refl

  link_alike : (b b' : Bool) (s : State) (g g' : Got) → (b ≡ true → b' ≡ true) → (b ≡ false → b' ≡ true → g ≡ Went s) → g' ≡ g → unless_link b' s g' ≡ unless_link b s g
  link_alike true b' s g g' f h p = rw (f refl) refl
  link_alike false true s g g' f h p = sym (h refl refl)
  link_alike false false s g g' f h p = p

  -- a call that is ready, and no link's
  ready_call : (r : ℕ) (c : CallTerm) (s : State) → is_ready k s (ResultTerm r c) ≡ true → has_value k.links (ResultTerm r c) ≡ false → get_call k c s ≡ Went s
  ready_call r c s e q = sym (ap (λ b. unless_link b s (get_call k c s)) q) ∙ ready_gives k (ResultTerm r c) s e

  mutual
    pub get_alike : (t : ValueTerm) (s : State) → AreReady k s ts → get (with_links k ts) t s ≡ get k t s
    get_alike (ConstantTerm c) s h = refl
    get_alike (HeldTerm n) s h = refl
    get_alike (FileTerm b) s h = refl
    get_alike (ResultTerm r c) s h =
        link_alike (has_value k.links (ResultTerm r c)) (has_value (k.links ++ ts) (ResultTerm r c)) s (get_call k c s) (get_call (with_links k ts) c s)
        (has_front k.links ts (ResultTerm r c))
        (λ no yes'. ready_call r c s (has_ready k s ts h (ResultTerm r c) (sym (has_behind k.links ts (ResultTerm r c) no) ∙ yes')) no)
        (call_alike c s h)

    call_alike : (c : CallTerm) (s : State) → AreReady k s ts → get_call (with_links k ts) c s ≡ get_call k c s
    call_alike (CallOf m us) s h = obtain_alike (has_call s.known (CallOf m us)) (has_entry s.entries (CallOf m us)) m us s (get_all k us s) (get_all (with_links k ts) us s) (all_alike us s h)

    pub all_alike : (us : ValueTerms) (s : State) → AreReady k s ts → get_all (with_links k ts) us s ≡ get_all k us s
    all_alike NoTerm s h = refl
    all_alike (AndTerm u us) s h = then_alike (get k u s) (get (with_links k ts) u s) (get_all k us) (get_all (with_links k ts) us) (get_alike u s h) (λ s1 e. all_alike us s1 (are_ready_still k u s s1 e ts h))

-- ---- they denote values

known_results : (a : Around) (cs : List CallTerm) (c : CallTerm) → HaveResults a cs → has_call cs c ≡ true → HasResults a c
known_results a [] c h e = absurd (true≢false (sym e))
known_results a (d ∷ cs) c h e = cases (same_call d c)
    (λ q. (h.0.0, ap (results_of a) (sym (call_is d c q)) ∙ h.0.1))
    (λ q. let e1 : has_call cs c ≡ true = rw q at e in known_results a cs c h.1 e1)

ready_value : (k : Frame) (s : State) → IsSound k.around k.budget s → ((t : ValueTerm) → has_value k.links t ≡ true → (v : Value) × (denotes k.around t ≡ Ok v)) → (t : ValueTerm) → is_ready k s t ≡ true → (v : Value) × (denotes k.around t ≡ Ok v)
ready_value k s i f (ConstantTerm c) e = (value_of c, refl)
ready_value k s i f (HeldTerm n) e = (k.around.held n, refl)
ready_value k s i f (FileTerm b) e = (None, refl)
ready_value k s i f (ResultTerm r c) e = by (has_value k.links (ResultTerm r c)) refl e
  where
    by : (b : Bool) → has_value k.links (ResultTerm r c) ≡ b → (b || has_call s.known c) ≡ true → (v : Value) × (denotes k.around (ResultTerm r c) ≡ Ok v)
    by true q h = f (ResultTerm r c) q
    by false q h = let results = known_results k.around s.known c i.known h in (value_at results.0 r, ap (denoted_result r) results.1)

valued_by : (k : Frame) (ts : List ValueTerm) (s : State) → IsSound k.around k.budget s → AreReady k s ts → ((t : ValueTerm) → has_value k.links t ≡ true → (v : Value) × (denotes k.around t ≡ Ok v)) → (t : ValueTerm) (b : Bool) → has_value k.links t ≡ b → has_value (k.links ++ ts) t ≡ true → (v : Value) × (denotes k.around t ≡ Ok v)
valued_by k ts s i h f t true q e = f t q
valued_by k ts s i h f t false q e = ready_value k s i f t (has_ready k s ts h t (sym (has_behind k.links ts t q) ∙ e))

-- so they are as links
pub links_with : (w : World) (n : Names) (k : Frame) (ts : List ValueTerm) (s : State) → k.around ≡ around w n → AreLinks w n k.links → IsSound k.around k.budget s → AreReady k s ts → AreLinks w n (k.links ++ ts)
links_with w n k ts s e l i h =
    let given : (t : ValueTerm) → has_value k.links t ≡ true → (v : Value) × (denotes k.around t ≡ Ok v) = subst (λ a. (t : ValueTerm) → has_value k.links t ≡ true → (v : Value) × (denotes a t ≡ Ok v)) (sym e) l.valued in
    let all : (t : ValueTerm) → has_value (k.links ++ ts) t ≡ true → (v : Value) × (denotes k.around t ≡ Ok v) = λ t q. valued_by k ts s i h given t (has_value k.links t) refl q in
    record {
      denote = l.denote;
      listed = λ key o q. has_front k.links ts (n.term key) (l.listed key o q);
      valued = subst (λ a. (t : ValueTerm) → has_value (k.links ++ ts) t ≡ true → (v : Value) × (denotes a t ≡ Ok v)) e all;
    }

-- each of them is among these
pub behind_links : (us ts : List ValueTerm) (t : ValueTerm) → has_value ts t ≡ true → has_value (us ++ ts) t ≡ true
behind_links [] ts t e = e
behind_links (u ∷ us) ts t e = by (same_value u t) (behind_links us ts t e)
  where
    by : (b : Bool) → has_value (us ++ ts) t ≡ true → (b || has_value (us ++ ts) t) ≡ true
    by true q = refl
    by false q = q
