-- The work follows the machine.
use Rattle.std.proofs.Common.{◌≡◌, ◌⊎◌, ⊎_elim, ℕ, zero, suc, ◌+◌, ◌<◌, ◌≤◌, List, [], ◌∷◌, ◌++◌, length, map, take, drop, Bool, true, false, cond, Option, Some, None, refl, sym, ap, ap₂, ◌∙◌, subst, arith, is_some, append_assoc, append-nil, get_or, true≢false}
use Rattle.std.specs.Prelude.{slice_get, filter, not, ◌==◌, nat_eq, if◌then◌else◌, Result, Ok, Err, MatchOption, IfOk, IfErr}
use Rattle.std.specs.Map.{lookup}
use Rattle.std.specs.declared.rc.Rc.{Rc}
use Rattle.std.specs.declared.alloc.Global.{Global}
use denote.Bor.{Bor}
use Rattle.std.proofs.lemmas.List.{take_all}
use Rattle.std.proofs.lemmas.Option.{slice_get-get_or}
use Rattle.dx_base.specs.Object.{Tree, results_size}
use Rattle.dx_base.specs.declared.function.Module.{Module}
use Rattle.dx_base.specs.declared.code.Code.{Code}
use Rattle.dx_objects.specs.Runs.{Values, Answer, Ran}
use Rattle.dx_objects.specs.Values.{value_of, value_at}
use Rattle.dx_tags.specs.declared.term.Term.{Term}
use Rattle.dx_tags.specs.declared.term.Term.TheVariants.{Constant, Held as HeldBy, Call, File}
use Rattle.dx_tags.specs.declared.term.ValueTag.{ValueTag}
use Rattle.dx_tags.specs.Closed.{ValueTerm, ConstantTerm, HeldTerm, ResultTerm, FileTerm, CallTerm, CallOf, ValueTerms, NoTerm, AndTerm, Head, ConstantHead, HeldHead, CallHead, FileHead, head_at, heads_of, head_of, value_term, value_terms, result_of_head, AreEarlier, IsFormed, IsResultOf, Fits}
use Rattle.dx_tags.proofs.ClosedTerms.{head_unfolds}
use Rattle.dx_tags.specs.Whole.{is_file, HaveNoFile}
use Rattle.dx_links.specs.Denotes.{Around, denotes, results_of, all_denote, denoted_call, denoted_beside, denoted_result, own_file, file_of}
use Rattle.dx_links.specs.Getting.{same_value, same_call, has_value, has_call}
use Rattle.dx_cache.specs.declared.entry.Entry.{Entry}
use Rattle.dx_cache.specs.Cached as kept
use Rattle.dx_cache.specs.Cached.{IsPartOf}
use Rattle.dx_cache.proofs.Places.{cases}
use Rattle.dx_machine.specs.Machine.{Cached, Event, RanAt, HitAt, KeptAt, DroppedAt, Cleared, Task, FormedCall, Frame, State, Got, Went, Stopped, and_then, state_at, tasks_of, task_of, has_entry, site_of, attribute_of, drops, store, entry_for, with_known, with_event, after_run, run_call, hit, obtain, unless_link, get, get_call, get_all, dropped_for, left_for}
use Rattle.dx_machine.specs.Covered.{IsCovered, IsCoveredCall, AreCovered, is_formed}
use Rattle.dx_machine.proofs.Grows.{RunsGrow, tasks-append, grows_none, grows_then, get_grows, call_grows, all_grow, run_grows, run_tasks, store_tasks}
use Rattle.dx_getting.specs.declared.scene.Called.{Called}
use Rattle.dx_getting.specs.declared.work.Work.{Work}
use Rattle.dx_getting.specs.declared.fail.GetFail.{GetFail}
use Rattle.dx_getting.specs.declared.fail.GetFail.TheVariants.{Refused, ReadFault, Memory}
use Rattle.dx_getting.specs.declared.value.Given.{Given}
use Rattle.dx_getting.specs.declared.value.Given.TheVariants.{Ready, ToGet}
use Rattle.dx_getting.specs.declared.event.Event.TheVariants as shown
use Rattle.dx_getting.specs.Terms.{BoundValues}
use Rattle.dx_getting.specs.Told.{Told, Adds, AddsSome}
use Rattle.dx_getting.specs.Stands.{Setting, World, IsCall, AreExact, FormedCalls, MayGet, MayGetValue, call_at, call_of_head, named, known_calls, around_of, frame_of, link_terms, formed_calls, shown_event, EntriesRight, KnownRight, LinksDenote, IsSoundWork, Stands, IsCut, FailsAt, WentTo, GetsCall, GetsValue, IsReady, IsDevice}
use Rattle.dx_getting.specs.Steps.{IsSame, IsHit, Hits, AreKept, IsRun, IsRefused, IsRunCut, KnownMore, RunFails, Runs, GivenBy, find_link}
use Rattle.dx_getting.specs.Stack.{IsToGet}
use Rattle.dx_getting.proofs.Names.{formed_at, known_is, entry_is, formed_is, site_is, attribute_is, formed_lawful, link_is, others_named, own_named, left_named, dropped_named, named-append}
use Rattle.dx_getting.proofs.Sound.{entries_part, entries_append, known_append, found_right, known_right, link_right, filter_part, left_part, ready_last}
use Rattle.dx_getting.proofs.TellLaws.{adds_task, some_all, some_later, some_cut}

-- ---- the machine's steps at a call

pub known_went : (k : Frame) (c : CallTerm) (s : State) → has_call s.known c ≡ true → get_call k c s ≡ Went s
known_went k (CallOf m ts) s e = rw e refl

pub hit_went : (k : Frame) (c : CallTerm) (s : State) → has_call s.known c ≡ false → has_entry s.entries c ≡ true → get_call k c s ≡ Went (hit k c s)
hit_went k (CallOf m ts) s e f = rw (e, f) refl

pub run_goes : (k : Frame) (m : Module) (ts : ValueTerms) (s : State) → has_call s.known (CallOf m ts) ≡ false → has_entry s.entries (CallOf m ts) ≡ false → get_call k (CallOf m ts) s ≡ and_then (get_all k ts s) (run_call k m ts (all_denote k.around ts))
run_goes k m ts s e f = rw (e, f) refl

module _ (e : Setting) (files : World) (base : Told) where
  -- cut short on the way
  pub cut_later : (w : Work) (now : Told) (s s' : State) (more : List Task) → IsCut e files w base now s → tasks_of s'.events ≡ tasks_of s.events ++ more → IsCut e files w base now s'
  cut_later w now s s' more c g = record { sound = c.sound; told = some_later base now (tasks_of s.events) more (tasks_of s'.events) c.told g }

  pub cut_at : (w : Work) (now : Told) (s : State) → Stands e files w base now s → IsCut e files w base now s
  cut_at w now s h = record { sound = h.sound; told = some_all base now (tasks_of s.events) [] (tasks_of s.events) h.told (sym (append-nil (tasks_of s.events))) }

  pub same_sound : (w w' : Work) → IsSame w w' → IsSoundWork e files w → IsSoundWork e files w'
  same_sound w w' i h = record { entries = subst (EntriesRight e files) (sym i.entries) h.entries; known = subst (KnownRight e files) (sym i.known) h.known }

  -- nothing was done yet
  pub cut_here : (w w' : Work) (now : Told) (s : State) (g : Got) → Stands e files w base now s → IsSame w w' → RunsGrow s g → IsCut e files w' base now (state_at g)
  cut_here w w' now s g h i r = record { sound = same_sound w w' i h.sound; told = some_all base now (tasks_of s.events) r.more (tasks_of (state_at g).events) h.told r.runs }

  -- after a getting that went well
  pub went_cut : (w : Work) (now : Told) (g : Got) (go : State → Got) → WentTo e files base g w now → ((s : State) → RunsGrow s (go s)) → IsCut e files w base now (state_at (and_then g go))
  went_cut w now (Went s) go h r = let m = r s in cut_later w now s (state_at (go s)) m.more (cut_at w now s h) m.runs
  went_cut w now (Stopped refused code s) go h r = absurd h

  -- a failure of a part is one of the whole
  pub fails_on : (w : Work) (now : Told) (fail : GetFail) (g : Got) (go : State → Got) → FailsAt e files base fail g w now → ((s : State) → RunsGrow s (go s)) → FailsAt e files base fail (and_then g go) w now
  fails_on w now (Refused t code) (Went s) go h r = absurd h
  fails_on w now (Refused t code) (Stopped refused c s) go h r = h
  fails_on w now ReadFault (Went s) go h r = let m = r s in cut_later w now s (state_at (go s)) m.more h m.runs
  fails_on w now ReadFault (Stopped refused c s) go h r = h
  fails_on w now Memory (Went s) go h r = let m = r s in cut_later w now s (state_at (go s)) m.more h m.runs
  fails_on w now Memory (Stopped refused c s) go h r = h

  -- a known call, and a hit

  pub is_known_by : AreExact e.terms → (w : Work) (now : Told) (s : State) → Stands e files w base now s → (t : ℕ) → IsCall e.terms t → has_call s.known (call_at (heads_of e.terms) t) ≡ is_some (lookup (nat_eq t) w.known.calls)
  is_known_by x w now s h t c = ap (λ ks. has_call ks (call_at (heads_of e.terms) t)) h.known ∙ known_is e files x w.known.calls h.sound.known t c

  pub has_entry_by : AreExact e.terms → (w : Work) (now : Told) (s : State) → Stands e files w base now s → (t : ℕ) → IsCall e.terms t → has_entry s.entries (call_at (heads_of e.terms) t) ≡ is_some (kept.find t w.cache.entries)
  has_entry_by x w now s h t c = ap (λ es. has_entry es (call_at (heads_of e.terms) t)) h.entries ∙ entry_is e files x w.cache.entries h.sound.entries t c

  map_snoc : {A B : Type 0} (f : A → B) (xs : List A) (y : A) → map f (xs ++ y ∷ []) ≡ map f xs ++ f y ∷ []
  map_snoc f [] y = refl
  map_snoc f (x ∷ xs) y = ap (λ zs. f x ∷ zs) (map_snoc f xs y)

  pub hit_stands : (t : ℕ) → MayGet e t → (f : Called) → lookup (nat_eq t) e.formed ≡ Some f → (w w' : Work) (now : Told) (s : State) → Stands e files w base now s → IsHit t f.site w w' → Stands e files w' base now (hit (frame_of e files w.cache.budget) (call_at (heads_of e.terms) t) s)
  hit_stands t may f found w w' now s h i =
      let right = found_right e files t w.cache.entries i.entry h.sound.entries i.found in
      let others = entries_part e files (filter_part (λ x. not (kept.has_tag t x)) w.cache.entries) h.sound.entries in
      let own = entries_part e files (filter_part (kept.has_tag t) w.cache.entries) h.sound.entries in
      record {
        sound = record {
          entries = subst (EntriesRight e files) (sym i.entries) (entries_append e files (filter (λ x. not (kept.has_tag t x)) w.cache.entries) (filter (kept.has_tag t) w.cache.entries) others own);
          known = subst (KnownRight e files) (sym i.known) (known_append e files w.known.calls ((t, i.entry.outs) ∷ []) h.sound.known ((may.call, right), tt));
        };
        entries = rw h.entries (ap₂ (λ xs ys. xs ++ ys) (others_named e files may.exact w.cache.entries h.sound.entries t may.call) (own_named e files may.exact w.cache.entries h.sound.entries t may.call) ∙ sym (named-append (heads_of e.terms) (filter (λ x. not (kept.has_tag t x)) w.cache.entries) (filter (kept.has_tag t) w.cache.entries)) ∙ ap (map (named (heads_of e.terms))) (sym i.entries));
        known = rw (h.known, i.known) (sym (map_snoc (λ (k : ℕ × Values). call_at (heads_of e.terms) k.0) w.known.calls (t, i.entry.outs)));
        events = map_snoc shown_event s.events (HitAt (site_of (formed_calls (heads_of e.terms) e.formed) (call_at (heads_of e.terms) t))) ∙ ap₂ (λ es site. es ++ shown.Hit site ∷ []) h.events (site_is e.terms may.exact e.formed may.lawful t may.call f found) ∙ sym i.events;
        told = subst (Adds base now) (sym (tasks-append s.events (HitAt (site_of (formed_calls (heads_of e.terms) e.formed) (call_at (heads_of e.terms) t)) ∷ []) ∙ append-nil (tasks_of s.events))) h.told;
      }

-- ---- a sequence of gettings

pub then_same : (g : Got) (go go' : State → Got) → ((s : State) → go s ≡ go' s) → and_then g go ≡ and_then g go'
then_same (Went s) go go' h = h s
then_same (Stopped refused code s) go go' h = refl

pub then_assoc : (g : Got) (go next : State → Got) → and_then (and_then g go) next ≡ and_then g (λ s. and_then (go s) next)
then_assoc (Went s) go next = refl
then_assoc (Stopped refused code s) go next = refl

pub then_went : (g : Got) → and_then g (λ s. Went s) ≡ g
then_went (Went s) = refl
then_went (Stopped refused code s) = refl

-- all arguments: those before argument i, then it, and then the others
pub get_split : (k : Frame) (hs : List Head) (args : List ValueTag) (i : ℕ) (arg : ValueTag) → slice_get args i ≡ Some arg → (s : State) → get_all k (value_terms hs args) s ≡ and_then (get_all k (value_terms hs (take i args)) s) (λ s1. and_then (get k (value_term hs arg) s1) (get_all k (value_terms hs (drop (suc i) args))))
get_split k hs [] i arg e s = cc
get_split k hs (a ∷ args) zero arg e s = let same : a ≡ arg = cc in ap (λ x. and_then (get k (value_term hs x) s) (get_all k (value_terms hs args))) same
get_split k hs (a ∷ args) (suc i) arg e s =
    then_same (get k (value_term hs a) s) _ _ (λ s1. get_split k hs args i arg e s1)
    ∙ sym (then_assoc (get k (value_term hs a) s) (get_all k (value_terms hs (take i args))) (λ s1. and_then (get k (value_term hs arg) s1) (get_all k (value_terms hs (drop (suc i) args)))))

pub get_more : (k : Frame) (hs : List Head) (args : List ValueTag) (i : ℕ) (arg : ValueTag) → slice_get args i ≡ Some arg → (s : State) → get_all k (value_terms hs (take (suc i) args)) s ≡ and_then (get_all k (value_terms hs (take i args)) s) (λ s1. and_then (get k (value_term hs arg) s1) (get_all k NoTerm))
get_more k hs [] i arg e s = cc
get_more k hs (a ∷ args) zero arg e s = let same : a ≡ arg = cc in ap (λ x. and_then (get k (value_term hs x) s) (get_all k NoTerm)) same
get_more k hs (a ∷ args) (suc i) arg e s =
    then_same (get k (value_term hs a) s) _ _ (λ s1. get_more k hs args i arg e s1)
    ∙ sym (then_assoc (get k (value_term hs a) s) (get_all k (value_terms hs (take i args))) (λ s1. and_then (get k (value_term hs arg) s1) (get_all k NoTerm)))

-- ---- values of arguments

-- an argument that is no file stands for a value
beside_head : (a : Around) (h : Head) (r : ℕ) (ts : ValueTerms) → is_file h ≡ false → all_denote a (AndTerm (result_of_head h r) ts) ≡ denoted_beside (denotes a (result_of_head h r)) (all_denote a ts)
beside_head a (ConstantHead c) r ts h = refl
beside_head a (HeldHead n) r ts h = refl
beside_head a (CallHead c) r ts h = refl
beside_head a (FileHead b) r ts h = absurd (true≢false h)

pub beside_plain : (a : Around) (hs : List Head) (t : ValueTag) (ts : ValueTerms) → is_file (head_at hs t.tag) ≡ false → all_denote a (AndTerm (value_term hs t) ts) ≡ denoted_beside (denotes a (value_term hs t)) (all_denote a ts)
beside_plain a hs t ts h = beside_head a (head_at hs t.tag) t.result ts h

beside_more : (d : Result (Option Tree) Code) (x y : Answer) (vs : Values) (v : Option Tree) → denoted_beside d x ≡ Ok vs → ((ws : Values) → x ≡ Ok ws → y ≡ Ok (ws ++ v ∷ [])) → denoted_beside d y ≡ Ok (vs ++ v ∷ [])
beside_more (Err code) x y vs v e k = cc
beside_more (Ok u) (Err code) y vs v e k = cc
beside_more (Ok u) (Ok ws) y vs v e k =
    let same : u ∷ ws ≡ vs = cc in
    rw (k ws refl) (ap (λ xs. Ok (xs ++ v ∷ [])) same)

pub denote_more : (a : Around) (hs : List Head) (args : List ValueTag) (i : ℕ) (arg : ValueTag) (vs : Values) (v : Option Tree) → slice_get args i ≡ Some arg → HaveNoFile hs (take i args) → is_file (head_at hs arg.tag) ≡ false → all_denote a (value_terms hs (take i args)) ≡ Ok vs → denotes a (value_term hs arg) ≡ Ok v → all_denote a (value_terms hs (take (suc i) args)) ≡ Ok (vs ++ v ∷ [])
denote_more a hs [] i arg vs v e n p d f = cc
denote_more a hs (x ∷ args) zero arg vs v e n p d f =
    let same : x ≡ arg = cc in
    let none : [] ≡ vs = cc in
    let plain : is_file (head_at hs x.tag) ≡ false = ap (λ (y : ValueTag). is_file (head_at hs y.tag)) same ∙ p in
    let first : denotes a (value_term hs x) ≡ Ok v = ap (λ y. denotes a (value_term hs y)) same ∙ f in
    beside_plain a hs x NoTerm plain ∙ ap (λ o. denoted_beside o (Ok [])) first ∙ ap (λ ws. Ok (ws ++ v ∷ [])) none
denote_more a hs (x ∷ args) (suc i) arg vs v e n p d f =
    beside_plain a hs x (value_terms hs (take (suc i) args)) n.0
    ∙ beside_more (denotes a (value_term hs x)) (all_denote a (value_terms hs (take i args))) _ vs v (sym (beside_plain a hs x (value_terms hs (take i args)) n.0) ∙ d) (λ ws h. denote_more a hs args i arg ws v e n.1 p h f)

-- ---- what a call requires of its arguments

pub covered_at : (fs : List FormedCall) (ls : List ValueTerm) (hs : List Head) (args : List ValueTag) (i : ℕ) (arg : ValueTag) → AreCovered fs ls (value_terms hs args) → slice_get args i ≡ Some arg → IsCovered fs ls (value_term hs arg)
covered_at fs ls hs [] i arg c e = cc
covered_at fs ls hs (a ∷ args) zero arg c e = let same : a ≡ arg = cc in subst (λ x. IsCovered fs ls (value_term hs x)) same c.0
covered_at fs ls hs (a ∷ args) (suc i) arg c e = covered_at fs ls hs args i arg c.1 e

pub earlier_at : (hs : List Head) (n : ℕ) (args : List ValueTag) (i : ℕ) (arg : ValueTag) → AreEarlier hs n args → slice_get args i ≡ Some arg → (arg.tag < n) × IsResultOf (head_at hs arg.tag) arg.result
earlier_at hs n [] i arg c e = cc
earlier_at hs n (a ∷ args) zero arg c e = let same : a ≡ arg = cc in subst (λ (x : ValueTag). (x.tag < n) × IsResultOf (head_at hs x.tag) x.result) same c.0
earlier_at hs n (a ∷ args) (suc i) arg c e = earlier_at hs n args i arg c.1 e

-- the term of a call
pub call_form : (terms : List Term) → AreExact terms → (t : ℕ) (u : Term) (m : Module) (args : List ValueTag) → slice_get terms t ≡ Some u → u ≡ Call m args → call_at (heads_of terms) t ≡ CallOf m (value_terms (heads_of terms) args)
call_form terms x t u m args s i = ap call_of_head (head_unfolds terms x.formed t u s ∙ ap (head_of (heads_of terms)) i)

pub args_earlier : (terms : List Term) → AreExact terms → (t : ℕ) (u : Term) (m : Module) (args : List ValueTag) → slice_get terms t ≡ Some u → u ≡ Call m args → AreEarlier (heads_of terms) t args
args_earlier terms x t u m args s i =
    let f : IsFormed (heads_of terms) (0 + t) (Call m args) = subst (IsFormed (heads_of terms) (0 + t)) i (formed_at (heads_of terms) 0 terms x.formed t u s) in
    let z : 0 + t ≡ t = omega arith in
    subst (λ n. AreEarlier (heads_of terms) n args) z f

call_covered : (fs : List FormedCall) (ls : List ValueTerm) (c : CallTerm) (m : Module) (ts : ValueTerms) → c ≡ CallOf m ts → IsCoveredCall fs ls c → AreCovered fs ls ts
call_covered fs ls c m ts e h = (subst (IsCoveredCall fs ls) e h).1

call_formed : (fs : List FormedCall) (ls : List ValueTerm) (c : CallTerm) → IsCoveredCall fs ls c → is_formed fs c ≡ true
call_formed fs ls (CallOf m ts) h = h.0

pub may_get_arg : (e : Setting) (t : ℕ) → MayGet e t → (u : Term) (m : Module) (args : List ValueTag) → slice_get e.terms t ≡ Some u → u ≡ Call m args → (i : ℕ) (arg : ValueTag) → slice_get args i ≡ Some arg → (arg.tag < t) × MayGetValue e arg
may_get_arg e t may u m args s is i arg at =
    let form = call_form e.terms may.exact t u m args s is in
    let early = earlier_at (heads_of e.terms) t args i arg (args_earlier e.terms may.exact t u m args s is) at in
    let w = may.call.within in (
      early.0,
      record {
        exact = may.exact;
        lawful = may.lawful;
        links = may.links;
        fits = record { within = (let lt = early.0 in omega (arith, lt, w)); result = early.1 };
        covered = covered_at (formed_calls (heads_of e.terms) e.formed) (link_terms (heads_of e.terms) e.links) (heads_of e.terms) args i arg (call_covered (formed_calls (heads_of e.terms) e.formed) (link_terms (heads_of e.terms) e.links) (call_at (heads_of e.terms) t) m (value_terms (heads_of e.terms) args) form may.covered) at;
      },
    )

pub is_called : (e : Setting) (t : ℕ) → MayGet e t → is_some (lookup (nat_eq t) e.formed) ≡ true
is_called e t may = sym (formed_is e.terms may.exact e.formed may.lawful t may.call) ∙ call_formed (formed_calls (heads_of e.terms) e.formed) (link_terms (heads_of e.terms) e.links) (call_at (heads_of e.terms) t) may.covered

-- ---- a run

shown_drops : (hs : List Head) (es : List Entry) → map shown_event (drops (map (named hs) es)) ≡ map (λ (x : Entry). shown.Drop x.site) es
shown_drops hs [] = refl
shown_drops hs (x ∷ es) = ap (λ xs. shown.Drop x.site ∷ xs) (shown_drops hs es)

shown_append : (xs ys : List Event) → map shown_event (xs ++ ys) ≡ map shown_event xs ++ map shown_event ys
shown_append [] ys = refl
shown_append (x ∷ xs) ys = ap (λ zs. shown_event x ∷ zs) (shown_append xs ys)

snoc_map : {A B : Type 0} (g : A → B) (xs : List A) (y : A) → map g (xs ++ y ∷ []) ≡ map g xs ++ g y ∷ []
snoc_map g [] y = refl
snoc_map g (x ∷ xs) y = ap (λ zs. g x ∷ zs) (snoc_map g xs y)

if_right : (e : Setting) (files : World) (b : Bool) (x : Entry) → IsCall e.terms x.tag × (results_of (around_of e files) (call_at (heads_of e.terms) x.tag) ≡ Ok x.outs) → EntriesRight e files (if b then x ∷ [] else [])
if_right e files true x h = (h, tt)
if_right e files false x h = tt

map_if_entry : (hs : List Head) (b : Bool) (x : Entry) → (if b then named hs x ∷ [] else []) ≡ map (named hs) (if b then x ∷ [] else [])
map_if_entry hs true x = refl
map_if_entry hs false x = refl

map_if_event : (b : Bool) (x : Event) → map shown_event (if b then x ∷ [] else []) ≡ (if b then shown_event x ∷ [] else [])
map_if_event true x = refl
map_if_event false x = refl

module _ (e : Setting) (files : World) (base : Told) (t : ℕ) (may : MayGet e t) (f : Called) (found : lookup (nat_eq t) e.formed ≡ Some f) (m : Module) (ts : ValueTerms) (form : call_at (heads_of e.terms) t ≡ CallOf m ts) (inputs : Values) (gives : all_denote (around_of e files) ts ≡ Ok inputs) where
  abbrev the_answer : Answer
  the_answer = files.answer m inputs (file_of (around_of e files) m inputs (own_file ts))

  abbrev the_task : Task
  the_task = task_of m ts inputs

  results_are : results_of (around_of e files) (call_at (heads_of e.terms) t) ≡ the_answer
  results_are = ap (results_of (around_of e files)) form ∙ ap (denoted_call (around_of e files) m (own_file ts)) gives

  site_form : site_of (formed_calls (heads_of e.terms) e.formed) (CallOf m ts) ≡ f.site
  site_form = ap (site_of (formed_calls (heads_of e.terms) e.formed)) (sym form) ∙ site_is e.terms may.exact e.formed may.lawful t may.call f found

  attribute_form : attribute_of (formed_calls (heads_of e.terms) e.formed) (CallOf m ts) ≡ f.attribute
  attribute_form = ap (attribute_of (formed_calls (heads_of e.terms) e.formed)) (sym form) ∙ attribute_is e.terms may.exact e.formed may.lawful t may.call f found

  pub run_cut : (w w' : Work) (before now : Told) (s : State) → Stands e files w base before s → IsRunCut t the_task the_answer w w' before now → IsCut e files w' base now (state_at (run_call (frame_of e files w.cache.budget) m ts (Ok inputs) s))
  run_cut w w' before now s h c = record {
    sound = record {
      entries = entries_part e files c.entries h.sound.entries;
      known = ⊎_elim
          (λ k. subst (KnownRight e files) (sym k) h.sound.known)
          (λ p. subst (KnownRight e files) (sym p.2) (known_append e files w.known.calls ((t, p.0) ∷ []) h.sound.known ((may.call, results_are ∙ p.1), tt)))
          c.known;
    };
    told = some_cut base before now (tasks_of s.events) (tasks_of (state_at (run_call (frame_of e files w.cache.budget) m ts (Ok inputs) s)).events) the_task h.told (run_tasks (frame_of e files w.cache.budget) m ts inputs s) c.told;
  }

  pub run_refused : (w w' : Work) (before now : Told) (s : State) (u : ℕ) (code : Code) → Stands e files w base before s → IsRefused t f.site the_task the_answer u code w w' before now → FailsAt e files base (Refused u code) (run_call (frame_of e files w.cache.budget) m ts (Ok inputs) s) w' now
  run_refused w w' before now s u code h c =
      let ev : Event = RanAt (site_of (formed_calls (heads_of e.terms) e.formed) (CallOf m ts)) the_task in
      rw c.refuses (
        subst (IsCall e.terms) (sym c.is_tag) may.call,
        ap (call_at (heads_of e.terms)) c.is_tag ∙ form,
        refl,
        record {
          sound = record { entries = subst (EntriesRight e files) (sym c.entries) h.sound.entries; known = subst (KnownRight e files) (sym c.known) h.sound.known };
          entries = h.entries ∙ ap (map (named (heads_of e.terms))) (sym c.entries);
          known = h.known ∙ ap (known_calls (heads_of e.terms)) (sym c.known);
          events = shown_append s.events (ev ∷ []) ∙ ap₂ (λ es site. es ++ shown.Run site ∷ []) h.events site_form ∙ sym c.events;
          told = subst (Adds base now) (sym (tasks-append s.events (ev ∷ []))) (adds_task base before now (tasks_of s.events) the_task h.told c.told);
        },
      )

  pub run_stands : (w w' : Work) (before now : Told) (s : State) → Stands e files w base before s → IsRun t f.site f.attribute the_task the_answer w w' before now → WentTo e files base (run_call (frame_of e files w.cache.budget) m ts (Ok inputs) s) w' now × IsReady t w'.known.calls
  run_stands w w' before now s h c =
      let hs = heads_of e.terms in
      let ev : Event = RanAt (site_of (formed_calls (heads_of e.terms) e.formed) (CallOf m ts)) the_task in
      let k : Frame = frame_of e files w.cache.budget in
      let size : ℕ = results_size c.outs in
      let own : Entry = record { tag = t; site = f.site; attribute = f.attribute; size = results_size c.outs; outs = c.outs } in
      let b : Bool = kept.stays f.attribute (results_size c.outs) w.cache.budget in
      let right = results_are ∙ c.gives in
      let left : List Entry = kept.left_for f.site f.attribute (results_size c.outs) w.cache.budget w.cache.entries in
      let dropped : List Entry = kept.dropped_for f.site f.attribute (results_size c.outs) w.cache.budget w.cache.entries in
      rw c.gives (
        record {
          sound = record {
            entries = subst (EntriesRight e files) (sym c.keeps.entries) (entries_append e files left (if b then own ∷ [] else []) (entries_part e files (left_part f.site f.attribute size w.cache.budget w.cache.entries) h.sound.entries) (if_right e files b own (may.call, right)));
            known = subst (KnownRight e files) (sym c.known) (known_append e files w.known.calls ((t, c.outs) ∷ []) h.sound.known ((may.call, right), tt));
          };
          entries = rw (site_form, attribute_form, h.entries) (
              ap₂ (λ xs ys. xs ++ ys) (left_named hs f.site f.attribute size w.cache.budget w.cache.entries)
              (ap (λ (call : CallTerm). if b then record { call = call; site = f.site; attribute = f.attribute; size = results_size c.outs; results = c.outs } ∷ [] else []) (sym form) ∙ map_if_entry hs b own)
              ∙ sym (named-append hs left (if b then own ∷ [] else [])) ∙ ap (map (named hs)) (sym c.keeps.entries));
          known = ap₂ (λ ks (call : CallTerm). ks ++ call ∷ []) h.known (sym form) ∙ sym (snoc_map (λ (k : ℕ × Values). call_at (heads_of e.terms) k.0) w.known.calls (t, c.outs)) ∙ ap (known_calls (heads_of e.terms)) (sym c.known);
          events = rw (site_form, attribute_form, h.entries) (
              shown_append ((s.events ++ RanAt f.site the_task ∷ []) ++ drops (dropped_for f.site f.attribute size w.cache.budget (map (named hs) w.cache.entries))) (if b then KeptAt f.site size ∷ [] else [])
              ∙ ap₂ (λ xs ys. xs ++ ys)
              (shown_append (s.events ++ RanAt f.site the_task ∷ []) (drops (dropped_for f.site f.attribute size w.cache.budget (map (named hs) w.cache.entries)))
              ∙ ap₂ (λ xs ys. xs ++ ys) (shown_append s.events (RanAt f.site the_task ∷ []) ∙ ap (λ es. es ++ shown.Run f.site ∷ []) h.events)
              (ap (λ xs. map shown_event (drops xs)) (dropped_named hs f.site f.attribute size w.cache.budget w.cache.entries) ∙ shown_drops hs dropped))
              (map_if_event b (KeptAt f.site size))
              ∙ sym c.keeps.events);
          told = subst (Adds base now) (sym (store_tasks w.cache.budget (entry_for k (CallOf m ts) c.outs) (with_known (CallOf m ts) (with_event ev s)) ∙ tasks-append s.events (ev ∷ []))) (adds_task base before now (tasks_of s.events) the_task h.told c.told);
        },
        subst (IsReady t) (sym c.known) (ready_last t c.outs w.known.calls),
      )

  -- a run, whatever it answers
  pub run_gets : {A : Type 0} (r : Result A GetFail) (w w' : Work) (before now : Told) (s : State) → Stands e files w base before s → Runs t f.site f.attribute the_task the_answer r w w' before now → GetsCall e files base t r (run_call (frame_of e files w.cache.budget) m ts (Ok inputs) s) w' now
  run_gets (Ok x) w w' before now s h c = run_stands w w' before now s h c
  run_gets (Err (Refused u code)) w w' before now s h c = run_refused w w' before now s u code h c
  run_gets (Err ReadFault) w w' before now s h c = run_cut w w' before now s h c
  run_gets (Err Memory) w w' before now s h c = run_cut w w' before now s h c

-- ---- a value term

pub ready_value : (e : Setting) (files : World) (base : Told) (t : ValueTag) → MayGetValue e t → LinksDenote e files e.links → (v : Option (Rc Tree Global)) (h : Head) → head_at (heads_of e.terms) t.tag ≡ h → GivenBy e t h (Ready v) → (w : Work) (now : Told) (s : State) → Stands e files w base now s → (budget : ℕ) → WentTo e files base (get (frame_of e files budget) (value_term (heads_of e.terms) t) s) w now × (denotes (around_of e files) (value_term (heads_of e.terms) t) ≡ Ok (value_of v))
ready_value e files base t may links v (ConstantHead c) eq g w now s h budget = rw eq (h, ap Ok (sym g))
ready_value e files base t may links v (HeldHead c) eq g w now s h budget = rw eq (h, ap Ok (sym g))
ready_value e files base t may links v (FileHead c) eq g w now s h budget = rw eq (h, ap Ok (sym g))
ready_value e files base t may links v (CallHead c) eq g w now s h budget =
    let found = g.1 in
    let form : value_term (heads_of e.terms) t ≡ ResultTerm t.result c = ap (λ d. result_of_head d t.result) eq in
    let has : has_value (link_terms (heads_of e.terms) e.links) (ResultTerm t.result c) ≡ true = ap (has_value (link_terms (heads_of e.terms) e.links)) (sym form) ∙ link_is e.terms may.exact e.links may.links t may.fits ∙ ap is_some found in
    let value = link_right e files t e.links g.0 links found ∙ ap Ok (sym g.2) in
    (subst (λ u. WentTo e files base (get (frame_of e files budget) u s) w now) (sym form) (rw has h), value)

pub to_get : (e : Setting) (t : ValueTag) → MayGetValue e t → (h : Head) → head_at (heads_of e.terms) t.tag ≡ h → GivenBy e t h ToGet → IsToGet e t
to_get e t may (ConstantHead c) eq g = absurd g
to_get e t may (HeldHead c) eq g = absurd g
to_get e t may (FileHead c) eq g = absurd g
to_get e t may (CallHead c) eq g =
    let at : call_at (heads_of e.terms) t.tag ≡ c = ap call_of_head eq in
    let form : value_term (heads_of e.terms) t ≡ ResultTerm t.result (call_at (heads_of e.terms) t.tag) = ap (λ d. result_of_head d t.result) eq ∙ ap (ResultTerm t.result) (sym at) in
    let free : has_value (link_terms (heads_of e.terms) e.links) (ResultTerm t.result (call_at (heads_of e.terms) t.tag)) ≡ false = ap (has_value (link_terms (heads_of e.terms) e.links)) (sym form) ∙ link_is e.terms may.exact e.links may.links t may.fits ∙ ap is_some g in
    record {
      may = record {
        exact = may.exact;
        lawful = may.lawful;
        links = may.links;
        call = record { within = may.fits.within; head = eq ∙ ap CallHead (sym at) };
        covered = (subst (IsCovered (formed_calls (heads_of e.terms) e.formed) (link_terms (heads_of e.terms) e.links)) form may.covered) free;
      };
      form = form;
      free = free;
    }

pub value_goes : (e : Setting) (files : World) (t : ValueTag) → IsToGet e t → (budget : ℕ) (s : State) → get (frame_of e files budget) (value_term (heads_of e.terms) t) s ≡ get_call (frame_of e files budget) (call_at (heads_of e.terms) t.tag) s
value_goes e files t g budget s = ap (λ u. get (frame_of e files budget) u s) g.form ∙ ap (λ b. unless_link b s (get_call (frame_of e files budget) (call_at (heads_of e.terms) t.tag) s)) g.free

pub went_sound : (e : Setting) (files : World) (base : Told) (g : Got) (w : Work) (now : Told) → WentTo e files base g w now → IsSoundWork e files w
went_sound e files base (Went s) w now h = h.sound
went_sound e files base (Stopped refused code s) w now h = absurd h

pub went_state : (e : Setting) (files : World) (base : Told) (g : Got) (w : Work) (now : Told) → WentTo e files base g w now → (s : State) × (g ≡ Went s) × Stands e files w base now s
went_state e files base (Went s) w now h = (s, refl, h)
went_state e files base (Stopped refused code s) w now h = absurd h

pub went_then : (e : Setting) (files : World) (base : Told) (g : Got) (w : Work) (now : Told) (s : State) → g ≡ Went s → (go : State → Got) → WentTo e files base (go s) w now → WentTo e files base (and_then g (λ s1. and_then (go s1) (λ s2. Went s2))) w now
went_then e files base g w now s e1 go h = rw e1 (after (go s) h)
  where
    after : (g2 : Got) → WentTo e files base g2 w now → WentTo e files base (and_then g2 (λ s2. Went s2)) w now
    after (Went s2) h = h
    after (Stopped refused code s2) h = absurd h

-- the value of a known call's result
pub known_value : (e : Setting) (files : World) (t : ValueTag) → IsToGet e t → (ks : List (ℕ × Values)) → KnownRight e files ks → IsReady t.tag ks → (v : Option (Rc Tree Global)) → ((outs : Values) → lookup (nat_eq t.tag) ks ≡ Some outs → value_of v ≡ value_at outs t.result) → denotes (around_of e files) (value_term (heads_of e.terms) t) ≡ Ok (value_of v)
known_value e files t g ks right ready v h =
    ap (denotes (around_of e files)) g.form
    ∙ ap (denoted_result t.result) (known_right e files t.tag ks ready.0 right ready.1)
    ∙ ap Ok (sym (h ready.0 ready.1))

pub stands_same : (e : Setting) (files : World) (base : Told) (w w' : Work) (now : Told) (s : State) → IsSame w w' → Stands e files w base now s → Stands e files w' base now s
stands_same e files base w w' now s i h = record {
  sound = record { entries = subst (EntriesRight e files) (sym i.entries) h.sound.entries; known = subst (KnownRight e files) (sym i.known) h.sound.known };
  entries = h.entries ∙ ap (map (named (heads_of e.terms))) (sym i.entries);
  known = h.known ∙ ap (known_calls (heads_of e.terms)) (sym i.known);
  events = h.events ∙ sym i.events;
  told = h.told;
}

-- ---- for the code's exits

pub known_found : (t : ℕ) (ks : List (ℕ × Values)) (o : Option (Bor Values)) → MatchOption o (lookup (nat_eq t) ks ≡ None) (λ outs. lookup (nat_eq t) ks ≡ Some outs.now) → is_some o ≡ is_some (lookup (nat_eq t) ks)
known_found t ks None h = ap is_some (sym h)
known_found t ks (Some outs) h = ap is_some (sym h)

pub not_call : (terms : List Term) → AreExact terms → (t : ℕ) → IsCall terms t → (u : Term) → slice_get terms t ≡ Some u → ((m : Module) (args : List ValueTag) → u ≡ Call m args → ⊥) → ⊥
not_call terms x t c (Constant d) s out = let h = sym (head_unfolds terms x.formed t (Constant d) s) ∙ c.head in cc
not_call terms x t c (HeldBy d) s out = let h = sym (head_unfolds terms x.formed t (HeldBy d) s) ∙ c.head in cc
not_call terms x t c (File d) s out = let h = sym (head_unfolds terms x.formed t (File d) s) ∙ c.head in cc
not_call terms x t c (Call m args) s out = out m args refl

pub arg_at : (xs ys : List ValueTag) (i : ℕ) (d : ValueTag) → xs ≡ ys → i < length xs → slice_get ys i ≡ Some (get_or xs i d)
arg_at xs ys i d e h = subst (λ zs. slice_get zs i ≡ Some (get_or xs i d)) e (slice_get-get_or xs i d h)

pub cut_fails : (e : Setting) (files : World) (base : Told) (fail : GetFail) (g : Got) (w : Work) (now : Told) → IsDevice fail → IsCut e files w base now (state_at g) → FailsAt e files base fail g w now
cut_fails e files base (Refused t code) g w now d c = absurd d
cut_fails e files base ReadFault g w now d c = c
cut_fails e files base Memory g w now d c = c

pub went_fails : (e : Setting) (files : World) (base : Told) (w : Work) (now : Told) (fail : GetFail) (g : Got) → WentTo e files base g w now → IsDevice fail → FailsAt e files base fail g w now
went_fails e files base w now (Refused t code) g h d = absurd d
went_fails e files base w now ReadFault (Went s) h d = cut_at e files base w now s h
went_fails e files base w now ReadFault (Stopped refused code s) h d = absurd h
went_fails e files base w now Memory (Went s) h d = cut_at e files base w now s h
went_fails e files base w now Memory (Stopped refused code s) h d = absurd h
