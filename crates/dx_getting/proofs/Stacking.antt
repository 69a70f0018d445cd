-- The steps of the stack follow the machine.
use Rattle.std.proofs.Common.{◌≡◌, ◌⊎◌, ⊎_elim, inl, inr, ℕ, zero, suc, ◌+◌, ◌<◌, ◌≤◌, List, [], ◌∷◌, ◌++◌, length, take, drop, Bool, true, false, Option, Some, None, refl, sym, ap, ap₂, ◌∙◌, subst, arith, is_some, true≢false, append_assoc}
use Rattle.std.specs.Prelude.{slice_get, nat_eq, ◌==◌, Result, Ok, Err, if◌then◌else◌}
use Rattle.std.specs.Cmp.{unsigned_Decides}
use Rattle.std.specs.Map.{lookup}
use Rattle.std.specs.declared.rc.Rc.{Rc}
use Rattle.std.specs.declared.alloc.Global.{Global}
use Rattle.std.proofs.lemmas.List.{take_all}
use Rattle.dx_base.specs.Object.{Tree}
use Rattle.dx_base.specs.Modules.{Takes}
use Rattle.dx_base.specs.declared.function.Module.{Module}
use Rattle.dx_base.specs.declared.code.Code.{Code}
use Rattle.dx_objects.specs.Runs.{Values, Answer}
use Rattle.dx_objects.specs.Values.{value_of, value_at}
use Rattle.dx_tags.specs.declared.term.Term.{Term}
use Rattle.dx_tags.specs.declared.term.Term.TheVariants.{Constant, Held as HeldBy, Call, File}
use Rattle.dx_tags.specs.declared.term.ValueTag.{ValueTag}
use Rattle.dx_tags.specs.Closed.{ValueTerm, ConstantTerm, HeldTerm, ResultTerm, FileTerm, CallTerm, CallOf, ValueTerms, NoTerm, AndTerm, Head, ConstantHead, HeldHead, CallHead, FileHead, head_at, heads_of, value_term, value_terms, result_of_head}
use Rattle.dx_tags.specs.Whole.{is_file, HaveNoFile, HasInputs as TakesInputs, ReadsFile, IsWhole, AreWhole}
use Rattle.dx_tags.proofs.ClosedTerms.{head_unfolds}
use Rattle.dx_links.specs.Denotes.{Around, denotes, results_of, all_denote, own_file, file_of}
use Rattle.dx_links.specs.Getting.{has_value, has_call}
use Rattle.dx_cache.specs.declared.entry.Entry.{Entry}
use Rattle.dx_cache.specs.Cached as kept
use Rattle.dx_cache.specs.Cached.{IsPartOf}
use Rattle.dx_cache.proofs.Drops.{find-part}
use Rattle.dx_cache.proofs.Places.{cases, find-append}
use Rattle.dx_machine.specs.Machine.{Frame, State, Got, Went, Stopped, and_then, state_at, run_call, get, get_call, get_all, has_entry}
use Rattle.dx_machine.proofs.Grows.{RunsGrow, grows_none, grows_then, get_grows, all_grow, run_grows}
use Rattle.dx_getting.specs.declared.scene.Called.{Called}
use Rattle.dx_getting.specs.declared.work.Work.{Work}
use Rattle.dx_getting.specs.declared.fail.GetFail.{GetFail}
use Rattle.dx_getting.specs.declared.fail.GetFail.TheVariants.{Refused, ReadFault, Memory}
use Rattle.dx_getting.specs.declared.working.Open.{Open}
use Rattle.dx_getting.specs.Told.{Told}
use Rattle.dx_getting.specs.Stands.{Setting, World, IsCall, AreExact, MayGet, MayGetValue, Stands, WentTo, FailsAt, IsCut, GetsCall, IsReady, call_at, around_of, frame_of, link_terms}
use Rattle.dx_getting.specs.Steps.{AreCalls, IsSame, IsHit, Stores, Learns, IsOneMore, Runs}
use Rattle.dx_getting.specs.Stack.{IsToGet, args_in, rest_in, term_of, rest_top, rest_under, rest_below, rest_of, IsOpen, above, IsAbove, AreBelow, IsStack, IsAway, AreAway, HasInputs, HaveInputs, lowest, size_of, size_of_call, sizes_of, left_in, left_below, left_of, IsArgument, IsReadyToRun, GoesOn, Steps, IsStepped}
use Rattle.dx_getting.proofs.Sound.{ready_some, ready_last, moved_none, unknown_more, not_same, calls_part, calls_append, calls_moved}
use Rattle.dx_getting.proofs.Getting.{cut_at, cut_here, went_cut, fails_on, went_state, denote_more, beside_plain, value_goes, is_known_by, has_entry_by, known_went, hit_went, hit_stands, stands_same, run_goes, call_form, then_same, then_assoc, then_went, may_get_arg, run_gets}

-- ---- what is left

pub drop_at : (args : List ValueTag) (i : ℕ) (arg : ValueTag) → slice_get args i ≡ Some arg → drop i args ≡ arg ∷ drop (suc i) args
drop_at [] i arg e = cc
drop_at (a ∷ args) zero arg e = let same : a ≡ arg = cc in ap (λ x. x ∷ args) same
drop_at (a ∷ args) (suc i) arg e = drop_at args i arg e

pub drop_past : (args : List ValueTag) (i : ℕ) → length args ≤ i → drop i args ≡ []
drop_past [] zero w = refl
drop_past [] (suc i) w = refl
drop_past (a ∷ args) zero w = absurd (omega (arith, w))
drop_past (a ∷ args) (suc i) w = drop_past args i (omega (arith, w))

pub length_snoc : (vs : Values) (v : Option Tree) → length (vs ++ v ∷ []) ≡ suc (length vs)
length_snoc [] v = refl
length_snoc (x ∷ vs) v = ap suc (length_snoc vs v)

-- the next argument first, and then the others
pub rest_arg : (k : Frame) (hs : List Head) (m : Module) (args : List ValueTag) (i : ℕ) (arg : ValueTag) → slice_get args i ≡ Some arg → (s : State) → rest_in k hs (Some (Call m args)) i s ≡ and_then (get k (value_term hs arg) s) (rest_in k hs (Some (Call m args)) (suc i))
rest_arg k hs m args i arg e s =
    ap (λ xs. and_then (get_all k (value_terms hs xs) s) (run_call k m (value_terms hs args) (all_denote k.around (value_terms hs args)))) (drop_at args i arg e)
    ∙ then_assoc (get k (value_term hs arg) s) (get_all k (value_terms hs (drop (suc i) args))) (run_call k m (value_terms hs args) (all_denote k.around (value_terms hs args)))

-- no argument is left
pub rest_run : (k : Frame) (hs : List Head) (m : Module) (args : List ValueTag) (i : ℕ) → length args ≤ i → (s : State) → rest_in k hs (Some (Call m args)) i s ≡ run_call k m (value_terms hs args) (all_denote k.around (value_terms hs args)) s
rest_run k hs m args i w s = ap (λ xs. and_then (get_all k (value_terms hs xs) s) (run_call k m (value_terms hs args) (all_denote k.around (value_terms hs args)))) (drop_past args i w)

pub below_snoc : (k : Frame) (terms : List Term) (os : List Open) (o : Open) (s : State) → rest_below k terms (os ++ o ∷ []) s ≡ and_then (rest_under k terms o s) (rest_below k terms os)
below_snoc k terms [] o s = sym (then_went (rest_under k terms o s))
below_snoc k terms (p ∷ os) o s =
    ap (λ g. and_then g (rest_under k terms p)) (below_snoc k terms os o s)
    ∙ then_assoc (rest_under k terms o s) (rest_below k terms os) (rest_under k terms p)

-- the whole, with the next argument of the top first
pub whole_arg : (k : Frame) (terms : List Term) (below : List Open) (top : Open) (m : Module) (args : List ValueTag) → slice_get terms top.wanted.tag ≡ Some (Call m args) → (arg : ValueTag) → slice_get args (length top.inputs) ≡ Some arg → (s : State)
    → rest_of k terms below top s ≡ and_then (get k (value_term (heads_of terms) arg) s) (λ s1. and_then (rest_under k terms top s1) (rest_below k terms below))
whole_arg k terms below top m args t arg at s =
    ap (λ o. and_then (rest_in k (heads_of terms) o (length top.inputs) s) (rest_below k terms below)) t
    ∙ ap (λ g. and_then g (rest_below k terms below)) (rest_arg k (heads_of terms) m args (length top.inputs) arg at s)
    ∙ then_assoc (get k (value_term (heads_of terms) arg) s) (rest_in k (heads_of terms) (Some (Call m args)) (suc (length top.inputs))) (rest_below k terms below)
    ∙ ap (λ o. and_then (get k (value_term (heads_of terms) arg) s) (λ s1. and_then (rest_in k (heads_of terms) o (suc (length top.inputs)) s1) (rest_below k terms below))) (sym t)

-- a value more
pub under_is_top : (k : Frame) (terms : List Term) (o : Open) (v : Option Tree) (s : State) → rest_under k terms o s ≡ rest_top k terms (record { wanted = o.wanted; inputs = o.inputs ++ v ∷ [] }) s
under_is_top k terms o v s = ap (λ n. rest_in k (heads_of terms) (term_of terms o) n s) (sym (length_snoc o.inputs v))

pub one_more : (k : Frame) (terms : List Term) (below : List Open) (top : Open) (v : Option Tree) (s : State) → and_then (rest_under k terms top s) (rest_below k terms below) ≡ rest_of k terms below (record { wanted = top.wanted; inputs = top.inputs ++ v ∷ [] }) s
one_more k terms below top v s = ap (λ g. and_then g (rest_below k terms below)) (under_is_top k terms top v s)

-- a call on top
pub one_over : (k : Frame) (terms : List Term) (below : List Open) (top : Open) (arg : ValueTag) (s : State) → and_then (rest_in k (heads_of terms) (slice_get terms arg.tag) 0 s) (λ s1. and_then (rest_under k terms top s1) (rest_below k terms below)) ≡ rest_of k terms (below ++ top ∷ []) (record { wanted = arg; inputs = [] }) s
one_over k terms below top arg s = then_same (rest_in k (heads_of terms) (slice_get terms arg.tag) 0 s) _ _ (λ s1. sym (below_snoc k terms below top s1))

-- ---- runs only grow

pub rest_in_grows : (k : Frame) (hs : List Head) (o : Option Term) (n : ℕ) (s : State) → RunsGrow s (rest_in k hs o n s)
rest_in_grows k hs None n s = grows_none s
rest_in_grows k hs (Some (Constant c)) n s = grows_none s
rest_in_grows k hs (Some (HeldBy i)) n s = grows_none s
rest_in_grows k hs (Some (File b)) n s = grows_none s
rest_in_grows k hs (Some (Call m args)) n s = grows_then s (get_all k (value_terms hs (drop n args)) s) (run_call k m (value_terms hs args) (all_denote k.around (value_terms hs args))) (all_grow k (value_terms hs (drop n args)) s) (run_grows k m (value_terms hs args) (all_denote k.around (value_terms hs args)))

pub below_grows : (k : Frame) (terms : List Term) (os : List Open) (s : State) → RunsGrow s (rest_below k terms os s)
below_grows k terms [] s = grows_none s
below_grows k terms (o ∷ os) s = grows_then s (rest_below k terms os s) (rest_under k terms o) (below_grows k terms os s) (λ s1. rest_in_grows k (heads_of terms) (term_of terms o) (suc (length o.inputs)) s1)

pub after_grows : (k : Frame) (terms : List Term) (below : List Open) (top : Open) (s : State) → RunsGrow s (and_then (rest_under k terms top s) (rest_below k terms below))
after_grows k terms below top s = grows_then s (rest_under k terms top s) (rest_below k terms below) (rest_in_grows k (heads_of terms) (term_of terms top) (suc (length top.inputs)) s) (below_grows k terms below)

pub of_grows : (k : Frame) (terms : List Term) (below : List Open) (top : Open) (s : State) → RunsGrow s (rest_of k terms below top s)
of_grows k terms below top s = grows_then s (rest_top k terms top s) (rest_below k terms below) (rest_in_grows k (heads_of terms) (term_of terms top) (length top.inputs) s) (below_grows k terms below)

-- ---- the stack

slot_past : {A : Type 0} (xs : List A) (i : ℕ) → slice_get xs i ≡ None → i < length xs → ⊥
slot_past [] i h w = absurd (omega (arith, w))
slot_past (x ∷ xs) zero h w = cc
slot_past (x ∷ xs) (suc i) h w = slot_past xs i h (omega (arith, w))

slot_within : {A : Type 0} (xs : List A) (i : ℕ) (x : A) → slice_get xs i ≡ Some x → i < length xs
slot_within [] i x h = cc
slot_within (y ∷ xs) zero x h = omega arith
slot_within (y ∷ xs) (suc i) x h = let w = slot_within xs i x h in omega (arith, w)

no_file_none : (hs : List Head) (xs : List ValueTag) → HaveNoFile hs (take 0 xs)
no_file_none hs [] = tt
no_file_none hs (x ∷ xs) = tt

no_file_more : (hs : List Head) (xs : List ValueTag) (i : ℕ) (x : ValueTag) → slice_get xs i ≡ Some x → is_file (head_at hs x.tag) ≡ false → HaveNoFile hs (take i xs) → HaveNoFile hs (take (suc i) xs)
no_file_more hs [] i x e p h = cc
no_file_more hs (y ∷ xs) zero x e p h = let same : y ≡ x = cc in (ap (λ (z : ValueTag). is_file (head_at hs z.tag)) same ∙ p, no_file_none hs xs)
no_file_more hs (y ∷ xs) (suc i) x e p h = (h.0, no_file_more hs xs i x e p h.1)

pub open_of : (e : Setting) (t : ValueTag) → MayGet e t.tag → (o : Option Term) → slice_get e.terms t.tag ≡ o → IsOpen e (record { wanted = t; inputs = [] })
open_of e t may None h = absurd (slot_past e.terms t.tag h may.call.within)
open_of e t may (Some (Constant d)) h = let no = sym (head_unfolds e.terms may.exact.formed t.tag (Constant d) h) ∙ may.call.head in cc
open_of e t may (Some (HeldBy d)) h = let no = sym (head_unfolds e.terms may.exact.formed t.tag (HeldBy d) h) ∙ may.call.head in cc
open_of e t may (Some (File d)) h = let no = sym (head_unfolds e.terms may.exact.formed t.tag (File d) h) ∙ may.call.head in cc
open_of e t may (Some (Call m args)) h = record { may = may; «module» = m; args = args; term = h; fits = omega arith; plain = no_file_none (heads_of e.terms) args }

-- an argument in its place
pub place_of : (e : Setting) (o : Open) (h : IsOpen e o) (arg : ValueTag) → slice_get (args_in (term_of e.terms o)) (length o.inputs) ≡ Some arg → slice_get h.args (length o.inputs) ≡ Some arg
place_of e o h arg at = ap (λ x. slice_get (args_in x) (length o.inputs)) (sym h.term) ∙ at

-- one value more
pub more_open : (e : Setting) (o : Open) (v : Option Tree) (arg : ValueTag) → IsOpen e o → IsArgument e o arg → IsOpen e (record { wanted = o.wanted; inputs = o.inputs ++ v ∷ [] })
more_open e o v arg h a =
    let at = place_of e o h arg a.at in
    let w = slot_within h.args (length o.inputs) arg at in
    let len = length_snoc o.inputs v in
    record {
      may = h.may;
      «module» = h.«module»;
      args = h.args;
      term = h.term;
      fits = omega (arith, w, len);
      plain = subst (λ n. HaveNoFile (heads_of e.terms) (take n h.args)) (sym len) (no_file_more (heads_of e.terms) h.args (length o.inputs) arg at a.plain h.plain);
    }

-- the argument that a call above works for
pub argument_of : (e : Setting) (under over : Open) → IsAbove e under over → IsArgument e under over.wanted
argument_of e under over a = record { at = a.arg; plain = ap is_file a.to_get.may.call.head }

pub above_snoc : (os : List Open) (o top : Open) → above (os ++ o ∷ []) top ≡ above os o
above_snoc [] o top = refl
above_snoc (p ∷ os) o top = refl

-- the same stack below, whatever inputs the top has
pub below_same : (e : Setting) (os : List Open) (top top' : Open) → top'.wanted ≡ top.wanted → AreBelow e os top → AreBelow e os top'
below_same e [] top top' w h = tt
below_same e (o ∷ []) top top' w h = (h.0, record { arg = h.1.arg ∙ ap Some (sym w); to_get = subst (IsToGet e) (sym w) h.1.to_get; smaller = subst (λ (x : ValueTag). x.tag < o.wanted.tag) (sym w) h.1.smaller }, tt)
below_same e (o ∷ p ∷ os) top top' w h = (h.0, h.1, below_same e (p ∷ os) top top' w h.2)

pub lowest_same : (os : List Open) (top top' : Open) → top'.wanted ≡ top.wanted → lowest os top' ≡ lowest os top
lowest_same [] top top' w = w
lowest_same (o ∷ os) top top' w = refl

pub below_push : (e : Setting) (os : List Open) (top inner : Open) → AreBelow e os top → IsOpen e top → IsAbove e top inner → AreBelow e (os ++ top ∷ []) inner
below_push e [] top inner h o a = (o, a, tt)
below_push e (p ∷ os) top inner h o a = (h.0, subst (IsAbove e p) (sym (above_snoc os top inner)) h.1, below_push e os top inner h.2 o a)

pub below_pop : (e : Setting) (os : List Open) (under top : Open) → AreBelow e (os ++ under ∷ []) top → IsOpen e under × IsAbove e under top × AreBelow e os under
below_pop e [] under top h = (h.0, h.1, tt)
below_pop e (p ∷ os) under top h =
    let r = below_pop e os under top h.2 in
    (r.0, r.1, (h.0, subst (IsAbove e p) (above_snoc os under top) h.1, r.2))

pub lowest_push : (os : List Open) (top inner : Open) → lowest (os ++ top ∷ []) inner ≡ lowest os top
lowest_push os top inner = ap (λ (o : Open). o.wanted) (above_snoc os top inner)

-- the top has the least tag
pub top_least : (e : Setting) (os : List Open) (top : Open) → AreBelow e os top → top.wanted.tag ≤ (above os top).wanted.tag
top_least e [] top h = omega arith
top_least e (o ∷ os) top h = let r = top_least e os top h.2 in let w = h.1.smaller in omega (arith, r, w)

pub lowest_least : (e : Setting) (os : List Open) (top : Open) → AreBelow e os top → top.wanted.tag ≤ (lowest os top).tag
lowest_least e os top h = top_least e os top h

pub away_below : (e : Setting) (old new : Work) (os : List Open) (top : Open) (t : ℕ) → t ≤ top.wanted.tag → AreBelow e os top → ((u : ℕ) → t < u → IsAway old u → IsAway new u) → AreAway old os → AreAway new os
away_below e old new [] top t le h f n = tt
away_below e old new (o ∷ os) top t le h f n =
    let r = top_least e os top h.2 in
    let w = h.1.smaller in
    (f o.wanted.tag (omega (arith, r, w, le)) n.0, away_below e old new os top t le h.2 f n.1)

pub away_push : (w : Work) (os : List Open) (o : Open) → AreAway w os → IsAway w o.wanted.tag → AreAway w (os ++ o ∷ [])
away_push w [] o n h = (h, tt)
away_push w (p ∷ os) o n h = (n.0, away_push w os o n.1 h)

pub away_pop : (w : Work) (os : List Open) (o : Open) → AreAway w (os ++ o ∷ []) → AreAway w os × IsAway w o.wanted.tag
away_pop w [] o n = (tt, n.0)
away_pop w (p ∷ os) o n = let r = away_pop w os o n.1 in ((n.0, r.0), r.1)

pub have_push : (e : Setting) (files : World) (os : List Open) (o : Open) → HaveInputs e files os → HasInputs e files o → HaveInputs e files (os ++ o ∷ [])
have_push e files [] o h i = (i, tt)
have_push e files (p ∷ os) o h i = (h.0, have_push e files os o h.1 i)

pub have_pop : (e : Setting) (files : World) (os : List Open) (o : Open) → HaveInputs e files (os ++ o ∷ []) → HaveInputs e files os × HasInputs e files o
have_pop e files [] o h = (tt, h.0)
have_pop e files (p ∷ os) o h = let r = have_pop e files os o h.1 in ((h.0, r.0), r.1)

-- ---- how much is left

pub size_some : (t : ValueTerm) → 0 < size_of t
size_some (ConstantTerm c) = omega arith
size_some (HeldTerm k) = omega arith
size_some (FileTerm b) = omega arith
size_some (ResultTerm r (CallOf m ts)) = omega arith

pub left_arg : (hs : List Head) (o : Option Term) (i : ℕ) (arg : ValueTag) → slice_get (args_in o) i ≡ Some arg → left_in hs o i ≡ size_of (value_term hs arg) + left_in hs o (suc i)
left_arg hs o i arg h =
    ap (λ xs. 1 + sizes_of (value_terms hs xs)) (drop_at (args_in o) i arg h)
    ∙ omega arith

pub left_snoc : (terms : List Term) (os : List Open) (o : Open) → left_below terms (os ++ o ∷ []) ≡ left_below terms os + left_in (heads_of terms) (term_of terms o) (suc (length o.inputs))
left_snoc terms [] o = omega arith
left_snoc terms (p ∷ os) o = let r = left_snoc terms os o in omega (arith, r)

-- ---- the values that a call has

pub one_value : (e : Setting) (files : World) (o : Open) (arg : ValueTag) (v : Option Tree) → IsOpen e o → IsArgument e o arg → HasInputs e files o → denotes (around_of e files) (value_term (heads_of e.terms) arg) ≡ Ok v → HasInputs e files (record { wanted = o.wanted; inputs = o.inputs ++ v ∷ [] })
one_value e files o arg v op a h d =
    ap (λ n. all_denote (around_of e files) (value_terms (heads_of e.terms) (take n (args_in (term_of e.terms o))))) (length_snoc o.inputs v)
    ∙ denote_more (around_of e files) (heads_of e.terms) (args_in (term_of e.terms o)) (length o.inputs) arg o.inputs v a.at (subst (λ x. HaveNoFile (heads_of e.terms) (take (length o.inputs) (args_in x))) (sym op.term) op.plain) a.plain h d

no_values : (e : Setting) (files : World) (xs : List ValueTag) → all_denote (around_of e files) (value_terms (heads_of e.terms) (take 0 xs)) ≡ Ok []
no_values e files [] = refl
no_values e files (x ∷ xs) = refl

pub no_inputs : (e : Setting) (files : World) (t : ValueTag) → HasInputs e files (record { wanted = t; inputs = [] })
no_inputs e files t = no_values e files (args_in (slice_get e.terms t.tag))

-- ---- the exits of a step

module _ (e : Setting) (files : World) (base : Told) (budget : ℕ) (below : List Open) (top : Open) (o : IsOpen e top) (s : State) where
  module _ (arg : ValueTag) (a : IsArgument e top arg) where
    whole_is : rest_of (frame_of e files budget) e.terms below top s ≡ and_then (get (frame_of e files budget) (value_term (heads_of e.terms) arg) s) (λ s1. and_then (rest_under (frame_of e files budget) e.terms top s1) (rest_below (frame_of e files budget) e.terms below))
    whole_is = whole_arg (frame_of e files budget) e.terms below top o.«module» o.args o.term arg (place_of e top o arg a.at) s

    -- a value at hand
    pub step_value : (v : Option Tree) (w : Work) (now : Told) → WentTo e files base (get (frame_of e files budget) (value_term (heads_of e.terms) arg) s) w now → denotes (around_of e files) (value_term (heads_of e.terms) arg) ≡ Ok v → HasInputs e files top → HaveInputs e files below
        → GoesOn e files base budget (rest_of (frame_of e files budget) e.terms below top s) below (record { wanted = top.wanted; inputs = top.inputs ++ v ∷ [] }) w now
    step_value v w now h d i j =
        let st = went_state e files base (get (frame_of e files budget) (value_term (heads_of e.terms) arg) s) w now h in (
          st.0,
          st.2,
          whole_is ∙ ap (λ g. and_then g (λ s1. and_then (rest_under (frame_of e files budget) e.terms top s1) (rest_below (frame_of e files budget) e.terms below))) st.1 ∙ one_more (frame_of e files budget) e.terms below top v st.0,
          one_value e files top arg v o a i d,
          j,
        )

    -- and no memory for it
    pub step_value_cut : (w : Work) (now : Told) → WentTo e files base (get (frame_of e files budget) (value_term (heads_of e.terms) arg) s) w now → IsCut e files w base now (state_at (rest_of (frame_of e files budget) e.terms below top s))
    step_value_cut w now h =
        subst (λ g. IsCut e files w base now (state_at g)) (sym whole_is) (went_cut e files base w now (get (frame_of e files budget) (value_term (heads_of e.terms) arg) s) _ h (after_grows (frame_of e files budget) e.terms below top))

    pub step_hand_fails : (w : Work) (now : Told) (fail : GetFail) → FailsAt e files base fail (get (frame_of e files budget) (value_term (heads_of e.terms) arg) s) w now → FailsAt e files base fail (rest_of (frame_of e files budget) e.terms below top s) w now
    step_hand_fails w now fail h =
        subst (λ g. FailsAt e files base fail g w now) (sym whole_is) (fails_on e files base w now fail (get (frame_of e files budget) (value_term (heads_of e.terms) arg) s) _ h (after_grows (frame_of e files budget) e.terms below top))

    -- a call that has to run
    over_is : (s1 : State) → get (frame_of e files budget) (value_term (heads_of e.terms) arg) s ≡ rest_in (frame_of e files budget) (heads_of e.terms) (slice_get e.terms arg.tag) 0 s1 → rest_of (frame_of e files budget) e.terms below top s ≡ rest_of (frame_of e files budget) e.terms (below ++ top ∷ []) (record { wanted = arg; inputs = [] }) s1
    over_is s1 g = whole_is ∙ ap (λ x. and_then x (λ s1. and_then (rest_under (frame_of e files budget) e.terms top s1) (rest_below (frame_of e files budget) e.terms below))) g ∙ one_over (frame_of e files budget) e.terms below top arg s1

    pub step_over : (w : Work) (now : Told) (s1 : State) → Stands e files w base now s1 → get (frame_of e files budget) (value_term (heads_of e.terms) arg) s ≡ rest_in (frame_of e files budget) (heads_of e.terms) (slice_get e.terms arg.tag) 0 s1 → HasInputs e files top → HaveInputs e files below
        → GoesOn e files base budget (rest_of (frame_of e files budget) e.terms below top s) (below ++ top ∷ []) (record { wanted = arg; inputs = [] }) w now
    step_over w now s1 st g i j = (s1, st, over_is s1 g, no_inputs e files arg, have_push e files below top j i)

    pub step_over_cut : (w : Work) (now : Told) (s1 : State) → Stands e files w base now s1 → get (frame_of e files budget) (value_term (heads_of e.terms) arg) s ≡ rest_in (frame_of e files budget) (heads_of e.terms) (slice_get e.terms arg.tag) 0 s1 → IsCut e files w base now (state_at (rest_of (frame_of e files budget) e.terms below top s))
    step_over_cut w now s1 st g =
        subst (λ x. IsCut e files w base now (state_at x)) (sym (over_is s1 g))
        (cut_here e files base w w now s1 (rest_of (frame_of e files budget) e.terms (below ++ top ∷ []) (record { wanted = arg; inputs = [] }) s1) st (record { entries = refl; known = refl; events = refl }) (of_grows (frame_of e files budget) e.terms (below ++ top ∷ []) (record { wanted = arg; inputs = [] }) s1))

  -- a call that is to run
  module _ (m : Module) (file : Option (List ℕ)) (r : IsReadyToRun e top m file) where
    -- the run, and then what is below
    pub run_is : HasInputs e files top → rest_of (frame_of e files budget) e.terms below top s ≡ and_then (run_call (frame_of e files budget) m (value_terms (heads_of e.terms) r.args) (Ok top.inputs) s) (rest_below (frame_of e files budget) e.terms below)
    run_is i =
        ap (λ x. and_then (rest_in (frame_of e files budget) (heads_of e.terms) x (length top.inputs) s) (rest_below (frame_of e files budget) e.terms below)) r.term
        ∙ ap (λ g. and_then (and_then g (run_call (frame_of e files budget) m (value_terms (heads_of e.terms) r.args) (all_denote (around_of e files) (value_terms (heads_of e.terms) r.args)))) (rest_below (frame_of e files budget) e.terms below)) (r.rest (frame_of e files budget) s)
        ∙ ap (λ a. and_then (run_call (frame_of e files budget) m (value_terms (heads_of e.terms) r.args) a s) (rest_below (frame_of e files budget) e.terms below)) (r.inputs files i)

    -- a run, whatever it answers
    pub run_result : {A : Type 0} (q : Result A GetFail) (f : Called) (w w' : Work) (before now : Told) → lookup (nat_eq top.wanted.tag) e.formed ≡ Some f → HasInputs e files top → Stands e files w base before s → w.cache.budget ≡ budget
        → Runs top.wanted.tag f.site f.attribute (record { run = (m, top.inputs); own = file }) (files.answer m top.inputs (file_of (around_of e files) m top.inputs file)) q w w' before now
        → GetsCall e files base top.wanted.tag q (run_call (frame_of e files budget) m (value_terms (heads_of e.terms) r.args) (Ok top.inputs) s) w' now
    run_result q f w w' before now found i h same c =
        subst (λ b. GetsCall e files base top.wanted.tag q (run_call (frame_of e files b) m (value_terms (heads_of e.terms) r.args) (Ok top.inputs) s) w' now) same
        (run_gets e files base top.wanted.tag o.may f found m (value_terms (heads_of e.terms) r.args) (call_form e.terms o.may.exact top.wanted.tag (Call m r.args) m r.args r.term refl) top.inputs (r.inputs files i) q w w' before now s h
        (subst (λ x. Runs top.wanted.tag f.site f.attribute (record { run = (m, top.inputs); own = x }) (files.answer m top.inputs (file_of (around_of e files) m top.inputs x)) q w w' before now) (sym r.own) c))

    -- nothing was done yet
    pub step_run_here : (w : Work) (now : Told) → Stands e files w base now s → IsCut e files w base now (state_at (rest_of (frame_of e files budget) e.terms below top s))
    step_run_here w now h = cut_here e files base w w now s (rest_of (frame_of e files budget) e.terms below top s) h (record { entries = refl; known = refl; events = refl }) (of_grows (frame_of e files budget) e.terms below top s)

    pub step_run_fails : HasInputs e files top → (w : Work) (now : Told) (fail : GetFail) → FailsAt e files base fail (run_call (frame_of e files budget) m (value_terms (heads_of e.terms) r.args) (Ok top.inputs) s) w now → FailsAt e files base fail (rest_of (frame_of e files budget) e.terms below top s) w now
    step_run_fails i w now fail h =
        subst (λ g. FailsAt e files base fail g w now) (sym (run_is i)) (fails_on e files base w now fail (run_call (frame_of e files budget) m (value_terms (heads_of e.terms) r.args) (Ok top.inputs) s) _ h (below_grows (frame_of e files budget) e.terms below))

    pub step_run_cut : HasInputs e files top → (w : Work) (now : Told) → WentTo e files base (run_call (frame_of e files budget) m (value_terms (heads_of e.terms) r.args) (Ok top.inputs) s) w now → IsCut e files w base now (state_at (rest_of (frame_of e files budget) e.terms below top s))
    step_run_cut i w now h =
        subst (λ g. IsCut e files w base now (state_at g)) (sym (run_is i)) (went_cut e files base w now (run_call (frame_of e files budget) m (value_terms (heads_of e.terms) r.args) (Ok top.inputs) s) _ h (below_grows (frame_of e files budget) e.terms below))

    -- the last run
    pub step_done : HasInputs e files top → (w : Work) (now : Told) → below ≡ [] → WentTo e files base (run_call (frame_of e files budget) m (value_terms (heads_of e.terms) r.args) (Ok top.inputs) s) w now → WentTo e files base (rest_of (frame_of e files budget) e.terms below top s) w now
    step_done i w now none h =
        subst (λ g. WentTo e files base g w now) (sym (run_is i ∙ ap (λ os. and_then (run_call (frame_of e files budget) m (value_terms (heads_of e.terms) r.args) (Ok top.inputs) s) (rest_below (frame_of e files budget) e.terms os)) none ∙ then_went (run_call (frame_of e files budget) m (value_terms (heads_of e.terms) r.args) (Ok top.inputs) s))) h

    -- a run whose result the call below waits for
    pub step_under : HasInputs e files top → (os : List Open) (under : Open) → below ≡ os ++ under ∷ [] → (v : Option Tree) (w : Work) (now : Told) → WentTo e files base (run_call (frame_of e files budget) m (value_terms (heads_of e.terms) r.args) (Ok top.inputs) s) w now
        → AreBelow e below top → HaveInputs e files below → denotes (around_of e files) (value_term (heads_of e.terms) top.wanted) ≡ Ok v
        → GoesOn e files base budget (rest_of (frame_of e files budget) e.terms below top s) os (record { wanted = under.wanted; inputs = under.inputs ++ v ∷ [] }) w now
    step_under i os under split v w now h b j d =
        let st = went_state e files base (run_call (frame_of e files budget) m (value_terms (heads_of e.terms) r.args) (Ok top.inputs) s) w now h in
        let pop = below_pop e os under top (subst (λ xs. AreBelow e xs top) split b) in
        let have = have_pop e files os under (subst (HaveInputs e files) split j) in (
          st.0,
          st.2,
          run_is i ∙ ap (λ g. and_then g (rest_below (frame_of e files budget) e.terms below)) st.1 ∙ ap (λ os. rest_below (frame_of e files budget) e.terms os st.0) split
              ∙ below_snoc (frame_of e files budget) e.terms os under st.0 ∙ one_more (frame_of e files budget) e.terms os under v st.0,
          one_value e files under top.wanted v pop.0 (argument_of e under top pop.1) have.1 d,
          have.0,
        )

-- ---- what is at hand

drop_none : (args : List ValueTag) → drop 0 args ≡ args
drop_none [] = refl
drop_none (a ∷ args) = refl

module _ (e : Setting) (files : World) (base : Told) (t : ValueTag) (to : IsToGet e t) (w : Work) (now : Told) (s : State) (h : Stands e files w base now s) where
  pub known_gets : is_some (lookup (nat_eq t.tag) w.known.calls) ≡ true → WentTo e files base (get (frame_of e files w.cache.budget) (value_term (heads_of e.terms) t) s) w now × IsReady t.tag w.known.calls
  known_gets there =
      let known = is_known_by e files base to.may.exact w now s h t.tag to.may.call ∙ there in (
        subst (λ r. WentTo e files base r w now) (sym (value_goes e files t to w.cache.budget s ∙ known_went (frame_of e files w.cache.budget) (call_at (heads_of e.terms) t.tag) s known)) h,
        ready_some t.tag w.known.calls (lookup (nat_eq t.tag) w.known.calls) refl there,
      )

  pub hit_gets : is_some (lookup (nat_eq t.tag) w.known.calls) ≡ false → (f : Called) → lookup (nat_eq t.tag) e.formed ≡ Some f → (w' : Work) → IsHit t.tag f.site w w' → WentTo e files base (get (frame_of e files w.cache.budget) (value_term (heads_of e.terms) t) s) w' now × IsReady t.tag w'.known.calls
  hit_gets unknown f found w' i =
      let known = is_known_by e files base to.may.exact w now s h t.tag to.may.call ∙ unknown in
      let entry = has_entry_by e files base to.may.exact w now s h t.tag to.may.call ∙ ap is_some i.found in (
        subst (λ r. WentTo e files base r w' now) (sym (value_goes e files t to w.cache.budget s ∙ hit_went (frame_of e files w.cache.budget) (call_at (heads_of e.terms) t.tag) s known entry)) (hit_stands e files base t.tag to.may f found w w' now s h i),
        subst (IsReady t.tag) (sym i.known) (ready_last t.tag i.entry.outs w.known.calls),
      )

  pub run_left : is_some (lookup (nat_eq t.tag) w.known.calls) ≡ false → is_some (kept.find t.tag w.cache.entries) ≡ false → (s1 : State) × Stands e files w base now s1 × (get (frame_of e files w.cache.budget) (value_term (heads_of e.terms) t) s ≡ rest_in (frame_of e files w.cache.budget) (heads_of e.terms) (slice_get e.terms t.tag) 0 s1)
  run_left unknown none =
      let known = is_known_by e files base to.may.exact w now s h t.tag to.may.call ∙ unknown in
      let entry = has_entry_by e files base to.may.exact w now s h t.tag to.may.call ∙ none in
      let o = open_of e t to.may (slice_get e.terms t.tag) refl in
      let form = call_form e.terms to.may.exact t.tag (Call o.«module» o.args) o.«module» o.args o.term refl in (
        s,
        h,
        value_goes e files t to w.cache.budget s
            ∙ ap (λ c. get_call (frame_of e files w.cache.budget) c s) form
            ∙ run_goes (frame_of e files w.cache.budget) o.«module» (value_terms (heads_of e.terms) o.args) s (subst (λ c. has_call s.known c ≡ false) form known) (subst (λ c. has_entry s.entries c ≡ false) form entry)
            ∙ ap (λ xs. and_then (get_all (frame_of e files w.cache.budget) (value_terms (heads_of e.terms) xs) s) (run_call (frame_of e files w.cache.budget) o.«module» (value_terms (heads_of e.terms) o.args) (all_denote (around_of e files) (value_terms (heads_of e.terms) o.args)))) (sym (drop_none o.args))
            ∙ ap (λ x. rest_in (frame_of e files w.cache.budget) (heads_of e.terms) x 0 s) (sym o.term),
      )

none_of : {A : Type 0} (o : Option A) → is_some o ≡ false → o ≡ None
none_of None h = refl
none_of (Some x) h = absurd (true≢false h)

-- neither known nor kept
pub is_away : (w : Work) (t : ℕ) → is_some (lookup (nat_eq t) w.known.calls) ≡ false → is_some (kept.find t w.cache.entries) ≡ false → IsAway w t
is_away w t unknown none = record { entry = none_of (kept.find t w.cache.entries) none; known = none_of (lookup (nat_eq t) w.known.calls) unknown }

-- a hit leaves the calls of greater tags away, and the entries those of call terms
pub hit_above : (t : ℕ) (site : List ℕ) (w w' : Work) → IsHit t site w w' → (u : ℕ) → t < u → IsAway w u → IsAway w' u
hit_above t site w w' i u lt a = record {
  entry = subst (λ es. kept.find u es ≡ None) (sym i.entries) (moved_none t u w.cache.entries a.entry);
  known = subst (λ ks. lookup (nat_eq u) ks ≡ None) (sym i.known) (unknown_more t u i.entry.outs w.known.calls (not_same t u lt) a.known);
}

pub hit_calls : (terms : List Term) (t : ℕ) (site : List ℕ) (w w' : Work) → IsHit t site w w' → AreCalls terms w.cache.entries → AreCalls terms w'.cache.entries
hit_calls terms t site w w' i h = subst (AreCalls terms) (sym i.entries) (calls_moved terms t w.cache.entries h)

-- so does a run
other_tag : (t u : ℕ) → t < u → (t == u) ≡ false
other_tag t u h = cases (t == u) (λ q. let same = (unsigned_Decides t u).0 q in absurd (omega arith)) (λ q. q)

one_more_none : (t u : ℕ) (left new : List Entry) → t < u → IsOneMore t left new → kept.find u left ≡ None → kept.find u new ≡ None
one_more_none t u left new lt (inl e) h = subst (λ es. kept.find u es ≡ None) (sym e) h
one_more_none t u left new lt (inr m) h = subst (λ es. kept.find u es ≡ None) (sym m.2) (find-append u left m.0 h (other_tag m.0.tag u (subst (λ n. n < u) (sym m.1) lt)))

pub run_above : (t : ℕ) (w w' : Work) → Stores t w.cache.entries w'.cache.entries → Learns t w.known.calls w'.known.calls → (u : ℕ) → t < u → IsAway w u → IsAway w' u
run_above t w w' st l u lt a = record {
  entry = one_more_none t u st.left w'.cache.entries lt st.more (find-part u st.part a.entry);
  known = ⊎_elim
      (λ e. subst (λ ks. lookup (nat_eq u) ks ≡ None) (sym e) a.known)
      (λ m. subst (λ ks. lookup (nat_eq u) ks ≡ None) (sym m.1) (unknown_more t u m.0 w.known.calls (not_same t u lt) a.known))
      l;
}

pub run_calls : (terms : List Term) (t : ℕ) (old new : List Entry) → IsCall terms t → Stores t old new → AreCalls terms old → AreCalls terms new
run_calls terms t old new c st h = ⊎_elim
    (λ e. subst (AreCalls terms) (sym e) (calls_part terms st.part h))
    (λ m. subst (AreCalls terms) (sym m.2) (calls_append terms st.left (m.0 ∷ []) (calls_part terms st.part h) (subst (IsCall terms) (sym m.1) c, tt)))
    st.more

-- ---- what a step leaves of the stack

module _ (e : Setting) (old new : Work) (below : List Open) (top : Open) (st : IsStack e below top) (away : IsAway old top.wanted.tag × AreAway old below) where
  pub stepped_value : (arg : ValueTag) → IsArgument e top arg → (v : Option Tree) → ((u : ℕ) → arg.tag < u → IsAway old u → IsAway new u) → IsStepped e new (left_of e.terms below top) (lowest below top) below (record { wanted = top.wanted; inputs = top.inputs ++ v ∷ [] })
  stepped_value arg a v f =
      let part = left_arg (heads_of e.terms) (term_of e.terms top) (length top.inputs) arg a.at in
      let some = size_some (value_term (heads_of e.terms) arg) in
      let now : left_in (heads_of e.terms) (term_of e.terms top) (length (top.inputs ++ v ∷ [])) ≡ left_in (heads_of e.terms) (term_of e.terms top) (suc (length top.inputs)) = ap (left_in (heads_of e.terms) (term_of e.terms top)) (length_snoc top.inputs v) in
      let smaller = (may_get_arg e top.wanted.tag st.0.may (Call st.0.«module» st.0.args) st.0.«module» st.0.args st.0.term refl (length top.inputs) arg (place_of e top st.0 arg a.at)).0 in
      record {
        stack = (more_open e top v arg st.0 a, below_same e below top (record { wanted = top.wanted; inputs = top.inputs ++ v ∷ [] }) refl st.1);
        away = (f top.wanted.tag smaller away.0, away_below e old new below top arg.tag (omega (arith, smaller)) st.1 f away.1);
        less = omega (arith, part, some, now);
        same = lowest_same below top (record { wanted = top.wanted; inputs = top.inputs ++ v ∷ [] }) refl;
      }

  left_inner : (arg : ValueTag) (to : IsToGet e arg) → left_in (heads_of e.terms) (slice_get e.terms arg.tag) 0 + 1 ≡ size_of (value_term (heads_of e.terms) arg)
  left_inner arg to =
      let o = open_of e arg to.may (slice_get e.terms arg.tag) refl in
      let form = call_form e.terms to.may.exact arg.tag (Call o.«module» o.args) o.«module» o.args o.term refl in
      let size : size_of (value_term (heads_of e.terms) arg) ≡ 2 + sizes_of (value_terms (heads_of e.terms) o.args) = ap size_of (to.form ∙ ap (ResultTerm arg.result) form) in
      let inner : left_in (heads_of e.terms) (slice_get e.terms arg.tag) 0 ≡ 1 + sizes_of (value_terms (heads_of e.terms) o.args) = ap (λ x. left_in (heads_of e.terms) x 0) o.term ∙ ap (λ xs. 1 + sizes_of (value_terms (heads_of e.terms) xs)) (drop_none o.args) in
      omega (arith, size, inner)

  pub stepped_over : (arg : ValueTag) → IsArgument e top arg → IsToGet e arg → IsAway new arg.tag → ((u : ℕ) → arg.tag < u → IsAway old u → IsAway new u) → IsStepped e new (left_of e.terms below top) (lowest below top) (below ++ top ∷ []) (record { wanted = arg; inputs = [] })
  stepped_over arg a to absent f =
      let part = left_arg (heads_of e.terms) (term_of e.terms top) (length top.inputs) arg a.at in
      let inner = left_inner arg to in
      let more = left_snoc e.terms below top in
      let smaller = (may_get_arg e top.wanted.tag st.0.may (Call st.0.«module» st.0.args) st.0.«module» st.0.args st.0.term refl (length top.inputs) arg (place_of e top st.0 arg a.at)).0 in
      record {
        stack = (open_of e arg to.may (slice_get e.terms arg.tag) refl, below_push e below top (record { wanted = arg; inputs = [] }) st.1 st.0 (record { arg = a.at; to_get = to; smaller = smaller }));
        away = (absent, away_push new below top (away_below e old new below top arg.tag (omega (arith, smaller)) st.1 f away.1) (f top.wanted.tag smaller away.0));
        less = omega (arith, part, inner, more);
        same = lowest_push below top (record { wanted = arg; inputs = [] });
      }

  pub stepped_under : (os : List Open) (under : Open) → below ≡ os ++ under ∷ [] → (v : Option Tree) → ((u : ℕ) → top.wanted.tag < u → IsAway old u → IsAway new u) → IsStepped e new (left_of e.terms below top) (lowest below top) os (record { wanted = under.wanted; inputs = under.inputs ++ v ∷ [] })
  stepped_under os under split v f =
      let pop = below_pop e os under top (subst (λ xs. AreBelow e xs top) split st.1) in
      let left = away_pop new os under (subst (AreAway new) split (away_below e old new below top top.wanted.tag (omega arith) st.1 f away.1)) in
      let now : left_in (heads_of e.terms) (term_of e.terms under) (length (under.inputs ++ v ∷ [])) ≡ left_in (heads_of e.terms) (term_of e.terms under) (suc (length under.inputs)) = ap (left_in (heads_of e.terms) (term_of e.terms under)) (length_snoc under.inputs v) in
      let more = left_snoc e.terms os under in
      let whole = ap (left_below e.terms) split in
      record {
        stack = (more_open e under v top.wanted pop.0 (argument_of e under top pop.1), below_same e os under (record { wanted = under.wanted; inputs = under.inputs ++ v ∷ [] }) refl pop.2);
        away = (left.1, left.0);
        less = omega (arith, now, more, whole);
        same = lowest_same os under (record { wanted = under.wanted; inputs = under.inputs ++ v ∷ [] }) refl ∙ sym (lowest_push os under top) ∙ ap (λ xs. lowest xs top) (sym split);
      }

-- the start
pub start_is : (k : Frame) (terms : List Term) (t : ValueTag) (s : State) → rest_in k (heads_of terms) (slice_get terms t.tag) 0 s ≡ rest_of k terms [] (record { wanted = t; inputs = [] }) s
start_is k terms t s = sym (then_went (rest_in k (heads_of terms) (slice_get terms t.tag) 0 s))
