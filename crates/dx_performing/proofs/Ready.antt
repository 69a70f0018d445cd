-- What was got needs nothing more.
use Rattle.std.proofs.Common.{◌≡◌, List, [], ◌∷◌, ◌++◌, Bool, true, false, refl, sym, ap, ◌∙◌, true≢false}
use Rattle.std.specs.Prelude.{◌||◌, Ok, Err}
use Rattle.dx_base.specs.declared.function.Module.{Module}
use Rattle.dx_objects.specs.Runs.{Answer}
use Rattle.dx_tags.specs.Closed.{ValueTerm, ConstantTerm, HeldTerm, ResultTerm, FileTerm, CallTerm, CallOf, ValueTerms, NoTerm, AndTerm}
use Rattle.dx_links.specs.Denotes.{own_file, file_of, all_denote}
use Rattle.dx_links.specs.Getting.{same_call, has_value, has_call}
use Rattle.dx_machine.specs.Machine.{Frame, State, Got, Went, Stopped, and_then, state_at, with_event, RanAt, task_of, site_of, after_run, run_call, has_entry, obtain, unless_link, get, get_call, get_all}
use Rattle.dx_machine.proofs.SameTerms.{call_itself}
use Rattle.dx_performing.specs.Resuming.{is_ready, ReadyStays}

by_test : {P : Type 0} (b : Bool) → (b ≡ true → P) → (b ≡ false → P) → P
by_test true f g = f refl
by_test false f g = g refl

-- ---- to get what is ready does nothing

link_gives : (k : Frame) (t : ValueTerm) (s : State) (g : Got) → (b n : Bool) → (b || n) ≡ true → (n ≡ true → g ≡ Went s) → unless_link b s g ≡ Went s
link_gives k t s g true n e f = refl
link_gives k t s g false n e f = f e

known_gives : (k : Frame) (c : CallTerm) (s : State) → has_call s.known c ≡ true → get_call k c s ≡ Went s
known_gives k (CallOf m ts) s e = rw e refl

pub ready_gives : (k : Frame) (t : ValueTerm) (s : State) → is_ready k s t ≡ true → get k t s ≡ Went s
ready_gives k (ConstantTerm c) s e = refl
ready_gives k (HeldTerm n) s e = refl
ready_gives k (FileTerm bytes) s e = refl
ready_gives k (ResultTerm result c) s e = link_gives k (ResultTerm result c) s (get_call k c s) (has_value k.links (ResultTerm result c)) (has_call s.known c) e (known_gives k c s)

-- ---- known calls stay so

has_more : (cs ds : List CallTerm) (c : CallTerm) → has_call cs c ≡ true → has_call (cs ++ ds) c ≡ true
has_more [] ds c e = absurd (true≢false (sym e))
has_more (d ∷ cs) ds c e = by_test (same_call d c) (λ t. rw t refl) (λ f. rw f (has_more cs ds c (sym (ap (λ b. b || has_call cs c) f) ∙ e)))

has_last : (cs : List CallTerm) (c : CallTerm) → has_call (cs ++ c ∷ []) c ≡ true
has_last [] c = rw (call_itself c) refl
has_last (d ∷ cs) c = by_test (same_call d c) (λ t. rw t refl) (λ f. rw f (has_last cs c))

-- all that was known is known
abbrev KnownStays : State → State → Type 0
KnownStays s s1 = (c : CallTerm) → has_call s.known c ≡ true → has_call s1.known c ≡ true

then_stays : (s : State) (g : Got) (go : State → Got) → KnownStays s (state_at g) → ((s1 : State) → KnownStays s1 (state_at (go s1))) → KnownStays s (state_at (and_then g go))
then_stays s (Went s1) go p q = λ c e. q s1 c (p c e)
then_stays s (Stopped refused code s1) go p q = p

after_stays : (k : Frame) (c : CallTerm) (a : Answer) (s : State) → KnownStays s (state_at (after_run k c a s))
after_stays k c (Ok results) s = λ d e. has_more s.known (c ∷ []) d e
after_stays k c (Err code) s = λ d e. e

run_stays : (k : Frame) (m : Module) (ts : ValueTerms) (a : Answer) (s : State) → KnownStays s (state_at (run_call k m ts a s))
run_stays k m ts (Ok values) s = after_stays k (CallOf m ts) (k.around.answer m values (file_of k.around m values (own_file ts))) (with_event (RanAt (site_of k.formed (CallOf m ts)) (task_of m ts values)) s)
run_stays k m ts (Err code) s = λ c e. e

obtain_stays : (b0 b1 : Bool) (k : Frame) (m : Module) (ts : ValueTerms) (s : State) (g : Got) → KnownStays s (state_at g) → KnownStays s (state_at (obtain b0 b1 k m ts s g))
obtain_stays true b1 k m ts s g p = λ c e. e
obtain_stays false true k m ts s g p = λ c e. has_more s.known (CallOf m ts ∷ []) c e
obtain_stays false false k m ts s g p = then_stays s g (run_call k m ts (all_denote k.around ts)) p (run_stays k m ts (all_denote k.around ts))

link_stays : (b : Bool) (s : State) (g : Got) → KnownStays s (state_at g) → KnownStays s (state_at (unless_link b s g))
link_stays true s g p = λ c e. e
link_stays false s g p = p

mutual
  pub get_stays : (k : Frame) (t : ValueTerm) (s : State) → KnownStays s (state_at (get k t s))
  get_stays k (ConstantTerm c) s = λ d e. e
  get_stays k (HeldTerm i) s = λ d e. e
  get_stays k (FileTerm b) s = λ d e. e
  get_stays k (ResultTerm result c) s = link_stays (has_value k.links (ResultTerm result c)) s (get_call k c s) (call_stays k c s)

  call_stays : (k : Frame) (c : CallTerm) (s : State) → KnownStays s (state_at (get_call k c s))
  call_stays k (CallOf m ts) s = obtain_stays (has_call s.known (CallOf m ts)) (has_entry s.entries (CallOf m ts)) k m ts s (get_all k ts s) (all_stay k ts s)

  all_stay : (k : Frame) (ts : ValueTerms) (s : State) → KnownStays s (state_at (get_all k ts s))
  all_stay k NoTerm s = λ d e. e
  all_stay k (AndTerm t ts) s = then_stays s (get k t s) (get_all k ts) (get_stays k t s) (all_stay k ts)

-- ---- a call that was got is known

went_same : (s s1 : State) → Went s ≡ Went s1 → s1 ≡ s
went_same s s1 e = ap state_at (sym e)

-- where it went well, it is known
abbrev KnownThen : CallTerm → Got → Type 0
KnownThen c (Went s) = has_call s.known c ≡ true
KnownThen c (Stopped refused code s) = Unit {0}

after_known : (k : Frame) (c : CallTerm) (a : Answer) (s : State) → KnownThen c (after_run k c a s)
after_known k c (Ok results) s = has_last s.known c
after_known k c (Err code) s = tt

run_known : (k : Frame) (m : Module) (ts : ValueTerms) (a : Answer) (s : State) → KnownThen (CallOf m ts) (run_call k m ts a s)
run_known k m ts (Ok values) s = after_known k (CallOf m ts) (k.around.answer m values (file_of k.around m values (own_file ts))) (with_event (RanAt (site_of k.formed (CallOf m ts)) (task_of m ts values)) s)
run_known k m ts (Err code) s = tt

then_known : (c : CallTerm) (g : Got) (go : State → Got) → ((s1 : State) → KnownThen c (go s1)) → KnownThen c (and_then g go)
then_known c (Went s1) go p = p s1
then_known c (Stopped refused code s1) go p = tt

obtain_known : (b0 b1 : Bool) (k : Frame) (m : Module) (ts : ValueTerms) (s : State) (g : Got) → has_call s.known (CallOf m ts) ≡ b0 → KnownThen (CallOf m ts) (obtain b0 b1 k m ts s g)
obtain_known true b1 k m ts s g e = e
obtain_known false true k m ts s g e = has_last s.known (CallOf m ts)
obtain_known false false k m ts s g e = then_known (CallOf m ts) g (run_call k m ts (all_denote k.around ts)) (run_known k m ts (all_denote k.around ts))

call_known : (k : Frame) (c : CallTerm) (s : State) → KnownThen c (get_call k c s)
call_known k (CallOf m ts) s = obtain_known (has_call s.known (CallOf m ts)) (has_entry s.entries (CallOf m ts)) k m ts s (get_all k ts s) refl

went_known : (c : CallTerm) (g : Got) (s1 : State) → KnownThen c g → g ≡ Went s1 → has_call s1.known c ≡ true
went_known c (Went s) s1 h e = ap (λ (x : State). has_call x.known c) (went_same s s1 e) ∙ h
went_known c (Stopped refused code s) s1 h e = cc

or_second : (b n : Bool) → n ≡ true → (b || n) ≡ true
or_second true n e = refl
or_second false n e = e

result_ready : (c : CallTerm) (s s1 : State) (g : Got) (b : Bool) → KnownThen c g → unless_link b s g ≡ Went s1 → (b || has_call s1.known c) ≡ true
result_ready c s s1 g true h e = refl
result_ready c s s1 g false h e = went_known c g s1 h e

pub got_ready : (k : Frame) (t : ValueTerm) (s s1 : State) → get k t s ≡ Went s1 → is_ready k s1 t ≡ true
got_ready k (ConstantTerm c) s s1 e = refl
got_ready k (HeldTerm n) s s1 e = refl
got_ready k (FileTerm bytes) s s1 e = refl
got_ready k (ResultTerm result c) s s1 e = result_ready c s s1 (get_call k c s) (has_value k.links (ResultTerm result c)) (call_known k c s) e

or_stays : (b n n1 : Bool) → (n ≡ true → n1 ≡ true) → (b || n) ≡ true → (b || n1) ≡ true
or_stays true n n1 f e = refl
or_stays false n n1 f e = f e

ready_kept : (k : Frame) (s s1 : State) → KnownStays s s1 → (u : ValueTerm) → is_ready k s u ≡ true → is_ready k s1 u ≡ true
ready_kept k s s1 h (ConstantTerm c) e = refl
ready_kept k s s1 h (HeldTerm n) e = refl
ready_kept k s s1 h (FileTerm bytes) e = refl
ready_kept k s s1 h (ResultTerm result c) e = or_stays (has_value k.links (ResultTerm result c)) (has_call s.known c) (has_call s1.known c) (h c) e

stays_at : (s s1 : State) (g : Got) → g ≡ Went s1 → KnownStays s (state_at g) → KnownStays s s1
stays_at s s1 g e h = λ c q. ap (λ (x : Got). has_call (state_at x).known c) (sym e) ∙ h c q

pub ready_stays : ReadyStays
ready_stays k t s s1 e = (got_ready k t s s1 e, ready_kept k s s1 (stays_at s s1 (get k t s) e (get_stays k t s)))
