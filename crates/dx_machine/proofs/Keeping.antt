-- What keeps a state sound.
use Rattle.std.proofs.Common.{◌≡◌, ◌⊎◌, ⊎_elim, inl, inr, ℕ, zero, suc, ◌+◌, ◌<◌, ◌≤◌, List, [], ◌∷◌, ◌++◌, Bool, true, false, refl, sym, ap, ap₂, ◌∙◌, subst, arith, true≢false}
use Rattle.std.specs.Prelude.{filter, not, ◌==◌, ◌||◌, nat_le, if◌then◌else◌, Result, Ok, Err}
use Rattle.std.specs.Cmp.{unsigned_Decides}
use Rattle.std.proofs.lemmas.Bool.Decides.{nat_tests}
use Rattle.dx_base.specs.Object.{results_size}
use Rattle.dx_base.specs.declared.function.Module.{Module}
use Rattle.dx_base.specs.declared.code.Code.{Code}
use Rattle.dx_objects.specs.Runs.{Values, Answer}
use Rattle.dx_tags.specs.Closed.{ValueTerm, ConstantTerm, HeldTerm, ResultTerm, FileTerm, CallTerm, CallOf, ValueTerms, NoTerm, AndTerm}
use Rattle.dx_links.specs.Denotes.{Around, results_of, all_denote, own_file, file_of, denoted_call}
use Rattle.dx_links.specs.Getting.{same_call, has_value, has_call}
use Rattle.dx_cache.specs.Cached.{IsPartOf, part_none, part_keep, part_skip, stays}
use Rattle.dx_cache.proofs.Drops.{part_all, part_then}
use Rattle.dx_cache.proofs.Places.{cases}
use Rattle.dx_machine.specs.Machine.{Cached, Event, RanAt, FormedCall, Frame, State, Got, Went, Stopped, and_then, state_at, site_of, attribute_of, has_entry, total, of_site, fitting, others, left_for, store, entry_for, with_known, with_event, after_run, task_of, run_call, hit, obtain, unless_link, get, get_call, get_all, emptied}
use Rattle.dx_machine.specs.Sound.{IsRight, AreRight, HasResults, HaveResults, IsSound, HaveAttributes, TellingKeeps, HitKeeps, StoringKeeps, EmptyingKeeps, GettingKeeps, GettingAllKeeps}
use Rattle.dx_machine.proofs.SameTerms.{call_is, call_true}

-- ---- lists of entries

or_false : (a b : Bool) → (a || b) ≡ false → (a ≡ false) × (b ≡ false)
or_false true b h = absurd (true≢false h)
or_false false b h = (refl, h)

none_append : (xs ys : List Cached) (c : CallTerm) → has_entry xs c ≡ false → has_entry ys c ≡ false → has_entry (xs ++ ys) c ≡ false
none_append [] ys c p q = q
none_append (x ∷ xs) ys c p q = let r = or_false (same_call x.call c) (has_entry xs c) p in rw r.0 (none_append xs ys c r.1 q)

none_part : (c : CallTerm) {xs ys : List Cached} → IsPartOf xs ys → has_entry ys c ≡ false → has_entry xs c ≡ false
none_part c part_none h = refl
none_part c (part_keep {x = x} {xs = xs} {ys = ys} p) h = let r = or_false (same_call x.call c) (has_entry ys c) h in rw r.0 (none_part c p r.1)
none_part c (part_skip {y = y} {xs = xs} {ys = ys} p) h = none_part c p (or_false (same_call y.call c) (has_entry ys c) h).1

right_part : (a : Around) {xs ys : List Cached} → IsPartOf xs ys → AreRight a ys → AreRight a xs
right_part a part_none h = tt
right_part a (part_keep {x = x} {xs = xs} {ys = ys} p) h = (h.0, none_part x.call p h.1, right_part a p h.2)
right_part a (part_skip {y = y} {xs = xs} {ys = ys} p) h = right_part a p h.2

total_part : {xs ys : List Cached} → IsPartOf xs ys → total xs ≤ total ys
total_part part_none = omega arith
total_part (part_keep {x = x} {xs = xs} {ys = ys} p) = let r = total_part p in omega (arith, r)
total_part (part_skip {y = y} {xs = xs} {ys = ys} p) = let r = total_part p in omega (arith, r)

total_append : (xs ys : List Cached) → total (xs ++ ys) ≡ total xs + total ys
total_append [] ys = omega arith
total_append (x ∷ xs) ys = let r = total_append xs ys in omega (arith, r)

filter_part : (p : Cached → Bool) (es : List Cached) → IsPartOf (filter p es) es
filter_part p [] = part_none
filter_part p (e ∷ es) = cases (p e) (λ q. rw q (part_keep (filter_part p es))) (λ q. rw q (part_skip (filter_part p es)))

fitting_part : (budget size : ℕ) (es : List Cached) → IsPartOf (fitting budget size es) es
fitting_part budget size [] = part_none
fitting_part budget size (e ∷ es) = cases (nat_le (total (e ∷ es) + size) budget) (λ q. rw q (part_all (e ∷ es))) (λ q. rw q (part_skip (fitting_part budget size es)))

others_part : (attribute : ℕ) (site : List ℕ) (es : List Cached) → IsPartOf (others attribute site es) es
others_part attribute site es = cases (attribute == 2) (λ q. rw q (filter_part (λ x. not (of_site site x)) es)) (λ q. rw q (part_all es))

left_part : (site : List ℕ) (attribute size budget : ℕ) (es : List Cached) → IsPartOf (left_for site attribute size budget es) es
left_part site attribute size budget es =
    cases (attribute == 0) (λ a. rw a (part_all es))
    (λ a. cases (nat_le size budget)
    (λ w. rw (a, w) (part_then _ _ _ (fitting_part budget size (others attribute site es)) (others_part attribute site es)))
    (λ w. rw (a, w) (others_part attribute site es)))

fitting_fits : (budget size : ℕ) (es : List Cached) → nat_le size budget ≡ true → total (fitting budget size es) + size ≤ budget
fitting_fits budget size [] w = let z : 0 + size ≡ size = omega arith in grind (arith, nat_tests, w, z)
fitting_fits budget size (e ∷ es) w = cases (nat_le (total (e ∷ es) + size) budget) (λ q. rw q (grind (arith, nat_tests, q))) (λ q. rw q (fitting_fits budget size es w))

-- those of one call behind the others
apart : (a : Around) (c : CallTerm) (xs ys : List Cached) → AreRight a xs → AreRight a ys → ((x : Cached) → has_entry ys x.call ≡ false ⊎ (x.call ≡ c)) → has_entry xs c ≡ false → AreRight a (xs ++ ys)
apart a c [] ys p q f n = q
apart a c (x ∷ xs) ys p q f n =
    let r = or_false (same_call x.call c) (has_entry xs c) n in
    (p.0, ⊎_elim (λ no. none_append xs ys x.call p.1 no) (λ e. absurd (true≢false (sym (call_true x.call c e) ∙ r.0))) (f x), apart a c xs ys p.2 q f r.1)

none_other : (c : CallTerm) (es : List Cached) → has_entry (filter (λ e. not (same_call e.call c)) es) c ≡ false
none_other c [] = refl
none_other c (e ∷ es) = cases (same_call e.call c) (λ q. rw q (none_other c es)) (λ q. rw q (rw q (none_other c es)))

only_own : (c d : CallTerm) (es : List Cached) → has_entry (filter (λ e. same_call e.call c) es) d ≡ false ⊎ (d ≡ c)
only_own c d [] = inl refl
only_own c d (e ∷ es) = cases (same_call e.call c)
    (λ q. rw q (cases (same_call e.call d)
    (λ p. inr (sym (call_is e.call d p) ∙ call_is e.call c q))
    (λ p. rw p (only_own c d es))))
    (λ q. rw q (only_own c d es))

known_more : (a : Around) (cs : List CallTerm) (c : CallTerm) → HaveResults a cs → HasResults a c → HaveResults a (cs ++ c ∷ [])
known_more a [] c h r = (r, tt)
known_more a (d ∷ cs) c h r = (h.0, known_more a cs c h.1 r)

-- ---- the steps

pub telling_keeps : TellingKeeps
telling_keeps a budget e s h = record { entries = h.entries; bounded = h.bounded; known = h.known }

split_total : (c : CallTerm) (es : List Cached) → total (filter (λ e. not (same_call e.call c)) es ++ filter (λ e. same_call e.call c) es) ≡ total es
split_total c es = total_append (filter (λ e. not (same_call e.call c)) es) (filter (λ e. same_call e.call c) es) ∙ halves es
  where
    halves : (es : List Cached) → total (filter (λ e. not (same_call e.call c)) es) + total (filter (λ e. same_call e.call c) es) ≡ total es
    halves [] = refl
    halves (e ∷ es) = let r = halves es in cases (same_call e.call c) (λ q. rw q (omega (arith, r))) (λ q. rw q (omega (arith, r)))

pub hit_keeps : HitKeeps
hit_keeps k c s r h = record {
  entries = apart k.around c (filter (λ e. not (same_call e.call c)) s.entries) (filter (λ e. same_call e.call c) s.entries)
      (right_part k.around (filter_part (λ e. not (same_call e.call c)) s.entries) h.entries)
      (right_part k.around (filter_part (λ e. same_call e.call c) s.entries) h.entries)
      (λ x. only_own c x.call s.entries)
      (none_other c s.entries);
  bounded = (let b = h.bounded in let t = split_total c s.entries in omega (arith, b, t));
  known = known_more k.around s.known c h.known r;
}

attribute_at_most : (fs : List FormedCall) (c : CallTerm) → HaveAttributes fs → attribute_of fs c ≤ 2
attribute_at_most [] c h = omega arith
attribute_at_most (f ∷ fs) c h = cases (same_call f.call c) (λ q. rw q h.0) (λ q. rw q (attribute_at_most fs c h.1))

one_or_two : (n : ℕ) → n ≤ 2 → (n == 0) ≡ false → (n ≡ 1) ⊎ (n ≡ 2)
one_or_two zero le z = absurd (true≢false (sym ((unsigned_Decides 0 0).1 refl) ∙ z))
one_or_two (suc zero) le z = inl refl
one_or_two (suc (suc zero)) le z = inr refl
one_or_two (suc (suc (suc n))) le z = absurd (omega (arith, le))

alone : (a : Around) (e : Cached) → IsRight a e → AreRight a (e ∷ [])
alone a e r = (r, refl, tt)

stored : (a : Around) (budget : ℕ) (e : Cached) (es : List Cached) → AreRight a es → total es ≤ budget → results_of a e.call ≡ Ok e.results → e.size ≡ results_size e.results → e.attribute ≤ 2 → has_entry es e.call ≡ false
    → AreRight a (left_for e.site e.attribute e.size budget es ++ (if stays e.attribute e.size budget then e ∷ [] else [])) × (total (left_for e.site e.attribute e.size budget es ++ (if stays e.attribute e.size budget then e ∷ [] else [])) ≤ budget)
stored a budget e es right bounded results size at none =
    cases (e.attribute == 0)
    (λ z. rw z (append_none es right bounded))
    (λ z. cases (nat_le e.size budget)
    (λ w. rw (z, w) (
    let part = part_then _ _ _ (fitting_part budget e.size (others e.attribute e.site es)) (others_part e.attribute e.site es) in
    let fits = fitting_fits budget e.size (others e.attribute e.site es) w in
    let sum = total_append (fitting budget e.size (others e.attribute e.site es)) (e ∷ []) in
    (behind (fitting budget e.size (others e.attribute e.site es)) (right_part a part right) (none_part e.call part none) (record { results = results; size = size; attribute = one_or_two e.attribute at z }), omega (arith, fits, sum))))
    (λ w. rw (z, w) (
    let part = others_part e.attribute e.site es in
    let less = total_part part in
    append_none (others e.attribute e.site es) (right_part a part right) (omega (arith, less, bounded)))))
  where
    append_none : (xs : List Cached) → AreRight a xs → total xs ≤ budget → AreRight a (xs ++ []) × (total (xs ++ []) ≤ budget)
    append_none xs r b = let t = total_append xs [] in (none_behind xs r, omega (arith, t, b))
      where
        none_behind : (xs : List Cached) → AreRight a xs → AreRight a (xs ++ [])
        none_behind [] r = tt
        none_behind (x ∷ xs) r = (r.0, none_append xs [] x.call r.1 refl, none_behind xs r.2)

    behind : (xs : List Cached) → AreRight a xs → has_entry xs e.call ≡ false → IsRight a e → AreRight a (xs ++ e ∷ [])
    behind [] r n i = (i, refl, tt)
    behind (x ∷ xs) r n i =
        let q = or_false (same_call x.call e.call) (has_entry xs e.call) n in
        let other : same_call e.call x.call ≡ false = cases (same_call e.call x.call) (λ p. absurd (true≢false (sym (call_true x.call e.call (sym (call_is e.call x.call p))) ∙ q.0))) (λ p. p) in
        (r.0, none_append xs (e ∷ []) x.call r.1 (rw other refl), behind xs r.2 q.1 i)

pub storing_keeps : StoringKeeps
storing_keeps k c results s attributes gives none h =
    let r = stored k.around k.budget (entry_for k c results) s.entries h.entries h.bounded gives refl (attribute_at_most k.formed c attributes) none in
    record { entries = r.0; bounded = r.1; known = known_more k.around s.known c h.known (results, gives) }

pub emptying_keeps : EmptyingKeeps
emptying_keeps a budget s = record { entries = tt; bounded = omega arith; known = tt }

-- ---- a getting stores no entry of a call that it works for

abbrev mutual
  size_of : ValueTerm → ℕ
  size_of (ConstantTerm c) = 0
  size_of (HeldTerm n) = 0
  size_of (FileTerm b) = 0
  size_of (ResultTerm r c) = size_of_call c

  size_of_call : CallTerm → ℕ
  size_of_call (CallOf m ts) = 1 + sizes_of ts

  sizes_of : ValueTerms → ℕ
  sizes_of NoTerm = 0
  sizes_of (AndTerm t ts) = size_of t + sizes_of ts

smaller_other : (c d : CallTerm) → size_of_call d < size_of_call c → same_call d c ≡ false
smaller_other c d h = cases (same_call d c) (λ q. let e = ap size_of_call (call_is d c q) in absurd (omega (arith, h, e))) (λ q. q)

store_out : (budget : ℕ) (e : Cached) (s : State) (c : CallTerm) → same_call e.call c ≡ false → has_entry s.entries c ≡ false → has_entry (store budget e s).entries c ≡ false
store_out budget e s c other none = none_append (left_for e.site e.attribute e.size budget s.entries) (if stays e.attribute e.size budget then e ∷ [] else []) c (none_part c (left_part e.site e.attribute e.size budget s.entries) none) (by (stays e.attribute e.size budget))
  where
    by : (b : Bool) → has_entry (if b then e ∷ [] else []) c ≡ false
    by true = rw other refl
    by false = refl

run_out : (k : Frame) (m : Module) (ts : ValueTerms) (a : Answer) (s : State) (c : CallTerm) → same_call (CallOf m ts) c ≡ false → has_entry s.entries c ≡ false → has_entry (state_at (run_call k m ts a s)).entries c ≡ false
run_out k m ts (Err code) s c other none = none
run_out k m ts (Ok values) s c other none = after (k.around.answer m values (file_of k.around m values (own_file ts)))
  where
    after : (a : Answer) → has_entry (state_at (after_run k (CallOf m ts) a (with_event (RanAt (site_of k.formed (CallOf m ts)) (task_of m ts values)) s))).entries c ≡ false
    after (Err code) = none
    after (Ok results) = store_out k.budget (entry_for k (CallOf m ts) results) (with_known (CallOf m ts) (with_event (RanAt (site_of k.formed (CallOf m ts)) (task_of m ts values)) s)) c other none

then_out : (g : Got) (next : State → Got) (c : CallTerm) → has_entry (state_at g).entries c ≡ false → ((s : State) → has_entry s.entries c ≡ false → has_entry (state_at (next s)).entries c ≡ false) → has_entry (state_at (and_then g next)).entries c ≡ false
then_out (Went s) next c h f = f s h
then_out (Stopped d code s) next c h f = h

obtain_out : (b0 b1 : Bool) (k : Frame) (m : Module) (ts : ValueTerms) (s : State) (g : Got) (c : CallTerm) → same_call (CallOf m ts) c ≡ false → has_entry s.entries c ≡ false → has_entry (state_at g).entries c ≡ false → has_entry (state_at (obtain b0 b1 k m ts s g)).entries c ≡ false
obtain_out true b1 k m ts s g c other none h = none
obtain_out false true k m ts s g c other none h = none_append (filter (λ e. not (same_call e.call (CallOf m ts))) s.entries) (filter (λ e. same_call e.call (CallOf m ts)) s.entries) c (none_part c (filter_part (λ e. not (same_call e.call (CallOf m ts))) s.entries) none) (none_part c (filter_part (λ e. same_call e.call (CallOf m ts)) s.entries) none)
obtain_out false false k m ts s g c other none h = then_out g (run_call k m ts (all_denote k.around ts)) c h (λ s1 n. run_out k m ts (all_denote k.around ts) s1 c other n)

link_out : (b : Bool) (s : State) (g : Got) (c : CallTerm) → has_entry s.entries c ≡ false → has_entry (state_at g).entries c ≡ false → has_entry (state_at (unless_link b s g)).entries c ≡ false
link_out true s g c none h = none
link_out false s g c none h = h

mutual
  get_out : (k : Frame) (t : ValueTerm) (s : State) (c : CallTerm) → size_of t < size_of_call c → has_entry s.entries c ≡ false → has_entry (state_at (get k t s)).entries c ≡ false
  get_out k (ConstantTerm d) s c h none = none
  get_out k (HeldTerm n) s c h none = none
  get_out k (FileTerm b) s c h none = none
  get_out k (ResultTerm r d) s c h none = link_out (has_value k.links (ResultTerm r d)) s (get_call k d s) c none (call_out k d s c h none)

  call_out : (k : Frame) (d : CallTerm) (s : State) (c : CallTerm) → size_of_call d < size_of_call c → has_entry s.entries c ≡ false → has_entry (state_at (get_call k d s)).entries c ≡ false
  call_out k (CallOf m ts) s c h none = obtain_out (has_call s.known (CallOf m ts)) (has_entry s.entries (CallOf m ts)) k m ts s (get_all k ts s) c (smaller_other c (CallOf m ts) h) none (all_out k ts s c (omega (arith, h)) none)

  pub all_out : (k : Frame) (ts : ValueTerms) (s : State) (c : CallTerm) → sizes_of ts < size_of_call c → has_entry s.entries c ≡ false → has_entry (state_at (get_all k ts s)).entries c ≡ false
  all_out k NoTerm s c h none = none
  all_out k (AndTerm t ts) s c h none = then_out (get k t s) (get_all k ts) c (get_out k t s c (omega (arith, h)) none) (λ s1 n. all_out k ts s1 c (omega (arith, h)) n)

-- ---- a getting

module _ (k : Frame) (attributes : HaveAttributes k.formed) where
  abbrev Keeps : State → Type 0
  Keeps s = IsSound k.around k.budget s

  run_keeps : (m : Module) (ts : ValueTerms) (a : Answer) (s : State) → all_denote k.around ts ≡ a → has_entry s.entries (CallOf m ts) ≡ false → Keeps s → Keeps (state_at (run_call k m ts a s))
  run_keeps m ts (Err code) s e none h = h
  run_keeps m ts (Ok values) s e none h = after (k.around.answer m values (file_of k.around m values (own_file ts))) refl
    where
      after : (a : Answer) → k.around.answer m values (file_of k.around m values (own_file ts)) ≡ a → Keeps (state_at (after_run k (CallOf m ts) a (with_event (RanAt (site_of k.formed (CallOf m ts)) (task_of m ts values)) s)))
      after (Err code) q = telling_keeps k.around k.budget (RanAt (site_of k.formed (CallOf m ts)) (task_of m ts values)) s h
      after (Ok results) q = storing_keeps k (CallOf m ts) results (with_event (RanAt (site_of k.formed (CallOf m ts)) (task_of m ts values)) s) attributes (ap (denoted_call k.around m (own_file ts)) e ∙ q) none (telling_keeps k.around k.budget (RanAt (site_of k.formed (CallOf m ts)) (task_of m ts values)) s h)

  then_keeps : (g : Got) (next : State → Got) (c : CallTerm) → Keeps (state_at g) → has_entry (state_at g).entries c ≡ false → ((s : State) → has_entry s.entries c ≡ false → Keeps s → Keeps (state_at (next s))) → Keeps (state_at (and_then g next))
  then_keeps (Went s) next c h n f = f s n h
  then_keeps (Stopped d code s) next c h n f = h

  and_keeps : (g : Got) (next : State → Got) → Keeps (state_at g) → ((s : State) → Keeps s → Keeps (state_at (next s))) → Keeps (state_at (and_then g next))
  and_keeps (Went s) next h f = f s h
  and_keeps (Stopped d code s) next h f = h

  pub found_results : (es : List Cached) (c : CallTerm) → AreRight k.around es → has_entry es c ≡ true → HasResults k.around c
  found_results [] c r h = absurd (true≢false (sym h))
  found_results (e ∷ es) c r h = cases (same_call e.call c)
      (λ q. (e.results, ap (results_of k.around) (sym (call_is e.call c q)) ∙ r.0.results))
      (λ q. let h1 : has_entry es c ≡ true = rw q at h in found_results es c r.2 h1)

  obtain_keeps : (b0 b1 : Bool) (m : Module) (ts : ValueTerms) (s : State) → has_call s.known (CallOf m ts) ≡ b0 → has_entry s.entries (CallOf m ts) ≡ b1 → Keeps s → Keeps (state_at (get_all k ts s)) → Keeps (state_at (obtain b0 b1 k m ts s (get_all k ts s)))
  obtain_keeps true b1 m ts s p q h a = h
  obtain_keeps false true m ts s p q h a = hit_keeps k (CallOf m ts) s (found_results s.entries (CallOf m ts) h.entries q) h
  obtain_keeps false false m ts s p q h a = then_keeps (get_all k ts s) (run_call k m ts (all_denote k.around ts)) (CallOf m ts) a (all_out k ts s (CallOf m ts) (omega arith) q) (λ s1 n h1. run_keeps m ts (all_denote k.around ts) s1 refl n h1)

  link_keeps : (b : Bool) (s : State) (g : Got) → Keeps s → Keeps (state_at g) → Keeps (state_at (unless_link b s g))
  link_keeps true s g h p = h
  link_keeps false s g h p = p

  mutual
    pub get_keeps : (t : ValueTerm) (s : State) → Keeps s → Keeps (state_at (get k t s))
    get_keeps (ConstantTerm c) s h = h
    get_keeps (HeldTerm n) s h = h
    get_keeps (FileTerm b) s h = h
    get_keeps (ResultTerm r c) s h = link_keeps (has_value k.links (ResultTerm r c)) s (get_call k c s) h (call_keeps c s h)

    call_keeps : (c : CallTerm) (s : State) → Keeps s → Keeps (state_at (get_call k c s))
    call_keeps (CallOf m ts) s h = obtain_keeps (has_call s.known (CallOf m ts)) (has_entry s.entries (CallOf m ts)) m ts s refl refl h (all_keep ts s h)

    pub all_keep : (ts : ValueTerms) (s : State) → Keeps s → Keeps (state_at (get_all k ts s))
    all_keep NoTerm s h = h
    all_keep (AndTerm t ts) s h = and_keeps (get k t s) (get_all k ts) (get_keeps t s h) (λ s1 h1. all_keep ts s1 h1)

pub getting_keeps : GettingKeeps
getting_keeps k t s attributes h = get_keeps k attributes t s h

pub getting_all_keeps : GettingAllKeeps
getting_all_keeps k ts s attributes h = all_keep k attributes ts s h
