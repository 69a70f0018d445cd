-- Places of entries, and what taking one out or adding one leaves.
use Rattle.std.proofs.Common.{◌≡◌, ℕ, zero, suc, ◌+◌, List, [], ◌∷◌, ◌++◌, Bool, true, false, Some, None, refl, sym, ap, ap₂, ◌∙◌, subst, arith, true≢false, append-nil}
use Rattle.std.specs.Prelude.{slice_get, filter, not, ◌==◌}
use Rattle.std.specs.List.{remove}
use Rattle.std.specs.Cmp.{unsigned_Decides}
use Rattle.dx_cache.specs.declared.entry.Entry.{Entry}
use Rattle.dx_cache.specs.Cached.{total, has_tag, find, moved, place_from, place}
use Rattle.dx_cache.specs.Sound.{IsKept, AreKept}

-- by what a test says
pub cases : {P : Type 0} (b : Bool) → (b ≡ true → P) → (b ≡ false → P) → P
cases true t f = t refl
cases false t f = f refl

-- place k is the first that passes
abbrev pub IsFirst : (Entry → Bool) → List Entry → ℕ → Type 0
IsFirst p [] k = ⊥
IsFirst p (e ∷ es) zero = p e ≡ true
IsFirst p (e ∷ es) (suc k) = (p e ≡ false) × IsFirst p es k

abbrev pub NonePass : (Entry → Bool) → List Entry → Type 0
NonePass p [] = Unit {0}
NonePass p (e ∷ es) = (p e ≡ false) × NonePass p es

pub place_gives : (p : Entry → Bool) (es : List Entry) (n i : ℕ) → place_from n p es ≡ Some i → (k : ℕ) × (i ≡ n + k) × IsFirst p es k
place_gives p [] n i e = cc
place_gives p (x ∷ es) n i e =
    cases (p x)
    (λ h. let e1 : Some n ≡ Some i = rw h at e in (0, (let same : n ≡ i = cc in omega arith), h))
    (λ h. let e1 : place_from (suc n) p es ≡ Some i = rw h at e in
    let r = place_gives p es (suc n) i e1 in (suc r.0, (let f = r.1 in omega arith), (h, r.2)))

pub first_place : (p : Entry → Bool) (es : List Entry) (i : ℕ) → place p es ≡ Some i → IsFirst p es i
first_place p es i e = let r = place_gives p es 0 i e in subst (IsFirst p es) (let f = r.1 in omega arith) r.2

pub none_place : (p : Entry → Bool) (es : List Entry) (n : ℕ) → place_from n p es ≡ None → NonePass p es
none_place p [] n e = tt
none_place p (x ∷ es) n e =
    cases (p x)
    (λ h. let e1 : Some n ≡ None = rw h at e in cc)
    (λ h. let e1 : place_from (suc n) p es ≡ None = rw h at e in (h, none_place p es (suc n) e1))

-- No entry of a tag.

pub none_found : (t : ℕ) (es : List Entry) → NonePass (has_tag t) es → find t es ≡ None
none_found t [] h = refl
none_found t (e ∷ es) h = rw h.0 (none_found t es h.1)

pub found_none : (t : ℕ) (es : List Entry) → find t es ≡ None → NonePass (has_tag t) es
found_none t [] h = tt
found_none t (e ∷ es) h =
    cases (e.tag == t)
    (λ q. let h1 : Some e ≡ None = rw q at h in cc)
    (λ q. let h1 : find t es ≡ None = rw q at h in (q, found_none t es h1))

pub none_filter : (p : Entry → Bool) (es : List Entry) → NonePass p es → filter p es ≡ []
none_filter p [] h = refl
none_filter p (e ∷ es) h = rw h.0 (none_filter p es h.1)

pub all_filter : (p : Entry → Bool) (es : List Entry) → NonePass p es → filter (λ e. not (p e)) es ≡ es
all_filter p [] h = refl
all_filter p (e ∷ es) h = rw h.0 (ap (λ xs. e ∷ xs) (all_filter p es h.1))

pub none_moved : (t : ℕ) (es : List Entry) → find t es ≡ None → moved t es ≡ es
none_moved t es h = let n = found_none t es h in rw (all_filter (has_tag t) es n, none_filter (has_tag t) es n) (append-nil es)

-- The entry at the first place.

pub first_found : (t : ℕ) (es : List Entry) (i : ℕ) (e : Entry) → IsFirst (has_tag t) es i → slice_get es i ≡ Some e → find t es ≡ Some e
first_found t [] i e f g = absurd f
first_found t (x ∷ es) zero e f g = rw f g
first_found t (x ∷ es) (suc i) e f g = rw f.0 (first_found t es i e f.1 g)

pub first_passes : (p : Entry → Bool) (es : List Entry) (i : ℕ) (e : Entry) → IsFirst p es i → slice_get es i ≡ Some e → p e ≡ true
first_passes p [] i e f g = absurd f
first_passes p (x ∷ es) zero e f g = let same : x ≡ e = cc in subst (λ y. p y ≡ true) same f
first_passes p (x ∷ es) (suc i) e f g = first_passes p es i e f.1 g

pub first_slot : (p : Entry → Bool) (es : List Entry) (i : ℕ) → IsFirst p es i → (e : Entry) × (slice_get es i ≡ Some e)
first_slot p [] i f = absurd f
first_slot p (x ∷ es) zero f = (x, refl)
first_slot p (x ∷ es) (suc i) f = first_slot p es i f.1

-- one entry has the tag, so it alone goes to the end
pub first_moved : (t : ℕ) (es : List Entry) (i : ℕ) (e : Entry) → AreKept es → IsFirst (has_tag t) es i → slice_get es i ≡ Some e → moved t es ≡ remove es i ++ e ∷ []
first_moved t [] i e k f g = absurd f
first_moved t (x ∷ es) zero e k f g =
    let same : x ≡ e = cc in
    let tag : x.tag ≡ t = (unsigned_Decides x.tag t).0 f in
    let n = found_none t es (subst (λ u. find u es ≡ None) tag k.1) in
    rw f (ap₂ (λ a b. a ++ b) (all_filter (has_tag t) es n) (ap₂ (λ a b. a ∷ b) same (none_filter (has_tag t) es n)))
first_moved t (x ∷ es) (suc i) e k f g = rw f.0 (ap (λ xs. x ∷ xs) (first_moved t es i e k.2 f.1 g))

-- Taking one out.

pub total-remove : (es : List Entry) (i : ℕ) (e : Entry) → slice_get es i ≡ Some e → total es ≡ e.size + total (remove es i)
total-remove [] i e g = cc
total-remove (x ∷ es) zero e g = let same : x ≡ e = cc in ap (λ (y : Entry). y.size + total es) same
total-remove (x ∷ es) (suc i) e g = let r = total-remove es i e g in omega arith

pub total-append : (es fs : List Entry) → total (es ++ fs) ≡ total es + total fs
total-append [] fs = omega arith
total-append (e ∷ es) fs = let r = total-append es fs in omega arith

pub find-remove : (t : ℕ) (es : List Entry) (i : ℕ) → find t es ≡ None → find t (remove es i) ≡ None
find-remove t [] zero h = refl
find-remove t [] (suc i) h = refl
find-remove t (e ∷ es) zero h =
    cases (e.tag == t)
    (λ q. let h1 : Some e ≡ None = rw q at h in cc)
    (λ q. let h1 : find t es ≡ None = rw q at h in h1)
find-remove t (e ∷ es) (suc i) h =
    cases (e.tag == t)
    (λ q. let h1 : Some e ≡ None = rw q at h in cc)
    (λ q. let h1 : find t es ≡ None = rw q at h in rw q (find-remove t es i h1))

pub kept-remove : (es : List Entry) (i : ℕ) → AreKept es → AreKept (remove es i)
kept-remove [] zero k = tt
kept-remove [] (suc i) k = tt
kept-remove (e ∷ es) zero k = k.2
kept-remove (e ∷ es) (suc i) k = (k.0, find-remove e.tag es i k.1, kept-remove es i k.2)

pub kept_at : (es : List Entry) (i : ℕ) (e : Entry) → AreKept es → slice_get es i ≡ Some e → IsKept e
kept_at [] i e k g = cc
kept_at (x ∷ es) zero e k g = let same : x ≡ e = cc in subst IsKept same k.0
kept_at (x ∷ es) (suc i) e k g = kept_at es i e k.2 g

not_absent : (es : List Entry) (i : ℕ) (e : Entry) → slice_get es i ≡ Some e → find e.tag es ≡ None → ⊥
not_absent [] i e g h = cc
not_absent (y ∷ es) zero e g h =
    let same : y ≡ e = cc in
    let tag : (y.tag == e.tag) ≡ true = (unsigned_Decides y.tag e.tag).1 (ap (λ (z : Entry). z.tag) same) in
    true≢false (sym tag ∙ (found_none e.tag (y ∷ es) h).0)
not_absent (y ∷ es) (suc i) e g h = not_absent es i e g (find-remove e.tag (y ∷ es) 0 h)

-- the tag of an entry stands nowhere else
pub alone_at : (es : List Entry) (i : ℕ) (e : Entry) → AreKept es → slice_get es i ≡ Some e → find e.tag (remove es i) ≡ None
alone_at [] i e k g = cc
alone_at (x ∷ es) zero e k g = let same : x ≡ e = cc in subst (λ (y : Entry). find y.tag es ≡ None) same k.1
alone_at (x ∷ es) (suc i) e k g =
    cases (x.tag == e.tag)
    (λ q. absurd (not_absent es i e g (subst (λ u. find u es ≡ None) ((unsigned_Decides x.tag e.tag).0 q) k.1)))
    (λ q. rw q (alone_at es i e k.2 g))

-- Adding one.

pub find-append : (t : ℕ) (es : List Entry) (e : Entry) → find t es ≡ None → (e.tag == t) ≡ false → find t (es ++ e ∷ []) ≡ None
find-append t [] e h q = rw q refl
find-append t (x ∷ es) e h q =
    cases (x.tag == t)
    (λ r. let h1 : Some x ≡ None = rw r at h in cc)
    (λ r. let h1 : find t es ≡ None = rw r at h in rw r (find-append t es e h1 q))

other_way : (a b : ℕ) → (a == b) ≡ false → (b == a) ≡ false
other_way a b h =
    cases (b == a)
    (λ q. absurd (true≢false (sym ((unsigned_Decides a b).1 (sym ((unsigned_Decides b a).0 q))) ∙ h)))
    (λ q. q)

pub kept-append : (es : List Entry) (e : Entry) → AreKept es → IsKept e → find e.tag es ≡ None → AreKept (es ++ e ∷ [])
kept-append [] e k i h = (i, refl, tt)
kept-append (x ∷ es) e k i h =
    let n = found_none e.tag (x ∷ es) h in
    (k.0, find-append x.tag es e k.1 (other_way x.tag e.tag n.0), kept-append es e k.2 i (none_found e.tag es n.1))

-- The step of a call.

-- one entry goes to the end
pub total-moved : (es : List Entry) (i : ℕ) (e : Entry) → slice_get es i ≡ Some e → total (remove es i ++ e ∷ []) ≡ total es
total-moved es i e g =
    let a = total-remove es i e g in
    let b = total-append (remove es i) (e ∷ []) in
    omega arith

pub kept-moved : (es : List Entry) (i : ℕ) (e : Entry) → AreKept es → slice_get es i ≡ Some e → AreKept (remove es i ++ e ∷ [])
kept-moved es i e k g = kept-append (remove es i) e (kept-remove es i k) (kept_at es i e k g) (alone_at es i e k g)

-- the place of the first that passes
pub place_first : (p : Entry → Bool) (es : List Entry) (n k : ℕ) → IsFirst p es k → place_from n p es ≡ Some (n + k)
place_first p [] n k f = absurd f
place_first p (x ∷ es) n zero f = rw f (ap Some (omega arith))
place_first p (x ∷ es) n (suc k) f = rw f.0 (place_first p es (suc n) k f.1 ∙ ap Some (omega arith))

-- where no entry has a tag there is no place of it
pub absent_place : (t : ℕ) (es : List Entry) → find t es ≡ None → (i : ℕ) → place (has_tag t) es ≡ Some i → ⊥
absent_place t es h i p =
    let f = first_place (has_tag t) es i p in
    let s = first_slot (has_tag t) es i f in
    let no : None ≡ Some s.0 = sym h ∙ first_found t es i s.0 f s.1 in
    cc
