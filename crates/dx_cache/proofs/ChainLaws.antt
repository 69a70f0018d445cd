-- What putting a slot into a chain and taking one out leaves of the chains.
use Rattle.std.proofs.Common.{◌≡◌, ℕ, zero, suc, ◌<◌, ◌≤◌, List, [], ◌∷◌, ◌++◌, length, Option, Some, None, refl, sym, ap, ◌∙◌, subst, arith, inl, inr}
use Rattle.std.specs.Prelude.{slice_get, slice_set, IfSome}
use Rattle.dx_cache.specs.declared.chains.Link.{Link}
use Rattle.dx_cache.specs.declared.chains.Ends.{Ends}
use Rattle.dx_cache.specs.Changed.{with_after, set_after, with_before, set_before, after_it, before_it, attached, first_unless, attached_ends, detached, in_place_of, detached_ends}
use Rattle.dx_cache.specs.Chain.{first_or, last_or, Leads, IsChain, IsIn, IsOut, AreApart, next_of, next_in, walk, along}
use Rattle.dx_cache.proofs.SlotLaws.{get_set_same, get_set_other, within, out_not_in, in_left, in_right, out_left, out_right, apart_left, apart_right, apart_cross}

-- One link.

pub after_same : (links : List Link) (i : ℕ) (a : Option ℕ) (l : Link) → slice_get links i ≡ Some l → slice_get (set_after links i a) i ≡ Some (record { before = l.before; after = a })
after_same links i a l g = rw g (get_set_same links i (record { before = l.before; after = a }) (within links i l g))

pub after_other : (links : List Link) (i j : ℕ) (a : Option ℕ) → ¬ (j ≡ i) → slice_get (set_after links i a) j ≡ slice_get links j
after_other links i j a n = by (slice_get links i)
  where
    by : (o : Option Link) → slice_get (with_after links i a o) j ≡ slice_get links j
    by None = refl
    by (Some l) = get_set_other links i j (record { before = l.before; after = a }) n

pub before_same : (links : List Link) (i : ℕ) (b : Option ℕ) (l : Link) → slice_get links i ≡ Some l → slice_get (set_before links i b) i ≡ Some (record { before = b; after = l.after })
before_same links i b l g = rw g (get_set_same links i (record { before = b; after = l.after }) (within links i l g))

pub before_other : (links : List Link) (i j : ℕ) (b : Option ℕ) → ¬ (j ≡ i) → slice_get (set_before links i b) j ≡ slice_get links j
before_other links i j b n = by (slice_get links i)
  where
    by : (o : Option Link) → slice_get (with_before links i b o) j ≡ slice_get links j
    by None = refl
    by (Some l) = get_set_other links i j (record { before = b; after = l.after }) n

pub it_other : (links : List Link) (o a : Option ℕ) (j : ℕ) → ¬ (o ≡ Some j) → slice_get (after_it links o a) j ≡ slice_get links j
it_other links None a j n = refl
it_other links (Some i) a j n = after_other links i j a (λ e. n (ap Some (sym e)))

pub it_before_other : (links : List Link) (o b : Option ℕ) (j : ℕ) → ¬ (o ≡ Some j) → slice_get (before_it links o b) j ≡ slice_get links j
it_before_other links None b j n = refl
it_before_other links (Some i) b j n = before_other links i j b (λ e. n (ap Some (sym e)))

pub it_same : (links : List Link) (o a : Option ℕ) (j : ℕ) (l : Link) → o ≡ Some j → slice_get links j ≡ Some l → slice_get (after_it links o a) j ≡ Some (record { before = l.before; after = a })
it_same links None a j l e g = cc
it_same links (Some i) a j l e g =
    let same : i ≡ j = cc in
    subst (λ k. slice_get (set_after links k a) j ≡ Some (record { before = l.before; after = a })) (sym same) (after_same links j a l g)

pub it_before_same : (links : List Link) (o b : Option ℕ) (j : ℕ) (l : Link) → o ≡ Some j → slice_get links j ≡ Some l → slice_get (before_it links o b) j ≡ Some (record { before = b; after = l.after })
it_before_same links None b j l e g = cc
it_before_same links (Some i) b j l e g =
    let same : i ≡ j = cc in
    subst (λ k. slice_get (set_before links k b) j ≡ Some (record { before = b; after = l.after })) (sym same) (before_same links j b l g)

-- Leading through slots.

pub first_append : (xs ys : List ℕ) (a : Option ℕ) → first_or (xs ++ ys) a ≡ first_or xs (first_or ys a)
first_append [] ys a = refl
first_append (x ∷ xs) ys a = refl

pub last_append : (b : Option ℕ) (xs ys : List ℕ) → last_or b (xs ++ ys) ≡ last_or (last_or b xs) ys
last_append b [] ys = refl
last_append b (x ∷ xs) ys = last_append (Some x) xs ys

pub last_in : (i : ℕ) (xs : List ℕ) (l : ℕ) → last_or (Some i) xs ≡ Some l → IsIn l (i ∷ xs)
last_in i [] l e = let same : l ≡ i = cc in inl same
last_in i (x ∷ xs) l e = inr (last_in x xs l e)

pub last_is_in : (xs : List ℕ) (l : ℕ) → last_or None xs ≡ Some l → IsIn l xs
last_is_in [] l e = cc
last_is_in (x ∷ xs) l e = last_in x xs l e

pub first_is_in : (xs : List ℕ) (l : ℕ) → first_or xs None ≡ Some l → IsIn l xs
first_is_in [] l e = cc
first_is_in (x ∷ xs) l e = let same : l ≡ x = cc in inl same

pub leads_same : (links links' : List Link) (b : Option ℕ) (xs : List ℕ) (a : Option ℕ) → ((j : ℕ) → IsIn j xs → slice_get links' j ≡ slice_get links j) → Leads links b xs a → Leads links' b xs a
leads_same links links' b [] a s h = tt
leads_same links links' b (x ∷ xs) a s h = (s x (inl refl) ∙ h.0, leads_same links links' (Some x) xs a (λ j n. s j (inr n)) h.1)

pub leads_split : (links : List Link) (b : Option ℕ) (xs ys : List ℕ) (a : Option ℕ) → Leads links b (xs ++ ys) a → Leads links b xs (first_or ys a) × Leads links (last_or b xs) ys a
leads_split links b [] ys a h = (tt, h)
leads_split links b (x ∷ xs) ys a h =
    let r = leads_split links (Some x) xs ys a h.1 in
    ((subst (λ n. slice_get links x ≡ Some (record { before = b; after = n })) (first_append xs ys a) h.0, r.0), r.1)

pub leads_join : (links : List Link) (b : Option ℕ) (xs ys : List ℕ) (a : Option ℕ) → Leads links b xs (first_or ys a) → Leads links (last_or b xs) ys a → Leads links b (xs ++ ys) a
leads_join links b [] ys a h k = k
leads_join links b (x ∷ xs) ys a h k =
    (subst (λ n. slice_get links x ≡ Some (record { before = b; after = n })) (sym (first_append xs ys a)) h.0, leads_join links (Some x) xs ys a h.1 k)

-- where only what comes after the last changes
pub leads_end : (links links' : List Link) (b : Option ℕ) (xs : List ℕ) (a a' : Option ℕ) → AreApart xs
    → ((j : ℕ) → IsIn j xs → ¬ (last_or None xs ≡ Some j) → slice_get links' j ≡ slice_get links j)
    → ((l : ℕ) (k : Link) → last_or None xs ≡ Some l → slice_get links l ≡ Some k → slice_get links' l ≡ Some (record { before = k.before; after = a' }))
    → Leads links b xs a → Leads links' b xs a'
leads_end links links' b [] a a' p s l h = tt
leads_end links links' b (i ∷ []) a a' p s l h = (l i (record { before = b; after = a }) refl h.0, tt)
leads_end links links' b (i ∷ j ∷ js) a a' p s l h = (
  s i (inl refl) (λ e. out_not_in i (j ∷ js) p.0 (last_in j js i e)) ∙ h.0,
  leads_end links links' (Some i) (j ∷ js) a a' p.1 (λ m n d. s m (inr n) d) l h.1,
)

-- where only what comes before the first changes
pub leads_begin : (links links' : List Link) (b b' : Option ℕ) (xs : List ℕ) (a : Option ℕ) → AreApart xs
    → ((j : ℕ) → IsIn j xs → ¬ (first_or xs None ≡ Some j) → slice_get links' j ≡ slice_get links j)
    → ((f : ℕ) (k : Link) → first_or xs None ≡ Some f → slice_get links f ≡ Some k → slice_get links' f ≡ Some (record { before = b'; after = k.after }))
    → Leads links b xs a → Leads links' b' xs a
leads_begin links links' b b' [] a p s f h = tt
leads_begin links links' b b' (i ∷ is) a p s f h = (
  f i (record { before = b; after = first_or is a }) refl h.0,
  leads_same links links' (Some i) is a (λ j n. s j (inr n) (λ e. let same : j ≡ i = cc in out_not_in i is p.0 (subst (λ k. IsIn k is) same n))) h.1,
)

-- each slot of a chain has a link
pub leads_link : (links : List Link) (b : Option ℕ) (xs : List ℕ) (a : Option ℕ) (i : ℕ) → Leads links b xs a → IsIn i xs → (l : Link) × (slice_get links i ≡ Some l)
leads_link links b [] a i h n = absurd n
leads_link links b (x ∷ xs) a i h (inl e) = (record { before = b; after = first_or xs a }, subst (λ k. slice_get links k ≡ Some (record { before = b; after = first_or xs a })) (sym e) h.0)
leads_link links b (x ∷ xs) a i h (inr n) = leads_link links (Some x) xs a i h.1 n

pub chain_within : (links : List Link) (e : Ends) (xs : List ℕ) (i : ℕ) → IsChain links e xs → IsIn i xs → i < length links
chain_within links e xs i c n = let l = leads_link links None xs None i c.leads n in within links i l.0 l.1

-- Putting a slot behind the last.

module _ (links : List Link) (o : Option ℕ) (i : ℕ) where
  placed : List Link
  placed = slice_set links i (record { before = o; after = None })

  pub attached_new : i < length links → ¬ (o ≡ Some i) → slice_get (attached links o i) i ≡ Some (record { before = o; after = None })
  attached_new w n = it_other (slice_set links i (record { before = o; after = None })) o (Some i) i n ∙ get_set_same links i (record { before = o; after = None }) w

  pub attached_last : (l : ℕ) (k : Link) → o ≡ Some l → ¬ (l ≡ i) → slice_get links l ≡ Some k → slice_get (attached links o i) l ≡ Some (record { before = k.before; after = Some i })
  attached_last l k e n g = it_same (slice_set links i (record { before = o; after = None })) o (Some i) l k e (get_set_other links i l (record { before = o; after = None }) n ∙ g)

  pub attached_other : (j : ℕ) → ¬ (j ≡ i) → ¬ (o ≡ Some j) → slice_get (attached links o i) j ≡ slice_get links j
  attached_other j n m = it_other (slice_set links i (record { before = o; after = None })) o (Some i) j m ∙ get_set_other links i j (record { before = o; after = None }) n

pub some_last : (j : ℕ) (js : List ℕ) → (l : ℕ) × (last_or (Some j) js ≡ Some l)
some_last j [] = (j, refl)
some_last j (k ∷ ks) = some_last k ks

first_attached : (i : ℕ) (ys : List ℕ) (last : Option ℕ) → last ≡ last_or None ys → first_unless last i (first_or ys None) ≡ first_or (ys ++ i ∷ []) None
first_attached i [] last q = rw q refl
first_attached i (y ∷ ys) last q = let s = some_last y ys in rw (q, s.1) refl

module _ (links : List Link) (e : Ends) (xs : List ℕ) (c : IsChain links e xs) (i : ℕ) where
  pub chain_attached : AreApart xs → IsOut i xs → i < length links → IsChain (attached links e.last i) (attached_ends e i) (xs ++ i ∷ [])
  chain_attached p o w = record {
    first = ap (first_unless e.last i) c.first ∙ first_attached i xs e.last c.last;
    last = sym (last_append None xs (i ∷ []));
    leads = leads_join (attached links e.last i) None xs (i ∷ []) None
        (leads_end links (attached links e.last i) None xs None (Some i) p
        (λ j n d. attached_other links e.last i j (λ q. out_not_in i xs o (subst (λ k. IsIn k xs) q n)) (λ q. d (sym c.last ∙ q)))
        (λ l k q g. attached_last links e.last i l k (c.last ∙ q) (λ r. out_not_in i xs o (subst (λ m. IsIn m xs) r (last_is_in xs l q))) g)
        c.leads)
        (subst (λ b. slice_get (attached links e.last i) i ≡ Some (record { before = b; after = None })) c.last (attached_new links e.last i w (λ q. out_not_in i xs o (last_is_in xs i (sym c.last ∙ q)))), tt);
  }

  -- a slot of no part in it keeps its link
  pub attached_elsewhere : (j : ℕ) → ¬ (j ≡ i) → IsOut j xs → slice_get (attached links e.last i) j ≡ slice_get links j
  attached_elsewhere j n m = attached_other links e.last i j n (λ q. out_not_in j xs m (last_is_in xs j (sym c.last ∙ q)))

-- a chain whose slots all keep their links
pub chain_same : (links links' : List Link) (e : Ends) (ys : List ℕ) → ((j : ℕ) → IsIn j ys → slice_get links' j ≡ slice_get links j) → IsChain links e ys → IsChain links' e ys
chain_same links links' e ys s c = record {
  first = c.first;
  last = c.last;
  leads = leads_same links links' None ys None s c.leads;
}

-- the last is there
pub chain_last : (links : List Link) (e : Ends) (xs : List ℕ) → IsChain links e xs → IfSome e.last (λ l. l < length links)
chain_last links e xs c = by e.last c.last
  where
    by : (o : Option ℕ) → o ≡ last_or None xs → IfSome o (λ l. l < length links)
    by None q = tt
    by (Some l) q = chain_within links e xs l c (last_is_in xs l (sym q))

-- Taking a slot out.

module _ (links : List Link) (l : Link) where
  pub detached_other : (j : ℕ) → ¬ (l.before ≡ Some j) → ¬ (l.after ≡ Some j) → slice_get (detached links l) j ≡ slice_get links j
  detached_other j n m = it_before_other (after_it links l.before l.after) l.after l.before j m ∙ it_other links l.before l.after j n

  pub detached_before : (b : ℕ) (k : Link) → l.before ≡ Some b → ¬ (l.after ≡ Some b) → slice_get links b ≡ Some k → slice_get (detached links l) b ≡ Some (record { before = k.before; after = l.after })
  detached_before b k e n g = it_before_other (after_it links l.before l.after) l.after l.before b n ∙ it_same links l.before l.after b k e g

  pub detached_after : (a : ℕ) (k : Link) → l.after ≡ Some a → ¬ (l.before ≡ Some a) → slice_get links a ≡ Some k → slice_get (detached links l) a ≡ Some (record { before = l.before; after = k.after })
  detached_after a k e n g = it_before_same (after_it links l.before l.after) l.after l.before a k e (it_other links l.before l.after a n ∙ g)

-- what stands round a slot
pub link_middle : (links : List Link) (e : Ends) (xs ys : List ℕ) (i : ℕ) → IsChain links e (xs ++ i ∷ ys) → slice_get links i ≡ Some (record { before = last_or None xs; after = first_or ys None })
link_middle links e xs ys i c = (leads_split links None xs (i ∷ ys) None c.leads).1.0

first_detached : (xs ys : List ℕ) (i : ℕ) → in_place_of (last_or None xs) (first_or ys None) (first_or (xs ++ i ∷ ys) None) ≡ first_or (xs ++ ys) None
first_detached [] ys i = refl
first_detached (x ∷ xs) ys i = let s = some_last x xs in rw s.1 refl

last_detached : (xs ys : List ℕ) (i : ℕ) → in_place_of (first_or ys None) (last_or None xs) (last_or None (xs ++ i ∷ ys)) ≡ last_or None (xs ++ ys)
last_detached xs [] i = sym (last_append None xs [])
last_detached xs (y ∷ ys) i = last_append None xs (i ∷ y ∷ ys) ∙ sym (last_append None xs (y ∷ ys))

module _ (links : List Link) (e : Ends) (xs ys : List ℕ) (i : ℕ) (c : IsChain links e (xs ++ i ∷ ys)) (p : AreApart (xs ++ i ∷ ys)) where
  around : Link
  around = record { before = last_or None xs; after = first_or ys None }

  not_both : (j : ℕ) → last_or None xs ≡ Some j → first_or ys None ≡ Some j → ⊥
  not_both j q r = apart_cross xs (i ∷ ys) j p (last_is_in xs j q) (inr (first_is_in ys j r))

  pub chain_detached : IsChain (detached links (record { before = last_or None xs; after = first_or ys None })) (detached_ends e (record { before = last_or None xs; after = first_or ys None })) (xs ++ ys)
  chain_detached =
      let l : Link = record { before = last_or None xs; after = first_or ys None } in
      let s = leads_split links None xs (i ∷ ys) None c.leads in
      record {
        first = ap (in_place_of (last_or None xs) (first_or ys None)) c.first ∙ first_detached xs ys i;
        last = ap (in_place_of (first_or ys None) (last_or None xs)) c.last ∙ last_detached xs ys i;
        leads = leads_join (detached links l) None xs ys None
            (leads_end links (detached links l) None xs (Some i) (first_or ys None) (apart_left xs (i ∷ ys) p)
            (λ j n d. detached_other links l j d (λ q. apart_cross xs (i ∷ ys) j p n (inr (first_is_in ys j q))))
            (λ b k q g. detached_before links l b k q (not_both b q) g)
            s.0)
            (leads_begin links (detached links l) (Some i) (last_or None xs) ys None (apart_right xs (i ∷ ys) p).1
            (λ j n d. detached_other links l j (λ q. apart_cross xs (i ∷ ys) j p (last_is_in xs j q) (inr n)) d)
            (λ a k q g. detached_after links l a k q (λ r. not_both a r q) g)
            s.1.1);
      }

  -- a slot of no part in it keeps its link
  pub detached_elsewhere : (j : ℕ) → IsOut j (xs ++ i ∷ ys) → slice_get (detached links (record { before = last_or None xs; after = first_or ys None })) j ≡ slice_get links j
  detached_elsewhere j o =
      detached_other links (record { before = last_or None xs; after = first_or ys None }) j
      (λ q. out_not_in j xs (out_left j xs (i ∷ ys) o) (last_is_in xs j q))
      (λ q. out_not_in j ys (out_right j xs (i ∷ ys) o).1 (first_is_in ys j q))

  -- its neighbours are there
  pub before_within : IfSome (last_or None xs) (λ b. b < length links)
  before_within = by (last_or None xs) refl
    where
      by : (o : Option ℕ) → last_or None xs ≡ o → IfSome o (λ b. b < length links)
      by None q = tt
      by (Some b) q = chain_within links e (xs ++ i ∷ ys) b c (in_left b xs (i ∷ ys) (last_is_in xs b q))

  pub after_within : IfSome (first_or ys None) (λ a. a < length links)
  after_within = by (first_or ys None) refl
    where
      by : (o : Option ℕ) → first_or ys None ≡ o → IfSome o (λ a. a < length links)
      by None q = tt
      by (Some a) q = chain_within links e (xs ++ i ∷ ys) a c (in_right a xs (i ∷ ys) (inr (first_is_in ys a q)))

-- Walking.

pub walk_leads : (links : List Link) (b : Option ℕ) (xs : List ℕ) (n : ℕ) → Leads links b xs None → length xs ≤ n → walk links n (first_or xs None) ≡ xs
walk_leads links b [] zero h w = refl
walk_leads links b [] (suc n) h w = refl
walk_leads links b (x ∷ xs) zero h w = absurd (omega (arith, w))
walk_leads links b (x ∷ xs) (suc n) h w = rw h.0 (ap (λ ys. x ∷ ys) (walk_leads links (Some x) xs n h.1 (omega (arith, w))))

-- the walk along a chain is its slots
pub walk_chain : (links : List Link) (e : Ends) (xs : List ℕ) (n : ℕ) → IsChain links e xs → length xs ≤ n → walk links n e.first ≡ xs
walk_chain links e xs n c w = ap (walk links n) c.first ∙ walk_leads links None xs n c.leads w

-- an empty chain
pub chain_none : (links : List Link) → IsChain links (record { first = None; last = None }) []
chain_none links = record { first = refl; last = refl; leads = tt }

-- The slot that so many steps lead to.

along_none : (links : List Link) (n : ℕ) → along links n None ≡ None
along_none links zero = refl
along_none links (suc n) = ap (next_in links) (along_none links n)

along_next : (links : List Link) (n : ℕ) (o : Option ℕ) → along links (suc n) o ≡ along links n (next_in links o)
along_next links zero o = refl
along_next links (suc n) o = ap (next_in links) (along_next links n o)

pub along_leads : (links : List Link) (before : Option ℕ) (xs : List ℕ) (n : ℕ) → Leads links before xs None → along links n (first_or xs None) ≡ slice_get xs n
along_leads links before [] n l = along_none links n
along_leads links before (i ∷ is) zero l = refl
along_leads links before (i ∷ is) (suc n) l = along_next links n (Some i) ∙ ap (λ o. along links n (next_of o)) l.0 ∙ along_leads links (Some i) is n l.1
