-- Terms that are added, and what stays of the earlier ones.
use Rattle.std.proofs.Common.{◌≡◌, ◌⊎◌, ⊎_elim, inl, inr, ℕ, suc, ◌+◌, ◌<◌, List, [], ◌∷◌, ◌++◌, length, true, false, refl, sym, ap, ◌∙◌, subst, arith}
use Rattle.std.specs.Prelude.{Result, Ok, Err, OnOk, OnErr}
use Rattle.dx_base.specs.Modules.{Takes}
use Rattle.dx_base.specs.declared.function.Module.{Module}
use Rattle.dx_base.specs.declared.function.Module.TheVariants as computing
use Rattle.dx_tags.specs.declared.term.Term.{Term}
use Rattle.dx_tags.specs.declared.term.Term.TheVariants.{Constant, Held, Call, File}
use Rattle.dx_tags.specs.declared.term.ValueTag.{ValueTag}
use Rattle.dx_tags.specs.Closed.{Head, head_at, heads_of, AreEarlier, AllFormed, AreDistinct, IsFormed, AreFormed, HasMore, GoesOn}
use Rattle.dx_tags.specs.Whole.{is_file, HaveNoFile, HasInputs, ReadsFile, IsWhole, AreWhole, AllWhole}
use Rattle.dx_tags.proofs.Growth.{heads_stay, heads_grow, fits_stay, earlier_on, earlier_push, interned_formed}
use Rattle.dx_demand.specs.Terms.{AreExact, IsValue, AreArguments}

pub value_stays : (old new : List Term) → HasMore old new → (t : ValueTag) → IsValue old t → IsValue new t
value_stays old new g t v = record { fits = fits_stay old new g t v.fits; value = ap is_file (heads_stay old new g t.tag v.fits.within) ∙ v.value }

pub value_grow : (old new : List Term) → GoesOn old new → (t : ValueTag) → IsValue old t → IsValue new t
value_grow old new g t v = value_stays old new (g.0, g.1) t v

-- ---- arguments

no_file_grows : (hs is : List Head) (n : ℕ) → ((k : ℕ) → k < n → head_at is k ≡ head_at hs k) → (ts : List ValueTag) → AreEarlier hs n ts → HaveNoFile hs ts → HaveNoFile is ts
no_file_grows hs is n h [] e f = tt
no_file_grows hs is n h (t ∷ ts) e f = (ap is_file (h t.tag e.0.0) ∙ f.0, no_file_grows hs is n h ts e.1 f.1)

pub arguments_on : (old new : List Term) → GoesOn old new → (ts : List ValueTag) → AreArguments old ts → AreArguments new ts
arguments_on old new g ts a = record { earlier = earlier_on old new g ts a.earlier; values = no_file_grows (heads_of old) (heads_of new) (length old) (heads_grow old new g) ts a.earlier a.values }

no_file_push : (hs : List Head) (ts : List ValueTag) (t : ValueTag) → HaveNoFile hs ts → is_file (head_at hs t.tag) ≡ false → HaveNoFile hs (ts ++ t ∷ [])
no_file_push hs [] t f e = (e, tt)
no_file_push hs (u ∷ ts) t f e = (f.0, no_file_push hs ts t f.1 e)

pub arguments_push : (terms : List Term) (ts : List ValueTag) (t : ValueTag) → AreArguments terms ts → IsValue terms t → AreArguments terms (ts ++ t ∷ [])
arguments_push terms ts t a v = record { earlier = earlier_push terms ts t a.earlier v.fits; values = no_file_push (heads_of terms) ts t a.values v.value }

pub no_arguments : (terms : List Term) → AreArguments terms []
no_arguments terms = record { earlier = tt; values = tt }

-- ---- whole terms

-- the parts of a whole term that is formed are earlier, so it stays whole
is_file_grows : (hs is : List Head) (n : ℕ) → ((k : ℕ) → k < n → head_at is k ≡ head_at hs k) → (ts : List ValueTag) → AreEarlier hs n ts → (xs : List ValueTag) (y : ValueTag) → ts ≡ xs ++ y ∷ [] → is_file (head_at hs y.tag) ≡ true → is_file (head_at is y.tag) ≡ true
is_file_grows hs is n h [] e [] y s f = cc
is_file_grows hs is n h [] e (x ∷ xs) y s f = cc
is_file_grows hs is n h (t ∷ ts) e [] y s f =
    let same : t ≡ y = cc in
    ap is_file (h y.tag (subst (λ (u : ValueTag). u.tag < n) same e.0.0)) ∙ f
is_file_grows hs is n h (t ∷ ts) e (x ∷ xs) y s f = let rest : ts ≡ xs ++ y ∷ [] = cc in is_file_grows hs is n h ts e.1 xs y rest f

front_earlier : (hs : List Head) (n : ℕ) (xs : List ValueTag) (y : ValueTag) → AreEarlier hs n (xs ++ y ∷ []) → AreEarlier hs n xs
front_earlier hs n [] y e = tt
front_earlier hs n (x ∷ xs) y e = (e.0, front_earlier hs n xs y e.1)

whole_grows : (hs is : List Head) (n : ℕ) → ((k : ℕ) → k < n → head_at is k ≡ head_at hs k) → (t : Term) → IsFormed hs n t → IsWhole hs t → IsWhole is t
whole_grows hs is n h (Constant c) f w = tt
whole_grows hs is n h (Held k) f w = tt
whole_grows hs is n h (File b) f w = tt
whole_grows hs is n h (Call m ts) f w = ⊎_elim
    (λ (i : HasInputs hs m ts). inl (i.0, no_file_grows hs is n h ts f i.1))
    (λ (r : ReadsFile hs m ts). inr (record {
      reads = r.reads;
      values = r.values;
      file = r.file;
      split = r.split;
      is = is_file_grows hs is n h ts f r.values r.file r.split r.is;
      inputs = (r.inputs.0, no_file_grows hs is n h r.values (front_earlier hs n r.values r.file (subst (AreEarlier hs n) r.split f)) r.inputs.1);
    }))
    w

all_whole_grows : (hs is : List Head) (k : ℕ) (ts : List Term) → ((m : ℕ) → m < k + length ts → head_at is m ≡ head_at hs m) → AreFormed hs k ts → AreWhole hs ts → AreWhole is ts
all_whole_grows hs is k [] h f w = tt
all_whole_grows hs is k (t ∷ ts) h f w = (whole_grows hs is k (λ m lt. h m (omega arith)) t f.0 w.0, all_whole_grows hs is (suc k) ts (λ m lt. h m (omega arith)) f.1 w.1)

all_whole_snoc : (hs : List Head) (ts : List Term) (t : Term) → AreWhole hs ts → IsWhole hs t → AreWhole hs (ts ++ t ∷ [])
all_whole_snoc hs [] t w g = (g, tt)
all_whole_snoc hs (u ∷ ts) t w g = (w.0, all_whole_snoc hs ts t w.1 g)

whole_more : (old : List Term) (t : Term) → AllFormed old → IsFormed (heads_of old) (length old) t → AllWhole old → IsWhole (heads_of old) t → AllWhole (old ++ t ∷ [])
whole_more old t f g w x =
    let new = old ++ t ∷ [] in
    let on : HasMore old new = (t ∷ [], refl) in
    let grow = heads_stay old new on in
    all_whole_snoc (heads_of new) old t
    (all_whole_grows (heads_of old) (heads_of new) 0 old (λ m lt. grow m (omega arith)) f w)
    (whole_grows (heads_of old) (heads_of new) (length old) grow t g x)

-- a term that is interned leaves them exact
pub interned_exact : {E : Type 0} (r : Result ℕ E) (old new : List Term) (t : Term) → AreExact old → IsFormed (heads_of old) (length old) t → IsWhole (heads_of old) t → OnOk r ((new ≡ old) ⊎ (new ≡ old ++ t ∷ [])) → OnErr r (new ≡ old) →
    (AreDistinct old → AreDistinct new) → AreExact new
interned_exact {E} (Ok tag) old new t x f w k e d = record {
  formed = interned_formed {E = E} (Ok tag) old new t x.formed f k e;
  distinct = d x.distinct;
  whole = ⊎_elim (λ s. subst AllWhole (sym s) x.whole) (λ s. subst AllWhole (sym s) (whole_more old t x.formed f x.whole w)) k;
}
interned_exact {E} (Err e') old new t x f w k e d = subst AreExact (sym e) x

-- ---- a call on all its arguments

pub whole_call : (hs : List Head) (m : Module) (ts : List ValueTag) → Takes m (length ts) → HaveNoFile hs ts → IsWhole hs (Call m ts)
whole_call hs m ts t f = inl (t, f)

pub whole_import : (hs : List Head) (m : Module) (ts : List ValueTag) (file : ValueTag) → m ≡ computing.Import → Takes m (length ts) → HaveNoFile hs ts → is_file (head_at hs file.tag) ≡ true → IsWhole hs (Call m (ts ++ file ∷ []))
whole_import hs m ts file i t f e = inr (record { reads = i; values = ts; file = file; split = refl; is = e; inputs = (t, f) })
