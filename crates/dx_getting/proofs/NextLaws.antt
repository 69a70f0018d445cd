-- What a call in work has to do next.
use Rattle.std.proofs.Common.{◌≡◌, ◌⊎◌, ⊎_elim, ℕ, zero, suc, ◌+◌, ◌<◌, ◌≤◌, List, [], ◌∷◌, ◌++◌, length, take, drop, Bool, true, false, Option, Some, None, refl, sym, ap, ap₂, ◌∙◌, subst, arith, true≢false, length-append}
use Rattle.std.specs.Prelude.{slice_get, Result, Ok, Err}
use Rattle.std.proofs.lemmas.List.{take_all}
use Rattle.dx_base.specs.Modules.{Takes}
use Rattle.dx_base.specs.declared.function.Module.{Module}
use Rattle.dx_tags.specs.declared.term.Term.{Term}
use Rattle.dx_tags.specs.declared.term.Term.TheVariants.{Constant, Held as HeldBy, Call, File}
use Rattle.dx_tags.specs.declared.term.ValueTag.{ValueTag}
use Rattle.dx_tags.specs.Closed.{ValueTerms, NoTerm, AndTerm, Head, ConstantHead, HeldHead, CallHead, FileHead, head_at, heads_of, value_term, value_terms, result_of_head}
use Rattle.dx_tags.specs.Whole.{is_file, HaveNoFile, HasInputs as TakesInputs, ReadsFile, IsWhole, AreWhole}
use Rattle.dx_links.specs.Denotes.{Around, denotes, all_denote, denoted_beside, own_file}
use Rattle.dx_machine.specs.Machine.{Frame, State, Got, Went, and_then, get, get_all}
use Rattle.dx_getting.specs.declared.working.Open.{Open}
use Rattle.dx_getting.specs.Stands.{Setting, World, around_of}
use Rattle.std.specs.Option.{option_copied}
use denote.Bor.{Bor}
use Rattle.dx_getting.specs.declared.working.Next.TheVariants.{Run}
use Rattle.dx_getting.specs.Stack.{NextIs, IsOpen, IsArgument, IsReadyToRun, HasInputs, args_in, term_of}
use Rattle.dx_getting.proofs.Getting.{beside_plain}
use Rattle.dx_getting.proofs.Stacking.{drop_past}

whole_at : (hs : List Head) (ts : List Term) (i : ℕ) (t : Term) → AreWhole hs ts → slice_get ts i ≡ Some t → IsWhole hs t
whole_at hs [] i t w e = cc
whole_at hs (u ∷ ts) zero t w e = let same : u ≡ t = cc in subst (IsWhole hs) same w.0
whole_at hs (u ∷ ts) (suc i) t w e = whole_at hs ts i t w.1 e

pub no_file_at : (hs : List Head) (xs : List ValueTag) (i : ℕ) (a : ValueTag) → HaveNoFile hs xs → slice_get xs i ≡ Some a → is_file (head_at hs a.tag) ≡ false
no_file_at hs [] i a h e = cc
no_file_at hs (x ∷ xs) zero a h e = let same : x ≡ a = cc in subst (λ (y : ValueTag). is_file (head_at hs y.tag) ≡ false) same h.0
no_file_at hs (x ∷ xs) (suc i) a h e = no_file_at hs xs i a h.1 e

no_file_last : (hs : List Head) (xs : List ValueTag) (f : ValueTag) → HaveNoFile hs (xs ++ f ∷ []) → is_file (head_at hs f.tag) ≡ false
no_file_last hs [] f h = h.0
no_file_last hs (x ∷ xs) f h = no_file_last hs xs f h.1

-- a file stands behind all others
last_place : (hs : List Head) (xs : List ValueTag) (f : ValueTag) (i : ℕ) (a : ValueTag) → HaveNoFile hs xs → slice_get (xs ++ f ∷ []) i ≡ Some a → is_file (head_at hs a.tag) ≡ true → (i ≡ length xs) × (f ≡ a)
last_place hs [] f zero a h e p = (refl, cc)
last_place hs [] f (suc i) a h e p = cc
last_place hs (x ∷ xs) f zero a h e p = let same : x ≡ a = cc in absurd (true≢false (sym p ∙ sym (ap (λ (y : ValueTag). is_file (head_at hs y.tag)) same) ∙ h.0))
last_place hs (x ∷ xs) f (suc i) a h e p = let r = last_place hs xs f i a h.1 e p in (ap suc r.0, r.1)

own_head : (h : Head) (r : ℕ) (ts : ValueTerms) → is_file h ≡ false → own_file (AndTerm (result_of_head h r) ts) ≡ own_file ts
own_head (ConstantHead c) r ts p = refl
own_head (HeldHead n) r ts p = refl
own_head (CallHead c) r ts p = refl
own_head (FileHead b) r ts p = absurd (true≢false p)

own_none : (hs : List Head) (xs : List ValueTag) → HaveNoFile hs xs → own_file (value_terms hs xs) ≡ None
own_none hs [] h = refl
own_none hs (x ∷ xs) h = own_head (head_at hs x.tag) x.result (value_terms hs xs) h.0 ∙ own_none hs xs h.1

own_last : (hs : List Head) (xs : List ValueTag) (f : ValueTag) (b : List ℕ) → HaveNoFile hs xs → head_at hs f.tag ≡ FileHead b → own_file (value_terms hs (xs ++ f ∷ [])) ≡ Some b
own_last hs [] f b h e = ap (λ d. own_file (AndTerm (result_of_head d f.result) NoTerm)) e
own_last hs (x ∷ xs) f b h e = own_head (head_at hs x.tag) x.result (value_terms hs (xs ++ f ∷ [])) h.0 ∙ own_last hs xs f b h.1 e

denote_last : (a : Around) (hs : List Head) (xs : List ValueTag) (f : ValueTag) (b : List ℕ) → HaveNoFile hs xs → head_at hs f.tag ≡ FileHead b → all_denote a (value_terms hs (xs ++ f ∷ [])) ≡ all_denote a (value_terms hs xs)
denote_last a hs [] f b h e = ap (λ d. all_denote a (AndTerm (result_of_head d f.result) NoTerm)) e
denote_last a hs (x ∷ xs) f b h e =
    beside_plain a hs x (value_terms hs (xs ++ f ∷ [])) h.0
    ∙ ap (denoted_beside (denotes a (value_term hs x))) (denote_last a hs xs f b h.1 e)
    ∙ sym (beside_plain a hs x (value_terms hs xs) h.0)

take_front : (xs ys : List ValueTag) → take (length xs) (xs ++ ys) ≡ xs
take_front [] [] = refl
take_front [] (y ∷ ys) = refl
take_front (x ∷ xs) ys = ap (λ zs. x ∷ zs) (take_front xs ys)

drop_front : (xs ys : List ValueTag) → drop (length xs) (xs ++ ys) ≡ ys
drop_front [] [] = refl
drop_front [] (y ∷ ys) = refl
drop_front (x ∷ xs) ys = drop_front xs ys

file_goes : (k : Frame) (hs : List Head) (f : ValueTag) (b : List ℕ) → head_at hs f.tag ≡ FileHead b → (s : State) → get_all k (value_terms hs (f ∷ [])) s ≡ Went s
file_goes k hs f b e s = ap (λ d. and_then (get k (result_of_head d f.result) s) (get_all k NoTerm)) e

module _ (e : Setting) (o : Open) (h : IsOpen e o) (m : Module) (args : List ValueTag) (t : slice_get e.terms o.wanted.tag ≡ Some (Call m args)) where
  same_term : Some (Call h.«module» h.args) ≡ Some (Call m args)
  same_term = sym h.term ∙ t

  same_args : h.args ≡ args
  same_args = let s = same_term in cc

  fits : length o.inputs ≤ length args
  fits = subst (λ xs. length o.inputs ≤ length xs) same_args h.fits

  plain : HaveNoFile (heads_of e.terms) (take (length o.inputs) args)
  plain = subst (λ xs. HaveNoFile (heads_of e.terms) (take (length o.inputs) xs)) same_args h.plain

  whole : IsWhole (heads_of e.terms) (Call m args)
  whole = whole_at (heads_of e.terms) e.terms o.wanted.tag (Call m args) h.may.exact.whole t

  -- no argument is left
  module _ (none : length args ≤ length o.inputs) where
    as_many : length args ≡ length o.inputs
    as_many = let b = fits in omega (arith, none, b)

    all_plain : HaveNoFile (heads_of e.terms) args
    all_plain = subst (HaveNoFile (heads_of e.terms)) (take_all (length o.inputs) args none) plain

    takes_none : Takes m (length o.inputs)
    takes_none = ⊎_elim
        (λ i. subst (Takes m) as_many i.0)
        (λ r. absurd (true≢false (sym r.is ∙ no_file_last (heads_of e.terms) r.values r.file (subst (HaveNoFile (heads_of e.terms)) r.split all_plain))))
        whole

    pub next_none : IsReadyToRun e o m None
    next_none = record {
      args = args;
      term = t;
      takes = takes_none;
      own = own_none (heads_of e.terms) args all_plain;
      inputs = λ files i. ap (λ xs. all_denote (around_of e files) (value_terms (heads_of e.terms) xs)) (sym (take_all (length o.inputs) args none)) ∙ ap (λ x. all_denote (around_of e files) (value_terms (heads_of e.terms) (take (length o.inputs) (args_in x)))) (sym t) ∙ i;
      rest = λ k s. ap (λ xs. get_all k (value_terms (heads_of e.terms) xs) s) (drop_past args (length o.inputs) none);
    }

  -- the next one is a file
  module _ (arg : ValueTag) (at : slice_get args (length o.inputs) ≡ Some arg) (b : List ℕ) (head : head_at (heads_of e.terms) arg.tag ≡ FileHead b) where
    reads : ReadsFile (heads_of e.terms) m args
    reads = ⊎_elim
        (λ i. absurd (true≢false (sym (ap is_file head) ∙ no_file_at (heads_of e.terms) args (length o.inputs) arg i.1 at)))
        (λ r. r)
        whole

    last : (length o.inputs ≡ length reads.values) × (reads.file ≡ arg)
    last = last_place (heads_of e.terms) reads.values reads.file (length o.inputs) arg reads.inputs.1 (subst (λ xs. slice_get xs (length o.inputs) ≡ Some arg) reads.split at) (ap is_file head)

    head_last : head_at (heads_of e.terms) reads.file.tag ≡ FileHead b
    head_last = ap (λ (x : ValueTag). head_at (heads_of e.terms) x.tag) last.1 ∙ head

    values_are : take (length o.inputs) args ≡ reads.values
    values_are = ap₂ (λ n xs. take n xs) last.0 reads.split ∙ take_front reads.values (reads.file ∷ [])

    rest_are : drop (length o.inputs) args ≡ reads.file ∷ []
    rest_are = ap₂ (λ n xs. drop n xs) last.0 reads.split ∙ drop_front reads.values (reads.file ∷ [])

    pub next_file : IsReadyToRun e o m (Some b)
    next_file = record {
      args = args;
      term = t;
      takes = subst (Takes m) (sym last.0) reads.inputs.0;
      own = ap (λ xs. own_file (value_terms (heads_of e.terms) xs)) reads.split ∙ own_last (heads_of e.terms) reads.values reads.file b reads.inputs.1 head_last;
      inputs = λ files i.
          ap (λ xs. all_denote (around_of e files) (value_terms (heads_of e.terms) xs)) reads.split
          ∙ denote_last (around_of e files) (heads_of e.terms) reads.values reads.file b reads.inputs.1 head_last
          ∙ ap (λ xs. all_denote (around_of e files) (value_terms (heads_of e.terms) xs)) (sym values_are)
          ∙ ap (λ x. all_denote (around_of e files) (value_terms (heads_of e.terms) (take (length o.inputs) (args_in x)))) (sym t) ∙ i;
      rest = λ k s. ap (λ xs. get_all k (value_terms (heads_of e.terms) xs) s) rest_are ∙ file_goes k (heads_of e.terms) reads.file b head_last s;
    }

  -- it is none
  pub next_argument : (arg : ValueTag) → slice_get args (length o.inputs) ≡ Some arg → is_file (head_at (heads_of e.terms) arg.tag) ≡ false → IsArgument e o arg
  next_argument arg at p = record { at = ap (λ x. slice_get (args_in x) (length o.inputs)) t ∙ at; plain = p }

pub next_run : (e : Setting) (o : Open) (m : Module) (own : Option (Bor (List ℕ))) → NextIs e o (Run m own) → IsReadyToRun e o m (option_copied own)
next_run e o m None h = h
next_run e o m (Some content) h = h
