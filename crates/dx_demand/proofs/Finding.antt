-- Values that can be got can be got as terms are added and calls formed.
use Rattle.std.proofs.Common.{◌≡◌, ⊎_elim, inl, inr, ℕ, zero, suc, ◌+◌, ◌<◌, ◌≤◌, List, [], ◌∷◌, ◌++◌, length, Option, Some, None, Bool, true, refl, sym, ap, ◌∙◌, subst, arith}
use Rattle.std.specs.Prelude.{slice_get, ◌==◌}
use Rattle.std.specs.Cmp.{unsigned_Decides}
use Rattle.dx_graph.specs.Graph.{Node}
use Rattle.dx_base.specs.declared.function.Module.{Module}
use Rattle.dx_tags.specs.declared.term.Term.{Term}
use Rattle.dx_tags.specs.declared.term.Term.TheVariants.{Call}
use Rattle.dx_tags.specs.declared.term.ValueTag.{ValueTag}
use Rattle.dx_tags.specs.Closed.{Head, ConstantHead, HeldHead, CallHead, FileHead, heads_of, AreEarlier, IsFormed, AreFormed, AllFormed, GoesOn, ConstantTerm, FileTerm, result_of_head}
use Rattle.dx_tags.proofs.Growth.{heads_grow}
use Rattle.dx_ast.specs.declared.constants.Const.{Const}
use Rattle.dx_links.specs.LinkMap.{LinkMap}
use Rattle.dx_demand.specs.Memo.{FirstNodes, answers_of, formed_of, with_formed, first_or, with_answer, SettledFits, MemoFits, EmptyMemo}
use Rattle.dx_demand.specs.Stack.{Opens, StackFits}
use Rattle.dx_demand.specs.Terms.{IsValue}
use Rattle.dx_demand.specs.Found.{NeedsNoCall, IsFirst, Kept, IsFound, AllFound, ArgumentsFound, SettledFound, MemoFound, StackFound}
use Rattle.dx_demand.specs.declared.settled.Port.{Port}
use Rattle.dx_demand.specs.declared.settled.Answer.{Answer}
use Rattle.dx_demand.specs.declared.settled.Settled.{Settled}
use Rattle.dx_demand.specs.declared.settled.Settled.TheVariants as settled
use Rattle.dx_demand.specs.declared.seen.Frame.{Frame}
use Rattle.dx_demand.specs.declared.seen.Memo.{Memo}
use Rattle.dx_demand.proofs.Memos.{answers_same, selectors_same, formed_same, formed_put, Selects, selected, FormsOne}
use Rattle.dx_demand.proofs.Stacks.{answer_put}

-- ---- heads

pub constant_ready : (h : Head) (c : Const) → result_of_head h 0 ≡ ConstantTerm c → NeedsNoCall h
constant_ready (ConstantHead d) c e = tt
constant_ready (HeldHead n) c e = tt
constant_ready (CallHead d) c e = cc
constant_ready (FileHead b) c e = tt

pub file_ready : (h : Head) (b : List ℕ) → result_of_head h 0 ≡ FileTerm b → NeedsNoCall h
file_ready (ConstantHead d) b e = tt
file_ready (HeldHead n) b e = tt
file_ready (CallHead d) b e = cc
file_ready (FileHead d) b e = tt

-- ---- more calls are formed

pub kept_itself : (first : FirstNodes) → Kept first first
kept_itself first t n e = e

pub kept_same : (old new : Memo) → new.formed ≡ old.formed → Kept (formed_of old) (formed_of new)
kept_same old new e t n at = formed_same old new e t ∙ at

pub same_firsts : (old new : Memo) → new.formed ≡ old.formed → formed_of new ≡ formed_of old
same_firsts old new e = λ i t. formed_same old new e t i

first_stays : (o : Option ℕ) (n m : ℕ) (b : Bool) → o ≡ Some m → first_or o n b ≡ Some m
first_stays (Some k) n m b e = e
first_stays None n m b e = cc

pub kept_with : (first : FirstNodes) (t n : ℕ) → Kept first (with_formed first t n)
kept_with first t n u m e = first_stays (first u) n m (t == u) e

-- ---- more terms

found_on : (old new : List Term) → GoesOn old new → (links : LinkMap) (first first' : FirstNodes) → Kept first first' → (t : ValueTag) → t.tag < length old → IsFound links old first t → IsFound links new first' t
found_on old new g links first first' k t lt f = ⊎_elim
    (λ n. inl (subst NeedsNoCall (sym (heads_grow old new g t.tag lt)) n))
    (λ r. inr (⊎_elim (λ l. inl l) (λ (i : IsFirst first t.tag). inr (record { node = i.node; at = k t.tag i.node i.at })) r)) f

pub found_grows : (old new : List Term) → GoesOn old new → (links : LinkMap) (first first' : FirstNodes) → Kept first first' → (t : ValueTag) → IsValue old t → IsFound links old first t → IsFound links new first' t
found_grows old new g links first first' k t v f = found_on old new g links first first' k t v.fits.within f

earlier_found : (old new : List Term) → GoesOn old new → (links : LinkMap) (first first' : FirstNodes) → Kept first first' → (hs : List Head) (ts : List ValueTag) → AreEarlier hs (length old) ts → AllFound links old first ts → AllFound links new first' ts
earlier_found old new g links first first' k hs [] e f = tt
earlier_found old new g links first first' k hs (t ∷ ts) e f = (found_on old new g links first first' k t e.0.0 f.0, earlier_found old new g links first first' k hs ts e.1 f.1)

pub all_found_grows : (old new : List Term) → GoesOn old new → (links : LinkMap) (first first' : FirstNodes) → Kept first first' → (ts : List ValueTag) → AreEarlier (heads_of old) (length old) ts → AllFound links old first ts → AllFound links new first' ts
all_found_grows old new g links first first' k ts e f = earlier_found old new g links first first' k (heads_of old) ts e f

pub all_found_push : (links : LinkMap) (terms : List Term) (first : FirstNodes) (ts : List ValueTag) (t : ValueTag) → AllFound links terms first ts → IsFound links terms first t → AllFound links terms first (ts ++ t ∷ [])
all_found_push links terms first [] t f e = (e, tt)
all_found_push links terms first (u ∷ ts) t f e = (f.0, all_found_push links terms first ts t f.1 e)

settled_found_grows : (nodes : List Node) (old new : List Term) → GoesOn old new → (links : LinkMap) (first first' : FirstNodes) → Kept first first' → (a : Settled) → SettledFits nodes old a → SettledFound links old first a → SettledFound links new first' a
settled_found_grows nodes old new g links first first' k (settled.Value t) v f = found_grows old new g links first first' k t v f
settled_found_grows nodes old new g links first first' k settled.Off v f = tt
settled_found_grows nodes old new g links first first' k (settled.Halt n code) v f = tt

-- a term that was there
front_same : {A : Type 0} (xs ys : List A) (n : ℕ) → n < length xs → slice_get (xs ++ ys) n ≡ slice_get xs n
front_same [] ys n h = absurd (omega (arith, h))
front_same (x ∷ xs) ys zero h = refl
front_same (x ∷ xs) ys (suc n) h = front_same xs ys n (omega (arith, h))

pub term_before : (old new : List Term) → GoesOn old new → (tag : ℕ) → tag < length old → slice_get new tag ≡ slice_get old tag
term_before old new g tag lt = ap (λ ts. slice_get ts tag) g.1 ∙ front_same old g.0 tag lt

-- the arguments of a term that was there
arguments_before : (old new : List Term) → GoesOn old new → (links : LinkMap) (first first' : FirstNodes) → Kept first first' → ((tag : ℕ) (m : Module) (ts : List ValueTag) → slice_get old tag ≡ Some (Call m ts) → AreEarlier (heads_of old) (length old) ts) →
    (tag : ℕ) → tag < length old → ArgumentsFound links old first tag → ArgumentsFound links new first' tag
arguments_before old new g links first first' k earlier tag lt f m ts e =
    let before : slice_get old tag ≡ Some (Call m ts) = sym (term_before old new g tag lt) ∙ e in
    all_found_grows old new g links first first' k ts (earlier tag m ts before) (f m ts before)

earlier_up : (all : List Head) (k n : ℕ) → k ≤ n → (ts : List ValueTag) → AreEarlier all k ts → AreEarlier all n ts
earlier_up all k n le [] e = tt
earlier_up all k n le (t ∷ ts) e = ((let lt = e.0.0 in omega arith, e.0.1), earlier_up all k n le ts e.1)

-- the arguments of a call are earlier
pub call_earlier : (all : List Head) (k n : ℕ) (ts : List Term) → AreFormed all k ts → k + length ts ≤ n → (tag : ℕ) (m : Module) (us : List ValueTag) → slice_get ts tag ≡ Some (Call m us) → AreEarlier all n us
call_earlier all k n [] f le tag m us e = cc
call_earlier all k n (t ∷ ts) f le zero m us e =
    let same : t ≡ Call m us = cc in
    earlier_up all k n (omega (arith, le)) us (subst (IsFormed all k) same f.0)
call_earlier all k n (t ∷ ts) f le (suc tag) m us e = call_earlier all (suc k) n ts f.1 (omega (arith, le)) tag m us e

pub memo_found_grows : (nodes : List Node) (old new : List Term) → GoesOn old new → AllFormed old → (links : LinkMap) (m : Memo) → MemoFits nodes old m → MemoFound links old m → MemoFound links new m
memo_found_grows nodes old new g formed links m fits h =
    let first = formed_of m in
    let same = kept_itself first in
    record {
      answers = λ p a e. settled_found_grows nodes old new g links first first same a.settled (fits.answers p a e) (h.answers p a e);
      selectors = λ n t e. found_grows old new g links first first same t (fits.selectors n t e) (h.selectors n t e);
      formed = λ tag n e. arguments_before old new g links first first same (call_earlier (heads_of old) 0 (length old) old formed (omega arith)) tag (fits.formed tag n e).0 (h.formed tag n e);
    }

-- ---- a port that is settled, a selector, and a call that is formed

pub found_as : (links : LinkMap) (terms : List Term) (first first' : FirstNodes) → first' ≡ first → (t : ValueTag) → IsFound links terms first t → IsFound links terms first' t
found_as links terms first first' e t f = subst (λ (x : FirstNodes). IsFound links terms x t) (sym e) f

pub settle_found : (links : LinkMap) (terms : List Term) (old new : Memo) (p : Port) (a : Answer) → answers_of new ≡ with_answer (answers_of old) p a → new.selectors ≡ old.selectors → new.formed ≡ old.formed →
    SettledFound links terms (formed_of old) a.settled → MemoFound links terms old → MemoFound links terms new
settle_found links terms old new p a e same first found h =
    let firsts : formed_of new ≡ formed_of old = λ i t. formed_same old new first t i in
    record {
      answers = λ q b at. subst (λ (x : FirstNodes). SettledFound links terms x b.settled) (sym firsts) (⊎_elim
          (λ k. subst (λ (x : Answer). SettledFound links terms (formed_of old) x.settled) k.1 found)
          (λ k. h.answers q b k)
          (answer_put (answers_of old) p a q b (sym (ap (λ (f : Port → Option Answer). f q) e) ∙ at)));
      selectors = λ n t at. found_as links terms (formed_of old) (formed_of new) firsts t (h.selectors n t (sym (selectors_same old new same n) ∙ at));
      formed = λ tag n at. subst (λ (x : FirstNodes). ArgumentsFound links terms x tag) (sym firsts) (h.formed tag n (sym (formed_same old new first tag) ∙ at));
    }

pub select_found : (links : LinkMap) (terms : List Term) (old new : Memo) (n : ℕ) (t : ValueTag) → Selects old new n t → n < length old.selectors.items → IsFound links terms (formed_of old) t → MemoFound links terms old → MemoFound links terms new
select_found links terms old new n t s lt found h =
    let firsts : formed_of new ≡ formed_of old = λ i u. formed_same old new s.2 u i in
    record {
      answers = λ q b at. subst (λ (x : FirstNodes). SettledFound links terms x b.settled) (sym firsts) (h.answers q b (sym (answers_same old new s.1 q) ∙ at));
      selectors = λ m u at. found_as links terms (formed_of old) (formed_of new) firsts u (⊎_elim (λ k. subst (IsFound links terms (formed_of old)) k.1 found) (λ k. h.selectors m u k) (selected old new n m t u s lt at));
      formed = λ tag m at. subst (λ (x : FirstNodes). ArgumentsFound links terms x tag) (sym firsts) (h.formed tag m (sym (formed_same old new s.2 tag) ∙ at));
    }

found_kept : (links : LinkMap) (terms : List Term) (first first' : FirstNodes) → Kept first first' → (t : ValueTag) → IsFound links terms first t → IsFound links terms first' t
found_kept links terms first first' k t f = ⊎_elim (λ n. inl n) (λ r. inr (⊎_elim (λ l. inl l) (λ (i : IsFirst first t.tag). inr (record { node = i.node; at = k t.tag i.node i.at })) r)) f

pub all_found_kept : (links : LinkMap) (terms : List Term) (first first' : FirstNodes) → Kept first first' → (ts : List ValueTag) → AllFound links terms first ts → AllFound links terms first' ts
all_found_kept links terms first first' k [] f = tt
all_found_kept links terms first first' k (t ∷ ts) f = (found_kept links terms first first' k t f.0, all_found_kept links terms first first' k ts f.1)

settled_kept : (links : LinkMap) (terms : List Term) (first first' : FirstNodes) → Kept first first' → (a : Settled) → SettledFound links terms first a → SettledFound links terms first' a
settled_kept links terms first first' k (settled.Value t) f = found_kept links terms first first' k t f
settled_kept links terms first first' k settled.Off f = tt
settled_kept links terms first first' k (settled.Halt n code) f = tt

stack_kept : (links : LinkMap) (terms : List Term) (first first' : FirstNodes) → Kept first first' → (fs : List Frame) → StackFound links terms first fs → StackFound links terms first' fs
stack_kept links terms first first' k [] f = tt
stack_kept links terms first first' k (x ∷ fs) f = (all_found_kept links terms first first' k x.arguments f.0, stack_kept links terms first first' k fs f.1)

pub forms_keep : (old new : Memo) (t n : ℕ) → formed_of new ≡ with_formed (formed_of old) t n → Kept (formed_of old) (formed_of new)
forms_keep old new t n e u m at = ap (λ (x : FirstNodes). x u) e ∙ kept_with (formed_of old) t n u m at

pub form_found : (links : LinkMap) (terms : List Term) (old new : Memo) (t n : ℕ) → FormsOne old new t n → ArgumentsFound links terms (formed_of old) t → MemoFound links terms old → MemoFound links terms new
form_found links terms old new t n f found h =
    let k = forms_keep old new t n f.0 in
    record {
      answers = λ q b at. settled_kept links terms (formed_of old) (formed_of new) k b.settled (h.answers q b (sym (answers_same old new f.1 q) ∙ at));
      selectors = λ m u at. found_kept links terms (formed_of old) (formed_of new) k u (h.selectors m u (sym (selectors_same old new f.2 m) ∙ at));
      formed = λ tag m at called ts e. all_found_kept links terms (formed_of old) (formed_of new) k ts (⊎_elim
          (λ s. subst (λ x. ArgumentsFound links terms (formed_of old) x) (sym s.0) found called ts e)
          (λ s. h.formed tag m s called ts e)
          (formed_put (formed_of old) t n tag m (sym (ap (λ (x : FirstNodes). x tag) f.0) ∙ at)));
    }

-- the tag is one that was formed from now on
first_there : (o : Option ℕ) (n : ℕ) → (m : ℕ) × (first_or o n true ≡ Some m)
first_there (Some k) n = (k, refl)
first_there None n = (n, refl)

pub formed_found : (first first' : FirstNodes) (t n : ℕ) → first' ≡ with_formed first t n → IsFirst first' t
formed_found first first' t n e =
    let r = first_there (first t) n in
    let same : (t == t) ≡ true = (unsigned_Decides t t).1 refl in
    record { node = r.0; at = ap (λ (x : FirstNodes). x t) e ∙ ap (first_or (first t) n) same ∙ r.1 }

-- ---- frames

pub stack_found_grows : (nodes : List Node) (old new : List Term) → GoesOn old new → (links : LinkMap) (first first' : FirstNodes) → Kept first first' → (answers : Port → Option Answer) (fs : List Frame) → StackFits nodes old answers fs → StackFound links old first fs → StackFound links new first' fs
stack_found_grows nodes old new g links first first' k answers [] h f = tt
stack_found_grows nodes old new g links first first' k answers (x ∷ fs) h f =
    (all_found_grows old new g links first first' k x.arguments h.0.0.earlier.earlier f.0, stack_found_grows nodes old new g links first first' k answers fs h.1 f.1)

pub stack_found_split : (links : LinkMap) (terms : List Term) (first : FirstNodes) (fs : List Frame) (top : Frame) → StackFound links terms first (fs ++ top ∷ []) → StackFound links terms first fs × AllFound links terms first top.arguments
stack_found_split links terms first [] top h = (tt, h.0)
stack_found_split links terms first (f ∷ fs) top h = let rest = stack_found_split links terms first fs top h.1 in ((h.0, rest.0), rest.1)

pub stack_found_join : (links : LinkMap) (terms : List Term) (first : FirstNodes) (fs : List Frame) (top : Frame) → StackFound links terms first fs → AllFound links terms first top.arguments → StackFound links terms first (fs ++ top ∷ [])
stack_found_join links terms first [] top h a = (a, tt)
stack_found_join links terms first (f ∷ fs) top h a = (h.0, stack_found_join links terms first fs top h.1 a)

pub opens_found : (links : LinkMap) (terms : List Term) (first : FirstNodes) (root : Port) (old new : List Frame) (top : Frame) → StackFound links terms first old → Opens root old new top → StackFound links terms first (new ++ top ∷ [])
opens_found links terms first root old new top h o = ⊎_elim
    (λ l. subst (StackFound links terms first) l.0 h)
    (λ r. subst (λ fs. StackFound links terms first (fs ++ top ∷ [])) (sym r.0) (subst (λ f. StackFound links terms first (f ∷ [])) (sym r.1) (tt, tt))) o

-- ---- nothing is resolved yet

pub empty_found : (links : LinkMap) (terms : List Term) (count : ℕ) (m : Memo) → EmptyMemo count m → MemoFound links terms m
empty_found links terms count m h = record {
  answers = λ p a e. (let both : None ≡ Some a = sym (h.answers p) ∙ e in cc);
  selectors = λ n t e. (let both : None ≡ Some t = sym (h.selectors n) ∙ e in cc);
  formed = λ t n e. (let both : None ≡ Some n = sym (h.formed t) ∙ e in cc);
}
