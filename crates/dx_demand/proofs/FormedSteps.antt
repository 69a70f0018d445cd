-- What was formed stays there along the steps of a port.
use Rattle.std.proofs.Common.{◌≡◌, ⊎_elim, ℕ, List, [], ◌∷◌, ◌++◌, length, ◌<◌, Option, Some, None, option_map, sym, ap, ap₂, ◌∙◌, subst}
use Rattle.std.specs.Prelude.{Result, Ok, Err, IfOk}
use Rattle.dx_graph.specs.Graph.{Node, node_at}
use Rattle.dx_graph.specs.Unfolding.{calls_of, tree_of, trees_of}
use Rattle.dx_tags.specs.declared.term.Term.{Term}
use Rattle.dx_tags.specs.declared.term.ValueTag.{ValueTag}
use Rattle.dx_base.specs.declared.function.Module.{Module}
use Rattle.dx_macros.specs.Tree.{Place}
use Rattle.dx_tags.specs.Closed.{ValueTerm, Head, heads_of, value_term, value_terms, GoesOn}
use Rattle.dx_meaning.specs.Picking.{selector_at}
use Rattle.dx_meaning.specs.Scan.{Sight, Scanned}
use Rattle.dx_meaning.specs.More.{More}
use Rattle.dx_meaning.specs.Forming.{Formed, Formings, forms_in, file_forms, call_formed, after, FormsKeep, HasAll, Grows}
use Rattle.dx_meaning.proofs.Formed.{all_grow}
use Rattle.dx_meaning.proofs.FormsStaying.{forms_at_keep, forms_keep, each_forms_keep}
use Rattle.dx_links.specs.LinkMap.{LinkMap, held_at}
use Rattle.dx_links.specs.Holding.{Holding}
use Rattle.dx_demand.specs.Memo.{Answers, answers_of, with_answer, formed_of, EmptyMemo, shown, port_scan, node_scans, input_at, MemoRight}
use Rattle.dx_demand.specs.Stack.{fresh, bottom, Opens, Leads, StackRight}
use Rattle.dx_demand.specs.Steps.{Holds, LeftRight, SeenRight}
use Rattle.dx_demand.specs.Forming.{formings, node_forms, port_forms, selector_formed, first_forms, forms_with, IsCallTag, MemoFormed, Reaches, FrameFormed, StackFormed, LeftFormed, SeenFormed, Toward, Formation, FormsStep}
use Rattle.dx_demand.specs.declared.settled.Port.{Port}
use Rattle.dx_demand.specs.declared.settled.Answer.{Answer}
use Rattle.dx_demand.specs.declared.settled.Settled.{Settled}
use Rattle.dx_demand.specs.declared.settled.Settled.TheVariants as settled
use Rattle.dx_demand.specs.declared.seen.Frame.{Frame}
use Rattle.dx_demand.specs.declared.seen.Memo.{Memo}
use Rattle.dx_demand.specs.declared.seen.Seen.{Seen}
use Rattle.dx_demand.specs.declared.step.Step.{Step}
use Rattle.dx_demand.proofs.Memos.{Selects, FormsOne, selected, answers_same, selectors_same, formed_same, formed_put}
use Rattle.dx_demand.proofs.Stacks.{answer_put}
use Rattle.dx_demand.proofs.FormedTerms.{name_calls_grow}
use Rattle.dx_demand.proofs.FormedPorts.{reaches_grow, reaches_itself, reaches_then, toward_itself, toward_then, first_keep}
use Rattle.dx_demand.proofs.Staying.{more_then}

-- ---- the memo

pub formings_same : (nodes : List Node) (terms : List Term) (m m' : Memo) → m'.formed ≡ m.formed → formings nodes terms m' ≡ formings nodes terms m
formings_same nodes terms m m' e = ap (λ xs. formings nodes terms (record { answers = m.answers; selectors = m.selectors; formed = xs })) e

pub memo_formed_grows : (s : Sight) (nodes : List Node) (old new : List Term) → GoesOn old new → (m : Memo) → Grows (formings nodes old m) (formings nodes new m) → MemoFormed s nodes old m → MemoFormed s nodes new m
memo_formed_grows s nodes old new g m grows h = record {
  answers = λ p a e. all_grow (formings nodes old m) (formings nodes new m) grows (port_forms s nodes p) (h.answers p a e);
  selectors = λ n t e. all_grow (formings nodes old m) (formings nodes new m) grows (selector_formed s nodes n) (h.selectors n t e);
  calls = name_calls_grow old new g m h.calls;
}

-- a port that is settled
pub settle_formed : (s : Sight) (nodes : List Node) (terms : List Term) (old new : Memo) (p : Port) (a : Answer) → answers_of new ≡ with_answer (answers_of old) p a → new.selectors ≡ old.selectors → new.formed ≡ old.formed →
    HasAll (formings nodes terms old) (port_forms s nodes p) → MemoFormed s nodes terms old → MemoFormed s nodes terms new
settle_formed s nodes terms old new p a e same first there h =
    let was = sym (formings_same nodes terms old new first) in
    record {
      answers = λ q b at. subst (λ x. HasAll x (port_forms s nodes q)) was (⊎_elim
          (λ k. subst (λ x. HasAll (formings nodes terms old) (port_forms s nodes x)) k.0 there)
          (λ k. h.answers q b k)
          (answer_put (answers_of old) p a q b (sym (ap (λ (f : Answers). f q) e) ∙ at)));
      selectors = λ n t at. subst (λ x. HasAll x (selector_formed s nodes n)) was (h.selectors n t (sym (selectors_same old new same n) ∙ at));
      calls = λ t n at. h.calls t n (sym (formed_same old new first t) ∙ at);
    }

-- a selector whose term is found
pub select_formed : (s : Sight) (nodes : List Node) (terms : List Term) (old new : Memo) (n : ℕ) (t : ValueTag) → Selects old new n t → n < length old.selectors.items → HasAll (formings nodes terms old) (selector_formed s nodes n) → MemoFormed s nodes terms old → MemoFormed s nodes terms new
select_formed s nodes terms old new n t x lt there h =
    let was = sym (formings_same nodes terms old new x.2) in
    record {
      answers = λ q b at. subst (λ y. HasAll y (port_forms s nodes q)) was (h.answers q b (sym (answers_same old new x.1 q) ∙ at));
      selectors = λ m u at. subst (λ y. HasAll y (selector_formed s nodes m)) was (⊎_elim
          (λ k. subst (λ (y : ℕ). HasAll (formings nodes terms old) (selector_formed s nodes y)) (sym k.0) there)
          (λ k. h.selectors m u k)
          (selected old new n m t u x lt at));
      calls = λ u m at. h.calls u m (sym (formed_same old new x.2 u) ∙ at);
    }

-- a call that is formed
pub form_formed : (s : Sight) (nodes : List Node) (old new : List Term) → GoesOn old new → (m m' : Memo) (t n : ℕ) → FormsOne m m' t n → IsCallTag new t → Grows (formings nodes old m) (formings nodes new m') → MemoFormed s nodes old m → MemoFormed s nodes new m'
form_formed s nodes old new g m m' t n f call grows h = record {
  answers = λ q b at. all_grow (formings nodes old m) (formings nodes new m') grows (port_forms s nodes q) (h.answers q b (sym (answers_same m m' f.1 q) ∙ at));
  selectors = λ k u at. all_grow (formings nodes old m) (formings nodes new m') grows (selector_formed s nodes k) (h.selectors k u (sym (selectors_same m m' f.2 k) ∙ at));
  calls = λ u k at. ⊎_elim
      (λ x. subst (IsCallTag new) (sym x.0) call)
      (λ x. name_calls_grow old new g m h.calls u k x)
      (formed_put (formed_of m) t n u k (sym (ap (λ (x : ℕ → Option ℕ). x u) f.0) ∙ at));
}

pub empty_formed : (s : Sight) (nodes : List Node) (terms : List Term) (count : ℕ) (m : Memo) → EmptyMemo count m → MemoFormed s nodes terms m
empty_formed s nodes terms count m h = record {
  answers = λ p a e. (let both : None ≡ Some a = sym (h.answers p) ∙ e in cc);
  selectors = λ n t e. (let both : None ≡ Some t = sym (h.selectors n) ∙ e in cc);
  calls = λ t n e. (let both : None ≡ Some n = sym (h.formed t) ∙ e in cc);
}

-- ---- frames

pub frame_formed_grows : (s : Sight) (nodes : List Node) (was now : Formings) → Grows was now → (root : Port) (f : Frame) → FrameFormed s nodes was root f → FrameFormed s nodes now root f
frame_formed_grows s nodes was now g root f h = record {
  reaches = reaches_grow s nodes was now g root f.port h.reaches;
  arguments = all_grow was now g (first_forms (length f.arguments) (node_forms s nodes f.port.node)) h.arguments;
}

pub stack_formed_grows : (s : Sight) (nodes : List Node) (was now : Formings) → Grows was now → (root : Port) (fs : List Frame) → StackFormed s nodes was root fs → StackFormed s nodes now root fs
stack_formed_grows s nodes was now g root [] h = tt
stack_formed_grows s nodes was now g root (f ∷ fs) h = (frame_formed_grows s nodes was now g root f h.0, stack_formed_grows s nodes was now g root fs h.1)

pub formed_split : (s : Sight) (nodes : List Node) (was : Formings) (root : Port) (fs : List Frame) (top : Frame) → StackFormed s nodes was root (fs ++ top ∷ []) → StackFormed s nodes was root fs × FrameFormed s nodes was root top
formed_split s nodes was root [] top h = (tt, h.0)
formed_split s nodes was root (f ∷ fs) top h = let rest = formed_split s nodes was root fs top h.1 in ((h.0, rest.0), rest.1)

pub formed_join : (s : Sight) (nodes : List Node) (was : Formings) (root : Port) (fs : List Frame) (top : Frame) → StackFormed s nodes was root fs → FrameFormed s nodes was root top → StackFormed s nodes was root (fs ++ top ∷ [])
formed_join s nodes was root [] top h r = (r, tt)
formed_join s nodes was root (f ∷ fs) top h r = (h.0, formed_join s nodes was root fs top h.1 r)

pub left_formed : (s : Sight) (nodes : List Node) (was : Formings) (root : Port) (fs : List Frame) (top : Frame) → bottom fs top ≡ root → StackFormed s nodes was root (fs ++ top ∷ []) → LeftFormed s nodes was (fs ++ top ∷ [])
left_formed s nodes was root [] top e h = subst (λ r. StackFormed s nodes was r (top ∷ [])) (sym e) h
left_formed s nodes was root (f ∷ fs) top e h = subst (λ r. StackFormed s nodes was r (f ∷ fs ++ top ∷ [])) (sym e) h

formed_back : (s : Sight) (nodes : List Node) (was : Formings) (root : Port) (fs : List Frame) (top : Frame) → bottom fs top ≡ root → LeftFormed s nodes was (fs ++ top ∷ []) → StackFormed s nodes was root (fs ++ top ∷ [])
formed_back s nodes was root [] top e h = subst (λ r. StackFormed s nodes was r (top ∷ [])) e h
formed_back s nodes was root (f ∷ fs) top e h = subst (λ r. StackFormed s nodes was r (f ∷ fs ++ top ∷ [])) e h

fresh_formed : (s : Sight) (nodes : List Node) (was : Formings) (root : Port) → StackFormed s nodes was root (fresh root ∷ [])
fresh_formed s nodes was root = (record { reaches = reaches_itself s nodes was root; arguments = tt }, tt)

pub opens_formed : (s : Sight) (nodes : List Node) (was : Formings) (root : Port) (old new : List Frame) (top : Frame) → LeftFormed s nodes was old → Opens root old new top → StackFormed s nodes was root (new ++ top ∷ [])
opens_formed s nodes was root old new top h o = ⊎_elim
    (λ l. formed_back s nodes was root new top l.1 (subst (LeftFormed s nodes was) l.0 h))
    (λ r. subst (λ fs. StackFormed s nodes was root (fs ++ top ∷ [])) (sym r.0) (subst (λ f. StackFormed s nodes was root (f ∷ [])) (sym r.1) (fresh_formed s nodes was root))) o

pub awaits_formed : (s : Sight) (nodes : List Node) (now : Formings) (root : Port) (fs : List Frame) (top : Frame) (q : Port) → StackFormed s nodes now root fs → FrameFormed s nodes now root top → Leads s nodes top.port q → Reaches s nodes now top.port q →
    StackFormed s nodes now root ((fs ++ top ∷ []) ++ fresh q ∷ [])
awaits_formed s nodes now root fs top q rest own leads reaches = formed_join s nodes now root (fs ++ top ∷ []) (fresh q) (formed_join s nodes now root fs top rest own)
    (record { reaches = reaches_then s nodes now root top.port q own.reaches leads reaches; arguments = tt })

-- ---- as more is told

kept_shown_forms : (nodes : List Node) (terms : List Term) (a : Settled) (x : Scanned ValueTerm) (fs gs : List Formed) → x ≡ shown nodes terms a → FormsKeep x fs gs → gs ≡ fs
kept_shown_forms nodes terms (settled.Value t) x fs gs e k = subst (λ y. FormsKeep y fs gs) e k
kept_shown_forms nodes terms settled.Off x fs gs e k = subst (λ y. FormsKeep y fs gs) e k
kept_shown_forms nodes terms (settled.Halt n code) x fs gs e k = subst (λ y. FormsKeep y fs gs) e k

memo_formed_stays : (s s' : Sight) → More s s' → (nodes : List Node) (terms : List Term) (m : Memo) → MemoRight s nodes terms m → MemoFormed s nodes terms m → MemoFormed s' nodes terms m
memo_formed_stays s s' more nodes terms m r h = record {
  answers = λ p a e. subst (HasAll (formings nodes terms m)) (sym (kept_shown_forms nodes terms a.settled (port_scan s nodes p) (port_forms s nodes p) (port_forms s' nodes p) (r.answers p a e) (forms_keep s s' more (tree_of (calls_of nodes) (input_at p))))) (h.answers p a e);
  selectors = λ n t e.
      let args = trees_of (calls_of nodes) (node_at nodes n).inputs in
      let kept = forms_at_keep (node_scans s nodes n) (node_forms s nodes n) (node_forms s' nodes n) (each_forms_keep s s' more args) (selector_at (node_at nodes n).what) in
      subst (HasAll (formings nodes terms m)) (sym (subst (λ y. FormsKeep y (selector_formed s nodes n) (selector_formed s' nodes n)) (r.selectors n t e) kept)) (h.selectors n t e);
  calls = h.calls;
}

stack_formed_stays : (s s' : Sight) → More s s' → (nodes : List Node) (terms : List Term) (was : Formings) (root : Port) (fs : List Frame) → StackRight s nodes terms root fs → StackFormed s nodes was root fs → StackFormed s' nodes was root fs
stack_formed_stays s s' more nodes terms was root [] r h = tt
stack_formed_stays s s' more nodes terms was root (f ∷ fs) r h =
    let args = trees_of (calls_of nodes) (node_at nodes f.port.node).inputs in
    let kept = first_keep (heads_of terms) (node_scans s nodes f.port.node) (node_forms s nodes f.port.node) (node_forms s' nodes f.port.node) f.arguments r.0.begins (each_forms_keep s s' more args) in
    (record { reaches = λ s2 more2. h.0.reaches s2 (more_then s s' s2 more more2); arguments = subst (HasAll was) (sym kept) h.0.arguments }, stack_formed_stays s s' more nodes terms was root fs r.1 h.1)

left_formed_stays : (s s' : Sight) → More s s' → (nodes : List Node) (terms : List Term) (was : Formings) (fs : List Frame) → LeftRight s nodes terms fs → LeftFormed s nodes was fs → LeftFormed s' nodes was fs
left_formed_stays s s' more nodes terms was [] r h = tt
left_formed_stays s s' more nodes terms was (f ∷ fs) r h = stack_formed_stays s s' more nodes terms was f.port (f ∷ fs) r h

pub seen_formed_stays : (s s' : Sight) → More s s' → (nodes : List Node) (terms : List Term) (seen : Seen) → SeenRight s nodes terms seen → SeenFormed s nodes terms seen → SeenFormed s' nodes terms seen
seen_formed_stays s s' more nodes terms seen r h = record {
  memo = memo_formed_stays s s' more nodes terms seen.memo r.memo h.memo;
  left = left_formed_stays s s' more nodes terms (formings nodes terms seen.memo) seen.stack.items r.left h.left;
}

-- ---- links

abbrev no_forms : List Formed
no_forms = []

held_same : (links : LinkMap) (terms : List Term) (o : Option ValueTerm) (p : Option Holding) → o ≡ option_map (λ (x : Holding). value_term (heads_of terms) x.tag) p → option_map (λ (t : ValueTerm). no_forms) o ≡ option_map (λ (x : Holding). no_forms) p
held_same links terms o None e = ap (option_map (λ (t : ValueTerm). no_forms)) e
held_same links terms o (Some x) e = ap (option_map (λ (t : ValueTerm). no_forms)) e

-- what links hold forms nothing
pub forms_held : (links : LinkMap) (terms : List Term) (s : Sight) → Holds links terms s → forms_in s ≡ forms_with links
forms_held links terms s h = λ i. record { null = (forms_in s).null; text = (forms_in s).text; held = λ k. held_same links terms (s.linked k) (held_at k links) (h k) i }

-- ---- one step

pub toward_same : (whole : List Formed) (was now : Formings) → now ≡ was → Toward whole was now
toward_same whole was now e = subst (Toward whole was) (sym e) (toward_itself whole was)

-- a step that changes terms alone
pub formation_of : (s : Sight) (nodes : List Node) (old new : List Term) → GoesOn old new → (m : Memo) (p : Port) (count : ℕ) → Toward (port_forms s nodes p) (formings nodes old m) (formings nodes new m) → MemoFormed s nodes old m → HasAll (formings nodes new m) (first_forms count (node_forms s nodes p.node)) →
    Formation s nodes old m new m p count
formation_of s nodes old new g m p count t h a = record { toward = t; memo = memo_formed_grows s nodes old new g m t.grows h; arguments = a }

-- one step behind another
pub formation_then : (s : Sight) (nodes : List Node) (old : List Term) (m : Memo) (mid : List Term) (m1 : Memo) (new : List Term) (m2 : Memo) (p : Port) (one two : ℕ) → Formation s nodes old m mid m1 p one → Formation s nodes mid m1 new m2 p two → Formation s nodes old m new m2 p two
formation_then s nodes old m mid m1 new m2 p one two a b = record {
  toward = toward_then (port_forms s nodes p) (formings nodes old m) (formings nodes mid m1) (formings nodes new m2) a.toward b.toward;
  memo = b.memo;
  arguments = b.arguments;
}

-- the arguments so far are still there
pub formation_with : (s : Sight) (nodes : List Node) (old : List Term) (m : Memo) (new : List Term) (m' : Memo) (p : Port) (count : ℕ) → HasAll (formings nodes old m) (first_forms count (node_forms s nodes p.node)) → Formation s nodes old m new m' p 0 → Formation s nodes old m new m' p count
formation_with s nodes old m new m' p count a f = record {
  toward = f.toward;
  memo = f.memo;
  arguments = all_grow (formings nodes old m) (formings nodes new m') f.toward.grows (first_forms count (node_forms s nodes p.node)) a;
}

pub step_with : {E : Type 0} (r : Result Step E) (s : Sight) (nodes : List Node) (old : List Term) (m : Memo) (new : List Term) (m' : Memo) (p : Port) (count : ℕ) → HasAll (formings nodes old m) (first_forms count (node_forms s nodes p.node)) →
    IfOk r (λ x. FormsStep s nodes old m new m' p 0 x) → IfOk r (λ x. FormsStep s nodes old m new m' p count x)
step_with (Ok x) s nodes old m new m' p count a f = (formation_with s nodes old m new m' p count a f.0, f.1)
step_with (Err e) s nodes old m new m' p count a f = tt

pub step_then : {E : Type 0} (r : Result Step E) (s : Sight) (nodes : List Node) (old : List Term) (m : Memo) (mid : List Term) (m1 : Memo) (new : List Term) (m2 : Memo) (p : Port) (count : ℕ) → Formation s nodes old m mid m1 p 0 →
    IfOk r (λ x. FormsStep s nodes mid m1 new m2 p count x) → IfOk r (λ x. FormsStep s nodes old m new m2 p count x)
step_then (Ok x) s nodes old m mid m1 new m2 p count a f = (formation_then s nodes old m mid m1 new m2 p 0 count a f.0, f.1)
step_then (Err e) s nodes old m mid m1 new m2 p count a f = tt

pub left_formed_grows : (s : Sight) (nodes : List Node) (was now : Formings) → Grows was now → (fs : List Frame) → LeftFormed s nodes was fs → LeftFormed s nodes now fs
left_formed_grows s nodes was now g [] h = tt
left_formed_grows s nodes was now g (f ∷ fs) h = stack_formed_grows s nodes was now g f.port (f ∷ fs) h

-- a call of the same file and arguments
pub called_as : (now was : Formings) (p : Place) (m : Module) (hs : List Head) (file own : Option (List ℕ)) (us ts : List ValueTag) → now ≡ after (file_forms file ++ call_formed p m file (value_terms hs us) ∷ []) was → file ≡ own → us ≡ ts →
    now ≡ after (file_forms own ++ call_formed p m own (value_terms hs ts) ∷ []) was
called_as now was p m hs file own us ts e f u = e ∙ ap₂ (λ (x : Option (List ℕ)) (y : List ValueTag). after (file_forms x ++ call_formed p m x (value_terms hs y) ∷ []) was) f u
