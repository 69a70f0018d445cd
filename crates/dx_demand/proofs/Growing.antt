-- Terms that are added change nothing of what earlier tags name.
use Rattle.dx_demand.specs.Terms.{AreArguments, IsValue}
use Rattle.dx_demand.proofs.Terms.{arguments_on, value_grow}
use Rattle.std.proofs.Common.{◌≡◌, List, [], ◌∷◌, length, Option, Some, None, option_map, refl, sym, ap, ◌∙◌, subst, arith}
use Rattle.dx_graph.specs.Graph.{Node}
use Rattle.dx_tags.specs.declared.term.Term.{Term}
use Rattle.dx_tags.specs.declared.term.ValueTag.{ValueTag}
use Rattle.dx_tags.specs.Files.{FileMap}
use Rattle.dx_tags.specs.Closed.{ValueTerm, heads_of, value_term, result_of_head, GoesOn, AreEarlier}
use Rattle.dx_tags.proofs.Growth.{heads_grow, goes_on_same, longer}
use Rattle.dx_links.specs.Holding.{Holding}
use Rattle.dx_links.specs.LinkMap.{LinkMap, held_at}
use Rattle.dx_meaning.specs.Outcome.{Value}
use Rattle.dx_meaning.specs.Scan.{Sight, Scanned, Forms}
use Rattle.dx_demand.specs.Memo.{Answers, shown, SettledFits, node_scans, MemoFits, MemoRight}
use Rattle.dx_demand.specs.Stack.{FrameFits, StackFits, Begins, StackRight}
use Rattle.dx_demand.specs.Picked.{LinksFit}
use Rattle.dx_demand.specs.Steps.{Holds, Tells, Sees, LeftRight}
use Rattle.std.specs.Prelude.{Result, Ok, Err, OnOk, OnErr, IfOk}
use Rattle.dx_demand.specs.declared.settled.Port.{Port}
use Rattle.dx_demand.specs.declared.settled.Settled.{Settled}
use Rattle.dx_demand.specs.declared.settled.Settled.TheVariants as settled
use Rattle.dx_demand.specs.declared.seen.Memo.{Memo}
use Rattle.dx_demand.specs.declared.seen.Frame.{Frame}

pub term_grows : (old new : List Term) → GoesOn old new → (t : ValueTag) → IsValue old t → value_term (heads_of new) t ≡ value_term (heads_of old) t
term_grows old new g t f = ap (λ h. result_of_head h t.result) (heads_grow old new g t.tag f.fits.within)

pub shown_grows : (nodes : List Node) (old new : List Term) → GoesOn old new → (a : Settled) → SettledFits nodes old a → shown nodes new a ≡ shown nodes old a
shown_grows nodes old new g (settled.Value t) f = ap Forms (term_grows old new g t f)
shown_grows nodes old new g settled.Off f = refl
shown_grows nodes old new g (settled.Halt n code) f = refl

pub settled_fits_grows : (nodes : List Node) (old new : List Term) → GoesOn old new → (a : Settled) → SettledFits nodes old a → SettledFits nodes new a
settled_fits_grows nodes old new g (settled.Value t) f = value_grow old new g t f
settled_fits_grows nodes old new g settled.Off f = tt
settled_fits_grows nodes old new g (settled.Halt n code) f = f

pub memo_fits_grows : (nodes : List Node) (old new : List Term) → GoesOn old new → (m : Memo) → MemoFits nodes old m → MemoFits nodes new m
memo_fits_grows nodes old new g m h = record {
  answers = λ p a e. settled_fits_grows nodes old new g a.settled (h.answers p a e);
  selectors = λ n t e. value_grow old new g t (h.selectors n t e);
  places = h.places;
  formed = λ t n e. (let le = longer old new g in let lt = (h.formed t n e).0 in omega arith, (h.formed t n e).1);
}

pub memo_right_grows : (s : Sight) (nodes : List Node) (old new : List Term) → GoesOn old new → (m : Memo) → MemoFits nodes old m → MemoRight s nodes old m → MemoRight s nodes new m
memo_right_grows s nodes old new g m f r = record {
  answers = λ p a e. r.answers p a e ∙ sym (shown_grows nodes old new g a.settled (f.answers p a e));
  selectors = λ n t e. r.selectors n t e ∙ sym (ap Forms (term_grows old new g t (f.selectors n t e)));
}

begins_earlier : (old new : List Term) → GoesOn old new → (ss : List (Scanned ValueTerm)) (ts : List ValueTag) → AreEarlier (heads_of old) (length old) ts → Begins (heads_of old) ss ts → Begins (heads_of new) ss ts
begins_earlier old new g ss [] e b = tt
begins_earlier old new g [] (t ∷ ts) e b = b
begins_earlier old new g (s ∷ ss) (t ∷ ts) e b =
    (b.0 ∙ sym (ap (λ h. Forms (result_of_head h t.result)) (heads_grow old new g t.tag e.0.0)), begins_earlier old new g ss ts e.1 b.1)

pub begins_grows : (old new : List Term) → GoesOn old new → (ss : List (Scanned ValueTerm)) (ts : List ValueTag) → AreArguments old ts → Begins (heads_of old) ss ts → Begins (heads_of new) ss ts
begins_grows old new g ss ts e b = begins_earlier old new g ss ts e.earlier b

pub frame_fits_grows : (nodes : List Node) (old new : List Term) → GoesOn old new → (f : Frame) → FrameFits nodes old f → FrameFits nodes new f
frame_fits_grows nodes old new g f h = record { port = h.port; few = h.few; earlier = arguments_on old new g f.arguments h.earlier }

pub stack_fits_grows : (nodes : List Node) (old new : List Term) → GoesOn old new → (answers : Answers) (fs : List Frame) → StackFits nodes old answers fs → StackFits nodes new answers fs
stack_fits_grows nodes old new g answers [] h = tt
stack_fits_grows nodes old new g answers (f ∷ fs) h =
    ((frame_fits_grows nodes old new g f h.0.0, h.0.1, h.0.2), stack_fits_grows nodes old new g answers fs h.1)

pub stack_right_grows : (s : Sight) (nodes : List Node) (old new : List Term) → GoesOn old new → (answers : Answers) (root : Port) (fs : List Frame) → StackFits nodes old answers fs → StackRight s nodes old root fs → StackRight s nodes new root fs
stack_right_grows s nodes old new g answers root [] h r = tt
stack_right_grows s nodes old new g answers root (f ∷ fs) h r = (
  record { leads = r.0.leads; begins = begins_grows old new g (node_scans s nodes f.port.node) f.arguments h.0.0.earlier r.0.begins },
  stack_right_grows s nodes old new g answers root fs h.1 r.1,
)

pub links_fit_grows : (old new : List Term) → GoesOn old new → (links : LinkMap) → LinksFit old links → LinksFit new links
links_fit_grows old new g links h k held e = value_grow old new g held.tag (h k held e)

held_same : (old new : List Term) → GoesOn old new → (o : Option Holding) → ((h : Holding) → o ≡ Some h → IsValue old h.tag) →
    option_map (λ (h : Holding). value_term (heads_of new) h.tag) o ≡ option_map (λ (h : Holding). value_term (heads_of old) h.tag) o
held_same old new g None f = refl
held_same old new g (Some h) f = ap Some (term_grows old new g h.tag (f h refl))

pub holds_before : (old new : List Term) → GoesOn old new → (links : LinkMap) → LinksFit old links → (s : Sight) → Holds links new s → Holds links old s
holds_before old new g links f s h k = h k ∙ held_same old new g (held_at k links) (f k)

pub tells_before : (given : ValueTag → Option Value) (old new : List Term) → GoesOn old new → (s : Sight) → Tells given new s → Tells given old s
tells_before given old new g s h = λ t fits. h t (value_grow old new g t fits) ∙ ap s.told (term_grows old new g t fits)

pub sees_before : (given : ValueTag → Option Value) (old new : List Term) → GoesOn old new → (links : LinkMap) (written : FileMap) → LinksFit old links → (s : Sight) → Sees given links written new s → Sees given links written old s
sees_before given old new g links written f s h = record {
  told = tells_before given old new g s h.told;
  linked = holds_before old new g links f s h.linked;
  written = h.written;
}

-- ---- what follows where a call answers Ok

pub on_ok_then : {T E : Type 0} (r : Result T E) {A B : Type 0} → OnOk r A → (A → B) → OnOk r B
on_ok_then (Ok x) h f = f h
on_ok_then (Err e) h f = tt

-- what holds however it answers
pub on_ok_with : {T E : Type 0} (r : Result T E) {A B : Type 0} → A → (A → B) → OnOk r B
on_ok_with (Ok x) h f = f h
on_ok_with (Err e) h f = tt

pub if_ok_with : {T E : Type 0} (r : Result T E) {A : Type 0} (P : T → Type 0) → A → (A → IfOk r P) → IfOk r P
if_ok_with (Ok x) P h f = f h
if_ok_with (Err e) P h f = tt

-- the terms go on also where there is no memory for one
pub always_on : {T E : Type 0} (r : Result T E) (old new : List Term) → OnOk r (GoesOn old new) → OnErr r (new ≡ old) → GoesOn old new
always_on (Ok t) old new ok err = ok
always_on (Err e) old new ok err = subst (GoesOn old) (sym err) (goes_on_same old)

pub left_right_grows : (s : Sight) (nodes : List Node) (old new : List Term) → GoesOn old new → (answers : Answers) (fs : List Frame) → StackFits nodes old answers fs → LeftRight s nodes old fs → LeftRight s nodes new fs
left_right_grows s nodes old new g answers [] h r = tt
left_right_grows s nodes old new g answers (f ∷ fs) h r = stack_right_grows s nodes old new g answers f.port (f ∷ fs) h r
