-- The calls that data meets, along the steps of a port.
use Rattle.std.proofs.Common.{◌≡◌, ◌⊎◌, ⊎_elim, inl, inr, ℕ, zero, suc, ◌<◌, ◌≤◌, List, [], ◌∷◌, ◌++◌, length, Option, Some, None, Bool, true, false, refl, sym, ap, ◌∙◌, subst, arith}
use Rattle.std.specs.Prelude.{slice_get}
use Rattle.dx_base.specs.declared.function.Function.{Function}
use Rattle.dx_base.specs.declared.function.Function.TheVariants as function
use Rattle.dx_base.specs.declared.function.Module.{Module}
use Rattle.dx_base.specs.declared.function.Effect.{Effect}
use Rattle.dx_macros.specs.Tree.{Place, ResultTree, CallTree}
use Rattle.dx_graph.specs.Graph.{Node, node_at, AreNodes}
use Rattle.dx_graph.specs.Unfolding.{calls_of, tree_of, trees_of}
use Rattle.dx_graph.specs.declared.node.Input.{Input}
use Rattle.dx_graph.specs.declared.node.Input.TheVariants as input
use Rattle.dx_tags.specs.declared.term.Term.{Term}
use Rattle.dx_tags.specs.declared.term.ValueTag.{ValueTag}
use Rattle.dx_tags.specs.Closed.{ValueTerm, heads_of, value_term}
use Rattle.dx_links.specs.LinkMap.{LinkMap}
use Rattle.dx_meaning.specs.Outcome.{Value}
use Rattle.dx_meaning.specs.Picking.{pick, selector_at}
use Rattle.dx_meaning.specs.Picking as plain
use Rattle.dx_meaning.specs.Scan.{Sight, Scanned, Forms, terms_in}
use Rattle.dx_meaning.specs.Met.{Called, met, each_met, met_at, picked_met, told_met, selected_met, selector_met, effect_met, met_rule}
use Rattle.dx_demand.specs.Memo.{Answers, answers_of, with_answer, same_port, input_at, node_scans, selector_scan, EmptyMemo}
use Rattle.dx_demand.specs.Picked.{shelf_with, shown_pick}
use Rattle.dx_demand.specs.Stack.{Opens}
use Rattle.dx_demand.specs.Steps.{Holds, IsPicking}
use Rattle.dx_demand.specs.Calling.{node_met, input_met, port_met, HasValue, IsValued, AreValued, IsNoModule, PassedMet, AnswerMet, MemoMet, SelectorsValued, StackValued, KnownValued}
use Rattle.dx_demand.specs.declared.settled.Port.{Port}
use Rattle.dx_demand.specs.declared.settled.Answer.{Answer}
use Rattle.dx_demand.specs.declared.settled.Settled.{Settled}
use Rattle.dx_demand.specs.declared.settled.Settled.TheVariants as settled
use Rattle.dx_demand.specs.declared.seen.Frame.{Frame}
use Rattle.dx_demand.specs.declared.seen.Memo.{Memo}
use Rattle.dx_demand.specs.declared.pick.Pick.{Pick}
use Rattle.dx_demand.specs.declared.step.Known.TheVariants as known
use Rattle.dx_demand.proofs.Stacks.{answer_put, port_itself, port_of}
use Rattle.dx_demand.proofs.Memos.{Selects, selected, selectors_same}
use Rattle.dx_demand.proofs.Ports.{call_unfolds}
use Rattle.dx_demand.proofs.Picks.{shelf_same}

-- ---- values that are kept

valued_as : (answers : Answers) (p : Port) (a : Answer) (x : Settled) → answers p ≡ Some a → a.settled ≡ x → KnownValued answers (input_at p) (known.Settled x)
valued_as answers p a (settled.Value t) at e = record { answer = a; tag = t; at = at; is = e }
valued_as answers p a settled.Off at e = tt
valued_as answers p a (settled.Halt n code) at e = tt

pub valued_known : (answers : Answers) (p : Port) (a : Answer) → answers p ≡ Some a → KnownValued answers (input_at p) (known.Settled a.settled)
valued_known answers p a at = valued_as answers p a a.settled at refl

pub none_valued : (answers : Answers) (is : List Input) → AreValued answers is 0
none_valued answers is k x lt at = absurd (omega (arith, lt))

same_input : (is : List Input) (k : ℕ) (x y : Input) → slice_get is k ≡ Some x → slice_get is k ≡ Some y → x ≡ y
same_input is k x y e f = (let both : Some x ≡ Some y = sym e ∙ f in cc)

less_or : (k n : ℕ) → k < suc n → (k < n) ⊎ (k ≡ n)
less_or zero zero h = inr refl
less_or zero (suc n) h = inl (omega arith)
less_or (suc k) zero h = absurd (omega (arith, h))
less_or (suc k) (suc n) h = ⊎_elim (λ l. inl (omega (arith, l))) (λ e. inr (ap suc e)) (less_or k n (omega (arith, h)))

pub one_valued : (answers : Answers) (is : List Input) (n : ℕ) (x : Input) → AreValued answers is n → slice_get is n ≡ Some x → IsValued answers x → AreValued answers is (suc n)
one_valued answers is n x h at v k y lt e = ⊎_elim
    (λ less. h k y less e)
    (λ same. subst (IsValued answers) (same_input is n x y at (subst (λ (j : ℕ). slice_get is j ≡ Some y) same e)) v) (less_or k n lt)

-- ---- a port that is settled

unlike : (answers : Answers) (p q : Port) → answers p ≡ None → same_port p q ≡ true → HasValue answers q → ⊥
unlike answers p q none e h = (let both : None ≡ Some h.answer = sym none ∙ ap answers (port_of p q e) ∙ h.at in cc)

has_put_as : (answers : Answers) (p : Port) (a : Answer) → answers p ≡ None → (q : Port) → HasValue answers q → (b : Bool) → same_port p q ≡ b → HasValue (with_answer answers p a) q
has_put_as answers p a none q h true e = absurd (unlike answers p q none e h)
has_put_as answers p a none q h false e = record { answer = h.answer; tag = h.tag; at = rw e h.at; is = h.is }

valued_put : (answers : Answers) (p : Port) (a : Answer) → answers p ≡ None → (i : Input) → IsValued answers i → IsValued (with_answer answers p a) i
valued_put answers p a none (input.Constant c) v = tt
valued_put answers p a none (input.Result n result) v = has_put_as answers p a none (record { node = n; result = result }) v (same_port p (record { node = n; result = result })) refl

are_valued_put : (answers : Answers) (p : Port) (a : Answer) → answers p ≡ None → (is : List Input) (n : ℕ) → AreValued answers is n → AreValued (with_answer answers p a) is n
are_valued_put answers p a none is n h k x lt at = valued_put answers p a none x (h k x lt at)

passed_put : (s : Sight) (nodes : List Node) (answers : Answers) (p : Port) (a : Answer) → answers p ≡ None → (q : Port) (from : Option ℕ) → PassedMet s nodes answers q from → PassedMet s nodes (with_answer answers p a) q from
passed_put s nodes answers p a none q (Some k) h = (h.0, h.1, λ x at. valued_put answers p a none x (h.2 x at))
passed_put s nodes answers p a none q None h = h

met_put : (s : Sight) (nodes : List Node) (answers : Answers) (p : Port) (a : Answer) → answers p ≡ None → (q : Port) (from : Option ℕ) (x : Settled) → AnswerMet s nodes answers q from x → AnswerMet s nodes (with_answer answers p a) q from x
met_put s nodes answers p a none q from (settled.Value t) h = record {
  modules = λ m w. are_valued_put answers p a none (node_at nodes q.node).inputs (length (node_at nodes q.node).inputs) (h.modules m w);
  others = λ other_. passed_put s nodes answers p a none q from (h.others other_);
}
met_put s nodes answers p a none q from settled.Off h = tt
met_put s nodes answers p a none q from (settled.Halt n code) h = tt

pub settle_met : (s : Sight) (nodes : List Node) (answers : Answers) (p : Port) (a : Answer) → answers p ≡ None → AnswerMet s nodes answers p a.input a.settled → MemoMet s nodes answers → MemoMet s nodes (with_answer answers p a)
settle_met s nodes answers p a none own h q b at = met_put s nodes answers p a none q b.input b.settled (⊎_elim
    (λ k. subst (λ (y : Port). AnswerMet s nodes answers y b.input b.settled) k.0 (subst (λ (x : Answer). AnswerMet s nodes answers p x.input x.settled) k.1 own))
    (λ k. h q b k)
    (answer_put answers p a q b at))

pub stack_valued_put : (nodes : List Node) (answers : Answers) (p : Port) (a : Answer) → answers p ≡ None → (fs : List Frame) → StackValued nodes answers fs → StackValued nodes (with_answer answers p a) fs
stack_valued_put nodes answers p a none [] h = tt
stack_valued_put nodes answers p a none (f ∷ fs) h = (are_valued_put answers p a none (node_at nodes f.port.node).inputs (length f.arguments) h.0, stack_valued_put nodes answers p a none fs h.1)

pub selectors_put : (nodes : List Node) (old new : Memo) (p : Port) (a : Answer) → answers_of old p ≡ None → answers_of new ≡ with_answer (answers_of old) p a → new.selectors ≡ old.selectors → SelectorsValued nodes old → SelectorsValued nodes new
selectors_put nodes old new p a none e same h n t x at slot =
    subst (λ (y : Answers). IsValued y x) (sym e) (valued_put (answers_of old) p a none x (h n t x (sym (selectors_same old new same n) ∙ at) slot))

pub put_valued : (answers : Answers) (p : Port) (a : Answer) → KnownValued (with_answer answers p a) (input_at p) (known.Settled a.settled)
put_valued answers p a = valued_known (with_answer answers p a) p a (rw (port_itself p) refl)

-- ---- selectors

pub selectors_kept : (nodes : List Node) (old new : Memo) → answers_of new ≡ answers_of old → new.selectors ≡ old.selectors → SelectorsValued nodes old → SelectorsValued nodes new
selectors_kept nodes old new e same h n t x at slot = subst (λ (y : Answers). IsValued y x) (sym e) (h n t x (sym (selectors_same old new same n) ∙ at) slot)

pub select_valued : (nodes : List Node) (old new : Memo) (n : ℕ) (t : ValueTag) (x : Input) → Selects old new n t → n < length old.selectors.items → answers_of new ≡ answers_of old → slice_get (node_at nodes n).inputs (selector_at (node_at nodes n).what) ≡ Some x → IsValued (answers_of old) x →
    SelectorsValued nodes old → SelectorsValued nodes new
select_valued nodes old new n t x s lt e slot v h m u y at slot' = subst (λ (z : Answers). IsValued z y) (sym e) (⊎_elim
    (λ k. subst (IsValued (answers_of old)) (same_input (node_at nodes n).inputs (selector_at (node_at nodes n).what) x y slot (subst (λ (j : ℕ). slice_get (node_at nodes j).inputs (selector_at (node_at nodes j).what) ≡ Some y) k.0 slot')) v)
    (λ k. h m u y k slot')
    (selected old new n m t u s lt at))

-- ---- frames

pub valued_split : (nodes : List Node) (answers : Answers) (fs : List Frame) (top : Frame) → StackValued nodes answers (fs ++ top ∷ []) → StackValued nodes answers fs × AreValued answers (node_at nodes top.port.node).inputs (length top.arguments)
valued_split nodes answers [] top h = (tt, h.0)
valued_split nodes answers (f ∷ fs) top h = let rest = valued_split nodes answers fs top h.1 in ((h.0, rest.0), rest.1)

pub valued_join : (nodes : List Node) (answers : Answers) (fs : List Frame) (top : Frame) → StackValued nodes answers fs → AreValued answers (node_at nodes top.port.node).inputs (length top.arguments) → StackValued nodes answers (fs ++ top ∷ [])
valued_join nodes answers [] top h a = (a, tt)
valued_join nodes answers (f ∷ fs) top h a = (h.0, valued_join nodes answers fs top h.1 a)

pub opens_valued : (nodes : List Node) (answers : Answers) (root : Port) (old new : List Frame) (top : Frame) → StackValued nodes answers old → Opens root old new top → StackValued nodes answers (new ++ top ∷ [])
opens_valued nodes answers root old new top h o = ⊎_elim
    (λ l. subst (StackValued nodes answers) l.0 h)
    (λ r. subst (λ fs. StackValued nodes answers (fs ++ top ∷ [])) (sym r.0) (subst (λ f. StackValued nodes answers (f ∷ [])) (sym r.1) (none_valued answers (node_at nodes root.node).inputs, tt))) o

pub empty_met : (s : Sight) (nodes : List Node) (count : ℕ) (m : Memo) → EmptyMemo count m → MemoMet s nodes (answers_of m)
empty_met s nodes count m h p a e = (let both : None ≡ Some a = sym (h.answers p) ∙ e in cc)

pub empty_selectors : (nodes : List Node) (count : ℕ) (m : Memo) → EmptyMemo count m → SelectorsValued nodes m
empty_selectors nodes count m h n t x e slot = (let both : None ≡ Some t = sym (h.selectors n) ∙ e in cc)

-- ---- what a port meets

pub met_past : (s : Sight) (nodes : List Node) (n k : ℕ) → length (node_at nodes n).inputs ≤ k → met_at (node_met s nodes n) k ≡ []
met_past s nodes n k le = past (calls_of nodes) (node_at nodes n).inputs k le
  where
    past : (cs : List CallTree) (is : List Input) (k : ℕ) → length is ≤ k → met_at (each_met s (trees_of cs is)) k ≡ []
    past cs [] k le = refl
    past cs (i ∷ is) zero le = absurd (omega (arith, le))
    past cs (i ∷ is) (suc k) le = past cs is k (omega (arith, le))

pub met_slot : (s : Sight) (nodes : List Node) (n k : ℕ) (x : Input) → slice_get (node_at nodes n).inputs k ≡ Some x → met_at (node_met s nodes n) k ≡ input_met s nodes x
met_slot s nodes n k x at = slot (calls_of nodes) (node_at nodes n).inputs k x at
  where
    slot : (cs : List CallTree) (is : List Input) (k : ℕ) (x : Input) → slice_get is k ≡ Some x → met_at (each_met s (trees_of cs is)) k ≡ met s (tree_of cs x)
    slot cs [] k x at = cc
    slot cs (i ∷ is) zero x at = (let same : i ≡ x = cc in ap (λ y. met s (tree_of cs y)) same)
    slot cs (i ∷ is) (suc k) x at = slot cs is k x at

pub port_met_rule : (s : Sight) (nodes : List Node) → AreNodes nodes → (p : Port) → p.node < length nodes → port_met s nodes p ≡ met_rule s (node_at nodes p.node).what (node_at nodes p.node).place p.result (node_scans s nodes p.node) (node_met s nodes p.node)
port_met_rule s nodes a p h = ap (λ c. met s (ResultTree p.result c)) (call_unfolds nodes a p.node h)

picking_met : (s : Sight) (f : Function) (p : Place) (result : ℕ) (ss : List (Scanned ValueTerm)) (each : List (List Called)) → IsPicking f → met_rule s f p result ss each ≡ selector_met s f p result ss each
picking_met s function.Switch p result ss each i = refl
picking_met s function.Route p result ss each i = refl
picking_met s function.GetLocal p result ss each i = refl
picking_met s function.GetGlobal p result ss each i = refl
picking_met s (function.Module m) p result ss each i = absurd i
picking_met s (function.Effect e) p result ss each i = absurd i

pub picking_no_module : (f : Function) → IsPicking f → IsNoModule f
picking_no_module f i m e = subst IsPicking e i

pub selector_meets : (s : Sight) (nodes : List Node) → AreNodes nodes → (p : Port) → p.node < length nodes → IsPicking (node_at nodes p.node).what → (t : ValueTerm) → selector_scan s nodes p.node ≡ Forms t → (v : Value) → s.told t ≡ Some v →
    port_met s nodes p ≡ picked_met (node_met s nodes p.node) (pick (terms_in s) (node_at nodes p.node).what (node_at nodes p.node).place p.result v)
selector_meets s nodes a p h i t e v told =
    let node = node_at nodes p.node in
    port_met_rule s nodes a p h ∙ picking_met s node.what node.place p.result (node_scans s nodes p.node) (node_met s nodes p.node) i
    ∙ ap (selected_met s node.what node.place p.result (node_met s nodes p.node)) e ∙ ap (told_met s node.what node.place p.result (node_met s nodes p.node)) told

pub effect_meets : (s : Sight) (nodes : List Node) → AreNodes nodes → (p : Port) → p.node < length nodes → (e : Effect) → (node_at nodes p.node).what ≡ function.Effect e → port_met s nodes p ≡ effect_met e (node_met s nodes p.node)
effect_meets s nodes a p h e w = port_met_rule s nodes a p h ∙ ap (λ (f : Function). met_rule s f (node_at nodes p.node).place p.result (node_scans s nodes p.node) (node_met s nodes p.node)) w

pub effect_no_module : (f : Function) (e : Effect) → f ≡ function.Effect e → IsNoModule f
effect_no_module f e w m k = (let both : function.Effect e ≡ function.Module m = sym w ∙ k in cc)

-- ---- what is settled

-- by an input
pub chosen_met : (s : Sight) (nodes : List Node) (answers : Answers) (p : Port) (k : ℕ) (x : Input) (a : Settled) → IsNoModule (node_at nodes p.node).what → port_met s nodes p ≡ met_at (node_met s nodes p.node) k → k < length (node_at nodes p.node).inputs → slice_get (node_at nodes p.node).inputs k ≡ Some x →
    KnownValued answers x (known.Settled a) → AnswerMet s nodes answers p (Some k) a
chosen_met s nodes answers p k x (settled.Value t) other_ h lt at v = record {
  modules = λ m w. absurd (other_ m w);
  others = λ other. (h, lt, λ y slot. subst (IsValued answers) (same_input (node_at nodes p.node).inputs k x y at slot) v);
}
chosen_met s nodes answers p k x settled.Off other_ h lt at v = tt
chosen_met s nodes answers p k x (settled.Halt n code) other_ h lt at v = tt

-- by none
pub alone_met : (s : Sight) (nodes : List Node) (answers : Answers) (p : Port) (t : ValueTag) → IsNoModule (node_at nodes p.node).what → port_met s nodes p ≡ [] → AnswerMet s nodes answers p None (settled.Value t)
alone_met s nodes answers p t other_ h = record { modules = λ m w. absurd (other_ m w); others = λ other. h }

-- by all its arguments
pub module_met : (s : Sight) (nodes : List Node) (answers : Answers) (p : Port) (m : Module) (from : Option ℕ) (t : ValueTag) → (node_at nodes p.node).what ≡ function.Module m → AreValued answers (node_at nodes p.node).inputs (length (node_at nodes p.node).inputs) → AnswerMet s nodes answers p from (settled.Value t)
module_met s nodes answers p m from t w v = record { modules = λ k e. v; others = λ other_. absurd (other_ m w) }

pub code_met : (nodes : List Node) (links : LinkMap) (terms : List Term) (s : Sight) → Holds links terms s → (p : Port) (v : Value) (c : Pick) →
    shown_pick (value_term (heads_of terms)) c ≡ pick (shelf_with (value_term (heads_of terms)) links) (node_at nodes p.node).what (node_at nodes p.node).place p.result v →
    port_met s nodes p ≡ picked_met (node_met s nodes p.node) (pick (terms_in s) (node_at nodes p.node).what (node_at nodes p.node).place p.result v) → port_met s nodes p ≡ picked_met (node_met s nodes p.node) (shown_pick (value_term (heads_of terms)) c)
code_met nodes links terms s holds p v c e h =
    let node = node_at nodes p.node in
    h ∙ ap (λ (shelf : plain.Shelf ValueTerm). picked_met (node_met s nodes p.node) (pick shelf node.what node.place p.result v)) (shelf_same links terms s holds) ∙ ap (picked_met (node_met s nodes p.node)) (sym e)
