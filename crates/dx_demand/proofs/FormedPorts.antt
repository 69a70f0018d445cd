-- What looking at a node's results forms, by its inputs.
use Rattle.std.proofs.Common.{◌≡◌, ℕ, zero, suc, ◌<◌, ◌≤◌, List, [], ◌∷◌, ◌++◌, length, Option, Some, None, refl, sym, ap, ap₂, ◌∙◌, subst, arith, append_assoc, append-nil}
use Rattle.std.specs.Prelude.{slice_get}
use Rattle.dx_base.specs.declared.function.Function.{Function}
use Rattle.dx_base.specs.declared.function.Function.TheVariants as function
use Rattle.dx_base.specs.declared.function.Module.{Module}
use Rattle.dx_base.specs.declared.function.Module.TheVariants as computing
use Rattle.dx_base.specs.declared.function.Effect.{Effect}
use Rattle.dx_macros.specs.Tree.{Place, ResultTree, CallTree}
use Rattle.dx_graph.specs.Graph.{Node, node_at, AreNodes}
use Rattle.dx_graph.specs.Unfolding.{tree_of, trees_of, calls_of}
use Rattle.dx_graph.specs.declared.node.Input.{Input}
use Rattle.dx_tags.specs.declared.term.ValueTag.{ValueTag}
use Rattle.dx_tags.specs.Closed.{ValueTerm, Head, value_term, value_terms}
use Rattle.dx_meaning.specs.Outcome.{Value}
use Rattle.dx_meaning.specs.Picking.{pick, selector_at, module_selector, IsSelecting}
use Rattle.dx_meaning.specs.Scan.{Sight, Stop, Scanned, Forms, Ends, all_scanned, written_for}
use Rattle.dx_meaning.specs.More.{More}
use Rattle.dx_meaning.specs.Forming.{Formed, Formings, null_forms, forms_at, forms_beside, all_forms, file_forms, call_formed, call_forms, called_forms, forms_in, picked_forms, valued_forms, told_forms, selected_forms, selector_forms, effect_forms, module_forms, rule_forms, forms, each_forms, after, FormsKeep, HasAll, Grows}
use Rattle.dx_meaning.proofs.Formed.{grows_itself, grows_then, all_grow, after_grows, after_has, all_append, next_same, part_same}
use Rattle.dx_meaning.proofs.FormsStaying.{EachFormsKeep, forms_at_keep, each_forms_keep, same_forms}
use Rattle.dx_meaning.proofs.Keeping.{each_keeps, at_keeps, forms_kept, same_file}
use Rattle.dx_demand.specs.Memo.{node_scans, input_scan, port_scan, selector_scan, input_at}
use Rattle.dx_demand.specs.Stack.{Leads, Begins}
use Rattle.dx_demand.specs.Steps.{IsPicking}
use Rattle.dx_demand.specs.Forming.{HasFront, calls_forms, input_part, pick_part, node_forms, input_forms, port_forms, selector_formed, first_forms, IsPart, Reaches, Toward}
use Rattle.dx_demand.specs.declared.settled.Port.{Port}
use Rattle.dx_demand.proofs.Ports.{call_unfolds, each_at, each_length, at_some, begins_stop, begins_all, begins_keeps}

pub port_formed : (s : Sight) (nodes : List Node) → AreNodes nodes → (p : Port) → p.node < length nodes →
    port_forms s nodes p ≡ rule_forms s (node_at nodes p.node).what (node_at nodes p.node).place p.result (node_scans s nodes p.node) (node_forms s nodes p.node)
port_formed s nodes a p h = ap (λ c. forms s (ResultTree p.result c)) (call_unfolds nodes a p.node h)

-- ---- inputs

pub forms_slot : (s : Sight) (cs : List CallTree) (is : List Input) (i : ℕ) (x : Input) → slice_get is i ≡ Some x → slice_get (each_forms s (trees_of cs is)) i ≡ Some (forms s (tree_of cs x))
forms_slot s cs [] i x e = cc
forms_slot s cs (first ∷ is) zero x e = let same : first ≡ x = cc in ap (λ y. Some (forms s (tree_of cs y))) same
forms_slot s cs (first ∷ is) (suc i) x e = forms_slot s cs is i x e

pub forms_long : (s : Sight) (cs : List CallTree) (is : List Input) → length (each_forms s (trees_of cs is)) ≡ length is
forms_long s cs [] = refl
forms_long s cs (first ∷ is) = ap suc (forms_long s cs is)

pub forms_some : (each : List (List Formed)) (n : ℕ) (fs : List Formed) → slice_get each n ≡ Some fs → forms_at each n ≡ fs
forms_some [] n fs e = cc
forms_some (gs ∷ each) zero fs e = cc
forms_some (gs ∷ each) (suc n) fs e = forms_some each n fs e

pub forms_past : (each : List (List Formed)) (n : ℕ) → length each ≤ n → forms_at each n ≡ null_forms
forms_past [] n h = refl
forms_past (fs ∷ each) zero h = absurd (omega (arith, h))
forms_past (fs ∷ each) (suc n) h = forms_past each n (omega (arith, h))

-- ---- the first inputs

first_push : (k : ℕ) (each : List (List Formed)) (fs : List Formed) → slice_get each k ≡ Some fs → first_forms (suc k) each ≡ first_forms k each ++ fs
first_push zero [] fs e = cc
first_push zero (gs ∷ each) fs e = (let same : gs ≡ fs = cc in append-nil gs ∙ same)
first_push (suc k) [] fs e = cc
first_push (suc k) (gs ∷ each) fs e = ap (λ xs. gs ++ xs) (first_push k each fs e) ∙ sym (append_assoc gs (first_forms k each) fs)

-- the arguments so far with one more
pub first_more : (was : Formings) (k : ℕ) (each : List (List Formed)) (fs : List Formed) → slice_get each k ≡ Some fs → HasAll was (first_forms k each) → HasAll was fs → HasAll was (first_forms (suc k) each)
first_more was k each fs e h f = subst (HasAll was) (sym (first_push k each fs e)) (all_append was (first_forms k each) fs h f)

-- the forms of the inputs that come to terms, then those of the next one
pub record Split (each : List (List Formed)) (x : Scanned ValueTerm) (fs all : List Formed) (k : ℕ) : Type 0 where
  pub rest : List Formed
  pub split : all ≡ first_forms k each ++ forms_beside x fs rest

pub all_split : (hs : List Head) (ss : List (Scanned ValueTerm)) (each : List (List Formed)) (ts : List ValueTag) (x : Scanned ValueTerm) (fs : List Formed) → Begins hs ss ts → slice_get ss (length ts) ≡ Some x → slice_get each (length ts) ≡ Some fs →
    Split each x fs (all_forms ss each) (length ts)
all_split hs [] each [] x fs b e f = cc
all_split hs (s ∷ ss) [] [] x fs b e f = cc
all_split hs (s ∷ ss) (gs ∷ each) [] x fs b e f =
    let one : s ≡ x = cc in
    let two : gs ≡ fs = cc in
    record { rest = all_forms ss each; split = ap₂ (λ (y : Scanned ValueTerm) (z : List Formed). forms_beside y z (all_forms ss each)) one two }
all_split hs [] each (t ∷ ts) x fs b e f = absurd b
all_split hs (s ∷ ss) [] (t ∷ ts) x fs b e f = cc
all_split hs (s ∷ ss) (gs ∷ each) (t ∷ ts) x fs b e f =
    let r = all_split hs ss each ts x fs b.1 e f in
    record {
      rest = r.rest;
      split = ap (λ y. forms_beside y gs (all_forms ss each)) b.0 ∙ ap (λ y. gs ++ y) r.split ∙ sym (append_assoc gs (first_forms (length ts) each) (forms_beside x fs r.rest));
    }

pub all_begun : (hs : List Head) (ss : List (Scanned ValueTerm)) (each : List (List Formed)) (ts : List ValueTag) → Begins hs ss ts → length ss ≡ length ts → length each ≡ length ts → all_forms ss each ≡ first_forms (length ts) each
all_begun hs [] each [] b e f = refl
all_begun hs (s ∷ ss) each [] b e f = absurd (omega (arith, e))
all_begun hs [] each (t ∷ ts) b e f = absurd b
all_begun hs (s ∷ ss) [] (t ∷ ts) b e f = absurd (omega (arith, f))
all_begun hs (s ∷ ss) (gs ∷ each) (t ∷ ts) b e f = ap (λ y. forms_beside y gs (all_forms ss each)) b.0 ∙ ap (λ y. gs ++ y) (all_begun hs ss each ts b.1 (omega (arith, e)) (omega (arith, f)))

-- the first inputs form the same as more is told
kept_term : (x : Scanned ValueTerm) (t : ValueTerm) (fs gs : List Formed) → x ≡ Forms t → FormsKeep x fs gs → gs ≡ fs
kept_term (Forms u) t fs gs e k = k
kept_term (Ends e') t fs gs e k = cc

pub first_keep : (hs : List Head) (ss : List (Scanned ValueTerm)) (each each' : List (List Formed)) (ts : List ValueTag) → Begins hs ss ts → EachFormsKeep ss each each' → first_forms (length ts) each' ≡ first_forms (length ts) each
first_keep hs ss each each' [] b k = refl
first_keep hs [] each each' (t ∷ ts) b k = absurd b
first_keep hs (s ∷ ss) [] [] (t ∷ ts) b k = refl
first_keep hs (s ∷ ss) [] (gs ∷ each') (t ∷ ts) b k = absurd k
first_keep hs (s ∷ ss) (fs ∷ each) [] (t ∷ ts) b k = absurd k
first_keep hs (s ∷ ss) (fs ∷ each) (gs ∷ each') (t ∷ ts) b k = ap₂ (λ (x y : List Formed). x ++ y) (kept_term s (value_term hs t) fs gs b.0 k.0) (first_keep hs ss each each' ts b.1 k.1)

-- ---- what is formed toward a list

pub toward_itself : (whole : List Formed) (was : Formings) → Toward whole was was
toward_itself whole was = record { grows = grows_itself was; same = refl }

pub toward_then : (whole : List Formed) (a b c : Formings) → Toward whole a b → Toward whole b c → Toward whole a c
toward_then whole a b c t u = record { grows = grows_then a b c t.grows u.grows; same = u.same ∙ t.same }

-- what comes next is formed
pub toward_next : (whole front next behind : List Formed) (was now : Formings) → whole ≡ front ++ (next ++ behind) → HasAll was front → now ≡ after next was → Toward whole was now
toward_next whole front next behind was now split there e = record {
  grows = subst (Grows was) (sym e) (after_grows next was);
  same = ap (after whole) e ∙ ap (λ w. after w (after next was)) split ∙ next_same was front next behind there ∙ sym (ap (λ w. after w was) split);
}

-- a part that is formed toward is so toward the whole
pub toward_part : (whole front part behind : List Formed) (was now : Formings) → whole ≡ front ++ (part ++ behind) → HasAll was front → Toward part was now → Toward whole was now
toward_part whole front part behind was now split there t = record {
  grows = t.grows;
  same = ap (λ w. after w now) split ∙ part_same was now t.grows front part behind there t.same ∙ sym (ap (λ w. after w was) split);
}

-- all of it is there
pub all_next : (whole front next : List Formed) (was now : Formings) → whole ≡ front ++ (next ++ []) → HasAll was front → now ≡ after next was → HasAll now whole
all_next whole front next was now split there e =
    let grows = subst (Grows was) (sym e) (after_grows next was) in
    subst (HasAll now) (sym split) (all_append now front (next ++ []) (all_grow was now grows front there) (all_append now next [] (subst (λ x. HasAll x next) (sym e) (after_has next was)) tt))

-- ---- parts

pub part_itself : (was : Formings) (x : Scanned ValueTerm) (fs : List Formed) → IsPart was x fs fs
part_itself was x fs = record { front = []; behind = []; split = sym (append-nil fs); there = tt; last = λ e h. refl }

pub part_grows : (was now : Formings) → Grows was now → (x : Scanned ValueTerm) (whole part : List Formed) → IsPart was x whole part → IsPart now x whole part
part_grows was now g x whole part p = record { front = p.front; behind = p.behind; split = p.split; there = all_grow was now g p.front p.there; last = p.last }

pub reaches_grow : (s : Sight) (nodes : List Node) (was now : Formings) → Grows was now → (root p : Port) → Reaches s nodes was root p → Reaches s nodes now root p
reaches_grow s nodes was now g root p r s' m = part_grows was now g (port_scan s' nodes p) (port_forms s' nodes root) (port_forms s' nodes p) (r s' m)

pub reaches_itself : (s : Sight) (nodes : List Node) (was : Formings) (p : Port) → Reaches s nodes was p p
reaches_itself s nodes was p s' m = part_itself was (port_scan s' nodes p) (port_forms s' nodes p)

part_then : (was : Formings) (x y : Scanned ValueTerm) (whole part small : List Formed) → ((e : Stop) → y ≡ Ends e → x ≡ Ends e) → IsPart was x whole part → IsPart was y part small → IsPart was y whole small
part_then was x y whole part small ends a b = record {
  front = a.front ++ b.front;
  behind = b.behind ++ a.behind;
  split = a.split ∙ ap (λ z. a.front ++ (z ++ a.behind)) b.split ∙ ap (λ z. a.front ++ z) (append_assoc b.front (small ++ b.behind) a.behind ∙ ap (λ z. b.front ++ z) (append_assoc small b.behind a.behind))
      ∙ sym (append_assoc a.front b.front (small ++ (b.behind ++ a.behind)));
  there = all_append was a.front b.front a.there b.there;
  last = λ e h. ap₂ (λ (u v : List Formed). u ++ v) (b.last e h) (a.last e (ends e h));
}

pub reaches_then : (s : Sight) (nodes : List Node) (was : Formings) (root p q : Port) → Reaches s nodes was root p → Leads s nodes p q → Reaches s nodes was p q → Reaches s nodes was root q
reaches_then s nodes was root p q a l b s' m =
    part_then was (port_scan s' nodes p) (port_scan s' nodes q) (port_forms s' nodes root) (port_forms s' nodes p) (port_forms s' nodes q) (λ e h. (l s' m e h).0) (a s' m) (b s' m)

-- ---- a call of a module

pub front_grows : (s : Sight) (nodes : List Node) (was now : Formings) → Grows was now → (p : Port) (part : Sight → List Formed) → HasFront s nodes was p part → HasFront s nodes now p part
front_grows s nodes was now g p part h = record { front = h.front; there = all_grow was now g h.front h.there; split = h.split }

more_self : (s : Sight) → More s s
more_self s = record { linked = refl; written = refl; told = λ u v e. e }

-- it takes one argument more
pub argument_next : (s : Sight) (nodes : List Node) (p : Port) (m : Module) (file : Option (List ℕ)) (was : Formings) (hs : List Head) (ts : List ValueTag) (x : Input) (t : ValueTerm) → HasFront s nodes was p (calls_forms nodes p m file) →
    HasAll was (first_forms (length ts) (node_forms s nodes p.node)) → Begins hs (node_scans s nodes p.node) ts → slice_get (node_at nodes p.node).inputs (length ts) ≡ Some x → input_scan s nodes x ≡ Forms t →
    (now : Formings) → now ≡ after (input_forms s nodes x) was → Toward (port_forms s nodes p) was now
argument_next s nodes p m file was hs ts x t h f b at is now e =
    let inputs = (node_at nodes p.node).inputs in
    let ss = node_scans s nodes p.node in
    let each = node_forms s nodes p.node in
    let own = input_forms s nodes x in
    let first = first_forms (length ts) each in
    let tail = call_forms (node_at nodes p.node).place m file (all_scanned ss) in
    let r = all_split hs ss each ts (Forms t) own b (each_at s (calls_of nodes) inputs (length ts) x at ∙ ap Some is) (forms_slot s (calls_of nodes) inputs (length ts) x at) in
    let split : port_forms s nodes p ≡ (h.front ++ first) ++ (own ++ (r.rest ++ tail)) =
    h.split s (more_self s) ∙ ap (λ z. h.front ++ (z ++ tail)) r.split
    ∙ ap (λ z. h.front ++ z) (append_assoc first (own ++ r.rest) tail ∙ ap (λ z. first ++ z) (append_assoc own r.rest tail))
    ∙ sym (append_assoc h.front first (own ++ (r.rest ++ tail))) in
    toward_next (port_forms s nodes p) (h.front ++ first) own (r.rest ++ tail) was now split (all_append was h.front first h.there f) e

-- it comes to no term
pub argument_ends : (s : Sight) (nodes : List Node) (p : Port) (m : Module) (file : Option (List ℕ)) (was : Formings) (hs : List Head) (ts : List ValueTag) (x : Input) (e : Stop) → HasFront s nodes was p (calls_forms nodes p m file) →
    HasAll was (first_forms (length ts) (node_forms s nodes p.node)) → Begins hs (node_scans s nodes p.node) ts → slice_get (node_at nodes p.node).inputs (length ts) ≡ Some x → input_scan s nodes x ≡ Ends e →
    (now : Formings) → now ≡ after (input_forms s nodes x) was → Toward (port_forms s nodes p) was now × HasAll now (port_forms s nodes p)
argument_ends s nodes p m file was hs ts x e h f b at is now eq =
    let inputs = (node_at nodes p.node).inputs in
    let ss = node_scans s nodes p.node in
    let each = node_forms s nodes p.node in
    let own = input_forms s nodes x in
    let first = first_forms (length ts) each in
    let place = (node_at nodes p.node).place in
    let here : slice_get ss (length ts) ≡ Some (Ends e) = each_at s (calls_of nodes) inputs (length ts) x at ∙ ap Some is in
    let r = all_split hs ss each ts (Ends e) own b here (forms_slot s (calls_of nodes) inputs (length ts) x at) in
    let none : call_forms place m file (all_scanned ss) ≡ [] = ap (call_forms place m file) (begins_stop hs ss ts e b here) in
    let split : port_forms s nodes p ≡ (h.front ++ first) ++ (own ++ []) =
    h.split s (more_self s) ∙ ap₂ (λ (y z : List Formed). h.front ++ (y ++ z)) r.split none
    ∙ ap (λ z. h.front ++ z) (append_assoc first own []) ∙ sym (append_assoc h.front first (own ++ [])) in
    let there = all_append was h.front first h.there f in
    (toward_next (port_forms s nodes p) (h.front ++ first) own [] was now split there eq, all_next (port_forms s nodes p) (h.front ++ first) own was now split there eq)

-- it waits for an argument
awaits_part : (was : Formings) (x : Scanned ValueTerm) (whole front first part rest tail all : List Formed) → whole ≡ front ++ (all ++ tail) → all ≡ first ++ forms_beside x part rest → HasAll was front → HasAll was first →
    ((e : Stop) → x ≡ Ends e → tail ≡ []) → IsPart was x whole part
awaits_part was (Forms t) whole front first part rest tail all split one there f none = record {
  front = front ++ first;
  behind = rest ++ tail;
  split = split ∙ ap (λ z. front ++ (z ++ tail)) one ∙ ap (λ z. front ++ z) (append_assoc first (part ++ rest) tail ∙ ap (λ z. first ++ z) (append_assoc part rest tail)) ∙ sym (append_assoc front first (part ++ (rest ++ tail)));
  there = all_append was front first there f;
  last = λ e h. cc;
}
awaits_part was (Ends e) whole front first part rest tail all split one there f none = record {
  front = front ++ first;
  behind = [];
  split = split ∙ ap₂ (λ (y z : List Formed). front ++ (y ++ z)) one (none e refl) ∙ ap (λ z. front ++ z) (append_assoc first part []) ∙ sym (append_assoc front first (part ++ []));
  there = all_append was front first there f;
  last = λ e' h. refl;
}

pub argument_awaits : (s : Sight) (nodes : List Node) (p : Port) (m : Module) (file : Option (List ℕ)) (was : Formings) (hs : List Head) (ts : List ValueTag) (q : Port) → HasFront s nodes was p (calls_forms nodes p m file) →
    HasAll was (first_forms (length ts) (node_forms s nodes p.node)) → Begins hs (node_scans s nodes p.node) ts → slice_get (node_at nodes p.node).inputs (length ts) ≡ Some (input_at q) → Reaches s nodes was p q
argument_awaits s nodes p m file was hs ts q h f b at s' more =
    let inputs = (node_at nodes p.node).inputs in
    let ss = node_scans s nodes p.node in
    let ss' = node_scans s' nodes p.node in
    let each = node_forms s nodes p.node in
    let each' = node_forms s' nodes p.node in
    let place = (node_at nodes p.node).place in
    let args = trees_of (calls_of nodes) inputs in
    let begun = begins_keeps hs ss ss' ts (each_keeps s s' more args) b in
    let here = each_at s' (calls_of nodes) inputs (length ts) (input_at q) at in
    let r = all_split hs ss' each' ts (port_scan s' nodes q) (port_forms s' nodes q) begun here (forms_slot s' (calls_of nodes) inputs (length ts) (input_at q) at) in
    awaits_part was (port_scan s' nodes q) (port_forms s' nodes p) h.front (first_forms (length ts) each) (port_forms s' nodes q) r.rest (call_forms place m file (all_scanned ss')) (all_forms ss' each')
    (h.split s' more) (r.split ∙ ap (λ z. z ++ forms_beside (port_scan s' nodes q) (port_forms s' nodes q) r.rest) (first_keep hs ss each each' ts b (each_forms_keep s s' more args))) h.there f
    (λ e ends. ap (call_forms place m file) (begins_stop hs ss' ts e begun (here ∙ ap Some ends)))

-- all its arguments are there
pub arguments_end : (s : Sight) (nodes : List Node) (p : Port) (m : Module) (file : Option (List ℕ)) (was : Formings) (hs : List Head) (ts : List ValueTag) → HasFront s nodes was p (calls_forms nodes p m file) →
    HasAll was (first_forms (length ts) (node_forms s nodes p.node)) → Begins hs (node_scans s nodes p.node) ts → length (node_at nodes p.node).inputs ≡ length ts →
    (now : Formings) → now ≡ after (file_forms file ++ call_formed (node_at nodes p.node).place m file (value_terms hs ts) ∷ []) was → Toward (port_forms s nodes p) was now × HasAll now (port_forms s nodes p)
arguments_end s nodes p m file was hs ts h f b long now e =
    let inputs = (node_at nodes p.node).inputs in
    let ss = node_scans s nodes p.node in
    let each = node_forms s nodes p.node in
    let first = first_forms (length ts) each in
    let place = (node_at nodes p.node).place in
    let own = file_forms file ++ call_formed place m file (value_terms hs ts) ∷ [] in
    let all = all_begun hs ss each ts b (each_length s (calls_of nodes) inputs ∙ long) (forms_long s (calls_of nodes) inputs ∙ long) in
    let is : call_forms place m file (all_scanned ss) ≡ own = ap (call_forms place m file) (begins_all hs ss ts b (let many = each_length s (calls_of nodes) inputs in omega (arith, many, long))) in
    let split : port_forms s nodes p ≡ (h.front ++ first) ++ (own ++ []) =
    h.split s (more_self s) ∙ ap₂ (λ (y z : List Formed). h.front ++ (y ++ z)) all is ∙ sym (append_assoc h.front first own) ∙ ap (λ z. (h.front ++ first) ++ z) (sym (append-nil own)) in
    let there = all_append was h.front first h.there f in
    (toward_next (port_forms s nodes p) (h.front ++ first) own [] was now split there e, all_next (port_forms s nodes p) (h.front ++ first) own was now split there e)

-- ---- a port that comes to what an input comes to

pub chosen_formed : (s : Sight) (nodes : List Node) (p : Port) (k : ℕ) (was now : Formings) → HasFront s nodes was p (input_part nodes p k) → (x : Input) → slice_get (node_at nodes p.node).inputs k ≡ Some x → now ≡ after (input_forms s nodes x) was →
    Toward (port_forms s nodes p) was now × HasAll now (port_forms s nodes p)
chosen_formed s nodes p k was now h x at e =
    let own = input_forms s nodes x in
    let split : port_forms s nodes p ≡ h.front ++ (own ++ []) =
    h.split s (more_self s) ∙ ap (λ z. h.front ++ z) (forms_some (node_forms s nodes p.node) k own (forms_slot s (calls_of nodes) (node_at nodes p.node).inputs k x at) ∙ sym (append-nil own)) in
    (toward_next (port_forms s nodes p) h.front own [] was now split h.there e, all_next (port_forms s nodes p) h.front own was now split h.there e)

pub chosen_null : (s : Sight) (nodes : List Node) (p : Port) (k : ℕ) (was now : Formings) → HasFront s nodes was p (input_part nodes p k) → length (node_at nodes p.node).inputs ≤ k → now ≡ after null_forms was →
    Toward (port_forms s nodes p) was now × HasAll now (port_forms s nodes p)
chosen_null s nodes p k was now h le e =
    let split : port_forms s nodes p ≡ h.front ++ (null_forms ++ []) =
    h.split s (more_self s) ∙ ap (λ z. h.front ++ z) (forms_past (node_forms s nodes p.node) k (let a = forms_long s (calls_of nodes) (node_at nodes p.node).inputs in omega (arith, le, a))) in
    (toward_next (port_forms s nodes p) h.front null_forms [] was now split h.there e, all_next (port_forms s nodes p) h.front null_forms was now split h.there e)

pub chosen_awaits : (s : Sight) (nodes : List Node) (p : Port) (k : ℕ) (was : Formings) → HasFront s nodes was p (input_part nodes p k) → (q : Port) → slice_get (node_at nodes p.node).inputs k ≡ Some (input_at q) → Reaches s nodes was p q
chosen_awaits s nodes p k was h q at s' more = record {
  front = h.front;
  behind = [];
  split = h.split s' more ∙ ap (λ z. h.front ++ z) (forms_some (node_forms s' nodes p.node) k (port_forms s' nodes q) (forms_slot s' (calls_of nodes) (node_at nodes p.node).inputs k (input_at q) at) ∙ sym (append-nil (port_forms s' nodes q)));
  there = h.there;
  last = λ e ends. refl;
}

-- ---- something that is picked at once

pub picked_formed : (s : Sight) (nodes : List Node) (p : Port) (part : Sight → List Formed) (was now : Formings) → HasFront s nodes was p part → (fs : List Formed) → part s ≡ fs → now ≡ after fs was → Toward (port_forms s nodes p) was now × HasAll now (port_forms s nodes p)
picked_formed s nodes p part was now h fs is e =
    let split : port_forms s nodes p ≡ h.front ++ (fs ++ []) = h.split s (more_self s) ∙ ap (λ z. h.front ++ z) (is ∙ sym (append-nil fs)) in
    (toward_next (port_forms s nodes p) h.front fs [] was now split h.there e, all_next (port_forms s nodes p) h.front fs was now split h.there e)

-- nothing comes before it
pub no_front : (s : Sight) (nodes : List Node) (was : Formings) (p : Port) (part : Sight → List Formed) → ((s' : Sight) → More s s' → port_forms s' nodes p ≡ part s') → HasFront s nodes was p part
no_front s nodes was p part h = record { front = []; there = tt; split = h }

-- ---- a call with a selector

selecting_module_forms : (s : Sight) (m : Module) (p : Place) (result : ℕ) (ss : List (Scanned ValueTerm)) (each : List (List Formed)) → IsSelecting (function.Module m) → module_forms s m p result ss each ≡ selector_forms s (function.Module m) p result ss each
selecting_module_forms s computing.Import p result ss each i = refl
selecting_module_forms s computing.Select p result ss each i = cc
selecting_module_forms s computing.Extract p result ss each i = cc
selecting_module_forms s computing.Replace p result ss each i = cc
selecting_module_forms s computing.Mark p result ss each i = cc
selecting_module_forms s computing.Unmark p result ss each i = cc
selecting_module_forms s computing.Slab p result ss each i = cc
selecting_module_forms s computing.Compute p result ss each i = cc
selecting_module_forms s computing.Statistics p result ss each i = cc
selecting_module_forms s computing.Histogram p result ss each i = cc
selecting_module_forms s computing.Collect p result ss each i = cc
selecting_module_forms s computing.CollectNamed p result ss each i = cc
selecting_module_forms s computing.CollectSeries p result ss each i = cc
selecting_module_forms s computing.Inquire p result ss each i = cc

selecting_forms : (s : Sight) (f : Function) (p : Place) (result : ℕ) (ss : List (Scanned ValueTerm)) (each : List (List Formed)) → IsSelecting f → rule_forms s f p result ss each ≡ selector_forms s f p result ss each
selecting_forms s function.Switch p result ss each i = refl
selecting_forms s function.Route p result ss each i = refl
selecting_forms s function.GetLocal p result ss each i = refl
selecting_forms s function.GetGlobal p result ss each i = refl
selecting_forms s (function.Module m) p result ss each i = selecting_module_forms s m p result ss each i
selecting_forms s (function.Effect e) p result ss each i = cc

-- the selector's are formed first
pub selector_first : (s : Sight) (nodes : List Node) → AreNodes nodes → (p : Port) → p.node < length nodes → IsSelecting (node_at nodes p.node).what →
    port_forms s nodes p ≡ selector_formed s nodes p.node ++ selected_forms s (node_at nodes p.node).what (node_at nodes p.node).place p.result (node_scans s nodes p.node) (node_forms s nodes p.node) (selector_scan s nodes p.node)
selector_first s nodes a p h i =
    let node = node_at nodes p.node in
    port_formed s nodes a p h ∙ selecting_forms s node.what node.place p.result (node_scans s nodes p.node) (node_forms s nodes p.node) i

selector_input : (s : Sight) (nodes : List Node) (n : ℕ) (x : Input) → slice_get (node_at nodes n).inputs (selector_at (node_at nodes n).what) ≡ Some x → selector_formed s nodes n ≡ input_forms s nodes x
selector_input s nodes n x at = forms_some (node_forms s nodes n) (selector_at (node_at nodes n).what) (input_forms s nodes x) (forms_slot s (calls_of nodes) (node_at nodes n).inputs (selector_at (node_at nodes n).what) x at)

pub selector_next : (s : Sight) (nodes : List Node) → AreNodes nodes → (p : Port) → p.node < length nodes → IsSelecting (node_at nodes p.node).what → (x : Input) → slice_get (node_at nodes p.node).inputs (selector_at (node_at nodes p.node).what) ≡ Some x →
    (was now : Formings) → now ≡ after (input_forms s nodes x) was → Toward (port_forms s nodes p) was now × HasAll now (selector_formed s nodes p.node)
selector_next s nodes a p h i x at was now e =
    let node = node_at nodes p.node in
    let own = selector_input s nodes p.node x at in
    let e' : now ≡ after (selector_formed s nodes p.node) was = e ∙ ap (λ z. after z was) (sym own) in
    let rest = selected_forms s node.what node.place p.result (node_scans s nodes p.node) (node_forms s nodes p.node) (selector_scan s nodes p.node) in
    (toward_next (port_forms s nodes p) [] (selector_formed s nodes p.node) rest was now (selector_first s nodes a p h i) tt e', subst (λ z. HasAll z (selector_formed s nodes p.node)) (sym e') (after_has (selector_formed s nodes p.node) was))

-- it comes to no term
pub selector_over : (s : Sight) (nodes : List Node) → AreNodes nodes → (p : Port) → p.node < length nodes → IsSelecting (node_at nodes p.node).what → (e : Stop) → selector_scan s nodes p.node ≡ Ends e → port_forms s nodes p ≡ selector_formed s nodes p.node
selector_over s nodes a p h i e ends =
    let node = node_at nodes p.node in
    selector_first s nodes a p h i ∙ ap (λ z. selector_formed s nodes p.node ++ selected_forms s node.what node.place p.result (node_scans s nodes p.node) (node_forms s nodes p.node) z) ends ∙ append-nil (selector_formed s nodes p.node)

pub selector_awaits : (s : Sight) (nodes : List Node) → AreNodes nodes → (p : Port) → p.node < length nodes → IsSelecting (node_at nodes p.node).what → (q : Port) → slice_get (node_at nodes p.node).inputs (selector_at (node_at nodes p.node).what) ≡ Some (input_at q) →
    (was : Formings) → Reaches s nodes was p q
selector_awaits s nodes a p h i q at was s' more =
    let node = node_at nodes p.node in
    let ss = node_scans s' nodes p.node in
    let each = node_forms s' nodes p.node in
    let scans : selector_scan s' nodes p.node ≡ port_scan s' nodes q = at_some ss (selector_at node.what) (port_scan s' nodes q) (each_at s' (calls_of nodes) node.inputs (selector_at node.what) (input_at q) at) in
    record {
      front = [];
      behind = selected_forms s' node.what node.place p.result ss each (port_scan s' nodes q);
      split = selector_first s' nodes a p h i ∙ ap₂ (λ (y : List Formed) (z : Scanned ValueTerm). y ++ selected_forms s' node.what node.place p.result ss each z) (selector_input s' nodes p.node (input_at q) at) scans;
      there = tt;
      last = λ e ends. ap (selected_forms s' node.what node.place p.result ss each) ends;
    }

-- its value isn't told
pub selector_untold : (s : Sight) (nodes : List Node) → AreNodes nodes → (p : Port) → p.node < length nodes → IsSelecting (node_at nodes p.node).what → (t : ValueTerm) → selector_scan s nodes p.node ≡ Forms t → s.told t ≡ None → port_forms s nodes p ≡ selector_formed s nodes p.node
selector_untold s nodes a p h i t e none =
    let node = node_at nodes p.node in
    let ss = node_scans s nodes p.node in
    let each = node_forms s nodes p.node in
    selector_first s nodes a p h i ∙ ap (λ z. selector_formed s nodes p.node ++ z) (ap (selected_forms s node.what node.place p.result ss each) e ∙ ap (told_forms s node.what node.place p.result ss each) none) ∙ append-nil (selector_formed s nodes p.node)

-- what its value comes to stands behind the selector's, also as more is told
selector_valued : (s : Sight) (nodes : List Node) → AreNodes nodes → (p : Port) → p.node < length nodes → IsSelecting (node_at nodes p.node).what → (t : ValueTerm) → selector_scan s nodes p.node ≡ Forms t → (v : Value) → s.told t ≡ Some v →
    (was : Formings) → HasAll was (selector_formed s nodes p.node) → HasFront s nodes was p (λ s'. valued_forms s' (node_at nodes p.node).what (node_at nodes p.node).place p.result (node_scans s' nodes p.node) (node_forms s' nodes p.node) v)
selector_valued s nodes a p h i t e v told was there = record {
  front = selector_formed s nodes p.node;
  there = there;
  split = λ s' more.
      let node = node_at nodes p.node in
      let ss' = node_scans s' nodes p.node in
      let each' = node_forms s' nodes p.node in
      let args = trees_of (calls_of nodes) node.inputs in
      let n = selector_at node.what in
      let kept : selector_scan s' nodes p.node ≡ Forms t = forms_kept (selector_scan s nodes p.node) (selector_scan s' nodes p.node) t (at_keeps (node_scans s nodes p.node) ss' (each_keeps s s' more args) n) e in
      let same : selector_formed s' nodes p.node ≡ selector_formed s nodes p.node = kept_term (selector_scan s nodes p.node) t (selector_formed s nodes p.node) (selector_formed s' nodes p.node) e (forms_at_keep (node_scans s nodes p.node) (node_forms s nodes p.node) each' (each_forms_keep s s' more args) n) in
      selector_first s' nodes a p h i ∙ ap₂ (λ (y z : List Formed). y ++ z) same (ap (selected_forms s' node.what node.place p.result ss' each') kept ∙ ap (told_forms s' node.what node.place p.result ss' each') (more.told t v told));
}

valued_picks : (s : Sight) (f : Function) (p : Place) (result : ℕ) (ss : List (Scanned ValueTerm)) (each : List (List Formed)) (v : Value) → IsPicking f → valued_forms s f p result ss each v ≡ picked_forms each (pick (forms_in s) f p result v)
valued_picks s function.Switch p result ss each v i = refl
valued_picks s function.Route p result ss each v i = refl
valued_picks s function.GetLocal p result ss each v i = refl
valued_picks s function.GetGlobal p result ss each v i = refl
valued_picks s (function.Module m) p result ss each v i = absurd i
valued_picks s (function.Effect e) p result ss each v i = absurd i

pub selector_picked : (s : Sight) (nodes : List Node) → AreNodes nodes → (p : Port) → p.node < length nodes → IsPicking (node_at nodes p.node).what → IsSelecting (node_at nodes p.node).what → (t : ValueTerm) → selector_scan s nodes p.node ≡ Forms t → (v : Value) → s.told t ≡ Some v →
    (was : Formings) → HasAll was (selector_formed s nodes p.node) → HasFront s nodes was p (pick_part nodes p (pick (forms_in s) (node_at nodes p.node).what (node_at nodes p.node).place p.result v))
selector_picked s nodes a p h k i t e v told was there =
    let node = node_at nodes p.node in
    let r = selector_valued s nodes a p h i t e v told was there in
    record {
      front = r.front;
      there = r.there;
      split = λ s' more. r.split s' more ∙ ap (λ z. r.front ++ z) (valued_picks s' node.what node.place p.result (node_scans s' nodes p.node) (node_forms s' nodes p.node) v k
          ∙ ap (λ x. picked_forms (node_forms s' nodes p.node) (pick x node.what node.place p.result v)) (same_forms s s' more));
    }

-- an Import whose name is told
pub named_formed : (s : Sight) (nodes : List Node) → AreNodes nodes → (p : Port) → p.node < length nodes → (m : Module) → (node_at nodes p.node).what ≡ function.Module m → IsSelecting (node_at nodes p.node).what →
    (t : ValueTerm) → selector_scan s nodes p.node ≡ Forms t → (v : Value) → s.told t ≡ Some v → (file : Option (List ℕ)) → file ≡ written_for s v → (was : Formings) → HasAll was (selector_formed s nodes p.node) → HasFront s nodes was p (calls_forms nodes p m file)
named_formed s nodes a p h m w i t e v told file same was there =
    let node = node_at nodes p.node in
    let r = selector_valued s nodes a p h i t e v told was there in
    record {
      front = r.front;
      there = r.there;
      split = λ s' more. r.split s' more ∙ ap (λ z. r.front ++ z) (ap (λ (f : Function). valued_forms s' f node.place p.result (node_scans s' nodes p.node) (node_forms s' nodes p.node) v) w
          ∙ ap (λ (x : Option (List ℕ)). called_forms node.place m x (node_scans s' nodes p.node) (node_forms s' nodes p.node)) (same_file s s' more v ∙ sym same));
    }

-- ---- a call that has no selector

unnamed_forms : (s : Sight) (m : Module) (p : Place) (result : ℕ) (ss : List (Scanned ValueTerm)) (each : List (List Formed)) → module_selector m ≡ None → module_forms s m p result ss each ≡ called_forms p m None ss each
unnamed_forms s computing.Import p result ss each e = cc
unnamed_forms s computing.Select p result ss each e = refl
unnamed_forms s computing.Extract p result ss each e = refl
unnamed_forms s computing.Replace p result ss each e = refl
unnamed_forms s computing.Mark p result ss each e = refl
unnamed_forms s computing.Unmark p result ss each e = refl
unnamed_forms s computing.Slab p result ss each e = refl
unnamed_forms s computing.Compute p result ss each e = refl
unnamed_forms s computing.Statistics p result ss each e = refl
unnamed_forms s computing.Histogram p result ss each e = refl
unnamed_forms s computing.Collect p result ss each e = refl
unnamed_forms s computing.CollectNamed p result ss each e = refl
unnamed_forms s computing.CollectSeries p result ss each e = refl
unnamed_forms s computing.Inquire p result ss each e = refl

pub unnamed_formed : (s : Sight) (nodes : List Node) → AreNodes nodes → (p : Port) → p.node < length nodes → (m : Module) → (node_at nodes p.node).what ≡ function.Module m → module_selector m ≡ None → (was : Formings) → HasFront s nodes was p (calls_forms nodes p m None)
unnamed_formed s nodes a p h m w e was = no_front s nodes was p (calls_forms nodes p m None) (λ s' more.
    let node = node_at nodes p.node in
    port_formed s' nodes a p h ∙ ap (λ (f : Function). rule_forms s' f node.place p.result (node_scans s' nodes p.node) (node_forms s' nodes p.node)) w ∙ unnamed_forms s' m node.place p.result (node_scans s' nodes p.node) (node_forms s' nodes p.node) e)

-- ---- the result of an effect

pub effect_formed : (s : Sight) (nodes : List Node) → AreNodes nodes → (p : Port) → p.node < length nodes → (e : Effect) → (node_at nodes p.node).what ≡ function.Effect e → port_forms s nodes p ≡ effect_forms e (node_forms s nodes p.node)
effect_formed s nodes a p h e w = port_formed s nodes a p h ∙ ap (λ (f : Function). rule_forms s f (node_at nodes p.node).place p.result (node_scans s nodes p.node) (node_forms s nodes p.node)) w
