-- What is found for a port is the first call of the term that its data meets.
use Rattle.std.proofs.Common.{◌≡◌, ◌⊎◌, ⊎_elim, inl, inr, ℕ, zero, suc, ◌+◌, ◌<◌, ◌≤◌, List, [], ◌∷◌, ◌++◌, length, Option, Some, None, Bool, true, false, refl, sym, ap, ap₂, ◌∙◌, subst, arith}
use Rattle.std.specs.Prelude.{slice_get, if◌then◌else◌, ◌==◌}
use Rattle.std.specs.Cmp.{unsigned_Decides}
use Rattle.dx_base.specs.declared.function.Function.{Function}
use Rattle.dx_base.specs.declared.function.Function.TheVariants as function
use Rattle.dx_base.specs.declared.function.Module.{Module}
use Rattle.dx_base.specs.declared.function.Module.TheVariants as computing
use Rattle.dx_ast.specs.Table.{row_of}
use Rattle.dx_macros.specs.Tree.{Place, CallTree}
use Rattle.dx_graph.specs.Graph.{Node, node_at, AreNodes, MayTake}
use Rattle.dx_graph.specs.Unfolding.{calls_of, tree_of, trees_of}
use Rattle.dx_graph.specs.declared.node.Input.{Input}
use Rattle.dx_graph.specs.declared.node.Input.TheVariants as input
use Rattle.dx_tags.specs.declared.term.Term.{Term}
use Rattle.dx_tags.specs.declared.term.ValueTag.{ValueTag}
use Rattle.dx_tags.specs.Closed.{ValueTerm, ValueTerms, ResultTerm, CallTerm, CallOf, Head, ConstantHead, HeldHead, CallHead, FileHead, head_at, heads_of, result_of_head, value_term}
use Rattle.dx_tags.proofs.ClosedTerms.{names_exactly}
use Rattle.dx_links.specs.Getting.{same_call}
use Rattle.dx_meaning.specs.Outcome.{Value}
use Rattle.dx_meaning.specs.Scan.{Sight, Scanned, Forms, Ends, all_scanned, with_file, scanned_at, call_scanned, written_for, told_scanned, selected, module_scanned, rule_scanned}
use Rattle.dx_meaning.specs.Met.{Called, all_met, arguments_met, own_met, met_rule, met, each_met, first_place}
use Rattle.dx_meaning.proofs.SameTerms.{same_test}
use Rattle.dx_demand.specs.Memo.{Answers, answers_of, same_port, port_scan, node_scans, shown, SettledFits}
use Rattle.dx_demand.specs.Forming.{IsCallTag, call_in}
use Rattle.dx_demand.specs.Calling.{node_met, input_met, port_met, HasValue, IsValued, AreValued, PassedMet, ValueMet, AnswerMet}
use Rattle.dx_demand.specs.Searching.{Calls, under, or_else, first_of, values_of, own_node, under_slot, passed_from, first_in, met_from, met_by, with_call, place_of, Ground, MetRight, AllMet, AllWithin}
use Rattle.dx_demand.specs.declared.settled.Port.{Port}
use Rattle.dx_demand.specs.declared.settled.Answer.{Answer}
use Rattle.dx_demand.specs.declared.settled.Settled.{Settled}
use Rattle.dx_demand.specs.declared.settled.Settled.TheVariants as settled
use Rattle.dx_demand.specs.declared.seen.Memo.{Memo}
use Rattle.dx_demand.proofs.Stacks.{port_itself, port_of}
use Rattle.dx_demand.proofs.FormedTerms.{same_tags}
use Rattle.dx_demand.proofs.Calls.{port_met_rule, met_slot}
use Rattle.dx_demand.proofs.Ports.{port_rule}
use Rattle.dx_demand.proofs.Taken.{takes}

abbrev or_place : Option Place → Option Place → Option Place
or_place (Some p) rest = Some p
or_place None rest = rest

behind_test : (b : Bool) (p : Place) (x y : Option Place) → (if b then Some p else or_place x y) ≡ or_place (if b then Some p else x) y
behind_test true p x y = refl
behind_test false p x y = refl

first_behind : (xs ys : List Called) (c : CallTerm) → first_place (xs ++ ys) c ≡ or_place (first_place xs c) (first_place ys c)
first_behind [] ys c = refl
first_behind (x ∷ xs) ys c = ap (λ o. if same_call x.call c then Some x.place else o) (first_behind xs ys c) ∙ behind_test (same_call x.call c) x.place (first_place xs c) (first_place ys c)

place_or : (nodes : List Node) (a b : Option ℕ) → place_of nodes (or_else a b) ≡ or_place (place_of nodes a) (place_of nodes b)
place_or nodes (Some n) b = refl
place_or nodes None b = refl

-- ---- inputs

under_right : (s : Sight) (nodes : List Node) (answers : Answers) (c : CallTerm) (n : ℕ) (f : Calls) → n < length nodes → AllMet s nodes answers c n f → (x : Input) → MayTake nodes n x → IsValued answers x → place_of nodes (under f x) ≡ first_place (input_met s nodes x) c
under_right s nodes answers c n f lt h (input.Constant k) may v = refl
under_right s nodes answers c n f lt h (input.Result m result) may v = h (record { node = m; result = result }) may.0 (let a = may.0 in omega (arith, a, lt), may.1) v

all_right : (s : Sight) (nodes : List Node) (f : Calls) (c : CallTerm) (cs : List CallTree) (is : List Input) → ((k : ℕ) (x : Input) → slice_get is k ≡ Some x → place_of nodes (under f x) ≡ first_place (met s (tree_of cs x)) c) → place_of nodes (first_of f is) ≡ first_place (all_met (each_met s (trees_of cs is))) c
all_right s nodes f c cs [] h = refl
all_right s nodes f c cs (i ∷ is) h =
    place_or nodes (under f i) (first_of f is) ∙ ap₂ or_place (h 0 i refl) (all_right s nodes f c cs is (λ k x at. h (suc k) x at))
    ∙ sym (first_behind (met s (tree_of cs i)) (all_met (each_met s (trees_of cs is))) c)

values_met : (s : Sight) (cs : List CallTree) (m : Module) (is : List Input) → arguments_met m (each_met s (trees_of cs is)) ≡ each_met s (trees_of cs (values_of m is))
values_met s cs computing.Import [] = refl
values_met s cs computing.Import (i ∷ is) = refl
values_met s cs computing.Select is = refl
values_met s cs computing.Extract is = refl
values_met s cs computing.Replace is = refl
values_met s cs computing.Mark is = refl
values_met s cs computing.Unmark is = refl
values_met s cs computing.Slab is = refl
values_met s cs computing.Compute is = refl
values_met s cs computing.Statistics is = refl
values_met s cs computing.Histogram is = refl
values_met s cs computing.Collect is = refl
values_met s cs computing.CollectNamed is = refl
values_met s cs computing.CollectSeries is = refl
values_met s cs computing.Inquire is = refl

values_slot : (m : Module) (is : List Input) (k : ℕ) (x : Input) → slice_get (values_of m is) k ≡ Some x → (j : ℕ) × (slice_get is j ≡ Some x)
values_slot computing.Import [] k x e = cc
values_slot computing.Import (i ∷ is) k x e = (suc k, e)
values_slot computing.Select is k x e = (k, e)
values_slot computing.Extract is k x e = (k, e)
values_slot computing.Replace is k x e = (k, e)
values_slot computing.Mark is k x e = (k, e)
values_slot computing.Unmark is k x e = (k, e)
values_slot computing.Slab is k x e = (k, e)
values_slot computing.Compute is k x e = (k, e)
values_slot computing.Statistics is k x e = (k, e)
values_slot computing.Histogram is k x e = (k, e)
values_slot computing.Collect is k x e = (k, e)
values_slot computing.CollectNamed is k x e = (k, e)
values_slot computing.CollectSeries is k x e = (k, e)
values_slot computing.Inquire is k x e = (k, e)

slot_less : (is : List Input) (k : ℕ) (x : Input) → slice_get is k ≡ Some x → k < length is
slot_less [] k x e = cc
slot_less (i ∷ is) zero x e = omega arith
slot_less (i ∷ is) (suc k) x e = (let r = slot_less is k x e in omega (arith, r))

-- ---- the own call

call_result : (m : Module) (file : Option (List ℕ)) (result : ℕ) (r : Scanned ValueTerms) (t : ValueTerm) → call_scanned m file result r ≡ Forms t → (c : CallTerm) × (t ≡ ResultTerm result c)
call_result m file result (Forms ts) t e = (CallOf m (with_file ts file), cc)
call_result m file result (Ends x) t e = cc

told_result : (s : Sight) (m : Module) (p : Place) (result : ℕ) (ss : List (Scanned ValueTerm)) (u : ValueTerm) (o : Option Value) (t : ValueTerm) → told_scanned s (function.Module m) p result ss u o ≡ Forms t → (c : CallTerm) × (t ≡ ResultTerm result c)
told_result s m p result ss u None t e = cc
told_result s m p result ss u (Some v) t e = call_result m (written_for s v) result (all_scanned ss) t e

named_result : (s : Sight) (m : Module) (p : Place) (result : ℕ) (ss : List (Scanned ValueTerm)) (x : Scanned ValueTerm) (t : ValueTerm) → selected s (function.Module m) p result ss x ≡ Forms t → (c : CallTerm) × (t ≡ ResultTerm result c)
named_result s m p result ss (Ends x) t e = cc
named_result s m p result ss (Forms u) t e = told_result s m p result ss u (s.told u) t e

module_result : (s : Sight) (m : Module) (p : Place) (result : ℕ) (ss : List (Scanned ValueTerm)) (t : ValueTerm) → module_scanned s m p result ss ≡ Forms t → (c : CallTerm) × (t ≡ ResultTerm result c)
module_result s computing.Import p result ss t e = named_result s computing.Import p result ss (scanned_at ss 0) t e
module_result s computing.Select p result ss t e = call_result computing.Select None result (all_scanned ss) t e
module_result s computing.Extract p result ss t e = call_result computing.Extract None result (all_scanned ss) t e
module_result s computing.Replace p result ss t e = call_result computing.Replace None result (all_scanned ss) t e
module_result s computing.Mark p result ss t e = call_result computing.Mark None result (all_scanned ss) t e
module_result s computing.Unmark p result ss t e = call_result computing.Unmark None result (all_scanned ss) t e
module_result s computing.Slab p result ss t e = call_result computing.Slab None result (all_scanned ss) t e
module_result s computing.Compute p result ss t e = call_result computing.Compute None result (all_scanned ss) t e
module_result s computing.Statistics p result ss t e = call_result computing.Statistics None result (all_scanned ss) t e
module_result s computing.Histogram p result ss t e = call_result computing.Histogram None result (all_scanned ss) t e
module_result s computing.Collect p result ss t e = call_result computing.Collect None result (all_scanned ss) t e
module_result s computing.CollectNamed p result ss t e = call_result computing.CollectNamed None result (all_scanned ss) t e
module_result s computing.CollectSeries p result ss t e = call_result computing.CollectSeries None result (all_scanned ss) t e
module_result s computing.Inquire p result ss t e = call_result computing.Inquire None result (all_scanned ss) t e

head_is_call : (h : Head) (r r' : ℕ) (c : CallTerm) → result_of_head h r ≡ ResultTerm r' c → h ≡ CallHead c
head_is_call (ConstantHead k) r r' c e = cc
head_is_call (HeldHead n) r r' c e = cc
head_is_call (CallHead d) r r' c e = cc
head_is_call (FileHead b) r r' c e = cc

own_place : (nodes : List Node) (n : ℕ) (b : Bool) → place_of nodes (if b then Some n else None) ≡ (if b then Some (node_at nodes n).place else None)
own_place nodes n true = refl
own_place nodes n false = refl

turned : (a b : ℕ) → (a == b) ≡ (b == a)
turned a b = same_test (a == b) (b == a) (λ q. (unsigned_Decides b a).1 (sym ((unsigned_Decides a b).0 q))) (λ q. (unsigned_Decides a b).1 (sym ((unsigned_Decides b a).0 q)))

-- its term is sought, or it isn't
own_right : (s : Sight) (nodes : List Node) (terms : List Term) (m : Memo) → Ground s nodes terms m → AreNodes nodes → (t : ℕ) (c : IsCallTag terms t) → (p : Port) → p.node < length nodes → (mo : Module) → (node_at nodes p.node).what ≡ function.Module mo → (a : Answer) (v : ValueTag) → answers_of m p ≡ Some a → a.settled ≡ settled.Value v →
    place_of nodes (own_node p.node t a.settled) ≡ first_place (own_met (node_at nodes p.node).place (port_scan s nodes p)) c.call
own_right s nodes terms m g a t c p lt mo w b v at is =
    let place = (node_at nodes p.node).place in
    let u = value_term (heads_of terms) v in
    let scan : port_scan s nodes p ≡ Forms u = g.right.answers p b at ∙ ap (shown nodes terms) is in
    let rule : module_scanned s mo place p.result (node_scans s nodes p.node) ≡ Forms u = sym (ap (λ (f : Function). rule_scanned s f place p.result (node_scans s nodes p.node)) w) ∙ sym (port_rule s nodes a p lt) ∙ scan in
    let r = module_result s mo place p.result (node_scans s nodes p.node) u rule in
    let head : head_at (heads_of terms) v.tag ≡ CallHead r.0 = head_is_call (head_at (heads_of terms) v.tag) v.result p.result r.0 r.1 in
    let fits = subst (SettledFits nodes terms) is (g.fits.answers p b at) in
    let own : IsCallTag terms v.tag = record { within = fits.fits.within; call = r.0; head = head } in
    let same : same_call r.0 c.call ≡ (v.tag == t) = ap (λ (x : CallTerm). same_call x c.call) (sym (ap call_in head)) ∙ same_tags terms (names_exactly terms g.exact.formed g.exact.distinct) v.tag t own c ∙ turned t v.tag in
    ap (λ (x : Settled). place_of nodes (own_node p.node t x)) is
    ∙ own_place nodes p.node (v.tag == t)
    ∙ ap (λ (b : Bool). if b then Some place else None) (sym same)
    ∙ sym (ap (λ (x : Scanned ValueTerm). first_place (own_met place x) c.call) (scan ∙ ap Forms r.1))

-- ---- a port

passed_right : (s : Sight) (nodes : List Node) (answers : Answers) → AreNodes nodes → (c : CallTerm) (p : Port) (f : Calls) → p.node < length nodes → AllMet s nodes answers c p.node f → (from : Option ℕ) → PassedMet s nodes answers p from →
    place_of nodes (passed_from f (node_at nodes p.node).inputs from) ≡ first_place (port_met s nodes p) c
passed_right s nodes answers a c p f lt h None e = sym (ap (λ xs. first_place xs c) e)
passed_right s nodes answers a c p f lt h (Some k) e = slotted (slice_get (node_at nodes p.node).inputs k) refl
  where
    within : (is : List Input) (k : ℕ) → k < length is → slice_get is k ≡ None → ⊥
    within [] k l e = absurd (omega (arith, l))
    within (i ∷ is) zero l e = cc
    within (i ∷ is) (suc k) l e = within is k (omega (arith, l)) e

    slotted : (o : Option Input) → slice_get (node_at nodes p.node).inputs k ≡ o → place_of nodes (under_slot f o) ≡ first_place (port_met s nodes p) c
    slotted None at = absurd (within (node_at nodes p.node).inputs k e.1 at)
    slotted (Some x) at =
        under_right s nodes answers c p.node f lt h x (takes nodes a p.node lt k x at) (e.2 x at)
        ∙ ap (λ xs. first_place xs c) (sym (e.0 ∙ met_slot s nodes p.node k x at))

module_right : (s : Sight) (nodes : List Node) (terms : List Term) (m : Memo) → Ground s nodes terms m → AreNodes nodes → (t : ℕ) (c : IsCallTag terms t) → (p : Port) → p.node < length nodes → (f : Calls) → AllMet s nodes (answers_of m) c.call p.node f → (mo : Module) → (node_at nodes p.node).what ≡ function.Module mo → (a : Answer) (v : ValueTag) → answers_of m p ≡ Some a → a.settled ≡ settled.Value v →
    AreValued (answers_of m) (node_at nodes p.node).inputs (length (node_at nodes p.node).inputs) → place_of nodes (or_else (first_of f (values_of mo (node_at nodes p.node).inputs)) (own_node p.node t a.settled)) ≡ first_place (port_met s nodes p) c.call
module_right s nodes terms m g a t c p lt f h mo w b v at is valued =
    let inputs = (node_at nodes p.node).inputs in
    let place = (node_at nodes p.node).place in
    let each = node_met s nodes p.node in
    let ss = node_scans s nodes p.node in
    let args = all_right s nodes f c.call (calls_of nodes) (values_of mo inputs) (λ k x e.
    let j = values_slot mo inputs k x e in
    under_right s nodes (answers_of m) c.call p.node f lt h x (takes nodes a p.node lt j.0 x j.1) (valued j.0 x (slot_less inputs j.0 x j.1) j.1)) in
    let rule : port_met s nodes p ≡ all_met (arguments_met mo each) ++ own_met place (port_scan s nodes p) =
    port_met_rule s nodes a p lt ∙ ap (λ (x : Function). met_rule s x place p.result ss each) w
    ∙ ap (λ x. all_met (arguments_met mo each) ++ own_met place x) (sym (ap (λ (x : Function). rule_scanned s x place p.result ss) w) ∙ sym (port_rule s nodes a p lt)) in
    place_or nodes (first_of f (values_of mo inputs)) (own_node p.node t b.settled)
    ∙ ap₂ or_place (args ∙ ap (λ xs. first_place (all_met xs) c.call) (sym (values_met s (calls_of nodes) mo inputs))) (own_right s nodes terms m g a t c p lt mo w b v at is)
    ∙ sym (first_behind (all_met (arguments_met mo each)) (own_met place (port_scan s nodes p)) c.call)
    ∙ ap (λ xs. first_place xs c.call) (sym rule)

pub port_right : (s : Sight) (nodes : List Node) (terms : List Term) (m : Memo) → Ground s nodes terms m → AreNodes nodes → (t : ℕ) (c : IsCallTag terms t) → (p : Port) → p.node < length nodes → (f : Calls) → AllMet s nodes (answers_of m) c.call p.node f → HasValue (answers_of m) p →
    place_of nodes (met_by nodes (answers_of m) t p f) ≡ first_place (port_met s nodes p) c.call
port_right s nodes terms m g a t c p lt f h v =
    let b = v.answer in
    let own : ValueMet s nodes (answers_of m) p b.input = subst (AnswerMet s nodes (answers_of m) p b.input) v.is (g.met p b v.at) in
    ap (λ o. place_of nodes (met_from nodes f t p o)) v.at ∙ by_kind (node_at nodes p.node).what refl own
  where
    by_kind : (x : Function) → (node_at nodes p.node).what ≡ x → ValueMet s nodes (answers_of m) p v.answer.input → place_of nodes (first_in f t p v.answer (node_at nodes p.node).inputs (node_at nodes p.node).what) ≡ first_place (port_met s nodes p) c.call
    by_kind (function.Module mo) w own = ap (λ (x : Function). place_of nodes (first_in f t p v.answer (node_at nodes p.node).inputs x)) w ∙ module_right s nodes terms m g a t c p lt f h mo w v.answer v.tag v.at v.is (own.modules mo w)
    by_kind (function.Effect e) w own = ap (λ (x : Function). place_of nodes (first_in f t p v.answer (node_at nodes p.node).inputs x)) w ∙ passed_right s nodes (answers_of m) a c.call p f lt h v.answer.input (own.others (λ mo k. (let both : function.Effect e ≡ function.Module mo = sym w ∙ k in cc)))
    by_kind function.Switch w own = ap (λ (x : Function). place_of nodes (first_in f t p v.answer (node_at nodes p.node).inputs x)) w ∙ passed_right s nodes (answers_of m) a c.call p f lt h v.answer.input (own.others (λ mo k. (let both : function.Switch ≡ function.Module mo = sym w ∙ k in cc)))
    by_kind function.Route w own = ap (λ (x : Function). place_of nodes (first_in f t p v.answer (node_at nodes p.node).inputs x)) w ∙ passed_right s nodes (answers_of m) a c.call p f lt h v.answer.input (own.others (λ mo k. (let both : function.Route ≡ function.Module mo = sym w ∙ k in cc)))
    by_kind function.GetLocal w own = ap (λ (x : Function). place_of nodes (first_in f t p v.answer (node_at nodes p.node).inputs x)) w ∙ passed_right s nodes (answers_of m) a c.call p f lt h v.answer.input (own.others (λ mo k. (let both : function.GetLocal ≡ function.Module mo = sym w ∙ k in cc)))
    by_kind function.GetGlobal w own = ap (λ (x : Function). place_of nodes (first_in f t p v.answer (node_at nodes p.node).inputs x)) w ∙ passed_right s nodes (answers_of m) a c.call p f lt h v.answer.input (own.others (λ mo k. (let both : function.GetGlobal ≡ function.Module mo = sym w ∙ k in cc)))

-- ---- one port more

call_here : (f : Calls) (p : Port) (o : Option ℕ) → f p ≡ None → with_call f p o p ≡ o
call_here f p None e = e
call_here f p (Some n) e = rw (port_itself p) refl

call_there : (f : Calls) (p : Port) (o : Option ℕ) (q : Port) → ¬ (p ≡ q) → with_call f p o q ≡ f q
call_there f p None q other_ = refl
call_there f p (Some n) q other_ = by_test (same_port p q) refl
  where
    by_test : (b : Bool) → same_port p q ≡ b → (if same_port p q then Some n else f q) ≡ f q
    by_test true e = absurd (other_ (port_of p q e))
    by_test false e = rw e refl

-- those before it stay
pub before_stays : (s : Sight) (nodes : List Node) (answers : Answers) (c : CallTerm) (n : ℕ) (f : Calls) (p : Port) (o : Option ℕ) → n ≤ p.node → AllMet s nodes answers c n f → AllMet s nodes answers c n (with_call f p o)
before_stays s nodes answers c n f p o le h q lt port v =
    ap (place_of nodes) (call_there f p o q (λ e. (let same = ap (λ (x : Port). x.node) e in omega (arith, same, le, lt)))) ∙ h q lt port v

pub same_stays : (s : Sight) (nodes : List Node) (answers : Answers) (c : CallTerm) (f : Calls) (p : Port) (o : Option ℕ) (q : Port) → ¬ (p ≡ q) → MetRight s nodes answers c f q → MetRight s nodes answers c (with_call f p o) q
same_stays s nodes answers c f p o q other_ h port v = ap (place_of nodes) (call_there f p o q other_) ∙ h port v

pub fresh_stays : (f : Calls) (p : Port) (o : Option ℕ) (q : Port) → ¬ (p ≡ q) → f q ≡ None → with_call f p o q ≡ None
fresh_stays f p o q other_ e = call_there f p o q other_ ∙ e

pub own_met_right : (s : Sight) (nodes : List Node) (terms : List Term) (m : Memo) → Ground s nodes terms m → AreNodes nodes → (t : ℕ) (c : IsCallTag terms t) → (p : Port) → p.node < length nodes → (f : Calls) → AllMet s nodes (answers_of m) c.call p.node f → f p ≡ None →
    MetRight s nodes (answers_of m) c.call (with_call f p (met_by nodes (answers_of m) t p f)) p
own_met_right s nodes terms m g a t c p lt f h fresh port v =
    ap (place_of nodes) (call_here f p (met_by nodes (answers_of m) t p f) fresh) ∙ port_right s nodes terms m g a t c p lt f h v

-- ---- the results of a node

abbrev pub Others : ℕ → ℕ → Port → Type 0
Others n r q = (n < q.node) ⊎ ((q.node ≡ n) × (r ≤ q.result))

abbrev pub RowMet : Sight → List Node → Answers → CallTerm → ℕ → ℕ → Calls → Type 0
RowMet s nodes answers c n r f = (q : Port) → q.node ≡ n → q.result < r → MetRight s nodes answers c f q

abbrev pub RowFresh : ℕ → ℕ → Calls → Type 0
RowFresh n r f = (q : Port) → Others n r q → f q ≡ None

port_with : (n r : ℕ) (q : Port) → q.node ≡ n → q.result ≡ r → record { node = n; result = r } ≡ q
port_with n r q e f = λ i. record { node = sym e i; result = sym f i }

less_case : (k n : ℕ) → k < suc n → (k < n) ⊎ (k ≡ n)
less_case zero zero h = inr refl
less_case zero (suc n) h = inl (omega arith)
less_case (suc k) zero h = absurd (omega (arith, h))
less_case (suc k) (suc n) h = ⊎_elim (λ l. inl (omega (arith, l))) (λ e. inr (ap suc e)) (less_case k n (omega (arith, h)))

pub row_met : (s : Sight) (nodes : List Node) (terms : List Term) (m : Memo) → Ground s nodes terms m → AreNodes nodes → (t : ℕ) (c : IsCallTag terms t) → (n r : ℕ) → n < length nodes → (f f' : Calls) → f' ≡ with_call f (record { node = n; result = r }) (met_by nodes (answers_of m) t (record { node = n; result = r }) f) → AllMet s nodes (answers_of m) c.call n f → RowFresh n r f → RowMet s nodes (answers_of m) c.call n r f →
    RowMet s nodes (answers_of m) c.call n (r + 1) f'
row_met s nodes terms m g a t c n r lt f f' e all fresh row q node less =
    let p : Port = record { node = n; result = r } in
    let o = met_by nodes (answers_of m) t p f in
    subst (λ (x : Calls). MetRight s nodes (answers_of m) c.call x q) (sym e) (⊎_elim
    (λ l. same_stays s nodes (answers_of m) c.call f p o q (λ same. (let k = ap (λ (x : Port). x.result) same in omega (arith, k, l))) (row q node l))
    (λ k. subst (λ (y : Port). MetRight s nodes (answers_of m) c.call (with_call f p o) y) (port_with n r q node k) (own_met_right s nodes terms m g a t c p lt f all (fresh p (inr (refl, omega arith)))))
    (less_case q.result r (omega (arith, less))))

pub row_fresh : (n r : ℕ) (f f' : Calls) (o : Option ℕ) → f' ≡ with_call f (record { node = n; result = r }) o → RowFresh n r f → RowFresh n (r + 1) f'
row_fresh n r f f' o e fresh q others =
    let p : Port = record { node = n; result = r } in
    subst (λ (x : Calls). x q ≡ None) (sym e) (fresh_stays f p o q
    (λ same. ⊎_elim (λ l. (let k = ap (λ (x : Port). x.node) same in omega (arith, k, l))) (λ l. (let k = ap (λ (x : Port). x.result) same in let le = l.1 in omega (arith, k, le))) others)
    (fresh q (⊎_elim (λ l. inl l) (λ l. inr (l.0, (let le = l.1 in omega (arith, le)))) others)))

pub rows_met : (s : Sight) (nodes : List Node) (answers : Answers) (c : CallTerm) (n r : ℕ) (f : Calls) → r ≡ (row_of (node_at nodes n).what).results → AllMet s nodes answers c n f → RowMet s nodes answers c n r f → AllMet s nodes answers c (n + 1) f
rows_met s nodes answers c n r f e all row q lt port v = ⊎_elim
    (λ l. all q l port v)
    (λ same. row q same (let within : q.result < (row_of (node_at nodes n).what).results = subst (λ (k : ℕ). q.result < (row_of (node_at nodes k).what).results) same port.1 in omega (arith, within, e)) port v)
    (less_case q.node n (omega (arith, lt)))

-- ---- each is one of the nodes

pub under_within : (count : ℕ) (f : Calls) → AllWithin count f → (i : Input) (n : ℕ) → under f i ≡ Some n → n < count
under_within count f h (input.Constant c) n e = cc
under_within count f h (input.Result k result) n e = h (record { node = k; result = result }) n e

or_within : (count : ℕ) (a b : Option ℕ) → ((n : ℕ) → a ≡ Some n → n < count) → ((n : ℕ) → b ≡ Some n → n < count) → (n : ℕ) → or_else a b ≡ Some n → n < count
or_within count (Some k) b f g n e = f n e
or_within count None b f g n e = g n e

first_within : (count : ℕ) (f : Calls) → AllWithin count f → (is : List Input) (n : ℕ) → first_of f is ≡ Some n → n < count
first_within count f h [] n e = cc
first_within count f h (i ∷ is) n e = or_within count (under f i) (first_of f is) (under_within count f h i) (first_within count f h is) n e

own_within : (count k t : ℕ) (x : Settled) → k < count → (n : ℕ) → own_node k t x ≡ Some n → n < count
own_within count k t (settled.Value v) lt n e = by_test (v.tag == t) e
  where
    by_test : (b : Bool) → (if b then Some k else None) ≡ Some n → n < count
    by_test true is = (let same : k ≡ n = cc in omega (arith, same, lt))
    by_test false is = cc
own_within count k t settled.Off lt n e = cc
own_within count k t (settled.Halt m code) lt n e = cc

slot_within : (count : ℕ) (f : Calls) → AllWithin count f → (o : Option Input) (n : ℕ) → under_slot f o ≡ Some n → n < count
slot_within count f h (Some i) n e = under_within count f h i n e
slot_within count f h None n e = cc

passed_within : (count : ℕ) (f : Calls) → AllWithin count f → (is : List Input) (from : Option ℕ) (n : ℕ) → passed_from f is from ≡ Some n → n < count
passed_within count f h is (Some k) n e = slot_within count f h (slice_get is k) n e
passed_within count f h is None n e = cc

kind_within : (count : ℕ) (f : Calls) (t : ℕ) (p : Port) (a : Answer) (is : List Input) (x : Function) → AllWithin count f → p.node < count → (n : ℕ) → first_in f t p a is x ≡ Some n → n < count
kind_within count f t p a is (function.Module m) h lt n e = or_within count (first_of f (values_of m is)) (own_node p.node t a.settled) (first_within count f h (values_of m is)) (own_within count p.node t a.settled lt) n e
kind_within count f t p a is (function.Effect k) h lt n e = passed_within count f h is a.input n e
kind_within count f t p a is function.Switch h lt n e = passed_within count f h is a.input n e
kind_within count f t p a is function.Route h lt n e = passed_within count f h is a.input n e
kind_within count f t p a is function.GetLocal h lt n e = passed_within count f h is a.input n e
kind_within count f t p a is function.GetGlobal h lt n e = passed_within count f h is a.input n e

from_within : (nodes : List Node) (count : ℕ) (f : Calls) (t : ℕ) (p : Port) (o : Option Answer) → AllWithin count f → p.node < count → (n : ℕ) → met_from nodes f t p o ≡ Some n → n < count
from_within nodes count f t p (Some a) h lt n e = kind_within count f t p a (node_at nodes p.node).inputs (node_at nodes p.node).what h lt n e
from_within nodes count f t p None h lt n e = cc

put_within : (count : ℕ) (f : Calls) (p : Port) (o : Option ℕ) → AllWithin count f → ((n : ℕ) → o ≡ Some n → n < count) → AllWithin count (with_call f p o)
put_within count f p None h g q n e = h q n e
put_within count f p (Some m) h g q n e = by_test (same_port p q) e
  where
    by_test : (b : Bool) → (if b then Some m else f q) ≡ Some n → n < count
    by_test true is = g n is
    by_test false is = h q n is

pub call_within : (nodes : List Node) (answers : Answers) (t : ℕ) (p : Port) (count : ℕ) (f : Calls) → AllWithin count f → p.node < count → AllWithin count (with_call f p (met_by nodes answers t p f))
call_within nodes answers t p count f h lt = put_within count f p (met_by nodes answers t p f) h (from_within nodes count f t p (answers p) h lt)
