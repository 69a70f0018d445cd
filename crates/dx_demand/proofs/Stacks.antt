-- Frames that are put on and taken off.
use Rattle.dx_demand.proofs.Terms.{no_arguments}
use Rattle.std.proofs.Common.{◌≡◌, ◌⊎◌, ⊎_elim, inl, inr, ℕ, zero, suc, ◌+◌, ◌<◌, ◌≤◌, List, [], ◌∷◌, ◌++◌, Option, Some, None, Bool, true, false, refl, sym, ap, ◌∙◌, subst, arith}
use Rattle.std.specs.Prelude.{if◌then◌else◌, ◌==◌, ◌&&◌}
use Rattle.std.specs.Cmp.{unsigned_Decides, first_so, second_so}
use Rattle.std.proofs.Common.{true≢false}
use Rattle.dx_graph.specs.Graph.{Node}
use Rattle.dx_tags.specs.declared.term.Term.{Term}
use Rattle.dx_meaning.specs.Scan.{Sight}
use Rattle.dx_demand.specs.Memo.{Answers, KeepsAnswers, same_port, with_answer, IsPort}
use Rattle.dx_demand.specs.Stack.{fresh, bottom, Opens, FrameFits, AllBelow, StackFits, Leads, FrameRight, StackRight}
use Rattle.dx_demand.specs.Steps.{LeftRight}
use Rattle.dx_demand.specs.declared.settled.Port.{Port}
use Rattle.dx_demand.specs.declared.settled.Answer.{Answer}
use Rattle.dx_demand.specs.declared.seen.Frame.{Frame}

-- ---- ports

pub port_of : (p q : Port) → same_port p q ≡ true → p ≡ q
port_of p q h = λ i. record { node = (unsigned_Decides p.node q.node).0 (first_so (p.node == q.node) (p.result == q.result) h) i; result = (unsigned_Decides p.result q.result).0 (second_so (p.node == q.node) (p.result == q.result) h) i }

both_true : (a b : Bool) → a ≡ true → b ≡ true → (a && b) ≡ true
both_true a b e f = rw (e, f) refl

pub port_itself : (p : Port) → same_port p p ≡ true
port_itself p = both_true (p.node == p.node) (p.result == p.result) ((unsigned_Decides p.node p.node).1 refl) ((unsigned_Decides p.result p.result).1 refl)

cases : {P : Type 0} (b : Bool) → (b ≡ true → P) → (b ≡ false → P) → P
cases true f g = f refl
cases false f g = g refl

pub other_port : (p q : Port) → ¬ (p.node ≡ q.node) → same_port p q ≡ false
other_port p q n = cases (same_port p q) (λ h. absurd (n (ap (λ (x : Port). x.node) (port_of p q h)))) (λ h. h)

-- a port that is settled
pub answer_put : (answers : Answers) (p : Port) (a : Answer) (q : Port) (b : Answer) → with_answer answers p a q ≡ Some b → ((p ≡ q) × (a ≡ b)) ⊎ (answers q ≡ Some b)
answer_put answers p a q b = go (same_port p q) refl
  where
    go : (c : Bool) → same_port p q ≡ c → (if c then Some a else answers q) ≡ Some b → ((p ≡ q) × (a ≡ b)) ⊎ (answers q ≡ Some b)
    go true e h = inl (port_of p q e, cc)
    go false e h = inr h

pub answer_here : (answers : Answers) (p : Port) (a : Answer) → with_answer answers p a p ≡ Some a
answer_here answers p a = rw (port_itself p) refl

pub answer_other : (answers : Answers) (p : Port) (a : Answer) (q : Port) → ¬ (p.node ≡ q.node) → with_answer answers p a q ≡ answers q
answer_other answers p a q n = rw (other_port p q n) refl

-- where a port that wasn't settled is, the others stay
pub answer_kept : (answers : Answers) (p : Port) (a : Answer) → answers p ≡ None → KeepsAnswers answers (with_answer answers p a)
answer_kept answers p a none q b at = go (same_port p q) refl
  where
    go : (c : Bool) → same_port p q ≡ c → (if c then Some a else answers q) ≡ Some b
    go true e = (let here : None ≡ Some b = sym none ∙ ap answers (port_of p q e) ∙ at in cc)
    go false e = at

-- ---- what fits

-- each stands for a later node
abbrev pub AllAbove : ℕ → List Frame → Type 0
AllAbove n [] = Unit {0}
AllAbove n (f ∷ fs) = (n < f.port.node) × AllAbove n fs

pub above_less : (m n : ℕ) → m ≤ n → (fs : List Frame) → AllAbove n fs → AllAbove m fs
above_less m n le [] h = tt
above_less m n le (f ∷ fs) h = (omega (arith, le, h.0), above_less m n le fs h.1)

pub above_push : (n : ℕ) (fs : List Frame) (f : Frame) → AllAbove n fs → n < f.port.node → AllAbove n (fs ++ f ∷ [])
above_push n [] f h lt = (lt, tt)
above_push n (g ∷ fs) f h lt = (h.0, above_push n fs f h.1 lt)

below_push : (n : ℕ) (fs : List Frame) (f : Frame) → AllBelow n fs → f.port.node < n → AllBelow n (fs ++ f ∷ [])
below_push n [] f h lt = (lt, tt)
below_push n (g ∷ fs) f h lt = (h.0, below_push n fs f h.1 lt)

below_front : (n : ℕ) (fs : List Frame) (f : Frame) → AllBelow n (fs ++ f ∷ []) → AllBelow n fs × (f.port.node < n)
below_front n [] f h = (tt, h.0)
below_front n (g ∷ fs) f h = let rest = below_front n fs f h.1 in ((h.0, rest.0), rest.1)

pub record Top (nodes : List Node) (terms : List Term) (answers : Answers) (fs : List Frame) (top : Frame) : Type 0 where
  pub rest : StackFits nodes terms answers fs
  pub fits : FrameFits nodes terms top
  pub open_ : answers top.port ≡ None
  pub above : AllAbove top.port.node fs

pub stack_split : (nodes : List Node) (terms : List Term) (answers : Answers) (fs : List Frame) (top : Frame) → StackFits nodes terms answers (fs ++ top ∷ []) → Top nodes terms answers fs top
stack_split nodes terms answers [] top h = record { rest = tt; fits = h.0.0; open_ = h.0.1; above = tt }
stack_split nodes terms answers (f ∷ fs) top h =
    let t = stack_split nodes terms answers fs top h.1 in
    let b = below_front f.port.node fs top h.0.2 in
    record { rest = ((h.0.0, h.0.1, b.0), t.rest); fits = t.fits; open_ = t.open_; above = (b.1, t.above) }

pub stack_join : (nodes : List Node) (terms : List Term) (answers : Answers) (fs : List Frame) (top : Frame) → Top nodes terms answers fs top → StackFits nodes terms answers (fs ++ top ∷ [])
stack_join nodes terms answers [] top t = ((t.fits, t.open_, tt), tt)
stack_join nodes terms answers (f ∷ fs) top t =
    ((t.rest.0.0, t.rest.0.1, below_push f.port.node fs top t.rest.0.2 t.above.0), stack_join nodes terms answers fs top (record { rest = t.rest.1; fits = t.fits; open_ = t.open_; above = t.above.1 }))

pub stack_settle : (nodes : List Node) (terms : List Term) (answers : Answers) (p : Port) (a : Answer) (fs : List Frame) → AllAbove p.node fs → StackFits nodes terms answers fs → StackFits nodes terms (with_answer answers p a) fs
stack_settle nodes terms answers p a [] ab h = tt
stack_settle nodes terms answers p a (f ∷ fs) ab h =
    let less = ab.0 in
    let n : ¬ (p.node ≡ f.port.node) = λ e. omega (arith, e, less) in
    ((h.0.0, answer_other answers p a f.port n ∙ h.0.1, h.0.2), stack_settle nodes terms answers p a fs ab.1 h.1)

-- ---- what is right

pub leads_itself : (s : Sight) (nodes : List Node) (p : Port) → Leads s nodes p p
leads_itself s nodes p s' m e h = (h, refl)

pub leads_then : (s : Sight) (nodes : List Node) (p q r : Port) → Leads s nodes p q → Leads s nodes q r → Leads s nodes p r
leads_then s nodes p q r f g s' m e h =
    let below = g s' m e h in
    let here = f s' m e below.0 in
    (here.0, here.1 ∙ below.1)

pub right_split : (s : Sight) (nodes : List Node) (terms : List Term) (root : Port) (fs : List Frame) (top : Frame) → StackRight s nodes terms root (fs ++ top ∷ []) → StackRight s nodes terms root fs × FrameRight s nodes terms root top
right_split s nodes terms root [] top h = (tt, h.0)
right_split s nodes terms root (f ∷ fs) top h = let rest = right_split s nodes terms root fs top h.1 in ((h.0, rest.0), rest.1)

pub right_join : (s : Sight) (nodes : List Node) (terms : List Term) (root : Port) (fs : List Frame) (top : Frame) → StackRight s nodes terms root fs → FrameRight s nodes terms root top → StackRight s nodes terms root (fs ++ top ∷ [])
right_join s nodes terms root [] top h r = (r, tt)
right_join s nodes terms root (f ∷ fs) top h r = (h.0, right_join s nodes terms root fs top h.1 r)

pub bottom_push : (fs : List Frame) (f top : Frame) → bottom (fs ++ f ∷ []) top ≡ bottom fs f
bottom_push [] f top = refl
bottom_push (g ∷ fs) f top = refl

-- frames that lead from a port can be left
pub left_right : (s : Sight) (nodes : List Node) (terms : List Term) (root : Port) (fs : List Frame) (top : Frame) → bottom fs top ≡ root → StackRight s nodes terms root (fs ++ top ∷ []) → LeftRight s nodes terms (fs ++ top ∷ [])
left_right s nodes terms root [] top e h = subst (λ r. StackRight s nodes terms r (top ∷ [])) (sym e) h
left_right s nodes terms root (f ∷ fs) top e h = subst (λ r. StackRight s nodes terms r (f ∷ fs ++ top ∷ [])) (sym e) h

left_back : (s : Sight) (nodes : List Node) (terms : List Term) (root : Port) (fs : List Frame) (top : Frame) → bottom fs top ≡ root → LeftRight s nodes terms (fs ++ top ∷ []) → StackRight s nodes terms root (fs ++ top ∷ [])
left_back s nodes terms root [] top e h = subst (λ r. StackRight s nodes terms r (top ∷ [])) e h
left_back s nodes terms root (f ∷ fs) top e h = subst (λ r. StackRight s nodes terms r (f ∷ fs ++ top ∷ [])) e h

-- ---- where resolving a port begins

pub opens_bottom : (root : Port) (old new : List Frame) (top : Frame) → Opens root old new top → bottom new top ≡ root
opens_bottom root old new top o = ⊎_elim (λ l. l.1) (λ r. ap (λ fs. bottom fs top) r.0 ∙ ap (λ (f : Frame). f.port) r.1) o

fresh_top : (nodes : List Node) (terms : List Term) (answers : Answers) (root : Port) → IsPort nodes root → answers root ≡ None → Top nodes terms answers [] (fresh root)
fresh_top nodes terms answers root p e = record { rest = tt; fits = record { port = p; few = omega arith; earlier = no_arguments terms }; open_ = e; above = tt }

pub opens_fits : (nodes : List Node) (terms : List Term) (answers : Answers) (root : Port) (old new : List Frame) (top : Frame) → IsPort nodes root → answers root ≡ None → StackFits nodes terms answers old → Opens root old new top → StackFits nodes terms answers (new ++ top ∷ [])
opens_fits nodes terms answers root old new top p e h o = ⊎_elim
    (λ l. subst (StackFits nodes terms answers) l.0 h)
    (λ r. subst (λ fs. StackFits nodes terms answers (fs ++ top ∷ [])) (sym r.0) (subst (λ f. StackFits nodes terms answers (f ∷ [])) (sym r.1) (stack_join nodes terms answers [] (fresh root) (fresh_top nodes terms answers root p e)))) o

fresh_right : (s : Sight) (nodes : List Node) (terms : List Term) (root : Port) → StackRight s nodes terms root (fresh root ∷ [])
fresh_right s nodes terms root = (record { leads = leads_itself s nodes root; begins = tt }, tt)

pub opens_right : (s : Sight) (nodes : List Node) (terms : List Term) (root : Port) (old new : List Frame) (top : Frame) → LeftRight s nodes terms old → Opens root old new top → StackRight s nodes terms root (new ++ top ∷ [])
opens_right s nodes terms root old new top h o = ⊎_elim
    (λ l. left_back s nodes terms root new top l.1 (subst (LeftRight s nodes terms) l.0 h))
    (λ r. subst (λ fs. StackRight s nodes terms root (fs ++ top ∷ [])) (sym r.0) (subst (λ f. StackRight s nodes terms root (f ∷ [])) (sym r.1) (fresh_right s nodes terms root))) o

-- ---- how many ports aren't settled

abbrev pub open_here : Option Answer → ℕ
open_here None = 1
open_here (Some a) = 0

abbrev pub port_at : ℕ → ℕ → Port
port_at n r = record { node = n; result = r }

-- of the first results of a node, and of the first nodes
abbrev pub open_results : Answers → ℕ → ℕ → ℕ
open_results answers n zero = 0
open_results answers n (suc r) = open_here (answers (port_at n r)) + open_results answers n r

abbrev pub open_ports : Answers → ℕ → ℕ
open_ports answers zero = 0
open_ports answers (suc n) = open_results answers n 64 + open_ports answers n

here_less : (a : Answer) (o : Option Answer) (b : Bool) → open_here (if b then Some a else o) ≤ open_here o
here_less a None true = omega arith
here_less a (Some x) true = omega arith
here_less a o false = omega arith

results_less : (answers : Answers) (p : Port) (a : Answer) (n r : ℕ) → open_results (with_answer answers p a) n r ≤ open_results answers n r
results_less answers p a n zero = omega arith
results_less answers p a n (suc r) = omega (arith, here_less a (answers (port_at n r)) (same_port p (port_at n r)), results_less answers p a n r)

ports_less : (answers : Answers) (p : Port) (a : Answer) (n : ℕ) → open_ports (with_answer answers p a) n ≤ open_ports answers n
ports_less answers p a zero = omega arith
ports_less answers p a (suc n) = omega (arith, results_less answers p a n 64, ports_less answers p a n)

results_step : (answers : Answers) (p : Port) (a : Answer) → answers p ≡ None → (r : ℕ) → p.result < suc r → (p.result < r → open_results (with_answer answers p a) p.node r < open_results answers p.node r) → (b : Bool) → (p.result == r) ≡ b →
    open_here (with_answer answers p a (port_at p.node r)) + open_results (with_answer answers p a) p.node r < open_here (answers (port_at p.node r)) + open_results answers p.node r
results_step answers p a e r h rec true k =
    let same : p.result ≡ r = (unsigned_Decides p.result r).0 k in
    let at : p ≡ port_at p.node r = λ i. record { node = p.node; result = same i } in
    let now : with_answer answers p a (port_at p.node r) ≡ Some a = subst (λ q. with_answer answers p a q ≡ Some a) at (answer_here answers p a) in
    let before : answers (port_at p.node r) ≡ None = subst (λ q. answers q ≡ None) at e in
    let less = results_less answers p a p.node r in
    let none_left : open_here (with_answer answers p a (port_at p.node r)) ≡ 0 = ap open_here now in
    let one_left : open_here (answers (port_at p.node r)) ≡ 1 = ap open_here before in
    omega (arith, less, none_left, one_left)
results_step answers p a e r h rec false k =
    let other : ¬ (p.result ≡ r) = λ q. true≢false (sym ((unsigned_Decides p.result r).1 q) ∙ k) in
    let fewer = rec (omega (arith, h, other)) in
    let less = here_less a (answers (port_at p.node r)) (same_port p (port_at p.node r)) in
    omega (arith, fewer, less)

results_fewer : (answers : Answers) (p : Port) (a : Answer) → answers p ≡ None → (r : ℕ) → p.result < r → open_results (with_answer answers p a) p.node r < open_results answers p.node r
results_fewer answers p a e zero h = absurd (omega (arith, h))
results_fewer answers p a e (suc r) h = results_step answers p a e r h (results_fewer answers p a e r) (p.result == r) refl

ports_step : (answers : Answers) (p : Port) (a : Answer) → answers p ≡ None → p.result < 64 → (n : ℕ) → p.node < suc n → (p.node < n → open_ports (with_answer answers p a) n < open_ports answers n) → (b : Bool) → (p.node == n) ≡ b →
    open_results (with_answer answers p a) n 64 + open_ports (with_answer answers p a) n < open_results answers n 64 + open_ports answers n
ports_step answers p a e r n h rec true k =
    let same : p.node ≡ n = (unsigned_Decides p.node n).0 k in
    let fewer : open_results (with_answer answers p a) n 64 < open_results answers n 64 = subst (λ m. open_results (with_answer answers p a) m 64 < open_results answers m 64) same (results_fewer answers p a e 64 r) in
    let less = ports_less answers p a n in
    omega (arith, fewer, less)
ports_step answers p a e r n h rec false k =
    let other : ¬ (p.node ≡ n) = λ q. true≢false (sym ((unsigned_Decides p.node n).1 q) ∙ k) in
    let fewer = rec (omega (arith, h, other)) in
    let less = results_less answers p a n 64 in
    omega (arith, fewer, less)

pub ports_fewer : (answers : Answers) (p : Port) (a : Answer) → answers p ≡ None → p.result < 64 → (n : ℕ) → p.node < n → open_ports (with_answer answers p a) n < open_ports answers n
ports_fewer answers p a e r zero h = absurd (omega (arith, h))
ports_fewer answers p a e r (suc n) h = ports_step answers p a e r n h (ports_fewer answers p a e r n) (p.node == n) refl
