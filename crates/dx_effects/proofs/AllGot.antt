-- Getting the values of terms in order.
use Rattle.std.proofs.Common.{◌≡◌, List, [], ◌∷◌, true, Option, None, refl, sym, ap, ◌∙◌, subst}
use Rattle.std.specs.Prelude.{◌||◌, Ok, Err}
use Rattle.dx_base.specs.Object.{Tree as Object}
use Rattle.dx_base.specs.declared.code.Code.{Code}
use Rattle.dx_ast.specs.Value.{value_of}
use Rattle.dx_cache.proofs.Places.{cases}
use Rattle.dx_objects.specs.Values.{value_at}
use Rattle.dx_tags.specs.declared.term.ValueTag.{ValueTag}
use Rattle.dx_tags.specs.Closed.{ValueTerm, ConstantTerm, HeldTerm, ResultTerm, FileTerm, CallTerm, ValueTerms, NoTerm, AndTerm, Head, value_term, value_terms}
use Rattle.dx_tags.specs.Whole.{HaveNoFile}
use Rattle.dx_links.specs.Denotes.{Around, denotes, results_of, all_denote, denoted_beside, denoted_result}
use Rattle.dx_links.specs.Getting.{same_call, has_value, has_call}
use Rattle.dx_machine.specs.Machine.{Frame, State, Got, Went, Stopped, and_then, state_at, get, get_all}
use Rattle.dx_machine.specs.Sound.{HasResults, HaveResults, HaveAttributes, IsSound}
use Rattle.dx_machine.proofs.Keeping.{getting_keeps}
use Rattle.dx_machine.proofs.SameTerms.{call_is}
use Rattle.dx_getting.proofs.Getting.{beside_plain}
use Rattle.dx_performing.proofs.Ready.{get_stays, got_ready}
use Rattle.dx_looking.proofs.Refused.{LinksHave, refused_denotes}

-- ---- what was known stays

then_known : (c : CallTerm) (g : Got) (go : State → Got) → has_call (state_at g).known c ≡ true → ((s : State) → has_call s.known c ≡ true → has_call (state_at (go s)).known c ≡ true) → has_call (state_at (and_then g go)).known c ≡ true
then_known c (Went s) go h f = f s h
then_known c (Stopped d code s) go h f = h

pub all_known : (k : Frame) (ts : ValueTerms) (s : State) (c : CallTerm) → has_call s.known c ≡ true → has_call (state_at (get_all k ts s)).known c ≡ true
all_known k NoTerm s c h = h
all_known k (AndTerm t ts) s c h = then_known c (get k t s) (get_all k ts) (get_stays k t s c h) (λ s1 e. all_known k ts s1 c e)

-- ---- a getting that went well, and one that is refused

known_results : (a : Around) (cs : List CallTerm) (c : CallTerm) → HaveResults a cs → has_call cs c ≡ true → HasResults a c
known_results a [] c h e = cc
known_results a (d ∷ cs) c h e = cases (same_call d c)
    (λ q. (h.0.0, ap (results_of a) (sym (call_is d c q)) ∙ h.0.1))
    (λ q. known_results a cs c h.1 (subst (λ b. (b || has_call cs c) ≡ true) q e))

went_denotes : (k : Frame) (t : ValueTerm) (s s1 : State) → IsSound k.around k.budget s1 → LinksHave k.around k.links → get k t s ≡ Went s1 → (v : Option Object) × (denotes k.around t ≡ Ok v)
went_denotes k (ConstantTerm c) s s1 i l e = (value_of c, refl)
went_denotes k (HeldTerm n) s s1 i l e = (k.around.held n, refl)
went_denotes k (FileTerm bytes) s s1 i l e = (None, refl)
went_denotes k (ResultTerm result c) s s1 i l e =
    let ready = got_ready k (ResultTerm result c) s s1 e in
    cases (has_value k.links (ResultTerm result c)) (λ q. l (ResultTerm result c) q)
    (λ q. let r = known_results k.around s1.known c i.known (subst (λ b. (b || has_call s1.known c) ≡ true) q ready) in (value_at r.0 result, ap (denoted_result result) r.1))

-- of a value and others the first that is refused decides
first_refused : (k : Frame) (t : ValueTerm) (ts : ValueTerms) → HaveAttributes k.formed → LinksHave k.around k.links → (s : State) → IsSound k.around k.budget s → (c : CallTerm) (code : Code) (s' : State) →
    ((s1 : State) → IsSound k.around k.budget s1 → get_all k ts s1 ≡ Stopped c code s' → all_denote k.around ts ≡ Err code) → (g : Got) → get k t s ≡ g → and_then g (get_all k ts) ≡ Stopped c code s' → denoted_beside (denotes k.around t) (all_denote k.around ts) ≡ Err code
first_refused k t ts att l s i c code s' rest (Stopped d code1 s1) q h =
    let same : code1 ≡ code = cc in
    ap (λ y. denoted_beside y (all_denote k.around ts)) (refused_denotes k t s att i l d code1 s1 q) ∙ ap Err same
first_refused k t ts att l s i c code s' rest (Went s1) q h =
    let i1 = subst (λ g. IsSound k.around k.budget (state_at g)) q (getting_keeps k t s att i) in
    let d = went_denotes k t s s1 i1 l q in
    ap (λ y. denoted_beside y (all_denote k.around ts)) d.1 ∙ ap (denoted_beside (Ok d.0)) (rest s1 i1 h)

pub refused_all : (k : Frame) (hs : List Head) → HaveAttributes k.formed → LinksHave k.around k.links → (ts : List ValueTag) → HaveNoFile hs ts → (s : State) → IsSound k.around k.budget s → (c : CallTerm) (code : Code) (s' : State) → get_all k (value_terms hs ts) s ≡ Stopped c code s' → all_denote k.around (value_terms hs ts) ≡ Err code
refused_all k hs att l [] n s i c code s' e = cc
refused_all k hs att l (t ∷ ts) n s i c code s' e =
    beside_plain k.around hs t (value_terms hs ts) n.0
    ∙ first_refused k (value_term hs t) (value_terms hs ts) att l s i c code s' (λ s1 i1 h. refused_all k hs att l ts n.1 s1 i1 c code s' h) (get k (value_term hs t) s) refl e
