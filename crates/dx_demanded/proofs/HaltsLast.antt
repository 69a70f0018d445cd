-- A selector that is refused ends with the run of the last use of control.
use Rattle.std.proofs.Common.{◌≡◌, List, None, refl, sym, ap, ◌∙◌, subst}
use Rattle.std.specs.Prelude.{Result, Ok, Err}
use Rattle.dx_base.specs.declared.code.Code.{Code}
use Rattle.dx_macros.specs.Site.{Step}
use Rattle.dx_objects.specs.Runs.{Values}
use Rattle.dx_links.specs.Denotes.{Around, denotes}
use Rattle.dx_tags.specs.Closed.{ValueTerm, ValueTerms}
use Rattle.dx_machine.specs.Machine.{State, Got, Went, Stopped, get}
use Rattle.dx_machine.specs.Agree.{Demanded, Runs, Refuses, demanded, Agrees}
use Rattle.dx_machine.proofs.Agreeing.{getting_agrees}
use Rattle.dx_meaning.specs.Outcome.{Value, Use, Decided, Val, ErrAt, Off, HaltAt}
use Rattle.dx_meaning.specs.Meaning.{outcomes, together}
use Rattle.dx_meaning.specs.Scan.{Sight, Needs, Scanned, Ends, scan_each, all_scanned}
use Rattle.dx_meaning.specs.Met.{Called}
use Rattle.dx_meaning.specs.Halted.{halted_all}
use Rattle.dx_meaning.specs.Term.{terms_of}
use Rattle.dx_performing.specs.Course.{value_or_none, around_of, world_of, sight_of, frame_with}
use Rattle.dx_performing.specs.Meant.{IsHalted, Means}
use Rattle.dx_performing.proofs.Executed.{names_of, full}
use Rattle.dx_performing.proofs.Meant.{all_means}
use Rattle.dx_demanded.specs.Last.{RanLast, HaltsLast, SelectorsStopLast}
use Rattle.dx_demanded.proofs.Ends.{EndsAs, term_ends}
use Rattle.dx_demanded.proofs.HaltsStay.{HaltKeep, halts_stay}
use Rattle.dx_demanded.proofs.Kept.{terms_in, are_links}
use Rattle.dx_demanded.proofs.Last.{same_run}
use Rattle.dx_demanded.proofs.LastControl.{HaltLast, ScanLast, all_halt}
use Rattle.dx_demanded.proofs.LastUses.{LastUse}
use Rattle.dx_demanded.proofs.Refused.{IsRunOf, RefusesLast, get_refuses}

-- the getting of the selector
got_last : (a : Around) (s : State) (site : List Step) (code : Code) (us : List Use) (needed : Demanded) (g : Got) → EndsAs {A = Value} a (Err code) needed → LastUse {A = Value} a (ErrAt site code) us needed → Agrees s needed g → RefusesLast a s g → HaltsLast (HaltAt site code) us s g
got_last a s site code us (Runs ts) g n l h r = absurd n
got_last a s site code us (Refuses ts c code') (Went s1) n l h r = tt
got_last a s site code us (Refuses ts c code') (Stopped d code'' s1) n l h r =
    let own = subst (λ e. IsRunOf a e r.0) h.0 r.1 in
    (sym (h.1 ∙ n.0), (l.0, l.1, l.2, subst (λ q. RanLast s q s1) (same_run a c r.0 (l.0.called, l.0.inputs) own l.3) r.2))

-- looking by all values ends at it
got_halted : (a : Around) (links : List ValueTerm) (d : Decided Values) (us : List Use) (ts : ValueTerms) (x : Scanned ValueTerms) (place : List Step) (u : ValueTerm) (code : Code) (s : State) (g : Got) → denotes a u ≡ Err code → EndsAs a (denotes a u) (demanded a links u) → Means a d ts x → HaltLast a links d us x → x ≡ Ends (Needs place u) → Agrees s (demanded a links u) g → RefusesLast a s g → HaltsLast d us s g
got_halted a links Off us ts x place u code s g q n m h e k r = cc
got_halted a links (Val vs) us ts x place u code s g q n m h e k r = cc
got_halted a links (ErrAt site c) us ts x place u code s g q n m h e k r = cc
got_halted a links (HaltAt site c) us ts x place u code s g q n m h e k r =
    let halted : denotes a u ≡ Err c = subst (IsHalted a site c) e m in
    got_last a s site c us (demanded a links u) g (subst (λ y. EndsAs a y (demanded a links u)) halted n) (subst (ScanLast a links site c us) e h) k r

-- it has a value
got_valued : (a : Around) (d : Decided Values) (us : List Use) (v : Value) (s : State) (needed : Demanded) (g : Got) → EndsAs a (Ok v) needed → Agrees s needed g → HaltsLast d us s g
got_valued a d us v s needed (Went s1) e h = tt
got_valued a d us v s (Runs ts) (Stopped c code s1) e h = absurd h
got_valued a d us v s (Refuses ts c code) (Stopped c' code' s1) e h = absurd e

-- it is told, or looking by all values ends at it too
by_denoted : (a : Around) (full : Sight) (links : List ValueTerm) (d : Decided Values) (us : List Use) (ts : ValueTerms) (x y : Scanned ValueTerms) (calls calls' : List Called) (place : List Step) (u : ValueTerm) (s : State) (g : Got) (r : Result Value Code) → denotes a u ≡ r → full.told u ≡ value_or_none (denotes a u) → EndsAs a (denotes a u) (demanded a links u) →
    Means a d ts y → HaltLast a links d us y → HaltKeep full x y calls calls' → x ≡ Ends (Needs place u) → Agrees s (demanded a links u) g → RefusesLast a s g → HaltsLast d us s g
by_denoted a full links d us ts x y calls calls' place u s g (Ok v) q t n m h k e i f = got_valued a d us v s (demanded a links u) g (subst (λ r. EndsAs a r (demanded a links u)) q n) i
by_denoted a full links d us ts x y calls calls' place u s g (Err code) q t n m h k e i f =
    let stays : full.told u ≡ None → (y ≡ Ends (Needs place u)) × (calls' ≡ calls) = subst (λ z. HaltKeep full z y calls calls') e k in
    got_halted a links d us ts y place u code s g q n m h (stays (t ∙ ap value_or_none q)).0 i f

pub selectors_stop_last : SelectorsStopLast
selectors_stop_last x k told formed args place u s r more f h e =
    let w = world_of x k in
    let n = names_of k in
    let a = around_of x k in
    let l = are_links x k r in
    let links = terms_in k.links in
    let sight = sight_of x k in
    let o = together (outcomes w args) in
    let frame = frame_with x k formed in
    by_denoted a sight links o.decided o.control_uses (terms_of w n args) (all_scanned (scan_each told args)) (all_scanned (scan_each sight args)) (halted_all told args) (halted_all sight args) place u s (get frame u s) (denotes a u) refl refl
    (term_ends a links l.valued u) (all_means w n sight l.denote (full x k) args) (all_halt w n sight links l (full x k) args) (halts_stay told sight more args) e (getting_agrees frame u s f h) (get_refuses frame f l.valued u s h)
