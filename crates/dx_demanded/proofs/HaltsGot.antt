-- Getting a selector that is refused finds its call.
use Rattle.std.proofs.Common.{◌≡◌, List, None, refl, sym, ap, ◌∙◌, subst}
use Rattle.std.specs.Prelude.{Result, Ok, Err}
use Rattle.dx_base.specs.declared.code.Code.{Code}
use Rattle.dx_macros.specs.Site.{Step}
use Rattle.dx_objects.specs.Runs.{Values}
use Rattle.dx_links.specs.Denotes.{Around, denotes}
use Rattle.dx_tags.specs.Closed.{ValueTerm, ValueTerms}
use Rattle.dx_machine.specs.Machine.{State, Got, Went, Stopped, get}
use Rattle.dx_machine.specs.Agree.{Demanded, Runs, Refuses, demanded, Agrees}
use Rattle.dx_machine.proofs.Agreeing.{getting_agrees}
use Rattle.dx_meaning.specs.Outcome.{Value, Decided, Val, ErrAt, Off, HaltAt}
use Rattle.dx_meaning.specs.Meaning.{outcomes, together}
use Rattle.dx_meaning.specs.Scan.{Sight, Needs, Scanned, Ends, scan_each, all_scanned}
use Rattle.dx_meaning.specs.Met.{Called}
use Rattle.dx_meaning.specs.Term.{terms_of}
use Rattle.dx_performing.specs.Course.{value_or_none, around_of, world_of, sight_of, frame_with}
use Rattle.dx_performing.specs.Meant.{Means}
use Rattle.dx_performing.proofs.Executed.{names_of, full}
use Rattle.dx_performing.proofs.Meant.{all_means}
use Rattle.dx_demanded.specs.Found.{StandsAt, RefusesAt}
use Rattle.dx_meaning.specs.Halted.{halted_all}
use Rattle.dx_demanded.specs.Halted.{SelectorRefuses, HaltFinds, HaltedGot, HaltedGettingsFind}
use Rattle.dx_demanded.proofs.Ends.{EndsAs, term_ends}
use Rattle.dx_demanded.proofs.Halted.{all_halts}
use Rattle.dx_demanded.proofs.HaltsStay.{HaltKeep, halts_stay}
use Rattle.dx_demanded.proofs.Kept.{terms_in, are_links}

got_refused : (a : Around) (s : State) (calls : List Called) (site : List Step) (code : Code) (needed : Demanded) (g : Got) → RefusesAt a calls site code needed → Agrees s needed g → HaltedGot (HaltAt site code) calls g
got_refused a s calls site code (Runs ts) g f h = absurd f
got_refused a s calls site code (Refuses ts c code') (Went s1) f h = tt
got_refused a s calls site code (Refuses ts c code') (Stopped d code'' s1) f h = (sym (h.1 ∙ f.0), subst (λ e. StandsAt calls e site) (sym h.0) f.2)

-- looking by all values ends at it
got_halted : (a : Around) (links : List ValueTerm) (d : Decided Values) (ts : ValueTerms) (x : Scanned ValueTerms) (calls : List Called) (place : List Step) (u : ValueTerm) (s : State) (g : Got) → Means a d ts x → HaltFinds a links d calls x → x ≡ Ends (Needs place u) → Agrees s (demanded a links u) g → HaltedGot d calls g
got_halted a links Off ts x calls place u s g m h e k = cc
got_halted a links (Val vs) ts x calls place u s g m h e k = cc
got_halted a links (ErrAt site code) ts x calls place u s g m h e k = cc
got_halted a links (HaltAt site code) ts x calls place u s g m h e k = got_refused a s calls site code (demanded a links u) g (subst (SelectorRefuses a links calls site code) e h) k

-- it has a value
got_valued : (a : Around) (d : Decided Values) (calls : List Called) (v : Value) (s : State) (needed : Demanded) (g : Got) → EndsAs a (Ok v) needed → Agrees s needed g → HaltedGot d calls g
got_valued a d calls v s needed (Went s1) e h = tt
got_valued a d calls v s (Runs ts) (Stopped c code s1) e h = absurd h
got_valued a d calls v s (Refuses ts c code) (Stopped c' code' s1) e h = absurd e

-- it is told, or looking by all values ends at it too
by_denoted : (a : Around) (full : Sight) (links : List ValueTerm) (d : Decided Values) (ts : ValueTerms) (x y : Scanned ValueTerms) (calls calls' : List Called) (place : List Step) (u : ValueTerm) (s : State) (g : Got) (r : Result Value Code) → denotes a u ≡ r → full.told u ≡ value_or_none (denotes a u) → EndsAs a (denotes a u) (demanded a links u) →
    Means a d ts y → HaltFinds a links d calls' y → HaltKeep full x y calls calls' → x ≡ Ends (Needs place u) → Agrees s (demanded a links u) g → HaltedGot d calls g
by_denoted a full links d ts x y calls calls' place u s g (Ok v) q t n m h k e i = got_valued a d calls v s (demanded a links u) g (subst (λ r. EndsAs a r (demanded a links u)) q n) i
by_denoted a full links d ts x y calls calls' place u s g (Err code) q t n m h k e i =
    let stays : full.told u ≡ None → (y ≡ Ends (Needs place u)) × (calls' ≡ calls) = subst (λ z. HaltKeep full z y calls calls') e k in
    let same = stays (t ∙ ap value_or_none q) in
    subst (λ cs. HaltedGot d cs g) same.1 (got_halted a links d ts y calls' place u s g m h same.0 i)

pub halted_gettings_find : HaltedGettingsFind
halted_gettings_find x k told formed args place u s r more f h e =
    let w = world_of x k in
    let n = names_of k in
    let a = around_of x k in
    let l = are_links x k r in
    let links = terms_in k.links in
    let sight = sight_of x k in
    by_denoted a sight links (together (outcomes w args)).decided (terms_of w n args) (all_scanned (scan_each told args)) (all_scanned (scan_each sight args)) (halted_all told args) (halted_all sight args) place u s (get (frame_with x k formed) u s) (denotes a u) refl refl
    (term_ends a links l.valued u) (all_means w n sight l.denote (full x k) args) (all_halts w n sight links l (full x k) args) (halts_stay told sight more args) e (getting_agrees (frame_with x k formed) u s f h)
