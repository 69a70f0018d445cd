-- What looking at the arguments of an effect and getting them comes to is what the meaning decides.
use Rattle.std.proofs.Common.{◌≡◌, List, refl, sym, ap, ap₂, ◌∙◌, subst}
use Rattle.dx_base.specs.declared.code.Code.{Code}
use Rattle.dx_macros.specs.Site.{Step}
use Rattle.dx_macros.specs.Tree.{Trees}
use Rattle.dx_objects.specs.Runs.{Values}
use Rattle.dx_tags.specs.Closed.{ValueTerms}
use Rattle.dx_links.specs.Denotes.{Around, all_denote}
use Rattle.dx_machine.specs.Machine.{FormedCall, State, Got, Went, Stopped, get, get_all}
use Rattle.dx_meaning.specs.Outcome.{Decided, Val, ErrAt, Off, HaltAt}
use Rattle.dx_meaning.specs.Meaning.{outcomes, together}
use Rattle.dx_meaning.specs.Met.{Called, each_met, all_met}
use Rattle.dx_meaning.specs.More.{More, Keeps}
use Rattle.dx_meaning.specs.Scan.{Sight, IsOff, Stops, Needs, Scanned, Forms, Ends, scan_each, all_scanned}
use Rattle.dx_meaning.specs.Term.{terms_of, Agrees}
use Rattle.dx_meaning.proofs.Keeping.{all_keeps, each_keeps}
use Rattle.dx_machine.specs.Sound.{HaveAttributes, IsSound}
use Rattle.dx_performing.specs.Kept.{Kept}
use Rattle.dx_performing.specs.Course.{Fixed, around_of, world_of, sight_of, frame_with}
use Rattle.dx_performing.specs.Meant.{IsHalted, Means, LinksRight}
use Rattle.dx_performing.proofs.Executed.{names_of, full, denote}
use Rattle.dx_performing.proofs.Meant.{all_means, all_agree}
use Rattle.dx_demanded.specs.Found.{GotFinds}
use Rattle.dx_meaning.specs.Halted.{halted_all}
use Rattle.dx_demanded.specs.Halted.{HaltedGot}
use Rattle.dx_demanded.specs.Ended.{ArgumentsEnd, SelectorEnds, EndsAsMeant, EffectsEndAsMeant}
use Rattle.dx_demanded.proofs.Got.{gettings_find}
use Rattle.dx_demanded.proofs.HaltsGot.{halted_gettings_find}

-- the terms are those that are meant
same_terms : (us ts : ValueTerms) (y : Scanned ValueTerms) → y ≡ Forms us → y ≡ Forms ts → us ≡ ts
same_terms us ts y p q = cc

arguments_end : (a : Around) (d : Decided Values) (calls : List Called) (us ts : ValueTerms) (y : Scanned ValueTerms) (g : Got) → Means a d us y → y ≡ Forms ts → Agrees d (all_denote a us) → GotFinds d calls g → ArgumentsEnd a d calls ts g
arguments_end a Off calls us ts y g m e h f = cc
arguments_end a (HaltAt site code) calls us ts y g m e h f = absurd (subst (IsHalted a site code) e m)
arguments_end a (Val vs) calls us ts y (Went s) m e h f = (vs, refl, ap (all_denote a) (sym (same_terms us ts y m e)) ∙ h)
arguments_end a (Val vs) calls us ts y (Stopped c code s) m e h f = absurd f
arguments_end a (ErrAt site code) calls us ts y (Went s) m e h f = absurd f
arguments_end a (ErrAt site code) calls us ts y (Stopped c code' s) m e h f = (site, ap (ErrAt site) (sym f.0), f.1)

off_ends : (a : Around) (d : Decided Values) (us : ValueTerms) (y : Scanned ValueTerms) → Means a d us y → y ≡ Ends IsOff → d ≡ Off
off_ends a Off us y m e = refl
off_ends a (HaltAt site code) us y m e = absurd (subst (IsHalted a site code) e m)
off_ends a (Val vs) us y m e = cc
off_ends a (ErrAt site code) us y m e = cc

stop_ends : (a : Around) (d : Decided Values) (us : ValueTerms) (y : Scanned ValueTerms) (place : List Step) (code : Code) → Means a d us y → y ≡ Ends (Stops place code) → d ≡ HaltAt place code
stop_ends a Off us y place code m e = cc
stop_ends a (HaltAt site code') us y place code m e = let same : (place ≡ site) × (code ≡ code') = subst (IsHalted a site code') e m in ap₂ (λ q r. HaltAt q r) (sym same.0) (sym same.1)
stop_ends a (Val vs) us y place code m e = cc
stop_ends a (ErrAt site code') us y place code m e = cc

selector_ends : (d : Decided Values) (calls : List Called) (g : Got) → HaltedGot d calls g → SelectorEnds d calls g
selector_ends d calls (Went s) h = tt
selector_ends (HaltAt site code') calls (Stopped c code s) h = (site, ap (HaltAt site) h.0, h.1)
selector_ends (Val vs) calls (Stopped c code s) h = absurd h
selector_ends (ErrAt site code') calls (Stopped c code s) h = absurd h
selector_ends Off calls (Stopped c code s) h = absurd h

by_scanned : (x : Fixed) (k : Kept) (told : Sight) (formed : List FormedCall) (args : Trees) (s : State) → LinksRight (around_of x k) k.links → More told (sight_of x k) → HaveAttributes formed → IsSound (around_of x k) x.budget s →
    (y : Scanned ValueTerms) → all_scanned (scan_each told args) ≡ y → Keeps y (all_scanned (scan_each (sight_of x k) args)) → Means (around_of x k) (together (outcomes (world_of x k) args)).decided (terms_of (world_of x k) (names_of k) args) (all_scanned (scan_each (sight_of x k) args)) →
    EndsAsMeant (around_of x k) (frame_with x k formed) (together (outcomes (world_of x k) args)).decided (all_met (each_met told args)) (halted_all told args) s y
by_scanned x k told formed args s r more f h (Forms ts) e q m =
    arguments_end (around_of x k) (together (outcomes (world_of x k) args)).decided (all_met (each_met told args)) (terms_of (world_of x k) (names_of k) args) ts (all_scanned (scan_each (sight_of x k) args)) (get_all (frame_with x k formed) ts s) m q
    (all_agree (world_of x k) (names_of k) (sight_of x k) (denote x k r) (full x k) args) (gettings_find x k told formed args ts s r more f h e)
by_scanned x k told formed args s r more f h (Ends IsOff) e q m = off_ends (around_of x k) (together (outcomes (world_of x k) args)).decided (terms_of (world_of x k) (names_of k) args) (all_scanned (scan_each (sight_of x k) args)) m q
by_scanned x k told formed args s r more f h (Ends (Stops place code)) e q m = stop_ends (around_of x k) (together (outcomes (world_of x k) args)).decided (terms_of (world_of x k) (names_of k) args) (all_scanned (scan_each (sight_of x k) args)) place code m q
by_scanned x k told formed args s r more f h (Ends (Needs place u)) e q m = selector_ends (together (outcomes (world_of x k) args)).decided (halted_all told args) (get (frame_with x k formed) u s) (halted_gettings_find x k told formed args place u s r more f h e)

pub effects_end_as_meant : EffectsEndAsMeant
effects_end_as_meant x k told formed args s r more f h =
    by_scanned x k told formed args s r more f h (all_scanned (scan_each told args)) refl (all_keeps (scan_each told args) (scan_each (sight_of x k) args) (each_keeps told (sight_of x k) more args))
    (all_means (world_of x k) (names_of k) (sight_of x k) (denote x k r) (full x k) args)
