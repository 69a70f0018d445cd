-- Looking may begin anew at each selector that was got.
use Rattle.std.proofs.Common.{◌≡◌, List, [], ◌∷◌, ◌++◌, true, refl, sym, ap, ◌∙◌}
use Rattle.dx_tags.specs.Closed.{ValueTerm}
use Rattle.dx_machine.specs.Machine.{Frame, State, Went, and_then, get, get_all}
use Rattle.dx_meaning.specs.Scan.{Sight, IsOff, Stops, Needs, Scanned, Forms, Ends, scan}
use Rattle.dx_performing.specs.Selectors.{selectors}
use Rattle.dx_performing.specs.Course.{as_terms}
use Rattle.dx_performing.specs.Resuming.{AreTold, IsBegun, GoesOn, is_ready, ToldIsReady, Resumes, LookingResumes}
use Rattle.dx_performing.proofs.SelectorsGoOn.{tree_goes_on}
use Rattle.dx_performing.proofs.Ready.{ready_gives, ready_stays}

-- selectors that are ready are passed by
passes : (k : Frame) (s : State) (sight : Sight) → ToldIsReady k s sight → (ls rest : List ValueTerm) → AreTold sight ls → get_all k (as_terms (ls ++ rest)) s ≡ get_all k (as_terms rest) s
passes k s sight r [] rest a = refl
passes k s sight r (t ∷ ls) rest a =
    ap (λ g. and_then g (get_all k (as_terms (ls ++ rest)))) (ready_gives k t s (r t a.0.0 a.0.1)) ∙ passes k s sight r ls rest a.1

all_told : (k : Frame) (s : State) (sight : Sight) → ToldIsReady k s sight → (ls : List ValueTerm) → AreTold sight ls → get_all k (as_terms ls) s ≡ Went s
all_told k s sight r [] a = refl
all_told k s sight r (t ∷ ls) a =
    ap (λ g. and_then g (get_all k (as_terms ls))) (ready_gives k t s (r t a.0.0 a.0.1)) ∙ all_told k s sight r ls a.1

same_told : (k : Frame) (s : State) (sight : Sight) → ToldIsReady k s sight → (ls ls' : List ValueTerm) → ls' ≡ ls → AreTold sight ls → get_all k (as_terms ls') s ≡ Went s
same_told k s sight r ls ls' e a = ap (λ x. get_all k (as_terms x) s) e ∙ all_told k s sight r ls a

ready_told : (k : Frame) (s s1 : State) (sight : Sight) → ToldIsReady k s sight → ((u : ValueTerm) → is_ready k s u ≡ true → is_ready k s1 u ≡ true) → ToldIsReady k s1 sight
ready_told k s s1 sight r h t v e = h t (r t v e)

begun_next : (k : Frame) (s : State) (sight : Sight) (t : ValueTerm) (ls ls' : List ValueTerm) → ToldIsReady k s sight → (b : IsBegun sight t ls ls') → get_all k (as_terms ls') s ≡ and_then (get k t s) (get_all k (as_terms b.after))
begun_next k s sight t ls ls' r b = ap (λ x. get_all k (as_terms x) s) b.more ∙ passes k s sight r b.before (t ∷ b.after) b.told

begun_again : (k : Frame) (s : State) (sight : Sight) (t : ValueTerm) (ls ls' : List ValueTerm) → ToldIsReady k s sight → IsBegun sight t ls ls' → (s1 : State) → get k t s ≡ Went s1 → get_all k (as_terms ls') s ≡ get_all k (as_terms ls') s1
begun_again k s sight t ls ls' r b s1 e =
    let stays = ready_stays k t s s1 e in
    begun_next k s sight t ls ls' r b ∙ ap (λ g. and_then g (get_all k (as_terms b.after))) (e ∙ sym (ready_gives k t s1 stays.0))
    ∙ sym (begun_next k s1 sight t ls ls' (ready_told k s s1 sight r stays.1) b)

resumes : {A : Type 0} (k : Frame) (s : State) (sight : Sight) → ToldIsReady k s sight → (x : Scanned A) (ls ls' : List ValueTerm) → GoesOn sight x ls ls' → Resumes k s x ls'
resumes k s sight r (Forms x) ls ls' g = same_told k s sight r ls ls' g.0 g.1
resumes k s sight r (Ends IsOff) ls ls' g = same_told k s sight r ls ls' g.0 g.1
resumes k s sight r (Ends (Stops site code)) ls ls' g = same_told k s sight r ls ls' g.0 g.1
resumes k s sight r (Ends (Needs site t)) ls ls' g = ((g.after, begun_next k s sight t ls ls' r g), begun_again k s sight t ls ls' r g)

pub looking_resumes : LookingResumes
looking_resumes k s told full m r t = resumes k s told r (scan told t) (selectors told t) (selectors full t) (tree_goes_on told full m t)
