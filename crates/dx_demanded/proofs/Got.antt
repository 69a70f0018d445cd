-- Getting some terms with what is kept agrees with getting them without.
use Rattle.std.proofs.Common.{◌≡◌, List, [], ◌++◌, refl, sym, ap, ◌∙◌, subst, append_assoc, append-nil}
use Rattle.dx_objects.specs.Runs.{Values}
use Rattle.dx_tags.specs.Closed.{ValueTerms, NoTerm, AndTerm}
use Rattle.dx_links.specs.Denotes.{Around}
use Rattle.dx_cache.specs.Cached.{IsPartOf, part_none}
use Rattle.dx_machine.specs.Machine.{Task, Frame, State, Got, Went, Stopped, and_then, state_at, tasks_of, get, get_all}
use Rattle.dx_machine.specs.Sound.{HaveAttributes, IsSound}
use Rattle.dx_machine.specs.Agree.{Demanded, Runs, Refuses, more_of, then_of, demanded, all_demanded, Agrees}
use Rattle.dx_machine.proofs.Agreeing.{getting_agrees}
use Rattle.dx_machine.proofs.Keeping.{getting_keeps}
use Rattle.dx_meaning.specs.Outcome.{Decided, Val, ErrAt, Off, HaltAt}
use Rattle.dx_meaning.specs.Meaning.{outcomes, together}
use Rattle.dx_meaning.specs.Met.{Called, each_met, all_met}
use Rattle.dx_meaning.specs.More.{Keeps}
use Rattle.dx_meaning.proofs.Keeping.{all_keeps, each_keeps, forms_kept}
use Rattle.dx_meaning.specs.Scan.{Scanned, Forms, scan_each, all_scanned}
use Rattle.dx_meaning.specs.Term.{terms_of}
use Rattle.dx_performing.specs.Course.{around_of, world_of, sight_of, frame_with}
use Rattle.dx_performing.specs.Meant.{Means}
use Rattle.dx_performing.proofs.Executed.{names_of, full}
use Rattle.dx_performing.proofs.Meant.{all_means}
use Rattle.dx_demanded.specs.Found.{StandsAt, Finds, GotFinds, GettingsFind}
use Rattle.dx_demanded.proofs.HaltsStay.{met_same}
use Rattle.dx_demanded.proofs.Parts.{part_append}
use Rattle.dx_demanded.proofs.Kept.{terms_in, are_links}
use Rattle.dx_demanded.proofs.Trees.{all_need}

agrees_more : (s s1 : State) (ts more : List Task) → tasks_of s1.events ≡ tasks_of s.events ++ more → IsPartOf more ts → (d : Demanded) (g : Got) → Agrees s1 d g → Agrees s (more_of ts d) g
agrees_more s s1 ts more e p (Runs us) (Went s2) h = (more ++ h.0, h.1 ∙ ap (λ xs. xs ++ h.0) e ∙ append_assoc (tasks_of s.events) more h.0, part_append h.0 us p h.2)
agrees_more s s1 ts more e p (Refuses us c code) (Stopped d code' s2) h = (h.0, h.1, (more ++ h.2.0, h.2.1 ∙ ap (λ xs. xs ++ h.2.0) e ∙ append_assoc (tasks_of s.events) more h.2.0, part_append h.2.0 us p h.2.2))
agrees_more s s1 ts more e p (Runs us) (Stopped d code s2) h = absurd h
agrees_more s s1 ts more e p (Refuses us c code) (Went s2) h = absurd h

agrees_then : (s : State) (d e : Demanded) (g : Got) (next : State → Got) → Agrees s d g → ((s1 : State) → g ≡ Went s1 → Agrees s1 e (next s1)) → Agrees s (then_of d e) (and_then g next)
agrees_then s (Runs ts) e (Went s1) next h f = agrees_more s s1 ts h.0 h.1 h.2 e (next s1) (f s1 refl)
agrees_then s (Refuses ts c code) e (Stopped d code' s1) next h f = h
agrees_then s (Runs ts) e (Stopped d code s1) next h f = absurd h
agrees_then s (Refuses ts c code) e (Went s1) next h f = absurd h

pub getting_all_agrees : (k : Frame) (ts : ValueTerms) (s : State) → HaveAttributes k.formed → IsSound k.around k.budget s → Agrees s (all_demanded k.around k.links ts) (get_all k ts s)
getting_all_agrees k NoTerm s f h = ([], sym (append-nil (tasks_of s.events)), part_none)
getting_all_agrees k (AndTerm t ts) s f h =
    agrees_then s (demanded k.around k.links t) (all_demanded k.around k.links ts) (get k t s) (get_all k ts) (getting_agrees k t s f h)
    (λ s1 e. getting_all_agrees k ts s1 f (subst (λ g. IsSound k.around k.budget (state_at g)) e (getting_keeps k t s f h)))

-- ---- the call that stops it

got_finds : (a : Around) (s : State) (d : Decided Values) (calls : List Called) (needed : Demanded) (g : Got) → Finds a d calls needed → Agrees s needed g → GotFinds d calls g
got_finds a s Off calls needed g f h = tt
got_finds a s (HaltAt site code) calls needed g f h = tt
got_finds a s (Val vs) calls (Runs ts) (Went s1) f h = tt
got_finds a s (Val vs) calls (Runs ts) (Stopped c code s1) f h = h
got_finds a s (Val vs) calls (Refuses ts c code) g f h = absurd f
got_finds a s (ErrAt site code) calls (Runs ts) g f h = absurd f
got_finds a s (ErrAt site code) calls (Refuses ts c code') (Went s1) f h = h
got_finds a s (ErrAt site code) calls (Refuses ts c code') (Stopped d code'' s1) f h = (h.1 ∙ f.0, subst (λ e. StandsAt calls e site) (sym h.0) f.2)

-- what is got are the terms that are meant
by_means : (a : Around) (d : Decided Values) (calls : List Called) (us ts : ValueTerms) (x : Scanned ValueTerms) (go : ValueTerms → Got) → Means a d us x → x ≡ Forms ts → GotFinds d calls (go us) → GotFinds d calls (go ts)
by_means a Off calls us ts x go m e h = tt
by_means a (HaltAt site code) calls us ts x go m e h = tt
by_means a (Val vs) calls us ts x go m e h = let same : us ≡ ts = cc in subst (λ r. GotFinds (Val vs) calls (go r)) same h
by_means a (ErrAt site code) calls us ts x go m e h = let same : us ≡ ts = cc in subst (λ r. GotFinds (ErrAt site code) calls (go r)) same h

pub gettings_find : GettingsFind
gettings_find x k told formed args ts s r more f h e =
    let w = world_of x k in
    let n = names_of k in
    let sight = sight_of x k in
    let l = are_links x k r in
    let d = (together (outcomes w args)).decided in
    let calls = all_met (each_met sight args) in
    let keeps : Keeps (all_scanned (scan_each told args)) (all_scanned (scan_each sight args)) = all_keeps (scan_each told args) (scan_each sight args) (each_keeps told sight more args) in
    subst (λ cs. GotFinds d (all_met cs) (get_all (frame_with x k formed) ts s)) (met_same told sight more args ts e)
    (by_means (around_of x k) d calls (terms_of w n args) ts (all_scanned (scan_each sight args)) (λ us. get_all (frame_with x k formed) us s) (all_means w n sight l.denote (full x k) args)
    (forms_kept (all_scanned (scan_each told args)) (all_scanned (scan_each sight args)) ts keeps e)
    (got_finds (around_of x k) s d calls (all_demanded (around_of x k) (terms_in k.links) (terms_of w n args)) (get_all (frame_with x k formed) (terms_of w n args) s) (all_need w n sight (terms_in k.links) l (full x k) args).found (getting_all_agrees (frame_with x k formed) (terms_of w n args) s f h)))
