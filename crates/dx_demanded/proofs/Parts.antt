-- Some of a list, in order.
use Rattle.std.proofs.Common.{◌≡◌, List, [], ◌∷◌, ◌++◌, refl, sym, ap, ◌∙◌, subst, append_assoc, append-nil}
use Rattle.dx_objects.specs.Runs.{Ran}
use Rattle.dx_cache.specs.Cached.{IsPartOf, part_none, part_keep, part_skip}
use Rattle.dx_cache.proofs.Drops.{part_then}
use Rattle.dx_machine.specs.Machine.{Task, State, Got, Went, Stopped, and_then, state_at, tasks_of, runs_in}
use Rattle.dx_machine.specs.Agree.{Demanded, Runs, Refuses, Agrees}
use Rattle.dx_meaning.specs.Outcome.{Use}
use Rattle.dx_demanded.specs.Used.{tasks_in}
use Rattle.dx_demanded.specs.Ordered.{asked, RanPart}

pub none_part : {A : Type 0} (xs : List A) → IsPartOf [] xs
none_part [] = part_none
none_part (x ∷ xs) = part_skip (none_part xs)

pub part_append : {A : Type 0} {xs ys : List A} (zs ws : List A) → IsPartOf xs ys → IsPartOf zs ws → IsPartOf (xs ++ zs) (ys ++ ws)
part_append zs ws part_none q = q
part_append zs ws (part_keep {x = x} {xs = xs} {ys = ys} p) q = part_keep (part_append zs ws p q)
part_append zs ws (part_skip {y = y} {xs = xs} {ys = ys} p) q = part_skip (part_append zs ws p q)

pub part_front : {A : Type 0} {xs ys : List A} (zs : List A) → IsPartOf xs ys → IsPartOf xs (ys ++ zs)
part_front zs part_none = none_part zs
part_front zs (part_keep {x = x} {xs = xs} {ys = ys} p) = part_keep (part_front zs p)
part_front zs (part_skip {y = y} {xs = xs} {ys = ys} p) = part_skip (part_front zs p)

part_runs : {ts us : List Task} → IsPartOf ts us → IsPartOf (runs_in ts) (runs_in us)
part_runs part_none = part_none
part_runs (part_keep {x = x} {xs = xs} {ys = ys} p) = part_keep (part_runs p)
part_runs (part_skip {y = y} {xs = xs} {ys = ys} p) = part_skip (part_runs p)

pub runs_append : (ts us : List Task) → runs_in (ts ++ us) ≡ runs_in ts ++ runs_in us
runs_append [] us = refl
runs_append (t ∷ ts) us = ap (λ rs. t.run ∷ rs) (runs_append ts us)

pub asked_append : (us vs : List Use) → asked (us ++ vs) ≡ asked us ++ asked vs
asked_append [] vs = refl
asked_append (u ∷ us) vs = ap (λ rs. (u.called, u.inputs) ∷ rs) (asked_append us vs)

-- ---- what was run

pub ran_none : (s : State) (rs : List Ran) → RanPart s rs s
ran_none s rs = ([], sym (append-nil (tasks_of s.events)), none_part rs)

pub ran_front : (s s1 : State) (rs qs : List Ran) → RanPart s rs s1 → RanPart s (rs ++ qs) s1
ran_front s s1 rs qs h = (h.0, h.1, part_front qs h.2)

pub ran_then : (s s1 s2 : State) (rs qs : List Ran) → RanPart s rs s1 → RanPart s1 qs s2 → RanPart s (rs ++ qs) s2
ran_then s s1 s2 rs qs h k =
    (h.0 ++ k.0, k.1 ∙ ap (λ xs. xs ++ k.0) h.1 ∙ append_assoc (tasks_of s.events) h.0 k.0, subst (λ xs. IsPartOf xs (rs ++ qs)) (sym (runs_append h.0 k.0)) (part_append (runs_in k.0) qs h.2 k.2))

pub then_ran : (s : State) (rs qs : List Ran) (g : Got) (next : State → Got) → RanPart s rs (state_at g) → ((s1 : State) → g ≡ Went s1 → RanPart s1 qs (state_at (next s1))) → RanPart s (rs ++ qs) (state_at (and_then g next))
then_ran s rs qs (Went s1) next h f = ran_then s s1 (state_at (next s1)) rs qs h (f s1 refl)
then_ran s rs qs (Stopped c code s1) next h f = ran_front s s1 rs qs h

-- what a getting runs is some of what is demanded
pub got_part : (s : State) (d : Demanded) (g : Got) (rs : List Ran) → Agrees s d g → IsPartOf (runs_in (tasks_in d)) rs → RanPart s rs (state_at g)
got_part s (Runs ts) (Went s1) rs h p = (h.0, h.1, part_then (runs_in h.0) (runs_in ts) rs (part_runs h.2) p)
got_part s (Refuses ts c code) (Stopped d code' s1) rs h p = (h.2.0, h.2.1, part_then (runs_in h.2.0) (runs_in ts) rs (part_runs h.2.2) p)
got_part s (Runs ts) (Stopped d code s1) rs h p = absurd h
got_part s (Refuses ts c code) (Went s1) rs h p = absurd h
