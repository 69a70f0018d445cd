-- Groups and series of given objects: what can be said against them, and the members pair by pair.
use Rattle.std.proofs.Common.{◌≡◌, ◌<◌, ◌+◌, ◌*◌, ℕ, zero, suc, ℤ, pos, List, [], ◌∷◌, Option, Some, None, Ok, Err, Bool, true, false, cond, length, drop, refl, sym, ap, subst, ◌∙◌, arith}
use Rattle.std.specs.Prelude.{is_none}
use Rattle.std.proofs.lemmas.Bool.{and_parts}
use Rattle.std.specs.Cmp.Derive.{both_true}
use Rattle.dx_base.specs.declared.code.Code.{Code}
use Rattle.dx_base.specs.declared.code.Code.TheVariants.{TooLarge}
use Rattle.dx_base.specs.Object.{Tree, PartList, group, series, no_parts, part, append}
use Rattle.dx_base.specs.ObjectLimits.{differ, none_named, fits, unplaced}
use Rattle.dx_objects.specs.Kinds.{text_of}
use Rattle.dx_objects.specs.Makes.{Makes, refusal}
use Rattle.dx_objects.specs.Runs.{Values}
use Rattle.dx_objects.specs.Values.{value_at}
use Rattle.dx_objects.specs.declared.run_fail.RunFail.{RunFail}
use Rattle.dx_objects.specs.declared.run_fail.RunFail.TheVariants as fail
use Rattle.dx_objects.specs.declared.makers.ObjectError.{ObjectError}
use Rattle.dx_objects.specs.declared.makers.ObjectError.TheVariants as refused
use Rattle.dx_objects.proofs.PartsLaws.{append_assoc, append-no_parts}
use Rattle.dx_object_laws.proofs.PutLaws.{by_bool}
use Rattle.dx_select.specs.Answered.{Answered, ◌>>=◌, in_limits, GivesParts}
use Rattle.dx_select.specs.Collect.{member, members, Place, name_place, at_position, place, pair, paired, named_group, position, GivesPart, Grows, code_of}
use Rattle.dx_select.specs.declared.collect.Beside.{Beside}
use Rattle.dx_select.specs.declared.collect.Beside.TheVariants.{Name, Position}
use Rattle.dx_select.proofs.Answering.{bound, only_large_ok, only_large_err}

-- ---- Collect

members_unplaced : (vs : Values) → unplaced (members vs) ≡ members vs
members_unplaced [] = refl
members_unplaced (None ∷ vs) = members_unplaced vs
members_unplaced (Some t ∷ vs) = ap (part None (pos 0) t) (members_unplaced vs)

members_differ : (vs : Values) → differ (members vs) ≡ true
members_differ [] = refl
members_differ (None ∷ vs) = members_differ vs
members_differ (Some t ∷ vs) = members_differ vs

group_only_large : (ps : PartList) → differ ps ≡ true → refusal (group ps no_parts) ≡ cond (fits (group ps no_parts)) None (Some refused.TooLarge)
group_only_large ps h = rw h refl

pub collect_ok : (vs : Values) (ps ys : PartList) (o : Tree) → ps ≡ members vs → ys ≡ no_parts → Makes (group (unplaced ps) (unplaced ys)) (Ok o) → in_limits (group (members vs) no_parts) ≡ Ok o
collect_ok vs ps ys o e f made = only_large_ok (group (members vs) no_parts) o (group_only_large (members vs) (members_differ vs)) (rw (e, f, members_unplaced vs) at made)

pub collect_large : (vs : Values) (ps ys : PartList) (g : ObjectError) → ps ≡ members vs → ys ≡ no_parts → Makes (group (unplaced ps) (unplaced ys)) (Err g) → in_limits (group (members vs) no_parts) ≡ Err TooLarge
collect_large vs ps ys g e f made = only_large_err (group (members vs) no_parts) g (group_only_large (members vs) (members_differ vs)) (rw (e, f, members_unplaced vs) at made)

-- ---- what members in pairs are

named_position : (n : Option (List ℕ)) (at : Place) → name_place n ≡ Ok at → at.1 ≡ pos 0
named_position None at e = absurd (cc e)
named_position (Some n) at e = let same : (Some n, pos 0) ≡ at = cc in rw (← same) refl

placed_name : (p : Option ℤ) (at : Place) → at_position p ≡ Ok at → at.0 ≡ None
placed_name None at e = absurd (cc e)
placed_name (Some p) at e = let same : (None, p) ≡ at = cc in rw (← same) refl

name_position : (v : Option Tree) (at : Place) → place Name v ≡ Ok at → at.1 ≡ pos 0
name_position None at e = let same : (None, pos 0) ≡ at = cc in rw (← same) refl
name_position (Some v) at e = named_position (text_of v) at e

position_name : (v : Option Tree) (at : Place) → place Position v ≡ Ok at → at.0 ≡ None
position_name v at e = placed_name (position v) at e

made_unplaced : (t : Tree) (n : Option (List ℕ)) (p : ℤ) (ps : PartList) → p ≡ pos 0 → part n p t no_parts ≡ ps → unplaced ps ≡ ps
made_unplaced t n p ps h same = rw (← same, h) refl

unplaced-append : (ps qs : PartList) → unplaced ps ≡ ps → unplaced qs ≡ qs → unplaced (append ps qs) ≡ append ps qs
unplaced-append no_parts qs h k = k
unplaced-append (part n p t ps) qs h k =
    let here : pos 0 ≡ p = cc in
    let rest : unplaced ps ≡ ps = cc in
    rw (here, unplaced-append ps qs rest k) refl

pair_unplaced : (o v : Option Tree) (ps : PartList) → pair Name o v ≡ Ok ps → unplaced ps ≡ ps
pair_unplaced None v ps e = let same : no_parts ≡ ps = cc in rw (← same) refl
pair_unplaced (Some t) v ps e =
    let at = bound (place Name v) (λ at. Ok (part at.0 at.1 t no_parts)) ps e in
    made_unplaced t at.0.0 at.0.1 ps (name_position v at.0 at.1) (cc (at.2))

pub named_unplaced : (vs : Values) (ps : PartList) → paired Name vs ≡ Ok ps → unplaced ps ≡ ps
named_unplaced [] ps e = let same : no_parts ≡ ps = cc in rw (← same) refl
named_unplaced (o ∷ []) ps e = pair_unplaced o None ps e
named_unplaced (o ∷ v ∷ vs) ps e =
    let first = bound (pair Name o v) (λ qs. paired Name vs >>= λ rs. Ok (append qs rs)) ps e in
    let rest = bound (paired Name vs) (λ rs. Ok (append first.0 rs)) ps first.2 in
    let same : append first.0 rest.0 ≡ ps = cc (rest.2) in
    subst (λ qs. unplaced qs ≡ qs) same (unplaced-append first.0 rest.0 (pair_unplaced o v first.0 first.1) (named_unplaced vs rest.0 rest.1))

made_unnamed : (t : Tree) (n : Option (List ℕ)) (p : ℤ) (ps : PartList) → n ≡ None → part n p t no_parts ≡ ps → none_named ps ≡ true
made_unnamed t n p ps h same = rw (← same, h) refl

unnamed-append : (ps qs : PartList) → none_named ps ≡ true → none_named qs ≡ true → none_named (append ps qs) ≡ true
unnamed-append no_parts qs h k = k
unnamed-append (part n p t ps) qs h k =
    let hs = and_parts (is_none n) (none_named ps) h in
    both_true hs.0 (unnamed-append ps qs hs.1 k)

pair_unnamed : (o v : Option Tree) (ps : PartList) → pair Position o v ≡ Ok ps → none_named ps ≡ true
pair_unnamed None v ps e = let same : no_parts ≡ ps = cc in rw (← same) refl
pair_unnamed (Some t) v ps e =
    let at = bound (place Position v) (λ at. Ok (part at.0 at.1 t no_parts)) ps e in
    made_unnamed t at.0.0 at.0.1 ps (position_name v at.0 at.1) (cc (at.2))

pub placed_unnamed : (vs : Values) (ps : PartList) → paired Position vs ≡ Ok ps → none_named ps ≡ true
placed_unnamed [] ps e = let same : no_parts ≡ ps = cc in rw (← same) refl
placed_unnamed (o ∷ []) ps e = pair_unnamed o None ps e
placed_unnamed (o ∷ v ∷ vs) ps e =
    let first = bound (pair Position o v) (λ qs. paired Position vs >>= λ rs. Ok (append qs rs)) ps e in
    let rest = bound (paired Position vs) (λ rs. Ok (append first.0 rs)) ps first.2 in
    let same : append first.0 rest.0 ≡ ps = cc (rest.2) in
    subst (λ qs. none_named qs ≡ true) same (unnamed-append first.0 rest.0 (pair_unnamed o v first.0 first.1) (placed_unnamed vs rest.0 rest.1))

-- ---- CollectNamed and CollectSeries

pub named_ok : (ps ys : PartList) (o : Tree) → unplaced ps ≡ ps → ys ≡ no_parts → Makes (group (unplaced ps) (unplaced ys)) (Ok o) → named_group ps ≡ Ok o
named_ok ps ys o u f made =
    by_bool (differ ps) _
    (λ d. rw d (only_large_ok (group ps no_parts) o (group_only_large ps d) (rw (u, f) at made)))
    (λ d. absurd (let no : refusal (group ps no_parts) ≡ Some refused.BadNames = rw d refl in cc (no, (rw (u, f) at made).1)))

-- what is said against it is its size, or else that two names are equal
large_or : (b : Bool) (e : ObjectError) → cond b None (Some refused.TooLarge) ≡ Some e → refused.TooLarge ≡ e
large_or true e h = absurd (cc h)
large_or false e h = cc h

pub named_refused : (ps ys : PartList) (e : ObjectError) → unplaced ps ≡ ps → ys ≡ no_parts → Makes (group (unplaced ps) (unplaced ys)) (Err e) → named_group ps ≡ Err (code_of e)
named_refused ps ys e u f made =
    let said : refusal (group ps no_parts) ≡ Some e = rw (u, f) at made in
    by_bool (differ ps) _
    (λ d. rw d (only_large_err (group ps no_parts) e (group_only_large ps d) said
    ∙ ap (λ x. Err (code_of x)) (large_or (fits (group ps no_parts)) e (sym (group_only_large ps d) ∙ said))))
    (λ d. let no : refusal (group ps no_parts) ≡ Some refused.BadNames = rw d refl in
    let same : refused.BadNames ≡ e = cc (no, said) in rw d (ap (λ x. Err (code_of x)) same))

series_only_large : (ps : PartList) → none_named ps ≡ true → refusal (series ps no_parts) ≡ cond (fits (series ps no_parts)) None (Some refused.TooLarge)
series_only_large ps h = rw h refl

pub series_ok : (ps ys : PartList) (o : Tree) → none_named ps ≡ true → ys ≡ no_parts → Makes (series ps (unplaced ys)) (Ok o) → in_limits (series ps no_parts) ≡ Ok o
series_ok ps ys o h f made = only_large_ok (series ps no_parts) o (series_only_large ps h) (rw f at made)

pub series_large : (ps ys : PartList) (g : ObjectError) → none_named ps ≡ true → ys ≡ no_parts → Makes (series ps (unplaced ys)) (Err g) → in_limits (series ps no_parts) ≡ Err TooLarge
series_large ps ys g h f made = only_large_err (series ps no_parts) g (series_only_large ps h) (rw f at made)

-- ---- one after the other

pub members_next : (vs : Values) (i : ℕ) → i < length vs → members (drop i vs) ≡ append (member (value_at vs i)) (members (drop (suc i) vs))
members_next [] i h = absurd (omega (arith, h))
members_next (v ∷ vs) zero h = refl
members_next (v ∷ vs) (suc i) h = members_next vs i (omega (arith, h))

pub members_step : (vs : Values) (i : ℕ) (old new all : PartList) → i < length vs → new ≡ append old (member (value_at vs i)) → append old (members (drop i vs)) ≡ all → append new (members (drop (i + 1) vs)) ≡ all
members_step vs i old new all h e k =
    let next : i + 1 ≡ suc i = omega arith in
    rw (next, e) (append_assoc old (member (value_at vs i)) (members (drop (suc i) vs)) ∙ ap (append old) (sym (members_next vs i h)) ∙ k)

-- these parts before the others
abbrev pub behind : PartList → Answered PartList → Answered PartList
behind ps there = there >>= λ qs. Ok (append ps qs)

alone : (there : Answered PartList) → there ≡ (there >>= λ ps. Ok no_parts >>= λ qs. Ok (append ps qs))
alone (Ok ps) = ap (λ qs. Ok qs) (sym (append-no_parts ps))
alone (Err code) = refl

-- two inputs on stands the next pair; behind the last one may stand nothing
last_pair : (b : Beside) (o : Option Tree) → pair b o None ≡ (pair b o None >>= λ ps. Ok no_parts >>= λ qs. Ok (append ps qs))
last_pair b o = alone (pair b o None)

pub paired_next : (b : Beside) (vs : Values) (i : ℕ) → i < length vs → paired b (drop i vs) ≡ (pair b (value_at vs i) (value_at vs (suc i)) >>= λ ps. paired b (drop (suc (suc i)) vs) >>= λ qs. Ok (append ps qs))
paired_next b [] i h = absurd (omega (arith, h))
paired_next b (o ∷ []) zero h = last_pair b o
paired_next b (o ∷ v ∷ vs) zero h = refl
paired_next b (o ∷ vs) (suc i) h = paired_next b vs i (omega (arith, h))

-- the same for pair number i
pair_next : (b : Beside) (vs : Values) (i : ℕ) → 2 * i < length vs → paired b (drop (2 * i) vs) ≡ (pair b (value_at vs (2 * i)) (value_at vs (2 * i + 1)) >>= λ ps. paired b (drop (2 * (i + 1)) vs) >>= λ qs. Ok (append ps qs))
pair_next b vs i h =
    let one : 2 * i + 1 ≡ suc (2 * i) = omega arith in
    let two : 2 * (i + 1) ≡ suc (suc (2 * i)) = omega arith in
    rw (one, two) (paired_next b vs (2 * i) h)

pub behind_none : (there : Answered PartList) → behind no_parts there ≡ there
behind_none (Ok qs) = refl
behind_none (Err code) = refl

regroup : (old ps : PartList) (rest : Answered PartList) → behind old (rest >>= λ qs. Ok (append ps qs)) ≡ behind (append old ps) rest
regroup old ps (Ok qs) = ap (λ rs. Ok rs) (sym (append_assoc old ps qs))
regroup old ps (Err code) = refl

grown : (there rest : Answered PartList) (old new : PartList) → behind old there ≡ Ok new → behind old (there >>= λ ps. rest >>= λ qs. Ok (append ps qs)) ≡ behind new rest
grown (Ok ps) rest old new e = let same : append old ps ≡ new = cc in regroup old ps rest ∙ ap (λ qs. behind qs rest) same
grown (Err code) rest old new e = absurd (cc e)

pub pair_step : (b : Beside) (vs : Values) (i : ℕ) (old new : PartList) (all : Answered PartList) → 2 * i < length vs → behind old (pair b (value_at vs (2 * i)) (value_at vs (2 * i + 1))) ≡ Ok new → behind old (paired b (drop (2 * i) vs)) ≡ all → behind new (paired b (drop (2 * (i + 1)) vs)) ≡ all
pair_step b vs i old new all h e k = sym (grown (pair b (value_at vs (2 * i)) (value_at vs (2 * i + 1))) (paired b (drop (2 * (i + 1)) vs)) old new e) ∙ ap (behind old) (sym (pair_next b vs i h)) ∙ k

stopped : (there rest : Answered PartList) (old : PartList) (code : Code) → there ≡ Err code → behind old (there >>= λ ps. rest >>= λ qs. Ok (append ps qs)) ≡ Err code
stopped there rest old code e = rw e refl

pub pair_stops : (b : Beside) (vs : Values) (i : ℕ) (old new : PartList) (all : Answered PartList) (f : RunFail) → 2 * i < length vs → Grows (pair b (value_at vs (2 * i)) (value_at vs (2 * i + 1))) old new (Err f) → behind old (paired b (drop (2 * i) vs)) ≡ all → GivesParts all (Err f)
pair_stops b vs i old new all (fail.Code code) h e k = sym k ∙ ap (behind old) (pair_next b vs i h) ∙ stopped (pair b (value_at vs (2 * i)) (value_at vs (2 * i + 1))) (paired b (drop (2 * (i + 1)) vs)) old code e
pair_stops b vs i old new all fail.Memory h e k = tt

pub grow_stops : (b : Beside) (t : Tree) (v : Option Tree) (old new : PartList) (f : RunFail) → GivesPart (place b v) t (Err f) → Grows (pair b (Some t) v) old new (Err f)
grow_stops b t v old new (fail.Code code) e = rw e refl
grow_stops b t v old new fail.Memory e = tt
