-- The series of slabs, one after the other.
use Rattle.std.proofs.Common.{◌≡◌, ℕ, zero, suc, ◌+◌, ◌-◌, ◌<◌, ◌≤◌, pos, List, get_or, Bool, true, false, ◌&&◌, Some, None, Ok, Err, cond, refl, sym, ap, subst, ◌∙◌, arith}
use Rattle.dx_base.specs.declared.code.Code.TheVariants.{TooLarge}
use Rattle.dx_base.specs.Object.{Tree, PartList, series, no_parts, part, append}
use Rattle.dx_base.specs.ObjectLimits.{fits, none_named, unplaced}
use Rattle.dx_objects.specs.Makes.{Makes, refusal}
use Rattle.dx_objects.specs.declared.makers.ObjectError.{ObjectError}
use Rattle.dx_objects.specs.declared.makers.ObjectError.TheVariants as refused
use Rattle.dx_objects.specs.declared.run_fail.RunFail.{RunFail}
use Rattle.dx_objects.specs.declared.run_fail.RunFail.TheVariants as fail
use Rattle.dx_objects.proofs.PartsLaws.{append_assoc, append-no_parts}
use Rattle.dx_slab.specs.Answer.{series_of}
use Rattle.dx_slab.specs.Answered.{in_limits}
use Rattle.dx_slab.specs.Components.{slab, slabs}
use Rattle.dx_slab.specs.Gives.{GivesTree, GivesParts, Grows, all_fit}
use Rattle.dx_slab.specs.Lawful.{IsCutOf}
use Rattle.dx_slab.specs.declared.cut.Cut.{Cut}
use Rattle.dx_slab.proofs.Entire.{passed_series, passed_first}
use Rattle.dx_slab.proofs.Fitting.{all_fit-append_right, only_large_ok, only_large_err}

abbrev at : ℕ → ℕ → ℕ → Cut
at d q t = record { dimension = d; first = q; thickness = t }

next_slab : (cs : List ℕ) (d t : ℕ) (whole : Tree) (i n : ℕ) → i < n → slabs cs d t whole i (n - i) ≡ part None (pos i) (slab cs (at d i t) whole) (slabs cs d t whole (i + 1) (n - (i + 1)))
next_slab cs d t whole i n h = let gap : n - i ≡ suc (n - (i + 1)) = omega (arith, h) in ap (slabs cs d t whole i) gap

pub series_begin : (cs : List ℕ) (c : Cut) (whole first : Tree) (n : ℕ) (members : PartList) → c.first ≡ 0 → 0 < n → first ≡ slab cs c whole → members ≡ append no_parts (part None (pos 0) first no_parts) →
    append members (slabs cs c.dimension c.thickness whole 1 (n - 1)) ≡ slabs cs c.dimension c.thickness whole 0 n
series_begin cs c whole first n members begin some is grown =
    let d = c.dimension in
    let t = c.thickness in
    let same : c ≡ at d 0 t = λ i. record { dimension = d; first = begin i; thickness = t } in
    let there : first ≡ slab cs (at d 0 t) whole = is ∙ ap (λ k. slab cs k whole) same in
    let all : slabs cs d t whole 0 (n - 0) ≡ part None (pos 0) (slab cs (at d 0 t) whole) (slabs cs d t whole (0 + 1) (n - (0 + 1))) = next_slab cs d t whole 0 n some in
    let gap : n - 0 ≡ n = omega arith in
    ap (λ ps. append ps (slabs cs d t whole 1 (n - 1))) grown
    ∙ ap (λ u. part None (pos 0) u (slabs cs d t whole 1 (n - 1))) there
    ∙ sym all ∙ ap (slabs cs d t whole 0) gap

pub series_step : (cs : List ℕ) (d t : ℕ) (whole : Tree) (i n : ℕ) (old new all : PartList) → i < n → new ≡ append old (part None (pos i) (slab cs (at d i t) whole) no_parts) →
    append old (slabs cs d t whole i (n - i)) ≡ all → append new (slabs cs d t whole (i + 1) (n - (i + 1))) ≡ all
series_step cs d t whole i n old new all h grown so_far =
    ap (λ ps. append ps (slabs cs d t whole (i + 1) (n - (i + 1)))) grown
    ∙ append_assoc old (part None (pos i) (slab cs (at d i t) whole) no_parts) (slabs cs d t whole (i + 1) (n - (i + 1)))
    ∙ ap (append old) (sym (next_slab cs d t whole i n h))
    ∙ so_far

pub series_end : (cs : List ℕ) (d t : ℕ) (whole : Tree) (i n : ℕ) (members all : PartList) → n ≤ i → append members (slabs cs d t whole i (n - i)) ≡ all → members ≡ all
series_end cs d t whole i n members all h so_far =
    let gap : n - i ≡ 0 = omega (arith, h) in
    sym (append-no_parts members) ∙ ap (λ k. append members (slabs cs d t whole i k)) (sym gap) ∙ so_far

head_large : (t : Tree) (ps : PartList) → all_fit (part None (pos 0) t no_parts) ≡ false → (fits t && all_fit ps) ≡ false
head_large t ps h = by (fits t) h
  where
    by : (b : Bool) → (b && true) ≡ false → (b && all_fit ps) ≡ false
    by true h = absurd (cc h)
    by false h = refl

pub series_stops : (cs : List ℕ) (d t : ℕ) (whole : Tree) (i n : ℕ) (old new all : PartList) (e : RunFail) → i < n → Grows (part None (pos i) (slab cs (at d i t) whole) no_parts) old new (Err e) →
    append old (slabs cs d t whole i (n - i)) ≡ all → GivesParts all (Err e)
series_stops cs d t whole i n old new all (fail.Code code) h grown so_far =
    let rest : all_fit (slabs cs d t whole i (n - i)) ≡ false = ap all_fit (next_slab cs d t whole i n h) ∙ head_large (slab cs (at d i t) whole) (slabs cs d t whole (i + 1) (n - (i + 1))) grown.1 in
    (grown.0, ap all_fit (sym so_far) ∙ all_fit-append_right old (slabs cs d t whole i (n - i)) rest)
series_stops cs d t whole i n old new all fail.Memory h grown so_far = tt

-- ---- the whole series

-- the first slab is too large
pub first_stops : (cs : List ℕ) (d t : ℕ) (whole : Tree) (e : RunFail) → IsCutOf cs (at d 0 t) → GivesTree (in_limits (slab cs (at d 0 t) whole)) (Err e) → GivesTree (in_limits (series_of cs d t whole)) (Err e)
first_stops cs d t whole e cut h =
    let n = get_or cs d 0 - t in
    let end = cut.end in
    let some : 0 < n = omega (arith, end) in
    let gap : n - 0 ≡ n = omega arith in
    let all : slabs cs d t whole 0 n ≡ part None (pos 0) (slab cs (at d 0 t) whole) (slabs cs d t whole (0 + 1) (n - (0 + 1))) = ap (slabs cs d t whole 0) (sym gap) ∙ next_slab cs d t whole 0 n some in
    subst (λ ps. GivesTree (in_limits (series ps no_parts)) (Err e)) (sym all) (passed_first None (pos 0) (slab cs (at d 0 t) whole) (slabs cs d t whole (0 + 1) (n - (0 + 1))) no_parts e h)

abbrev all_of : List ℕ → Cut → Tree → ℕ → PartList
all_of cs c whole n = slabs cs c.dimension c.thickness whole 0 n

counted : (cs : List ℕ) (c : Cut) (whole : Tree) (n : ℕ) → n + c.thickness ≡ get_or cs c.dimension 0 → series (all_of cs c whole n) no_parts ≡ series_of cs c.dimension c.thickness whole
counted cs c whole n number = let gap : n ≡ get_or cs c.dimension 0 - c.thickness = omega (arith, number) in ap (λ k. series (all_of cs c whole k) no_parts) gap

pub members_stop : (cs : List ℕ) (c : Cut) (whole : Tree) (n : ℕ) (e : RunFail) → n + c.thickness ≡ get_or cs c.dimension 0 → GivesParts (all_of cs c whole n) (Err e) → GivesTree (in_limits (series_of cs c.dimension c.thickness whole)) (Err e)
members_stop cs c whole n e number h = subst (λ u. GivesTree (in_limits u) (Err e)) (counted cs c whole n number) (passed_series (all_of cs c whole n) no_parts e h)

only_large : (ps : PartList) → none_named ps ≡ true → refusal (series ps no_parts) ≡ cond (fits (series ps no_parts)) None (Some refused.TooLarge)
only_large ps h = rw h refl

named : (cs : List ℕ) (d t : ℕ) (whole : Tree) (q n : ℕ) → none_named (slabs cs d t whole q n) ≡ true
named cs d t whole q zero = refl
named cs d t whole q (suc n) = named cs d t whole (q + 1) n

pub series_ok : (cs : List ℕ) (c : Cut) (whole o : Tree) (n : ℕ) (ps ys : PartList) → n + c.thickness ≡ get_or cs c.dimension 0 → ps ≡ all_of cs c whole n → ys ≡ no_parts → Makes (series ps (unplaced ys)) (Ok o) → in_limits (series_of cs c.dimension c.thickness whole) ≡ Ok o
series_ok cs c whole o n ps ys number e f made =
    ap in_limits (sym (counted cs c whole n number))
    ∙ only_large_ok (series (all_of cs c whole n) no_parts) o (only_large (all_of cs c whole n) (named cs c.dimension c.thickness whole 0 n)) (rw (e, f) at made)

pub series_err : (cs : List ℕ) (c : Cut) (whole : Tree) (n : ℕ) (ps ys : PartList) (g : ObjectError) → n + c.thickness ≡ get_or cs c.dimension 0 → ps ≡ all_of cs c whole n → ys ≡ no_parts → Makes (series ps (unplaced ys)) (Err g) → in_limits (series_of cs c.dimension c.thickness whole) ≡ Err TooLarge
series_err cs c whole n ps ys g number e f made =
    ap in_limits (sym (counted cs c whole n number))
    ∙ only_large_err (series (all_of cs c whole n) no_parts) g (only_large (all_of cs c whole n) (named cs c.dimension c.thickness whole 0 n)) (rw (e, f) at made)

pub grown_from : (old new : PartList) (t : Tree) → old ≡ no_parts → new ≡ append old (part None (pos 0) t no_parts) → new ≡ append no_parts (part None (pos 0) t no_parts)
grown_from old new t e grown = grown ∙ ap (λ ps. append ps (part None (pos 0) t no_parts)) e
