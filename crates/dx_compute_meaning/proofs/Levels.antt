-- One level of groups and series.
use Rattle.std.proofs.Common.{◌≡◌, ℕ, zero, suc, ◌-◌, ◌<◌, Bool, true, false, List, [], ◌∷◌, Option, Some, None, Err, refl, sym, ap, ◌∙◌, arith}
use Rattle.std.specs.Prelude.{map, if◌then◌else◌}
use Rattle.std.specs.List.{range_with_len}
use Rattle.dx_base.specs.declared.code.Code.TheVariants.{ItemMismatch}
use Rattle.dx_base.specs.Object.{Tree}
use Rattle.dx_expr_grammar.specs.declared.tree.Expression.{Expression}
use Rattle.dx_compute_meaning.specs.Answered.{Answered, ◌>>=◌, collected}
use Rattle.dx_compute_meaning.specs.Compute.{answer_within, over_arrays, over_groups, remade, in_limits}
use Rattle.dx_compute_meaning.specs.Operands.{Operands, used, all_given, as_group, before_groups, groups, member_count, has_members, are_all, all_at_place}
use Rattle.dx_compute_meaning.specs.Shown.{first_of}

groups_none : (gs : List Tree) (answer_at : ℕ → Answered Tree) (this : Answered Tree) → first_of gs ≡ None → over_groups answer_at gs this ≡ this
groups_none [] answer_at this h = refl
groups_none (g ∷ gs) answer_at this h = absurd cc

pub step_none : (n : ℕ) (e : Expression) (vs : Operands) → all_given (used e) vs ≡ true → first_of (groups vs) ≡ None → answer_within n e vs ≡ over_arrays e vs
step_none zero e vs has h = rw has refl
step_none (suc n) e vs has h = rw has (groups_none (groups vs) (λ i. answer_within n e (all_at_place i vs)) (over_arrays e vs) h)

groups_unlike : (gs : List Tree) (g : Tree) (answer_at : ℕ → Answered Tree) (this : Answered Tree) → first_of gs ≡ Some g → are_all (member_count g) (map member_count gs) ≡ false → over_groups answer_at gs this ≡ Err ItemMismatch
groups_unlike [] g answer_at this h unlike = absurd cc
groups_unlike (k ∷ gs) g answer_at this h unlike =
    let same : k ≡ g = cc in
    let fits : are_all (member_count k) (map member_count (k ∷ gs)) ≡ false = ap (λ t. are_all (member_count t) (map member_count (k ∷ gs))) same ∙ unlike in
    rw fits refl

pub step_unlike : (n : ℕ) (e : Expression) (vs : Operands) (g : Tree) → 0 < n → all_given (used e) vs ≡ true → first_of (groups vs) ≡ Some g → are_all (member_count g) (map member_count (groups vs)) ≡ false → answer_within n e vs ≡ Err ItemMismatch
step_unlike zero e vs g some has h unlike = absurd (omega (arith, some))
step_unlike (suc n) e vs g some has h unlike = rw has (groups_unlike (groups vs) g (λ i. answer_within n e (all_at_place i vs)) (over_arrays e vs) h unlike)

abbrev pub member_list : ℕ → Expression → Operands → ℕ → Answered (List Tree)
member_list n e vs count = collected (map (λ i. answer_within n e (all_at_place i vs)) (range_with_len 0 count))

groups_alike : (gs : List Tree) (g : Tree) (answer_at : ℕ → Answered Tree) (this : Answered Tree) → first_of gs ≡ Some g → are_all (member_count g) (map member_count gs) ≡ true →
    over_groups answer_at gs this ≡ (collected (map answer_at (range_with_len 0 (member_count g))) >>= λ ts. in_limits (remade g ts))
groups_alike [] g answer_at this h alike = absurd cc
groups_alike (k ∷ gs) g answer_at this h alike =
    let same : k ≡ g = cc in
    let fits : are_all (member_count k) (map member_count (k ∷ gs)) ≡ true = ap (λ t. are_all (member_count t) (map member_count (k ∷ gs))) same ∙ alike in
    rw fits (ap (λ t. collected (map answer_at (range_with_len 0 (member_count t))) >>= λ ts. in_limits (remade t ts)) same)

pub step_groups : (n : ℕ) (e : Expression) (vs : Operands) (g : Tree) → 0 < n → all_given (used e) vs ≡ true → first_of (groups vs) ≡ Some g → are_all (member_count g) (map member_count (groups vs)) ≡ true →
    answer_within n e vs ≡ (member_list (n - 1) e vs (member_count g) >>= λ ts. in_limits (remade g ts))
step_groups zero e vs g some has h alike = absurd (omega (arith, some))
step_groups (suc n) e vs g some has h alike =
    let less : suc n - 1 ≡ n = omega arith in
    rw less (rw has (groups_alike (groups vs) g (λ i. answer_within n e (all_at_place i vs)) (over_arrays e vs) h alike))

as_group_is : (v : Option Tree) (t : Tree) → as_group v ≡ Some t → has_members t ≡ true
as_group_is None t h = absurd cc
as_group_is (Some u) t h = by (has_members u) refl h
  where
    by : (b : Bool) → has_members u ≡ b → (if b then Some u else None) ≡ Some t → has_members t ≡ true
    by true is h = let same : u ≡ t = cc in ap has_members (sym same) ∙ is
    by false is h = absurd cc

pub first_group_is : (vs : Operands) (t : Tree) → first_of (groups vs) ≡ Some t → has_members t ≡ true
first_group_is [] t h = absurd cc
first_group_is (v ∷ vs) t h = by (as_group v) refl (first_group_is vs t) h
  where
    by : (o : Option Tree) → as_group v ≡ o → (first_of (groups vs) ≡ Some t → has_members t ≡ true) → first_of (before_groups o (groups vs)) ≡ Some t → has_members t ≡ true
    by None is ih h = ih h
    by (Some u) is ih h = let same : u ≡ t = cc in as_group_is v t (is ∙ ap (λ w. Some w) same)
