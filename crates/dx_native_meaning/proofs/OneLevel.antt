-- One level of what clauses mean.
use Rattle.std.proofs.Common.{◌≡◌, ℕ, zero, suc, ◌-◌, ◌<◌, List, Some, None, refl, ap, ◌∙◌, arith}
use Rattle.std.specs.Prelude.{slice_get}
use Rattle.dx_native_grammar.specs.Meaning.{clause_at, named_at, tree_at}
use Rattle.dx_native_grammar.specs.declared.clause.Clause.{Clause}

pub no_levels : (cs : List Clause) (i calls : ℕ) → calls ≡ 0 → tree_at cs calls i ≡ None
unfolding tree_at
no_levels cs i zero e = refl
no_levels cs i (suc n) e = absurd (omega arith)

pub no_clause : (cs : List Clause) (i calls : ℕ) → slice_get cs i ≡ None → tree_at cs calls i ≡ None
unfolding tree_at
no_clause cs i zero e = refl
no_clause cs i (suc n) e = ap (clause_at n (named_at cs (tree_at cs n))) e

pub one_level : (cs : List Clause) (i calls : ℕ) (c : Clause) → 0 < calls → slice_get cs i ≡ Some c → tree_at cs calls i ≡ clause_at (calls - 1) (named_at cs (tree_at cs (calls - 1))) (Some c)
unfolding tree_at
one_level cs i calls c some e =
    let turn : calls ≡ suc (calls - 1) = omega arith in
    ap (λ k. tree_at cs k i) turn ∙ ap (clause_at (calls - 1) (named_at cs (tree_at cs (calls - 1)))) e
