-- The statements that are still to come.
use Rattle.std.proofs.Common.{◌≡◌, ◌<◌, ◌≤◌, ◌+◌, ◌-◌, ◌++◌, ℕ, suc, List, ◌∙◌, sym, append_assoc, append-nil, arith}
use Rattle.dx_workload.specs.Workload.{line, lines_from}

pub lines_next : (k n : ℕ) (before out whole : List ℕ) → k < n → before ++ lines_from k (n - k) ≡ whole → out ≡ before ++ line k → out ++ lines_from (k + 1) (n - (k + 1)) ≡ whole
unfolding lines_from
lines_next k n before out whole h e next =
    let one : n - k ≡ suc (n - (k + 1)) = omega arith in
    rw next (append_assoc before (line k) (lines_from (k + 1) (n - (k + 1))) ∙ rw one at e)

pub lines_end : (k n : ℕ) (out whole : List ℕ) → n ≤ k → out ++ lines_from k (n - k) ≡ whole → out ≡ whole
unfolding lines_from
lines_end k n out whole h e =
    let none : n - k ≡ 0 = omega arith in
    sym (append-nil out) ∙ rw none at e
