-- How often names stand in lists, and tables of that.
use Rattle.std.proofs.Common.{◌≡◌, ℕ, ◌+◌, List, [], ◌∷◌, ◌++◌, Some, Bool, true, false, Bor, refl, sym, ap, ◌∙◌, arith}
use Rattle.std.specs.Prelude.{cond, nat_lt, ◌||◌}
use Rattle.std.specs.Ordering.{nat_cmp}
use Rattle.std.specs.Cmp.Lexicographic.{slice_cmp}
use Rattle.std.specs.BTreeMap.{BTreeMap, get_by, UpdatesBy}
use Rattle.std.specs.Str.{bytes_eq}
use Rattle.std.proofs.lemmas.List.Sums.{sum_by-cons}
use Rattle.std.proofs.lemmas.Map.Text.{btree_map_updates_str}
use Rattle.std.proofs.lemmas.Slice.Eq.{bytes_eq-Decides}
use Rattle.dx_base.specs.NameLists.{has, count, texts, or_zero, times_of, IsRaised}

raised_by : (table : BTreeMap (Bor (List ℕ)) ℕ) (name other : List ℕ) (times : ℕ) (b : Bool) → bytes_eq name other ≡ b → times ≡ times_of table name →
    or_zero (cond b (Some (times + 1)) (get_by (λ (key : Bor (List ℕ)). slice_cmp nat_cmp other key.now) table)) ≡ times_of table other + cond b 1 0
raised_by table name other times true e h =
    let same : times_of table name ≡ times_of table other = ap (times_of table) ((bytes_eq-Decides name other).0 e) in
    omega (arith, same, h)
raised_by table name other times false e h = omega arith

-- one more under a name
pub raised : (old new : BTreeMap (Bor (List ℕ)) ℕ) (name : List ℕ) (times : ℕ) → times ≡ times_of old name
    → UpdatesBy (λ (x y : Bor (List ℕ)). slice_cmp nat_cmp x.now y.now) (λ (key : Bor (List ℕ)). slice_cmp nat_cmp name key.now) old new (Some (times + 1))
    → IsRaised old name new
raised old new name times h u other =
    ap or_zero (btree_map_updates_str name old new (Some (times + 1)) u other) ∙ raised_by old name other times (bytes_eq name other) refl h

any_by : (b rest : Bool) (n : ℕ) → nat_lt 0 n ≡ rest → nat_lt 0 (cond b 1 0 + n) ≡ (b || rest)
any_by true rest n e = grind arith
any_by false rest n e =
    let same : 0 + n ≡ n = omega arith in
    ap (nat_lt 0) same ∙ e

-- a name stands in a list where it does at least once
pub has_counted : (names : List (List ℕ)) (name : List ℕ) → nat_lt 0 (count name names) ≡ has names name
has_counted [] name = refl
has_counted (n ∷ rest) name =
    ap (nat_lt 0) (sum_by-cons (λ (y : List ℕ). cond (bytes_eq y name) 1 0) n rest) ∙ any_by (bytes_eq n name) (has rest name) (count name rest) (has_counted rest name)

pub texts_snoc : (xs : List (Bor (List ℕ))) (x : Bor (List ℕ)) → texts (xs ++ x ∷ []) ≡ texts xs ++ x.now ∷ []
texts_snoc [] x = refl
texts_snoc (y ∷ ys) x = ap (λ rest. y.now ∷ rest) (texts_snoc ys x)
