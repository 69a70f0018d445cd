-- Names in lists: which stand there, and how often.
use Rattle.std.specs.Prelude.{◌≡◌, ℕ, ◌+◌, List, Option, Some, None, map, Bool, cond}
use Rattle.std.specs.List.{list_any, count_by}
use Rattle.std.specs.Str.{bytes_eq}
use Rattle.std.specs.Borrow.{Bor}
use Rattle.std.specs.Ordering.{nat_cmp}
use Rattle.std.specs.Cmp.Lexicographic.{slice_cmp}
use Rattle.std.specs.BTreeMap.{BTreeMap, get_by}

abbrev pub has : List (List ℕ) → List ℕ → Bool
has names name = list_any (λ n. bytes_eq n name) names

abbrev pub count : List ℕ → List (List ℕ) → ℕ
count name names = count_by (λ n. bytes_eq n name) names

abbrev pub texts : List (Bor (List ℕ)) → List (List ℕ)
texts ns = map (λ n. n.now) ns

abbrev pub or_zero : Option ℕ → ℕ
or_zero (Some n) = n
or_zero None = 0

-- what a table has under a name
abbrev pub times_of : BTreeMap (Bor (List ℕ)) ℕ → List ℕ → ℕ
times_of table name = or_zero (get_by (λ (key : Bor (List ℕ)). slice_cmp nat_cmp name key.now) table)

-- under each name stands how often it is in the list
abbrev pub IsCounted : BTreeMap (Bor (List ℕ)) ℕ → List (List ℕ) → Type 0
IsCounted table names = (name : List ℕ) → times_of table name ≡ count name names

-- one table has under each name what another has, and under one name one more
abbrev pub IsRaised : BTreeMap (Bor (List ℕ)) ℕ → List ℕ → BTreeMap (Bor (List ℕ)) ℕ → Type 0
IsRaised old name new = (other : List ℕ) → times_of new other ≡ times_of old other + cond (bytes_eq name other) 1 0

abbrev pub IsSame : BTreeMap (Bor (List ℕ)) ℕ → BTreeMap (Bor (List ℕ)) ℕ → Type 0
IsSame old new = (other : List ℕ) → times_of new other ≡ times_of old other

-- so many names are counted by going over them
abbrev pub few : ℕ
few = 8
