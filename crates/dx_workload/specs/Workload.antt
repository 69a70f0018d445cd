-- The text of the workload: a macro, a definition, a statement for each number from 1 on, and a Print.
use Rattle.std.specs.Prelude.{ℕ, zero, suc, ◌+◌, ◌*◌, ◌%◌, List, [], ◌++◌, codes}
use Rattle.std.specs.Fmt.{decimal}

abbrev pub head : List ℕ
head = codes "macro cell(a, b) -> (r) { r = Compute(\"($0 * 31 + $1) % 1000\", a, b); }\np = 1;\n"

-- the value that a statement has in it
abbrev pub value : ℕ → ℕ
value k = k * 37 % 1000

-- a statement before and behind its value
unfoldable pub front : List ℕ
front = codes "SetGlobal(cell(GetGlobal(0, \"s\"), cell(p, "

unfoldable pub back : List ℕ
back = codes ")), \"s\");\n"

abbrev pub line : ℕ → List ℕ
line k = front ++ decimal (value k) ++ back

-- n statements, from number k on
unfoldable pub lines_from : ℕ → ℕ → List ℕ
lines_from k zero = []
lines_from k (suc n) = line k ++ lines_from (k + 1) n

abbrev pub end : List ℕ
end = codes "Print(GetGlobal(0, \"s\"), \"d\");\n"

abbrev pub workload_text : ℕ → List ℕ
workload_text n = head ++ lines_from 1 n ++ end
