-- The table of functions, row by row: what the code keeps at a function's place is that function's row.
use Rattle.std.proofs.Common.{◌≡◌, ℕ, zero, suc, List, [], ◌∷◌, map, slice_get, slice_index_or, Some}
use Rattle.dx_base.specs.declared.function.Function.{Function}
use Rattle.dx_ast.specs.declared.rows.Row as code
use Rattle.dx_ast.specs.Table.{row_of}
use Rattle.dx_ast.specs.Rows.{said}

pub row_at : (rs : List code.Row) (fs : List Function) (k : ℕ) (f : Function) (d : code.Row) → map said rs ≡ map row_of fs → slice_get fs k ≡ Some f → said (slice_index_or rs k d) ≡ row_of f
row_at [] [] k f d each at = cc
row_at [] (g ∷ fs) k f d each at = cc
row_at (r ∷ rs) [] k f d each at = cc
row_at (r ∷ rs) (g ∷ fs) zero f d each at = cc
row_at (r ∷ rs) (g ∷ fs) (suc k) f d each at = let rest : map said rs ≡ map row_of fs = cc in row_at rs fs k f d rest at
