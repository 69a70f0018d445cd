-- The files that a session has written, as a finite map.
use Rattle.std.specs.Prelude.{ℕ, List, Option, refl}
use Rattle.std.specs.Coded.{Coded, code_by, coded×, coded_ℕ, coded_list}
use Rattle.std.specs.Map.{lookup}
use Rattle.std.specs.BTreeMap.{insert_entry, is_at}
use Rattle.std.specs.Ordering.{nat_cmp}
use Rattle.std.specs.Cmp.Lexicographic.{slice_cmp}
use Rattle.std.specs.declared.cmp.Ordering.{Ordering}

-- names with the bytes that were put last under each, in the order of the names
abbrev pub FileMap : Type 0
FileMap = List (List ℕ × List ℕ)

-- the map, and the room for more names
pub record Files : Type 0 where
  pub files : FileMap
  pub room : ℕ

abbrev pub coded_files : Coded Files
coded_files =
    code_by (FileMap × ℕ) (coded× (coded_list (coded× (coded_list coded_ℕ) (coded_list coded_ℕ))) coded_ℕ)
    (λ f. (f.files, f.room))
    (λ p. record { files = p.0; room = p.1 })
    (λ _. refl)

-- names stand by their bytes
abbrev pub name_cmp : List ℕ → List ℕ → Ordering
name_cmp = slice_cmp nat_cmp

-- the bytes under a name
abbrev pub content_of : List ℕ → FileMap → Option (List ℕ)
content_of name files = lookup (is_at (name_cmp name)) files

-- these bytes under a name, in the place of what was there
abbrev pub file_put : FileMap → List ℕ → List ℕ → FileMap
file_put files name content = insert_entry name_cmp files name content
