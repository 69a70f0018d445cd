-- The files that are put.
use Rattle.std.specs.Prelude.{◌≡◌, List, ◌∷◌, ◌++◌, map, Option}
use Rattle.dx_io.specs.Devices.{Grows}
use Rattle.dx_tags.specs.Files.{FileMap}
use Rattle.dx_performing.specs.Execution.{Export, after_exports}
use Rattle.dx_ending.specs.declared.puts.Put.{Put}

abbrev pub export_of : Put → Export
export_of p = (p.name, p.content)

abbrev pub exports_of : List Put → List Export
exports_of puts = map export_of puts

-- from what was told and written before to what is now: these were put, in order, and each was kept as written
pub record ArePut (was now : Option (List Export)) (before behind : FileMap) (made : List Export) : Type 0 where
  pub told : Grows was now made
  pub files : behind ≡ after_exports before made

-- those before one of them were put, and it wasn't, nor any behind it
pub record ArePutBefore (was now : Option (List Export)) (before behind : FileMap) (all : List Export) : Type 0 where
  pub front : List Export
  pub failed : Export
  pub rest : List Export
  pub split : all ≡ front ++ failed ∷ rest
  pub made : ArePut was now before behind front
