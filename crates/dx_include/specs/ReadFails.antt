-- What a failed read makes of a loading.
use Rattle.dx_io.specs.declared.fails.FileFail.{FileFail}
use Rattle.dx_io.specs.declared.fails.FileFail.TheVariants as file
use Rattle.dx_include.specs.declared.fail.LoadFail.{LoadFail}
use Rattle.dx_include.specs.declared.fail.LoadFail.TheVariants as load

abbrev pub load_fail : FileFail → LoadFail
load_fail file.Fault = load.ReadFault
load_fail file.Memory = load.Memory
