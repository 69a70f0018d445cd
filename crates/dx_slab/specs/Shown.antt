-- What contracts see of borrowed inputs: their trees.
use Rattle.std.specs.Prelude.{Option, option_map}
use Rattle.std.specs.Borrow.{Bor}
use Rattle.std.specs.declared.rc.Rc.{Rc}
use Rattle.std.specs.declared.alloc.Global.{Global}
use Rattle.dx_base.specs.Object.{Tree}

abbrev pub shown : Option (Bor (Rc Tree Global)) → Option Tree
shown v = option_map (λ (o : Bor (Rc Tree Global)). o.now.value) v
