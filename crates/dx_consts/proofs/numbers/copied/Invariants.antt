use Rattle.std.proofs.Common.{◌≡◌, true, take}
use Rattle.std.specs.List.{list_all}
use Rattle.dx_base.specs.Elem.{in_range}
use Rattle.dx_base.specs.declared.elem.ElemType.TheVariants.{Int}
use Rattle.dx_consts.proofs.numbers.copied.Given as goal

abbrev pub invariant-loop-n : goal.invariant-loop-n
invariant-loop-n l = record {
  same : l.values.items ≡ take l.n-index l.numbers;
  in_type : list_all (in_range Int) l.values.items ≡ true;
}
