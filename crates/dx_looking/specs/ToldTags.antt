-- The values that were got of terms, by their tags.
use Rattle.std.specs.Prelude.{List, map, Option}
use Rattle.std.specs.Coded.{Coded, coded×, coded_list, coded_option}
use Rattle.std.specs.declared.rc.Rc.{Rc}
use Rattle.std.specs.declared.alloc.Global.{Global}
use Rattle.dx_base.specs.Object.{Tree}
use Rattle.dx_base.specs.ObjectCode.{coded_tree}
use Rattle.dx_objects.specs.Values.{value_of}
use Rattle.dx_tags.specs.declared.term.ValueTag.{ValueTag}
use Rattle.dx_getting.specs.Terms.{coded_tag}

abbrev pub ToldTags : Type 0
ToldTags = List (ValueTag × Option Tree)

abbrev pub told_tags : List (ValueTag × Option (Rc Tree Global)) → ToldTags
told_tags xs = map (λ (x : ValueTag × Option (Rc Tree Global)). (x.0, value_of x.1)) xs

abbrev pub coded_told : Coded ToldTags
coded_told = coded_list (coded× coded_tag (coded_option coded_tree))
