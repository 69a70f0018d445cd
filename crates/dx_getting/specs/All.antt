-- The values of some terms in order.
use Rattle.std.specs.Prelude.{◌≡◌, List, Result, Ok, Err}
use Rattle.dx_objects.specs.Runs.{Values}
use Rattle.dx_tags.specs.declared.term.ValueTag.{ValueTag}
use Rattle.dx_tags.specs.Closed.{heads_of, value_terms}
use Rattle.dx_links.specs.Denotes.{all_denote}
use Rattle.dx_machine.specs.Machine.{Got}
use Rattle.dx_getting.specs.declared.work.Work.{Work}
use Rattle.dx_getting.specs.declared.fail.GetFail.{GetFail}
use Rattle.dx_getting.specs.Told.{Told}
use Rattle.dx_getting.specs.Stands.{Setting, World, WentTo, FailsAt, around_of}

-- the machine got all, and these are their values; or it was refused, or the work was cut short
abbrev pub GetsAll : Setting → World → Told → List ValueTag → Result Values GetFail → Got → Work → Told → Type 0
GetsAll e files base args (Ok values) g w now = WentTo e files base g w now × (all_denote (around_of e files) (value_terms (heads_of e.terms) args) ≡ Ok values)
GetsAll e files base args (Err fail) g w now = FailsAt e files base fail g w now
