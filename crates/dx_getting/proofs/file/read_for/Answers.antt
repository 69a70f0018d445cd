use Rattle.std.proofs.Common.{◌≡◌, ◌∙◌, ℕ, List, Option, None, Some, sym, ap}
use Rattle.std.specs.Prelude.{Result, Ok, Err, IfOk}
use Rattle.std.specs.Option.{option_copied, option_or}
use Rattle.dx_base.specs.declared.function.Module.{Module}
use Rattle.dx_objects.specs.Runs.{Values}
use Rattle.dx_links.specs.Denotes.{Around, file_of}
use Rattle.dx_machine.specs.Machine.{name_read}
use Rattle.dx_getting.specs.declared.fail.GetFail.{GetFail}
use Rattle.dx_getting.proofs.RunSteps.{file_by_name}
use Rattle.dx_getting.proofs.file.read_for.Goals as goal

-- without a file of its own
by_name : (a : Around) (m : Module) (vs : Values) (own : Option (List ℕ)) (name : List ℕ) (r : Result (Option (List ℕ)) GetFail) → own ≡ None → name_read m vs ≡ Some name → IfOk r (λ read. read ≡ a.file name) → IfOk r (λ read. option_or own read ≡ file_of a m vs own)
by_name a m vs None name (Ok read) none named h = h ∙ sym (file_by_name a m vs name named)
by_name a m vs None name (Err e) none named h = tt
by_name a m vs (Some b) name r none named h = cc

pub returns-in-Some-name_of-clause-found : goal.returns-in-Some-name_of-clause-found
returns-in-Some-name_of-clause-found g c =
    λ a content.
    by_name a c.args.module c.args.inputs.now (option_copied c.args.own) c.in-Some-name_of.name.now c.read.result (ap option_copied c.in-None.is) (sym c.in-Some-name_of.ensures) (c.read.ensures.found a.file content)
