use Rattle.std.proofs.Common.{ℕ, ap, ap₂, ◌∙◌, List, ◌++◌, ◌∷◌, [], map, Bool, false}
use Rattle.std.specs.Prelude.{replicate, None}
use Rattle.dx_macros.specs.declared.machine.Activation.{Activation}
use Rattle.dx_macros.specs.DictionaryView.{dictionary_of}
use Rattle.dx_macros.specs.Walk.{Walk}
use Rattle.dx_macros.specs.Machine.{do_job, at_end, rest_of, alone}
use Rattle.dx_macros.specs.MachineView.{plain_activation, stacked, plain_job}
use Rattle.dx_base.specs.Places.{Marks, flags}
use Rattle.dx_macros.specs.declared.machine.Job.{Job}
use Rattle.dx_base.proofs.AtPlaces.{none_marked}
use Rattle.dx_macros.proofs.check.begin.Goals as goal

pub returns-clause-means : goal.returns-clause-means
returns-clause-means c =
    let d = dictionary_of c.args.d.now in
    let start : List Bool → Walk = λ bs. record { calls = 0; read = bs } in
    ap₂ (λ (js : List Job) (r : Marks). rest_of d (map plain_job js) (stacked c.new.result.items c.args.text) (start (flags r)))
    (c.in_ok-put.ensures ∙ ap (λ (js : List Job). js ++ c.args.job ∷ []) c.new-jobs.ensures.items) c.new-2.ensures
    ∙ ap (λ (waiting : List Activation). let s = stacked waiting c.args.text in do_job d (plain_job c.args.job) at_end s (start (flags (replicate c.len.result None)))) c.new.ensures.items
    ∙ ap (λ (bs : List Bool). do_job d (plain_job c.args.job) at_end (alone (plain_activation [] c.args.text)) (start bs))
    (none_marked c.len.result ∙ ap (λ (n : ℕ). replicate n false) c.len.ensures)
