use Rattle.std.proofs.Common.{◌∙◌, None, ℕ, List, refl, subst}
use Rattle.dx_include.specs.Computed.{loading_of}
use Rattle.dx_outcome.specs.Plan.{alone, workload_name}
use Rattle.dx_session.specs.Loads.{LoadsOwn}
use Rattle.dx_session.proofs.Ending.{alone_loads}
use Rattle.dx_session.proofs.loading.load_alone.Goals as goal

pub returns-clause-loading : goal.returns-clause-loading
returns-clause-loading c =
    let files = alone workload_name c.args.text in
    subst (λ (name : List ℕ). LoadsOwn (loading_of files name) c.load_session.result) (c.in_ok-name.ensures ∙ c.name.ensures)
    (alone_loads (loading_of files c.in_ok-name.name) c.load_session.result None None (c.load_session.ensures.loading files refl) c.load_session.ensures.cause)
