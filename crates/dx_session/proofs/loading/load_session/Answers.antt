use Rattle.std.proofs.Common.{subst}
use Rattle.dx_include.specs.Answers.{Loads}
use Rattle.dx_include.specs.Loading.{Loading}
use Rattle.dx_include.proofs.Loadings.{is_the_loading}
use Rattle.dx_session.proofs.loading.load_session.Goals as goal

pub returns-clause-loading : goal.returns-clause-loading
returns-clause-loading g c = λ map told.
    let l = c.load.ensures.loading map told in
    subst (λ (x : Loading). Loads x c.load.result (g.F.Files.asked c.args.files.now) (g.F.Files.asked c.load.new.files)) (is_the_loading map c.args.name.now l.0 l.1) l.2
