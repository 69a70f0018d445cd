use Rattle.dx_include.specs.Computed.{loading_of}
use Rattle.dx_include.proofs.Loadings.{is_loading}
use Rattle.dx_include.proofs.including.load.Goals as goal

pub returns-clause-loading : goal.returns-clause-loading
returns-clause-loading g c = λ map told. (loading_of map c.args.name.now, is_loading map c.args.name.now, c.load_session.ensures.loading map told)
