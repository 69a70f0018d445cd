use Rattle.dx_looking.specs.Setting.{sight_in}
use Rattle.dx_naming.proofs.Among.{call_tag}
use Rattle.dx_naming.proofs.call.call_under.Goals as goal

pub returns-clause-first : goal.returns-clause-first
returns-clause-first c = λ is.
    let at = c.args.at.now in
    let l = c.requires.looking in
    c.call_of.ensures.first (sight_in c.args.setup.now at) at.tags (call_tag at.tags c.args.tag is) l.exact l.fits l.right l.met
