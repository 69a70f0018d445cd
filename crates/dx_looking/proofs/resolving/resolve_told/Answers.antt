use Rattle.dx_looking.proofs.Growth.{fits_held}
use Rattle.dx_looking.proofs.Resolved.{sight_same, sees_new, right_before, formed_before, met_before, looking_so}
use Rattle.dx_looking.specs.Setting.{sight_in}
use Rattle.dx_looking.proofs.Ways.{with_seen}
use Rattle.dx_looking.proofs.resolving.resolve_told.Goals as goal

pub resolve-requires-clause-links : goal.resolve-requires-clause-links
resolve-requires-clause-links c = fits_held c.args.at.now.tags c.args.setup.now.links.now.links c.requires.looking.links

pub returns-clause-looking : goal.returns-clause-looking
returns-clause-looking c =
    let e = c.in_ok-resolved.ensures in
    let setup = c.args.setup.now in
    let at = c.args.at.now in
    let l = c.requires.looking in
    let s = sight_in setup (with_seen at c.resolve.new.tags c.resolve.new.seen) in
    let sees = sees_new setup at c.resolve.new.tags c.resolve.new.seen l e.goes_on e.formed in
    let right = right_before setup at c.resolve.new.tags c.resolve.new.seen l e.goes_on in
    looking_so setup at c.resolve.new.tags c.resolve.new.seen l e.goes_on e.formed e.seen (e.closed l.closed) (e.seen_right s sees right)
    (e.seen_formed s sees right (formed_before setup at c.resolve.new.tags c.resolve.new.seen l e.goes_on)) (e.seen_met s sees right (met_before setup at c.resolve.new.tags c.resolve.new.seen l e.goes_on))

pub returns-clause-sight : goal.returns-clause-sight
returns-clause-sight c = sight_same c.args.setup.now c.args.at.now c.resolve.new.tags c.resolve.new.seen c.requires.looking c.in_ok-resolved.ensures.goes_on

pub returns-clause-right : goal.returns-clause-right
returns-clause-right c =
    let e = c.in_ok-resolved.ensures in
    let setup = c.args.setup.now in
    let at = c.args.at.now in
    let l = c.requires.looking in
    e.right (sight_in setup (with_seen at c.resolve.new.tags c.resolve.new.seen)) (sees_new setup at c.resolve.new.tags c.resolve.new.seen l e.goes_on e.formed) (right_before setup at c.resolve.new.tags c.resolve.new.seen l e.goes_on)

pub returns-clause-halted : goal.returns-clause-halted
returns-clause-halted c =
    let e = c.in_ok-resolved.ensures in
    let setup = c.args.setup.now in
    let at = c.args.at.now in
    let l = c.requires.looking in
    e.halted (sight_in setup (with_seen at c.resolve.new.tags c.resolve.new.seen)) (sees_new setup at c.resolve.new.tags c.resolve.new.seen l e.goes_on e.formed) (right_before setup at c.resolve.new.tags c.resolve.new.seen l e.goes_on)

pub returns-clause-forms : goal.returns-clause-forms
returns-clause-forms c =
    let e = c.in_ok-resolved.ensures in
    let setup = c.args.setup.now in
    let at = c.args.at.now in
    let l = c.requires.looking in
    e.forms (sight_in setup (with_seen at c.resolve.new.tags c.resolve.new.seen)) (sees_new setup at c.resolve.new.tags c.resolve.new.seen l e.goes_on e.formed) (right_before setup at c.resolve.new.tags c.resolve.new.seen l e.goes_on) (formed_before setup at c.resolve.new.tags c.resolve.new.seen l e.goes_on)
