use Rattle.std.proofs.Common.{◌∙◌, sym, ap, arith}
use Rattle.std.proofs.lemmas.Grind.{common_steps}
use Rattle.dx_base.specs.ObjectLimits.{unplaced}
use Rattle.dx_objects.proofs.LawfulLaws.{unplaced_twice}
use Rattle.dx_objects.proofs.parts.Parts.unplaced.Goals as goal

pub returns-clause-parts : goal.returns-clause-parts
returns-clause-parts c = grind (arith, common_steps)

pub returns-clause-done : goal.returns-clause-done
returns-clause-done c =
    let e = returns-clause-parts c in
    ap unplaced e ∙ unplaced_twice c.args.self ∙ sym e
