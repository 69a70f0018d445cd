use Rattle.std.proofs.Common.{◌∙◌, subst}
use Rattle.std.proofs.lemmas.List.{get_or_default}
use Rattle.std.proofs.lemmas.List.Elements.{AllWithin-more}
use Rattle.dx_include.specs.Computed.{IsPlain}
use Rattle.dx_include.proofs.including.includes_nothing.Goals as goal

pub loop-statement-preserved : goal.loop-statement-preserved
loop-statement-preserved c =
    let statements = c.args.statements.now in
    let i = c.loop-statement.statement-index in
    let s = c.statement-item.result in
    AllWithin-more IsPlain statements 0 i c.loop-statement.invariant
    (λ d. subst IsPlain (c.statement-item.is ∙ get_or_default statements i s d c.loop-statement-test.true) c.in_default.not-Include)
