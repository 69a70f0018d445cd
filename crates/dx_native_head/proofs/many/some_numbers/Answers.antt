use Rattle.std.proofs.lemmas.Result.{err_from_is_err_and}
use Rattle.dx_base.specs.Elem.{lowest, highest}
use Rattle.dx_native_grammar.specs.Grammar.{bounded}
use Rattle.dx_native_head.proofs.ManyLaws.{refused_here}
use Rattle.dx_native_head.proofs.many.some_numbers.Goals as goal

pub returns-in_err-value-clause-read : goal.returns-in_err-value-clause-read
returns-in_err-value-clause-read c =
    let p = err_from_is_err_and c.from_residual.result c.from_residual.ensures.1 in
    refused_here (bounded (lowest c.args.t) (highest c.args.t)) c.args.others c.args.found.now.items c.args.found.now.items c.args.cursor.now c.any_of_type.new.cursor c.from_residual.result _ _ p.1 p.2 c.in_err-value.ensures.read
