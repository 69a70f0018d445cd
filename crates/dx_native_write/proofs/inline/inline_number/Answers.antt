use Rattle.std.proofs.Common.{ap}
use Rattle.dx_native_write.specs.Inlines.{number_in}
use Rattle.dx_native_write.proofs.InlineLaws.{held}
use Rattle.dx_native_write.proofs.inline.inline_number.Goals as goal

pub returns-in_default : goal.returns-in_default
returns-in_default c = ap number_in (held c.args.object.now c.attributes.result.now c.attributes.ensures c.in_default.len_at_least)
