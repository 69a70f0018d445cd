use Rattle.std.proofs.Common.{◌-◌, ◌∙◌, sym, map, arith}
use Rattle.dx_definitions.specs.Index.{text_of}
use Rattle.dx_definitions.proofs.Finding.{has_at}
use Rattle.dx_definitions.proofs.Looking.{last_here}
use Rattle.dx_definitions.proofs.definitions.right_before.Goals as goal

pub returns-then-has_text-clause-last : goal.returns-then-has_text-clause-last
returns-then-has_text-clause-last c =
    let defs = c.args.definitions.now in
    let here = has_at defs _ c.in-Some.a.now c.as_slice.result.now c.args.name.now _ c.in-Some.ensures.lookup.3.0 c.in-Some.ensures.lookup.1 c.as_slice.ensures (sym c.has_text.ensures ∙ c.if-has_text.true) in
    last_here (map text_of defs) c.args.position (c.args.position - 1) c.args.name.now (omega arith) here
