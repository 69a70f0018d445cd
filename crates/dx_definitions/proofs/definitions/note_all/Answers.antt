use Rattle.std.proofs.Common.{◌∙◌, ◌+◌, drop, ap, sym, subst, arith}
use Rattle.dx_definitions.specs.Index.{Index, index_of, noted, Indexes}
use Rattle.dx_definitions.proofs.Noting.{keeps_note, note_next}
use Rattle.dx_definitions.proofs.definitions.note_all.Goals as goal

pub returns-in_err-note-clause-keeps : goal.returns-in_err-note-clause-keeps
returns-in_err-note-clause-keeps c = λ defs l all. subst (λ (index : Index). Indexes index defs) (sym c.in_err-note.ensures.err) (c.loop-n.invariant.keeps defs l all)

pub loop-n-preserved : goal.loop-n-preserved
loop-n-preserved c =
    let old = index_of c.loop-n.positions in
    let names = c.args.names.now in
    let position = c.args.position in
    let grown = c.in_ok-note.ensures.ok in
    let step = note_next names c.loop-n.n-index (c.loop-n.n-index + 1) c.n-item.result c.bytes.result.now old position c.loop-n-test.true c.n-item.is c.bytes.ensures (omega arith) in
    record {
      ok = ap (λ (index : Index). noted index (drop (c.loop-n.n-index + 1) names) position) grown ∙ step ∙ c.loop-n.invariant.ok;
      keeps = λ defs l all. keeps_note old (index_of c.note.new.positions) c.bytes.result.now position defs grown l (c.loop-n.invariant.keeps defs l all);
    }
