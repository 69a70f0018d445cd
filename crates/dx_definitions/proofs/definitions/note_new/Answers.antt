use Rattle.std.proofs.Common.{◌≡◌, ◌<◌, ◌+◌, ◌∙◌, suc, List, map, length, ap, sym, arith}
use Rattle.std.proofs.lemmas.List.{length-map}
use Rattle.dx_ast.specs.Classes.{Text}
use Rattle.dx_definitions.specs.TopTexts.{TopText}
use Rattle.dx_definitions.specs.Index.{text_of, index_of, noted}
use Rattle.dx_definitions.proofs.Finding.{definition_at}
use Rattle.dx_definitions.proofs.Indexing.{index_next, index_kept}
use Rattle.dx_definitions.proofs.definitions.note_new.Goals as goal

pub loop-noted-preserved : goal.loop-noted-preserved
loop-noted-preserved c =
    let list = c.args.definitions.now in
    let n = c.loop-noted.noted in
    let old = index_of c.loop-noted.positions in
    let next : n + 1 ≡ suc n = omega arith in
    let here : n < length list = omega arith in
    let targets = ap (λ (t : TopText). t.targets) (definition_at list n c.index-definitions-noted.result here c.index-definitions-noted.is) in
    index_next (map text_of list) n (n + 1) old (index_of c.note_all.new.positions) next (omega (arith, here, length-map list text_of))
    (c.in-Ok.ensures.ok ∙ ap (λ (names : List Text). noted old names n) (c.as_slice.ensures ∙ sym targets)) c.loop-noted.invariant

pub returns-in-Err : goal.returns-in-Err
returns-in-Err c = index_kept (map text_of c.args.definitions.now) c.loop-noted.noted (index_of c.loop-noted.positions) (index_of c.note_all.new.positions) c.note_all.ensures.keeps c.loop-noted.invariant
