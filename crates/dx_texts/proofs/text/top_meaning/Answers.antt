use Rattle.std.proofs.Common.{◌∙◌, sym, ap, ℕ, List}
use Rattle.dx_ast.specs.Classes.{Text}
use Rattle.dx_definitions.specs.TopTexts.{TopText}
use Rattle.dx_texts.specs.Expanding.{top_results, last_target}
use Rattle.dx_graph.specs.Operands.{Gives}
use Rattle.dx_texts.proofs.TopLevel.{unbound, bound_at}
use Rattle.dx_texts.proofs.Parts.{result_known}
use Rattle.dx_texts.proofs.text.top_meaning.Goals as goal

pub returns-in-None : goal.returns-in-None
returns-in-None c = λ nodes memo. record { fits = tt; tree = sym (unbound c.args.w.now c.args.position c.args.name.now (sym c.last_before.ensures.last ∙ c.in-None.is)) }

pub returns-in-Some-get : goal.returns-in-Some-get
returns-in-Some-get c = λ nodes memo.
    let w = c.args.w.now in
    let i = c.in-Some.i in
    let name = c.args.name.now in
    let here = bound_at w c.args.position i name (sym c.last_before.ensures.last ∙ c.in-Some.is) in
    let targets = c.as_slice-targets.ensures ∙ ap (λ (t : TopText). t.targets) c.definition.ensures in
    let gives : Gives nodes c.in-Some-get.r.now (top_results w i) = memo i c.in-Some-get.r.now (sym c.in-Some-get.ensures) in
    record {
      fits = c.at.ensures.fits nodes gives.fits;
      tree = c.at.ensures.tree nodes
          ∙ ap (λ (f : ℕ → _). f c.last_target.result) gives.trees
          ∙ ap (top_results w i) (c.last_target.ensures ∙ ap (λ (ts : List Text). last_target ts 0 0 name) targets)
          ∙ sym here;
    }

pub unreachable-requires : goal.unreachable-requires
unreachable-requires c =
    let w = c.args.w.now in
    result_known w c.args.position c.in-Some.i c.args.name.now c.requires.walked (sym c.last_before.ensures.last ∙ c.in-Some.is) (sym c.in-None-get.ensures)
