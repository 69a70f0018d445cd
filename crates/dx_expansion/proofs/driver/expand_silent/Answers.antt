use Rattle.std.proofs.Common.{length, refl, sym, ap, ap₂, ◌∙◌}
use Rattle.dx_ast.specs.declared.sequencing.Frames.{Frames}
use Rattle.dx_ast.specs.Plain.{plain_stmt}
use Rattle.dx_macros.specs.declared.dictionary.Dictionary.{Dictionary}
use Rattle.dx_macros.specs.DictionaryView.{dictionary_of}
use Rattle.dx_macros.specs.Dictionary.{top_text}
use Rattle.dx_macros.specs.Expansion.{effects}
use Rattle.dx_graph.specs.GraphView.{graph_of}
use Rattle.dx_texts.proofs.Adding.{no_effects}
use Rattle.dx_expansion.proofs.Driving.{last_effects}
use Rattle.dx_expansion.proofs.driver.expand_silent.Goals as goal

pub returns : goal.returns
returns c =
    let text = top_text (plain_stmt c.args.s.now) in
    let w = c.new_world-w.result in
    let position = length (dictionary_of c.args.d.now).definitions in
    no_effects (graph_of c.new.result) (ap (λ g. g.effects) c.new.ensures.graph)
    ∙ sym (c.is_silent.ensures position cc)
    ∙ last_effects w w position text (record { dictionary = refl; frames = refl; places = refl }) (sym (ap (λ (x : Dictionary). length (dictionary_of x).definitions) c.new_world-w.ensures.dictionary))
    ∙ ap₂ (λ (x : Dictionary) (f : Frames). effects (dictionary_of x) f (plain_stmt c.args.s.now)) c.new_world-w.ensures.dictionary c.new_world-w.ensures.frames
