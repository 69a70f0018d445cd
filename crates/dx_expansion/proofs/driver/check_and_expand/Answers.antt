use Rattle.std.proofs.Common.{length, refl, sym, ap, ap₂, ◌∙◌}
use Rattle.dx_ast.specs.declared.sequencing.Frames.{Frames}
use Rattle.dx_macros.specs.declared.dictionary.Dictionary.{Dictionary}
use Rattle.dx_macros.specs.DictionaryView.{dictionary_of}
use Rattle.dx_macros.specs.Expansion.{effects}
use Rattle.dx_base.specs.Places.{flags}
use Rattle.dx_ast.specs.Plain.{plain_stmt}
use Rattle.dx_macros.specs.Dictionary.{top_text}
use Rattle.dx_graph.specs.GraphView.{graph_of}
use Rattle.dx_texts.proofs.Adding.{no_effects}
use Rattle.dx_expansion.proofs.Driving.{first_rests, last_effects}
use Rattle.dx_expansion.proofs.Marked.{of_dictionary, reads_of}
use Rattle.dx_expansion.proofs.driver.check_and_expand.Goals as goal

pub returns-then-is_silent-clause-means : goal.returns-then-is_silent-clause-means
returns-then-is_silent-clause-means c =
    let text = top_text (plain_stmt c.args.s.now) in
    let w = c.new_world-w.result in
    let position = length (dictionary_of c.args.d.now).definitions in
    no_effects (graph_of c.new-graph.result) (ap (λ g. g.effects) c.new-graph.ensures.graph)
    ∙ sym (c.is_silent.ensures position cc)
    ∙ last_effects w w position text (record { dictionary = refl; frames = refl; places = refl }) (sym (ap (λ (x : Dictionary). length (dictionary_of x).definitions) c.new_world-w.ensures.dictionary))
    ∙ ap₂ (λ (x : Dictionary) (f : Frames). effects (dictionary_of x) f (plain_stmt c.args.s.now)) c.new_world-w.ensures.dictionary c.new_world-w.ensures.frames

pub expand_walked-requires-clause-rests : goal.expand_walked-requires-clause-rests
expand_walked-requires-clause-rests c =
    first_rests c.new_world-w.result c.new-graph.result c.args.d.now c.new_world-w.ensures.dictionary c.new_world-w.ensures.memo c.new-graph.ensures.graph

pub expand_walked-requires-clause-no_fault : goal.expand_walked-requires-clause-no_fault
expand_walked-requires-clause-no_fault c = of_dictionary c.args.d.now c.new_world-w.result.dictionary.now (plain_stmt c.args.s.now) c.new_world-w.ensures.dictionary c.in_ok-marks.ensures.fault

pub expand_walked-requires-clause-reads : goal.expand_walked-requires-clause-reads
expand_walked-requires-clause-reads c = reads_of c.args.d.now c.new_world-w.result.dictionary.now (plain_stmt c.args.s.now) (flags c.in_ok-marks.marks) c.new_world-w.ensures.dictionary c.in_ok-marks.ensures.reads

pub returns-clause-means : goal.returns-clause-means
returns-clause-means c =
    c.in_ok-expand_walked.ensures.means
    ∙ ap₂ (λ (x : Dictionary) (f : Frames). effects (dictionary_of x) f (plain_stmt c.args.s.now)) c.new_world-w.ensures.dictionary c.new_world-w.ensures.frames
