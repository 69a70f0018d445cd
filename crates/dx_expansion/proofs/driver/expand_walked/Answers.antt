use Rattle.std.proofs.Common.{◌≡◌, ◌∙◌, ◌++◌, List, Result, Ok, Err, OnOk, length, ap, arith}
use Rattle.dx_ast.specs.Plain.{plain_stmt}
use Rattle.dx_base.specs.Places.{flags}
use Rattle.dx_macros.specs.declared.dictionary.Dictionary.{Dictionary}
use Rattle.dx_macros.specs.DictionaryView.{dictionary_of}
use Rattle.dx_macros.specs.Dictionary.{top_text}
use Rattle.dx_macros.specs.Expansion.{effects}
use Rattle.dx_macros.specs.Tree.{CallTree}
use Rattle.dx_graph.specs.Graph.{Graph}
use Rattle.dx_graph.specs.GraphView.{graph_of}
use Rattle.dx_graph.specs.Unfolding.{unfolded}
use Rattle.dx_expansion.specs.Driving.{effects_in}
use Rattle.dx_texts.specs.Expanding.{dictionary_in}
use Rattle.dx_expansion.proofs.Counted.{all_few, same_text_calls}
use Rattle.dx_texts.proofs.Adding.{no_effects}
use Rattle.dx_expansion.proofs.Driving.{last_effects}
use Rattle.dx_expansion.proofs.Marked.{all_walked, last_walked}
use Rattle.dx_expansion.proofs.driver.expand_walked.Goals as goal

pub define_marked-requires-clause-walked : goal.define_marked-requires-clause-walked
define_marked-requires-clause-walked c = all_walked c.args.w.now (plain_stmt c.args.s.now) (flags c.args.marks.now) c.requires.no_fault c.requires.reads

pub define_marked-requires-clause-few : goal.define_marked-requires-clause-few
define_marked-requires-clause-few c =
    let few = all_few (dictionary_in c.args.w.now) (plain_stmt c.args.s.now) (flags c.args.marks.now) c.requires.no_fault c.requires.reads in
    omega (arith, few, ap (λ (g : Graph). length g.nodes) c.requires.empty)

pub expand_last-requires-clause-few : goal.expand_last-requires-clause-few
expand_last-requires-clause-few c =
    let few = all_few (dictionary_in c.args.w.now) (plain_stmt c.args.s.now) (flags c.args.marks.now) c.requires.no_fault c.requires.reads in
    let same = same_text_calls c.args.w.now c.define_marked.new.w (top_text (plain_stmt c.args.s.now)) c.in_ok-define_marked.ensures.same in
    omega (arith, few, same, c.in_ok-define_marked.ensures.adds, ap (λ (g : Graph). length g.nodes) c.requires.empty)

pub expand_last-requires-clause-walked : goal.expand_last-requires-clause-walked
expand_last-requires-clause-walked c = λ t text.
    let same = c.in_ok-define_marked.ensures.same in
    last_walked c.args.w.now c.define_marked.new.w (plain_stmt c.args.s.now) t c.len.result (flags c.args.marks.now) same
    (c.len.ensures ∙ ap (λ (x : Dictionary). length (dictionary_of x).definitions) same.dictionary)
    c.requires.no_fault c.requires.reads c.in_ok-define_marked.ensures.known text

comes_to : {A E : Type 0} (r : Result A E) (new made effects : List CallTree) → made ≡ effects → OnOk r (new ≡ made) → OnOk r (new ≡ effects)
comes_to (Ok x) new made effects e h = h ∙ e
comes_to (Err x) new made effects e h = h

pub returns : goal.returns
returns c =
    let text = top_text (plain_stmt c.args.s.now) in
    let w = c.define_marked.new.w in
    let mid = graph_of c.define_marked.new.graph in
    let same = c.in_ok-define_marked.ensures.same in
    let last = last_effects c.args.w.now w c.len.result text same (c.len.ensures ∙ ap (λ (x : Dictionary). length (dictionary_of x).definitions) same.dictionary) in
    let before = ap (λ (before : List CallTree). before ++ effects_in text w c.len.result) (no_effects mid c.in_ok-define_marked.ensures.rests.effects) in
    let means : unfolded mid ++ effects_in text w c.len.result ≡ effects (dictionary_in c.args.w.now) c.args.w.now.frames (plain_stmt c.args.s.now) = before ∙ last in
    record { means = comes_to c.expand_last.result _ _ _ means c.expand_last.ensures.expands }
