use Rattle.std.proofs.Common.{arith, refl}
use Rattle.dx_ast.specs.Plain.{plain_call}
use Rattle.dx_macros.specs.Dictionary.{of_call}
use Rattle.dx_graph.proofs.Sites.{no_steps_lawful}
use Rattle.dx_expansion.proofs.Driving.{at_top}
use Rattle.dx_texts.proofs.Parts.{expr_call}
use Rattle.dx_ast.specs.Syntax.{CallOf}
use Rattle.dx_expansion.proofs.driver.expand_top_call.Goals as goal

pub expand_call-requires-clause-ready : goal.expand_call-requires-clause-ready
expand_call-requires-clause-ready c = c.text_at_top-text.ensures.ready c.args.graph.now c.requires.memo (omega arith) ∣ no_steps_lawful 64 (omega arith) ∣₁

pub expand_call-requires-clause-walked : goal.expand_call-requires-clause-walked
expand_call-requires-clause-walked c = expr_call c.args.w.now c.text_at_top-text.result (CallOf (plain_call c.args.c.now)) (plain_call c.args.c.now) refl (c.text_at_top-text.ensures.walked (of_call (plain_call c.args.c.now)) c.requires.walked)

pub expand_call-requires-clause-few : goal.expand_call-requires-clause-few
expand_call-requires-clause-few c = omega (arith, c.requires.few, c.text_at_top-text.ensures.calls (of_call (plain_call c.args.c.now)))

pub returns-clause-expands : goal.returns-clause-expands
returns-clause-expands c =
    let old = c.args.graph.now in
    let e = at_top c.args.w.now c.args.position (of_call (plain_call c.args.c.now)) _ _ _ old old c.expand_call.new.graph _ c.new-before.ensures (c.text_at_top-text.ensures.setting old) refl refl c.in_ok-expand_call.ensures.expands in
    e.effects
