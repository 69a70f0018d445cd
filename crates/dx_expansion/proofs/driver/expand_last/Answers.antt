use Rattle.std.proofs.Common.{◌≡◌, ◌∙◌, ◌++◌, Option, Some, OnOk, sym, ap, subst, append-nil}
use Rattle.dx_ast.proofs.PlainLaws.{plain_stmt_out, stmt_layer}
use Rattle.dx_ast.specs.Plain.{plain_stmt, plain_call}
use Rattle.dx_ast.specs.Lawful.{IsLawful}
use Rattle.dx_ast.specs.Syntax.{Sequences}
use Rattle.dx_ast.specs.declared.expressions.Call.{Call}
use Rattle.dx_ast.specs.declared.statements.Assign.{Assign}
use Rattle.dx_ast.specs.declared.statements.Stmt.{Stmt}
use Rattle.dx_ast.specs.declared.statements.Stmt.TheVariants as stmt
use Rattle.dx_counting.specs.Counting.{count_in}
use Rattle.dx_definitions.specs.TopTexts.{TopText}
use Rattle.dx_definitions.specs.Index.{text_of}
use Rattle.dx_macros.specs.Dictionary.{top_text, of_call}
use Rattle.dx_macros.proofs.Doing.{stmt_call, stmt_assign, no_text}
use Rattle.dx_graph.specs.GraphView.{graph_of}
use Rattle.dx_graph.specs.Unfolding.{unfolded}
use Rattle.dx_expansion.specs.Driving.{effects_in}
use Rattle.dx_texts.specs.Expanding.{dictionary_in}
use Rattle.dx_texts.specs.Numbering.{HasNumbers}
use Rattle.dx_expansion.proofs.driver.expand_last.Goals as goal

is_call : (s : Stmt) (c : Call) → s ≡ stmt.Call c → top_text (plain_stmt s) ≡ Some (of_call (plain_call c))
is_call s c is = ap top_text (ap plain_stmt is ∙ stmt_call c)

stmt_sequence : (c : Call) → plain_stmt (stmt.Sequence c) ≡ Sequences (plain_call c)
stmt_sequence c = plain_stmt_out (stmt.Sequence c) ∙ ap stmt_layer (stmt.outs-Sequence c)

is_sequence : (s : Stmt) (c : Call) → s ≡ stmt.Sequence c → top_text (plain_stmt s) ≡ Some (of_call (plain_call c))
is_sequence s c is = ap top_text (ap plain_stmt is ∙ stmt_sequence c)

is_assign : (s : Stmt) (a : Assign) → s ≡ stmt.Assign a → top_text (plain_stmt s) ≡ Some (text_of a)
is_assign s a is = ap top_text (ap plain_stmt is ∙ stmt_assign a)

pub expand_top_call-requires : goal.expand_top_call-requires
expand_top_call-requires c =
    let text = is_call c.args.s.now c.in-Call.c c.in-Call.is in
    record {
      memo = c.requires.memo;
      lawful = ∣ subst IsLawful (ap plain_stmt c.in-Call.is ∙ stmt_call c.in-Call.c) c.requires.lawful ∣₁;
      walked = c.requires.walked _ text;
      few = subst (λ (t : Option TopText). HasNumbers c.args.graph.now (count_in (dictionary_in c.args.w.now).macros t)) text c.requires.few;
    }

pub expand_top_call-requires-in-Sequence : goal.expand_top_call-requires-in-Sequence
expand_top_call-requires-in-Sequence c =
    let text = is_sequence c.args.s.now c.in-Sequence.c c.in-Sequence.is in
    record {
      memo = c.requires.memo;
      lawful = ∣ subst IsLawful (ap plain_stmt c.in-Sequence.is ∙ stmt_sequence c.in-Sequence.c) c.requires.lawful ∣₁;
      walked = c.requires.walked _ text;
      few = subst (λ (t : Option TopText). HasNumbers c.args.graph.now (count_in (dictionary_in c.args.w.now).macros t)) text c.requires.few;
    }

pub expand_assign-requires : goal.expand_assign-requires
expand_assign-requires c =
    let text = is_assign c.args.s.now c.in-Assign.a c.in-Assign.is in
    let lawful = subst IsLawful (ap plain_stmt c.in-Assign.is ∙ stmt_assign c.in-Assign.a) c.requires.lawful in
    record {
      memo = c.requires.memo;
      names = ∣ lawful.names ∣₁;
      lawful = ∣ lawful.value ∣₁;
      walked = c.requires.walked _ text;
      few = subst (λ (t : Option TopText). HasNumbers c.args.graph.now (count_in (dictionary_in c.args.w.now).macros t)) text c.requires.few;
    }

pub returns-in-Call-clause-expands : goal.returns-in-Call-clause-expands
returns-in-Call-clause-expands c =
    let old = unfolded (graph_of c.args.graph.now) in
    let new = unfolded (graph_of c.expand_top_call.new.graph) in
    subst (λ (t : Option TopText). OnOk c.expand_top_call.result (new ≡ old ++ effects_in t c.args.w.now c.args.position)) (sym (is_call c.args.s.now c.in-Call.c c.in-Call.is)) c.expand_top_call.ensures.expands

pub returns-in-Sequence-clause-expands : goal.returns-in-Sequence-clause-expands
returns-in-Sequence-clause-expands c =
    let old = unfolded (graph_of c.args.graph.now) in
    let new = unfolded (graph_of c.expand_top_call-in-Sequence.new.graph) in
    subst (λ (t : Option TopText). OnOk c.expand_top_call-in-Sequence.result (new ≡ old ++ effects_in t c.args.w.now c.args.position)) (sym (is_sequence c.args.s.now c.in-Sequence.c c.in-Sequence.is)) c.expand_top_call-in-Sequence.ensures.expands

pub returns-in_ok-expand_assign-in-Assign-clause-expands : goal.returns-in_ok-expand_assign-in-Assign-clause-expands
returns-in_ok-expand_assign-in-Assign-clause-expands c =
    let old = unfolded (graph_of c.args.graph.now) in
    c.in_ok-expand_assign-in-Assign.ensures.expands.effects ∙ ap (λ (t : Option TopText). old ++ effects_in t c.args.w.now c.args.position) (sym (is_assign c.args.s.now c.in-Assign.a c.in-Assign.is))

pub returns-in_default-clause-expands : goal.returns-in_default-clause-expands
returns-in_default-clause-expands c =
    let none = no_text c.args.s.now c.in_default.not-Assign c.in_default.not-Call c.in_default.not-Sequence in
    let old = unfolded (graph_of c.args.graph.now) in
    sym (append-nil old) ∙ sym (ap (λ (t : Option TopText). old ++ effects_in t c.args.w.now c.args.position) none)
