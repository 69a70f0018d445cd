use Rattle.std.proofs.Common.{List, ◌+◌, ◌*◌, ◌≤◌, [], drop, length}
use Rattle.dx_ast.specs.Plain.{plain_expr, plain_call, plain_args, plain_stmt, plain_stmts}
use Rattle.dx_macros.specs.Weight.{expr_weight, call_weight, args_weight, statement_weight, body_weight}
use Rattle.dx_graph.specs.GraphView.{graph_of}
use Rattle.dx_texts.specs.Expanding.{Ready, Grows, SameText, setting}
use Rattle.dx_texts.specs.Numbering.{HasNumbers, args_calls, body_calls}
use Rattle.dx_texts.proofs.Expansions.{ArgsSoFar, BodySoFar}
use Rattle.dx_texts.proofs.Measures.{cap}
use Rattle.dx_ast.specs.Classes.{Text as Name}
use Rattle.dx_texts.specs.Marks.{ArgsWalked, BodyWalked}
use Rattle.dx_texts.proofs.expansion.+expand.Given as goal

abbrev pub decreases-expand_expr : goal.decreases-expand_expr
decreases-expand_expr l = l.t.now.left * cap l.w.now + (3 * expr_weight (plain_expr l.e.now) + 1)

abbrev pub decreases-expand_call : goal.decreases-expand_call
decreases-expand_call l = l.t.now.left * cap l.w.now + 3 * call_weight (plain_call l.c.now)

abbrev pub decreases-expand_args : goal.decreases-expand_args
decreases-expand_args l = l.t.now.left * cap l.w.now + (3 * args_weight (plain_args l.args.now) + 1)

abbrev pub decreases-apply : goal.decreases-apply
decreases-apply l = l.t.now.left * cap l.w.now + 2

abbrev pub decreases-enter : goal.decreases-enter
decreases-enter l = l.t.now.left * cap l.w.now + 1

abbrev pub decreases-expand_body : goal.decreases-expand_body
decreases-expand_body l = l.t.now.left * cap l.w.now + (3 * body_weight [] (plain_stmts l.body.now) + 2)

abbrev pub decreases-expand_statement : goal.decreases-expand_statement
decreases-expand_statement l = l.t.now.left * cap l.w.now + (3 * statement_weight (plain_stmt l.s.now) + 2)

abbrev pub invariant-expand_args-loop-arg : goal.invariant-expand_args-loop-arg
invariant-expand_args-loop-arg l = record {
  grows : Grows l.initial.graph l.graph;
  few : HasNumbers l.graph (args_calls l.w l.t (plain_args (drop l.arg-index l.args)));
  adds : length (graph_of l.graph).nodes + args_calls l.w l.t (plain_args (drop l.arg-index l.args)) ≤ length (graph_of l.initial.graph).nodes + args_calls l.w l.t (plain_args l.args);
  walked : ArgsWalked l.w l.t (plain_args (drop l.arg-index l.args));
  so_far : ArgsSoFar (setting l.w l.t l.initial.graph) l.initial.before l.args l.initial.graph l.graph l.before l.given.items (drop l.arg-index l.args);
}

abbrev pub invariant-expand_body-loop-s : goal.invariant-expand_body-loop-s
invariant-expand_body-loop-s l = record {
  grows : Grows l.initial.graph l.graph;
  same : SameText l.initial.t l.t;
  ready : Ready l.w l.t l.graph;
  few : HasNumbers l.graph (body_calls l.w l.initial.t (plain_stmts (drop l.s-index l.body)));
  adds : length (graph_of l.graph).nodes + body_calls l.w l.initial.t (plain_stmts (drop l.s-index l.body)) ≤ length (graph_of l.initial.graph).nodes + body_calls l.w l.initial.t (plain_stmts l.body);
  walked : (results : List Name) → BodyWalked l.w l.initial.t results (plain_stmts l.body) → BodyWalked l.w l.t results (plain_stmts (drop l.s-index l.body));
  so_far : BodySoFar l.w (setting l.w l.initial.t l.initial.graph) l.body l.initial.graph l.graph l.t l.before (drop l.s-index l.body);
}
