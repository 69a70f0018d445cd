-- The code's statements as plain ones.
use Rattle.std.proofs.Common.{◌≡◌, ◌∙◌, ap, sym, subst}
use Rattle.dx_ast.specs.declared.expressions.Call.{Call}
use Rattle.dx_ast.specs.declared.expressions.Expr.{Expr}
use Rattle.dx_ast.specs.declared.sequencing.FrameVar.{FrameVar}
use Rattle.dx_ast.specs.declared.sequencing.Word.{Word}
use Rattle.dx_ast.specs.declared.statements.Assign.{Assign}
use Rattle.dx_ast.specs.declared.statements.MacroDef.{MacroDef}
use Rattle.dx_ast.specs.declared.statements.Stmt.{Stmt}
use Rattle.dx_ast.specs.declared.statements.Stmt as shape
use Rattle.dx_ast.specs.declared.statements.Stmt.TheVariants as code
use Rattle.dx_ast.specs.Syntax as plain
use Rattle.dx_ast.specs.Plain.{plain_call, plain_expr, plain_stmt}
use Rattle.dx_ast.proofs.PlainLaws.{plain_stmt_out}

pub assign_is : (s : Stmt) (a : Assign) → s ≡ code.Assign a → plain_stmt s ≡ plain.Assigns a.targets (plain_expr a.value)
unfolding shape.out-Stmt denote.Hole.Carrier.out
assign_is s a is = ap plain_stmt is ∙ plain_stmt_out (code.Assign a)

pub call_is : (s : Stmt) (c : Call) → s ≡ code.Call c → plain_stmt s ≡ plain.Calls (plain_call c)
unfolding shape.out-Stmt denote.Hole.Carrier.out
call_is s c is = ap plain_stmt is ∙ plain_stmt_out (code.Call c)

-- it defines a macro
abbrev pub IsDefining : plain.Stmt → Type 0
IsDefining (plain.Defines m) = Unit {0}
IsDefining other = ⊥

pub macro_is : (s : Stmt) (m : MacroDef) → s ≡ code.Macro m → IsDefining (plain_stmt s)
unfolding shape.out-Stmt denote.Hole.Carrier.out
macro_is s m is = subst IsDefining (sym (ap plain_stmt is ∙ plain_stmt_out (code.Macro m))) tt

pub setting_is : (s : Stmt) (v : FrameVar) (e : Expr) → s ≡ code.SetFrame v e → plain_stmt s ≡ plain.Sets v (plain_expr e)
unfolding shape.out-Stmt denote.Hole.Carrier.out
setting_is s v e is = ap plain_stmt is ∙ plain_stmt_out (code.SetFrame v e)

pub word_is : (s : Stmt) (w : Word) → s ≡ code.Word w → plain_stmt s ≡ plain.Says w
unfolding shape.out-Stmt denote.Hole.Carrier.out
word_is s w is = ap plain_stmt is ∙ plain_stmt_out (code.Word w)

pub sequence_is : (s : Stmt) (c : Call) → s ≡ code.Sequence c → plain_stmt s ≡ plain.Sequences (plain_call c)
unfolding shape.out-Stmt denote.Hole.Carrier.out
sequence_is s c is = ap plain_stmt is ∙ plain_stmt_out (code.Sequence c)
