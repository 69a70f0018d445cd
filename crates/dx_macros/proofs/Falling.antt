-- What the pushes of one step weigh.
use Rattle.std.proofs.Common.{◌≡◌, ℕ, suc, ◌+◌, ◌<◌, ◌≤◌, List, [], ◌∷◌, length, refl, ap, ap₂, ◌∙◌, arith}
use Rattle.std.specs.Prelude.{Result, Ok}
use Rattle.dx_ast.specs.declared.expressions.Arg.{Arg}
use Rattle.dx_ast.specs.declared.expressions.Call.{Call, out-Call}
use Rattle.dx_ast.specs.declared.statements.Assign.{Assign}
use Rattle.dx_ast.specs.declared.statements.Stmt.{Stmt}
use Rattle.dx_ast.specs.declared.statements.Stmt.TheVariants as stmt
use Rattle.dx_ast.specs.declared.statements.MacroDef.{MacroDef, out-MacroDef}
use Rattle.dx_ast.specs.Classes.{Text}
use Rattle.dx_ast.specs.Plain.{plain_expr, plain_call, plain_args, plain_macro, plain_stmt, plain_stmts}
use Rattle.dx_ast.specs.Syntax as plain
use Rattle.dx_ast.proofs.PlainLaws.{plain_call_out, plain_macro_out}
use Rattle.dx_macros.specs.Dictionary.{Dictionary}
use Rattle.dx_macros.specs.MachineView.{plain_job, IsPushed, PushesJob}
use Rattle.dx_macros.specs.Weight.{expr_weight, call_weight, args_weight, statement_weight, body_weight, macro_weight, job_weight, FallsTo, Falls}
use Rattle.dx_macros.specs.declared.machine.Job.{Job}
use Rattle.dx_macros.specs.declared.machine.Machine.{Machine}
use Rattle.dx_macros.specs.declared.machine.Stop.{Stop}
use Rattle.dx_macros.proofs.Doing.{stmt_call, stmt_assign}
use Rattle.dx_macros.proofs.Weights.{push_falls, pushed_falls, wider}

-- ---- pushes

pub one_pushed : (d : Dictionary) (w : ℕ) (old new : Machine) (j : Job) → IsPushed old j new → job_weight (plain_job j) < w → FallsTo d w old new
one_pushed d w old new j p h = push_falls {A = Unit {0}} d w old new j (Ok tt) p h

pub two_pushed : {A : Type 0} (d : Dictionary) (w : ℕ) (old mid new : Machine) (i j : Job) (r : Result A Stop) → IsPushed old i mid → PushesJob mid j r new →
    job_weight (plain_job i) + job_weight (plain_job j) < w → Falls d w old r new
two_pushed d w old mid new i j r p q h =
    let first = suc (job_weight (plain_job j)) in
    wider d (first + job_weight (plain_job i)) w old new r (pushed_falls d first old mid new i r p (push_falls d first mid new j r q (omega arith))) (omega (arith, h))

pub three_pushed : {A : Type 0} (d : Dictionary) (w : ℕ) (a b c new : Machine) (i j k : Job) (r : Result A Stop) → IsPushed a i b → IsPushed b j c → PushesJob c k r new →
    job_weight (plain_job i) + (job_weight (plain_job j) + job_weight (plain_job k)) < w → Falls d w a r new
three_pushed d w a b c new i j k r p q s h =
    let last = suc (job_weight (plain_job j) + job_weight (plain_job k)) in
    wider d (last + job_weight (plain_job i)) w a new r (pushed_falls d last a b new i r p (two_pushed d last b c new j k r q s (omega arith))) (omega (arith, h))

-- ---- the parts of what is walked

pub args_parts : (args others : List Arg) (a : Arg) → args ≡ a ∷ others → args_weight (plain_args others) + expr_weight (plain_expr a.value) < args_weight (plain_args args)
args_parts args others a e =
    let same : args_weight (plain_args args) ≡ suc (expr_weight (plain_expr a.value) + args_weight (plain_args others)) = ap (λ (xs : List Arg). args_weight (plain_args xs)) e in
    omega (arith, same)

pub body_end : (results : List Text) (ss : List Stmt) → length ss ≡ 0 → suc (length results) < body_weight results (plain_stmts ss)
body_end results [] e = omega arith
body_end results (s ∷ rest) e = absurd (omega arith)

body_first : (results : List Text) (ss others : List Stmt) (s : Stmt) (x : plain.Stmt) → ss ≡ s ∷ others → plain_stmt s ≡ x → body_weight results (plain_stmts ss) ≡ suc (statement_weight x + body_weight results (plain_stmts others))
body_first results ss others s x e h =
    ap (λ (xs : List Stmt). body_weight results (plain_stmts xs)) e
    ∙ ap (λ (y : plain.Stmt). suc (statement_weight y + body_weight results (plain_stmts others))) h

pub body_call_parts : (results : List Text) (ss others : List Stmt) (s : Stmt) (c : Call) → ss ≡ s ∷ others → s ≡ stmt.Call c → body_weight results (plain_stmts others) + call_weight (plain_call c) < body_weight results (plain_stmts ss)
body_call_parts results ss others s c e h =
    let same = body_first results ss others s (plain.Calls (plain_call c)) e (ap plain_stmt h ∙ stmt_call c) in
    omega (arith, same)

pub body_assign_parts : (results : List Text) (ss others : List Stmt) (s : Stmt) (a : Assign) → ss ≡ s ∷ others → s ≡ stmt.Assign a → body_weight results (plain_stmts others) + (1 + expr_weight (plain_expr a.value)) < body_weight results (plain_stmts ss)
body_assign_parts results ss others s a e h =
    let same = body_first results ss others s (plain.Assigns a.targets (plain_expr a.value)) e (ap plain_stmt h ∙ stmt_assign a) in
    omega (arith, same)

pub body_other_parts : (results : List Text) (ss others : List Stmt) (s : Stmt) → ss ≡ s ∷ others → body_weight results (plain_stmts others) < body_weight results (plain_stmts ss)
body_other_parts results ss others s e =
    let same = body_first results ss others s (plain_stmt s) e refl in
    omega (arith, same)

pub names_parts : (ns others : List Text) (n : Text) → ns ≡ n ∷ others → 1 + suc (length others) ≤ suc (length ns)
names_parts ns others n e =
    let same : length ns ≡ suc (length others) = ap length e in
    omega (arith, same)

pub macro_parts : (x : MacroDef) (rs : List Text) (ss : List Stmt) → rs ≡ (out-MacroDef x).results → ss ≡ (out-MacroDef x).body → suc (body_weight rs (plain_stmts ss)) + 1 ≤ macro_weight (plain_macro x)
macro_parts x rs ss e h =
    let same = ap macro_weight (plain_macro_out x) in
    let parts = ap₂ (λ (us : List Text) (vs : List Stmt). body_weight us (plain_stmts vs)) e h in
    omega (arith, same, parts)

pub call_parts : (c : Call) → args_weight (plain_args (out-Call c).args) < call_weight (plain_call c)
call_parts c =
    let same = ap call_weight (plain_call_out c) in
    omega (arith, same)
