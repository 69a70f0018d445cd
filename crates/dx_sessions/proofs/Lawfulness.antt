-- Calls that are lawful, even where it isn't told how, can be told again.
use Rattle.std.proofs.Common.{◌≡◌, Option, Some, None, subst}
use Rattle.std.proofs.Math.Logic.{∥∥₁_elim, ∥∥₁_map}
use Rattle.std.proofs.Props.{props}
use Rattle.dx_ast.specs.declared.statements.Stmt.{Stmt}
use Rattle.dx_ast.specs.Classes.{Text}
use Rattle.dx_ast.specs.Syntax as plain
use Rattle.dx_ast.specs.Syntax.{Expr, Constant, Name, Frame, CallOf, Call, MakeCall, Args, NoArg, AndArg}
use Rattle.dx_ast.specs.Plain.{plain_stmt}
use Rattle.dx_ast.specs.Lawful.{HasName, IsLawfulArgName, AllNamed, IsInOrder, IsLawfulExpr, IsLawfulCall, AreLawfulArgs, IsLawful}
use Rattle.dx_consts.proofs.LawfulConst.{lawful_of}
use Rattle.dx_sessions.specs.Sequence.{IsSequence, IsSequenceCall}

-- ---- calls

has_name_there : (n : Option Text) → ∥ HasName n ∥₁ → HasName n
has_name_there None t = ∥∥₁_elim t (hlevel props) (λ h. h)
has_name_there (Some n) t = tt

all_named_there : (args : Args) → ∥ AllNamed args ∥₁ → AllNamed args
all_named_there NoArg t = tt
all_named_there (AndArg n e rest) t = (has_name_there n (∥∥₁_map t (λ h. h.0)), all_named_there rest (∥∥₁_map t (λ h. h.1)))

in_order_there : (args : Args) → ∥ IsInOrder args ∥₁ → IsInOrder args
in_order_there NoArg t = tt
in_order_there (AndArg None e rest) t = in_order_there rest t
in_order_there (AndArg (Some n) e rest) t = all_named_there rest t

arg_name_there : (n : Option Text) → ∥ IsLawfulArgName n ∥₁ → IsLawfulArgName n
arg_name_there None t = tt
arg_name_there (Some n) t = ∥∥₁_elim t (hlevel props) (λ h. h)

mutual
  expr_there : (e : Expr) → ∥ IsLawfulExpr e ∥₁ → IsLawfulExpr e
  expr_there (Constant c) t = lawful_of c t
  expr_there (Name n) t = ∥∥₁_elim t (hlevel props) (λ h. h)
  expr_there (Frame v) t = tt
  expr_there (CallOf c) t = call_there c t

  call_there : (c : Call) → ∥ IsLawfulCall c ∥₁ → IsLawfulCall c
  call_there (MakeCall name cache args) t =
      (∥∥₁_elim t (hlevel props) (λ h. h.0), ∥∥₁_elim t (hlevel props) (λ h. h.1), in_order_there args (∥∥₁_map t (λ h. h.2)), args_there args (∥∥₁_map t (λ h. h.3)))

  args_there : (args : Args) → ∥ AreLawfulArgs args ∥₁ → AreLawfulArgs args
  args_there NoArg t = tt
  args_there (AndArg n e rest) t = (arg_name_there n (∥∥₁_map t (λ h. h.0)), expr_there e (∥∥₁_map t (λ h. h.1)), args_there rest (∥∥₁_map t (λ h. h.2)))

-- ---- the sequence call

lawful_by : (s : plain.Stmt) → ∥ IsSequenceCall s ∥₁ → IsLawful s
lawful_by (plain.Sequences c) t = call_there c t
lawful_by (plain.Assigns targets e) t = absurd (∥∥₁_elim t (hlevel props) (λ h. h))
lawful_by (plain.Calls c) t = absurd (∥∥₁_elim t (hlevel props) (λ h. h))
lawful_by (plain.Defines m) t = absurd (∥∥₁_elim t (hlevel props) (λ h. h))
lawful_by (plain.Includes name) t = absurd (∥∥₁_elim t (hlevel props) (λ h. h))
lawful_by (plain.Sets v e) t = absurd (∥∥₁_elim t (hlevel props) (λ h. h))
lawful_by (plain.Says w) t = absurd (∥∥₁_elim t (hlevel props) (λ h. h))

-- it can be executed
pub lawful_sequence : (sequence : Option Stmt) (s : Stmt) → ∥ IsSequence sequence ∥₁ → sequence ≡ Some s → IsLawful (plain_stmt s)
lawful_sequence sequence s t is = lawful_by (plain_stmt s) (subst (λ (o : Option Stmt). ∥ IsSequence o ∥₁) is t)
