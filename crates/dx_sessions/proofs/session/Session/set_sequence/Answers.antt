use Rattle.std.proofs.Common.{refl, sym, ap, subst}
use Rattle.dx_ast.specs.declared.statements.Stmt.TheVariants as code
use Rattle.dx_ast.specs.Syntax.{Stmt}
use Rattle.dx_shown.specs.Session.{with_sequence}
use Rattle.dx_sessions.specs.Sequence.{IsSequenceCall}
use Rattle.dx_sessions.specs.SessionView.{state_of}
use Rattle.dx_sessions.proofs.Statements.{sequence_is}
use Rattle.dx_sessions.proofs.session.Session.set_sequence.Goals as goal

pub invariant_of-self : goal.invariant_of-self
invariant_of-self c = record { lawful = ∣ subst IsSequenceCall (sym (sequence_is (code.Sequence c.args.c) c.args.c refl)) c.requires ∣₁ }

pub returns-clause-sequence : goal.returns-clause-sequence
returns-clause-sequence c = ap (λ (s : Stmt). with_sequence s (state_of c.args.self.now)) (sequence_is (code.Sequence c.args.c) c.args.c refl)
