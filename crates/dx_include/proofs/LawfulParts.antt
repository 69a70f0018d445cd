-- Statements that are lawful, one by one.
use Rattle.std.proofs.Common.{◌≡◌, List, [], ◌∷◌, ◌++◌, subst}
use Rattle.dx_ast.specs.declared.statements.Stmt.{Stmt}
use Rattle.dx_ast.specs.Plain.{plain_stmt, plain_stmts}
use Rattle.dx_ast.specs.Lawful.{IsLawful, AreLawful}

abbrev All : List Stmt → Type 0
All statements = AreLawful (plain_stmts statements)

pub lawful_head : (all : List Stmt) (s : Stmt) (others : List Stmt) → all ≡ s ∷ others → AreLawful (plain_stmts all) → IsLawful (plain_stmt s)
lawful_head all s others is h = let split : All (s ∷ others) = subst All is h in split.0

pub lawful_tail : (all : List Stmt) (s : Stmt) (others : List Stmt) → all ≡ s ∷ others → AreLawful (plain_stmts all) → AreLawful (plain_stmts others)
lawful_tail all s others is h = let split : All (s ∷ others) = subst All is h in split.1

pub lawful_push : (all : List Stmt) (s : Stmt) → AreLawful (plain_stmts all) → IsLawful (plain_stmt s) → AreLawful (plain_stmts (all ++ s ∷ []))
lawful_push [] s h one = (one, tt)
lawful_push (x ∷ xs) s h one = (h.0, lawful_push xs s h.1 one)
