-- How much of a look at a text is left: each look within it has less.
use Rattle.std.proofs.Common.{◌≡◌, ℕ, ◌+◌, ◌*◌, ◌<◌, ◌≤◌, List, [], Some, sym, ap, ◌∙◌, arith}
use Rattle.dx_ast.specs.declared.statements.Stmt.{Stmt}
use Rattle.dx_ast.specs.declared.statements.MacroDef.{MacroDef, out-MacroDef}
use Rattle.dx_ast.specs.Classes.{Text as Name}
use Rattle.dx_ast.specs.Plain.{plain_macro, plain_stmts}
use Rattle.dx_ast.specs.Syntax as plain
use Rattle.dx_ast.proofs.PlainLaws.{plain_macro_out}
use Rattle.dx_macros.specs.Bound.{bound_of}
use Rattle.dx_macros.specs.DictionaryView.{dictionary_of}
use Rattle.dx_macros.specs.Weight.{body_weight, macro_weight}
use Rattle.dx_macros.specs.declared.dictionary.Dictionary.{Dictionary}
use Rattle.dx_macros.proofs.Weights.{bounded}

-- more than the body of a macro has
pub cap : Dictionary → ℕ
cap d = 3 * bound_of d + 3

shorter : (results : List Name) (body : plain.Stmts) → body_weight [] body ≤ body_weight results body
shorter results plain.NoStmt = omega arith
shorter results (plain.AndStmt s rest) = let h = shorter results rest in omega (arith, h)

pub in_macro : (d : Dictionary) (name : Name) (m : MacroDef) (body : List Stmt) → (dictionary_of d).macros name ≡ Some (plain_macro m) → body ≡ (out-MacroDef m).body → 3 * body_weight [] (plain_stmts body) + 2 < cap d
unfolding cap
in_macro d name m body known e =
    let same = ap macro_weight (plain_macro_out m) in
    let parts = ap (λ (xs : List Stmt). body_weight [] (plain_stmts xs)) e in
    let less = shorter (out-MacroDef m).results (plain_stmts (out-MacroDef m).body) in
    let small = (bounded d).macros name (plain_macro m) known in
    omega (arith, same, parts, less, small)

-- one macro step less pays for a body
pub one_less : (left inner n : ℕ) (d : Dictionary) → inner + 1 ≡ left → n < cap d → inner * cap d + n < left * cap d + 1
one_less left inner n d e h =
    let same : left * cap d ≡ inner * cap d + cap d = ap (λ (k : ℕ). k * cap d) (sym e) ∙ more_by inner (cap d) in
    omega (arith, same, h)
  where
    more_by : (k c : ℕ) → (k + 1) * c ≡ k * c + c
    more_by k c = grind arith
