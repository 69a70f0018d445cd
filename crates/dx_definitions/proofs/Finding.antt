-- The last definition of a name.
use Rattle.std.proofs.Common.{◌≡◌, ℕ, zero, suc, ◌<◌, ◌≤◌, List, [], ◌∷◌, map, length, Bool, false, refl, ap, ◌∙◌, sym, arith, get_or}
use Rattle.dx_definitions.specs.TopTexts as plain
use Rattle.dx_ast.specs.Classes.{Text}
use Rattle.dx_base.specs.NameLists.{has}
use Rattle.dx_definitions.specs.TopTexts.{definition, no_text}
use Rattle.dx_ast.specs.declared.statements.Assign.{Assign}
use Rattle.dx_definitions.specs.Index.{text_of}

pub definition_at : (defs : List Assign) (i : ℕ) (a : Assign) → i < length defs → a ≡ get_or defs i a → definition (map text_of defs) i ≡ text_of a
definition_at [] i a h e = absurd (omega arith)
definition_at (b ∷ defs) zero a h e = ap text_of (sym e)
definition_at (b ∷ defs) (suc i) a h e = definition_at defs i a (omega arith) e

pub definition_past : (defs : List Assign) (i : ℕ) → length defs ≤ i → definition (map text_of defs) i ≡ no_text
definition_past [] i h = refl
definition_past (b ∷ defs) zero h = absurd (omega arith)
definition_past (b ∷ defs) (suc i) h = definition_past defs i (omega arith)

-- tests of a definition's own targets
pub has_at : (defs : List Assign) (i : ℕ) (a : Assign) (ts : List Text) (n : Text) (b : Bool) → i < length defs → a ≡ get_or defs i a → ts ≡ a.targets → has ts n ≡ b → has (definition (map text_of defs) i).targets n ≡ b
has_at defs i a ts n b h e t p = ap (λ (x : plain.TopText). has x.targets n) (definition_at defs i a h e) ∙ ap (λ xs. has xs n) (sym t) ∙ p

pub has_past : (defs : List Assign) (i : ℕ) (n : Text) → length defs ≤ i → has (definition (map text_of defs) i).targets n ≡ false
has_past defs i n h = ap (λ (x : plain.TopText). has x.targets n) (definition_past defs i h)
