-- Constants that stand in definitions are lawful.
use Rattle.std.proofs.Common.{◌≡◌, ℕ, zero, suc, ◌<◌, List, [], ◌∷◌, length, map, Option, Some, None, IfSome, Bor, subst, arith, All}
use Rattle.std.proofs.Math.Logic.{∥∥₁_map}
use Rattle.std.proofs.lemmas.List.{length-map}
use Rattle.dx_ast.specs.declared.constants.Const.{Const}
use Rattle.dx_ast.specs.declared.statements.Assign.{Assign}
use Rattle.dx_ast.specs.Lawful.{IsLawfulConst, IsLawfulExpr}
use Rattle.dx_ast.specs.Syntax.{Expr, Constant}
use Rattle.dx_definitions.specs.Constants.{IsDefined}
use Rattle.dx_definitions.specs.Index.{text_of}
use Rattle.dx_definitions.specs.TopTexts.{definition}
use Rattle.dx_macros.specs.DictionaryView.{dictionary_of}
use Rattle.dx_macros.specs.Shown.{AreLawfulDefinitions}
use Rattle.dx_macros.specs.declared.dictionary.Dictionary.{Dictionary}

value_lawful : (ds : List Assign) (i : ℕ) → i < length ds → AreLawfulDefinitions ds → IsLawfulExpr (definition (map text_of ds) i).value
value_lawful [] i h all = absurd (omega arith)
value_lawful (a ∷ ds) zero h all = (all 0 a (omega arith)).value
value_lawful (a ∷ ds) (suc i) h all = value_lawful ds i (omega (arith, h)) (λ k d lt. all (suc k) d (omega (arith, lt)))

defined_lawful : (d : Dictionary) (c : Const) → IsDefined (dictionary_of d).definitions c → ∥ IsLawfulConst c ∥₁
defined_lawful d c h =
    let lt = h.1 in
    let below : h.0 < length d.definitions.items = omega (arith, lt, length-map d.definitions.items text_of) in
    ∥∥₁_map d.lawful_definitions (λ all. subst IsLawfulExpr h.2 (value_lawful d.definitions.items h.0 below all))

pub lawful_if : (d : Dictionary) (found : Option (Bor Const)) → IfSome found (λ c. IsDefined (dictionary_of d).definitions c.now) → IfSome found (λ c. ∥ IsLawfulConst c.now ∥₁)
lawful_if d (Some c) h = defined_lawful d c.now h
lawful_if d None h = h
