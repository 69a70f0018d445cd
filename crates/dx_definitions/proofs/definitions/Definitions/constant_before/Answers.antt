use Rattle.std.proofs.Common.{◌≡◌, ◌<◌, ◌∙◌, length, map, refl, sym, ap, arith}
use Rattle.std.proofs.lemmas.List.{length-map}
use Rattle.dx_ast.specs.Plain.{plain_expr}
use Rattle.dx_ast.specs.Syntax.{Constant}
use Rattle.dx_definitions.specs.Index.{text_of}
use Rattle.dx_definitions.specs.TopTexts.{TopText, definition}
use Rattle.dx_definitions.proofs.Constants.{constant_means, expr_constant}
use Rattle.dx_definitions.proofs.definitions.Definitions.constant_before.Goals as goal

pub at-requires : goal.at-requires
at-requires c =
    let stands = c.in_ok-j.ensures c.in_ok-j.j refl in
    let below = stands.position in
    omega (arith, below, length-map c.args.self.now.items text_of)

pub returns-in-Constant-clause-means : goal.returns-in-Constant-clause-means
returns-in-Constant-clause-means c =
    let stands = c.in_ok-j.ensures c.in_ok-j.j refl in
    let is : (definition (map text_of c.args.self.now.items) c.in_ok-j.j).value ≡ Constant c.in-Constant.c = ap (λ (d : TopText). d.value) (sym c.at.ensures) ∙ ap plain_expr c.in-Constant.is ∙ expr_constant c.in-Constant.c in
    constant_means (map text_of c.args.self.now.items) c.args.position c.in_ok-i.i c.args.name.now c.in_ok-j.j c.in-Constant.c (sym c.in_ok-i.ensures.last) stands is

pub returns-in-Constant-clause-defined : goal.returns-in-Constant-clause-defined
returns-in-Constant-clause-defined c =
    let stands = c.in_ok-j.ensures c.in_ok-j.j refl in
    (c.in_ok-j.j, stands.position, ap (λ (d : TopText). d.value) (sym c.at.ensures) ∙ ap plain_expr c.in-Constant.is ∙ expr_constant c.in-Constant.c)
