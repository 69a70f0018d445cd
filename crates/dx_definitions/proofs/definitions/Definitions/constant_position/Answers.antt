use Rattle.std.proofs.Common.{◌≡◌, ◌<◌, ◌∙◌, ℕ, List, [], ◌∷◌, Some, length, map, refl, sym, ap, ap₂, subst, arith}
use Rattle.std.proofs.lemmas.List.{length-map}
use Rattle.dx_ast.specs.Classes.{Text}
use Rattle.dx_ast.specs.Plain.{plain_expr}
use Rattle.dx_ast.specs.Syntax.{Expr, Constant, Name}
use Rattle.dx_definitions.specs.Constants.{StandsIn}
use Rattle.dx_definitions.specs.Index.{text_of}
use Rattle.dx_definitions.specs.TopTexts.{TopText, definition}
use Rattle.dx_definitions.proofs.Constants.{stands_itself, stands_by_name, expr_constant, expr_name, text_is}
use Rattle.dx_definitions.proofs.definitions.Definitions.constant_position.Goals as goal

pub returns-in-Constant : goal.returns-in-Constant
returns-in-Constant c = λ j e.
    let defs = map text_of c.args.self.now.items in
    let one = c.is_one.ensures c.if-not-is_one.false in
    let below : c.args.position < length defs = omega (arith, c.requires, length-map c.args.self.now.items text_of) in
    let is = sym c.at-a.ensures ∙ text_is _ one.0 _ _ (sym c.as_slice.ensures ∙ one.1) (ap plain_expr c.in-Constant.is ∙ expr_constant c.in-Constant.field-0) in
    let same : c.args.position ≡ j = cc in
    subst (StandsIn defs c.args.position) same (stands_itself defs c.args.position one.0 c.in-Constant.field-0 below is)

pub returns-in_ok-named-in-Name : goal.returns-in_ok-named-in-Name
returns-in_ok-named-in-Name c = λ j e.
    let defs = map text_of c.args.self.now.items in
    let one = c.is_one.ensures c.if-not-is_one.false in
    let below : c.args.position < length defs = omega (arith, c.requires, length-map c.args.self.now.items text_of) in
    let k = c.in_ok-named-in-Name in
    let is = sym c.at-a.ensures ∙ text_is _ one.0 _ _ (sym c.as_slice.ensures ∙ one.1) (ap plain_expr c.in-Name.is ∙ expr_name c.in-Name.name ∙ ap Name (sym c.bytes.ensures)) in
    stands_by_name defs c.args.position k.named j one.0 c.bytes.result.now below is (sym k.ensures.last) (c.noted_constant.ensures j e)
