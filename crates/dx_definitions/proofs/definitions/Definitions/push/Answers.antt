use Rattle.std.proofs.Common.{◌≡◌, ◌∙◌, ◌++◌, [], ◌∷◌, List, map, subst, sym, ap}
use Rattle.dx_ast.specs.declared.statements.Assign.{Assign}
use Rattle.dx_definitions.specs.Constants.{AreNoted}
use Rattle.dx_definitions.specs.Index.{text_of, index_of, IsIndexed}
use Rattle.dx_definitions.specs.TopTexts.{TopText}
use Rattle.dx_definitions.proofs.Constants.{noted_still, map_last}
use Rattle.dx_definitions.proofs.Indexing.{index_push}
use Rattle.dx_definitions.proofs.definitions.Definitions.push.Goals as goal

pub note_new-self-inside-requires : goal.note_new-self-inside-requires
note_new-self-inside-requires c =
    index_push c.self.inside.list.items c.deref.result.now c.args.a c.self.inside.noted (index_of c.self.inside.positions) (c.deref.ensures.value ∙ c.in_ok-push.ensures.items) c.self.invariant.0

pub invariant_of-self : goal.invariant_of-self
invariant_of-self c =
    subst (λ (xs : List Assign). IsIndexed c.self.inside.noted (index_of c.self.inside.positions) (map text_of xs) × AreNoted (map text_of xs) c.self.inside.constants.items) (sym c.in_err-push.ensures.items) c.self.invariant

pub invariant_of-self-2 : goal.invariant_of-self-2
invariant_of-self-2 c =
    let last : map text_of c.self.inside.list.items ++ text_of c.args.a ∷ [] ≡ map text_of c.push.new.self.items = sym (map_last c.self.inside.list.items c.args.a) ∙ ap (map text_of) (sym c.in_ok-push.ensures.items) in (
      subst (λ (xs : List Assign). IsIndexed c.note_new-self-inside.result (index_of c.note_new-self-inside.new.positions) (map text_of xs)) c.deref.ensures.value c.note_new-self-inside.ensures,
      subst (λ (defs : List TopText). AreNoted defs c.self.inside.constants.items) last (noted_still (map text_of c.self.inside.list.items) (text_of c.args.a) c.self.inside.constants.items c.self.invariant.1),
    )
