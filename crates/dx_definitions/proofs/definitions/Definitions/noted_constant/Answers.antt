use Rattle.std.proofs.Common.{◌≡◌, ◌∙◌, ℕ, List, Option, Some, map, subst, sym, ap}
use Rattle.std.specs.Prelude.{slice_get}
use Rattle.dx_definitions.specs.Constants.{StandsIn}
use Rattle.dx_definitions.specs.Held.{Held}
use Rattle.dx_definitions.specs.Index.{text_of}
use Rattle.dx_definitions.specs.TopTexts.{TopText}
use Rattle.dx_definitions.proofs.definitions.Definitions.noted_constant.Goals as goal

pub returns : goal.returns
returns c = λ j e.
    let at : slice_get c.self.inside.constants.items c.args.i ≡ Some (Some j) = ap (λ (xs : List (Option ℕ)). slice_get xs c.args.i) (sym c.deref.ensures.value) ∙ c.noted_at.ensures j e in
    subst (λ (defs : List TopText). StandsIn defs c.args.i j) (ap (λ (h : Held). map text_of h.items) c.self.view_is) (c.self.invariant.1 c.args.i j at)
