use Rattle.std.proofs.Common.{rules, ◌≡◌, ℕ, List, Some, length, map, subst, sym, ap, arith}
use Rattle.dx_definitions.specs.Constants.{StandsIn}
use Rattle.dx_definitions.specs.Held.{Held}
use Rattle.dx_definitions.specs.Index.{text_of}
use Rattle.dx_definitions.specs.TopTexts.{TopText}
use Rattle.dx_definitions.proofs.Constants.{noted_after}
use Rattle.dx_definitions.proofs.definitions.Definitions.note_constant.Goals as goal

pub invariant_of-self : goal.invariant_of-self
invariant_of-self c =
    let at : c.len-position.result ≡ length c.self.inside.constants.items = first_of (search rules, omega arith) in
    let stands : (k : ℕ) → c.constant_position-constant.result ≡ Some k → StandsIn (map text_of c.self.inside.list.items) c.len-position.result k = λ k e.
    subst (λ (defs : List TopText). StandsIn defs c.len-position.result k) (ap (λ (h : Held). map text_of h.items) (sym c.self.view_is)) (c.constant_position-constant.ensures k e) in
    (c.self.invariant.0, noted_after (map text_of c.self.inside.list.items) c.self.inside.constants.items c.push.new.self.items c.constant_position-constant.result c.len-position.result _ c.push.ensures.items at c.self.invariant.1 stands)

pub invariant_of-self-in-Err : goal.invariant_of-self-in-Err
invariant_of-self-in-Err c =
    let at : c.len-position.result ≡ length c.self.inside.constants.items = first_of (search rules, omega arith) in
    let stands : (k : ℕ) → c.constant_position-constant.result ≡ Some k → StandsIn (map text_of c.self.inside.list.items) c.len-position.result k = λ k e.
    subst (λ (defs : List TopText). StandsIn defs c.len-position.result k) (ap (λ (h : Held). map text_of h.items) (sym c.self.view_is)) (c.constant_position-constant.ensures k e) in
    (c.self.invariant.0, noted_after (map text_of c.self.inside.list.items) c.self.inside.constants.items c.push.new.self.items c.constant_position-constant.result c.len-position.result _ c.push.ensures.items at c.self.invariant.1 stands)
