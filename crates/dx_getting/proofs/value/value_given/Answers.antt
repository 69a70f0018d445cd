use Rattle.std.proofs.Common.{◌≡◌, ◌∙◌, ◌+◌, sym, ap, subst, refl, Some}
use Rattle.std.specs.Prelude.{slice_get}
use Rattle.dx_tags.specs.declared.term.Term.{Term}
use Rattle.dx_tags.specs.declared.term.Term.TheVariants.{Held}
use Rattle.dx_tags.specs.declared.term.ValueTag.{ValueTag}
use Rattle.dx_tags.specs.Closed.{head_at, heads_of, head_of, IsFormed}
use Rattle.dx_tags.proofs.ClosedTerms.{head_unfolds}
use Rattle.dx_consts.proofs.LawfulConst.{lawful_of}
use Rattle.dx_getting.specs.declared.value.Given.{Given}
use Rattle.dx_getting.specs.Stands.{Setting, AreExact, setting_of}
use Rattle.dx_getting.specs.Steps.{GivenBy}
use Rattle.dx_getting.proofs.Names.{formed_at}
use Rattle.dx_getting.proofs.value.value_given.Goals as goal

given_at : (e : Setting) (t : ValueTag) (u v : Term) (g : Given) → AreExact e.terms → slice_get e.terms t.tag ≡ Some u → u ≡ v → GivenBy e t (head_of (heads_of e.terms) v) g → GivenBy e t (head_at (heads_of e.terms) t.tag) g
given_at e t u v g x s i h = subst (λ d. GivenBy e t d g) (sym (head_unfolds e.terms x.formed t.tag u s ∙ ap (head_of (heads_of e.terms)) i)) h

pub constant_value-requires-clause-lawful : goal.constant_value-requires-clause-lawful
constant_value-requires-clause-lawful c =
    let f = formed_at (heads_of c.args.scene.now.tags.now) 0 c.args.scene.now.tags.now c.requires.exact.formed c.args.t.tag c.in-Formed-Constant.field-0.now c.in-Formed-Constant.ensures in
    lawful_of c.in-Formed-Constant.c (subst (IsFormed (heads_of c.args.scene.now.tags.now) (0 + c.args.t.tag)) c.in-Formed-Constant.field-0-is f)

pub returns-in_ok-value_held-in-Held : goal.returns-in_ok-value_held-in-Held
returns-in_ok-value_held-in-Held c = λ formed. given_at (setting_of c.args.scene.now formed) c.args.t (Held c.in-Held.n) _ _ c.requires.exact c.in-Held.ensures refl c.in_ok-value_held-in-Held.ensures

pub returns-in_ok-value_held-in-Formed-Held : goal.returns-in_ok-value_held-in-Formed-Held
returns-in_ok-value_held-in-Formed-Held c = λ formed. given_at (setting_of c.args.scene.now formed) c.args.t c.in-Formed-Held.field-0.now _ _ c.requires.exact c.in-Formed-Held.ensures c.in-Formed-Held.field-0-is c.in_ok-value_held-in-Formed-Held.ensures

pub returns-in_ok-constant_value-in-Formed-Constant : goal.returns-in_ok-constant_value-in-Formed-Constant
returns-in_ok-constant_value-in-Formed-Constant c = λ formed. given_at (setting_of c.args.scene.now formed) c.args.t c.in-Formed-Constant.field-0.now _ _ c.requires.exact c.in-Formed-Constant.ensures c.in-Formed-Constant.field-0-is c.in_ok-constant_value-in-Formed-Constant.ensures

pub returns-in-Formed-File : goal.returns-in-Formed-File
returns-in-Formed-File c = λ formed. given_at (setting_of c.args.scene.now formed) c.args.t c.in-Formed-File.field-0.now _ _ c.requires.exact c.in-Formed-File.ensures c.in-Formed-File.field-0-is refl

pub returns-in-None : goal.returns-in-None
returns-in-None c = λ formed. given_at (setting_of c.args.scene.now formed) c.args.t c.in-Formed-Call.field-0.now _ _ c.requires.exact c.in-Formed-Call.ensures c.in-Formed-Call.field-0-is c.in-None.ensures

pub returns-in_ok-shared-in-Some : goal.returns-in_ok-shared-in-Some
returns-in_ok-shared-in-Some c = λ formed. given_at (setting_of c.args.scene.now formed) c.args.t c.in-Formed-Call.field-0.now _ _ c.requires.exact c.in-Formed-Call.ensures c.in-Formed-Call.field-0-is (c.in-Some.object.now.value, c.in-Some.ensures, c.in_ok-shared-in-Some.ensures)
