use Rattle.std.proofs.Common.{◌≡◌, ◌∙◌, None, sym, ap, subst, arith}
use Rattle.dx_ast.specs.Plain.{plain_stmt}
use Rattle.dx_definitions.specs.Index.{text_of}
use Rattle.dx_macros.specs.declared.dictionary.Dictionary.{Dictionary}
use Rattle.dx_macros.specs.DictionaryView.{dictionary_of}
use Rattle.dx_macros.specs.Walk.{first_fault}
use Rattle.dx_macros.proofs.Doing.{stmt_assign}
use Rattle.dx_checked.proofs.Definitions.{no_fault_by}
use Rattle.dx_checked.proofs.checked.CheckedDictionary.has_no_fault.Goals as goal

pub returns : goal.returns
returns c = λ h.
    let d = c.self.inside.dictionary in
    subst (λ (x : Dictionary). first_fault (dictionary_of x) (plain_stmt c.args.s.now) ≡ None) c.self.view_is
    (ap (λ s. first_fault (dictionary_of d) (plain_stmt s)) c.in-Assign.is ∙ ap (first_fault (dictionary_of d)) (stmt_assign _)
    ∙ no_fault_by (dictionary_of d) c.self.inside.known (text_of c.in-Assign.a) c.definition_calls.result c.self.invariant (let same = c.if-self-len.false in let len = c.len.ensures in omega (arith, same, len)) c.definition_calls.ensures (sym c.is_some.ensures ∙ h))
