use Rattle.std.proofs.Common.{◌∙◌, ℕ, Option, false, ap, sym}
use Rattle.std.specs.Prelude.{replicate}
use Rattle.dx_definitions.specs.TopTexts.{TopText}
use Rattle.dx_macros.specs.DictionaryView.{dictionary_of}
use Rattle.dx_base.specs.Places.{flags}
use Rattle.dx_macros.specs.Walk.{walk_by, read_in, fault_of_text}
use Rattle.dx_base.proofs.AtPlaces.{none_marked}
use Rattle.dx_macros.proofs.Doing.{no_text}
use Rattle.dx_macros.proofs.check.walk_statement.Goals as goal

pub returns-in_default : goal.returns-in_default
returns-in_default c =
    let d = dictionary_of c.args.d.now in
    let none = no_text c.args.s.now c.in_default.not-Assign c.in_default.not-Call c.in_default.not-Sequence in
    record {
      finds = ap (fault_of_text d) none;
      reads = ap flags c.new.ensures ∙ none_marked c.len.result ∙ ap (λ (n : ℕ). replicate n false) c.len.ensures ∙ sym (ap (λ (t : Option TopText). read_in (walk_by d t)) none);
    }
