use Rattle.std.proofs.Common.{◌≡◌, sym, subst}
use Rattle.std.specs.Prelude.{Result, Ok, Err, OnOk, OnErr}
use Rattle.std.specs.declared.alloc.AllocError.{AllocError}
use Rattle.dx_definitions.specs.TopTexts.{TopText}
use Rattle.dx_macros.specs.Dictionary.{Dictionary, with_definition}
use Rattle.dx_macros.specs.DictionaryView.{dictionary_of}
use Rattle.dx_checked.specs.Known.{IsKnown}
use Rattle.dx_checked.specs.declared.known.Known.{Known}
use Rattle.dx_checked.proofs.Definitions.{known_behind}
use Rattle.dx_checked.proofs.checked.CheckedDictionary.add.Goals as goal

-- a definition that joins leaves what is known of the others
still_known : (d d' : Dictionary) (known : Known) (t : TopText) (r : Result (Unit {0}) AllocError) → IsKnown d known → OnOk r (d' ≡ with_definition t d) → OnErr r (d' ≡ d) → IsKnown d' known
still_known d d' known t (Ok u) is ok err = subst (λ (x : Dictionary). IsKnown x known) (sym ok) (known_behind d known t is)
still_known d d' known t (Err e) is ok err = subst (λ (x : Dictionary). IsKnown x known) (sym err) is

pub invariant_of-self : goal.invariant_of-self
invariant_of-self c = still_known (dictionary_of c.self.inside.dictionary) (dictionary_of c.add.new.self) c.self.inside.known _ c.add.result c.self.invariant c.add.ensures.ok c.add.ensures.err
