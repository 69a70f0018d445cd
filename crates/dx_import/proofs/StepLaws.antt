-- All origins and deltas of what Import answers are ints, since the grammar lets no others stand.
use Rattle.std.proofs.Common.{◌≡◌, ℕ, List, [], ◌∷◌, length, Bool, true, false, Option, Some, None, Result, Ok, Err, refl, sym, ap, subst, ◌∙◌, inl, inr}
use Rattle.std.specs.Prelude.{cond}
use Rattle.std.specs.Cmp.Derive.{both_true}
use Rattle.dx_base.specs.declared.code.Code.{Code}
use Rattle.dx_base.specs.Object.{Tree}
use Rattle.dx_base.specs.ObjectLimits.{fits, max_levels}
use Rattle.dx_base.specs.ObjectNumbers.{steps_by_ints}
use Rattle.dx_objects.specs.Runs.{Values, Answer}
use Rattle.dx_objects.specs.Values.{value_at}
use Rattle.dx_steps.specs.Steps.{all_step, MakesSteps}
use Rattle.dx_native_lex.specs.declared.fault.NativeError.{NativeError}
use Rattle.dx_native_grammar.specs.Grammar.{File, file}
use Rattle.dx_native_grammar.specs.Meaning.{references_fault, tree_at, object_or, object_at, unless_fault, wanted, meant}
use Rattle.dx_native_grammar.specs.Native.{IsNative, beginning}
use Rattle.dx_native_grammar.specs.declared.clause.Clause.{Clause}
use Rattle.dx_native_sound.specs.Sound.{Every, IsSound}
use Rattle.dx_native_sound.proofs.Clauses.{file_sound}
use Rattle.dx_native_fields.specs.Good.{good_fields}
use Rattle.dx_native_read.proofs.Stepping.{step}
use Rattle.dx_import.specs.Import.{text_in, meaning, by_fields, imported, from_file, refusal, unless_refused, import_answer}
use Rattle.dx_import.proofs.Found.{is_native}

-- ---- what a text means

fitting : (fits : Bool) (u t : Tree) (fault : NativeError) → cond {A = Result Tree NativeError} fits (Ok u) (Err fault) ≡ Ok t → u ≡ t
fitting true u t fault e = cc e
fitting false u t fault e = absurd (cc e)

object_is : (o : Option Tree) (at : ℕ) (t : Tree) → object_or o at ≡ Ok t → o ≡ Some t
object_is None at t e = absurd (cc e)
object_is (Some u) at t e = ap (λ (x : Tree). Some x) (fitting (fits u) u t _ e)

place_steps : (cs : List Clause) → Every IsSound cs → (len : ℕ) (o : Option ℕ) (t : Tree) → object_at cs len o ≡ Ok t → steps_by_ints t ≡ true
place_steps cs sound len None t e = absurd (cc e)
place_steps cs sound len (Some i) t e = step cs sound max_levels i t (object_is (tree_at cs max_levels i) _ t e)

unrefused : (fault : Option NativeError) (there : Result Tree NativeError) (t : Tree) → unless_fault fault there ≡ Ok t → there ≡ Ok t
unrefused None there t e = e
unrefused (Some fault) there t e = absurd (cc e)

meant_steps : (f : File) (which : Option (List ℕ)) (len : ℕ) (t : Tree) → Every IsSound f.clauses → meant f which len ≡ Ok t → steps_by_ints t ≡ true
unfolding meant
meant_steps f which len t sound e = place_steps f.clauses sound len (wanted f which) t (unrefused (references_fault f) (object_at f.clauses len (wanted f which)) t e)

native_steps : (bytes : List ℕ) (which : Option (List ℕ)) (r : Result Tree NativeError) (t : Tree) → IsNative bytes which r → r ≡ Ok t → steps_by_ints t ≡ true
native_steps bytes which r t (inl (fault, fails, is)) e = absurd (cc (is, e))
native_steps bytes which r t (inr (f, s, stands, is)) e = meant_steps f which (length bytes) t (file_sound (beginning bytes) f s stands) (sym is ∙ e)

-- ---- answers

by_fields_steps : (good : Bool) (t : Tree) (results : Values) → steps_by_ints t ≡ true → by_fields good t ≡ Ok results → all_step results ≡ true
by_fields_steps true t results h e = let same : Some t ∷ [] ≡ results = cc e in subst (λ vs. all_step vs ≡ true) same (both_true h refl)
by_fields_steps false t results h e = absurd (cc e)

imported_steps : (m : Result Tree NativeError) (results : Values) → ((t : Tree) → m ≡ Ok t → steps_by_ints t ≡ true) → imported m ≡ Ok results → all_step results ≡ true
imported_steps (Ok t) results h e = by_fields_steps (good_fields t) t results (h t refl) e
imported_steps (Err fault) results h e = absurd (cc e)

from_file_steps : (which file : Option (List ℕ)) (results : Values) → from_file which file ≡ Ok results → all_step results ≡ true
from_file_steps which None results e = absurd (cc e)
from_file_steps which (Some bytes) results e = imported_steps (meaning bytes which) results (λ t is. native_steps bytes which (meaning bytes which) t (is_native bytes which) is) e

answered : (refused : Option Code) (there : Answer) (results : Values) → unless_refused refused there ≡ Ok results → there ≡ Ok results
answered None there results e = e
answered (Some code) there results e = absurd (cc e)

pub import_steps : (file : Option (List ℕ)) → MakesSteps (λ inputs. import_answer inputs file)
import_steps file inputs results e =
    let which = text_in (value_at inputs 1) in
    from_file_steps which file results (answered (refusal inputs) (from_file which file) results e)
