-- All origins and deltas of what Inquire answers are ints.
use Rattle.std.proofs.Common.{◌≡◌, ℕ, pos, List, [], ◌∷◌, length, Bool, true, false, Option, Some, None, Ok, Err, refl, subst}
use Rattle.std.specs.Prelude.{cond}
use Rattle.std.specs.Cmp.Derive.{both_true}
use Rattle.dx_base.specs.declared.code.Code.{Code}
use Rattle.dx_base.specs.declared.code.Code.TheVariants.{BadArgument, Unsupported, TooLarge}
use Rattle.dx_base.specs.Array.{ArrayData, items}
use Rattle.dx_base.specs.Object.{Tree, array, text, no_parts, parts, part_count}
use Rattle.dx_base.specs.ObjectLimits.{fits}
use Rattle.dx_base.specs.ObjectNumbers.{steps_by_ints, number_value}
use Rattle.dx_base.specs.Words.{type_word}
use Rattle.dx_arrays.specs.declared.array.ArrayError.{ArrayError}
use Rattle.dx_arrays.specs.Makes.{refusal}
use Rattle.dx_objects.specs.Kinds.{kind_of}
use Rattle.dx_objects.specs.Runs.{Values, Answer}
use Rattle.dx_objects.specs.Values.{value_at}
use Rattle.dx_steps.specs.Steps.{value_steps, all_step, MakesSteps}
use Rattle.dx_steps.proofs.ValueLaws.{number_steps}
use Rattle.dx_inquire.specs.Inquire.{number_answer, truth, is_null, has_kind, ints, code_of, of_array, about_array, array_answer, array_in, has_parts, members_answer, members_in, grid_in, about_grid, answer, unless_used, answer_asked, asked, inquire_answer}
use Rattle.dx_inquire.specs.declared.question.Question.{Question}
use Rattle.dx_inquire.specs.declared.question.Question.TheVariants.{IsNull, Is, Of, MemberCount, GridCounts, Other}
use Rattle.dx_inquire.specs.declared.question.ArrayQuestion.{ArrayQuestion}
use Rattle.dx_inquire.specs.declared.question.ArrayQuestion.TheVariants.{Items, Rank, Elem, Shape}

-- the results of an answer, if it has some, are such
abbrev HasSteps : Answer → Type 0
HasSteps a = (results : Values) → a ≡ Ok results → all_step results ≡ true

refused_steps : (code : Code) → HasSteps (Err code)
refused_steps code results e = absurd (cc e)

one_steps : (v : Option Tree) → value_steps v ≡ true → HasSteps (Ok (v ∷ []))
one_steps v h results e = let same : v ∷ [] ≡ results = cc e in subst (λ vs. all_step vs ≡ true) same (both_true h refl)

count_steps : (n : ℕ) → HasSteps (number_answer n)
count_steps n = one_steps (number_value (pos n)) (number_steps (pos n))

truth_steps : (b : Bool) → HasSteps (truth b)
truth_steps true = count_steps 1
truth_steps false = count_steps 0

object_steps : (fitting : Bool) (t : Tree) → steps_by_ints t ≡ true → HasSteps (cond fitting (Ok (Some t ∷ [])) (Err TooLarge))
object_steps true t h = one_steps (Some t) h
object_steps false t h = refused_steps TooLarge

array_steps : (refused : Option ArrayError) (ns : List ℕ) → HasSteps (of_array refused (ints ns))
array_steps None ns = object_steps (fits (array (ints ns) no_parts)) (array (ints ns) no_parts) refl
array_steps (Some e) ns = refused_steps (code_of e)

about_steps : (q : ArrayQuestion) (a : Option ArrayData) → HasSteps (about_array (array_answer q) a)
about_steps q None = refused_steps BadArgument
about_steps Items (Some a) = count_steps (items a)
about_steps Rank (Some a) = count_steps (length a.extents)
about_steps Elem (Some a) = object_steps (fits (text (type_word a.elem) no_parts)) (text (type_word a.elem) no_parts) refl
about_steps Shape (Some a) = array_steps (refusal (ints a.extents)) a.extents

members_steps : (has : Bool) (t : Tree) → HasSteps (members_answer has t)
members_steps true t = count_steps (part_count (parts t))
members_steps false t = refused_steps BadArgument

in_steps : (v : Option Tree) → HasSteps (members_in v)
in_steps None = refused_steps BadArgument
in_steps (Some t) = members_steps (has_parts (kind_of t)) t

grid_steps : (counts : Option (List ℕ)) → HasSteps (about_grid counts)
grid_steps None = refused_steps BadArgument
grid_steps (Some ns) = array_steps (refusal (ints ns)) ns

answer_steps : (q : Question) (v : Option Tree) → HasSteps (answer q v)
answer_steps IsNull v = truth_steps (is_null v)
answer_steps (Is k) v = truth_steps (has_kind k v)
answer_steps (Of q) v = about_steps q (array_in v)
answer_steps MemberCount v = in_steps v
answer_steps GridCounts v = grid_steps (grid_in v)
answer_steps Other v = refused_steps Unsupported

unused_steps : (unused : Option Tree) (a : Answer) → HasSteps a → HasSteps (unless_used unused a)
unused_steps None a h = h
unused_steps (Some t) a h = refused_steps Unsupported

asked_steps : (q : Option Question) (v unused : Option Tree) → HasSteps (answer_asked q v unused)
asked_steps None v unused = refused_steps BadArgument
asked_steps (Some q) v unused = unused_steps unused (answer q v) (answer_steps q v)

pub inquire_steps : MakesSteps inquire_answer
inquire_steps inputs = asked_steps (asked (value_at inputs 1)) (value_at inputs 0) (value_at inputs 2)
