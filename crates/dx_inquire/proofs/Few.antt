-- Inquire gives one result.
use Rattle.std.specs.Prelude.{ℕ, List, [], ◌∷◌, length, Bool, true, false, cond, Option, Some, None, Ok, Err}
use Rattle.std.proofs.Common.{arith}
use Rattle.dx_base.specs.declared.code.Code.TheVariants.{TooLarge}
use Rattle.dx_base.specs.Array.{ArrayData, items}
use Rattle.dx_base.specs.Object.{Tree, array, text, no_parts, parts, part_count}
use Rattle.dx_base.specs.ObjectLimits.{fits}
use Rattle.dx_base.specs.Words.{type_word}
use Rattle.dx_arrays.specs.declared.array.ArrayError.{ArrayError}
use Rattle.dx_arrays.specs.Makes.{refusal}
use Rattle.dx_objects.specs.Kinds.{kind_of}
use Rattle.dx_objects.specs.Runs.{Values, Answer, HasFewResults}
use Rattle.dx_objects.specs.Values.{value_at}
use Rattle.dx_inquire.specs.Inquire.{number_answer, truth, is_null, has_kind, ints, of_array, about_array, array_answer, array_in, has_parts, members_answer, members_in, grid_in, about_grid, answer, unless_used, answer_asked, asked, inquire_answer}
use Rattle.dx_inquire.specs.declared.question.Question.{Question}
use Rattle.dx_inquire.specs.declared.question.Question.TheVariants.{IsNull, Is, Of, MemberCount, GridCounts, Other}
use Rattle.dx_inquire.specs.declared.question.ArrayQuestion.{ArrayQuestion}
use Rattle.dx_inquire.specs.declared.question.ArrayQuestion.TheVariants.{Items, Rank, Elem, Shape}

few_number : (n : ℕ) → HasFewResults (number_answer n)
few_number n = omega arith

few_truth : (b : Bool) → HasFewResults (truth b)
few_truth true = few_number 1
few_truth false = few_number 0

few_object : (fitting : Bool) (t : Tree) → HasFewResults (cond fitting (Ok (Some t ∷ [])) (Err TooLarge))
few_object true t = omega arith
few_object false t = tt

few_array : (refused : Option ArrayError) (a : ArrayData) → HasFewResults (of_array refused a)
few_array None a = few_object (fits (array a no_parts)) (array a no_parts)
few_array (Some e) a = tt

few_about : (q : ArrayQuestion) (a : Option ArrayData) → HasFewResults (about_array (array_answer q) a)
few_about q None = tt
few_about Items (Some a) = few_number (items a)
few_about Rank (Some a) = few_number (length a.extents)
few_about Elem (Some a) = few_object (fits (text (type_word a.elem) no_parts)) (text (type_word a.elem) no_parts)
few_about Shape (Some a) = few_array (refusal (ints a.extents)) (ints a.extents)

few_members : (has : Bool) (t : Tree) → HasFewResults (members_answer has t)
few_members true t = few_number (part_count (parts t))
few_members false t = tt

few_in : (v : Option Tree) → HasFewResults (members_in v)
few_in None = tt
few_in (Some t) = few_members (has_parts (kind_of t)) t

few_grid : (counts : Option (List ℕ)) → HasFewResults (about_grid counts)
few_grid None = tt
few_grid (Some ns) = few_array (refusal (ints ns)) (ints ns)

few_answers : (q : Question) (v : Option Tree) → HasFewResults (answer q v)
few_answers IsNull v = few_truth (is_null v)
few_answers (Is k) v = few_truth (has_kind k v)
few_answers (Of q) v = few_about q (array_in v)
few_answers MemberCount v = few_in v
few_answers GridCounts v = few_grid (grid_in v)
few_answers Other v = tt

few_unused : (unused : Option Tree) (a : Answer) → HasFewResults a → HasFewResults (unless_used unused a)
few_unused None a few = few
few_unused (Some t) a few = tt

few_asked : (q : Option Question) (v unused : Option Tree) → HasFewResults (answer_asked q v unused)
few_asked None v unused = tt
few_asked (Some q) v unused = few_unused unused (answer q v) (few_answers q v)

pub few_inquired : (inputs : Values) → HasFewResults (inquire_answer inputs)
few_inquired inputs = few_asked (asked (value_at inputs 1)) (value_at inputs 0) (value_at inputs 2)
