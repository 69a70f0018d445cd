-- No module answers more results than a library may.
use Rattle.std.specs.Prelude.{ℕ, List, [], ◌∷◌, Bool, true, false, Option, Some, None, Result, Ok, Err, drop}
use Rattle.std.proofs.Common.{arith}
use Rattle.dx_base.specs.declared.code.Code.{Code}
use Rattle.dx_base.specs.declared.function.Module.{Module}
use Rattle.dx_base.specs.declared.function.Module.TheVariants as computing
use Rattle.dx_base.specs.Object.{Tree}
use Rattle.dx_base.specs.ObjectLimits.{max_levels}
use Rattle.dx_objects.specs.Runs.{Values, Answer, HasFewResults}
use Rattle.dx_objects.specs.Values.{value_at}
use Rattle.dx_expr_grammar.specs.declared.tree.Expression.{Expression}
use Rattle.dx_compute_meaning.specs.Answered.{Answered, ◌>>=◌}
use Rattle.dx_compute_meaning.specs.Expressions.{expression_in}
use Rattle.dx_compute_meaning.specs.Operands.{occurring}
use Rattle.dx_compute_meaning.specs.Compute.{answer_within}
use Rattle.dx_native_lex.specs.declared.fault.NativeError.{NativeError}
use Rattle.dx_native_fields.specs.Good.{good_fields}
use Rattle.dx_import.specs.Import.{text_in, meaning, by_fields, imported, from_file, unless_refused, refusal as refused_inputs}
use Rattle.dx_inquire.proofs.Few.{few_inquired}
use Rattle.dx_select.specs.Answered as parts
use Rattle.dx_slab.specs.Answered as slabs
use Rattle.dx_stats.proofs.Few.{few_histogram, few_statistics}
use Rattle.dx_modules.specs.Answer.{answer_of}

-- ---- Compute

one_result : (there : Answered Tree) → HasFewResults (there >>= λ t. Ok (Some t ∷ []))
one_result (Ok t) = omega arith
one_result (Err code) = tt

one_of : (there : Answered Expression) (f : Expression → Answered Tree) → HasFewResults (there >>= λ e. f e >>= λ t. Ok (Some t ∷ []))
one_of (Ok e) f = one_result (f e)
one_of (Err code) f = tt

-- ---- Import

few_by_fields : (good : Bool) (t : Tree) → HasFewResults (by_fields good t)
few_by_fields true t = omega arith
few_by_fields false t = tt

few_imported : (meant : Result Tree NativeError) → HasFewResults (imported meant)
few_imported (Ok t) = few_by_fields (good_fields t) t
few_imported (Err fault) = tt

few_from_file : (which bytes : Option (List ℕ)) → HasFewResults (from_file which bytes)
few_from_file which None = tt
few_from_file which (Some bytes) = few_imported (meaning bytes which)

few_unless : (refused : Option Code) (answer : Answer) → HasFewResults answer → HasFewResults (unless_refused refused answer)
few_unless None answer few = few
few_unless (Some code) answer few = tt

-- ---- parts of objects

few_one : (there : parts.Answered Tree) → HasFewResults (parts.one_result there)
few_one (Ok t) = omega arith
few_one (Err code) = tt

-- ---- Slab

few_cut : (there : slabs.Answered Tree) → HasFewResults (slabs.one_result there)
few_cut (Ok t) = omega arith
few_cut (Err code) = tt

pub few : (m : Module) (inputs : Values) (file : Option (List ℕ)) → HasFewResults (answer_of m inputs file)
few computing.Compute inputs file = one_of (expression_in (value_at inputs 0)) (λ e. answer_within max_levels e (occurring e 0 (drop 1 inputs)))
few computing.Import inputs file = few_unless (refused_inputs inputs) (from_file (text_in (value_at inputs 1)) file) (few_from_file (text_in (value_at inputs 1)) file)
few computing.Select inputs file = few_one _
few computing.Extract inputs file = few_one _
few computing.Replace inputs file = few_one _
few computing.Mark inputs file = few_one _
few computing.Unmark inputs file = few_one _
few computing.Slab inputs file = few_cut _
few computing.Statistics inputs file = few_statistics inputs
few computing.Histogram inputs file = few_histogram inputs
few computing.Collect inputs file = few_one _
few computing.CollectNamed inputs file = few_one _
few computing.CollectSeries inputs file = few_one _
few computing.Inquire inputs file = few_inquired inputs
