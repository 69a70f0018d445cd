-- What the small library of the tests answers: its inputs again; and a code where it is given a file, or NULL first.
use Rattle.std.specs.Prelude.{◌≤◌, ◌≡◌, ℕ, List, [], ◌∷◌, Option, Some, None, Ok, Err, Bool, true, false, if◌then◌else◌, nat_le, length}
use Rattle.std.proofs.Common.{arith, refl}
use Rattle.dx_base.specs.declared.function.Module.{Module}
use Rattle.dx_base.specs.declared.code.Code.TheVariants.{BadArgument, BadFile, TooLarge}
use Rattle.dx_base.specs.declared.code.NativeKind.TheVariants.{Truncated}
use Rattle.dx_objects.specs.Values.{value_at}
use Rattle.dx_objects.specs.Runs.{Values, Answer, HasFewResults}
use Rattle.dx_base.specs.Object.{Tree}

abbrev given_back : Values → Bool → Answer
given_back inputs true = Ok inputs
given_back inputs false = Err TooLarge

abbrev first_given : Values → Option Tree → Answer
first_given inputs None = Err BadArgument
first_given inputs (Some t) = given_back inputs (nat_le (length inputs) 64)

abbrev pub small_answer : Module → Values → Option (List ℕ) → Answer
small_answer m inputs None = first_given inputs (value_at inputs 0)
small_answer m inputs (Some file) = Err (BadFile Truncated (length file))

few_given_back : (inputs : Values) (b : Bool) → nat_le (length inputs) 64 ≡ b → HasFewResults (given_back inputs b)
few_given_back inputs true p = grind (arith, p)
few_given_back inputs false p = tt

few_first : (inputs : Values) (v : Option Tree) → HasFewResults (first_given inputs v)
few_first inputs None = tt
few_first inputs (Some t) = few_given_back inputs (nat_le (length inputs) 64) refl

pub small_few : (m : Module) (inputs : Values) (file : Option (List ℕ)) → HasFewResults (small_answer m inputs file)
small_few m inputs None = few_first inputs (value_at inputs 0)
small_few m inputs (Some file) = tt
