-- Laws of outcomes.
use Rattle.std.specs.Prelude.{◌≡◌, ℕ, List, []}
use Rattle.dx_getting.specs.Stands.{Answers}
use Rattle.dx_io.specs.Devices.{FileMap}
use Rattle.dx_machine.specs.Machine.{runs_in, reads_in}
use Rattle.dx_outcome.specs.Budget.{StaysWithin}
use Rattle.dx_outcome.specs.Meaning.{Meaning, IfSaid, meaning, AreSplit}
use Rattle.dx_outcome.specs.Outcome.{Outcome, outcome, IsOutcome, texts_of, exports_of, runs_of}
use Rattle.dx_outcome.specs.Plan.{Plan, IsPlan}
use Rattle.dx_outcome.specs.Reads.{asked_behind, EachReads}

-- there is one
abbrev pub IsOne : {A : Type 0} → (A → Type 0) → Type 0
IsOne {A} P = ((a : A) × P a) × ((a b : A) → P a → P b → a ≡ b)

abbrev pub OnePlan : Type 0
OnePlan = (words : List (List ℕ)) (files : FileMap) → IsOne (IsPlan words files)

abbrev pub OneOutcome : Type 0
OneOutcome = (words : List (List ℕ)) (files : FileMap) (answer : Answers) → IsOne (IsOutcome words files answer)

-- the same status and files, and the same text where the meaning says one
pub record IsMeant (o : Outcome) (m : Meaning) : Type 0 where
  pub status : o.status ≡ m.status
  pub text : IfSaid m.text (λ text. texts_of o.seen ≡ text)
  pub exports : exports_of o.seen ≡ m.exports

abbrev pub OutcomesAreMeant : Type 0
OutcomesAreMeant = (answer : Answers) (files : FileMap) (p : Plan) → IsMeant (outcome answer files p) (meaning answer files p)

abbrev pub RunsAreDemanded : Type 0
RunsAreDemanded = (words : List (List ℕ)) (files : FileMap) (answer : Answers) (p : Plan) → IsPlan words files p
    → AreSplit (runs_in (runs_of (outcome answer files p).seen)) (meaning answer files p).demanded

abbrev pub EntriesStayWithin : Type 0
EntriesStayWithin = (words : List (List ℕ)) (files : FileMap) (answer : Answers) (p : Plan) → IsPlan words files p → StaysWithin answer files p

-- what each execution reads is what its Imports name, but for the names under which earlier ones have put a file
abbrev pub ReadsAreOfNamesNotPut : Type 0
ReadsAreOfNamesNotPut = (answer : Answers) (files : FileMap) (p : Plan) → EachReads [] (outcome answer files p).seen

-- and so it is of all runs together
abbrev pub AllReadsAreOfNamesNotPut : Type 0
AllReadsAreOfNamesNotPut = (answer : Answers) (files : FileMap) (p : Plan) → reads_in (runs_of (outcome answer files p).seen) ≡ asked_behind [] (outcome answer files p).seen
