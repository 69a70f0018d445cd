-- The next of some inputs, and where looking at it begins.
use Rattle.std.proofs.Common.{◌≡◌, ℕ, ◌+◌, ◌<◌, ◌≤◌, List, length, drop, get_or, Option, Some, sym, ap, ◌∙◌, subst}
use Rattle.std.proofs.lemmas.List.{at_drop_more, at_drop_all}
use Rattle.dx_graph.specs.declared.node.Input.{Input}
use Rattle.dx_io.specs.Devices.{FileMap as InputFiles}
use Rattle.std.specs.Prelude.{Result}
use Rattle.dx_macros.specs.Tree.{Tree, Trees, NoTree, AndTree}
use Rattle.dx_tags.specs.declared.term.ValueTag.{ValueTag}
use Rattle.dx_machine.specs.Machine.{State}
use Rattle.dx_getting.specs.Told.{Told}
use Rattle.dx_getting.specs.Stands.{Answers}
use Rattle.dx_meaning.specs.Forming.{Formings}
use Rattle.dx_performing.specs.Course.{Fixed, around_of}
use Rattle.dx_performing.specs.Kept.{Kept}
use Rattle.dx_performing.specs.Meant.{LinksRight}
use Rattle.dx_looking.specs.Setting.{fixed}
use Rattle.dx_looking.specs.Looking.{FromHere, StandsAt, LooksSo, input_tree}
use Rattle.dx_looking.specs.declared.cut.Cut.{Cut}
use Rattle.dx_looking.specs.declared.looked.Looked.{Looked}
use Rattle.dx_looking.specs.declared.setup.Setup.{Setup}
use Rattle.dx_looking.specs.declared.progress.Progress.{Progress}
use Rattle.dx_effects.specs.AllLooking.{input_trees}
use Rattle.dx_effects.proofs.SoFar.{SoFar}

-- looking at one tree is so by the budget at the beginning
pub look_by : (setup : Setup) (answer : Answers) (content : Option InputFiles) (at : Progress) (now : Told) (t : Tree) (r r' : Result Looked Cut) → r ≡ r' → (at' : Progress) (now' : Told) → FromHere setup answer content at now (λ x k base s f. LooksSo setup x k base t s f r at' now') → (map : InputFiles) → content ≡ Some map → (b : ℕ) → at.work.cache.budget ≡ b →
    (k : Kept) → LinksRight (around_of (fixed answer map b) k) k.links → (base : Told) (s : State) (f : Formings) → StandsAt setup (fixed answer map b) k base at now s f → LooksSo setup (fixed answer map b) k base t s f r' at' now'
look_by setup answer content at now t r r' e at' now' h map told_map b same k links base s f st =
    subst (λ y. LooksSo setup (fixed answer map b) k base t s f y at' now') e
    (subst (λ n. (k : Kept) → LinksRight (around_of (fixed answer map n) k) k.links → (base : Told) (s : State) (f : Formings) → StandsAt setup (fixed answer map n) k base at now s f → LooksSo setup (fixed answer map n) k base t s f r at' now') same (h map told_map) k links base s f st)

pub next : (setup : Setup) (x : Fixed) (k : Kept) (base : Told) (whole : Trees) (inputs : List Input) (i : ℕ) (input : Input) → input ≡ get_or inputs i input → i < length inputs → (s : State) (f : Formings) (ts : List ValueTag) (at : Progress) (now : Told) →
    SoFar setup x k base whole (input_trees setup (drop i inputs)) s f ts at now → SoFar setup x k base whole (AndTree (input_tree setup input) (input_trees setup (drop (i + 1) inputs))) s f ts at now
next setup x k base whole inputs i input is lt s f ts at now so =
    subst (λ rest. SoFar setup x k base whole rest s f ts at now) (at_drop_more (input_trees setup) inputs i input lt ∙ ap (λ y. AndTree (input_tree setup y) (input_trees setup (drop (i + 1) inputs))) (sym is)) so

pub last : (setup : Setup) (x : Fixed) (k : Kept) (base : Told) (whole : Trees) (inputs : List Input) (i : ℕ) → length inputs ≤ i → (s : State) (f : Formings) (ts : List ValueTag) (at : Progress) (now : Told) →
    SoFar setup x k base whole (input_trees setup (drop i inputs)) s f ts at now → SoFar setup x k base whole NoTree s f ts at now
last setup x k base whole inputs i le s f ts at now so =
    subst (λ rest. SoFar setup x k base whole rest s f ts at now) (at_drop_all (input_trees setup) inputs i le) so

-- what is so from here is so by the budget at the beginning
pub by_budget : (setup : Setup) (answer : Answers) (content : Option InputFiles) (at : Progress) (now : Told) (P : Fixed → Kept → Told → State → Formings → Type 0) → FromHere setup answer content at now P → (map : InputFiles) → content ≡ Some map → (b : ℕ) → at.work.cache.budget ≡ b →
    (k : Kept) → LinksRight (around_of (fixed answer map b) k) k.links → (base : Told) (s : State) (f : Formings) → StandsAt setup (fixed answer map b) k base at now s f → P (fixed answer map b) k base s f
by_budget setup answer content at now P h map e b same =
    subst (λ n. (k : Kept) → LinksRight (around_of (fixed answer map n) k) k.links → (base : Told) (s : State) (f : Formings) → StandsAt setup (fixed answer map n) k base at now s f → P (fixed answer map n) k base s f) same (h map e)
