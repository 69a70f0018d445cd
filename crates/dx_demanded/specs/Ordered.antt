-- What is run comes in the order in which the meaning demands it.
use Rattle.std.specs.Prelude.{◌≡◌, ℕ, true, List, [], ◌∷◌, ◌++◌, map}
use Rattle.dx_base.specs.declared.function.Function.{Function}
use Rattle.dx_base.specs.declared.function.Function.TheVariants as function
use Rattle.dx_base.specs.declared.function.Module.{Module}
use Rattle.dx_base.specs.declared.function.Module.TheVariants as computing
use Rattle.dx_macros.specs.Tree.{Place, Tree, ConstantTree, ResultTree, CallTree, TreeCall, Trees, NoTree, AndTree}
use Rattle.dx_objects.specs.Runs.{Ran}
use Rattle.dx_tags.specs.Closed.{ValueTerm, ValueTerms}
use Rattle.dx_cache.specs.Cached.{IsPartOf}
use Rattle.dx_machine.specs.Machine.{Task, FormedCall, Frame, State, state_at, tasks_of, runs_in, runs_of, get, get_all}
use Rattle.dx_machine.specs.Sound.{HaveAttributes, IsSound}
use Rattle.dx_meaning.specs.Outcome.{Value, Use}
use Rattle.dx_meaning.specs.Picking.{pick, selector_at}
use Rattle.dx_meaning.specs.Meaning.{outcome, outcomes, together}
use Rattle.dx_meaning.specs.Scan.{Sight, Scanned, Forms, Ends, scanned_at, all_scanned, terms_in, scan, scan_each}
use Rattle.dx_performing.specs.Execution.{execution}
use Rattle.dx_performing.specs.Kept.{Kept}
use Rattle.dx_performing.specs.Course.{Fixed, around_of, world_of, sight_of, frame_with, begins, as_terms, executed}
use Rattle.dx_performing.specs.Meant.{LinksRight}
use Rattle.dx_performing.specs.Resuming.{is_ready}
use Rattle.dx_performing.specs.Selectors.{told_selectors, picked_selectors, effect_selectors, selectors}
use Rattle.dx_performing.specs.SoundEntries.{AreLawfulCalls}

-- the runs of uses
abbrev pub asked : List Use → List Ran
asked us = map (λ (u : Use). (u.called, u.inputs)) us

-- what was run from one state to another are some of these, in their order
abbrev pub RanPart : State → List Ran → State → Type 0
RanPart s rs s' = (more : List Task) × (tasks_of s'.events ≡ tasks_of s.events ++ more) × IsPartOf (runs_in more) rs

-- to get these does nothing
abbrev pub AreReady : Frame → State → List ValueTerm → Type 0
AreReady k s [] = Unit {0}
AreReady k s (t ∷ ts) = (is_ready k s t ≡ true) × AreReady k s ts

-- ---- the names of Imports that the term of a tree rests on, beside the data: each is a selector

abbrev pub all_names : List (List ValueTerm) → List ValueTerm
all_names [] = []
all_names (ts ∷ each) = ts ++ all_names each

abbrev pub name_of : Scanned ValueTerm → List ValueTerm
name_of (Forms t) = t ∷ []
name_of (Ends e) = []

-- of an Import its own, and those of its other arguments
abbrev pub import_names : List (Scanned ValueTerm) → List (List ValueTerm) → List ValueTerm
import_names xs [] = []
import_names xs (ts ∷ each) = name_of (scanned_at xs 0) ++ all_names each

abbrev pub module_names : Module → List (Scanned ValueTerm) → List (List ValueTerm) → List ValueTerm
module_names computing.Import xs each = import_names xs each
module_names other xs each = all_names each

-- of a selector's call those of what is picked
abbrev pub picking_names : Sight → Scanned ValueTerm → (Value → List ValueTerm) → List ValueTerm
picking_names s (Forms t) go = told_selectors (s.told t) go
picking_names s (Ends e) go = []

abbrev pub selector_names : Sight → Function → Place → ℕ → List (Scanned ValueTerm) → List (List ValueTerm) → List ValueTerm
selector_names s f p result xs each = picking_names s (scanned_at xs (selector_at f)) (λ v. picked_selectors each (pick (terms_in s) f p result v))

abbrev pub rule_names : Sight → Function → Place → ℕ → List (Scanned ValueTerm) → List (List ValueTerm) → List ValueTerm
rule_names s (function.Module m) p result xs each = module_names m xs each
rule_names s (function.Effect e) p result xs each = effect_selectors e each
rule_names s function.Switch p result xs each = selector_names s function.Switch p result xs each
rule_names s function.Route p result xs each = selector_names s function.Route p result xs each
rule_names s function.GetLocal p result xs each = selector_names s function.GetLocal p result xs each
rule_names s function.GetGlobal p result xs each = selector_names s function.GetGlobal p result xs each

abbrev mutual
  pub names : Sight → Tree → List ValueTerm
  names s (ConstantTree c) = []
  names s (ResultTree result (TreeCall f p args)) = rule_names s f p result (scan_each s args) (names_each s args)

  pub names_each : Sight → Trees → List (List ValueTerm)
  names_each s NoTree = []
  names_each s (AndTree t ts) = names s t ∷ names_each s ts

-- ---- in order

-- the selectors that looking at a tree meets, got in any sound state: some of its uses of control
abbrev pub SelectorsInOrder : Type 0
SelectorsInOrder = (x : Fixed) (k : Kept) (formed : List FormedCall) (t : Tree) (s : State) → LinksRight (around_of x k) k.links → HaveAttributes formed → IsSound (around_of x k) x.budget s →
    RanPart s (asked (outcome (world_of x k) t).control_uses) (state_at (get_all (frame_with x k formed) (as_terms (selectors (sight_of x k) t)) s))

-- its term, got in any sound state in which the names of Imports are ready: some of its uses of data
abbrev pub TermsInOrder : Type 0
TermsInOrder = (x : Fixed) (k : Kept) (formed : List FormedCall) (t : Tree) (u : ValueTerm) (s : State) → LinksRight (around_of x k) k.links → HaveAttributes formed → IsSound (around_of x k) x.budget s → scan (sight_of x k) t ≡ Forms u →
    AreReady (frame_with x k formed) s (names (sight_of x k) t) → RanPart s (asked (outcome (world_of x k) t).data_uses) (state_at (get (frame_with x k formed) u s))

-- and those of all arguments of an effect together
abbrev pub ArgumentsInOrder : Type 0
ArgumentsInOrder = (x : Fixed) (k : Kept) (formed : List FormedCall) (args : Trees) (ts : ValueTerms) (s : State) → LinksRight (around_of x k) k.links → HaveAttributes formed → IsSound (around_of x k) x.budget s → all_scanned (scan_each (sight_of x k) args) ≡ Forms ts →
    AreReady (frame_with x k formed) s (all_names (names_each (sight_of x k) args)) → RanPart s (asked (together (outcomes (world_of x k) args)).data_uses) (state_at (get_all (frame_with x k formed) ts s))

-- the runs of an execution are some of the uses that it demands, in their order
abbrev pub ExecutionsInOrder : Type 0
ExecutionsInOrder = (x : Fixed) (k : Kept) (effects : List CallTree) → AreLawfulCalls effects → LinksRight (around_of x k) k.links → IsSound (around_of x k) x.budget (begins k).state → IsPartOf (runs_of (executed x effects k).events) (asked (execution (world_of x k) effects).demanded)
