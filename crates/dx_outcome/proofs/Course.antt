-- What is true of each execution that the cache machine makes from what is sound.
use Rattle.std.proofs.Common.{◌≤◌, List, [], ◌∷◌, Option, Some, None, arith}
use Rattle.dx_ast.specs.declared.sequencing.Frames.{Frames}
use Rattle.dx_ast.specs.Lawful.{IsLawful, AreLawful}
use Rattle.dx_ast.specs.Syntax.{Stmt, Stmts}
use Rattle.dx_cache.specs.Cached.{IsPartOf, part_none}
use Rattle.dx_demanded.specs.Ordered.{asked}
use Rattle.dx_demanded.proofs.Performed.{executions_in_order}
use Rattle.dx_getting.specs.Stands.{Answers}
use Rattle.dx_io.specs.Devices.{FileMap}
use Rattle.dx_looking.specs.Setting.{fixed}
use Rattle.dx_machine.specs.Machine.{Cached, total, runs_of}
use Rattle.dx_machine.specs.Sound.{IsSound}
use Rattle.dx_macros.specs.Dictionary.{Dictionary}
use Rattle.dx_macros.specs.Expansion.{effects}
use Rattle.dx_macros.specs.Tree.{CallTree}
use Rattle.dx_macros.specs.Walk.{Fault, first_fault}
use Rattle.dx_performing.specs.Course.{Fixed, around_of, begins}
use Rattle.dx_performing.specs.Kept.{Kept, new as none_kept}
use Rattle.dx_performing.specs.Meant.{LinksRight}
use Rattle.dx_performing.specs.SoundEntries.{AreLawfulCalls}
use Rattle.dx_performing.proofs.EntriesSound.{entries_stay_sound}
use Rattle.dx_performing.proofs.LinksSound.{links_stay_right}
use Rattle.dx_shown.specs.Listed.{of_executions}
use Rattle.dx_shown.specs.Made.{Coursed, coursed, coursed_unless}
use Rattle.dx_shown.specs.Session.{Shown, Executes, PlayTooLong, FrameRange, initial, statements}
use Rattle.dx_outcome.specs.Budget.{keeping, AllWithin, StaysWithin}
use Rattle.dx_outcome.specs.Laws.{EntriesStayWithin}
use Rattle.dx_outcome.specs.Plan.{Plan, NoLine, Refuses, Performs}
use Rattle.dx_outcome.proofs.Attributes.{IsLawfulDictionary, effects_lawful}
use Rattle.dx_outcome.proofs.Folding.{AllFine, all_fine}
use Rattle.dx_outcome.proofs.Loaded.{IsLawfulPlan, plan_lawful}

-- links and entries are as their terms say
pub record IsSoundKept (x : Fixed) (k : Kept) : Type 0 where
  pub links : LinksRight (around_of x k) k.links
  pub entries : IsSound (around_of x k) x.budget (begins k).state

none_sound : (x : Fixed) → IsSoundKept x none_kept
none_sound x = record { links = tt; entries = record { entries = tt; bounded = omega arith; known = tt } }

-- its runs are some of the uses that it demands
abbrev pub RunsDemanded : Coursed → Type 0
RunsDemanded c = IsPartOf (runs_of c.events) (asked c.execution.demanded)

makes_unless : (x : Fixed) (fault : Option Fault) (calls : List CallTree) (k : Kept) → AreLawfulCalls calls → IsSoundKept x k → RunsDemanded (coursed_unless x fault calls k).0 × IsSoundKept x (coursed_unless x fault calls k).1
makes_unless x None calls k h s = (
  executions_in_order x k calls h s.links s.entries,
  record { links = links_stay_right x k calls s.links; entries = entries_stay_sound x k calls h s.entries },
)
makes_unless x (Some f) calls k h s = (part_none, s)

makes : (x : Fixed) (d : Dictionary) (frames : Frames) (s : Stmt) (k : Kept) → IsLawfulDictionary d → IsLawful s → IsSoundKept x k → RunsDemanded (coursed x d frames s k).0 × IsSoundKept x (coursed x d frames s k).1
makes x d frames s k all h sound = makes_unless x (first_fault d s) (effects d frames s) k (effects_lawful d frames s all h) sound

pub runs_demanded : (x : Fixed) (ss : Stmts) → AreLawful ss → AllFine RunsDemanded (statements (coursed x) (initial none_kept) ss).shown
runs_demanded x ss h = all_fine Kept Coursed (IsSoundKept x) RunsDemanded (coursed x) (makes x) none_kept ss h (none_sound x)

-- ---- the budget

abbrev IsWithin : Fixed → List Cached → Type 0
IsWithin x entries = total entries ≤ x.budget

keeps : (x : Fixed) (d : Dictionary) (frames : Frames) (s : Stmt) (k : Kept) → IsLawfulDictionary d → IsLawful s → IsSoundKept x k → IsWithin x (keeping x d frames s k).0 × IsSoundKept x (keeping x d frames s k).1
keeps x d frames s k all h sound = let made = (makes x d frames s k all h sound).1 in (made.entries.bounded, made)

all_within : (x : Fixed) (shown : List (Shown (List Cached))) → AllFine (IsWithin x) shown → AllWithin x.budget (of_executions (λ (entries : List Cached). entries ∷ []) shown)
all_within x [] h = tt
all_within x (Executes entries ∷ rest) h = (h.0, all_within x rest h.1)
all_within x (PlayTooLong ∷ rest) h = all_within x rest h
all_within x (FrameRange ∷ rest) h = all_within x rest h

performed_within : (x : Fixed) (ss : Stmts) → AreLawful ss → AllWithin x.budget (of_executions (λ (entries : List Cached). entries ∷ []) (statements (keeping x) (initial none_kept) ss).shown)
performed_within x ss h = all_within x (statements (keeping x) (initial none_kept) ss).shown (all_fine Kept (List Cached) (IsSoundKept x) (IsWithin x) (keeping x) (keeps x) none_kept ss h (none_sound x))

stays_within : (answer : Answers) (files : FileMap) (p : Plan) → IsLawfulPlan p → StaysWithin answer files p
stays_within answer files NoLine h = tt
stays_within answer files (Refuses reads why) h = tt
stays_within answer files (Performs reads said ss) h = performed_within (fixed answer files said.budget) ss h

pub entries_within : EntriesStayWithin
entries_within words files answer p is = stays_within answer files p (plan_lawful words files p is)
