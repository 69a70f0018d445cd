-- The course of the cache machine over one execution: each effect looks at its arguments and then gets them, up to the first that
-- ends the execution.
use Rattle.std.specs.Prelude.{ℕ, List, [], ◌∷◌, ◌++◌, map, Option, Some, None, option_map, is_some, Bool, true, false, if◌then◌else◌, Result, Ok, Err}
use Rattle.dx_base.specs.declared.code.Code.{Code}
use Rattle.dx_base.specs.declared.function.Effect.{Effect}
use Rattle.dx_base.specs.declared.function.Function.TheVariants as function
use Rattle.dx_base.specs.declared.function.Module.{Module}
use Rattle.dx_macros.specs.Site.{steps_text}
use Rattle.dx_macros.specs.Tree.{Place, CallTree, TreeCall, Trees}
use Rattle.dx_objects.specs.Runs.{Values, Answer}
use Rattle.dx_objects.specs.Values.{value_at}
use Rattle.dx_tags.specs.Closed.{ValueTerm, ValueTerms, NoTerm, AndTerm}
use Rattle.dx_tags.specs.Files.{content_of}
use Rattle.dx_links.specs.declared.key.Key.{Key}
use Rattle.dx_links.specs.Denotes.{Around, denotes, all_denote}
use Rattle.dx_machine.specs.Machine.{Event, Cleared, FormedCall, Frame, State, Got, Went, and_then, state_at, get_all}
use Rattle.dx_meaning.specs.Outcome.{Value}
use Rattle.dx_meaning.specs.Meaning.{World}
use Rattle.dx_meaning.specs.Met.{Called}
use Rattle.dx_meaning.specs.Scan.{Sight, IsOff, Stops, Needs, Scanned, Forms, Ends, scan_each, all_scanned}
use Rattle.dx_meaning.specs.Forming.{Formed, Formings, each_forms, all_forms, after}
use Rattle.dx_performing.specs.Acts.{act, is_refusal}
use Rattle.dx_performing.specs.Execution.{Execution, execution, world_with, after_exports}
use Rattle.dx_performing.specs.Selectors.{selectors_all}
use Rattle.dx_performing.specs.Kept.{Kept, Link, SetTerm, link_in, set_terms, after_set_terms, current, is_full, emptied}

-- what stays the same from execution to execution: what modules answer, the files, and the budget of the cache
pub record Fixed : Type 0 where
  pub answer : Module → Values → Option (List ℕ) → Answer
  pub file : List ℕ → Option (List ℕ)
  pub budget : ℕ

-- ---- what an execution has from what is kept

abbrev pub world_of : Fixed → Kept → World
world_of x k = world_with (current k) x.answer x.file

abbrev pub around_of : Fixed → Kept → Around
around_of x k = record { answer = x.answer; file = x.file; held = value_at k.held }

abbrev pub value_or_none : Result Value Code → Option Value
value_or_none (Ok v) = Some v
value_or_none (Err code) = None

-- each value that a term denotes is told, and none of a term that is refused
abbrev pub sight_of : Fixed → Kept → Sight
sight_of x k = record {
  linked = λ key. option_map (λ (l : Link). l.term) (link_in k.links key);
  written = λ name. content_of name k.written;
  told = λ t. value_or_none (denotes (around_of x k) t);
}

abbrev pub frame_with : Fixed → Kept → List FormedCall → Frame
frame_with x k formed = record {
  around = around_of x k;
  links = map (λ (l : Key × Link). l.1.term) k.links;
  formed = formed;
  budget = x.budget;
}

-- ---- where an execution stands

-- the entries, the known calls and the events; the terms formed since the last emptying, and the calls that formed theirs first in
-- this execution; and the Sets so far
pub record At : Type 0 where
  pub state : State
  pub formings : Formings
  pub sets : List SetTerm

abbrev pub begins : Kept → At
begins k = record { state = record { entries = k.entries; known = []; events = [] }; formings = record { terms = k.terms; calls = [] }; sets = [] }

-- a call with its site and its cache attribute
abbrev pub formed_call : Called → FormedCall
formed_call c = record { call = c.call; site = steps_text c.place.site; attribute = c.place.cache }

abbrev pub formed_calls : Formings → List FormedCall
formed_calls formings = map formed_call formings.calls

abbrev pub as_terms : List ValueTerm → ValueTerms
as_terms [] = NoTerm
as_terms (t ∷ ts) = AndTerm t (as_terms ts)

-- ---- one effect

-- what looking at its arguments comes to: their terms, what it forms, and the selectors that it meets
pub record Looked : Type 0 where
  pub terms : Scanned ValueTerms
  pub forms : List Formed
  pub selectors : List ValueTerm

abbrev pub look_at : Sight → Trees → Looked
look_at s args = record {
  terms = all_scanned (scan_each s args);
  forms = all_forms (scan_each s args) (each_forms s args);
  selectors = selectors_all s args;
}

-- the arguments are got where each has a term
abbrev pub get_scanned : Frame → Scanned ValueTerms → State → Got
get_scanned k (Forms ts) s = get_all k ts s
get_scanned k (Ends e) s = Went s

-- the selectors are got as they are met, and then the arguments
abbrev pub effect_got : Frame → Looked → State → Got
effect_got k looked s = and_then (get_all k (as_terms looked.selectors) s) (get_scanned k looked.terms)

-- the values of its arguments, or none where it is passed over, or its execution ends at it
pub data Came : Type 0 where
  HasValues : ValueTerms → Values → Came
  PassedOver : Came
  IsRefused : Came

abbrev pub with_values : ValueTerms → Answer → Came
with_values ts (Ok values) = HasValues ts values
with_values ts (Err code) = IsRefused

abbrev pub came : Around → Scanned ValueTerms → Came
came a (Forms ts) = with_values ts (all_denote a ts)
came a (Ends IsOff) = PassedOver
came a (Ends (Stops site code)) = IsRefused
came a (Ends (Needs site t)) = IsRefused

abbrev pub sets_by : Effect → Place → Came → List SetTerm
sets_by e p (HasValues ts values) = set_terms (act e p values) ts
sets_by e p PassedOver = []
sets_by e p IsRefused = []

abbrev pub ends_by : Effect → Place → Came → Bool
ends_by e p (HasValues ts values) = is_refusal (act e p values)
ends_by e p PassedOver = false
ends_by e p IsRefused = true

-- the site of a call is that of the first that formed its term
abbrev pub worked : Fixed → Kept → Effect → Place → Looked → At → At
worked x k e p looked at =
    let formings = after looked.forms at.formings in
    record {
      state = state_at (effect_got (frame_with x k (formed_calls formings)) looked at.state);
      formings = formings;
      sets = at.sets ++ sets_by e p (came (around_of x k) looked.terms);
    }

-- ---- effects one behind the other

abbrev pub unless : Bool → At → At → At
unless true now later = now
unless false now later = later

abbrev pub effect_course : Fixed → Kept → Effect → Place → Trees → (At → At) → At → At
effect_course x k e p args rest at =
    let looked = look_at (sight_of x k) args in
    let now = worked x k e p looked at in
    unless (ends_by e p (came (around_of x k) looked.terms)) now (rest now)

abbrev pub call_course : Fixed → Kept → CallTree → (At → At) → At → At
call_course x k (TreeCall (function.Effect e) p args) rest at = effect_course x k e p args rest at
call_course x k (TreeCall other p args) rest at = rest at

abbrev pub course : Fixed → Kept → List CallTree → At → At
course x k [] at = at
course x k (c ∷ cs) at = call_course x k c (course x k cs) at

-- ---- an execution

-- its Sets are put where it ended without an error, and it may end with an emptying
abbrev pub committed : Kept → Execution → At → Kept
committed k done at = record {
  entries = at.state.entries;
  terms = at.formings.terms;
  links = if is_some done.error then k.links else after_set_terms k.links at.sets;
  held = k.held;
  written = after_exports k.written done.exports;
}

abbrev pub unless_full : Kept → Kept
unless_full k = if is_full k.terms then emptied k else k

abbrev pub clearing : Kept → List Event
clearing k = if is_full k.terms then Cleared ∷ [] else []

-- what is kept behind an execution, and its events
pub record Course : Type 0 where
  pub kept : Kept
  pub events : List Event

abbrev pub ended : Kept → At → Course
ended k at = record { kept = unless_full k; events = at.state.events ++ clearing k }

abbrev pub executed : Fixed → List CallTree → Kept → Course
executed x effects k =
    let at = course x k effects (begins k) in
    ended (committed k (execution (world_of x k) effects) at) at
