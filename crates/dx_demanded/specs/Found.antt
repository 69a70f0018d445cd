-- The call that an error names is found by its term.
use Rattle.std.specs.Prelude.{◌≡◌, true, List, [], ◌∷◌, Option, Some, None, Ok, Err}
use Rattle.dx_base.specs.Object.{Tree as Object}
use Rattle.dx_base.specs.declared.code.Code.{Code}
use Rattle.dx_macros.specs.Site.{Step}
use Rattle.dx_macros.specs.Tree.{Place, Tree, Trees}
use Rattle.dx_objects.specs.Runs.{Values}
use Rattle.dx_tags.specs.Closed.{ValueTerm, CallTerm, ValueTerms}
use Rattle.dx_links.specs.declared.key.Key.{Key}
use Rattle.dx_links.specs.Denotes.{Around, denotes, results_of}
use Rattle.dx_links.specs.Getting.{has_value}
use Rattle.dx_machine.specs.Machine.{FormedCall, State, Got, Went, Stopped, get_all}
use Rattle.dx_machine.specs.Sound.{HasResults, HaveAttributes, IsSound}
use Rattle.dx_machine.specs.Agree.{Demanded, Runs, Refuses, demanded, all_demanded}
use Rattle.dx_meaning.specs.Outcome.{Value, Decided, Val, ErrAt, Off, HaltAt}
use Rattle.dx_meaning.specs.Meaning.{World, outcome, outcomes, together}
use Rattle.dx_meaning.specs.Met.{Called, met, each_met, all_met, first_place}
use Rattle.dx_meaning.specs.More.{More}
use Rattle.dx_meaning.specs.Scan.{Forms, scan_each, all_scanned}
use Rattle.dx_meaning.specs.Term.{Names, around, term_of, terms_of, LinksDenote}
use Rattle.dx_meaning.specs.Scan.{Sight}
use Rattle.dx_performing.specs.Kept.{Kept}
use Rattle.dx_performing.specs.Course.{Fixed, around_of, world_of, sight_of, frame_with}
use Rattle.dx_performing.specs.Meant.{IsFull, LinksRight}

-- each link's value is what its term denotes, its term is among these, and each of these denotes a value
pub record AreLinks (w : World) (n : Names) (links : List ValueTerm) : Type 0 where
  pub denote : LinksDenote w n
  pub listed : (k : Key) (o : Object) → w.link k ≡ Some o → has_value links (n.term k) ≡ true
  pub valued : (t : ValueTerm) → has_value links t ≡ true → (v : Value) × (denotes (around w n) t ≡ Ok v)

-- the first of these calls with a term stands at a site
abbrev pub StandsAt : List Called → CallTerm → List Step → Type 0
StandsAt calls c site = (p : Place) × (first_place calls c ≡ Some p) × (p.site ≡ site)

-- each of these calls has results
abbrev pub HaveAllResults : Around → List Called → Type 0
HaveAllResults a [] = Unit {0}
HaveAllResults a (c ∷ cs) = HasResults a c.call × HaveAllResults a cs

-- a call refuses with the code, and the first with its term stands at the site
abbrev pub RefusesAt : Around → List Called → List Step → Code → Demanded → Type 0
RefusesAt a calls site code (Runs tasks) = ⊥
RefusesAt a calls site code (Refuses tasks c code') = (code' ≡ code) × (results_of a c ≡ Err code) × StandsAt calls c site

-- nothing refuses, and each of the calls has results
abbrev pub RunsAll : Around → List Called → Demanded → Type 0
RunsAll a calls (Runs tasks) = HaveAllResults a calls
RunsAll a calls (Refuses tasks c code) = ⊥

-- what a term needs, beside what its tree comes to and the calls that its data meets
abbrev pub Finds : {A : Type 0} → Around → Decided A → List Called → Demanded → Type 0
Finds a (Val v) calls d = RunsAll a calls d
Finds a (ErrAt site code) calls d = RefusesAt a calls site code d
Finds a Off calls d = Unit {0}
Finds a (HaltAt site code) calls d = Unit {0}

abbrev pub TreeFinds : World → Names → Sight → List ValueTerm → Tree → Type 0
TreeFinds w n s links t = Finds (around w n) (outcome w t).decided (met s t) (demanded (around w n) links (term_of w n t))

-- all arguments together
abbrev pub ArgumentsFind : World → Names → Sight → List ValueTerm → Trees → Type 0
ArgumentsFind w n s links args = Finds (around w n) (together (outcomes w args)).decided (all_met (each_met s args)) (all_demanded (around w n) links (terms_of w n args))

abbrev pub ErrorsAreFound : Type 0
ErrorsAreFound = (w : World) (n : Names) (s : Sight) (links : List ValueTerm) → AreLinks w n links → IsFull w n s → ((t : Tree) → TreeFinds w n s links t) × ((args : Trees) → ArgumentsFind w n s links args)

-- ---- getting with what is kept

-- it is stopped with the code, at a call whose first with its term stands at the site
abbrev pub StoppedAt : List Called → List Step → Code → Got → Type 0
StoppedAt calls site code (Went s) = ⊥
StoppedAt calls site code (Stopped c code' s) = (code' ≡ code) × StandsAt calls c site

abbrev pub Goes : Got → Type 0
Goes (Went s) = Unit {0}
Goes (Stopped c code s) = ⊥

abbrev pub GotFinds : Decided Values → List Called → Got → Type 0
GotFinds (Val vs) calls g = Goes g
GotFinds (ErrAt site code) calls g = StoppedAt calls site code g
GotFinds Off calls g = Unit {0}
GotFinds (HaltAt site code) calls g = Unit {0}

-- the arguments of an effect, once their terms are formed by what is told, got in any sound state
abbrev pub GettingsFind : Type 0
GettingsFind = (x : Fixed) (k : Kept) (told : Sight) (formed : List FormedCall) (args : Trees) (ts : ValueTerms) (s : State) → LinksRight (around_of x k) k.links → More told (sight_of x k) → HaveAttributes formed → IsSound (around_of x k) x.budget s → all_scanned (scan_each told args) ≡ Forms ts →
    GotFinds (together (outcomes (world_of x k) args)).decided (all_met (each_met told args)) (get_all (frame_with x k formed) ts s)

-- ---- in which argument

abbrev pub or_else : Option Place → Option Place → Option Place
or_else (Some p) q = Some p
or_else None q = q

-- where the first call of a term stands in the first list that has it
abbrev pub first_in : List (List Called) → CallTerm → Option Place
first_in [] c = None
first_in (cs ∷ each) c = or_else (first_place cs c) (first_in each c)

abbrev pub FirstIsOfAll : Type 0
FirstIsOfAll = (each : List (List Called)) (c : CallTerm) → first_in each c ≡ first_place (all_met each) c
