-- What an execution has at hand, as the cache machine's state.
use Rattle.std.specs.Prelude.{◌≡◌, ◌⊎◌, ℕ, ◌<◌, ◌≤◌, List, [], ◌∷◌, ◌++◌, length, map, Option, Some, None, Result, Ok, Err, nat_eq}
use Rattle.std.specs.Map.{lookup}
use Rattle.std.specs.declared.rc.Rc.{Rc}
use Rattle.std.specs.declared.alloc.Global.{Global}
use Rattle.dx_base.specs.Object.{Tree}
use Rattle.dx_base.specs.declared.function.Module.{Module}
use Rattle.dx_base.specs.declared.function.Module.TheVariants.{Import}
use Rattle.dx_base.specs.declared.code.Code.{Code}
use Rattle.dx_io.specs.Devices.{FileMap}
use Rattle.dx_objects.specs.Runs.{Values, Answer}
use Rattle.dx_objects.specs.Values.{value_of, value_at}
use Rattle.dx_tags.specs.declared.term.Term.{Term}
use Rattle.dx_tags.specs.declared.term.ValueTag.{ValueTag}
use Rattle.dx_tags.specs.Closed.{ValueTerm, CallTerm, CallOf, NoTerm, Head, ConstantHead, HeldHead, CallHead, FileHead, head_at, heads_of, value_term, AllFormed, AreDistinct, Fits}
use Rattle.dx_tags.specs.Whole.{AllWhole, is_file}
use Rattle.dx_links.specs.Denotes.{Around, denotes, results_of}
use Rattle.dx_cache.specs.declared.entry.Entry.{Entry}
use Rattle.dx_machine.specs.Machine.{Cached, Event, RanAt, HitAt, KeptAt, DroppedAt, Cleared, FormedCall, Frame, State, Got, Went, Stopped, state_at, tasks_of}
use Rattle.dx_machine.specs.Covered.{IsCovered, IsCoveredCall}
use Rattle.dx_getting.specs.declared.scene.Called.{Called}
use Rattle.dx_getting.specs.declared.scene.Scene.{Scene}
use Rattle.dx_getting.specs.declared.work.Work.{Work}
use Rattle.dx_getting.specs.declared.event.Event.{Event as ShownEvent}
use Rattle.dx_getting.specs.declared.event.Event.TheVariants as shown
use Rattle.dx_getting.specs.declared.fail.GetFail.{GetFail}
use Rattle.dx_getting.specs.declared.fail.GetFail.TheVariants.{Refused, ReadFault, Memory}
use Rattle.dx_getting.specs.Terms.{BoundValues}
use Rattle.dx_getting.specs.Told.{Told, Adds, AddsSome}

-- ---- what tags name

abbrev pub call_of_head : Head → CallTerm
call_of_head (ConstantHead c) = CallOf Import NoTerm
call_of_head (HeldHead n) = CallOf Import NoTerm
call_of_head (CallHead c) = c
call_of_head (FileHead b) = CallOf Import NoTerm

abbrev pub call_at : List Head → ℕ → CallTerm
call_at hs t = call_of_head (head_at hs t)

-- a tag that names a call term
pub record IsCall (terms : List Term) (t : ℕ) : Type 0 where
  pub within : t < length terms
  pub head : head_at (heads_of terms) t ≡ CallHead (call_at (heads_of terms) t)

-- terms that name closed terms exactly, whose calls have as many arguments as the table allows
pub record AreExact (terms : List Term) : Type 0 where
  pub formed : AllFormed terms
  pub distinct : AreDistinct terms
  pub whole : AllWhole terms

-- ---- what stays the same

abbrev pub Answers : Type 0
Answers = Module → Values → Option (List ℕ) → Answer

abbrev pub FormedCalls : Type 0
FormedCalls = List (ℕ × Called)

-- the terms, the values of links by their terms, the held values, and the calls that were formed
pub record Setting : Type 0 where
  pub terms : List Term
  pub links : BoundValues
  pub held : Values
  pub formed : FormedCalls

abbrev pub setting_of : Scene → FormedCalls → Setting
setting_of scene formed = record { terms = scene.tags.now; links = scene.links.now.pairs; held = scene.held.now.held; formed = formed }

-- what modules answer, and the files
pub record World : Type 0 where
  pub answer : Answers
  pub file : FileMap

abbrev pub world : Answers → FileMap → World
world answer file = record { answer = answer; file = file }

abbrev pub around_of : Setting → World → Around
around_of e files = record { answer = files.answer; file = files.file; held = value_at e.held }

abbrev pub link_terms : List Head → BoundValues → List ValueTerm
link_terms hs links = map (λ (l : ValueTag × Tree). value_term hs l.0) links

abbrev pub formed_calls : List Head → FormedCalls → List FormedCall
formed_calls hs fs = map (λ (f : ℕ × Called). record { call = call_at hs f.0; site = f.1.site; attribute = f.1.attribute }) fs

abbrev pub frame_of : Setting → World → ℕ → Frame
frame_of e files budget = record {
  around = around_of e files;
  links = link_terms (heads_of e.terms) e.links;
  formed = formed_calls (heads_of e.terms) e.formed;
  budget = budget;
}

-- each call formed has a call's tag, a site, and an attribute of at most 2
abbrev pub AreLawful : List Term → FormedCalls → Type 0
AreLawful terms [] = Unit {0}
AreLawful terms (f ∷ fs) = (IsCall terms f.0 × (f.1.attribute ≤ 2) × (¬ (f.1.site ≡ []))) × AreLawful terms fs

abbrev pub LinksFit : List Term → BoundValues → Type 0
LinksFit terms [] = Unit {0}
LinksFit terms (l ∷ ls) = Fits terms l.0 × LinksFit terms ls

-- each link's value is what its term denotes
abbrev pub LinksDenote : Setting → World → BoundValues → Type 0
LinksDenote e files [] = Unit {0}
LinksDenote e files (l ∷ ls) = (denotes (around_of e files) (value_term (heads_of e.terms) l.0) ≡ Ok (Some l.1)) × LinksDenote e files ls

-- what getting a call, or a value, needs
pub record MayGet (e : Setting) (t : ℕ) : Type 0 where
  pub exact : AreExact e.terms
  pub lawful : AreLawful e.terms e.formed
  pub links : LinksFit e.terms e.links
  pub call : IsCall e.terms t
  pub covered : IsCoveredCall (formed_calls (heads_of e.terms) e.formed) (link_terms (heads_of e.terms) e.links) (call_at (heads_of e.terms) t)

pub record MayGetValue (e : Setting) (t : ValueTag) : Type 0 where
  pub exact : AreExact e.terms
  pub lawful : AreLawful e.terms e.formed
  pub links : LinksFit e.terms e.links
  pub fits : Fits e.terms t
  pub covered : IsCovered (formed_calls (heads_of e.terms) e.formed) (link_terms (heads_of e.terms) e.links) (value_term (heads_of e.terms) t)

-- ---- the machine's state

abbrev pub named : List Head → Entry → Cached
named hs e = record { call = call_at hs e.tag; site = e.site; attribute = e.attribute; size = e.size; results = e.outs }

abbrev pub known_calls : List Head → List (ℕ × Values) → List CallTerm
known_calls hs ks = map (λ (k : ℕ × Values). call_at hs k.0) ks

abbrev pub shown_event : Event → ShownEvent
shown_event (RanAt site task) = shown.Run site
shown_event (HitAt site) = shown.Hit site
shown_event (KeptAt site size) = shown.Keep site size
shown_event (DroppedAt site) = shown.Drop site
shown_event Cleared = shown.Clear

-- the entries have call terms' tags, and the results that these denote
abbrev pub EntriesRight : Setting → World → List Entry → Type 0
EntriesRight e files [] = Unit {0}
EntriesRight e files (x ∷ xs) =
    (IsCall e.terms x.tag × (results_of (around_of e files) (call_at (heads_of e.terms) x.tag) ≡ Ok x.outs)) × EntriesRight e files xs

abbrev pub KnownRight : Setting → World → List (ℕ × Values) → Type 0
KnownRight e files [] = Unit {0}
KnownRight e files (k ∷ ks) =
    (IsCall e.terms k.0 × (results_of (around_of e files) (call_at (heads_of e.terms) k.0) ≡ Ok k.1)) × KnownRight e files ks

pub record IsSoundWork (e : Setting) (files : World) (w : Work) : Type 0 where
  pub entries : EntriesRight e files w.cache.entries
  pub known : KnownRight e files w.known.calls

-- the work stands where the machine's state s is, and its runs are told
pub record Stands (e : Setting) (files : World) (w : Work) (base now : Told) (s : State) : Type 0 where
  pub sound : IsSoundWork e files w
  pub entries : s.entries ≡ map (named (heads_of e.terms)) w.cache.entries
  pub known : s.known ≡ known_calls (heads_of e.terms) w.known.calls
  pub events : map shown_event s.events ≡ w.events.items
  pub told : Adds base now (tasks_of s.events)

-- the work was cut short on the way to the machine's state s
pub record IsCut (e : Setting) (files : World) (w : Work) (base now : Told) (s : State) : Type 0 where
  pub sound : IsSoundWork e files w
  pub told : AddsSome base now (tasks_of s.events)

-- a getting that ended so does what the machine does
abbrev pub FailsAt : Setting → World → Told → GetFail → Got → Work → Told → Type 0
FailsAt e files base (Refused tag c) (Went s) w now = ⊥
FailsAt e files base (Refused tag c) (Stopped refused code s) w now =
    IsCall e.terms tag × (call_at (heads_of e.terms) tag ≡ refused) × (c ≡ code) × Stands e files w base now s
FailsAt e files base ReadFault g w now = IsCut e files w base now (state_at g)
FailsAt e files base Memory g w now = IsCut e files w base now (state_at g)

abbrev pub WentTo : Setting → World → Told → Got → Work → Told → Type 0
WentTo e files base (Went s) w now = Stands e files w base now s
WentTo e files base (Stopped refused code s) w now = ⊥

-- a call is known
abbrev pub IsReady : ℕ → List (ℕ × Values) → Type 0
IsReady t ks = (outs : Values) × (lookup (nat_eq t) ks ≡ Some outs)

-- a call that ended so does what the machine does, and is known where it went well
abbrev pub GetsCall : {A : Type 0} → Setting → World → Told → ℕ → Result A GetFail → Got → Work → Told → Type 0
GetsCall e files base t (Ok _) g w now = WentTo e files base g w now × IsReady t w.known.calls
GetsCall e files base t (Err fail) g w now = FailsAt e files base fail g w now

-- and likewise a value term, with the value that it denotes
abbrev pub GetsValue : Setting → World → Told → ValueTag → Result (Option (Rc Tree Global)) GetFail → Got → Work → Told → Type 0
GetsValue e files base t (Ok v) g w now =
    WentTo e files base g w now × (denotes (around_of e files) (value_term (heads_of e.terms) t) ≡ Ok (value_of v))
GetsValue e files base t (Err fail) g w now = FailsAt e files base fail g w now

-- for files that tell their content, links that are right, and each state of the machine where the work stands
abbrev pub From : Setting → Answers → Option FileMap → Work → Told → (World → Told → State → Type 0) → Type 0
From e answer content w now P = (map : FileMap) → content ≡ Some map → LinksDenote e (world answer map) e.links → (base : Told) (s : State) → Stands e (world answer map) w base now s → P (world answer map) base s

-- a failure that is no refusal
abbrev pub IsDevice : GetFail → Type 0
IsDevice (Refused tag code) = ⊥
IsDevice ReadFault = Unit {0}
IsDevice Memory = Unit {0}
