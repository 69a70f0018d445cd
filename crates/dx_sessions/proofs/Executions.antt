-- One execution on the devices, with what is told behind it.
use Rattle.std.proofs.Common.{inl, inr, ◌≡◌, ℕ, List, [], ◌∷◌, ◌++◌, Option, Some, None, Bool, true, false, ◌||◌, is_some, Result, Ok, Err, refl, sym, ap, ap₂, subst, ◌∙◌, append_assoc, append-nil}
use Rattle.dx_io.specs.Devices.{FileMap as InputFiles, Grows, GrowsInto}
use Rattle.dx_io.proofs.Growing.{grows_by_nothing, grows_on, grows_on_into, grows_into}
use Rattle.dx_ast.specs.Syntax.{Stmt}
use Rattle.dx_macros.specs.DictionaryView.{dictionary_of}
use Rattle.dx_links.specs.LinkMap.{LinkMap}
use Rattle.dx_machine.specs.Machine.{tasks_of}
use Rattle.dx_macros.specs.Dictionary.{Dictionary as Definitions}
use Rattle.dx_macros.specs.Expansion.{effects}
use Rattle.dx_macros.specs.Tree.{CallTree}
use Rattle.dx_macros.specs.Walk.{Fault, first_fault}
use Rattle.dx_ast.specs.declared.sequencing.Frames.{Frames}
use Rattle.dx_tags.specs.Closed.{Head, heads_of}
use Rattle.dx_getting.specs.Stands.{Answers}
use Rattle.dx_getting.specs.Told.{Told, Adds}
use Rattle.dx_looking.specs.Setting.{fixed, links_of}
use Rattle.dx_performing.specs.Course.{Fixed}
use Rattle.dx_performing.specs.Execution.{Current, Error, Export, Links}
use Rattle.dx_tags.specs.Files.{FileMap}
use Rattle.dx_performing.specs.Kept.{Kept, current, objects_of}
use Rattle.dx_engine.specs.Beginning.{FromState}
use Rattle.dx_engine.specs.Keeping.{kept_of, IsSoundState}
use Rattle.dx_engine.specs.Executing.{Devices, NonePut}
use Rattle.dx_engine.specs.Fronts.{AddsFront}
use Rattle.dx_engine.proofs.Fronts.{front_all, front_later}
use Rattle.dx_engine.specs.declared.state.State.{State}
use Rattle.dx_shown.specs.Made.{Coursed, coursed, coursed_unless}
use Rattle.dx_sequencer.specs.Sequencer.{frames_of}
use Rattle.dx_shown.specs.Session.{Done, Executes, executed, sequence_executed, with_kept, State as SessionState}
use Rattle.dx_making.specs.Ends.{reads_ahead}
use Rattle.dx_making.specs.Failing.{FailsAs}
use Rattle.dx_making.specs.Making.{IsMade, IsCutLate, MakesSo}
use Rattle.dx_making.specs.declared.end.End.{End}
use Rattle.dx_making.specs.declared.end.End.TheVariants.{ReadFault, WriteFault, ExportFault, Memory}
use Rattle.dx_making.specs.declared.failing.Failing.{Failing}
use Rattle.dx_making.specs.declared.failing.Failing.TheVariants.{Faulty, Refused}
use Rattle.dx_telling.specs.Shown.{behind_of}
use Rattle.dx_telling.specs.declared.listings.Listings.{Listings}
use Rattle.dx_sessions.specs.Does.{OverSound, IsFront, DoesSo, ShowsSo}
use Rattle.dx_sessions.specs.Places.{here}
use Rattle.dx_sessions.specs.Ended.{erred_of, is_error}
use Rattle.dx_sessions.specs.Sequence.{IsSequence}
use Rattle.dx_sessions.specs.Executes.{IsExecuted, IsCutIn, ExecutesSo}
use Rattle.dx_sessions.specs.Left.{IsBehind, IsLeftIn, before_puts, at_a_put, behind_puts}
use Rattle.dx_sessions.specs.SessionView.{state_of}
use Rattle.dx_sessions.specs.declared.ended.Ended.{Ended}
use Rattle.dx_sessions.specs.declared.session.Session.{Session}
use Rattle.dx_sessions.proofs.Folding.{cut_in_one}

-- ---- what modules answer, the files and the budget

pub over_from : (answer : Answers) (content : Option InputFiles) (st : State) (P : Fixed → Type 0) → FromState answer content st P → OverSound answer content st P
over_from answer content st P from x answers files sound =
    let same : fixed answer x.file st.at.work.cache.budget ≡ x =
    ap₂ (λ (a : Answers) (b : ℕ). let y : Fixed = record { answer = a; file = x.file; budget = b } in y) (sym answers) (sym sound.budget) in
    subst P same (from x.file files (subst (λ (y : Fixed). IsSoundState y st) (sym same) sound))

-- ---- fronts

into_more : {A : Type 0} (told now : Option (List A)) (a b : List A) → GrowsInto told now a → GrowsInto told now (a ++ b)
into_more told now a b (front, rest, split, grown) = (front, rest ++ b, ap (λ xs. xs ++ b) split ∙ append_assoc front rest b, grown)

into_by_nothing : {A : Type 0} (told now : Option (List A)) (a : List A) → now ≡ told → GrowsInto told now a
into_by_nothing told now a same = ([], a, refl, same ∙ grows_by_nothing told)

-- ---- the failure

fails : (e : Option Error) (failing : Option Failing) → FailsAs e failing → is_some failing ≡ is_some e
fails e None h = ap is_some (sym h)
fails e (Some (Faulty site fault)) h = ap is_some (sym h.1)
fails e (Some (Refused site code)) h = ap is_some (sym h.1)

-- ---- an execution that is made

-- what is told of the devices behind its effects, and behind what is told of it
pub made_whole : (x : Fixed) (l : Listings) (st st' : State) (made : Coursed × Kept) (was mid now : Devices) (failing : Option Failing) (ended : Ended)
    → IsMade x st made was failing st' mid → Grows mid.written now.written (behind_of l made.0) → now.told ≡ mid.told → now.puts ≡ mid.puts → is_error ended ≡ is_some failing
    → IsExecuted x l made was ended st' now
made_whole x l st st' made was mid now failing ended m grown told puts error = record {
  whole = record {
    printed = subst (Grows was.written now.written) (sym (append-nil (made.0.execution.printed ++ behind_of l made.0))) (grows_on was.written mid.written now.written made.0.execution.printed (behind_of l made.0) m.printed grown);
    puts = subst (λ (p : Option (List Export)). Grows was.puts p (made.0.execution.exports ++ [])) (sym puts) (subst (Grows was.puts mid.puts) (sym (append-nil made.0.execution.exports)) m.puts);
    told = subst (λ (t : Told). Adds was.told t (tasks_of made.0.events ++ [])) (sym told) (subst (Adds was.told mid.told) (sym (append-nil (tasks_of made.0.events))) m.told);
  };
  error = error ∙ fails made.0.execution.error failing m.error;
  kept = m.kept;
  sound = m.sound;
}

-- a front of what is told of it was written
made_front : (ahead : Bool) (x : Fixed) (l : Listings) (st st' : State) (made : Coursed × Kept) (was mid now : Devices) (failing : Option Failing)
    → IsMade x st made was failing st' mid → GrowsInto mid.written now.written (behind_of l made.0) → now.told ≡ mid.told → now.puts ≡ mid.puts
    → IsFront ahead l (Executes made.0 ∷ []) was now
made_front ahead x l st st' made was mid now failing m grown told puts = record {
  printed = into_more was.written now.written (made.0.execution.printed ++ behind_of l made.0) [] (grows_on_into was.written mid.written now.written made.0.execution.printed (behind_of l made.0) m.printed grown);
  puts = subst (λ (p : Option (List Export)). GrowsInto was.puts p (made.0.execution.exports ++ [])) (sym puts) (grows_into was.puts mid.puts made.0.execution.exports [] m.puts);
  told = subst (λ (t : Told). AddsFront ahead was.told t (tasks_of made.0.events ++ [])) (sym told) (front_all ahead was.told mid.told (tasks_of made.0.events) [] (tasks_of made.0.events ++ []) m.told refl);
}

-- ---- one that is cut short

front_by : (ahead : Bool) (l : Listings) (c : Coursed) (was now : Devices)
    → GrowsInto was.written now.written c.execution.printed → GrowsInto was.puts now.puts c.execution.exports → AddsFront ahead was.told now.told (tasks_of c.events)
    → IsFront ahead l (Executes c ∷ []) was now
front_by ahead l c was now printed puts told = record {
  printed = into_more was.written now.written (c.execution.printed ++ behind_of l c) [] (into_more was.written now.written c.execution.printed (behind_of l c) printed);
  puts = into_more was.puts now.puts c.execution.exports [] puts;
  told = front_later ahead was.told now.told (tasks_of c.events) [] (tasks_of c.events ++ []) told refl;
}

some_put : (c : Coursed) (st st' : State) (was now : Devices) → IsCutLate c st was st' now → GrowsInto was.puts now.puts c.execution.exports
some_put c st st' was now late = (late.puts.front, late.puts.failed ∷ late.puts.rest, late.puts.split, late.puts.made.told)

printed_whole : (c : Coursed) (was now : Devices) → Grows was.written now.written c.execution.printed → GrowsInto was.written now.written c.execution.printed
printed_whole c was now grown = (c.execution.printed, [], sym (append-nil c.execution.printed), grown)

told_whole : (ahead : Bool) (c : Coursed) (was now : Devices) → Adds was.told now.told (tasks_of c.events) → AddsFront ahead was.told now.told (tasks_of c.events)
told_whole ahead c was now told = front_all ahead was.told now.told (tasks_of c.events) [] (tasks_of c.events) told (sym (append-nil (tasks_of c.events)))

late_front : (ahead : Bool) (l : Listings) (st st' : State) (c : Coursed) (was now : Devices) → IsCutLate c st was st' now → IsFront ahead l (Executes c ∷ []) was now
late_front ahead l st st' c was now late = front_by ahead l c was now (printed_whole c was now late.printed) (some_put c st st' was now late) (told_whole ahead c was now late.told)

cut_front : (x : Fixed) (l : Listings) (st st' : State) (made : Coursed × Kept) (was now : Devices) (end : End)
    → MakesSo x st made was (Err end) st' now → IsFront (reads_ahead end) l (Executes made.0 ∷ []) was now
cut_front x l st st' made was now ReadFault (early, none) = front_by true l made.0 was now early.printed (into_by_nothing was.puts now.puts made.0.execution.exports none.puts) early.told
cut_front x l st st' made was now WriteFault (early, none) = front_by false l made.0 was now early.printed (into_by_nothing was.puts now.puts made.0.execution.exports none.puts) early.told
cut_front x l st st' made was now ExportFault late = late_front false l st st' made.0 was now late
cut_front x l st st' made was now Memory (inl (early, none)) = front_by true l made.0 was now early.printed (into_by_nothing was.puts now.puts made.0.execution.exports none.puts) early.told
cut_front x l st st' made was now Memory (inr late) = late_front true l st st' made.0 was now late

-- ---- where it is left

objects_same : (a b : List Head) (links : LinkMap) → objects_of (links_of a links) ≡ objects_of (links_of b links)
objects_same a b [] = refl
objects_same a b (l ∷ ls) = ap (λ (rest : Links). (l.0, l.1.value) ∷ rest) (objects_same a b ls)

links_same : (st st' : State) → st'.links.links ≡ st.links.links → (current (kept_of st')).links ≡ (current (kept_of st)).links
links_same st st' same = ap (λ (y : LinkMap). objects_of (links_of (heads_of st'.at.tags) y)) same ∙ objects_same (heads_of st'.at.tags) (heads_of st.at.tags) st.links.links

before_unput : (l : Listings) (c : Coursed) (st st' : State) (was now : Devices) → st'.links.links ≡ st.links.links → GrowsInto was.written now.written c.execution.printed → NonePut st was st' now → IsLeftIn l c was now (current (kept_of st)) (current (kept_of st'))
before_unput l c st st' was now same printed none =
    before_puts (record {
      printed = printed;
      puts = none.puts;
      current = ap₂ (λ (links : Links) (files : FileMap). let y : Current = record { links = links; written = files } in y) (links_same st st' same) none.files;
    })

before_put : (l : Listings) (c : Coursed) (st st' : State) (was now : Devices) → st'.links.links ≡ st.links.links → IsCutLate c st was st' now → IsLeftIn l c was now (current (kept_of st)) (current (kept_of st'))
before_put l c st st' was now same late =
    at_a_put (record {
      printed = late.printed;
      told = late.told;
      front = late.puts.front;
      failed = late.puts.failed;
      rest = late.puts.rest;
      split = late.puts.split;
      puts = late.puts.made.told;
      links = links_same st st' same;
      written = late.puts.made.files;
    })

left_by : (x : Fixed) (l : Listings) (st st' : State) (made : Coursed × Kept) (was now : Devices) (end : End) → st'.links.links ≡ st.links.links → MakesSo x st made was (Err end) st' now → IsLeftIn l made.0 was now (current (kept_of st)) (current (kept_of st'))
left_by x l st st' made was now ReadFault same (early, none) = before_unput l made.0 st st' was now same early.printed none
left_by x l st st' made was now WriteFault same (early, none) = before_unput l made.0 st st' was now same early.printed none
left_by x l st st' made was now ExportFault same late = before_put l made.0 st st' was now same late
left_by x l st st' made was now Memory same (inl (early, none)) = before_unput l made.0 st st' was now same early.printed none
left_by x l st st' made was now Memory same (inr late) = before_put l made.0 st st' was now same late

pub cut_in : (x : Fixed) (l : Listings) (st st' : State) (made : Coursed × Kept) (was now : Devices) (end : End)
    → st'.links.links ≡ st.links.links → IsSoundState x st' → MakesSo x st made was (Err end) st' now → IsCutIn (reads_ahead end) x l (kept_of st) made.0 was st' now
cut_in x l st st' made was now end same sound h = record {
  front = cut_front x l st st' made was now end h;
  current = left_by x l st st' made was now end same h;
  sound = sound;
}

behind_unless : (x : Fixed) (f : Option Fault) (effects : List CallTree) (k : Kept) → current (coursed_unless x f effects k).1 ≡ (coursed_unless x f effects k).0.behind
behind_unless x None effects k = refl
behind_unless x (Some f) effects k = refl

pub behind_kept : (x : Fixed) (d : Definitions) (frames : Frames) (s : Stmt) (k : Kept) → current (coursed x d frames s k).1 ≡ (coursed x d frames s k).0.behind
behind_kept x d frames s k = behind_unless x (first_fault d s) (effects d frames s) k

is_behind : (x : Fixed) (l : Listings) (st st' : State) (made : Coursed × Kept) (was mid now : Devices) (failing : Option Failing)
    → current made.1 ≡ made.0.behind → IsMade x st made was failing st' mid → GrowsInto mid.written now.written (behind_of l made.0) → now.told ≡ mid.told → now.puts ≡ mid.puts
    → IsBehind l made.0 was now (current (kept_of st'))
is_behind x l st st' made was mid now failing behind m (front, rest, split, grown) told puts = record {
  front = front;
  rest = rest;
  split = split;
  printed = grows_on was.written mid.written now.written made.0.execution.printed front m.printed grown;
  puts = subst (λ (p : Option (List Export)). Grows was.puts p made.0.execution.exports) (sym puts) m.puts;
  told = subst (λ (t : Told). Adds was.told t (tasks_of made.0.events)) (sym told) m.told;
  current = ap current m.kept ∙ behind;
}

-- it was made, and what is told behind it was cut short
pub cut_telling : (ahead : Bool) (x : Fixed) (l : Listings) (st st' : State) (made : Coursed × Kept) (was mid now : Devices) (failing : Option Failing)
    → current made.1 ≡ made.0.behind → IsMade x st made was failing st' mid → GrowsInto mid.written now.written (behind_of l made.0) → now.told ≡ mid.told → now.puts ≡ mid.puts
    → IsCutIn ahead x l (kept_of st) made.0 was st' now
cut_telling ahead x l st st' made was mid now failing behind m grown told puts = record {
  front = made_front ahead x l st st' made was mid now failing m grown told puts;
  current = behind_puts (is_behind x l st st' made was mid now failing behind m grown told puts);
  sound = m.sound;
}

-- ---- in a session

or_false : (b : Bool) → b ≡ b || false
or_false true = refl
or_false false = refl

abbrev made_in : Fixed → Session → Stmt → Coursed × Kept
made_in x old s = coursed x (dictionary_of old.dictionary) (frames_of old.sequencer) s (kept_of old.state)

-- executions change nothing else
abbrev pub with_state : (old : Session) → State → ∥ IsSequence old.sequence ∥₁ → Session
with_state old st lawful = record { dictionary = old.dictionary; sequencer = old.sequencer; sequence = old.sequence; state = st; listings = old.listings; lawful = lawful }

shows_so : (x : Fixed) (l : Listings) (old : Session) (st : State) (lawful : ∥ IsSequence old.sequence ∥₁) (s : Stmt) (was now : Devices) (ended : Result Ended End)
    → ExecutesSo x l (kept_of old.state) (made_in x old s) was ended st now
    → ShowsSo x l (state_of old) (executed (coursed x) (state_of old) s) was ended (with_state old st lawful) now
shows_so x l old st lawful s was now (Ok ended) h = record {
  whole = h.whole;
  erred = h.error ∙ or_false (is_some (made_in x old s).0.execution.error);
  state = ap (λ (k : Kept). with_kept k (state_of old)) h.kept;
  sound = h.sound;
}
shows_so x l old st lawful s was now (Err end) h = record {
  short = cut_in_one (reads_ahead end) l (Executes (made_in x old s).0) was now h.front;
  at = state_of old;
  begins = (refl, refl);
  left = record { dictionary = refl; sequencer = refl; sequence = refl; current = h.current };
  sound = h.sound;
}

-- an execution of a statement with what is current
pub shows : (x : Fixed) (l : Listings) (old : Session) (st : State) (lawful : ∥ IsSequence old.sequence ∥₁) (frames : Frames) (s : Stmt) (was now : Devices) (ended : Result Ended End) → frames ≡ frames_of old.sequencer
    → ExecutesSo x l (kept_of old.state) (coursed x (dictionary_of old.dictionary) frames s (kept_of old.state)) was ended st now
    → ShowsSo x l (state_of old) (executed (coursed x) (state_of old) s) was ended (with_state old st lawful) now
shows x l old st lawful frames s was now ended same h =
    shows_so x l old st lawful s was now ended (subst (λ (f : Frames). ExecutesSo x l (kept_of old.state) (coursed x (dictionary_of old.dictionary) f s (kept_of old.state)) was ended st now) same h)

-- whether an error line was due
pub shows_erred : (x : Fixed) (l : Listings) (st : SessionState Kept) (done : Done Kept Coursed) (was now : Devices) (ended : Result Ended End) (erred : Result Bool End) (new : Session) → erred ≡ erred_of ended
    → ShowsSo x l st done was ended new now → DoesSo x l (here st) done was erred new now
shows_erred x l st done was now ended erred new same h = subst (λ (r : Result Bool End). DoesSo x l (here st) done was r new now) (sym same) h

-- the sequence call, which is there
pub sequence_does : (x : Fixed) (l : Listings) (st : SessionState Kept) (o : Option Stmt) (s : Stmt) (was now : Devices) (erred : Result Bool End) (new : Session) → o ≡ Some s
    → DoesSo x l (here st) (executed (coursed x) st s) was erred new now → DoesSo x l (here st) (sequence_executed (coursed x) o st) was erred new now
sequence_does x l st o s was now erred new is h = subst (λ (y : Option Stmt). DoesSo x l (here st) (sequence_executed (coursed x) y st) was erred new now) (sym is) h
