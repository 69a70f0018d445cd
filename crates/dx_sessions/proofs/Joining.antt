-- An assignment with a call: its execution, and that it joins the definitions.
use Rattle.std.proofs.Common.{◌≡◌, List, [], Bool, true, false, is_some, refl, sym, ap, subst, ◌∙◌, append-nil}
use Rattle.std.specs.Prelude.{IfOk, OnErr, Result, Ok, Err, if◌then◌else◌}
use Rattle.dx_ast.specs.Classes.{Text}
use Rattle.dx_ast.specs.Syntax.{Expr, Stmt, Assigns}
use Rattle.dx_macros.specs.Dictionary.{Dictionary}
use Rattle.dx_macros.specs.DictionaryView.{dictionary_of}
use Rattle.dx_macros.specs.Walk.{first_fault}
use Rattle.dx_macros.specs.declared.dictionary.Dictionary.{Dictionary as CodeDictionary}
use Rattle.dx_performing.specs.Course.{Fixed}
use Rattle.dx_performing.specs.Kept.{Kept}
use Rattle.dx_engine.specs.Keeping.{IsSoundState}
use Rattle.dx_engine.specs.Executing.{Devices}
use Rattle.dx_engine.specs.declared.state.State.{State}
use Rattle.dx_shown.specs.Made.{Coursed, coursed}
use Rattle.dx_shown.specs.Session.{Done, Shown, State as SessionState, and_then, executed, silently, joined, with_assignment, with_dictionary}
use Rattle.dx_shown.specs.Listed.{any_error}
use Rattle.dx_making.specs.Ends.{reads_ahead}
use Rattle.dx_making.specs.declared.end.End.{End}
use Rattle.dx_telling.specs.declared.listings.Listings.{Listings}
use Rattle.dx_sessions.specs.Does.{DoesSo, IsWhole, IsCutAt, IsDone, ShowsSo}
use Rattle.dx_sessions.specs.Ended.{erred_of, is_error, is_faulty}
use Rattle.dx_sessions.specs.Joining.{joined_by, joining}
use Rattle.dx_sessions.specs.Left.{Stays}
use Rattle.dx_sessions.specs.Places.{here}
use Rattle.dx_sessions.specs.Sequence.{IsSequence}
use Rattle.dx_sessions.specs.SessionView.{state_of}
use Rattle.dx_sessions.specs.declared.ended.Ended.{Ended}
use Rattle.dx_sessions.specs.declared.session.Session.{Session}
use Rattle.dx_sessions.proofs.Doing.{stays_at_once}
use Rattle.dx_sessions.proofs.Folding.{cut_with_more}

-- ---- macros and definitions alone

abbrev with_code : (old : Session) → CodeDictionary → ∥ IsSequence old.sequence ∥₁ → Session
with_code old d lawful = record { dictionary = d; sequencer = old.sequencer; sequence = old.sequence; state = old.state; listings = old.listings; lawful = lawful }

-- they stay
pub same_definitions : (ahead : Bool) (x : Fixed) (l : Listings) (shown : List (Shown Coursed)) (was : Devices) (old : Session) (d : CodeDictionary) (lawful : ∥ IsSequence old.sequence ∥₁)
    → dictionary_of d ≡ dictionary_of old.dictionary → IsSoundState x old.state → IsCutAt ahead x l (here (state_of old)) shown was (with_code old d lawful) was
same_definitions ahead x l shown was old d lawful same sound =
    stays_at_once ahead x l shown was (state_of old) (with_code old d lawful) (ap (λ (d : Dictionary). with_dictionary d (state_of old)) same) sound

-- ---- behind an execution

-- an execution, and then a state without anything shown
behind_it : (x : Fixed) (l : Listings) (done : Done Kept Coursed) (next : SessionState Kept → SessionState Kept) (mid new : Session) (was now : Devices) (erred : Bool)
    → IsDone x l done was erred mid now → state_of new ≡ next (state_of mid) → new.state ≡ mid.state
    → IsDone x l (and_then done (λ st. silently (next st))) was erred new now
behind_it x l done next mid new was now erred h same state = record {
  whole = subst (λ (shown : List (Shown Coursed)). IsWhole l shown was now) (sym (append-nil done.shown)) h.whole;
  erred = h.erred ∙ ap any_error (sym (append-nil done.shown));
  state = same ∙ ap next h.state;
  sound = subst (λ (s : State). IsSoundState x s) (sym state) h.sound;
}

joined_when : (targets : List Text) (e : Expr) (st : SessionState Kept) (b : Bool) → is_some (first_fault st.dictionary (Assigns targets e)) ≡ b → joined targets e st ≡ (if b then st else with_assignment targets e st)
joined_when targets e st b is = ap (λ (c : Bool). if c then st else with_assignment targets e st) is

-- a static fault keeps it from joining
faulty_joins : (targets : List Text) (e : Expr) (st : SessionState Kept) → is_some (first_fault st.dictionary (Assigns targets e)) ≡ true → st ≡ joined targets e st
faulty_joins targets e st is = sym (joined_when targets e st true is)

sound_joins : (targets : List Text) (e : Expr) (st : SessionState Kept) → is_some (first_fault st.dictionary (Assigns targets e)) ≡ false → with_assignment targets e st ≡ joined targets e st
sound_joins targets e st is = sym (joined_when targets e st false is)

cut_before_it : (ahead : Bool) (x : Fixed) (l : Listings) (st : SessionState Kept) (done : Done Kept Coursed) (next : SessionState Kept → SessionState Kept) (was : Devices) (new : Session) (now : Devices)
    → IsCutAt ahead x l (here st) done.shown was new now → IsCutAt ahead x l (here st) (and_then done (λ later. silently (next later))).shown was new now
cut_before_it ahead x l st done next was new now cut = record {
  short = cut_with_more ahead l done.shown [] was now cut.short;
  at = cut.at;
  begins = cut.begins;
  left = cut.left;
  sound = cut.sound;
}

-- the code's dictionary in place of an equal one
with_same_code : (ahead : Bool) (x : Fixed) (l : Listings) (places : List (Shown Coursed) → SessionState Kept → Type 0) (shown : List (Shown Coursed)) (was now : Devices) (mid : Session) (d : CodeDictionary)
    (lawful : ∥ IsSequence mid.sequence ∥₁) → dictionary_of d ≡ dictionary_of mid.dictionary → IsCutAt ahead x l places shown was mid now → IsCutAt ahead x l places shown was (with_code mid d lawful) now
with_same_code ahead x l places shown was now mid d lawful same cut = record {
  short = cut.short;
  at = cut.at;
  begins = cut.begins;
  left = record { dictionary = same ∙ cut.left.dictionary; sequencer = cut.left.sequencer; sequence = cut.left.sequence; current = cut.left.current };
  sound = cut.sound;
}

joins_so : (faulty : Bool) (targets : List Text) (e : Expr) (st : SessionState Kept) → faulty ≡ is_some (first_fault st.dictionary (Assigns targets e))
    → with_dictionary (if faulty then st.dictionary else joining (Assigns targets e) st.dictionary) st ≡ joined targets e st
joins_so true targets e st is = faulty_joins targets e st (sym is)
joins_so false targets e st is = sound_joins targets e st (sym is)

abbrev assignment : Fixed → SessionState Kept → List Text → Expr → Done Kept Coursed
assignment x st targets e = and_then (executed (coursed x) st (Assigns targets e)) (λ next. silently (joined targets e next))

-- over the plain statement, and the definitions as they were before room was made
does_plainly : (x : Fixed) (l : Listings) (st : SessionState Kept) (targets : List Text) (e : Expr) (was now : Devices) (ended : Result Ended End) (mid : Session) (d : CodeDictionary) (lawful : ∥ IsSequence mid.sequence ∥₁)
    → dictionary_of mid.dictionary ≡ st.dictionary → IfOk ended (λ (how : Ended). is_faulty how ≡ is_some (first_fault st.dictionary (Assigns targets e)))
    → dictionary_of d ≡ joined_by ended (Assigns targets e) (dictionary_of mid.dictionary) → ShowsSo x l st (executed (coursed x) st (Assigns targets e)) was ended mid now
    → DoesSo x l (here st) (assignment x st targets e) was (erred_of ended) (with_code mid d lawful) now
does_plainly x l st targets e was now (Ok how) mid d lawful same fault joins done =
    behind_it x l (executed (coursed x) st (Assigns targets e)) (joined targets e) mid (with_code mid d lawful) was now (is_error how) done
    (ap (λ (y : Dictionary). with_dictionary y (state_of mid)) joins
    ∙ joins_so (is_faulty how) targets e (state_of mid) (fault ∙ ap (λ (y : Dictionary). is_some (first_fault y (Assigns targets e))) (sym same))) refl
does_plainly x l st targets e was now (Err end) mid d lawful same fault joins cut =
    with_same_code (reads_ahead end) x l (here st) (assignment x st targets e).shown was now mid d lawful joins
    (cut_before_it (reads_ahead end) x l st (executed (coursed x) st (Assigns targets e)) (joined targets e) was mid now cut)

-- an assignment that was executed, and joins unless it has a static fault
pub assign_does : (x : Fixed) (l : Listings) (st : SessionState Kept) (made : Dictionary) (targets : List Text) (e : Expr) (s : Stmt) (was now : Devices) (ended : Result Ended End) (erred : Result Bool End) (mid : Session)
    (d : CodeDictionary) (lawful : ∥ IsSequence mid.sequence ∥₁) → s ≡ Assigns targets e → made ≡ st.dictionary → erred ≡ erred_of ended → dictionary_of mid.dictionary ≡ made
    → IfOk ended (λ (how : Ended). is_faulty how ≡ is_some (first_fault made s)) → dictionary_of d ≡ joined_by ended s (dictionary_of mid.dictionary)
    → ShowsSo x l (with_dictionary made st) (executed (coursed x) (with_dictionary made st) s) was ended mid now
    → DoesSo x l (here st) (assignment x st targets e) was erred (with_code mid d lawful) now
assign_does x l st made targets e s was now ended erred mid d lawful is room tells same fault joins shows =
    subst (λ (r : Result Bool End). DoesSo x l (here st) (assignment x st targets e) was r (with_code mid d lawful) now) (sym tells)
    (does_plainly x l st targets e was now ended mid d lawful (same ∙ room)
    (subst (λ (y : Dictionary). IfOk ended (λ (how : Ended). is_faulty how ≡ is_some (first_fault y (Assigns targets e)))) room
    (subst (λ (t : Stmt). IfOk ended (λ (how : Ended). is_faulty how ≡ is_some (first_fault made t))) is fault))
    (joins ∙ ap (λ (t : Stmt). joined_by ended t (dictionary_of mid.dictionary)) is)
    (subst (λ (y : Dictionary). ShowsSo x l (with_dictionary y st) (executed (coursed x) (with_dictionary y st) (Assigns targets e)) was ended mid now) room
    (subst (λ (t : Stmt). ShowsSo x l (with_dictionary made st) (executed (coursed x) (with_dictionary made st) t) was ended mid now) is shows)))

-- where it was cut short, nothing has joined
pub assign_stays : (st mid : SessionState Kept) (d : Dictionary) (s : Stmt) (ended : Result Ended End) (erred : Result Bool End) → erred ≡ erred_of ended → d ≡ joined_by ended s mid.dictionary
    → Stays st mid → OnErr erred (Stays st (with_dictionary d mid))
assign_stays st mid d s ended erred tells joins stays = subst (λ (r : Result Bool End). OnErr r (Stays st (with_dictionary d mid))) (sym tells) (so st mid d s ended joins stays)
  where
    so : (st mid : SessionState Kept) (d : Dictionary) (s : Stmt) (ended : Result Ended End) → d ≡ joined_by ended s mid.dictionary → Stays st mid → OnErr (erred_of ended) (Stays st (with_dictionary d mid))
    so st mid d s (Ok how) joins stays = tt
    so st mid d s (Err end) joins stays = record { dictionary = joins ∙ stays.dictionary; sequence = stays.sequence }
