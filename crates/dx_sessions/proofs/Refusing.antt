-- Plays and frame settings that are refused, which have a line alone; and those that aren't.
use Rattle.std.proofs.Common.{◌≡◌, ℕ, ◌≤◌, ℤ, List, [], ◌∷◌, Option, Bool, true, false, Result, Ok, Err, refl, sym, ap, subst, ◌∙◌, append-nil}
use Rattle.std.specs.Prelude.{if◌then◌else◌}
use Rattle.std.specs.Bool.{MatchBool}
use Rattle.dx_io.specs.declared.fails.SinkFail.{SinkFail}
use Rattle.dx_io.specs.Devices.{Grows, GrowsInto}
use Rattle.dx_io.proofs.Growing.{grows_by_nothing}
use Rattle.dx_ast.specs.declared.sequencing.FrameVar.{FrameVar}
use Rattle.dx_getting.specs.Told.{Told, Adds}
use Rattle.dx_getting.proofs.TellLaws.{adds_none}
use Rattle.dx_sequencer.specs.declared.sequencer.FrameRange.{FrameRange as RangeError}
use Rattle.dx_sequencer.specs.Sequencer as seq
use Rattle.dx_sequencer.specs.Sequencer.{IsPlay, IsLongPlay, at_play, is_too_long, is_refused, max_steps, play_steps}
use Rattle.dx_sequencer.proofs.Playing.{is_long, is_short, steps_are}
use Rattle.dx_performing.specs.Course.{Fixed}
use Rattle.dx_performing.specs.Execution.{Export}
use Rattle.dx_performing.specs.Kept.{Kept, current}
use Rattle.dx_engine.specs.Keeping.{IsSoundState}
use Rattle.dx_engine.specs.Executing.{Devices}
use Rattle.dx_engine.specs.Fronts.{AddsFront}
use Rattle.dx_engine.proofs.Fronts.{front_all}
use Rattle.dx_shown.specs.Made.{Coursed, coursed}
use Rattle.dx_shown.specs.Session.{Done, Making, Shown, Executes, PlayTooLong, FrameRange, State, refused, silently, with_sequencer, set, played, stepped_often}
use Rattle.dx_shown.specs.Listed.{any_error}
use Rattle.dx_making.specs.declared.end.End.{End}
use Rattle.dx_telling.specs.Shown.{frame_range, shown_texts}
use Rattle.dx_telling.specs.declared.listings.Listings.{Listings}
use Rattle.dx_engine.specs.declared.state.State.{State as EngineState}
use Rattle.dx_sessions.specs.Does.{IsWhole, IsFront, IsCutAt, IsDone, DoesSo, SetsSo}
use Rattle.dx_sessions.specs.Places.{IsAmongSteps, here, in_play}
use Rattle.dx_sessions.specs.SessionView.{state_of}
use Rattle.dx_sessions.specs.declared.session.Session.{Session}
use Rattle.dx_sessions.proofs.Doing.{stays_at_line}

abbrev pub IsRefusal : Shown Coursed → Type 0
IsRefusal (Executes c) = ⊥
IsRefusal PlayTooLong = Unit {0}
IsRefusal FrameRange = Unit {0}

-- nothing but text changes
pub record TextAlone (was now : Devices) : Type 0 where
  pub told : now.told ≡ was.told
  pub puts : now.puts ≡ was.puts

none_told : (was now : Told) → now ≡ was → Adds was now []
none_told was now same = subst (λ (t : Told). Adds was t []) (sym same) (adds_none was)

none_put : (was now : Option (List Export)) → now ≡ was → Grows was now []
none_put was now same = subst (λ (p : Option (List Export)). Grows was p []) (sym same) (grows_by_nothing was)

front_told : (ahead : Bool) (was now : Told) → now ≡ was → AddsFront ahead was now []
front_told ahead was now same = front_all ahead was now [] [] [] (none_told was now same) refl

-- a line
pub line_whole : (l : Listings) (s : Shown Coursed) (was now : Devices) → IsRefusal s → Grows was.written now.written (shown_texts l (s ∷ [])) → TextAlone was now → IsWhole l (s ∷ []) was now
line_whole l (Executes c) was now r grown alone = absurd r
line_whole l PlayTooLong was now r grown alone = record { printed = grown; puts = none_put was.puts now.puts alone.puts; told = none_told was.told now.told alone.told }
line_whole l FrameRange was now r grown alone = record { printed = grown; puts = none_put was.puts now.puts alone.puts; told = none_told was.told now.told alone.told }

pub line_front : (ahead : Bool) (l : Listings) (s : Shown Coursed) (was now : Devices) → IsRefusal s → GrowsInto was.written now.written (shown_texts l (s ∷ [])) → TextAlone was now → IsFront ahead l (s ∷ []) was now
line_front ahead l (Executes c) was now r grown alone = absurd r
line_front ahead l PlayTooLong was now r grown alone = record { printed = grown; puts = ([], [], refl, none_put was.puts now.puts alone.puts); told = front_told ahead was.told now.told alone.told }
line_front ahead l FrameRange was now r grown alone = record { printed = grown; puts = ([], [], refl, none_put was.puts now.puts alone.puts); told = front_told ahead was.told now.told alone.told }

-- ---- plays

played_by : (make : Making Kept Coursed) (st : State Kept) (long : Bool) → is_too_long (at_play st.sequencer) ≡ long
    → played make st ≡ (if long then refused PlayTooLong st else stepped_often make (play_steps (at_play st.sequencer)) (with_sequencer (at_play st.sequencer) st))
played_by make st long is = ap (λ (b : Bool). if b then refused PlayTooLong st else stepped_often make (play_steps (at_play st.sequencer)) (with_sequencer (at_play st.sequencer) st)) is

long_play : (make : Making Kept Coursed) (st : State Kept) → IsLongPlay (at_play st.sequencer) → played make st ≡ refused PlayTooLong st
long_play make st long = played_by make st true (is_long (at_play st.sequencer) long)

pub long_done : (x : Fixed) (l : Listings) (st : State Kept) (new : Session) (was now : Devices) → IsLongPlay (at_play st.sequencer) → state_of new ≡ st → IsSoundState x new.state
    → Grows was.written now.written (shown_texts l (PlayTooLong ∷ [])) → TextAlone was now → IsDone x l (played (coursed x) st) was true new now
long_done x l st new was now long same sound grown alone =
    subst (λ (d : Done Kept Coursed). IsDone x l d was true new now) (sym (long_play (coursed x) st long))
    (record { whole = line_whole l PlayTooLong was now tt grown alone; erred = refl; state = same; sound = sound })

abbrev places_by : Making Kept Coursed → State Kept → Bool → List (Shown Coursed) → State Kept → Type 0
places_by make st long before at = MatchBool long (here st before at) (IsAmongSteps make (play_steps (at_play st.sequencer)) (with_sequencer (at_play st.sequencer) st) before at)

abbrev played_so : Making Kept Coursed → State Kept → Bool → Done Kept Coursed
played_so make st long = if long then refused PlayTooLong st else stepped_often make (play_steps (at_play st.sequencer)) (with_sequencer (at_play st.sequencer) st)

pub long_cut : (ahead : Bool) (x : Fixed) (l : Listings) (st : State Kept) (was now : Devices) (new : Session) → IsLongPlay (at_play st.sequencer) → state_of new ≡ st → IsSoundState x new.state
    → GrowsInto was.written now.written (shown_texts l (PlayTooLong ∷ [])) → TextAlone was now → IsCutAt ahead x l (in_play (coursed x) st) (played (coursed x) st).shown was new now
long_cut ahead x l st was now new long same sound grown alone =
    subst (λ (b : Bool). IsCutAt ahead x l (places_by (coursed x) st b) (played_so (coursed x) st b).shown was new now) (sym (is_long (at_play st.sequencer) long))
    (stays_at_line ahead x l PlayTooLong was now st new (ap (λ (s : State Kept). current s.kept) same) (line_front ahead l PlayTooLong was now tt grown alone) same sound)

pub short_does : (x : Fixed) (l : Listings) (st started : State Kept) (new : Session) (n : ℕ) (was now : Devices) (r : Result Bool End)
    → IsPlay (at_play st.sequencer) n → n ≤ max_steps → started ≡ with_sequencer (at_play st.sequencer) st
    → DoesSo x l (IsAmongSteps (coursed x) n started) (stepped_often (coursed x) n started) was r new now → DoesSo x l (in_play (coursed x) st) (played (coursed x) st) was r new now
short_does x l st started new n was now r play few same done =
    let begun = subst (λ (y : State Kept). DoesSo x l (IsAmongSteps (coursed x) n y) (stepped_often (coursed x) n y) was r new now) same done in
    let counted = subst (λ (m : ℕ). DoesSo x l (IsAmongSteps (coursed x) m (with_sequencer (at_play st.sequencer) st)) (stepped_often (coursed x) m (with_sequencer (at_play st.sequencer) st)) was r new now) (sym (steps_are (at_play st.sequencer) n play few)) begun in
    subst (λ (b : Bool). DoesSo x l (places_by (coursed x) st b) (played_so (coursed x) st b) was r new now) (sym (is_short (at_play st.sequencer) n play few)) counted

-- ---- settings

abbrev set_by : Bool → State Kept → State Kept → Done Kept Coursed
set_by b st later = if b then refused FrameRange st else silently later

set_errs : (b : Bool) (st later : State Kept) → any_error (set_by b st later).shown ≡ b
set_errs true st later = refl
set_errs false st later = refl

set_whole : (b : Bool) (l : Listings) (st later : State Kept) (was now : Devices) → Grows was.written now.written (shown_texts l (set_by b st later).shown) → TextAlone was now → IsWhole l (set_by b st later).shown was now
set_whole true l st later was now grown alone = line_whole l FrameRange was now tt grown alone
set_whole false l st later was now grown alone = record { printed = grown; puts = none_put was.puts now.puts alone.puts; told = none_told was.told now.told alone.told }

pub set_done_so : (x : Fixed) (l : Listings) (v : FrameVar) (n : ℤ) (st : State Kept) (new : Session) (was now : Devices) (failed : Bool)
    → failed ≡ is_refused v n → state_of new ≡ (set {K = Kept} {X = Coursed} v n st).state → IsSoundState x new.state → Grows was.written now.written (shown_texts l (set {K = Kept} {X = Coursed} v n st).shown) → TextAlone was now
    → IsDone x l (set v n st) was failed new now
set_done_so x l v n st new was now failed is state sound grown alone = record {
  whole = set_whole (is_refused v n) l st (with_sequencer (seq.with_var v n st.sequencer) st) was now grown alone;
  erred = is ∙ sym (set_errs (is_refused v n) st (with_sequencer (seq.with_var v n st.sequencer) st));
  state = state;
  sound = sound;
}

set_cut : (ahead : Bool) (x : Fixed) (l : Listings) (v : FrameVar) (n : ℤ) (st : State Kept) (new : Session) (was now : Devices) → is_refused v n ≡ true → state_of new ≡ st → IsSoundState x new.state
    → GrowsInto was.written now.written (shown_texts l (FrameRange ∷ [])) → TextAlone was now → IsCutAt ahead x l (here st) (set {K = Kept} {X = Coursed} v n st).shown was new now
set_cut ahead x l v n st new was now is same sound grown alone =
    subst (λ (b : Bool). IsCutAt ahead x l (here st) (set_by b st (with_sequencer (seq.with_var v n st.sequencer) st)).shown was new now) (sym is)
    (stays_at_line ahead x l FrameRange was now st new (ap (λ (s : State Kept). current s.kept) same) (line_front ahead l FrameRange was now tt grown alone) same sound)

abbrev SettingResult : Type 0
SettingResult = Result (Unit {0}) RangeError

abbrev setting_result : Bool → SettingResult
setting_result b = if b then Err (record {}) else Ok tt

abbrev IsErrThen : SettingResult → Bool → Type 0
IsErrThen (Ok u) b = Unit {0}
IsErrThen (Err f) b = b ≡ true

by_result : (b : Bool) → IsErrThen (setting_result b) b
by_result true = refl
by_result false = tt

pub err_refused : (b : Bool) (r : SettingResult) (f : RangeError) → r ≡ Err f → r ≡ setting_result b → b ≡ true
err_refused b r f err is = subst (λ (q : SettingResult). IsErrThen q b) (sym is ∙ err) (by_result b)

-- a setting that was cut short
pub set_cut_from : (ahead : Bool) (x : Fixed) (v : FrameVar) (n : ℤ) (old new : Session) (was now : Devices) (fail : SinkFail) → SetsSo v n old new was.written now.written (Err fail) → IsSoundState x old.state → TextAlone was now
    → IsCutAt ahead x old.listings (here (state_of old)) (set {K = Kept} {X = Coursed} v n (state_of old)).shown was new now
set_cut_from ahead x v n old new was now fail (refused, state, listings, same, grown) sound alone =
    set_cut ahead x old.listings v n (state_of old) new was now refused same (subst (λ (s : EngineState). IsSoundState x s) (sym state) sound) grown alone

-- a setting that is refused leaves the sequencer, and its line is shown
pub refused_sets : (l : Listings) (v : FrameVar) (n : ℤ) (st : State Kept) (s : seq.State) (was now : Option (List ℕ)) → is_refused v n ≡ true
    → s ≡ (if is_refused v n then st.sequencer else seq.with_var v n st.sequencer) → Grows was now frame_range
    → (true ≡ is_refused v n) × (with_sequencer s st ≡ (set {K = Kept} {X = Coursed} v n st).state) × Grows was now (shown_texts l (set {K = Kept} {X = Coursed} v n st).shown)
refused_sets l v n st s was now is same grown =
    let later : State Kept = with_sequencer (seq.with_var v n st.sequencer) st in
    let stays : s ≡ st.sequencer = same ∙ ap (λ (b : Bool). if b then st.sequencer else seq.with_var v n st.sequencer) is in (
      sym is,
      ap (λ (q : seq.State). with_sequencer q st) stays ∙ ap (λ (b : Bool). (set_by b st later).state) (sym is),
      subst (λ (b : Bool). Grows was now (shown_texts l (set_by b st later).shown)) (sym is) (subst (Grows was now) (sym (append-nil frame_range)) grown),
    )
