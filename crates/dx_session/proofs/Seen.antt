-- What a session shows, as it is seen.
use Rattle.std.proofs.Common.{◌≡◌, ℕ, ◌≤◌, List, [], ◌∷◌, ◌++◌, map, refl, sym, ap, ap₂, ◌∙◌, subst}
use Rattle.std.specs.Prelude.{Result, Ok, Err, Bool}
use Rattle.std.proofs.lemmas.List.{map-append, length-map}
use Rattle.dx_engine.specs.Executing.{Devices}
use Rattle.dx_engine.specs.Fronts.{AddsFront}
use Rattle.dx_getting.specs.Told.{Adds}
use Rattle.dx_io.specs.Devices.{Grows, GrowsInto}
use Rattle.dx_machine.specs.Machine.{tasks_of}
use Rattle.dx_making.specs.Ends.{reads_ahead}
use Rattle.dx_making.specs.declared.end.End.{End}
use Rattle.dx_outcome.specs.Ends.{IsWhole, IsPart, IsCutShort}
use Rattle.dx_outcome.specs.Outcome.{Seen, seen_of, texts_of, exports_of, runs_of, status_of}
use Rattle.dx_session.specs.Ends.{SeesSo}
use Rattle.dx_sessions.specs.Does as does
use Rattle.dx_sessions.specs.Does.{PerformsSo}
use Rattle.dx_shown.specs.Listed.{all_exports, all_tasks, any_error}
use Rattle.dx_shown.specs.Made.{Coursed}
use Rattle.dx_shown.specs.Session.{Shown, Executes, PlayTooLong, FrameRange}
use Rattle.dx_telling.specs.Shown.{shown_texts, text_of}
use Rattle.dx_telling.specs.declared.listings.Listings.{Listings}

abbrev all_seen : Listings → List (Shown Coursed) → List Seen
all_seen asked shown = map (seen_of asked) shown

text_seen : (asked : Listings) (s : Shown Coursed) → text_of asked s ≡ (seen_of asked s).text
text_seen asked (Executes c) = refl
text_seen asked PlayTooLong = refl
text_seen asked FrameRange = refl

texts_seen : (asked : Listings) (shown : List (Shown Coursed)) → shown_texts asked shown ≡ texts_of (all_seen asked shown)
texts_seen asked [] = refl
texts_seen asked (s ∷ rest) = ap₂ (λ a b. a ++ b) (text_seen asked s) (texts_seen asked rest)

exports_seen : (asked : Listings) (shown : List (Shown Coursed)) → all_exports shown ≡ exports_of (all_seen asked shown)
exports_seen asked [] = refl
exports_seen asked (Executes c ∷ rest) = ap (λ es. c.execution.exports ++ es) (exports_seen asked rest)
exports_seen asked (PlayTooLong ∷ rest) = exports_seen asked rest
exports_seen asked (FrameRange ∷ rest) = exports_seen asked rest

tasks_seen : (asked : Listings) (shown : List (Shown Coursed)) → all_tasks shown ≡ runs_of (all_seen asked shown)
tasks_seen asked [] = refl
tasks_seen asked (Executes c ∷ rest) = ap (λ ts. tasks_of c.events ++ ts) (tasks_seen asked rest)
tasks_seen asked (PlayTooLong ∷ rest) = tasks_seen asked rest
tasks_seen asked (FrameRange ∷ rest) = tasks_seen asked rest

whole_seen : (asked : Listings) (shown : List (Shown Coursed)) (was now : Devices) → does.IsWhole asked shown was now → IsWhole (all_seen asked shown) was now
whole_seen asked shown was now h = record {
  printed = subst (Grows was.written now.written) (texts_seen asked shown) h.printed;
  puts = subst (Grows was.puts now.puts) (exports_seen asked shown) h.puts;
  told = subst (Adds was.told now.told) (tasks_seen asked shown) h.told;
}

part_seen : (ahead : Bool) (asked : Listings) (shown : List (Shown Coursed)) (was now : Devices) → does.IsFront ahead asked shown was now → IsPart ahead (all_seen asked shown) was now
part_seen ahead asked shown was now h = record {
  printed = subst (GrowsInto was.written now.written) (texts_seen asked shown) h.printed;
  puts = subst (GrowsInto was.puts now.puts) (exports_seen asked shown) h.puts;
  told = subst (AddsFront ahead was.told now.told) (tasks_seen asked shown) h.told;
}

cut_seen : (ahead : Bool) (asked : Listings) (shown : List (Shown Coursed)) (was now : Devices) → does.IsCutShort ahead asked shown was now → IsCutShort ahead (all_seen asked shown) was now
cut_seen ahead asked shown was now h = record {
  before = all_seen asked h.before;
  next = all_seen asked h.next;
  rest = all_seen asked h.rest;
  all = ap (all_seen asked) h.all ∙ map-append (seen_of asked) h.before (h.next ++ h.rest) ∙ ap (λ xs. all_seen asked h.before ++ xs) (map-append (seen_of asked) h.next h.rest);
  few = subst (λ (n : ℕ). n ≤ 1) (sym (length-map h.next (seen_of asked))) h.few;
  between = h.between;
  whole = whole_seen asked h.before was h.between h.whole;
  part = part_seen ahead asked h.next h.between now h.front;
}

-- the status of a call that performed it
abbrev pub with_status : Result Bool End → Result ℕ End
with_status (Ok erred) = Ok (status_of erred)
with_status (Err end) = Err end

pub sees_shown : (asked at_hand : Listings) (shown : List (Shown Coursed)) (was now : Devices) (r : Result Bool End) → at_hand ≡ asked → PerformsSo at_hand shown was r now → SeesSo (with_status r) (all_seen asked shown) (status_of (any_error shown)) was now
sees_shown asked at_hand shown was now r same h = sees_so r (subst (λ (l : Listings). PerformsSo l shown was r now) same h)
  where
    sees_so : (r : Result Bool End) → PerformsSo asked shown was r now → SeesSo (with_status r) (all_seen asked shown) (status_of (any_error shown)) was now
    sees_so (Ok erred) h = (ap status_of h.1, whole_seen asked shown was now h.0)
    sees_so (Err end) h = cut_seen (reads_ahead end) asked shown was now h

pub sees_performed : (asked at_hand : Listings) (shown : List (Shown Coursed)) (was now : Devices) (erred : Bool) (status : ℕ) → at_hand ≡ asked → status ≡ status_of erred → PerformsSo at_hand shown was (Ok erred) now → SeesSo (Ok status) (all_seen asked shown) (status_of (any_error shown)) was now
sees_performed asked at_hand shown was now erred status same is h =
    let sees = sees_shown asked at_hand shown was now (Ok erred) same h in
    (is ∙ sees.0, sees.1)
