-- What ends as an outcome ends as it is meant, and what was run is demanded.
use Rattle.std.proofs.Common.{◌≡◌, ℕ, List, [], ◌∷◌, ◌++◌, Bool, true, false, Option, Some, None, refl, sym, ap, ◌∙◌, subst, append_assoc}
use Rattle.dx_engine.specs.Executing.{Devices}
use Rattle.dx_getting.specs.Told.{TellsRuns}
use Rattle.dx_getting.proofs.TellLaws.{tells_none, tells_then, runs-append}
use Rattle.dx_io.specs.Devices.{Grows, GrowsInto}
use Rattle.dx_io.proofs.Growing.{grows_by_nothing, grows_on_into}
use Rattle.dx_machine.specs.Machine.{Task, runs_in}
use Rattle.dx_meaning.specs.Outcome.{Use}
use Rattle.dx_objects.specs.Runs.{Ran}
use Rattle.dx_outcome.specs.Ends.{IsWhole, IsCutShort, IsFront, in_loading, behind_loading, with_reads, is_cut, may_read_ahead, EndsAs}
use Rattle.dx_outcome.specs.Laws.{IsMeant}
use Rattle.dx_outcome.specs.Meaning.{Meaning, IfSaid, EndsAsMeant, AreSplit, AreDemanded}
use Rattle.dx_outcome.specs.Outcome.{Seen, Outcome, texts_of, exports_of, runs_of}
use Rattle.dx_outcome.proofs.Split.{none_split, front_split}
use Rattle.std.specs.Bool.{MatchBool}

-- ---- three parts of what is seen

pub texts_append : (a b : List Seen) → texts_of (a ++ b) ≡ texts_of a ++ texts_of b
texts_append [] b = refl
texts_append (s ∷ a) b = ap (λ xs. s.text ++ xs) (texts_append a b) ∙ sym (append_assoc s.text (texts_of a) (texts_of b))

pub exports_append : (a b : List Seen) → exports_of (a ++ b) ≡ exports_of a ++ exports_of b
exports_append [] b = refl
exports_append (s ∷ a) b = ap (λ xs. s.exports ++ xs) (exports_append a b) ∙ sym (append_assoc s.exports (exports_of a) (exports_of b))

pub runs_append : (a b : List Seen) → runs_of (a ++ b) ≡ runs_of a ++ runs_of b
runs_append [] b = refl
runs_append (s ∷ a) b = ap (λ xs. s.runs ++ xs) (runs_append a b) ∙ sym (append_assoc s.runs (runs_of a) (runs_of b))

-- a front of the second
second_part : {A : Type 0} (told between now : Option (List A)) (a b c : List A) → Grows told between a → GrowsInto between now b → GrowsInto told now (a ++ (b ++ c))
second_part told between now a b c first (front, rest, split, grown) =
    grows_on_into told between now a (b ++ c) first (front, rest ++ c, ap (λ xs. xs ++ c) split ∙ append_assoc front rest c, grown)

cut_texts : (ahead : Bool) (seen : List Seen) (was now : Devices) → IsCutShort ahead seen was now → GrowsInto was.written now.written (texts_of seen)
cut_texts ahead seen was now cut =
    subst (GrowsInto was.written now.written)
    (sym (ap texts_of cut.all ∙ texts_append cut.before (cut.next ++ cut.rest) ∙ ap (λ xs. texts_of cut.before ++ xs) (texts_append cut.next cut.rest)))
    (second_part was.written cut.between.written now.written (texts_of cut.before) (texts_of cut.next) (texts_of cut.rest) cut.whole.printed cut.part.printed)

cut_exports : (ahead : Bool) (seen : List Seen) (was now : Devices) → IsCutShort ahead seen was now → GrowsInto was.puts now.puts (exports_of seen)
cut_exports ahead seen was now cut =
    subst (GrowsInto was.puts now.puts)
    (sym (ap exports_of cut.all ∙ exports_append cut.before (cut.next ++ cut.rest) ∙ ap (λ xs. exports_of cut.before ++ xs) (exports_append cut.next cut.rest)))
    (second_part was.puts cut.between.puts now.puts (exports_of cut.before) (exports_of cut.next) (exports_of cut.rest) cut.whole.puts cut.part.puts)

none_of : {A : Type 0} (was : Option (List A)) (all : List A) → GrowsInto was was all
none_of was all = ([], all, refl, grows_by_nothing was)

pub front_texts : (ahead : Bool) (o : Outcome) (was now : Devices) → IsFront ahead o was now → GrowsInto was.written now.written (texts_of o.seen)
front_texts ahead o was now (in_loading front rest e is) = subst (λ (d : Devices). GrowsInto was.written d.written (texts_of o.seen)) (sym is) (none_of was.written (texts_of o.seen))
front_texts ahead o was now (behind_loading cut) = cut_texts ahead o.seen (with_reads was o.reads) now cut

front_exports : (ahead : Bool) (o : Outcome) (was now : Devices) → IsFront ahead o was now → GrowsInto was.puts now.puts (exports_of o.seen)
front_exports ahead o was now (in_loading front rest e is) = subst (λ (d : Devices). GrowsInto was.puts d.puts (exports_of o.seen)) (sym is) (none_of was.puts (exports_of o.seen))
front_exports ahead o was now (behind_loading cut) = cut_exports ahead o.seen (with_reads was o.reads) now cut

-- ---- as it is meant

said_so : (P : List ℕ → Type 0) (text : List ℕ) (o : Option (List ℕ)) → IfSaid o (λ t. text ≡ t) → P text → IfSaid o P
said_so P text None e h = tt
said_so P text (Some t) e h = subst P e h

pub ends_as_meant : (status : ℕ) (o : Outcome) (m : Meaning) (was now : Devices) → IsMeant o m → EndsAs status o was now → EndsAsMeant status m was now
ends_as_meant status o m was now meant h = by (is_cut status) h
  where
    by : (b : Bool) → MatchBool b (IsFront (may_read_ahead status) o was now) ((status ≡ o.status) × IsWhole o.seen (with_reads was o.reads) now)
        → MatchBool b (IfSaid m.text (GrowsInto was.written now.written) × GrowsInto was.puts now.puts m.exports) ((status ≡ m.status) × IfSaid m.text (Grows was.written now.written) × Grows was.puts now.puts m.exports)
    by true front = (
      said_so (GrowsInto was.written now.written) (texts_of o.seen) m.text meant.text (front_texts (may_read_ahead status) o was now front),
      subst (GrowsInto was.puts now.puts) meant.exports (front_exports (may_read_ahead status) o was now front),
    )
    by false whole = (
      whole.0 ∙ meant.status,
      said_so (Grows was.written now.written) (texts_of o.seen) m.text meant.text whole.1.printed,
      subst (Grows was.puts now.puts) meant.exports whole.1.puts,
    )

-- ---- runs that are demanded

demanded_part : (demanded : List (List Use)) (all : List Task) (was now : Option (List Ran)) (front rest : List Task) → AreSplit (runs_in all) demanded → all ≡ front ++ rest → TellsRuns was now (runs_in front) → AreDemanded demanded was now
demanded_part demanded all was now front rest split e told =
    (runs_in front, told, front_split demanded (runs_in front) (runs_in rest) (subst (λ (rs : List Ran). AreSplit rs demanded) (ap runs_in e ∙ runs-append front rest) split))

cut_demanded : (ahead : Bool) (demanded : List (List Use)) (seen : List Seen) (was now : Devices) → AreSplit (runs_in (runs_of seen)) demanded → IsCutShort ahead seen was now → AreDemanded demanded was.told.done now.told.done
cut_demanded ahead demanded seen was now split cut =
    let some = cut.part.told.some in
    let a = runs_of cut.before in
    let more = some.rest ++ runs_of cut.rest in
    demanded_part demanded (runs_of seen) was.told.done now.told.done (a ++ some.front) more split
    (ap runs_of cut.all ∙ runs_append cut.before (cut.next ++ cut.rest) ∙ ap (λ xs. a ++ xs) (runs_append cut.next cut.rest ∙ ap (λ xs. xs ++ runs_of cut.rest) some.whole ∙ append_assoc some.front some.rest (runs_of cut.rest))
    ∙ sym (append_assoc a some.front more))
    (subst (TellsRuns was.told.done now.told.done) (sym (runs-append a some.front)) (tells_then was.told.done cut.between.told.done now.told.done (runs_in a) (runs_in some.front) cut.whole.told.done some.done))

front_demanded : (ahead : Bool) (demanded : List (List Use)) (o : Outcome) (was now : Devices) → AreSplit (runs_in (runs_of o.seen)) demanded → IsFront ahead o was now → AreDemanded demanded was.told.done now.told.done
front_demanded ahead demanded o was now split (in_loading front rest e is) = subst (λ (d : Devices). AreDemanded demanded was.told.done d.told.done) (sym is) ([], tells_none was.told.done, none_split demanded)
front_demanded ahead demanded o was now split (behind_loading cut) = cut_demanded ahead demanded o.seen (with_reads was o.reads) now split cut

pub runs_demanded : (status : ℕ) (o : Outcome) (demanded : List (List Use)) (was now : Devices) → AreSplit (runs_in (runs_of o.seen)) demanded → EndsAs status o was now → AreDemanded demanded was.told.done now.told.done
runs_demanded status o demanded was now split h = by (is_cut status) h
  where
    by : (b : Bool) → MatchBool b (IsFront (may_read_ahead status) o was now) ((status ≡ o.status) × IsWhole o.seen (with_reads was o.reads) now) → AreDemanded demanded was.told.done now.told.done
    by true front = front_demanded (may_read_ahead status) demanded o was now split front
    by false whole = (runs_in (runs_of o.seen), whole.1.told.done, split)
