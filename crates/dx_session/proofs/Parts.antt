-- What ends as an outcome, part by part.
use Rattle.std.proofs.Common.{◌≡◌, ◌⊎◌, inl, inr, ℕ, List, [], ◌∷◌, ◌++◌, Bool, true, false, ◌||◌, ◌==◌, refl, sym, ap, ◌∙◌, subst, append_assoc, append-nil}
use Rattle.std.specs.Bool.{MatchBool}
use Rattle.std.proofs.lemmas.Bool.{eqb-true}
use Rattle.dx_engine.specs.Executing.{Devices}
use Rattle.dx_engine.specs.Fronts.{AddsFront}
use Rattle.dx_engine.proofs.Fronts.{front_later}
use Rattle.dx_getting.specs.Told.{Told, TellsRuns, Adds, AddsSome, IsNext, told}
use Rattle.dx_include.specs.Loading.{Name}
use Rattle.dx_io.specs.Devices.{Grows, GrowsInto, with_more}
use Rattle.dx_io.proofs.Growing.{grows_on_into}
use Rattle.dx_getting.proofs.TellLaws.{tells_none, grows_more, reads-append}
use Rattle.dx_machine.specs.Machine.{Task, runs_in, reads_in}
use Rattle.dx_outcome.specs.Ends.{IsWhole, IsCutShort, IsFront, in_loading, behind_loading, with_reads, is_cut, may_read_ahead, EndsAs, PrintsAs, RunsAs, ReadsAs, CompletesAs}
use Rattle.dx_outcome.specs.Outcome.{Seen, Outcome, texts_of, runs_of}
use Rattle.dx_outcome.specs.Reads.{asked_behind, names_asked, AsksAs}
use Rattle.dx_session.proofs.Meaning.{front_texts, runs_append}
use Rattle.dx_sessions.proofs.Folding.{adds_front_on}

-- ---- runs and reads of a call that was cut short

cut_told : (ahead : Bool) (seen : List Seen) (was now : Devices) → IsCutShort ahead seen was now → AddsFront ahead was.told now.told (runs_of seen)
cut_told ahead seen was now cut =
    let before = runs_of cut.before in
    let next = runs_of cut.next in
    front_later ahead was.told now.told (before ++ next) (runs_of cut.rest) (runs_of seen)
    (adds_front_on ahead was.told cut.between.told now.told before next cut.whole.told cut.part.told)
    (ap runs_of cut.all ∙ runs_append cut.before (cut.next ++ cut.rest) ∙ ap (λ ts. before ++ ts) (runs_append cut.next cut.rest) ∙ sym (append_assoc before next (runs_of cut.rest)))

front_runs : (ahead : Bool) (o : Outcome) (was now : Devices) → IsFront ahead o was now → (front rest : List Task) × (runs_of o.seen ≡ front ++ rest) × TellsRuns was.told.done now.told.done (runs_in front)
front_runs ahead o was now (in_loading front rest e is) = ([], runs_of o.seen, refl, subst (λ (d : Devices). TellsRuns was.told.done d.told.done []) (sym is) (tells_none was.told.done))
front_runs ahead o was now (behind_loading cut) = let some = (cut_told ahead o.seen (with_reads was o.reads) now cut).some in (some.front, some.rest, some.whole, some.done)

-- ---- each part

abbrev Whole : ℕ → Outcome → Devices → Devices → Type 0
Whole status o was now = (status ≡ o.status) × IsWhole o.seen (with_reads was o.reads) now

pub prints_as : (status : ℕ) (o : Outcome) (was now : Devices) → EndsAs status o was now → PrintsAs status o.seen was.written now.written
prints_as status o was now h = by (is_cut status) h
  where
    by : (b : Bool) → MatchBool b (IsFront (may_read_ahead status) o was now) (Whole status o was now) → MatchBool b (GrowsInto was.written now.written (texts_of o.seen)) (Grows was.written now.written (texts_of o.seen))
    by true front = front_texts (may_read_ahead status) o was now front
    by false whole = whole.1.printed

pub runs_as : (status : ℕ) (o : Outcome) (was now : Devices) → EndsAs status o was now → RunsAs status o.seen was.told.done now.told.done
runs_as status o was now h = by (is_cut status) h
  where
    by : (b : Bool) → MatchBool b (IsFront (may_read_ahead status) o was now) (Whole status o was now)
        → MatchBool b ((front rest : List Task) × (runs_of o.seen ≡ front ++ rest) × TellsRuns was.told.done now.told.done (runs_in front)) (TellsRuns was.told.done now.told.done (runs_in (runs_of o.seen)))
    by true front = front_runs (may_read_ahead status) o was now front
    by false whole = whole.1.told.done

pub reads_as : (status : ℕ) (o : Outcome) (was now : Devices) → EndsAs status o was now → ReadsAs status o was.told now.told
reads_as status o was now h = by (is_cut status) h
  where
    by : (b : Bool) → MatchBool b (IsFront (may_read_ahead status) o was now) (Whole status o was now)
        → MatchBool b (((front rest : List Name) × (o.reads ≡ front ++ rest) × (now.told ≡ (with_reads was front).told)) ⊎ AddsFront (may_read_ahead status) (with_reads was o.reads).told now.told (runs_of o.seen))
        (Adds (with_reads was o.reads).told now.told (runs_of o.seen))
    by true (in_loading front rest e is) = inl (front, rest, e, ap (λ (d : Devices). d.told) is)
    by true (behind_loading cut) = inr (cut_told (may_read_ahead status) o.seen (with_reads was o.reads) now cut)
    by false whole = whole.1.told

-- ---- the files asked for

-- the next run is the first of the rest
next_first : (front next rest : List Task) → IsNext next rest → (more : List Task) × (front ++ rest ≡ (front ++ next) ++ more)
next_first front [] rest h = (rest, ap (λ ts. ts ++ rest) (sym (append-nil front)))
next_first front (t ∷ []) [] h = absurd h
next_first front (t ∷ []) (u ∷ rest) h = (rest, ap (λ (v : Task). front ++ v ∷ rest) (sym h) ∙ sym (append_assoc front (t ∷ []) rest))
next_first front (t ∷ u ∷ ts) rest h = absurd h

-- with the name that may be read ahead, what is read is a front of what all read
some_asked : (base now : Told) (tasks : List Task) → AddsSome base now tasks → GrowsInto base.asked now.asked (reads_in tasks)
some_asked base now tasks h =
    let first = next_first h.front h.next h.rest h.is_next in
    (reads_in (h.front ++ h.next), reads_in first.0, ap reads_in (h.whole ∙ first.1) ∙ reads-append (h.front ++ h.next) first.0, h.asked)

pub asks_as : (status : ℕ) (o : Outcome) (was now : Told) → reads_in (runs_of o.seen) ≡ asked_behind [] o.seen → ReadsAs status o was now → AsksAs status o was.asked now.asked
asks_as status o was now e h = by (is_cut status) h
  where
    by : (b : Bool) → MatchBool b (((front rest : List Name) × (o.reads ≡ front ++ rest) × (now ≡ told was.done (with_more was.asked front))) ⊎ AddsFront (may_read_ahead status) (told was.done (with_more was.asked o.reads)) now (runs_of o.seen)) (Adds (told was.done (with_more was.asked o.reads)) now (runs_of o.seen))
        → MatchBool b (GrowsInto was.asked now.asked (names_asked o)) (Grows was.asked now.asked (names_asked o))
    by true (inl (front, rest, all, is)) =
        (front, rest ++ asked_behind [] o.seen, ap (λ ns. ns ++ asked_behind [] o.seen) all ∙ append_assoc front rest (asked_behind [] o.seen), ap (λ (t : Told). t.asked) is)
    by true (inr some) =
        grows_on_into was.asked (with_more was.asked o.reads) now.asked o.reads (asked_behind [] o.seen) refl
        (subst (GrowsInto (with_more was.asked o.reads) now.asked) e (some_asked (told was.done (with_more was.asked o.reads)) now (runs_of o.seen) some.some))
    by false whole =
        subst (λ ns. Grows was.asked now.asked (o.reads ++ ns)) e
        (grows_more was.asked (with_more was.asked o.reads) now.asked o.reads (reads_in (runs_of o.seen)) refl whole.asked)

-- ---- where no device failed

either : (a b : Bool) → a || b ≡ true → (a ≡ true) ⊎ (b ≡ true)
either true b h = inl refl
either false b h = inr h

-- a cut that no device caused
memory_alone : (status : ℕ) → is_cut status ≡ true → (status ≡ 4 → ⊥) → (status ≡ 5 → ⊥) → (status ≡ 6 → ⊥) → status ≡ 7
memory_alone status cut no_read no_write no_put = last (either ((status == 4) || (status == 5) || (status == 6)) (status == 7) cut)
  where
    one : (status == 4) ≡ true ⊎ (status == 5) ≡ true → ⊥
    one (inl is) = no_read (eqb-true status 4 is)
    one (inr is) = no_write (eqb-true status 5 is)

    two : ((status == 4) || (status == 5)) ≡ true ⊎ (status == 6) ≡ true → ⊥
    two (inl is) = one (either (status == 4) (status == 5) is)
    two (inr is) = no_put (eqb-true status 6 is)

    last : ((status == 4) || (status == 5) || (status == 6)) ≡ true ⊎ (status == 7) ≡ true → status ≡ 7
    last (inl is) = absurd (two (either ((status == 4) || (status == 5)) (status == 6) is))
    last (inr is) = eqb-true status 7 is

pub completes_as : (status : ℕ) (o : Outcome) (was now : Devices) → (status ≡ 4 → ⊥) → (status ≡ 5 → ⊥) → (status ≡ 6 → ⊥) → EndsAs status o was now → CompletesAs status o was now
completes_as status o was now no_read no_write no_put h = by (is_cut status) refl h
  where
    by : (b : Bool) → is_cut status ≡ b → MatchBool b (IsFront (may_read_ahead status) o was now) (Whole status o was now) → CompletesAs status o was now
    by true cut front = inl (memory_alone status cut no_read no_write no_put)
    by false cut whole = inr whole
