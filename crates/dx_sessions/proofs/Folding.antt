-- What is shown one behind the other, on the devices.
use Rattle.std.proofs.Common.{◌≡◌, ◌≤◌, length, List, [], ◌∷◌, ◌++◌, Bool, true, false, ◌||◌, refl, sym, ap, subst, ◌∙◌, append_assoc, arith}
use Rattle.dx_io.specs.Devices.{Grows}
use Rattle.dx_io.proofs.Growing.{grows_by_nothing, grows_on}
use Rattle.dx_machine.specs.Machine.{Task, runs_in, reads_in, tasks_of}
use Rattle.dx_getting.specs.Told.{Told, TellsRuns, Adds}
use Rattle.dx_getting.proofs.TellLaws.{runs-append, reads-append, tells_then, grows_more, adds_none}
use Rattle.dx_engine.specs.Executing.{Devices}
use Rattle.dx_engine.specs.Fronts.{AddsFront}
use Rattle.dx_engine.proofs.Fronts.{front_all}
use Rattle.dx_shown.specs.Made.{Coursed}
use Rattle.dx_shown.specs.Session.{Shown, Executes, PlayTooLong, FrameRange}
use Rattle.dx_shown.specs.Listed.{of_executions, all_exports, all_tasks, is_error, any_error}
use Rattle.dx_telling.specs.Shown.{shown_texts}
use Rattle.dx_telling.specs.declared.listings.Listings.{Listings}
use Rattle.dx_telling.proofs.Texts.{texts_of_append}
use Rattle.dx_sessions.specs.Does.{IsWhole, IsFront, IsCutShort}

-- ---- lists of what was shown

pub executions_append : {A : Type 0} (f : Coursed → List A) (a b : List (Shown Coursed)) → of_executions f (a ++ b) ≡ of_executions f a ++ of_executions f b
executions_append f [] b = refl
executions_append f (Executes c ∷ rest) b = ap (λ xs. f c ++ xs) (executions_append f rest b) ∙ sym (append_assoc (f c) (of_executions f rest) (of_executions f b))
executions_append f (PlayTooLong ∷ rest) b = executions_append f rest b
executions_append f (FrameRange ∷ rest) b = executions_append f rest b

or_assoc : (a b c : Bool) → (a || b) || c ≡ a || (b || c)
or_assoc true b c = refl
or_assoc false b c = refl

pub errors_append : (a b : List (Shown Coursed)) → any_error (a ++ b) ≡ any_error a || any_error b
errors_append [] b = refl
errors_append (s ∷ rest) b = ap (λ e. is_error s || e) (errors_append rest b) ∙ sym (or_assoc (is_error s) (any_error rest) (any_error b))

-- ---- runs that are told

pub adds_on : (base mid now : Told) (a b : List Task) → Adds base mid a → Adds mid now b → Adds base now (a ++ b)
adds_on base mid now a b first second = record {
  done = subst (TellsRuns base.done now.done) (sym (runs-append a b)) (tells_then base.done mid.done now.done (runs_in a) (runs_in b) first.done second.done);
  asked = subst (Grows base.asked now.asked) (sym (reads-append a b)) (grows_more base.asked mid.asked now.asked (reads_in a) (reads_in b) first.asked second.asked);
}

pub adds_front_on : (ahead : Bool) (base mid now : Told) (a b : List Task) → Adds base mid a → AddsFront ahead mid now b → AddsFront ahead base now (a ++ b)
adds_front_on ahead base mid now a b first second =
    let later = second.some in
    record {
      some = record {
        front = a ++ later.front;
        rest = later.rest;
        whole = ap (λ xs. a ++ xs) later.whole ∙ sym (append_assoc a later.front later.rest);
        done = subst (TellsRuns base.done now.done) (sym (runs-append a later.front)) (tells_then base.done mid.done now.done (runs_in a) (runs_in later.front) first.done later.done);
        next = later.next;
        is_next = later.is_next;
        asked = subst (λ ts. Grows base.asked now.asked (reads_in ts)) (sym (append_assoc a later.front later.next))
            (subst (Grows base.asked now.asked) (sym (reads-append a (later.front ++ later.next)))
            (grows_more base.asked mid.asked now.asked (reads_in a) (reads_in (later.front ++ later.next)) first.asked later.asked));
      };
      no_name = λ e. second.no_name e;
    }

-- ---- all of it

pub none_whole : (l : Listings) (was : Devices) → IsWhole l [] was was
none_whole l was = record { printed = grows_by_nothing was.written; puts = grows_by_nothing was.puts; told = adds_none was.told }

pub whole_on : (l : Listings) (a b : List (Shown Coursed)) (was mid now : Devices) → IsWhole l a was mid → IsWhole l b mid now → IsWhole l (a ++ b) was now
whole_on l a b was mid now first second = record {
  printed = subst (Grows was.written now.written) (sym (texts_of_append l a b)) (grows_on was.written mid.written now.written (shown_texts l a) (shown_texts l b) first.printed second.printed);
  puts = subst (Grows was.puts now.puts) (sym (executions_append (λ (c : Coursed). c.execution.exports) a b)) (grows_on was.puts mid.puts now.puts (all_exports a) (all_exports b) first.puts second.puts);
  told = subst (Adds was.told now.told) (sym (executions_append (λ (c : Coursed). tasks_of c.events) a b)) (adds_on was.told mid.told now.told (all_tasks a) (all_tasks b) first.told second.told);
}

-- ---- as much as was done before it was cut short

pub front_of_none : (ahead : Bool) (l : Listings) (was : Devices) → IsFront ahead l [] was was
front_of_none ahead l was = record {
  printed = ([], [], refl, grows_by_nothing was.written);
  puts = ([], [], refl, grows_by_nothing was.puts);
  told = front_all ahead was.told was.told [] [] [] (adds_none was.told) refl;
}

pub none_is_few : length {A = Shown Coursed} [] ≤ 1
none_is_few = omega arith

-- nothing was done
abbrev pub cut_at_once : (ahead : Bool) (l : Listings) (shown : List (Shown Coursed)) (was : Devices) → IsCutShort ahead l shown was was
cut_at_once ahead l shown was = record {
  before = [];
  next = [];
  rest = shown;
  all = refl;
  few = none_is_few;
  between = was;
  whole = none_whole l was;
  front = front_of_none ahead l was;
}

pub one_is_few : (s : Shown Coursed) → length (s ∷ []) ≤ 1
one_is_few s = omega arith

abbrev pub cut_in_one : (ahead : Bool) (l : Listings) (s : Shown Coursed) (was now : Devices) → IsFront ahead l (s ∷ []) was now → IsCutShort ahead l (s ∷ []) was now
cut_in_one ahead l s was now front = record {
  before = [];
  next = s ∷ [];
  rest = [];
  all = refl;
  few = one_is_few s;
  between = was;
  whole = none_whole l was;
  front = front;
}

abbrev pub cut_later : (ahead : Bool) (l : Listings) (a b : List (Shown Coursed)) (was mid now : Devices) → IsWhole l a was mid → IsCutShort ahead l b mid now → IsCutShort ahead l (a ++ b) was now
cut_later ahead l a b was mid now first second = record {
  before = a ++ second.before;
  next = second.next;
  rest = second.rest;
  all = ap (λ xs. a ++ xs) second.all ∙ sym (append_assoc a second.before (second.next ++ second.rest));
  few = second.few;
  between = second.between;
  whole = whole_on l a second.before was mid second.between first second.whole;
  front = second.front;
}

abbrev pub cut_with_more : (ahead : Bool) (l : Listings) (a b : List (Shown Coursed)) (was now : Devices) → IsCutShort ahead l a was now → IsCutShort ahead l (a ++ b) was now
cut_with_more ahead l a b was now cut = record {
  before = cut.before;
  next = cut.next;
  rest = cut.rest ++ b;
  all = ap (λ xs. xs ++ b) cut.all ∙ append_assoc cut.before (cut.next ++ cut.rest) b ∙ ap (λ xs. cut.before ++ xs) (append_assoc cut.next cut.rest b);
  few = cut.few;
  between = cut.between;
  whole = cut.whole;
  front = cut.front;
}
