-- What is told, run by run.
use Rattle.std.proofs.Common.{◌≡◌, ◌⊎◌, ℕ, List, [], ◌∷◌, ◌++◌, map, Option, Some, None, refl, sym, ap, ap₂, ◌∙◌, subst, append_assoc, append-nil}
use Rattle.dx_io.specs.Devices.{Grows, with_more}
use Rattle.dx_objects.specs.Runs.{Ran}
use Rattle.dx_machine.specs.Machine.{Task, runs_in, reads_in, read_by}
use Rattle.dx_getting.specs.Told.{Told, TellsRuns, Adds, AddsSome, IsNext}
use Rattle.dx_getting.specs.Steps.{ToldOf, NotBegun, WasRead, WasRun, IsTold}

pub runs-append : (ts us : List Task) → runs_in (ts ++ us) ≡ runs_in ts ++ runs_in us
runs-append [] us = refl
runs-append (t ∷ ts) us = ap (λ rs. t.run ∷ rs) (runs-append ts us)

pub reads-append : (ts us : List Task) → reads_in (ts ++ us) ≡ reads_in ts ++ reads_in us
reads-append [] us = refl
reads-append (t ∷ ts) us = ap (λ rs. read_by t.own t.run ++ rs) (reads-append ts us) ∙ sym (append_assoc (read_by t.own t.run) (reads_in ts) (reads_in us))

pub tells_none : (a : Option (List Ran)) → TellsRuns a a []
tells_none None = tt
tells_none (Some rs) = ap Some (sym (append-nil rs))

pub tells_then : (a b c : Option (List Ran)) (xs ys : List Ran) → TellsRuns a b xs → TellsRuns b c ys → TellsRuns a c (xs ++ ys)
tells_then None b c xs ys p q = tt
tells_then (Some rs) None c xs ys p q = cc
tells_then (Some rs) (Some ss) c xs ys p q =
    let same : ss ≡ rs ++ xs = cc in
    q ∙ ap Some (ap (λ zs. zs ++ ys) same ∙ append_assoc rs xs ys)

pub grows_nothing : {A : Type 0} (a : Option (List A)) → Grows a a []
grows_nothing None = refl
grows_nothing (Some xs) = ap Some (sym (append-nil xs))

pub grows_more : {A : Type 0} (a b c : Option (List A)) (xs ys : List A) → Grows a b xs → Grows b c ys → Grows a c (xs ++ ys)
grows_more None b c xs ys p q = q ∙ ap (λ o. with_more o ys) p
grows_more (Some zs) b c xs ys p q = q ∙ ap (λ o. with_more o ys) p ∙ ap Some (append_assoc zs xs ys)

pub adds_none : (base : Told) → Adds base base []
adds_none base = record { done = tells_none base.done; asked = grows_nothing base.asked }

-- one run more
pub adds_task : (base before now : Told) (tasks : List Task) (task : Task) → Adds base before tasks → IsTold task before now → Adds base now (tasks ++ task ∷ [])
adds_task base before now tasks task h t = record {
  done = subst (TellsRuns base.done now.done) (sym (runs-append tasks (task ∷ []))) (tells_then base.done before.done now.done (runs_in tasks) (task.run ∷ []) h.done t.done);
  asked = subst (Grows base.asked now.asked) (sym (reads-append tasks (task ∷ []))) (grows_more base.asked before.asked now.asked (reads_in tasks) (reads_in (task ∷ [])) h.asked t.asked);
}

-- all of these are a front of these
pub some_all : (base now : Told) (tasks more whole : List Task) → Adds base now tasks → whole ≡ tasks ++ more → AddsSome base now whole
some_all base now tasks more whole h w = record {
  front = tasks;
  rest = more;
  whole = w;
  done = h.done;
  next = [];
  is_next = tt;
  asked = subst (λ ts. Grows base.asked now.asked (reads_in ts)) (sym (append-nil tasks)) h.asked;
}

next_more : (next rest more : List Task) → IsNext next rest → IsNext next (rest ++ more)
next_more [] rest more h = tt
next_more (t ∷ []) [] more h = absurd h
next_more (t ∷ []) (u ∷ rest) more h = h
next_more (t ∷ u ∷ ts) rest more h = absurd h

pub some_later : (base now : Told) (tasks more whole : List Task) → AddsSome base now tasks → whole ≡ tasks ++ more → AddsSome base now whole
some_later base now tasks more whole h w = record {
  front = h.front;
  rest = h.rest ++ more;
  whole = w ∙ ap (λ ts. ts ++ more) h.whole ∙ append_assoc h.front h.rest more;
  done = h.done;
  next = h.next;
  is_next = next_more h.next h.rest more h.is_next;
  asked = h.asked;
}

-- a run that was cut short
pub some_cut : (base before now : Told) (tasks whole : List Task) (task : Task) → Adds base before tasks → whole ≡ tasks ++ task ∷ [] → ToldOf task before now → AddsSome base now whole
some_cut base before now tasks whole task h w (NotBegun done asked) = record {
  front = tasks;
  rest = task ∷ [];
  whole = w;
  done = subst (TellsRuns base.done now.done) (append-nil (runs_in tasks)) (tells_then base.done before.done now.done (runs_in tasks) [] h.done done);
  next = [];
  is_next = tt;
  asked = subst (Grows base.asked now.asked) (append-nil (reads_in tasks) ∙ ap reads_in (sym (append-nil tasks))) (grows_more base.asked before.asked now.asked (reads_in tasks) [] h.asked asked);
}
some_cut base before now tasks whole task h w (WasRead done asked) = record {
  front = tasks;
  rest = task ∷ [];
  whole = w;
  done = subst (TellsRuns base.done now.done) (append-nil (runs_in tasks)) (tells_then base.done before.done now.done (runs_in tasks) [] h.done done);
  next = task ∷ [];
  is_next = refl;
  asked = subst (Grows base.asked now.asked) (sym (reads-append tasks (task ∷ []))) (grows_more base.asked before.asked now.asked (reads_in tasks) (reads_in (task ∷ [])) h.asked asked);
}
some_cut base before now tasks whole task h w (WasRun done asked) =
    some_all base now (tasks ++ task ∷ []) [] whole (adds_task base before now tasks task h (record { done = done; asked = asked })) (w ∙ sym (append-nil (tasks ++ task ∷ [])))
