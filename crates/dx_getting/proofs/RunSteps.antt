-- A run that is cut short.
use Rattle.std.proofs.Common.{◌≡◌, ◌∙◌, ◌++◌, append-nil, ◌⊎◌, ℕ, List, [], ◌∷◌, Option, Some, None, inl, inr, refl, subst, sym, ap}
use Rattle.std.specs.Prelude.{Result, Ok, Err, IfOk, IfErr}
use Rattle.dx_base.specs.declared.function.Module.{Module}
use Rattle.dx_base.specs.declared.function.Module.TheVariants.{Import, Select, Extract, Replace, Mark, Unmark, Slab, Compute, Statistics, Histogram, Collect, CollectNamed, CollectSeries, Inquire}
use Rattle.dx_base.specs.Object.{Tree, array, text, field, group, composite, series}
use Rattle.dx_io.specs.Devices.{Grows}
use Rattle.dx_objects.specs.Runs.{Values, Answer, Ran, Tells}
use Rattle.dx_objects.specs.declared.run_fail.RunFail.{RunFail}
use Rattle.dx_objects.specs.declared.run_fail.RunFail.TheVariants as fail
use Rattle.dx_links.specs.Denotes.{Around, named_file, file_of}
use Rattle.dx_cache.specs.Cached.{IsPartOf}
use Rattle.dx_cache.specs.declared.entry.Entry.{Entry}
use Rattle.dx_cache.proofs.Drops.{part_all}
use Rattle.dx_machine.specs.Machine.{Task, reads_in, read_by, name_read, as_list}
use Rattle.dx_getting.specs.declared.work.Work.{Work}
use Rattle.dx_getting.specs.declared.fail.GetFail.{GetFail}
use Rattle.dx_getting.specs.declared.fail.GetFail.TheVariants.{Refused, ReadFault, Memory}
use Rattle.dx_getting.specs.Told.{Told, TellsRuns, told}
use Rattle.dx_getting.specs.Stands.{IsDevice}
use Rattle.dx_getting.specs.Steps.{RunFails, IsRunCut, KnownMore, ToldOf, NotBegun, WasRead, WasRun, IsTold, AsksFor}
use Rattle.dx_getting.proofs.TellLaws.{tells_none, grows_nothing}

-- nothing was told
pub not_run : (tag : ℕ) (task : Task) (a : Answer) (old new : Work) (before now : Told) → new.cache.entries ≡ old.cache.entries → new.known.calls ≡ old.known.calls → ToldOf task before now → IsRunCut tag task a old new before now
not_run tag task a old new before now e k t = record {
  entries = subst (λ xs. IsPartOf xs old.cache.entries) (sym e) (part_all old.cache.entries);
  known = inl k;
  told = t;
}

pub was_run : (tag : ℕ) (task : Task) (a : Answer) (old new : Work) (before now : Told) → IsPartOf new.cache.entries old.cache.entries → KnownMore tag a old.known.calls new.known.calls → IsTold task before now → IsRunCut tag task a old new before now
was_run tag task a old new before now e k t = record { entries = e; known = k; told = WasRun t.done t.asked }

pub same_part : (old new : List Entry) → new ≡ old → IsPartOf new old
same_part old new e = subst (λ xs. IsPartOf xs old) (sym e) (part_all old)

pub device_cut : (tag : ℕ) (site : List ℕ) (task : Task) (a : Answer) (f : GetFail) (old new : Work) (before now : Told) → IsDevice f → IsRunCut tag task a old new before now → RunFails tag site task a f old new before now
device_cut tag site task a (Refused t code) old new before now d h = absurd d
device_cut tag site task a ReadFault old new before now d h = h
device_cut tag site task a Memory old new before now d h = h

-- the reads of one run
pub one_read : (task : Task) → reads_in (task ∷ []) ≡ read_by task.own task.run
one_read task = append-nil (read_by task.own task.run)

-- before the file was asked for, and when that failed
pub told_same : (task : Task) (done : Option (List Ran)) (asked : Option (List (List ℕ))) → ToldOf task (told done asked) (told done asked)
told_same task done asked = NotBegun (tells_none done) (grows_nothing asked)

pub told_asked : (A : Type 0) (task : Task) (done : Option (List Ran)) (old new : Option (List (List ℕ))) (f : GetFail) → IsDevice f → AsksFor {A = A} old new (read_by task.own task.run) (Err f) → ToldOf task (told done old) (told done new)
told_asked A task done old new (Refused t code) d h = absurd d
told_asked A task done old new ReadFault d h = WasRead (tells_none done) (subst (Grows old new) (sym (one_read task)) h)
told_asked A task done old new Memory d (inl n) = NotBegun (tells_none done) n
told_asked A task done old new Memory d (inr n) = WasRead (tells_none done) (subst (Grows old new) (sym (one_read task)) n)

-- after the library answered
pub told_run : (task : Task) (before after : Option (List Ran)) (old new : Option (List (List ℕ))) (r : Result Values RunFail) → Tells before after task.run r → Grows old new (read_by task.own task.run) → IfOk r (λ _. IsTold task (told before old) (told after new))
told_run task before after old new (Err e) t g = tt
told_run task None after old new (Ok outs) t g = record { done = tt; asked = subst (Grows old new) (sym (one_read task)) g }
told_run task (Some rs) after old new (Ok outs) t g = record { done = t; asked = subst (Grows old new) (sym (one_read task)) g }

pub told_refused : (task : Task) (before after : Option (List Ran)) (old new : Option (List (List ℕ))) (code : _) → Tells before after task.run (Err (fail.Code code)) → Grows old new (read_by task.own task.run) → IsTold task (told before old) (told after new)
told_refused task None after old new code t g = record { done = tt; asked = subst (Grows old new) (sym (one_read task)) g }
told_refused task (Some rs) after old new code t g = record { done = t; asked = subst (Grows old new) (sym (one_read task)) g }

pub told_memory : (task : Task) (before after : Option (List Ran)) (old new : Option (List (List ℕ))) → Tells before after task.run (Err fail.Memory) → Grows old new (read_by task.own task.run) → ToldOf task (told before old) (told after new)
told_memory task None after old new t g = WasRead tt (subst (Grows old new) (sym (one_read task)) g)
told_memory task (Some rs) after old new (inl t) g = WasRun t (subst (Grows old new) (sym (one_read task)) g)
told_memory task (Some rs) after old new (inr t) g = WasRead (t ∙ tells_none (Some rs)) (subst (Grows old new) (sym (one_read task)) g)

-- ---- the file of a run

abbrev pub named_in : Around → Option (List ℕ) → Option (List ℕ)
named_in a None = None
named_in a (Some name) = a.file name

pub named_is : (a : Around) (m : Module) (vs : Values) → named_file a m vs ≡ named_in a (name_read m vs)
named_is a Import [] = refl
named_is a Import (None ∷ vs) = refl
named_is a Import (Some (text b xs) ∷ vs) = refl
named_is a Import (Some (array b xs) ∷ vs) = refl
named_is a Import (Some (field ps xs) ∷ vs) = refl
named_is a Import (Some (group ps xs) ∷ vs) = refl
named_is a Import (Some (composite ps xs) ∷ vs) = refl
named_is a Import (Some (series ps xs) ∷ vs) = refl
named_is a Select vs = refl
named_is a Extract vs = refl
named_is a Replace vs = refl
named_is a Mark vs = refl
named_is a Unmark vs = refl
named_is a Slab vs = refl
named_is a Compute vs = refl
named_is a Statistics vs = refl
named_is a Histogram vs = refl
named_is a Collect vs = refl
named_is a CollectNamed vs = refl
named_is a CollectSeries vs = refl
named_is a Inquire vs = refl

-- what an Import without a file of its own reads
pub file_unnamed : (a : Around) (m : Module) (vs : Values) → name_read m vs ≡ None → file_of a m vs None ≡ None
file_unnamed a m vs e = named_is a m vs ∙ ap (named_in a) e

pub file_by_name : (a : Around) (m : Module) (vs : Values) (name : List ℕ) → name_read m vs ≡ Some name → file_of a m vs None ≡ a.file name
file_by_name a m vs name e = named_is a m vs ∙ ap (named_in a) e

pub reads_none : (m : Module) (vs : Values) → name_read m vs ≡ None → read_by None (m, vs) ≡ []
reads_none m vs e = ap as_list e

pub reads_name : (m : Module) (vs : Values) (name : List ℕ) → name_read m vs ≡ Some name → read_by None (m, vs) ≡ name ∷ []
reads_name m vs name e = ap as_list e
