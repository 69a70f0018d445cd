use Rattle.std.proofs.Common.{◌≡◌, ◌∙◌, ◌⊎◌, List, [], ◌∷◌, ◌++◌, refl, inl, inr, sym, ap, subst, Option, Some, None, ℕ}
use Rattle.std.specs.Prelude.{Ok, Err}
use Rattle.std.specs.Option.{option_copied}
use Rattle.std.proofs.lemmas.Result.{err_from_is_err_and}
use Rattle.dx_cache.proofs.Drops.{part_all}
use Rattle.dx_objects.specs.Runs.{Tells}
use Rattle.dx_objects.specs.declared.run_fail.RunFail.TheVariants as fail
use Rattle.dx_getting.specs.declared.fail.GetFail.TheVariants.{Memory}
use Rattle.dx_getting.specs.Steps.{ToldOf, IsTold}
use Rattle.dx_getting.proofs.RunSteps.{not_run, was_run, same_part, device_cut, told_same, told_asked, told_run, told_refused, told_memory}
use Rattle.dx_getting.proofs.run.run_call.Goals as goal

pub returns-in_err-site-clause-stores : goal.returns-in_err-site-clause-stores
returns-in_err-site-clause-stores g c =
    record { left = c.args.work.now.cache.entries; part = part_all c.args.work.now.cache.entries; more = inl refl }

pub returns-in_err-tell-clause-stores : goal.returns-in_err-tell-clause-stores
returns-in_err-tell-clause-stores g c =
    record { left = c.args.work.now.cache.entries; part = part_all c.args.work.now.cache.entries; more = inl refl }

pub returns-in_err-read-clause-stores : goal.returns-in_err-read-clause-stores
returns-in_err-read-clause-stores g c =
    record { left = c.args.work.now.cache.entries; part = part_all c.args.work.now.cache.entries; more = inl refl }

pub returns-in-Err-Code-clause-stores : goal.returns-in-Err-Code-clause-stores
returns-in-Err-Code-clause-stores g c =
    record { left = c.args.work.now.cache.entries; part = part_all c.args.work.now.cache.entries; more = inl refl }

pub returns-in-Err-Memory-clause-stores : goal.returns-in-Err-Memory-clause-stores
returns-in-Err-Memory-clause-stores g c =
    record { left = c.args.work.now.cache.entries; part = part_all c.args.work.now.cache.entries; more = inl refl }

pub returns-in_err-learn-in-Ok-clause-stores : goal.returns-in_err-learn-in-Ok-clause-stores
returns-in_err-learn-in-Ok-clause-stores g c =
    record { left = c.args.work.now.cache.entries; part = part_all c.args.work.now.cache.entries; more = inl refl }

pub returns-in_err-site-clause-runs : goal.returns-in_err-site-clause-runs
returns-in_err-site-clause-runs g c =
    λ a content.
    let p = err_from_is_err_and c.from_residual.result c.from_residual.ensures.1 in
    rw (p.1, p.2) (not_run _ _ _ _ _ _ _ refl refl (told_same (record { run = (c.args.module, c.args.inputs.now); own = option_copied c.args.own }) (g.L.Library.done c.args.lib.now) (g.F.Files.asked c.args.files.now)))

pub returns-in_err-tell-clause-runs : goal.returns-in_err-tell-clause-runs
returns-in_err-tell-clause-runs g c =
    λ a content.
    let p = err_from_is_err_and c.from_residual-in_err-tell.result c.from_residual-in_err-tell.ensures.1 in
    rw (p.1, p.2) (not_run _ _ _ _ _ _ _ refl refl (told_same (record { run = (c.args.module, c.args.inputs.now); own = option_copied c.args.own }) (g.L.Library.done c.args.lib.now) (g.F.Files.asked c.args.files.now)))

pub returns-in_err-read-clause-runs : goal.returns-in_err-read-clause-runs
returns-in_err-read-clause-runs g c =
    λ a content.
    let p = err_from_is_err_and c.from_residual-in_err-read.result c.from_residual-in_err-read.ensures.1 in
    rw (p.1, p.2) (device_cut _ c.args.called.site (record { run = (c.args.module, c.args.inputs.now); own = option_copied c.args.own }) _ c.in_err-read.field-0.0 _ _ _ _ c.in_err-read.ensures.fails (not_run _ (record { run = (c.args.module, c.args.inputs.now); own = option_copied c.args.own }) _ _ _ _ _ refl refl (told_asked (Option (List ℕ)) (record { run = (c.args.module, c.args.inputs.now); own = option_copied c.args.own }) (g.L.Library.done c.args.lib.now) (g.F.Files.asked c.args.files.now) (g.F.Files.asked c.read_for.new.files) c.in_err-read.field-0.0 c.in_err-read.ensures.fails c.in_err-read.ensures.asks)))

pub returns-in-Err-Memory-clause-runs : goal.returns-in-Err-Memory-clause-runs
returns-in-Err-Memory-clause-runs g c =
    λ a content.
    not_run _ (record { run = (c.args.module, c.args.inputs.now); own = option_copied c.args.own }) _ _ _ _ _ refl refl (told_memory (record { run = (c.args.module, c.args.inputs.now); own = option_copied c.args.own }) (g.L.Library.done c.args.lib.now) (g.L.Library.done c.run.new.self) (g.F.Files.asked c.args.files.now) (g.F.Files.asked c.read_for.new.files) (rw c.in-Err-Memory.field-0-is at c.in-Err-Memory.ensures.done) c.in_ok-read.ensures.asks)

pub returns-in_err-learn-in-Ok-clause-runs : goal.returns-in_err-learn-in-Ok-clause-runs
returns-in_err-learn-in-Ok-clause-runs g c =
    λ a content.
    let p = err_from_is_err_and c.from_residual-in_err-learn-in-Ok.result c.from_residual-in_err-learn-in-Ok.ensures.1 in
    rw (p.1, p.2) (was_run _ (record { run = (c.args.module, c.args.inputs.now); own = option_copied c.args.own }) _ _ _ _ _ (part_all c.args.work.now.cache.entries) (inl c.in_err-learn-in-Ok.ensures.err) (told_run (record { run = (c.args.module, c.args.inputs.now); own = option_copied c.args.own }) (g.L.Library.done c.args.lib.now) (g.L.Library.done c.run.new.self) (g.F.Files.asked c.args.files.now) (g.F.Files.asked c.read_for.new.files) (Ok c.in-Ok.outs) c.in-Ok.ensures.done c.in_ok-read.ensures.asks))
