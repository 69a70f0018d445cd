use Rattle.std.proofs.Common.{◌≡◌, ◌∙◌, List, [], ◌∷◌, ◌++◌, sym, ap, subst, refl, None, inl}
use Rattle.std.proofs.lemmas.Result.{err_from_is_err_and}
use Rattle.dx_cache.specs.Cached as kept
use Rattle.dx_cache.proofs.Drops.{part_all, find-part}
use Rattle.dx_getting.proofs.RunSteps.{same_part}
use Rattle.dx_getting.proofs.keep.keep.Goals as goal

pub returns-in_err-reserve_one-clause-stores : goal.returns-in_err-reserve_one-clause-stores
returns-in_err-reserve_one-clause-stores c = record { left = c.reserve_one.new.self.entries; part = same_part _ _ c.reserve_one.ensures.entries; more = inl refl }

pub returns-in_err-reserve_one-clause-keeps : goal.returns-in_err-reserve_one-clause-keeps
returns-in_err-reserve_one-clause-keeps c =
    let p = err_from_is_err_and c.from_residual.result c.from_residual.ensures.1 in
    rw p.1 (same_part _ _ c.reserve_one.ensures.entries)

pub store-requires-clause-absent : goal.store-requires-clause-absent
store-requires-clause-absent c = find-part c.args.tag c.drop_for.ensures.part (subst (λ xs. kept.find c.args.tag xs ≡ None) (sym c.reserve_one.ensures.entries) c.requires.absent)
