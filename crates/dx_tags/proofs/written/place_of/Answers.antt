use Rattle.std.proofs.Common.{rules}
use Rattle.std.proofs.lemmas.Fn.{always_returns_same}
use Rattle.dx_tags.specs.Files.{name_cmp}
use Rattle.dx_tags.proofs.written.place_of.Goals as goal

pub returns-clause-place : goal.returns-clause-place
returns-clause-place c = c.binary_search_by.ensures.position (λ y. name_cmp y.0 c.args.name.now) (always_returns_same _ _ _ (λ a r f k. search rules))
