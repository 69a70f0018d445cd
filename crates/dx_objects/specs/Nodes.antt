-- A size of trees by which each part is smaller than its whole.
use Rattle.std.specs.Prelude.{ℕ, ◌+◌, suc}
use Rattle.dx_base.specs.Object.{Tree, PartList, array, text, field, group, composite, series, no_parts, part}

abbrev mutual
  pub nodes : Tree → ℕ
  nodes (array a xs) = suc (all_nodes xs)
  nodes (text b xs) = suc (all_nodes xs)
  nodes (field ps xs) = suc (all_nodes ps + all_nodes xs)
  nodes (group ps xs) = suc (all_nodes ps + all_nodes xs)
  nodes (composite ps xs) = suc (all_nodes ps + all_nodes xs)
  nodes (series ps xs) = suc (all_nodes ps + all_nodes xs)

  pub all_nodes : PartList → ℕ
  all_nodes no_parts = 0
  all_nodes (part n p t ps) = suc (nodes t + all_nodes ps)
