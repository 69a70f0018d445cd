use Rattle.std.proofs.Common.{◌≡◌, ◌≤◌, ◌^◌, [], ◌∷◌, ℕ, List, true, length, arith, rules}
use Rattle.std.proofs.lemmas.Grind.{common_steps}
use Rattle.dx_base.specs.Array.{product, cells, grid_connections}
use Rattle.dx_base.specs.ArrayLimits.{is_grid, is_in_type}
use Rattle.dx_base.specs.declared.elem.ElemType.TheVariants.{Int}
use Rattle.dx_arrays.proofs.InType.{connections_in_type}
use Rattle.dx_arrays.proofs.array.Array.grid_connections.Goals as goal

-- the numbers of the corners are in their type, so that no range is left to refuse
in_type : (c : goal.After-of_list) → is_in_type (record { elem = Int; extents = 2 ^ length c.args.counts.items ∷ []; class = grid_connections c.args.counts.items }) ≡ true
in_type c =
    let cs : List ℕ = c.args.counts.items in
    let grid : is_grid cs ≡ true = search rules in
    let few : length cs ≤ 3 = grind (arith, common_steps, grid) in
    let items : product (cells cs) ≤ 16777216 = grind (arith, c.has_room.ensures.items, c.cell_count-items.ensures) in
    connections_in_type cs few items

pub invariant_of-result : goal.invariant_of-result
invariant_of-result c = let fits = in_type c in grind (arith, common_steps, fits)

pub returns : goal.returns
returns c = let fits = in_type c in grind (arith, common_steps, fits)
