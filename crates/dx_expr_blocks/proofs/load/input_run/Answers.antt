use Rattle.std.proofs.Common.{◌≡◌, length, pos, replicate, slice_index_or, rules, ap, sym, subst, ◌∙◌}
use mir.Val.{SFits}
use Rattle.std.proofs.Common.{w64, to_z-of_z}
use Rattle.std.specs.Prelude.{IfOk, map}
use Rattle.dx_expr.specs.Value.{checked}
use Rattle.dx_expr_blocks.specs.Block.{up_to}
use Rattle.dx_expr_blocks.specs.Found.{IsFound}
use Rattle.dx_expr_blocks.specs.Items.{items_of}
use Rattle.dx_expr_blocks.proofs.Laws.{map_constant}
use Rattle.dx_expr_blocks.proofs.Ranges.{below_more, map_below}
use Rattle.dx_expr_blocks.proofs.load.input_run.Goals as goal

pub loaded-requires-clause-within : goal.loaded-requires-clause-within
loaded-requires-clause-within g c =
    below_more (g.I.Inputs.items c.args.inputs.now) (length c.in-Each.values.now) (items_of c.args.block) c.in-Each.ensures.0 c.requires.within

pub loaded_ints-requires-clause-within : goal.loaded_ints-requires-clause-within
loaded_ints-requires-clause-within g c =
    below_more (g.I.Inputs.items c.args.inputs.now) (length c.in-Ints.values.now) (items_of c.args.block) c.in-Ints.ensures.0 c.requires.within

pub returns-in_ok-buffer-in-Each : goal.returns-in_ok-buffer-in-Each
returns-in_ok-buffer-in-Each g c =
    let inputs = g.I.Inputs.given c.args.inputs.now in
    ap up_to (map_below (λ item. checked (inputs.value c.args.k item 0)) (λ item. checked (slice_index_or c.in-Each.values.now item (pos 0))) (g.I.Inputs.items c.args.inputs.now) (items_of c.args.block) c.requires.within (λ i h. ap checked (c.in-Each.ensures.1 i h)))
    ∙ c.loaded.ensures

pub returns-in_ok-buffer-in-Ints : goal.returns-in_ok-buffer-in-Ints
returns-in_ok-buffer-in-Ints g c =
    let inputs = g.I.Inputs.given c.args.inputs.now in
    ap up_to (map_below (λ item. checked (inputs.value c.args.k item 0)) (λ item. checked (slice_index_or c.in-Ints.values.now item (pos 0))) (g.I.Inputs.items c.args.inputs.now) (items_of c.args.block) c.requires.within (λ i h. ap checked (c.in-Ints.ensures.1 i h)))
    ∙ c.loaded_ints.ensures

pub returns-in-Same : goal.returns-in-Same
returns-in-Same g c =
    let inputs = g.I.Inputs.given c.args.inputs.now in
    let items = items_of c.args.block in
    let e : up_to (replicate c.count-n.result (checked c.in-Same.v)) ≡ up_to (map (λ item. checked (inputs.value c.args.k item 0)) items) =
    ap (λ n. up_to (replicate n (checked c.in-Same.v))) c.count-n.ensures
    ∙ ap up_to (sym (map_constant (checked c.in-Same.v) items) ∙ sym (map_below (λ item. checked (inputs.value c.args.k item 0)) (λ item. checked c.in-Same.v) (g.I.Inputs.items c.args.inputs.now) items c.requires.within (λ i h. ap checked (c.in-Same.ensures i h)))) in
    let fits : SFits w64 c.in-Same.v = search rules in
    subst (λ run. IfOk c.constant.result (λ found. IsFound run found)) (ap (λ z. up_to (replicate c.count-n.result (checked z))) (to_z-of_z fits) ∙ e) c.constant.ensures
