use Rattle.std.proofs.Common.{rules}
use Rattle.std.specs.Cmp.Lexicographic.{nat_list_cmp_total}
use Rattle.std.proofs.lemmas.List.Sorted.{ranks_by}
use Rattle.std.proofs.lemmas.Fn.{always_returns_same}
use Rattle.dx_object_laws.specs.Order.{name_at, rank, comes_before}
use Rattle.dx_objects.specs.Shown.{parts_of}
use Rattle.dx_objects.proofs.OrderLaws.{order_made}
use Rattle.dx_objects.proofs.order.in_order.Goals as goal

pub returns : goal.returns
returns c =
    let ps = parts_of c.args.parts.now in
    let sorted = c.sort_unstable_by.ensures.sorted (comes_before ps) (ranks_by nat_list_cmp_total (λ i. rank (name_at ps i))) (always_returns_same _ _ _ (λ a r f k. search rules)) in
    order_made c.args.parts.now c.args.places.items _ c.requires c.sort_unstable_by.ensures.permutation sorted
